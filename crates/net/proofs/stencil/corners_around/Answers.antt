-- `net::stencil::corners_around` meets its contract: each step leads where the corners' own step does, and every corner on the way has its row.
use Prim.Native.Nat.{◌<◌}
use native.Mathlib.Omega.{arith}
use Rattle.net.proofs.stencil.corners_around.Goals as goal
use Rattle.net.proofs.stencil.corners_around.Goals.{After-previous-previous, Start}

pub previous-far-requires : goal.previous-far-requires
previous-far-requires c =
    let s = c in
    let link : c.linked-link.result.corner < s.args.count = rw c.linked-link.ensures.read (s.requires.sound.link_in _ s.requires.here) in
    omega (arith, s.requires.table_long)

pub linked-opposite-requires : goal.linked-opposite-requires
linked-opposite-requires c =
    let s = c in
    let previous : c.previous-previous.result.corner < s.args.count = rw c.previous-previous.ensures.read (s.requires.sound.previous_in _ s.requires.here) in
    omega (arith, s.requires.table_long)

pub previous-across-requires : goal.previous-across-requires
previous-across-requires c =
    let s = c in
    let p = c in
    let previous : p.previous-previous.result.corner < s.args.count = rw p.previous-previous.ensures.read (s.requires.sound.previous_in _ s.requires.here) in
    let opposite : c.linked-opposite.result.corner < s.args.count = rw c.linked-opposite.ensures.read (s.requires.sound.link_in _ previous) in
    omega (arith, s.requires.table_long)

pub returns : goal.returns
returns c = cc
