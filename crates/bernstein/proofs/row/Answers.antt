-- `bernstein::row` meets its contract: the numbers keep their bits.
use Prim.Native.Nat.{◌^◌}
use lib.Dec.{lit≤}
use mir.Facts.{to_z-of_z}
use Rattle.bernstein.specs.Sums.{firsts_of}
use Rattle.bernstein.proofs.Laws.{fits}
use Rattle.bernstein.proofs.row.Goals as goal

pub returns : goal.returns
unfolding firsts_of
returns c =
    let k0 = fits c.args.s.r0 (2 ^ 60) c.requires.0 (lit≤ tt) in
    let k1 = fits c.args.s.r1 (2 ^ 60) c.requires.1 (lit≤ tt) in
    let k2 = fits c.args.s.r2 (2 ^ 60) c.requires.2 (lit≤ tt) in
    let k3 = fits c.args.s.r3 (2 ^ 60) c.requires.3 (lit≤ tt) in
    let k4 = fits c.args.s.r4 (2 ^ 60) c.requires.4 (lit≤ tt) in
    simp (to_z-of_z, k0.0, k1.0, k2.0, k3.0, k4.0)
