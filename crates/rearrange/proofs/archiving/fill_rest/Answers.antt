-- Before each turn every plane holds the numbers below i.
use Prim.Native.Nat.{ℕ, ◌-◌, ◌%◌, ◌<◌, ◌≤◌}
use native.Mathlib.Nat.{div-add-mod, mod-lt}
use native.Mathlib.Omega.{arith}
use lib.ListN.{length}
use Rattle.rearrange.proofs.archiving.Planes.{planed_all}
use Rattle.rearrange.proofs.archiving.fill_rest.Goals as goal

few : (n : ℕ) → ((n - 3) % 4 ≤ n - 3) × ((n - 3) % 4 < 4)
few n = (omega (arith, div-add-mod (n - 3) 4), mod-lt (n - 3) {m = 4} (omega arith))

pub loop-i-init : goal.loop-i-init
loop-i-init c = c.requires.1

pub put_next-requires : goal.put_next-requires
put_next-requires c =
    let r = few (length c.args.numbers.now) in
    (omega (arith, c.requires.0, r), omega (arith, c.requires.0, r), c.loop-i.invariant)

pub loop-i-preserved : goal.loop-i-preserved
loop-i-preserved c = c.put_next.ensures

pub returns : goal.returns
returns c =
    let l = c.loop-i in
    planed_all c.args.numbers.now l.i l.bytes (omega (arith, c.requires.0, few (length c.args.numbers.now))) l.invariant
