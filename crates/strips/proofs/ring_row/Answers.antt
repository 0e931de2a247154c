-- `ring_row` meets its contract.
use Prim.Native.Nat.{◌*◌, ◌≤◌}
use mathlib.Core.Logic.{inl, inr}
use native.Mathlib.Omega.{arith}
use mathlib.Core.Path.{refl}
use Rattle.strips.proofs.Rowed.{ring_wraps, ring_numbers, times_few}
use Rattle.strips.proofs.ring_row.Goals as goal
use Rattle.strips.proofs.ring_row.Goals.{Start, then-side-lt3, else-side-lt3}

few : (s : Start) → s.args.side * s.args.w ≤ 64 * 64
few s = times_few s.args.side s.args.w (omega arith) (omega arith)

pub returns : goal.returns
returns c =
    let s = c.args in
    let t = few (search) in
    let z = ring_wraps s.start s.side s.w c.if-side-lt3.last (omega arith)
    (elim c.if-side-lt3.branch [ then-side-lt3 w ↦ inl (w.if-side-lt3.true, w.last-is) | else-side-lt3 w ↦ inr (w.if-side-lt3.false, w.last-is) ]) in (
      record { parts = omega arith; base = omega arith },
      refl,
      ring_numbers s.start (s.side * s.w) s.w c.if-side-lt3.last z.0 z.1 z.2,
    )
