-- The list of a quad-net's numbers: 123 numbers within ±2^27 pass 18 and 19.
use mathlib.Core.Path.{◌≡◌, ap, ◌∙◌}
use mathlib.Core.Bool.{false, not}
use mathlib.Core.List.{List}
use Prim.Native.Nat.{ℕ, ◌^◌, ◌≤◌, ◌<◌}
use native.Mathlib.Omega.{arith}
use borrow.Author.Tests.{eq-eqb, le-leb}
use lib.IntN.{ℤ, pos, nat_abs}
use lib.ListN.{length, get_or}
use Rattle.paper.specs.Faults.{sound}
use Rattle.paper.specs.Calls.{per_corner}
use Rattle.paper.specs.Floats.{fault18, fault19, net_verdict}
use Rattle.mesh.proofs.Verdicts.{or_else_sound, single_miss, lowest_none}

right_length : (n : ℕ) → n ≡ per_corner → fault18 n ≡ false
unfolding fault18
right_length n e = ap not (eq-eqb n per_corner e)

right_number : (numbers : List ℤ) (j : ℕ) → nat_abs (get_or numbers j (pos 0)) ≤ 2 ^ 27 → fault19 numbers j ≡ false
unfolding fault19
right_number numbers j h = ap not (le-leb (nat_abs (get_or numbers j (pos 0))) (2 ^ 27) h)

pub passes : (numbers : List ℤ) → length numbers ≡ per_corner → ((j : ℕ) → j < per_corner → nat_abs (get_or numbers j (pos 0)) ≤ 2 ^ 27)
    → net_verdict numbers ≡ sound
unfolding net_verdict
passes numbers e h =
    or_else_sound _ (single_miss 18 (length numbers) (right_length (length numbers) e))
    ∙ lowest_none 19 (length numbers) (fault19 numbers) (λ j l. right_number numbers j (h j (omega (arith, e))))
