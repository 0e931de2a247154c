-- Checks 30 and 31: lengths that pass, and what is left of them.
use mathlib.Core.Path.{◌≡◌, ap, ◌∙◌}
use mathlib.Core.Bool.{not}
use Prim.Native.Nat.{ℕ, ◌*◌, ◌%◌}
use lib.Dec.{eqb}
use borrow.Author.Tests.{eqb-true, eq-eqb, not-false}
use Rattle.paper.specs.Faults.{sound, single}
use Rattle.mesh.proofs.Verdicts.{or_else_sound, single_miss, sound_left, sound_right, single_sound}
use Rattle.paper.specs.Archive.{fault30, fault31, archive_verdict}

module _ (n m : ℕ) where
  pub passes : n % 3 ≡ 0 → m ≡ 4 * n → archive_verdict n m ≡ sound
  unfolding archive_verdict fault30 fault31
  passes a b = or_else_sound _ (single_miss 30 n (ap not (eq-eqb (n % 3) 0 a))) ∙ single_miss 31 m (ap not (eq-eqb m (4 * n) b))

  pub thirds : archive_verdict n m ≡ sound → n % 3 ≡ 0
  unfolding archive_verdict fault30
  thirds e = eqb-true (n % 3) 0 (not-false (eqb (n % 3) 0) (single_sound 30 _ n (sound_left (single 30 (fault30 n) n) _ e)))

  pub four_times : archive_verdict n m ≡ sound → m ≡ 4 * n
  unfolding archive_verdict fault31
  four_times e = eqb-true m (4 * n) (not-false (eqb m (4 * n)) (single_sound 31 _ m (sound_right (single 30 (fault30 n) n) _ e)))
