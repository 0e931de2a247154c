-- Checks 30 and 31, from the tests of the code; and what a call then answers and holds.
use mathlib.Core.Path.{◌≡◌, refl, sym, ap, ◌∙◌}
use mathlib.Core.Bool.{not}
use mathlib.Core.List.{List}
use Prim.Native.Nat.{ℕ, ◌*◌, ◌/◌, ◌%◌}
use native.Mathlib.Nat.{div-add-mod, mod-lt}
use native.Mathlib.Omega.{arith}
use borrow.Author.Tests.{eq-eqb, ne_eqb}
use lib.ListN.{length}
use lib.IntN.{ℤ}
use Rattle.std.specs.Prelude.{Err}
use Rattle.paper.specs.declared.Refusal.{Refusal}
use Rattle.paper.specs.Faults.{sound, fault, done}
use Rattle.mesh.proofs.Verdicts.{or_else_fault, or_else_sound, single_hit, single_miss}
use Rattle.paper.specs.Archive.{fault30, fault31, archive_verdict, archived, restored, Archived, Restored}

module _ (n m : ℕ) where
  pub refused30 : (n % 3 ≡ 0 → ⊥) → archive_verdict n m ≡ fault 30 n
  unfolding archive_verdict fault30
  refused30 t = or_else_fault 30 n _ (single_hit 30 n (ap not (ne_eqb (n % 3) 0 t)))

  pub refused31 : n % 3 ≡ 0 → (m ≡ 4 * n → ⊥) → archive_verdict n m ≡ fault 31 m
  unfolding archive_verdict fault30 fault31
  refused31 f t = or_else_sound _ (single_miss 30 n (ap not (eq-eqb (n % 3) 0 f))) ∙ single_hit 31 m (ap not (ne_eqb m (4 * n) t))

  -- four times as long: a multiple of four whose quarter is the other length
  pub rest_four : m ≡ 4 * n → m % 4 ≡ 0
  rest_four e = omega (arith, div-add-mod m 4, mod-lt m {m = 4} (omega arith))

  pub quarter_four : m ≡ 4 * n → m / 4 ≡ n
  quarter_four e = omega (arith, div-add-mod m 4, mod-lt m {m = 4} (omega arith))

  pub from_quarter : m % 4 ≡ 0 → m / 4 ≡ n → m ≡ 4 * n
  from_quarter a b = omega (arith, div-add-mod m 4)

-- ---- the calls
module _ (numbers : List ℤ) (old : List ℕ) where
  pub archive_refused : (x : Refusal) → fault x.number x.place ≡ archive_verdict (length numbers) (length old) → Archived numbers old (Err x) old
  archive_refused x e = record { answers = e; holds = refl }

  pub archive_done : (out : List ℕ) → archive_verdict (length numbers) (length old) ≡ sound → out ≡ archived numbers → Archived numbers old done out
  archive_done out e h = record { answers = sym e; holds = h }

module _ (bytes : List ℕ) (old : List ℤ) where
  pub restore_refused : (x : Refusal) → fault x.number x.place ≡ archive_verdict (length old) (length bytes) → Restored bytes old (Err x) old
  restore_refused x e = record { answers = e; holds = refl }

  pub restore_done : (out : List ℤ) → archive_verdict (length old) (length bytes) ≡ sound → out ≡ restored bytes (length old) → Restored bytes old done out
  restore_done out e h = record { answers = sym e; holds = h }
