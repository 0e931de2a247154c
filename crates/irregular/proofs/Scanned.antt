-- A search that stops at what it finds answers the lowest number that passes.
use mathlib.Core.Path.{◌≡◌}
use mathlib.Core.Bool.{Bool, true, false}
use mathlib.Core.List.{List}
use Prim.Native.Nat.{ℕ, ◌<◌, ◌≤◌}
use native.Mathlib.Omega.{arith}
use lib.ListN.{length, get_or}
use borrow.Author.Tests.{lt-ltb, le-ltb}
use Rattle.std.specs.Prelude.{Option, Some, None, MatchOption}
use Rattle.std.specs.List.{position, position_or_len}
use Rattle.std.proofs.lemmas.List.Sums.{fails_before_first, passes_at_first}
use Rattle.mesh.proofs.ByCases.{by_less}
use Rattle.mesh.proofs.Scans.{first_at, some_true, some_false}
use Rattle.irregular.specs.Found.{lowest_if}

pub found_lowest : (n : ℕ) (f : ℕ → Bool) (Yes No : ℕ → Type 0) → ((k : ℕ) → Yes k → f k ≡ true) → ((k : ℕ) → No k → f k ≡ false) → (r : Option ℕ)
    → MatchOption r ((k : ℕ) → 0 ≤ k → k < n → No k) (λ i. (0 ≤ i) × (i < n) × Yes i × ((k : ℕ) → 0 ≤ k → k < i → No k)) → r ≡ lowest_if n f
found_lowest n f Yes No hit miss None h = rw (some_false n f (λ k l. miss k (h k (omega arith) l)))
found_lowest n f Yes No hit miss (Some i) h =
    let here = hit i h.2 in
    rw (some_true n f i h.1 here, first_at n f i h.1 here (λ k l. miss k (h.3 k (omega arith) l)))

pub position_lowest : {X : Type 0} (test : X → Bool) (xs : List X) (d : X) → position test xs ≡ lowest_if (length xs) (λ i. test (get_or xs i d))
position_lowest test xs d =
    let at = position_or_len test xs in
    let f : ℕ → Bool = λ i. test (get_or xs i d) in
    let before : (j : ℕ) → j < at → f j ≡ false = λ j h. fails_before_first test xs j d h in
    by_less at (length xs)
    (λ h. rw (lt-ltb at (length xs) h, some_true (length xs) f at h (passes_at_first test xs d h), first_at (length xs) f at h (passes_at_first test xs d h) before))
    (λ h. rw (le-ltb at (length xs) h, some_false (length xs) f (λ j l. before j (omega arith))))
