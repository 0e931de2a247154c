-- What stands in a list after a store.
use mathlib.Core.Path.{◌≡◌, sym, subst}
use mathlib.Core.List.{List}
use Prim.Native.Nat.{ℕ, ◌<◌}
use lib.ListN.{length, get_or, set}
use lib.Seq.{get_or-set_same, get_or-set_other}
use Rattle.mesh.proofs.ByCases.{by_equal}

pub put : (P : ℕ → Type 0) (table : List ℕ) (i j x : ℕ) → i < length table → (j ≡ i → P x) → ((j ≡ i → ⊥) → P (get_or table j 0))
    → P (get_or (set table i x) j 0)
put P table i j x h same other =
    by_equal j i (λ q. rw q (rw (get_or-set_same table i x 0 h) (same q))) (λ n. subst P (sym (get_or-set_other table i j x 0 n)) (other n))
