-- The values of a function as a list, and a list that is filled from the front, value by value.
use mathlib.Core.Path.{◌≡◌, refl, ap, ◌∙◌}
use mathlib.Core.List.{List, [], ◌∷◌, ◌++◌, append-nil}
use Prim.Native.Nat.{ℕ, zero, suc, ◌+◌, ◌<◌}
use native.Mathlib.Numerals.{add-one}
use native.Mathlib.Omega.{arith}
use lib.ListN.{length, get_or, drop, set, replicate}
use lib.Seq.{drop-cons, drop-length, set_at, append_snoc}
use Rattle.paper.specs.Scan.{values_from}
use Rattle.paper.specs.File.{begins}
use Rattle.mesh.proofs.Links.{values_length}

zero_add : (n : ℕ) → 0 + n ≡ n
zero_add n = omega arith

pub values_snoc : {A : Type 0} (f : ℕ → A) (at left : ℕ) → values_from f at (suc left) ≡ values_from f at left ++ (f (at + left) ∷ [])
unfolding values_from
values_snoc f at zero = rw (let z : at + 0 ≡ at = omega arith in z)
values_snoc f at (suc left) = ap (λ l. f at ∷ l) (values_snoc f (suc at) left ∙ ap (λ (k : ℕ). values_from f (suc at) left ++ (f k ∷ [])) (omega arith))

pub values_same : {A : Type 0} (f g : ℕ → A) (at n : ℕ) → ((k : ℕ) → f k ≡ g k) → values_from f at n ≡ values_from g at n
unfolding values_from
values_same f g at zero h = refl
values_same f g at (suc n) h = rw (h at, values_same f g (suc at) n h)

pub values_all : {A : Type 0} (f : ℕ → A) (x : A) (at n : ℕ) → ((k : ℕ) → f k ≡ x) → values_from f at n ≡ replicate n x
unfolding values_from
values_all f x at zero h = refl
values_all f x at (suc n) h = rw (h at, values_all f x (suc at) n h)

-- one store of a fill from the front
module _ {A : Type 0} (f : ℕ → A) (old : List A) where
  abbrev pub Filled : ℕ → List A → Type 0
  Filled i out = out ≡ values_from f 0 i ++ drop i old

  pub filled_none : Filled 0 old
  unfolding values_from
  filled_none = refl

  pub filled_step : (i : ℕ) (out : List A) (x d : A) → i < length old → Filled i out → x ≡ f i → Filled (i + 1) (set out i x)
  filled_step i out x d h e q =
      rw (e, q, add-one, drop-cons old i d h, values_snoc f 0 i, zero_add i, append_snoc)
      (set_at (values_from f 0 i) (get_or old i d) (drop (suc i) old) (f i) i (values_length f 0 i))

  pub filled_all : (i n : ℕ) (out : List A) → i ≡ n → Filled i out → out ≡ begins (values_from f 0 n) old
  filled_all i n out q e = rw (values_length f 0 n, ← q) e

  -- a list that is filled whole
  pub filled_whole : (out : List A) (i : ℕ) → i ≡ length old → Filled i out → out ≡ values_from f 0 (length old)
  filled_whole out i q e = rw (q, drop-length old, append-nil) at e
