-- A page's lists: values in a row, the numbers of the lines, and four misses.
use mathlib.Core.Path.{◌≡◌, refl, sym, ap, subst, ◌∙◌}
use mathlib.Core.List.{List}
use Prim.Native.Nat.{ℕ, zero, suc, ◌+◌, ◌<◌}
use native.Mathlib.Omega.{arith}
use lib.ListN.{length, get_or}
use lib.Seq.{ext_get_or}
use Rattle.std.specs.Array.{IsFromFnResultFrom, IsFromFnResult}
use Rattle.std.specs.Fn.{Called}
use denote.Param.Members.{Mut}
use Rattle.paper.specs.Scan.{pick_n, values_from}
use Rattle.std.specs.Int.{from_bool}
use mathlib.Core.Bool.{Bool, true, false}
use Rattle.mesh.proofs.Links.{values_length, values_at}
use Rattle.paper.specs.Report.{page_with}

-- values in a row
pub value_at_lem : (f : ℕ → ℕ) (n i : ℕ) → i < n → get_or (values_from f 0 n) i 0 ≡ f i
value_at_lem f n i h = values_at f 0 0 n i h ∙ ap f (let q : 0 + i ≡ i = omega arith in q)

pub values_equal : (f g : ℕ → ℕ) (n : ℕ) → ((i : ℕ) → i < n → f i ≡ g i) → values_from f 0 n ≡ values_from g 0 n
values_equal f g n h =
    ext_get_or 0 (values_from f 0 n) (values_from g 0 n) (values_length f 0 n ∙ sym (values_length g 0 n))
    (λ i l. let b : i < n = omega (arith, values_length f 0 n) in value_at_lem f n i b ∙ h i b ∙ sym (value_at_lem g n i b))

pub values_of : (f : ℕ → ℕ) (l : List ℕ) (n : ℕ) → length l ≡ n → ((i : ℕ) → i < n → f i ≡ get_or l i 0) → values_from f 0 n ≡ l
values_of f l n e h =
    ext_get_or 0 (values_from f 0 n) l (values_length f 0 n ∙ sym e)
    (λ i b. let k : i < n = omega (arith, values_length f 0 n) in value_at_lem f n i k ∙ h i k)

-- what `array::from_fn` makes with a closure that gives `h i` at `i` and stays as it is
module _ {F : Type 0} (g : Mut F (ℕ × Unit {0}) ℕ) (f : F) (h : ℕ → ℕ) (call : (i y : ℕ) (q : F) → Called g f (i, tt) y q → (q ≡ f) × (y ≡ h i)) where
  made_at : (ys : List ℕ) (i n : ℕ) → IsFromFnResultFrom g f ys i n → (k : ℕ) → k < n → get_or ys (i + k) 0 ≡ h (i + k)
  made_at ys i zero r k l = absurd (omega arith)
  made_at ys i (suc n) r zero l = subst (λ (j : ℕ). get_or ys j 0 ≡ h j) (omega arith) (r.2.1 0 ∙ (call i r.1 r.0 r.3).1)
  made_at ys i (suc n) r (suc k) l =
      let rest = subst (λ p. IsFromFnResultFrom g p ys (i + 1) n) (call i r.1 r.0 r.3).0 r.4 in
      subst (λ (j : ℕ). get_or ys j 0 ≡ h j) (omega arith) (made_at ys (i + 1) n rest k (omega arith))

  pub made_whole : (ys : List ℕ) (n : ℕ) → IsFromFnResult g f ys n → ys ≡ values_from h 0 n
  made_whole ys n r = sym (values_of h ys n r.long (λ i l. sym (subst (λ (j : ℕ). get_or ys j 0 ≡ h j) (let z : 0 + i ≡ i = omega arith in z) (made_at ys 0 n r.each i l))))

-- one where a test holds
pub one_where : (b : Bool) → from_bool b ≡ pick_n b 1 0
one_where true = refl
one_where false = refl

-- pages with the same numbers
pub page_same : (m c b m' c' b' : ℕ) (r s r' s' : List ℕ) → m ≡ m' → c ≡ c' → b ≡ b' → r ≡ r' → s ≡ s' → page_with m c b r s ≡ page_with m' c' b' r' s'
page_same m c b m' c' b' r s r' s' em ec eb er es = rw (em, ec, eb, er, es)
