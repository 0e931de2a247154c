-- Parts of a list that follow each other, whatever they are numbers of: a range of corners, part by part.
use mathlib.Core.Path.{◌≡◌, refl, ap, ◌∙◌, subst}
use mathlib.Core.List.{List}
use Prim.Native.Nat.{ℕ, zero, suc, ◌+◌, ◌-◌, ◌*◌, ◌≤◌, ◌<◌}
use native.Mathlib.Omega.{arith}
use Rattle.paper.specs.Scan.{values_from}
use Rattle.paper.specs.File.{begins}
use Rattle.mesh.proofs.Links.{values_length}
use Rattle.strips.specs.PointRows.{FilledTo, Fills, Stands}
use Rattle.strips.proofs.Rowed.{fills_more, fills_as}

pub fills_join : {A : Type 0} (f g : ℕ → A) (a b d at to : ℕ) (first mid last : List A) → a ≤ b → b ≤ d → to ≡ at + 3 * (b - a)
    → Fills (λ x. f (3 * a + x)) at (3 * (b - a)) first mid → Fills g to (3 * (d - b)) mid last
    → ((x : ℕ) → x < 3 * (d - b) → g x ≡ f (3 * b + x)) → Fills (λ x. f (3 * a + x)) at (3 * (d - a)) first last
fills_join f g a b d at to first mid last p q e m n same =
    fills_as (λ x. f (3 * a + x)) at (3 * (b - a) + 3 * (d - b)) (3 * (d - a)) first last (omega arith)
    (fills_more (λ x. f (3 * a + x)) g at (3 * (b - a)) to (3 * (d - b)) first mid last e m n
    (λ x l. same x l ∙ ap f (let z : 3 * b + x ≡ 3 * a + (3 * (b - a) + x) = omega arith in z)))

pub fills_start : {A : Type 0} (f : ℕ → A) (a b at : ℕ) (out : List A) → a ≡ b → Fills (λ x. f (3 * a + x)) at (3 * (b - a)) out out
fills_start f a b at out e g old p v = subst (λ (x : ℕ). FilledTo g old x out) (let z : at ≡ at + 3 * (b - a) = omega arith in z) p

module _ {A : Type 0} (f : ℕ → A) where
  pub put_none : (a b at : ℕ) (old : List A) → a ≡ b → Stands f a b at at old old
  put_none a b at old e = record { ends = omega arith; fills = fills_start f a b at old e }

  pub put_join : (a b d at to to' : ℕ) (old out new : List A) → a ≤ b → b ≤ d → Stands f a b at to old out → Stands f b d to to' out new
      → Stands f a d at to' old new
  put_join a b d at to to' old out new p q m n = record {
    ends = omega (arith, m.ends, n.ends);
    fills = fills_join f (λ x. f (3 * b + x)) a b d at to old out new p q m.ends m.fills n.fills (λ x l. refl);
  }

  pub put_as : (a b a' b' at to : ℕ) (old out : List A) → a ≡ a' → b ≡ b' → Stands f a b at to old out → Stands f a' b' at to old out
  put_as a b a' b' at to old out p q m = subst (λ (x : ℕ). Stands f x b' at to old out) p (subst (λ (x : ℕ). Stands f a x at to old out) q m)

  values_shift : (a at n : ℕ) → values_from (λ x. f (a + x)) at n ≡ values_from f (a + at) n
  unfolding values_from
  values_shift a at zero = refl
  values_shift a at (suc n) = rw (values_shift a (suc at) n, (let z : a + suc at ≡ suc (a + at) = omega arith in z))

  -- a part that stands from the beginning on
  pub filled_list : (a b to : ℕ) (old out : List A) → Stands f a b 0 to old out → out ≡ begins (values_from f (3 * a) (3 * (b - a))) old
  unfolding values_from
  filled_list a b to old out s =
      let r = s.fills (λ x. f (3 * a + x)) old (record { long = refl; holds = refl })
      (λ x l. ap (λ (y : ℕ). f (3 * a + y)) (let z : 0 + x ≡ x = omega arith in z)) in
      r.holds ∙ rw (
        (let z : 0 + 3 * (b - a) ≡ 3 * (b - a) = omega arith in z),
        values_length f (3 * a) (3 * (b - a)),
        values_shift (3 * a) 0 (3 * (b - a)),
        (let z : 3 * a + 0 ≡ 3 * a = omega arith in z),
      )

-- ---- a range of corners: B says where each one's part begins
module _ {A : Type 0} (f : ℕ → A) (B : ℕ → ℕ) (most : ℕ) (rises : (c d : ℕ) → c ≤ d → d ≤ most → B c ≤ B d) (first count : ℕ) (h : first + count ≤ most)
    (at : ℕ) where
  pub range_room : (c to len : ℕ) (old out : List A) → c < count → Stands f (B first) (B (first + c)) at to old out
      → at + 3 * (B (first + count) - B first) ≤ len → to + 3 * (B (first + c + 1) - B (first + c)) ≤ len
  range_room c to len old out l p r =
      let x = rises first (first + c) (omega arith) (omega arith) in
      let y = rises (first + c) (first + c + 1) (omega arith) (omega arith) in
      let z = rises (first + c + 1) (first + count) (omega arith) (omega arith) in
      omega (arith, p.ends)

  pub range_step : (c to to' : ℕ) (old out new : List A) → c < count → Stands f (B first) (B (first + c)) at to old out
      → Stands f (B (first + c)) (B (first + c + 1)) to to' out new → Stands f (B first) (B (first + (c + 1))) at to' old new
  range_step c to to' old out new l p q =
      put_as f (B first) (B (first + c + 1)) (B first) (B (first + (c + 1))) at to' old new refl
      (ap B (let z : first + c + 1 ≡ first + (c + 1) = omega arith in z))
      (put_join f (B first) (B (first + c)) (B (first + c + 1)) at to to' old out new
      (rises first (first + c) (omega arith) (omega arith)) (rises (first + c) (first + c + 1) (omega arith) (omega arith)) p q)

  pub range_end : (c to : ℕ) (old out : List A) → c ≡ count → Stands f (B first) (B (first + c)) at to old out
      → Stands f (B first) (B (first + count)) at to old out
  range_end c to old out e p = put_as f (B first) (B (first + c)) (B first) (B (first + count)) at to old out refl (ap (λ (x : ℕ). B (first + x)) e) p
