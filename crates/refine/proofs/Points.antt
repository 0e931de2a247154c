-- The table of refined points: other values or another choice that are the same, one choice after the other, and zeros.
use mathlib.Core.Path.{◌≡◌, refl, ◌∙◌, sym, subst}
use mathlib.Core.Logic.{⊎_elim}
use mathlib.Core.List.{List}
use Prim.Native.Nat.{ℕ, ◌+◌, ◌*◌, ◌<◌, ◌≤◌}
use native.Mathlib.Omega.{arith}
use lib.Dec.{ltb}
use lib.ListN.{replicate, get_or-replicate, length-replicate, get_or-eq_default}
use borrow.Author.Tests.{ltb-true, ltb-false}
use lib.IntN.{ℤ, pos}
use Rattle.mesh.proofs.Scans.{ways}
use Rattle.surface.specs.Points.{point_row}
use Rattle.face_sums.specs.Marks.{AtMark}
use Rattle.corner_points.specs.RefinedPoints.{SmallPoints, PointsPut}
use Rattle.refine.specs.Marks.{MarkedIn}

-- the same choice, with values that are the same there
pub put_value : {v w : ℕ → ℕ → ℤ} {P : ℕ → Type 0} {old new : List ℤ} → ((axis c : ℕ) → axis < 3 → P c → v axis c ≡ w axis c)
    → PointsPut v P old new → PointsPut w P old new
put_value e h = record {
  points_are = λ axis c a p. h.points_are axis c a p ∙ e axis c a p;
  others = h.others;
  same = h.same;
  small = h.small;
}

-- the same values, of a choice that is the same
pub put_choice : {value : ℕ → ℕ → ℤ} {P Q : ℕ → Type 0} {old new : List ℤ} → ((c : ℕ) → P c → Q c) → ((c : ℕ) → Q c → P c)
    → PointsPut value P old new → PointsPut value Q old new
put_choice to from h = record {
  points_are = λ axis c a q. h.points_are axis c a (from c q);
  others = λ i n. h.others i (λ axis c a p. n axis c a (to c p));
  same = h.same;
  small = h.small;
}

-- none
pub put_none : {value : ℕ → ℕ → ℤ} {P : ℕ → Type 0} (points : List ℤ) → ((c : ℕ) → P c → ⊥) → SmallPoints points → PointsPut value P points points
put_none points never h = record { points_are = λ axis c a p. absurd (never c p); others = λ i n. refl; same = refl; small = h }

-- those from `start` to before `mid`, and then those to before `end`
module _ {value : ℕ → ℕ → ℤ} (corners marked : List ℕ) (start mid end : ℕ) (a : start ≤ mid) (b : mid ≤ end) where
  pub put_more : {old part new : List ℤ} → PointsPut value (MarkedIn corners marked start mid) old part
      → PointsPut value (MarkedIn corners marked mid end) part new → PointsPut value (MarkedIn corners marked start end) old new
  put_more p q = record {
    points_are = λ axis c l r. ⊎_elim
        (λ k. let m = ltb-true c mid k in
        q.others (point_row * c + axis) (λ x d y s e. omega (arith, s.0)) ∙ p.points_are axis c l (r.0, m, r.2))
        (λ k. q.points_are axis c l (ltb-false c mid k, r.1, r.2))
        (ways (ltb c mid));
    others = λ i n. q.others i (λ axis c l r. n axis c l (omega (arith, r.0), r.1, r.2))
        ∙ p.others i (λ axis c l r. n axis c l (r.0, omega (arith, r.1), r.2));
    same = q.same ∙ p.same;
    small = q.small;
  }

-- one corner, as a range; and where its vertex is not marked
module _ {value : ℕ → ℕ → ℤ} (corners marked : List ℕ) (c : ℕ) where
  pub put_marked : {old new : List ℤ} → AtMark corners marked c → PointsPut value (λ d. d ≡ c) old new
      → PointsPut value (MarkedIn corners marked c (c + 1)) old new
  put_marked m = put_choice (λ d e. (omega arith, omega arith, subst (AtMark corners marked) (sym e) m)) (λ d r. omega (arith, r.0, r.1))

  pub put_passed : (points : List ℤ) → (AtMark corners marked c → ⊥) → SmallPoints points → PointsPut value (MarkedIn corners marked c (c + 1)) points points
  put_passed points never =
      put_none points (λ d r. never (subst (AtMark corners marked) (let e : d ≡ c = omega (arith, r.0, r.1) in e) r.2))

-- zeros
pub small_zeros : (n : ℕ) → SmallPoints (replicate n (pos 0))
small_zeros n c =
    ⊎_elim
    (λ b. rw (get_or-replicate n c (pos 0) (pos 0) (ltb-true c n b)) (omega arith))
    (λ b. rw (get_or-eq_default (replicate n (pos 0)) (pos 0) {n = c} (omega (arith, length-replicate {A = ℤ} n (pos 0), ltb-false c n b))) (omega arith))
    (ways (ltb c n))
