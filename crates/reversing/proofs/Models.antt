-- Turned models, list by list: choices that agree on the faces turn them alike, turning twice gives a model back, and turning no face leaves it.
use mathlib.Core.Path.{◌≡◌, refl, ap, ◌∙◌, sym, subst}
use mathlib.Core.Bool.{Bool, true, false}
use mathlib.Core.List.{List, [], ◌∷◌}
use Prim.Native.Nat.{ℕ, zero, suc, ◌+◌, ◌-◌, ◌*◌, ◌/◌, ◌%◌, ◌<◌, ◌≤◌}
use native.Mathlib.Omega.{arith}
use lib.ListN.{length}
use Rattle.paper.specs.Corners.{sum_of, face_of}
use Rattle.paper.specs.Turning.{counterpart, corner_from, turned_corners, pair_from, turned_pairs, faces_of}
use Rattle.mesh.proofs.Faces.{held, face_next, next_below}
use Rattle.mesh.proofs.ByCases.{by_test}
use Rattle.reversing.proofs.Rearranged.{rearranged_none, rearranged_same, rearranged_twice}
use Rattle.reversing.proofs.TurnedFace.{flipped, flip_below, face_flip, flip_flip, counterpart_is, counterpart_next, from_kept, from_turned}

-- ---- the corner that comes to a place, and back
module _ (sides : List ℕ) (c : ℕ) (h : c < sum_of sides) where
  pub counterpart_below : counterpart sides c < sum_of sides
  counterpart_below = subst (λ (x : ℕ). x < sum_of sides) (sym (counterpart_is sides c h)) (next_below sides (flipped sides c) (flip_below sides c h))

  pub face_counterpart : face_of sides (counterpart sides c) ≡ face_of sides c
  face_counterpart = ap (face_of sides) (counterpart_is sides c h) ∙ face_next sides (flipped sides c) (flip_below sides c h) ∙ face_flip sides c h

  pub counterpart_twice : counterpart sides (counterpart sides c) ≡ c
  counterpart_twice =
      ap (counterpart sides) (counterpart_is sides c h) ∙ counterpart_next sides (flipped sides c) (flip_below sides c h) ∙ flip_flip sides c h

module _ (sides : List ℕ) (t : ℕ → Bool) where
  pub pair_kept : (i : ℕ) → t (face_of sides (i / 2)) ≡ false → pair_from sides t i ≡ i
  unfolding pair_from
  pair_kept i e = rw e

  pub pair_turned : (i : ℕ) → t (face_of sides (i / 2)) ≡ true → pair_from sides t i ≡ 2 * counterpart sides (i / 2) + (1 - i % 2)
  unfolding pair_from
  pair_turned i e = rw e

  corner_below : (c : ℕ) → c < sum_of sides → corner_from sides t c < sum_of sides
  corner_below c h =
      by_test (t (face_of sides c))
      (λ e. omega (arith, from_turned sides t c e, counterpart_below sides c h))
      (λ e. omega (arith, from_kept sides t c e))

  corner_twice : (c : ℕ) → c < sum_of sides → corner_from sides t (corner_from sides t c) ≡ c
  corner_twice c h =
      by_test (t (face_of sides c))
      (λ e. ap (corner_from sides t) (from_turned sides t c e)
      ∙ from_turned sides t (counterpart sides c) (ap t (face_counterpart sides c h) ∙ e) ∙ counterpart_twice sides c h)
      (λ e. ap (corner_from sides t) (from_kept sides t c e) ∙ from_kept sides t c e)

  pair_below : (i : ℕ) → i < 2 * sum_of sides → pair_from sides t i < 2 * sum_of sides
  pair_below i h =
      by_test (t (face_of sides (i / 2)))
      (λ e. omega (arith, pair_turned i e, counterpart_below sides (i / 2) (omega arith)))
      (λ e. omega (arith, pair_kept i e))

  pair_twice : (i : ℕ) → i < 2 * sum_of sides → pair_from sides t (pair_from sides t i) ≡ i
  pair_twice i h =
      by_test (t (face_of sides (i / 2)))
      (λ e. ap (pair_from sides t) (pair_turned i e) ∙ back i (counterpart sides (i / 2)) (counterpart_twice sides (i / 2) (omega arith))
      (ap t (face_counterpart sides (i / 2) (omega arith)) ∙ e))
      (λ e. ap (pair_from sides t) (pair_kept i e) ∙ pair_kept i e)
    where
      back : (i d : ℕ) → counterpart sides d ≡ i / 2 → t (face_of sides d) ≡ true → pair_from sides t (2 * d + (1 - i % 2)) ≡ i
      back i d two e =
          let half : (2 * d + (1 - i % 2)) / 2 ≡ d = omega arith in
          pair_turned (2 * d + (1 - i % 2)) (rw half e) ∙ omega (arith, ap (counterpart sides) half)

-- ---- the turned lists: turned twice, by choices that agree on the faces, and by no turn
abbrev pub no_face : ℕ → Bool
no_face f = false

module _ (sides corners sharpness : List ℕ) (sums : sum_of sides ≡ length corners) (long : length sharpness ≡ 2 * length corners) where
  pub corners_twice : (t : ℕ → Bool) → turned_corners sides (turned_corners sides corners t) t ≡ corners
  unfolding turned_corners
  corners_twice t =
      rearranged_twice (corner_from sides t) corners
      (λ c h. omega (arith, corner_below sides t c (omega arith)))
      (λ c h. corner_twice sides t c (omega arith))

  pub pairs_twice : (t : ℕ → Bool) → turned_pairs sides (turned_pairs sides sharpness t) t ≡ sharpness
  unfolding turned_pairs
  pairs_twice t =
      rearranged_twice (pair_from sides t) sharpness
      (λ i h. omega (arith, pair_below sides t i (omega arith)))
      (λ i h. pair_twice sides t i (omega arith))

  module _ (t u : ℕ → Bool) (e : (f : ℕ) → f < length sides → t f ≡ u f) where
    own : (c : ℕ) → c < length corners → t (face_of sides c) ≡ u (face_of sides c)
    own c h = e (face_of sides c) (held sides c (omega arith)).exists

    pub corners_same : turned_corners sides corners t ≡ turned_corners sides corners u
    unfolding turned_corners corner_from
    corners_same = rearranged_same (corner_from sides u) corners (corner_from sides t) (λ c h. rw (own c h))

    pub pairs_same : turned_pairs sides sharpness t ≡ turned_pairs sides sharpness u
    unfolding turned_pairs pair_from
    pairs_same = rearranged_same (pair_from sides u) sharpness (pair_from sides t) (λ i h. rw (own (i / 2) (omega arith)))

  pub corners_untouched : turned_corners sides corners no_face ≡ corners
  unfolding turned_corners
  corners_untouched = rearranged_none (corner_from sides no_face) corners (λ c h. from_kept sides no_face c refl)

  pub pairs_untouched : turned_pairs sides sharpness no_face ≡ sharpness
  unfolding turned_pairs
  pairs_untouched = rearranged_none (pair_from sides no_face) sharpness (λ i h. pair_kept sides no_face i refl)

-- ---- the faces of a choice
module _ (t : ℕ → Bool) where
  pub faces_hit : (at left : ℕ) → t at ≡ true → faces_of t at (suc left) ≡ at ∷ faces_of t (suc at) left
  unfolding faces_of
  faces_hit at left e = rw e

  pub faces_miss : (at left : ℕ) → t at ≡ false → faces_of t at (suc left) ≡ faces_of t (suc at) left
  unfolding faces_of
  faces_miss at left e = rw e

  pub faces_none : (at : ℕ) → faces_of t at zero ≡ []
  unfolding faces_of
  faces_none at = refl

pub faces_same : (t u : ℕ → Bool) (at left : ℕ) → ((f : ℕ) → at ≤ f → f < at + left → t f ≡ u f) → faces_of t at left ≡ faces_of u at left
faces_same t u at zero e = faces_none t at ∙ sym (faces_none u at)
faces_same t u at (suc left) e =
    let r = faces_same t u (suc at) left (λ f a b. e f (omega arith) (omega arith)) in
    let q = e at (omega arith) (omega arith) in
    by_test (t at)
    (λ b. faces_hit t at left b ∙ ap (λ (l : List ℕ). at ∷ l) r ∙ sym (faces_hit u at left (sym q ∙ b)))
    (λ b. faces_miss t at left b ∙ r ∙ sym (faces_miss u at left (sym q ∙ b)))

pub no_faces : (at left : ℕ) → faces_of no_face at left ≡ []
no_faces at zero = faces_none no_face at
no_faces at (suc left) = faces_miss no_face at left refl ∙ no_faces (suc at) left
