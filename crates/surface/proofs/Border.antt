-- A border: what the two sides have in common, and the two rules that the table gives across it.
-- Sides 0 and 1 are shown; a border seen from its other side is one too (`turn`), which gives sides 2 and 3.
use mathlib.Core.Path.{◌≡◌, refl, sym, ap, ◌∙◌, subst}
use Prim.Native.Nat.{ℕ, ◌+◌, ◌-◌, ◌*◌, ◌^◌, ◌<◌, ◌≤◌}
use native.Mathlib.Omega.{arith}
use lib.IntN.{ℤ, pos, ◌+ℤ◌, nat_abs}
use Rattle.numbers.proofs.Poly.{over, poly}
use Rattle.numbers.proofs.Sum.{Cyclic}
use Rattle.paper.specs.Scan.{iterate}
use Rattle.paper.specs.Mesh.{least_sides, most_sides}
use Rattle.paper.specs.Numbers.{rounded}
use Rattle.paper.specs.Cosines.{unit, cosine}
use Rattle.paper.specs.Refined.{RefinedMesh}
use Rattle.paper.specs.Face.{centre, toward}
use Rattle.paper.specs.Net.{vertex, leaving, face, arriving, Side, side0, side1, side2, side3, neighbour, across, at_head, at_tail, quad, points, H, T, X, Y, C}
use Rattle.surface.specs.Sound.{Sound, RefinedSmall}
use Rattle.surface.proofs.Within.{Within}
use Rattle.surface.proofs.Faces.{toward_same, centre_same, Defect, HeadRule, TailRule, head_defect, tail_defect}
use Rattle.surface.proofs.Rings.{iterate_first, quad_across, points_small, points_cyclic}

-- the side s of c and the side t of d are one border
pub record Border (K : RefinedMesh rounded) (c : ℕ) (s : Side) (d : ℕ) (t : Side) : Type 0 where
  pub there : neighbour K.corners c s ≡ d
  pub back : neighbour K.corners d t ≡ c
  pub same_h : H K d t ≡ H K c s
  pub same_t : T K d t ≡ T K c s
  pub same_x : X K d t ≡ X K c s
  pub same_y : Y K d t ≡ Y K c s
  pub same_c : C K d t ≡ C K c s
  pub head_rule : HeadRule (C K c s) (H K c s) (X K c s) (X K c (at_head s)) (X K d (at_head t))
  pub tail_rule : TailRule (T K c s) (Y K c s) (Y K c (at_tail s)) (Y K d (at_tail t))

swap : (C H X A B k : ℤ) → Within (Defect C H X A B) k → Within (Defect C H X B A) k
swap = over 6 _ λ ρ. simp (poly, ρ) (omega arith)

pub turn : (K : RefinedMesh rounded) (c : ℕ) (s : Side) (d : ℕ) (t : Side) → Border K c s d t → Border K d t c s
turn K c s d t b = record {
  there = b.back;
  back = b.there;
  same_h = sym b.same_h;
  same_t = sym b.same_t;
  same_x = sym b.same_x;
  same_y = sym b.same_y;
  same_c = sym b.same_c;
  head_rule = rw (b.same_h, b.same_x, b.same_c)
      (swap (C K c s) (H K c s) (X K c s) (X K c (at_head s)) (X K d (at_head t)) (pos (3 * unit) +ℤ pos (2 ^ 26)) b.head_rule);
  tail_rule = rw (b.same_t, b.same_y)
      (swap (pos 0) (T K c s) (Y K c s) (Y K c (at_tail s)) (Y K d (at_tail t)) (pos (2 * unit) +ℤ pos 0) b.tail_rule);
}

-- ---- a ring of n c corners round a step, seen from c and from the corner that the step leads to: the head of side 0 (links) and of side 1 (next)
module _ (v : ℕ → ℤ) (step n : ℕ → ℕ) (c : ℕ) (cyc : Cyclic (λ j. v (iterate j step c)) (n c)) (same : n (step c) ≡ n c)
    (some : least_sides ≤ n c) (most : n c ≤ most_sides) (small : (j : ℕ) → nat_abs (v (iterate j step c)) ≤ 2 ^ 24) where
  abbrev here : ℕ → ℤ
  here j = v (iterate j step c)

  abbrev there : ℕ → ℤ
  there j = v (iterate j step (step c))

  moved : (j : ℕ) → there j ≡ here (j + 1)
  moved j = ap v (iterate_first step j c)

  pub ring_h : centre rounded there (n (step c)) ≡ centre rounded here (n c)
  ring_h = ap (centre rounded there) same ∙ centre_same here there (n c) 1 cyc (λ j l. moved j)

  pub ring_x : toward rounded there (n (step c)) (n (step c) - 1) ≡ toward rounded here (n c) 0
  ring_x =
      ap (λ (m : ℕ). toward rounded there m (m - 1)) same
      ∙ toward_same there here (n c) (n c - 1) 0 (λ k l. moved (n c - 1 + k) ∙ ap here (index k) ∙ cyc (0 + k))
    where
      index : (k : ℕ) → n c - 1 + k + 1 ≡ 0 + k + n c
      index k = omega arith

  ring_c : cosine (n (step c)) 1 ≡ cosine (n c) 1
  ring_c = ap (λ (m : ℕ). cosine m 1) same

  -- the face point after, and the rule with the one before
  ring_after : toward rounded there (n (step c)) 0 ≡ toward rounded here (n c) (0 + 1)
  ring_after =
      ap (λ (m : ℕ). toward rounded there m 0) same
      ∙ toward_same there here (n c) 0 (0 + 1) (λ k l. moved (0 + k) ∙ ap here (let z : 0 + k + 1 ≡ 0 + 1 + k = omega arith in z))

  ring_rule : HeadRule (cosine (n c) 1) (centre rounded here (n c)) (toward rounded here (n c) 0) (toward rounded here (n c) (n c - 1))
      (toward rounded there (n (step c)) 0)
  ring_rule = rw (ring_after, index (n c - 1))
      (swap (cosine (n c) 1) (centre rounded here (n c)) (toward rounded here (n c) 0) (toward rounded here (n c) (0 + 1))
      (toward rounded here (n c) (0 + (n c - 1)))
      (pos (3 * unit) +ℤ pos (2 ^ 26)) (head_defect here (n c) some most cyc small 0))
    where
      index : (k : ℕ) → k ≡ 0 + k
      index k = omega arith

module _ (K : RefinedMesh rounded) (ok : Sound K.corners) (size : RefinedSmall K) (c : ℕ) (here : c < K.corners.count) where
  -- ---- across side 0, at the linked corner: the ring of the leaving edge starts two later
  link_edge : (j : ℕ) → points K (K.corners.link c) arriving j ≡ points K c leaving (j + 2)
  link_edge j = ap K.point (quad_across K.corners ok c here j)

  link_y* : toward rounded (points K c leaving) 4 0 ≡ toward rounded (points K c leaving) 4 (3 + 1)
  link_y* =
      toward_same (points K c leaving) (points K c leaving) 4 0 4
      (λ k l. sym (points_cyclic K ok c here leaving (0 + k)) ∙ ap (points K c leaving) (let z : 0 + k + 4 ≡ 4 + k = omega arith in z))

  link_y^ : toward rounded (points K (K.corners.link c) arriving) 4 0 ≡ toward rounded (points K c leaving) 4 (3 + 3)
  link_y^ =
      toward_same (points K (K.corners.link c) arriving) (points K c leaving) 4 0 6
      (λ k l. link_edge (0 + k) ∙ sym (points_cyclic K ok c here leaving (0 + k + 2)) ∙ ap (points K c leaving) (index k))
    where
      index : (k : ℕ) → 0 + k + 2 + 4 ≡ 6 + k
      index k = omega arith

  link_y : toward rounded (points K (K.corners.link c) arriving) 4 1 ≡ toward rounded (points K c leaving) 4 3
  link_y =
      toward_same (points K (K.corners.link c) arriving) (points K c leaving) 4 1 3 (λ k l. link_edge (1 + k) ∙ ap (points K c leaving) (index k))
    where
      index : (k : ℕ) → 1 + k + 2 ≡ 3 + k
      index k = omega arith

  border0 : Border K c side0 (K.corners.link c) side3
  unfolding H T X Y C
  border0 =
      let cyc = points_cyclic K ok c here vertex in
      let same = ok.valence_link c here in
      let some = ok.valence_least c here in
      let most = ok.valence_most c here in
      let small = points_small K ok c here size vertex in
      record {
        there = refl;
        back = ap K.corners.previous (ok.link_previous_link c here) ∙ ok.previous_next c here;
        same_h = ring_h K.point K.corners.link K.corners.valence c cyc same some most small;
        same_t = centre_same (points K c leaving) (points K (K.corners.link c) arriving) 4 2 (points_cyclic K ok c here leaving) (λ j l. link_edge j);
        same_x = ring_x K.point K.corners.link K.corners.valence c cyc same some most small;
        same_y = link_y;
        same_c = ring_c K.point K.corners.link K.corners.valence c cyc same some most small;
        head_rule = ring_rule K.point K.corners.link K.corners.valence c cyc same some most small;
        tail_rule = rw (link_y*, link_y^) (tail_defect (points K c leaving) (points_cyclic K ok c here leaving) (points_small K ok c here size leaving) 3);
      }

  -- ---- across side 1, at the next corner: the leaving edge is its arriving edge
  next_edge : (f : (ℕ → ℤ) → ℤ) → f (points K (K.corners.next c) arriving) ≡ f (points K c leaving)
  next_edge f = ap (λ (d : ℕ). f (λ j. K.point (quad K.corners d j))) (ok.previous_next c here)

  border1 : Border K c side1 (K.corners.next c) side2
  unfolding H T X Y C
  border1 =
      let cyc = points_cyclic K ok c here face in
      let same = ok.sides_next c here in
      let some = ok.sides_least c here in
      let most = ok.sides_most c here in
      let small = points_small K ok c here size face in
      let p = points K c leaving in
      record {
        there = refl;
        back = ok.previous_next c here;
        same_h = ring_h K.point K.corners.next K.corners.sides c cyc same some most small;
        same_t = next_edge (λ p. centre rounded p 4);
        same_x = ring_x K.point K.corners.next K.corners.sides c cyc same some most small;
        same_y = next_edge (λ p. toward rounded p 4 0);
        same_c = ring_c K.point K.corners.next K.corners.sides c cyc same some most small;
        head_rule = ring_rule K.point K.corners.next K.corners.sides c cyc same some most small;
        tail_rule = rw (next_edge (λ p. toward rounded p 4 1))
            (swap (pos 0) (centre rounded (points K c leaving) 4) (toward rounded (points K c leaving) 4 0) (toward rounded (points K c leaving) 4 1)
            (toward rounded (points K c leaving) 4 3)
            (pos (2 * unit) +ℤ pos 0) (tail_defect (points K c leaving) (points_cyclic K ok c here leaving) (points_small K ok c here size leaving) 0));
      }

-- ---- every side of every corner belongs to one
pub border : (K : RefinedMesh rounded) → Sound K.corners → RefinedSmall K → (c : ℕ) → c < K.corners.count → (s : Side)
    → Border K c s (neighbour K.corners c s) (across s)
border K ok size c here side0 = border0 K ok size c here
border K ok size c here side1 = border1 K ok size c here
border K ok size c here side2 =
    let d : ℕ = K.corners.previous c in
    turn K d side1 c side2 (subst (λ (e : ℕ). Border K d side1 e side2) (ok.next_previous c here) (border1 K ok size d (ok.previous_in c here)))
border K ok size c here side3 =
    let b = ok.previous_in c here in
    let d : ℕ = K.corners.previous (K.corners.link (K.corners.previous c)) in
    turn K d side0 c side3
    (subst (λ (e : ℕ). Border K d side0 e side3) (ok.link_previous_link (K.corners.previous c) b ∙ ok.next_previous c here)
    (border0 K ok size d (ok.previous_in (K.corners.link (K.corners.previous c)) (ok.link_in (K.corners.previous c) b))))
