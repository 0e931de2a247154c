-- Two descriptions of a mesh that agree at each corner give the same net of a corner where they have the same refined points in its rings:
-- the construction looks at no others. The laws of one hold of the other.
use mathlib.Core.Path.{◌≡◌, refl, sym, ap, ◌∙◌}
use Prim.Native.Nat.{ℕ, zero, suc, ◌+◌, ◌-◌, ◌<◌}
use native.Mathlib.Omega.{arith}
use lib.IntN.{ℤ, pos}
use Rattle.numbers.proofs.Sum.{sum_same}
use Rattle.paper.specs.Scan.{iterate}
use Rattle.paper.specs.Numbers.{round, rounded}
use Rattle.paper.specs.Cosines.{cosine}
use Rattle.paper.specs.Refined.{Corners, RefinedMesh}
use Rattle.paper.specs.Face.{centre, toward}
use Rattle.paper.specs.Net.{End, vertex, leaving, face, arriving, Side, side0, side1, side2, side3, head, tail, neighbour, quad, size, ring, points}
use Rattle.paper.specs.Net.{head_place, H, T, X, Y, N, C, outer1, outer2, outer3, a0, a1, a2, a3, middle, b_head, b_tail, a_head, a_tail, b22, b_grid, a_grid, net}
use Rattle.surface.specs.Sound.{Sound, Agree}
use Rattle.surface.proofs.Rings.{iterate_in}
use Rattle.surface.proofs.Faces.{toward_same}

iterate_same : (f g : ℕ → ℕ) (n : ℕ) → ((c : ℕ) → c < n → f c < n) → ((c : ℕ) → c < n → f c ≡ g c)
    → (j c : ℕ) → c < n → iterate j f c ≡ iterate j g c
unfolding iterate
iterate_same f g n h e zero c l = refl
iterate_same f g n h e (suc j) c l = e (iterate j f c) (iterate_in f n h j c l) ∙ ap g (iterate_same f g n h e j c l)

centre_equal : (p q : ℕ → ℤ) (m n : ℕ) → m ≡ n → ((j : ℕ) → p j ≡ q j) → centre rounded p m ≡ centre rounded q n
unfolding centre
centre_equal p q m n e h = ap (λ (z : ℤ). round z (pos m)) (sum_same p q m (λ j l. h j)) ∙ ap (centre rounded q) e

toward_equal : (p q : ℕ → ℤ) (m n i j : ℕ) → m ≡ n → i ≡ j → ((j : ℕ) → p j ≡ q j) → toward rounded p m i ≡ toward rounded q n j
toward_equal p q m n i j e d h = toward_same p q m i i (λ k l. h (i + k)) ∙ ap (toward rounded q m) d ∙ ap (λ (x : ℕ). toward rounded q x j) e

module _ (K L : Corners) (same : Agree K L) (ok : Sound K) where
  -- ---- two steps, and the face of a leaving edge
  previous_link : (c : ℕ) → c < K.count → K.previous (K.link c) ≡ L.previous (L.link c)
  previous_link c here = same.previous (K.link c) (ok.link_in c here) ∙ ap L.previous (same.link c here)

  quad_same : (c : ℕ) → c < K.count → (j : ℕ) → quad K c j ≡ quad L c j
  unfolding quad
  quad_same c here j = rw (same.next c here, previous_link c here, same.link c here)

module _ (K L : Corners) (same : Agree K L) (ok : Sound K) (c : ℕ) (here : c < K.count) where
  before : K.previous c < K.count
  before = ok.previous_in c here

  ring_same : (e : End) (j : ℕ) → ring K c e j ≡ ring L c e j
  ring_same vertex j = iterate_same K.link L.link K.count ok.link_in same.link j c here
  ring_same leaving j = quad_same K L same ok c here j
  ring_same face j = iterate_same K.next L.next K.count ok.next_in same.next j c here
  ring_same arriving j = quad_same K L same ok (K.previous c) before j ∙ ap (λ (d : ℕ). quad L d j) (same.previous c here)

  size_same : (e : End) → size K c e ≡ size L c e
  size_same vertex = same.valence c here
  size_same leaving = refl
  size_same face = same.sides c here
  size_same arriving = refl

  place_same : (s : Side) → head_place K c s ≡ head_place L c s
  place_same side0 = refl
  place_same side1 = refl
  place_same side2 = ap (λ (m : ℕ). m - 1) (same.sides c here)
  place_same side3 = ap (λ (m : ℕ). m - 1) (same.valence c here)

  pub neighbour_same : (s : Side) → neighbour K c s ≡ neighbour L c s
  neighbour_same side0 = same.link c here
  neighbour_same side1 = same.next c here
  neighbour_same side2 = same.previous c here
  neighbour_same side3 = previous_link K L same ok (K.previous c) before ∙ ap (λ (d : ℕ). L.previous (L.link d)) (same.previous c here)

-- ---- of a side, where the refined points in the rings are the same
module _ (K L : RefinedMesh rounded) (same : Agree K.corners L.corners) (ok : Sound K.corners) (c : ℕ) (here : c < K.corners.count)
    (alike : (e : End) (j : ℕ) → K.point (ring K.corners c e j) ≡ L.point (ring K.corners c e j)) where
  points_same : (e : End) (j : ℕ) → points K c e j ≡ points L c e j
  points_same e j = alike e j ∙ ap L.point (ring_same K.corners L.corners same ok c here e j)

  -- the corner and its neighbours are places of its rings
  own : K.point c ≡ L.point c
  unfolding iterate
  own = alike vertex 0

  beside : (s : Side) → K.point (neighbour K.corners c s) ≡ L.point (neighbour K.corners c s)
  unfolding iterate quad
  beside side0 = alike vertex 1
  beside side1 = alike face 1
  beside side2 = alike arriving 0
  beside side3 = alike arriving 2

  pub H-same : (s : Side) → H K c s ≡ H L c s
  unfolding H
  H-same s = centre_equal (points K c (head s)) (points L c (head s)) _ _ (size_same K.corners L.corners same ok c here (head s)) (points_same (head s))

  pub T-same : (s : Side) → T K c s ≡ T L c s
  unfolding T
  T-same s = centre_equal (points K c (tail s)) (points L c (tail s)) _ _ (size_same K.corners L.corners same ok c here (tail s)) (points_same (tail s))

  pub X-same : (s : Side) → X K c s ≡ X L c s
  unfolding X
  X-same s =
      toward_equal (points K c (head s)) (points L c (head s)) _ _ _ _ (size_same K.corners L.corners same ok c here (head s))
      (place_same K.corners L.corners same ok c here s) (points_same (head s))

  pub Y-same : (s : Side) → Y K c s ≡ Y L c s
  unfolding Y
  Y-same s = toward_equal (points K c (tail s)) (points L c (tail s)) _ _ _ _ (size_same K.corners L.corners same ok c here (tail s)) refl
      (points_same (tail s))

  pub C-same : (s : Side) → C K c s ≡ C L c s
  unfolding C
  C-same s = ap (λ (m : ℕ). cosine m 1) (size_same K.corners L.corners same ok c here (head s))

  N-same : (s : Side) → N K c s ≡ N L c s
  unfolding N
  N-same s =
      let w : K.point (neighbour K.corners c s) ≡ L.point (neighbour L.corners c s) = beside s ∙ ap L.point
      (neighbour_same K.corners L.corners same ok c here s) in
      rw (X-same s, Y-same s, own, w)

  pub net_same : net K c ≡ net L c
  unfolding net b_grid a_grid outer1 outer2 outer3 a0 a1 a2 a3 middle b_head b_tail a_head a_tail b22
  net_same = simp (H-same, T-same, X-same, Y-same, C-same, N-same)

-- ---- the laws of one hold of the other
module _ (K L : Corners) (same : Agree K L) (ok : Sound K) where
  -- a corner of L is one of K, and a number below K's count is below L's
  inside : (c : ℕ) → c < L.count → c < K.count
  inside c l = omega (arith, same.count)

  below : (a b : ℕ) → a ≡ b → a < K.count → b < L.count
  below a b e l = omega (arith, same.count)

  pub sound_same : Sound L
  sound_same = record {
    next_in = λ c l. below _ _ (same.next c (inside c l)) (ok.next_in c (inside c l));
    previous_in = λ c l. below _ _ (same.previous c (inside c l)) (ok.previous_in c (inside c l));
    link_in = λ c l. below _ _ (same.link c (inside c l)) (ok.link_in c (inside c l));
    next_previous = λ c l.
        let h = inside c l in
        ap L.next (sym (same.previous c h)) ∙ sym (same.next (K.previous c) (ok.previous_in c h)) ∙ ok.next_previous c h;
    previous_next = λ c l.
        let h = inside c l in
        ap L.previous (sym (same.next c h)) ∙ sym (same.previous (K.next c) (ok.next_in c h)) ∙ ok.previous_next c h;
    link_previous_link = λ c l.
        let h = inside c l in
        ap L.link (sym (previous_link K L same ok c h))
        ∙ sym (same.link (K.previous (K.link c)) (ok.previous_in (K.link c) (ok.link_in c h)))
        ∙ ok.link_previous_link c h ∙ same.next c h;
    face_closes = λ c l.
        let h = inside c l in
        ap (λ (m : ℕ). iterate m L.next c) (sym (same.sides c h))
        ∙ sym (iterate_same K.next L.next K.count ok.next_in same.next (K.sides c) c h) ∙ ok.face_closes c h;
    vertex_closes = λ c l.
        let h = inside c l in
        ap (λ (m : ℕ). iterate m L.link c) (sym (same.valence c h))
        ∙ sym (iterate_same K.link L.link K.count ok.link_in same.link (K.valence c) c h) ∙ ok.vertex_closes c h;
    sides_next = λ c l.
        let h = inside c l in
        ap L.sides (sym (same.next c h)) ∙ sym (same.sides (K.next c) (ok.next_in c h)) ∙ ok.sides_next c h ∙ same.sides c h;
    valence_link = λ c l.
        let h = inside c l in
        ap L.valence (sym (same.link c h)) ∙ sym (same.valence (K.link c) (ok.link_in c h)) ∙ ok.valence_link c h ∙ same.valence c h;
    sides_least = λ c l. omega (arith, same.sides c (inside c l), ok.sides_least c (inside c l));
    sides_most = λ c l. omega (arith, same.sides c (inside c l), ok.sides_most c (inside c l));
    valence_least = λ c l. omega (arith, same.valence c (inside c l), ok.valence_least c (inside c l));
    valence_most = λ c l. omega (arith, same.valence c (inside c l), ok.valence_most c (inside c l));
  }
