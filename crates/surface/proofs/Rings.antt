-- The refined faces round a corner as rings of corners: they close, and the leaving edge's is the same seen from the corner across.
use mathlib.Core.Path.{◌≡◌, refl, sym, ap, ◌∙◌}
use Prim.Native.Nat.{ℕ, zero, suc, ◌+◌, ◌%◌, ◌^◌, ◌<◌, ◌≤◌}
use native.Mathlib.Nat.{add-mod_right, mod-add-mod, mod-lt}
use native.Mathlib.Omega.{arith}
use lib.IntN.{nat_abs}
use Rattle.numbers.proofs.Sum.{Cyclic}
use Rattle.paper.specs.Scan.{iterate}
use Rattle.paper.specs.Mesh.{least_sides, most_sides}
use Rattle.paper.specs.Numbers.{rounded}
use Rattle.paper.specs.Refined.{Corners, RefinedMesh}
use Rattle.paper.specs.Net.{End, vertex, leaving, face, arriving, Side, side0, side1, side2, side3, neighbour, pick, quad, size, ring, points}
use Rattle.mesh.proofs.Rings.{iterate_add}
use Rattle.surface.specs.Sound.{Sound, RefinedSmall}

-- ---- steps
pub iterate_first : (f : ℕ → ℕ) (j c : ℕ) → iterate j f (f c) ≡ iterate (j + 1) f c
unfolding iterate
iterate_first f j c = iterate_add f j 1 c

pub iterate_round : (f : ℕ → ℕ) (j m c : ℕ) → iterate m f c ≡ c → iterate (j + m) f c ≡ iterate j f c
iterate_round f j m c h = sym (iterate_add f j m c) ∙ ap (iterate j f) h

pub iterate_in : (f : ℕ → ℕ) (n : ℕ) → ((c : ℕ) → c < n → f c < n) → (j c : ℕ) → c < n → iterate j f c < n
unfolding iterate
iterate_in f n h zero c l = l
iterate_in f n h (suc j) c l = h (iterate j f c) (iterate_in f n h j c l)

pub pick_one : (P : ℕ → Type 0) (p q r s : ℕ) → P p → P q → P r → P s → (j : ℕ) → P (pick p q r s j)
pick_one P p q r s hp hq hr hs zero = hp
pick_one P p q r s hp hq hr hs (suc zero) = hq
pick_one P p q r s hp hq hr hs (suc (suc zero)) = hr
pick_one P p q r s hp hq hr hs (suc (suc (suc j))) = hs

quad_round : (K : Corners) (c j : ℕ) → quad K c (j + 4) ≡ quad K c j
unfolding quad
quad_round K c j = rw add-mod_right

-- ---- of an accepted mesh
module _ (K : Corners) (ok : Sound K) where
  quad_in : (c : ℕ) → c < K.count → (j : ℕ) → quad K c j < K.count
  unfolding quad
  quad_in c here j =
      let l = ok.link_in c here in
      pick_one (λ d. d < K.count) c (K.next c) (K.previous (K.link c)) (K.link c) here (ok.next_in c here) (ok.previous_in (K.link c) l) l (j % 4)

module _ (K : Corners) (ok : Sound K) (c : ℕ) (here : c < K.count) where
  pub neighbour_in : (s : Side) → neighbour K c s < K.count
  neighbour_in side0 = ok.link_in c here
  neighbour_in side1 = ok.next_in c here
  neighbour_in side2 = ok.previous_in c here
  neighbour_in side3 = ok.previous_in _ (ok.link_in _ (ok.previous_in c here))

  pub ring_in : (e : End) (j : ℕ) → ring K c e j < K.count
  ring_in vertex j = iterate_in K.link K.count ok.link_in j c here
  ring_in leaving j = quad_in K ok c here j
  ring_in face j = iterate_in K.next K.count ok.next_in j c here
  ring_in arriving j = quad_in K ok (K.previous c) (ok.previous_in c here) j

  pub ring_cyclic : (e : End) (j : ℕ) → ring K c e (j + size K c e) ≡ ring K c e j
  ring_cyclic vertex j = iterate_round K.link j (K.valence c) c (ok.vertex_closes c here)
  ring_cyclic leaving j = quad_round K c j
  ring_cyclic face j = iterate_round K.next j (K.sides c) c (ok.face_closes c here)
  ring_cyclic arriving j = quad_round K (K.previous c) j

  pub size_least : (e : End) → least_sides ≤ size K c e
  size_least vertex = ok.valence_least c here
  size_least leaving = omega arith
  size_least face = ok.sides_least c here
  size_least arriving = omega arith

  pub size_most : (e : End) → size K c e ≤ most_sides
  size_most vertex = ok.valence_most c here
  size_most leaving = omega arith
  size_most face = ok.sides_most c here
  size_most arriving = omega arith

  -- the leaving edge's face, seen from the corner across: it starts two later
  half_turn : (r : ℕ) → r < 4
      → pick (K.previous (K.link c)) (K.next (K.previous (K.link c)))
      (K.previous (K.link (K.previous (K.link c)))) (K.link (K.previous (K.link c))) r
      ≡ pick c (K.next c) (K.previous (K.link c)) (K.link c) ((r + 2) % 4)
  half_turn zero l = refl
  half_turn (suc zero) l = ok.next_previous _ (ok.link_in c here)
  half_turn (suc (suc zero)) l = ap K.previous (ok.link_previous_link c here) ∙ ok.previous_next c here
  half_turn (suc (suc (suc zero))) l = ok.link_previous_link c here
  half_turn (suc (suc (suc (suc r)))) l = absurd (omega arith)

  pub quad_across : (j : ℕ) → quad K (K.previous (K.link c)) j ≡ quad K c (j + 2)
  unfolding quad
  quad_across j =
      half_turn (j % 4) (mod-lt j (omega arith))
      ∙ ap (pick c (K.next c) (K.previous (K.link c)) (K.link c)) (mod-add-mod j 4 2)

-- ---- the refined points of a ring
module _ (K : RefinedMesh rounded) (ok : Sound K.corners) (c : ℕ) (here : c < K.corners.count) where
  pub points_small : RefinedSmall K → (e : End) (j : ℕ) → nat_abs (points K c e j) ≤ 2 ^ 24
  points_small small e j = small (ring K.corners c e j) (ring_in K.corners ok c here e j)

  pub points_cyclic : (e : End) → Cyclic (points K c e) (size K.corners c e)
  points_cyclic e j = ap K.point (ring_cyclic K.corners ok c here e j)
