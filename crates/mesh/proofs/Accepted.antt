-- What each fault's absence says, and the rings of an accepted mesh: as many links as a vertex has corners lead back, and fewer do not;
-- likewise for the steps around a face.
use mathlib.Core.Path.{◌≡◌, refl, ap, ◌∙◌, sym, subst}
use mathlib.Core.Bool.{true, false, not, ◌||◌}
use mathlib.Core.Logic.{⊎_elim}
use mathlib.Core.List.{List, [], ◌∷◌}
use Prim.Native.Nat.{ℕ, zero, suc, ◌+◌, ◌-◌, ◌*◌, ◌/◌, ◌%◌, ◌<◌, ◌≤◌}
use native.Mathlib.Omega.{arith}
use lib.Dec.{ltb, eqb}
use lib.ListN.{length, get_or, get_or-eq_default}
use borrow.Author.Tests.{eqb-true, eq-eqb, leb-false, ltb-true, ltb-false, not-false}
use Rattle.paper.specs.Scan.{iterate}
use Rattle.paper.specs.Mesh.{least_sides, most_sides, most_vertices, most_faces, most_corners, most_sharpness, plain, Mesh, vertex_count, face_count, corner_count}
use Rattle.paper.specs.Corners.{sum_of, first_of, sides_of, next}
use Rattle.paper.specs.Links.{vertex_of, link, names, valence, lowest}
use Rattle.paper.specs.Faults.{outside, fault4, fault5, fault6, fault7, fault8, fault9, fault10, fault11, fault12, fault13, after, ring_length, met}
use Rattle.paper.specs.Faults.{fault27, fault28, list_faults, link_faults, verdict, Accepted}
use Rattle.paper.specs.Manifold.{Returns}
use Rattle.mesh.specs.Closed.{Closed}
use Rattle.mesh.proofs.Ranges.{none_left, none_right, at_least, at_most}
use Rattle.mesh.proofs.Scans.{ways, first_le, first_passes, none}
use Rattle.mesh.proofs.Faces.{first_from_lem, first_to, first_same, sides_same, next_inner, next_last}
use Rattle.mesh.proofs.Links.{link_in, link_vertex, link_injective}
use Rattle.mesh.proofs.Rings.{Turns, turn, all_met, iterate_zero, iterate_suc, iterate_swap, iterate_add}
use Rattle.mesh.proofs.Verdicts.{sound_left, sound_right, single_sound, lowest_sound}

-- no fault of 4 to 13, nor 27 or 28
pub record Faultless (M : Mesh) : Type 0 where
  pub four : fault4 (length M.coordinates) (face_count M) (corner_count M) ≡ false
  pub twenty_seven : fault27 (length M.sharpness) (corner_count M) ≡ false
  pub five : (f : ℕ) → f < face_count M → fault5 M.sides f ≡ false
  pub six : fault6 M.sides (corner_count M) ≡ false
  pub seven : (i : ℕ) → i < length M.coordinates → fault7 M.coordinates i ≡ false
  pub eight : (c : ℕ) → c < corner_count M → fault8 (vertex_count M) M.corners c ≡ false
  pub twenty_eight : (i : ℕ) → i < length M.sharpness → fault28 M.sharpness i ≡ false
  pub nine : (c : ℕ) → c < corner_count M → fault9 M.sides M.corners c ≡ false
  pub ten : (c : ℕ) → c < corner_count M → fault10 M.sides M.corners c ≡ false
  pub eleven : (c : ℕ) → c < corner_count M → fault11 M.sides M.corners c ≡ false
  pub twelve : (u : ℕ) → u < vertex_count M → fault12 M.corners u ≡ false
  pub thirteen : (u : ℕ) → u < vertex_count M → fault13 M.sides M.corners u ≡ false

pub sound_of : (M : Mesh) → Accepted M → Faultless M
unfolding verdict list_faults link_faults
sound_of M e =
    let e4 = sound_left (list_faults M) (link_faults M) e in
    let e27 = sound_right _ _ e4 in
    let e5 = sound_right _ _ e27 in
    let e6 = sound_right _ _ e5 in
    let e7 = sound_right _ _ e6 in
    let e8 = sound_right _ _ e7 in
    let e28 = sound_right _ _ e8 in
    let e10 = sound_right (list_faults M) (link_faults M) e in
    let e11 = sound_right _ _ e10 in
    let e12 = sound_right _ _ e11 in
    record {
      four = single_sound _ _ _ (sound_left _ _ e4);
      twenty_seven = single_sound _ _ _ (sound_left _ _ e27);
      five = lowest_sound _ _ _ (sound_left _ _ e5);
      six = single_sound _ _ _ (sound_left _ _ e6);
      seven = lowest_sound _ _ _ (sound_left _ _ e7);
      eight = lowest_sound _ _ _ (sound_left _ _ e8);
      twenty_eight = lowest_sound _ _ _ (sound_left _ _ e28);
      nine = lowest_sound _ _ _ (sound_right _ _ e28);
      ten = lowest_sound _ _ _ (sound_left _ _ e10);
      eleven = lowest_sound _ _ _ (sound_left _ _ e11);
      twelve = lowest_sound _ _ _ (sound_left _ _ e12);
      thirteen = lowest_sound _ _ _ (sound_right _ _ e12);
    }

-- no fault of 4
module _ (n f c : ℕ) (e : fault4 n f c ≡ false) where
  after_thirds : outside 1 most_vertices (n / 3) || (outside 1 most_faces f || outside 1 most_corners c) ≡ false
  unfolding fault4
  after_thirds = none_right (not (eqb (n % 3) 0)) _ e

  pub few_vertices : n / 3 ≤ most_vertices
  few_vertices = at_most 1 most_vertices (n / 3) (none_left (outside 1 most_vertices (n / 3)) _ after_thirds)

  pub few_faces : f ≤ most_faces
  few_faces = at_most 1 most_faces f (none_left (outside 1 most_faces f) (outside 1 most_corners c) (none_right (outside 1 most_vertices (n / 3)) _ after_thirds))

  pub few_corners : c ≤ most_corners
  few_corners = at_most 1 most_corners c
      (none_right (outside 1 most_faces f) (outside 1 most_corners c) (none_right (outside 1 most_vertices (n / 3)) _ after_thirds))

-- no fault of 5, 6, 8, 12, 27 and 28
pub sides_within : (sides : List ℕ) (f : ℕ) → fault5 sides f ≡ false → (least_sides ≤ get_or sides f 0) × (get_or sides f 0 ≤ most_sides)
unfolding fault5
sides_within sides f e = (at_least least_sides most_sides (get_or sides f 0) e, at_most least_sides most_sides (get_or sides f 0) e)

pub sums_of : (sides : List ℕ) (count : ℕ) → fault6 sides count ≡ false → sum_of sides ≡ count
unfolding fault6
sums_of sides count e = eqb-true _ _ (not-false _ e)

pub named_of : (count : ℕ) (corners : List ℕ) (c : ℕ) → fault8 count corners c ≡ false → vertex_of corners c < count
unfolding fault8
named_of count corners c e = leb-false _ _ e

pub valence_within : (corners : List ℕ) (u : ℕ) → fault12 corners u ≡ false → (least_sides ≤ valence corners u) × (valence corners u ≤ most_sides)
unfolding fault12
valence_within corners u e = (at_least least_sides most_sides (valence corners u) e, at_most least_sides most_sides (valence corners u) e)

pub sharp_length : (n corners : ℕ) → fault27 n corners ≡ false → n ≡ 2 * corners
unfolding fault27
sharp_length n corners e = eqb-true _ _ (not-false _ e)

-- within a list what stands for a number beyond it does not count
pub in_list : {A : Type 0} (l : List A) (i : ℕ) (d e : A) → i < length l → get_or l i d ≡ get_or l i e
in_list [] i d e h = absurd (omega arith)
in_list (x ∷ l) zero d e h = refl
in_list (x ∷ l) (suc i) d e h = in_list l i d e (omega arith)

-- a number beyond the list is read as 8
pub sharp_within : (M : Mesh) → Accepted M → (i : ℕ) → get_or M.sharpness i plain ≤ most_sharpness
unfolding fault28
sharp_within M a i =
    ⊎_elim
    (λ l. ltb-false most_sharpness _ ((sound_of M a).twenty_eight i (ltb-true i (length M.sharpness) l)))
    (λ l. rw (get_or-eq_default M.sharpness plain (ltb-false i (length M.sharpness) l)) (omega arith))
    (ways (ltb i (length M.sharpness)))

pub closed_of : (M : Mesh) → Faultless M → Closed M.sides M.corners
closed_of M s = record { sums = sums_of M.sides (corner_count M) s.six; ten = s.ten; eleven = s.eleven }

-- the links of closed tables, at a vertex that some corner names
module _ (sides corners : List ℕ) (k : Closed sides corners) (u c₀ : ℕ) (h₀ : c₀ < length corners) (e₀ : vertex_of corners c₀ ≡ u) where
  names_of : (c : ℕ) → names corners u c ≡ true → vertex_of corners c ≡ u
  unfolding names
  names_of c e = eqb-true _ _ e

  of_names : (c : ℕ) → vertex_of corners c ≡ u → names corners u c ≡ true
  unfolding names
  of_names c e = eq-eqb _ _ e

  lowest_in : lowest corners u < length corners
  unfolding lowest
  lowest_in = omega (arith, first_le (length corners) (names corners u) c₀ (of_names c₀ e₀))

  lowest_names : names corners u (lowest corners u) ≡ true
  unfolding lowest
  lowest_names = first_passes (length corners) (names corners u) lowest_in

  pub turns : Turns (length corners) (names corners u) (link sides corners) (lowest corners u)
  turns =
      record {
        start_in = lowest_in;
        start_of_lem = lowest_names;
        step_in = λ c h e. link_in sides corners k c h;
        step_of_lem = λ c h e. of_names (link sides corners c) (link_vertex sides corners k c h ∙ names_of c e);
        injective = λ c d hc hd ec ed q. link_injective sides corners k c d hc hd q;
      }

  -- fault 13 is that the ring of the lowest corner is not as long as the vertex has corners
  pub ring_full : fault13 sides corners u ≡ false → ring_length sides corners u ≡ valence corners u
  unfolding fault13 ring_length met after valence
  ring_full e = all_met (length corners) (names corners u) (link sides corners) (lowest corners u) turns (none (length corners) _ e)

  pub link_turn : fault13 sides corners u ≡ false → Returns (link sides corners) (valence corners u) c₀
  unfolding fault13 ring_length met after valence
  link_turn e = turn (length corners) (names corners u) (link sides corners) (lowest corners u) turns (none (length corners) _ e) c₀ h₀ (of_names c₀ e₀)

-- as many links as the vertex has corners lead back to a corner, and fewer do not
pub links_return : (M : Mesh) → Accepted M → (c : ℕ) → c < corner_count M
    → Returns (link M.sides M.corners) (valence M.corners (vertex_of M.corners c)) c
links_return M a c h =
    let s = sound_of M a in
    link_turn M.sides M.corners (closed_of M s) (vertex_of M.corners c) c h refl
    (s.thirteen _ (named_of (vertex_count M) M.corners c (s.eight c h)))

-- as many steps to the next corner as the face has sides lead back, and fewer do not
module _ (sides : List ℕ) (c : ℕ) (h : c < sum_of sides) where
  inner : (j : ℕ) → j < sides_of sides c → (first_of sides (first_of sides c + j) ≡ first_of sides c) × (sides_of sides (first_of sides c + j) ≡ sides_of sides c)
  inner j l = (first_same sides c h (first_of sides c + j) (omega arith) (omega arith), sides_same sides c h (first_of sides c + j) (omega arith) (omega arith))

  pub next_along : (j : ℕ) → j < sides_of sides c → iterate j (next sides) (first_of sides c) ≡ first_of sides c + j
  next_along zero l = iterate_zero (next sides) (first_of sides c) ∙ omega arith
  next_along (suc j) l =
      let i = inner j (omega arith) in
      iterate_suc (next sides) j (first_of sides c) ∙ ap (next sides) (next_along j (omega arith))
      ∙ next_inner sides (first_of sides c + j) (omega arith) ∙ omega arith

  round : (n : ℕ) → n ≡ sides_of sides c → iterate n (next sides) (first_of sides c) ≡ first_of sides c
  round zero e = absurd (omega (arith, first_from_lem sides c h, first_to sides c h))
  round (suc j) e =
      let i = inner j (omega arith) in
      iterate_suc (next sides) j (first_of sides c) ∙ ap (next sides) (next_along j (omega arith)) ∙ next_last sides (first_of sides c + j) (omega arith) ∙ i.0

  pub next_turn : Returns (next sides) (sides_of sides c) c
  next_turn =
      let f = first_from_lem sides c h in
      let t = first_to sides c h in
      let p = c - first_of sides c in
      let q : iterate p (next sides) (first_of sides c) ≡ c = next_along p (omega arith) ∙ omega arith in
      let w = round (sides_of sides c) refl in
      record {
        back =
            subst (λ (x : ℕ). iterate (sides_of sides c) (next sides) x ≡ x) q
            (iterate_swap (next sides) (sides_of sides c) p (first_of sides c) ∙ ap (iterate p (next sides)) w);
        before = λ j a b r.
            let r' : iterate (j + p) (next sides) (first_of sides c) ≡ c =
            sym (iterate_add (next sides) j p (first_of sides c)) ∙ ap (iterate j (next sides)) q ∙ r in
            ⊎_elim
            (λ l. let l' : j + p < sides_of sides c = ltb-true _ _ l in omega (arith, next_along (j + p) l'))
            (λ l. let l' : sides_of sides c ≤ j + p = ltb-false _ _ l in
            let m = j + p - sides_of sides c in
            let e : j + p ≡ m + sides_of sides c = omega arith in
            let z : iterate (m + sides_of sides c) (next sides) (first_of sides c) ≡ first_of sides c + m =
            sym (iterate_add (next sides) m (sides_of sides c) (first_of sides c)) ∙ ap (iterate m (next sides)) w ∙ next_along m (omega arith) in
            omega (arith, sym (ap (λ (k : ℕ). iterate k (next sides) (first_of sides c)) e) ∙ r', z))
            (ways (ltb (j + p) (sides_of sides c)));
      }
