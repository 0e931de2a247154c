-- "Why a mesh is turned down": 4 to 13 with 27 and 28, each with its places, and the verdict that tries them in their order; 14; what an answer states,
-- what a lent space holds after it, and a call that fills one.
use Rattle.std.specs.Prelude.{◌≡◌, Bool, true, false, not, ◌&&◌, ◌||◌, List, ℕ, suc, ◌-◌, ◌*◌, ◌/◌, ◌%◌, ltb, leb, eqb, length, get_or, ℤ, pos, negsuc, Result, Ok, Err}
use Rattle.std.specs.Int.Signed.{lt_z}
use Rattle.paper.specs.Scan.{first_below, some_below, iterate}
use Rattle.paper.specs.Mesh.{least_sides, most_sides, most_vertices, most_faces, most_corners, most_coordinate, most_sharpness, plain, Mesh}
use Rattle.paper.specs.Mesh.{vertex_count, face_count, corner_count}
use Rattle.paper.specs.Corners.{sum_of, first_of}
use Rattle.paper.specs.Links.{vertex_of, same_edge, reverse_edge, link, names, valence, lowest}
use Rattle.paper.specs.declared.Refusal.{Refusal}

-- a verdict: what the checks of an input find, which is no fault, or the number and the place of the first one ("The answer is number and place")
pub data Verdict : Type 0 where
  sound : Verdict
  fault : ℕ → ℕ → Verdict

-- the later checks count where the earlier ones find nothing
infixr 25 ◌or_else◌
unfoldable pub ◌or_else◌ : Verdict → Verdict → Verdict
sound or_else w = w
fault k p or_else w = fault k p

-- fault k at place p where the test holds
unfoldable pub single : ℕ → Bool → ℕ → Verdict
single k true p = fault k p
single k false p = sound

-- fault k at the lowest place below n where the test holds
unfoldable pub lowest_of : ℕ → ℕ → (ℕ → Bool) → Verdict
lowest_of k n f = single k (some_below n f) (first_below n f)

abbrev pub outside : ℕ → ℕ → ℕ → Bool
outside low high n = ltb n low || ltb high n

-- 4: the lists' lengths
unfoldable pub fault4 : ℕ → ℕ → ℕ → Bool
fault4 coordinates faces corners =
    not (eqb (coordinates % 3) 0) || (outside 1 most_vertices (coordinates / 3) || (outside 1 most_faces faces || outside 1 most_corners corners))

-- 27: the sharpness list is not twice as long as the corner list
unfoldable pub fault27 : ℕ → ℕ → Bool
fault27 sharpness corners = not (eqb sharpness (2 * corners))

-- 5: a face's side count
unfoldable pub fault5 : List ℕ → ℕ → Bool
fault5 sides f = outside least_sides most_sides (get_or sides f 0)

-- 6: the side counts do not sum to the corner count
unfoldable pub fault6 : List ℕ → ℕ → Bool
fault6 sides count = not (eqb (sum_of sides) count)

-- 7: a coordinate
unfoldable pub fault7 : List ℤ → ℕ → Bool
fault7 coordinates i = lt_z (get_or coordinates i (pos 0)) (negsuc (most_coordinate - 1)) || lt_z (pos most_coordinate) (get_or coordinates i (pos 0))

-- 8: a corner names no vertex below the count
unfoldable pub fault8 : ℕ → List ℕ → ℕ → Bool
fault8 count corners c = leb count (vertex_of corners c)

-- 28: a sharpness number
unfoldable pub fault28 : List ℕ → ℕ → Bool
fault28 sharpness i = ltb most_sharpness (get_or sharpness i plain)

-- 9: a corner names the vertex of an earlier corner d of its face, whose first corner is `first`
unfoldable pub same_vertex_from : ℕ → List ℕ → ℕ → ℕ → Bool
same_vertex_from first corners c d = leb first d && eqb (vertex_of corners d) (vertex_of corners c)

unfoldable pub fault9 : List ℕ → List ℕ → ℕ → Bool
fault9 sides corners c = some_below c (same_vertex_from (first_of sides c) corners c)

-- 10: the leaving edge already left an earlier corner
unfoldable pub fault10 : List ℕ → List ℕ → ℕ → Bool
fault10 sides corners c = some_below c (same_edge sides corners c)

-- 11: the leaving edge has no reverse among the leaving edges
unfoldable pub fault11 : List ℕ → List ℕ → ℕ → Bool
fault11 sides corners c = not (some_below (length corners) (reverse_edge sides corners c))

-- 12: the corners that name a vertex are too few or too many
unfoldable pub fault12 : List ℕ → ℕ → Bool
fault12 corners u = outside least_sides most_sides (valence corners u)

-- 13: a corner of the vertex is not met when links are followed from its lowest corner until that corner comes back.
-- The corner after j links; the steps until the lowest corner comes back; whether c is met in them
unfoldable pub after : List ℕ → List ℕ → ℕ → ℕ → ℕ
after sides corners u j = iterate j (link sides corners) (lowest corners u)

unfoldable pub ring_length : List ℕ → List ℕ → ℕ → ℕ
ring_length sides corners u = suc (first_below (length corners) (λ j. eqb (after sides corners u (suc j)) (lowest corners u)))

unfoldable pub met : List ℕ → List ℕ → ℕ → ℕ → Bool
met sides corners u c = some_below (ring_length sides corners u) (λ j. eqb (after sides corners u j) c)

unfoldable pub fault13 : List ℕ → List ℕ → ℕ → Bool
fault13 sides corners u = some_below (length corners) (λ c. names corners u c && not (met sides corners u c))

-- each is tried over the whole input before the next: 4 to 9, of the lists themselves, with 27 after 4 and 28 after 8
unfoldable pub list_faults : Mesh → Verdict
list_faults M =
    single 4 (fault4 (length M.coordinates) (face_count M) (corner_count M)) 0
    or_else single 27 (fault27 (length M.sharpness) (corner_count M)) (length M.sharpness)
    or_else lowest_of 5 (face_count M) (fault5 M.sides)
    or_else single 6 (fault6 M.sides (corner_count M)) (sum_of M.sides)
    or_else lowest_of 7 (length M.coordinates) (fault7 M.coordinates)
    or_else lowest_of 8 (corner_count M) (fault8 (vertex_count M) M.corners)
    or_else lowest_of 28 (length M.sharpness) (fault28 M.sharpness)
    or_else lowest_of 9 (corner_count M) (fault9 M.sides M.corners)

-- then 10 to 13, of edges and vertices
unfoldable pub link_faults : Mesh → Verdict
link_faults M =
    lowest_of 10 (corner_count M) (fault10 M.sides M.corners)
    or_else lowest_of 11 (corner_count M) (fault11 M.sides M.corners)
    or_else lowest_of 12 (vertex_count M) (fault12 M.corners)
    or_else lowest_of 13 (vertex_count M) (fault13 M.sides M.corners)

-- the verdict on a mesh, of 4 to 13 with 27 and 28
unfoldable pub verdict : Mesh → Verdict
verdict M = list_faults M or_else link_faults M

-- 01's accepted: "A mesh is accepted when its lists have no fault of 4 to 13, nor one that a later request puts among these", which are 27 and 28
abbrev pub Accepted : Mesh → Type 0
Accepted M = verdict M ≡ sound

-- 14: the link table's length; linking is checked by 4 to 14
unfoldable pub link_verdict : Mesh → ℕ → Verdict
link_verdict M n = verdict M or_else single 14 (not (eqb n (corner_count M))) n

-- what a call answers: a value, or a refusal; and of a call that has no value to tell, that it is done, or a refusal
abbrev pub Told : Type 0 → Type 0
Told A = Result A Refusal

abbrev pub Answer : Type 0
Answer = Told (Unit {0})

abbrev pub done : Answer
done = Ok tt

-- 01's number and place of each case
abbrev pub stated : {A : Type 0} → Told A → Verdict
stated (Ok value) = sound
stated (Err refusal) = fault refusal.number refusal.place

-- the new contents where nothing is refused, else the old ones
abbrev pub kept : {A : Type 0} → Verdict → A → A → A
kept sound new old = new
kept (fault number place) new old = old

-- ---- a call that answers r and fills one lent list, which held `old` and holds `out` afterwards: v is its verdict, and `new` is what it writes
pub record Answered {A : Type 0} (v : Verdict) (new old : A) (r : Answer) (out : A) : Type 0 where
  -- the answer states the verdict
  pub answers : stated r ≡ v
  -- the list holds what is written, or after a refusal what it held
  pub holds : out ≡ kept (stated r) new old
