-- L7, is it all squares? A face with four sides and a vertex with four corners are regular, any other is irregular. The lowest irregular face, else the
-- lowest irregular vertex, else none, with the side counts that the search reads; the call; and what the lines of `inspect` say of it.
use Rattle.std.specs.Prelude.{◌≡◌, Bool, true, false, not, ◌&&◌, List, ℕ, ◌+◌, ltb, eqb, get_or, Option, Some, None, Ok, Err}
use Rattle.paper.specs.Scan.{first_below, some_below}
use Rattle.paper.specs.Mesh.{most_sides, Mesh, vertex_count, face_count}
use Rattle.paper.specs.Links.{valence}
use Rattle.paper.specs.Faults.{Verdict, sound, fault, verdict, Told}
use Rattle.paper.specs.declared.Counts.{Counts}
use Rattle.paper.specs.declared.Irregular.{Irregular}
use Rattle.paper.specs.declared.Irregular.TheVariants.{Face, Vertex}
use Rattle.paper.specs.declared.Search.{Search}

-- face f has not four sides; vertex u has not four corners
unfoldable pub irregular_face : List ℕ → ℕ → Bool
irregular_face sides f = not (eqb (get_or sides f 0) 4)

unfoldable pub irregular_vertex : List ℕ → ℕ → Bool
irregular_vertex corners u = not (eqb (valence corners u) 4)

-- ---- number and values of each case: a face or a vertex or none, with the side counts read; or number and place
pub data SearchCase : Type 0 where
  face_found : ℕ → ℕ → SearchCase
  vertex_found : ℕ → ℕ → SearchCase
  none_found : ℕ → SearchCase
  search_refused : ℕ → ℕ → SearchCase

abbrev pub case_of : Option Irregular → ℕ → SearchCase
case_of (Some (Face f)) read = face_found f read
case_of (Some (Vertex u)) read = vertex_found u read
case_of None read = none_found read

abbrev pub irregular_stated : Told Search → SearchCase
irregular_stated (Ok search) = case_of search.found search.read
irregular_stated (Err refusal) = search_refused refusal.number refusal.place

-- ---- the search
abbrev pub pick_case : Bool → SearchCase → SearchCase → SearchCase
pick_case true s t = s
pick_case false s t = t

abbrev pub lowest_face : Mesh → ℕ
lowest_face M = first_below (face_count M) (irregular_face M.sides)

abbrev pub lowest_vertex : Mesh → ℕ
lowest_vertex M = first_below (vertex_count M) (irregular_vertex M.corners)

-- the lowest such face, else the lowest such vertex, else none; the side counts read are the face plus one, or all of them
unfoldable pub found : Mesh → SearchCase
found M =
    pick_case (some_below (face_count M) (irregular_face M.sides)) (face_found (lowest_face M) (lowest_face M + 1))
    (pick_case (some_below (vertex_count M) (irregular_vertex M.corners)) (vertex_found (lowest_vertex M) (face_count M))
    (none_found (face_count M)))

abbrev pub search_unless : Verdict → SearchCase → SearchCase
search_unless sound s = s
search_unless (fault number place) s = search_refused number place

-- 4 to 13 first
unfoldable pub irregular_of : Mesh → SearchCase
irregular_of M = search_unless (verdict M) (found M)

-- ---- a call on a mesh answers r
pub record Searched (M : Mesh) (r : Told Search) : Type 0 where
  pub answers : irregular_stated r ≡ irregular_of M

-- ---- the lines of `inspect`, which are those of the counts
-- line m is not 4's, and counts something
abbrev pub other_line : List ℕ → ℕ → Bool
other_line counted m = not (eqb m 4) && ltb 0 (get_or counted m 0)

-- such a line counts faces; vertices
unfoldable pub counts_faces : Counts → Bool
counts_faces lines = some_below (most_sides + 1) (other_line lines.sided)

unfoldable pub counts_vertices : Counts → Bool
counts_vertices lines = some_below (most_sides + 1) (other_line lines.cornered)

abbrev pub is_face : Option Irregular → Bool
is_face (Some (Face f)) = true
is_face (Some (Vertex u)) = false
is_face None = false

abbrev pub is_vertex : Option Irregular → Bool
is_vertex (Some (Face f)) = false
is_vertex (Some (Vertex u)) = true
is_vertex None = false

-- what a search finds agrees with the lines
pub record Agreed (lines : Counts) (found : Option Irregular) : Type 0 where
  -- a face exactly when a later line other than 4's counts faces
  pub faces : is_face found ≡ counts_faces lines
  -- else a vertex exactly when such a line counts vertices
  pub vertices : counts_faces lines ≡ false → is_vertex found ≡ counts_vertices lines
