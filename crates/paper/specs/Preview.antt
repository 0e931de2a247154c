-- L9, try a vertex before moving it: what building would answer and write with that vertex moved, the call; and the corners whose quad-nets the
-- vertex can change, as marks, the call.
use Rattle.std.specs.Prelude.{Bool, not, ◌&&◌, List, ℕ, ◌+◌, ◌*◌, leb, eqb, length, set, ℤ}
use Rattle.paper.specs.Scan.{pick_n, some_below, values_from}
use Rattle.paper.specs.Mesh.{Mesh, mesh_of, vertex_count, corner_count}
use Rattle.paper.specs.Corners.{face_of}
use Rattle.paper.specs.Links.{vertex_of, names}
use Rattle.paper.specs.Faults.{Verdict, ◌or_else◌, single, verdict, Answered, Answer}
use Rattle.paper.specs.File.{no_room}
use Rattle.paper.specs.Calls.{nets, build_verdict}
use Rattle.paper.specs.declared.Move.{Move}

abbrev pub move_of : ℕ → ℤ → ℤ → ℤ → Move
move_of vertex x y z = record { vertex = vertex; x = x; y = y; z = z }

-- a copy of the coordinate list with that vertex at these three; all else is as it was
unfoldable pub moved_list : List ℤ → Move → List ℤ
moved_list l m = set (set (set l (3 * m.vertex) m.x) (3 * m.vertex + 1) m.y) (3 * m.vertex + 2) m.z

abbrev pub moved : Mesh → Move → Mesh
moved M m = mesh_of (moved_list M.coordinates m) M.sides M.corners M.sharpness

-- 29: the vertex is not below a third of the coordinate list's length, rounded down
unfoldable pub fault29 : Mesh → ℕ → Bool
fault29 M u = leb (vertex_count M) u

abbrev pub vertex_verdict : Mesh → ℕ → Verdict
vertex_verdict M u = single 29 (fault29 M u) u

-- 29 before everything else, then as building of the moved mesh
unfoldable pub preview_verdict : Mesh → Move → List ℕ → ℕ → ℕ → ℕ → Verdict
preview_verdict M m links first count n = vertex_verdict M m.vertex or_else build_verdict (moved M m) links first count n

-- a call of the preview on the lists M, which takes what building takes, with a vertex and three coordinates: it writes the nets of the moved mesh
abbrev pub Previewed : Mesh → Move → List ℕ → ℕ → ℕ → List ℤ → Answer → List ℤ → Type 0
Previewed M m links first count old = Answered (preview_verdict M m links first count (length old)) (nets (moved M m) first count) old

-- ---- the corners that a vertex can change. A quad-net is made of refined points in the faces at its corner's vertex, and a refined point of the
-- vertices of its face and its corner's two sharpness numbers, which no move changes
-- the face of corner d has the vertex u
unfoldable pub has_vertex : List ℕ → List ℕ → ℕ → ℕ → Bool
has_vertex sides corners u d = some_below (length corners) (λ e. eqb (face_of sides e) (face_of sides d) && names corners u e)

-- one of the faces at vertex w has the vertex u
unfoldable pub touches_at : List ℕ → List ℕ → ℕ → ℕ → Bool
touches_at sides corners u w = some_below (length corners) (λ d. names corners w d && has_vertex sides corners u d)

-- u can change the quad-net of corner c
abbrev pub touches : List ℕ → List ℕ → ℕ → ℕ → Bool
touches sides corners u c = touches_at sides corners u (vertex_of corners c)

-- a mark for each corner: 1 where the vertex can change its quad-net, else 0
unfoldable pub touch_marks : List ℕ → List ℕ → ℕ → List ℕ
touch_marks sides corners u = values_from (λ c. pick_n (touches sides corners u c) 1 0) 0 (length corners)

-- 29, then 4 to 13 with 27 and 28; then our own number where the lent list has not a mark for each corner (place: the corner count)
unfoldable pub touched_verdict : Mesh → ℕ → ℕ → Verdict
touched_verdict M u n = vertex_verdict M u or_else verdict M or_else single no_room (not (eqb n (corner_count M))) (corner_count M)

-- a call on the lists M and a vertex, with a lent list of marks that held `old`: it writes the marks
abbrev pub Touched : Mesh → ℕ → List ℕ → Answer → List ℕ → Type 0
Touched M u old = Answered (touched_verdict M u (length old)) (touch_marks M.sides M.corners u) old
