-- Edges and links, over the side counts and the corner list; the corners of a vertex.
use Rattle.std.specs.Prelude.{Bool, ◌&&◌, List, ℕ, eqb, length, get_or}
use Rattle.paper.specs.Scan.{first_below, count_below, values_from}
use Rattle.paper.specs.Mesh.{Mesh}
use Rattle.paper.specs.Corners.{next, previous}

-- the vertex of a corner
abbrev pub vertex_of : List ℕ → ℕ → ℕ
vertex_of corners c = get_or corners c 0

-- c's leaving edge runs from c's vertex to this one; its arriving edge comes from this one
unfoldable pub leaves_to : List ℕ → List ℕ → ℕ → ℕ
leaves_to sides corners c = vertex_of corners (next sides c)

unfoldable pub arrives_from : List ℕ → List ℕ → ℕ → ℕ
arrives_from sides corners c = vertex_of corners (previous sides c)

-- d is at c's vertex and its arriving edge is the reverse of c's leaving edge
unfoldable pub linked : List ℕ → List ℕ → ℕ → ℕ → Bool
linked sides corners c d = eqb (vertex_of corners d) (vertex_of corners c) && eqb (arrives_from sides corners d) (leaves_to sides corners c)

-- 01's link of c: "the corner d of the same vertex whose arriving edge is the reverse of c's leaving edge"
unfoldable pub link : List ℕ → List ℕ → ℕ → ℕ
link sides corners c = first_below (length corners) (linked sides corners c)

-- the link table: what linking writes
unfoldable pub link_table : Mesh → List ℕ
link_table M = values_from (link M.sides M.corners) 0 (length M.corners)

-- d's leaving edge is c's, with its direction
unfoldable pub same_edge : List ℕ → List ℕ → ℕ → ℕ → Bool
same_edge sides corners c d = eqb (vertex_of corners d) (vertex_of corners c) && eqb (leaves_to sides corners d) (leaves_to sides corners c)

-- d's leaving edge is the reverse of c's
unfoldable pub reverse_edge : List ℕ → List ℕ → ℕ → ℕ → Bool
reverse_edge sides corners c d = eqb (vertex_of corners d) (leaves_to sides corners c) && eqb (leaves_to sides corners d) (vertex_of corners c)

-- the corner whose leaving edge is the reverse of c's
unfoldable pub reverse : List ℕ → List ℕ → ℕ → ℕ
reverse sides corners c = first_below (length corners) (reverse_edge sides corners c)

-- corner c names vertex u; how many corners name it; the lowest of them
unfoldable pub names : List ℕ → ℕ → ℕ → Bool
names corners u c = eqb (vertex_of corners c) u

unfoldable pub valence : List ℕ → ℕ → ℕ
valence corners u = count_below (length corners) (names corners u)

unfoldable pub lowest : List ℕ → ℕ → ℕ
lowest corners u = first_below (length corners) (names corners u)
