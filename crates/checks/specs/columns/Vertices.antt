-- The table of vertices, scratch of the checks: a row of four numbers for each vertex.
use Rattle.std.specs.Prelude.{◌≡◌, List, ℕ, ◌+◌, ◌*◌, ◌<◌, ◌≤◌, length, get_or}
use Rattle.paper.specs.Links.{vertex_of}

abbrev pub vertex_row : ℕ
vertex_row = 4

-- ---- the columns: one more than the last corner met; by the far end of an edge, one more than a corner that it leaves and one where
-- it arrives; how many corners name the vertex. The lowest of them takes the place of the last one once it is known
abbrev pub last_here : ℕ
last_here = 0

abbrev pub leaving_here : ℕ
leaving_here = 1

abbrev pub arriving_here : ℕ
arriving_here = 2

abbrev pub count_here : ℕ
count_here = 3

abbrev pub lowest_here : ℕ
lowest_here = 0

-- what is noted in column k of vertex u
abbrev pub noted : List ℕ → ℕ → ℕ → ℕ
noted vertices k u = get_or vertices (vertex_row * u + k) 0

-- column k holds what it held
abbrev pub NotesKept : List ℕ → List ℕ → ℕ → Type 0
NotesKept old new k = (u : ℕ) → noted new k u ≡ noted old k u

-- vertex u has a row
abbrev pub HasRow : List ℕ → ℕ → Type 0
HasRow vertices u = vertex_row * u + vertex_row ≤ length vertices

-- the vertex of every corner has one
abbrev pub Rowed : List ℕ → List ℕ → Type 0
Rowed corners vertices = (c : ℕ) → c < length corners → HasRow vertices (vertex_of corners c)
