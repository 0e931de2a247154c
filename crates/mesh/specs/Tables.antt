-- What tables over the corners hold.
use Rattle.std.specs.Prelude.{◌≡◌, List, ℕ, ◌≤◌, ◌<◌, length}
use Rattle.paper.specs.Mesh.{most_corners}
use Rattle.paper.specs.Links.{vertex_of}

-- the rows of the short tables, and of the longer ones of a large mesh
abbrev pub small_mesh : ℕ
small_mesh = 256

abbrev pub large_mesh : ℕ
large_mesh = 4096

-- a table for `count` corners or vertices has r rows
abbrev pub TableRows : ℕ → ℕ → Type 0
TableRows count r =
    (count ≤ small_mesh → r ≡ small_mesh) × (small_mesh < count → count ≤ large_mesh → r ≡ large_mesh) × (large_mesh < count → r ≡ most_corners)

-- the vertex of every corner has a place in a table of n entries
abbrev pub Named : List ℕ → ℕ → Type 0
Named corners n = (c : ℕ) → c < length corners → vertex_of corners c < n
