-- What the functions over the table of corners assume: it is an accepted mesh's; what each gives holds of every such mesh.
use Rattle.std.specs.Prelude.{◌≡◌, List, ℕ, ◌≤◌, ◌<◌, length, get_or}
use Rattle.paper.specs.Mesh.{Mesh, corner_count}
use Rattle.paper.specs.Links.{vertex_of, lowest}
use Rattle.paper.specs.Faults.{Accepted}
use Rattle.paper.specs.Refined.{corners_of}
use Rattle.paper.specs.Sampling.{most_parts}
use Rattle.paper.specs.Triangles.{level}
use Rattle.walk.specs.Table.{Tabled}

-- c is a corner of the accepted mesh M, whose table this is; of some mesh
pub record Here (M : Mesh) (table : List ℕ) (c : ℕ) : Type 0 where
  pub accepted : Accepted M
  pub tabled : Tabled (corners_of M) table
  pub below : c < corner_count M

pub record Place (table : List ℕ) (c : ℕ) : Type 0 where
  pub mesh : Mesh
  pub here : Here mesh table c

-- and the level list has a level for each of its corners
pub record Wide (table levels : List ℕ) (c : ℕ) : Type 0 where
  pub mesh : Mesh
  pub here : Here mesh table c
  pub many : length levels ≡ corner_count mesh
  pub leveled : (c : ℕ) → c < corner_count mesh → (1 ≤ level levels c) × (level levels c ≤ most_parts)

-- the table of low has the lowest corner of each vertex
pub record Lowests (corners low : List ℕ) : Type 0 where
  pub named : (c : ℕ) → c < length corners → vertex_of corners c < length low
  pub lowests : (c : ℕ) → c < length corners → get_or low (vertex_of corners c) 0 ≡ lowest corners (vertex_of corners c)
