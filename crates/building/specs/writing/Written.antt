-- What the walk to the ends of a face takes, the tables that draw the nets of a range, and the output while it is written, face by face.
use Rattle.std.specs.Prelude.{◌≡◌, List, ℕ, ◌+◌, ◌*◌, ◌<◌, ◌≤◌, length, get_or, ℤ, pos}
use Rattle.paper.specs.Mesh.{Mesh, corner_count}
use Rattle.paper.specs.Corners.{sum_of, sides_of, previous}
use Rattle.paper.specs.Numbers.{rounded}
use Rattle.paper.specs.Refined.{RefinedMesh, refined_of}
use Rattle.paper.specs.Net.{net, net_points}
use Rattle.paper.specs.Calls.{per_corner}
use Rattle.walk.specs.Table.{row_length, to_previous, sides_here, Column}
use Rattle.net.specs.Drawn.{drawn, Drawn}
use Rattle.face_sums.specs.Sums.{FacesWithin}

-- the table leads from each corner to the previous one of its face, and has the sides of the face
pub record WalksFaces (sides table : List ℕ) : Type 0 where
  pub faces : FacesWithin sides
  pub long : row_length * sum_of sides ≤ length table
  pub previouses : Column table to_previous (previous sides) (sum_of sides)
  pub counts : Column table sides_here (sides_of sides) (sum_of sides)

-- it does so for a list of sides, of which c is a corner
pub record InFace (table : List ℕ) (c : ℕ) : Type 0 where
  pub sides : List ℕ
  pub rounds : WalksFaces sides table
  pub here : c < sum_of sides

-- it does so for a list of sides with n corners
pub record Faced (n : ℕ) (table : List ℕ) : Type 0 where
  pub sides : List ℕ
  pub rounds : WalksFaces sides table
  pub all : sum_of sides ≡ n

-- the tables draw the mesh M, as far as the nets of `count` corners from `first` on look
pub record NetsDrawn (M : Mesh) (table : List ℕ) (points : List ℤ) (first count : ℕ) : Type 0 where
  pub draws : Drawn (corner_count M) table points
  pub faced : Faced (corner_count M) table
  pub nets_are : (axis k : ℕ) → axis < 3 → k < count → net (refined_of rounded M axis) (first + k) ≡ net (drawn (corner_count M) table points axis) (first + k)

-- the numbers of `count` corners from `first` on, of the mesh K on each axis
unfoldable pub NetsWritten : (ℕ → RefinedMesh rounded) → ℕ → ℕ → List ℤ → Type 0
NetsWritten K first count out =
    (a j p : ℕ) → a < 3 → j < count → p < net_points → get_or out (per_corner * j + 3 * p + a) (pos 0) ≡ get_or (net (K a) (first + j)) p (pos 0)
