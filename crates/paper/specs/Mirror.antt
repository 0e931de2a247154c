-- A mesh and its mirror, in which one axis is negated and nothing else altered: what holds of linking and building on the two.
use Rattle.std.specs.Prelude.{◌≡◌, Bool, true, false, List, ℕ, ◌%◌, eqb, length, get_or, ℤ, pos, neg_ℤ}
use Rattle.paper.specs.Scan.{values_from}
use Rattle.paper.specs.Mesh.{Mesh, mesh_of}
use Rattle.paper.specs.Links.{link_table}
use Rattle.paper.specs.Faults.{verdict, Accepted, link_verdict, done}
use Rattle.paper.specs.Calls.{build_verdict, Built}

-- ---- one axis negated, 0 for x, 1 for y, 2 for z: in a list of x, y, z, x, y, z .. the numbers of that axis. Coordinate lists and outputs are such lists
abbrev pub negated_if : Bool → ℤ → ℤ
negated_if true z = neg_ℤ z
negated_if false z = z

unfoldable pub negate_axis : ℕ → List ℤ → List ℤ
negate_axis axis l = values_from (λ i. negated_if (eqb (i % 3) axis) (get_or l i (pos 0))) 0 (length l)

abbrev pub mirrored : ℕ → Mesh → Mesh
mirrored axis M = mesh_of (negate_axis axis M.coordinates) M.sides M.corners M.sharpness

pub record Mirror (axis : ℕ) (M : Mesh) : Type 0 where
  -- the same fault of the lists or none, so the mirror is accepted exactly when the mesh is
  pub verdicts : verdict (mirrored axis M) ≡ verdict M
  pub accepted : (Accepted M → Accepted (mirrored axis M)) × (Accepted (mirrored axis M) → Accepted M)
  -- linking and building answer the same
  pub link_verdicts : (n : ℕ) → link_verdict (mirrored axis M) n ≡ link_verdict M n
  pub build_verdicts :
      (links : List ℕ) (first count n : ℕ) → build_verdict (mirrored axis M) links first count n ≡ build_verdict M links first count n
  -- the same link table
  pub tables : link_table (mirrored axis M) ≡ link_table M
  -- of two calls of building with the same range, neither refused: each control point that the second leaves is that of the first with the axis
  -- negated and the other two coordinates equal
  pub points :
      (first count : ℕ) (links links' : List ℕ) (old old' out out' : List ℤ)
      → Built M links first count old done out → Built (mirrored axis M) links' first count old' done out' → out' ≡ negate_axis axis out
