-- The corners beside a corner's net, and the owner of an edge's point.
use mathlib.Core.Path.{◌≡◌}
use Prim.Native.Nat.{ℕ, ◌<◌, min}
use native.Mathlib.Omega.{arith}
use Rattle.paper.specs.Mesh.{Mesh, corner_count}
use Rattle.paper.specs.Corners.{previous}
use Rattle.paper.specs.Links.{link, reverse}
use Rattle.paper.specs.Faults.{Accepted}
use Rattle.paper.specs.Net.{Side, side0, side1, side2, side3, across}
use Rattle.paper.specs.Borders.{beside}
use Rattle.paper.specs.Triangles.{edge_owner}
use Rattle.mesh.proofs.Links.{previous_link}
use Rattle.mesh.proofs.Accepted.{sound_of, closed_of}
use Rattle.mesh.proofs.Theorems.{manifold}
use Rattle.strips.proofs.Cases.{pick_less}

-- ---- neighbours
module _ (M : Mesh) (ok : Accepted M) (c : ℕ) (h : c < corner_count M) where
  pub beside_below : (s : Side) → beside M c s < corner_count M
  beside_below side0 = (manifold M ok c h).link_below
  beside_below side1 = (manifold M ok c h).next_below
  beside_below side2 = (manifold M ok c h).previous_below
  beside_below side3 =
      let m = manifold M ok c h in
      (manifold M ok (link M.sides M.corners (previous M.sides c)) (manifold M ok (previous M.sides c) m.previous_below).link_below).previous_below

  pub beside_back : (s : Side) → beside M (beside M c s) (across s) ≡ c
  beside_back side0 = (manifold M ok c h).unlinked
  beside_back side1 = (manifold M ok c h).previous_next
  beside_back side2 = (manifold M ok c h).next_previous
  beside_back side3 = (manifold M ok c h).relinked

  pub reverse_is : previous M.sides (link M.sides M.corners c) ≡ reverse M.sides M.corners c
  reverse_is = previous_link M.sides M.corners (closed_of M (sound_of M ok)) c h

pub edge_lower : (M : Mesh) (c : ℕ) → edge_owner M c ≡ min c (reverse M.sides M.corners c)
unfolding edge_owner
edge_lower M c = pick_less c (reverse M.sides M.corners c) c (reverse M.sides M.corners c) (λ l e. omega arith) (λ l e. omega arith)
