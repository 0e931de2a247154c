-- "Refined point", with the sharpness numbers of L8: the corners of a mesh as the construction sees them, which are the same on every axis, and the refined
-- points of one axis.
use Rattle.std.specs.Prelude.{ℕ, ◌+◌, ◌-◌, ◌*◌, get_or, ℤ, pos, ◌+ℤ◌, ◌*ℤ◌}
use Rattle.paper.specs.Mesh.{Mesh, plain, corner_count}
use Rattle.paper.specs.Corners.{start_of, face_of, sides_of, next, previous}
use Rattle.paper.specs.Links.{vertex_of, link, valence}
use Rattle.paper.specs.Numbers.{Numbers, sum}

-- a mesh as functions of its corners; a walk of 01 takes the steps `next`, `previous` and `link`
pub record Corners : Type 0 where
  pub count : ℕ
  pub next : ℕ → ℕ
  pub previous : ℕ → ℕ
  pub link : ℕ → ℕ
  -- sides of a corner's face, corners of its vertex
  pub sides : ℕ → ℕ
  pub valence : ℕ → ℕ

-- ---- one axis: the corners, and each corner's refined point in ticks
pub record RefinedMesh (S : Numbers) : Type 0 where
  pub corners : Corners
  pub point : ℕ → S.Number

-- a tick is 1/256 of a grid step
abbrev pub ticks_per_step : ℕ
ticks_per_step = 256

-- P: the vertex of a corner in ticks
unfoldable pub ticks : Mesh → ℕ → ℕ → ℤ
ticks M axis c = pos ticks_per_step *ℤ get_or M.coordinates (3 * vertex_of M.corners c + axis) (pos 0)

-- Σ: the sum of a face's vertices
unfoldable pub face_sum : Mesh → ℕ → ℕ → ℤ
face_sum M axis f = sum (λ j. ticks M axis (start_of M.sides f + j)) (get_or M.sides f 0)

-- u and v of a corner: u goes with the next vertex of the face, v with the previous one
unfoldable pub u_of : Mesh → ℕ → ℕ
u_of M c = get_or M.sharpness (2 * c) plain

unfoldable pub v_of : Mesh → ℕ → ℕ
v_of M c = get_or M.sharpness (2 * c + 1) plain

-- V: the refined point of corner c, r((2(16-u)(16-v)Σ + n((16-u)v·P[i-1] + 16(u+v)P[i] + u(16-v)P[i+1])) / 512n);
-- and that of 01, r((2Σ + n(P[i-1] + 4P[i] + P[i+1])) / 8n)
module _ (S : Numbers) where
  infixl 7 ◌÷◌
  open S use {Number, whole, ◌÷◌}

  unfoldable pub refined_point : Mesh → ℕ → ℕ → Number
  refined_point M axis c =
      let n = sides_of M.sides c in
      let u = u_of M c in
      let v = v_of M c in
      whole
      (pos (2 * (16 - u) * (16 - v)) *ℤ face_sum M axis (face_of M.sides c)
      +ℤ pos n
      *ℤ (pos ((16 - u) * v) *ℤ ticks M axis (previous M.sides c)
      +ℤ pos (16 * (u + v)) *ℤ ticks M axis c
      +ℤ pos (u * (16 - v)) *ℤ ticks M axis (next M.sides c)))
      ÷ (512 * n)

  unfoldable pub point_of01 : Mesh → ℕ → ℕ → Number
  point_of01 M axis c =
      let n = sides_of M.sides c in
      whole
      (pos 2 *ℤ face_sum M axis (face_of M.sides c)
      +ℤ pos n *ℤ (ticks M axis (previous M.sides c) +ℤ pos 4 *ℤ ticks M axis c +ℤ ticks M axis (next M.sides c)))
      ÷ (8 * n)

-- the corners of a mesh
abbrev pub corners_of : Mesh → Corners
corners_of M = record {
  count = corner_count M;
  next = next M.sides;
  previous = previous M.sides;
  link = link M.sides M.corners;
  sides = sides_of M.sides;
  valence = λ c. valence M.corners (vertex_of M.corners c);
}

-- the refined mesh on an axis: 0 for x, 1 for y, 2 for z
abbrev pub refined_of : (S : Numbers) → Mesh → ℕ → RefinedMesh S
refined_of S M axis = record { corners = corners_of M; point = refined_point S M axis }

-- that of 01
abbrev pub refined_of01 : (S : Numbers) → Mesh → ℕ → RefinedMesh S
refined_of01 S M axis = record { corners = corners_of M; point = point_of01 S M axis }
