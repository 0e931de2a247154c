-- Each list is read from where it starts, as many values as the header counts.
use mathlib.Core.Path.{ap}
use Prim.Native.Nat.{ℕ, ◌*◌}
use Rattle.dms_lists.proofs.lists.Lists.{coordinates_read, sides_read, corners_read, sharpness_read}
use Rattle.dms_lists.proofs.lists.read_lists.Goals as goal

pub returns : goal.returns
returns c =
    record {
      coordinates_hold = coordinates_read _ _ _ _ (ap (λ (n : ℕ). 3 * n) c.vertex_count.ensures.0) c.read_coordinates.ensures;
      sides_hold = sides_read _ _ _ _ _ c.sides_start.ensures.0 c.face_count.ensures.0 c.read_bytes.ensures;
      corners_hold = corners_read _ _ _ _ _ c.corners_start.ensures.0 c.corner_count.ensures.0 c.read_corners.ensures;
      sharpness_hold = sharpness_read _ _ _ c.read_sharpness.ensures;
    }
