-- What the call knows when its checks are over.
use Rattle.std.specs.Prelude.{◌≡◌, List, ℕ, ◌<◌}
use Rattle.paper.specs.Mesh.{Mesh, face_count}
use Rattle.paper.specs.Faults.{sound, ◌or_else◌, list_faults, stated, Answer}
use Rattle.paper.specs.Turning.{turns_of, turn_faults}
use Rattle.reversing.specs.States.{turns_by}

-- the checks 4 to 9 with 27 and 28, 34 and 35, and the states of the faces, which tell the choice
pub record ChosenFor (M : Mesh) (r : Answer) (states : List ℕ) : Type 0 where
  pub answers : stated r ≡ list_faults M or_else turn_faults M
  pub turns : stated r ≡ sound → (f : ℕ) → f < face_count M → turns_by states f ≡ turns_of M f
