-- What checks 34 and 35 answer, and the choice that is made.
use Rattle.std.specs.Prelude.{◌≡◌, List, ℕ, ◌<◌, length}
use Rattle.paper.specs.Faults.{sound, ◌or_else◌, lowest_of, stated, Answer}
use Rattle.paper.specs.Turning.{fault34, fault35, says, chosen}
use Rattle.reversing.specs.States.{turns_by}

-- checks 34 and 35, and the states of the faces, which tell the choice
pub record Chosen (sides corners : List ℕ) (r : Answer) (states : List ℕ) : Type 0 where
  pub answers : stated r ≡ lowest_of 34 (length corners) (fault34 sides corners) or_else lowest_of 35 (length sides) (fault35 sides corners)
  pub turns : stated r ≡ sound → (f : ℕ) → f < length sides → turns_by states f ≡ says (chosen sides corners) f
