-- Turns spread over the faces: what is known of a round from one face, and of the whole.
use Rattle.std.specs.Prelude.{◌≡◌, List, ℕ, ◌<◌, length, get_or, Result, Ok, Err}
use Rattle.paper.specs.Turning.{fault35, chosen, says}
use Rattle.paper.specs.Faults.{sound, lowest_of, stated, Answer}
use Rattle.reversing.specs.States.{turns_by}
use Rattle.turning.specs.visiting.Visit.{AllSettled, Round, Queued, Unturnable}
use Rattle.turning.specs.declared.visiting.Clash.{Clash}

-- a round from r
pub record RoundDone (sides corners : List ℕ) (r : ℕ) (old states queue : List ℕ) (tail : ℕ) : Type 0 where
  pub round : Round sides corners r old states
  pub kept : get_or states r 0 ≡ 1
  pub settled : AllSettled sides corners states
  pub queued : Queued (length sides) states queue tail

abbrev pub Wandered : List ℕ → List ℕ → ℕ → List ℕ → Result ℕ Clash → List ℕ → List ℕ → Type 0
Wandered sides corners r old (Ok tail) states queue = RoundDone sides corners r old states queue tail
Wandered sides corners r old (Err e) states queue = Unturnable sides corners r

-- and the whole: check 35, and where it finds nothing each face has the state that the choice says
pub record SpreadOver (sides corners : List ℕ) (r : Answer) (states : List ℕ) : Type 0 where
  pub answers : stated r ≡ lowest_of 35 (length sides) (fault35 sides corners)
  pub turns : lowest_of 35 (length sides) (fault35 sides corners) ≡ sound → (f : ℕ) → f < length sides → turns_by states f ≡ says (chosen sides corners) f
