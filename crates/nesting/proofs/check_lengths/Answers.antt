-- Check 21 meets its contract: each test is one of the parts of fault 21.
use mathlib.Core.Path.{sym}
use Rattle.paper.specs.Nesting.{most_bodies}
use Rattle.mesh.proofs.Ranges.{outside_low, outside_high, inside}
use Rattle.mesh.proofs.Verdicts.{single_hit, single_miss}
use Rattle.nesting.proofs.Laws.{bodies_out, room_differs, lengths_fit}
use Rattle.nesting.proofs.check_lengths.Goals as goal
use Rattle.nesting.proofs.check_lengths.Goals.{then-bodies-lt1-via-then-bodies-lt1, then-bodies-lt1-via-else-bodies-lt1+then-bodies-gt-MOST_BODIES}

pub returns-then-bodies-lt1 : goal.returns-then-bodies-lt1
returns-then-bodies-lt1 c =
    let n = c.args.bodies in
    sym (single_hit 21 0 (bodies_out n _
    (elim c.then-bodies-lt1.branch [
      | then-bodies-lt1-via-then-bodies-lt1 w ↦ outside_low 1 most_bodies n w.if-bodies-lt1.true
      | then-bodies-lt1-via-else-bodies-lt1+then-bodies-gt-MOST_BODIES w ↦ outside_high 1 most_bodies n w.if-bodies-gt-MOST_BODIES.true
    ])))

pub returns-then-room-bodies : goal.returns-then-room-bodies
returns-then-room-bodies c =
    sym (single_hit 21 0 (room_differs c.args.bodies c.args.room c.if-room-bodies.true))

pub returns : goal.returns
returns c =
    sym (single_miss 21 0 (lengths_fit c.args.bodies c.args.room
    (inside 1 most_bodies _ c.if-bodies-lt1.false c.if-bodies-gt-MOST_BODIES.false) c.if-room-bodies.false))
