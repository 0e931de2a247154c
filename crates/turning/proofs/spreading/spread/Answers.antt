-- `spread` meets its contract: the faces below `r` are reached and settled, and the lowest of each part is kept.
use mathlib.Core.Path.{◌≡◌, ◌∙◌, sym}
use lib.ListN.{length}
use native.Mathlib.Omega.{arith}
use Rattle.turning.proofs.spreading.Laws.{spreading_none, spreading_old, spreading_new, spreading_clash, spreading_sound, spreading_chosen}
use Rattle.mesh.proofs.Verdicts.{unsound}
use Rattle.turning.proofs.spreading.spread.Goals as goal
use Rattle.turning.proofs.spreading.spread.Goals.{then-states-r-eq-UNSEEN+in-Ok, else-states-r-eq-UNSEEN}

pub loop-r-init : goal.loop-r-init
loop-r-init c =
    spreading_none c.args.tables.now.spreadable.listed c.args.tables.now.spreadable.two c.requires.room.0 c.requires.room.1 c.requires.room.2

pub round-reach-requires : goal.round-reach-requires
round-reach-requires c =
    let d = c.loop-r.invariant in
    record {
      root = (c.loop-r-test.true, c.if-states-r-eq-UNSEEN.true);
      earlier = (d.settled, d.queued);
    }

pub returns-in_default : goal.returns-in_default
returns-in_default c =
    let e = spreading_clash c.args.tables.now.spreadable.listed c.args.tables.now.spreadable.two c.loop-r.invariant c.loop-r-test.true
    (rw c.in_default.is at c.round-reach.ensures) in
    record { answers = sym e; turns = λ q. unsound 35 _ (sym e ∙ q) }

pub loop-r-preserved : goal.loop-r-preserved
loop-r-preserved c =
    let inv = c.loop-r.invariant in
    let h = c.loop-r-test.true in
    elim c.if-states-r-eq-UNSEEN.branch [
      | then-states-r-eq-UNSEEN+in-Ok u ↦
          rw (u.states-is, u.queue-is, u.tail-is)
          (spreading_new c.args.tables.now.spreadable.listed c.args.tables.now.spreadable.two h inv u.if-states-r-eq-UNSEEN.true (rw u.in-Ok.is at u.round-reach.ensures))
      | else-states-r-eq-UNSEEN u ↦
          rw (u.states-is, u.queue-is, u.tail-is) (spreading_old c.args.tables.now.spreadable.listed c.args.tables.now.spreadable.two h inv u.if-states-r-eq-UNSEEN.false)
    ]

pub returns : goal.returns
returns c =
    let l = c.loop-r in
    let e : l.r ≡ length c.args.tables.now.sides.now = omega (arith, c.loop-r-test.false) in
    record {
      answers = sym (spreading_sound c.args.tables.now.spreadable.listed c.args.tables.now.spreadable.two l.invariant e);
      turns = λ q. spreading_chosen c.args.tables.now.spreadable.listed c.args.tables.now.spreadable.two l.invariant e;
    }
