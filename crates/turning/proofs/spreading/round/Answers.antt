-- `round` meets its contract: the faces of the queue before `head` are settled, and each visit adds to the queue what it reaches.
-- The states before the round are those at the function's entry, which the invariant takes as any list.
use Prim.Native.Nat.{◌≤◌, ◌<◌}
use lib.ListN.{length, get_or}
use native.Mathlib.Omega.{arith}
use Rattle.std.proofs.lemmas.Result.{err_from_is_err_and}
use Rattle.paper.specs.Mesh.{most_faces}
use Rattle.turning.proofs.spreading.Laws.{Rounding, rounding_none, rounding_step, rounding_all, tail_most}
use Rattle.turning.proofs.visiting.Laws.{tail_below}
use Rattle.turning.proofs.spreading.round.Goals as goal
use Rattle.turning.proofs.spreading.round.Goals.{In-loop-head, Start}

-- before the loop: r is a face that was not reached, so the queue has room for it
module _ (s : Start) where
  room : (s.args.r < most_faces) × (s.args.r < length s.args.states.now) × (s.args.from < most_faces)
      × (s.args.from < length s.args.queue.now)
  room =
      let b = tail_below s.requires.earlier.1 s.args.r 1 s.requires.root.0 s.requires.root.1 (λ q. omega arith) in (
        omega (arith, s.requires.root.0, s.args.tables.now.spreadable.few_faces),
        omega (arith, s.requires.root.0, s.requires.earlier.1.states_long),
        omega (arith, b, s.args.tables.now.spreadable.few_faces),
        omega (arith, b, s.requires.earlier.1.queue_long),
      )

-- In the loop: what holds of the queue, and the place in it.
module _ (i : In-loop-head) where
  going : let l = i.loop-head in
      Rounding i.args.tables.now.sides.now i.args.tables.now.corners.now i.args.r i.args.from i.args.states.now l.states l.queue l.head l.tail
  going =
      i.loop-head.invariant i.args.states.now
      (rounding_none i.args.tables.now.spreadable.listed i.args.tables.now.spreadable.two i.requires.root.0 i.requires.root.1 i.requires.earlier.0 i.requires.earlier.1)

  inside : let l = i.loop-head in
      (l.head < length i.args.tables.now.sides.now)
      × (length i.args.tables.now.sides.now ≤ most_faces)
      × (l.head < length l.queue)
      × (get_or l.queue l.head 0 < most_faces)
  inside =
      let l = i.loop-head in
      let q = going.queued in
      let m = tail_most q in (
        omega (arith, m, i.loop-head-test.true),
        i.args.tables.now.spreadable.few_faces,
        omega (arith, m, i.loop-head-test.true, q.queue_long),
        omega (arith, q.inside l.head i.loop-head-test.true, i.args.tables.now.spreadable.few_faces),
      )

pub visit-requires : goal.visit-requires
visit-requires c =
    let i = (goal.at.visit-requires c).In-loop-head in
    let l = i.loop-head in
    let q = (going i).queued in
    record {
      face = (q.inside l.head i.loop-head-test.true, q.reached l.head i.loop-head-test.true);
      queued = q;
    }

pub returns-in_err-tail : goal.returns-in_err-tail
returns-in_err-tail c =
    let i = (goal.at.returns-in_err-tail c).In-loop-head in
    let d = going i in
    let clash = c.in_err-tail.ensures in
    let p = err_from_is_err_and c.from_residual.result c.from_residual.ensures.1 in
    rw p.1 (clash _ _ d.round (d.fresh _ d.later i.loop-head-test.true) c.requires.earlier.0)

pub loop-head-preserved : goal.loop-head-preserved
loop-head-preserved c = λ old z.
    rounding_step c.args.tables.now.spreadable.listed c.args.tables.now.spreadable.two (c.loop-head.invariant old z) c.loop-head-test.true
    c.in_ok-tail.ensures

pub returns : goal.returns
returns c =
    rounding_all c.args.tables.now.spreadable.listed c.args.tables.now.spreadable.two (c.loop-head.invariant c.args.states.now
    (rounding_none c.args.tables.now.spreadable.listed c.args.tables.now.spreadable.two c.requires.root.0 c.requires.root.1 c.requires.earlier.0 c.requires.earlier.1)) c.loop-head-test.false

pub loop-head-init : goal.loop-head-init
loop-head-init c = λ old d. d

pub offset_bounds-queue-from : goal.offset_bounds-queue-from
offset_bounds-queue-from c = omega (arith, room (goal.at.offset_bounds-queue-from c).Start)

pub bounds-queue-from : goal.bounds-queue-from
bounds-queue-from c = omega (arith, room (goal.at.bounds-queue-from c).Start)

pub overflow_add-tail : goal.overflow_add-tail
overflow_add-tail c = omega (arith, room (goal.at.overflow_add-tail c).Start)

pub offset_bounds-queue-head : goal.offset_bounds-queue-head
offset_bounds-queue-head c = omega (arith, inside (goal.at.offset_bounds-queue-head c).In-loop-head)

pub bounds-queue-head : goal.bounds-queue-head
bounds-queue-head c = omega (arith, inside (goal.at.bounds-queue-head c).In-loop-head)

pub loop-head-smaller : goal.loop-head-smaller
loop-head-smaller c = omega (arith, inside (goal.at.loop-head-smaller c).In-loop-head)
