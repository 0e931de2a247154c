-- `visit` meets its contract: the invariant is that the corners below `c` are settled.
use mathlib.Core.Path.{◌≡◌}
use Prim.Native.Nat.{◌-◌, ◌<◌}
use lib.ListN.{length, get_or}
use native.Mathlib.Omega.{arith}
use Rattle.paper.specs.Mesh.{most_faces}
use Rattle.turning.proofs.visiting.Laws.{Corner, turn_new, turn_old, turn_clash, corner_at_lem, start_is, visiting_none, visiting_all, tail_below}
use Rattle.turning.proofs.visiting.visit.Goals as goal
use Rattle.turning.proofs.visiting.visit.Goals.{At-loop-c, In-loop-c, then-found-eq-UNSEEN, else-found-eq-UNSEEN+else-found-wanted}

pub loop-c-init : goal.loop-c-init
loop-c-init c =
    let e = start_is c.args.tables.now.spreadable c.requires.face.0 in
    rw e (visiting_none c.args.tables.now.spreadable.listed c.args.tables.now.spreadable.two c.args.f c.requires.queued)

-- In the loop: c is a corner of the face, its partner d one of the mesh, and g, the face of d, one of its faces.
module _ (i : In-loop-c) where
  here : Corner i.args.tables.now.sides.now i.args.tables.now.corners.now i.args.tables.now.partners.now
      i.args.tables.now.faces.now i.args.f i.loop-c.c
  here =
      corner_at_lem i.args.tables.now.spreadable i.requires.face.0 i.loop-c.c (omega (arith, start_is i.args.tables.now.spreadable i.requires.face.0, i.loop-c.auto.c)) i.loop-c-test.true

  inside : let c = i.loop-c.c in
      let d = get_or i.args.tables.now.partners.now c 0 in
      let g = get_or i.args.tables.now.faces.now (d - 1) 0 in
      (c < length i.args.tables.now.partners.now)
      × (c < length i.args.tables.now.corners.now)
      × (d ≡ 0 → ⊥)
      × (d - 1 < length i.args.tables.now.faces.now)
      × (d - 1 < length i.args.tables.now.corners.now)
      × (g < length i.loop-c.states)
  inside =
      let k = i.args.tables.now.spreadable in
      let a = here in
      let q = i.loop-c.invariant.queued in (
        omega (arith, a.inside, k.partners_long),
        a.inside,
        a.some,
        omega (arith, a.across_in, k.faces_long),
        a.across_in,
        omega (arith, a.face_below, q.states_long),
      )

  -- where the state of g is 0, the queue has room
  room : get_or i.loop-c.states (get_or i.args.tables.now.faces.now (get_or i.args.tables.now.partners.now i.loop-c.c 0 - 1) 0) 0 ≡ 0
      → (i.loop-c.next < most_faces) × (i.loop-c.next < length i.loop-c.queue)
  room z =
      let q = i.loop-c.invariant.queued in
      let b = tail_below q _ 1 here.face_below z (λ z'. omega arith) in
      (omega (arith, b, i.args.tables.now.spreadable.few_faces), omega (arith, b, q.queue_long))

pub across-wanted-requires : goal.across-wanted-requires
across-wanted-requires c = omega (arith, c.requires.queued.small c.args.f)

pub returns-then-found-wanted : goal.returns-then-found-wanted
returns-then-found-wanted c =
    let i = (goal.at.returns-then-found-wanted c).In-loop-c in
    turn_clash c.args.tables.now.spreadable c.requires.face.1 c.requires.queued i.loop-c.invariant (here i) c.across-wanted.ensures c.if-found-eq-UNSEEN.false c.if-found-wanted.true

pub loop-c-preserved : goal.loop-c-preserved
loop-c-preserved c =
    let i = (goal.at.loop-c-preserved c).In-loop-c in
    let inv = c.loop-c.invariant in
    let x = c.across-wanted.ensures in
    elim c.if-found-eq-UNSEEN.branch [
      | then-found-eq-UNSEEN u ↦
          rw (u.states-is, u.queue-is, u.next-is) (turn_new c.args.tables.now.spreadable c.requires.face.1 c.requires.queued inv (here i) x u.if-found-eq-UNSEEN.true)
      | else-found-eq-UNSEEN+else-found-wanted u ↦
          rw (u.states-is, u.queue-is, u.next-is) (turn_old c.args.tables.now.spreadable c.requires.face.1 c.requires.queued inv (here i) x u.if-found-wanted.false)
    ]

pub returns : goal.returns
returns c =
    visiting_all c.args.tables.now.spreadable.listed c.args.tables.now.spreadable.two (omega (arith, start_is c.args.tables.now.spreadable c.requires.face.0, c.loop-c-test.false)) c.loop-c.invariant

pub bounds-tables-c : goal.bounds-tables-c
bounds-tables-c c = omega (arith, inside (goal.at.bounds-tables-c c).In-loop-c)

pub overflow_sub-d : goal.overflow_sub-d
overflow_sub-d c = omega (arith, inside (goal.at.overflow_sub-d c).In-loop-c)

pub bounds-tables-d : goal.bounds-tables-d
bounds-tables-d c = omega (arith, inside (goal.at.bounds-tables-d c).In-loop-c)

pub bounds-tables-c-in-loop-c : goal.bounds-tables-c-in-loop-c
bounds-tables-c-in-loop-c c = omega (arith, inside (goal.at.bounds-tables-c-in-loop-c c).In-loop-c)

pub bounds-tables-d-in-loop-c : goal.bounds-tables-d-in-loop-c
bounds-tables-d-in-loop-c c = omega (arith, inside (goal.at.bounds-tables-d-in-loop-c c).In-loop-c)

pub bounds-states-g : goal.bounds-states-g
bounds-states-g c = omega (arith, inside (goal.at.bounds-states-g c).In-loop-c)

pub bounds-states-g-then-found-eq-UNSEEN : goal.bounds-states-g-then-found-eq-UNSEEN
bounds-states-g-then-found-eq-UNSEEN c = omega (arith, inside (goal.at.bounds-states-g-then-found-eq-UNSEEN c).In-loop-c)

pub offset_bounds-queue-next : goal.offset_bounds-queue-next
offset_bounds-queue-next c = omega (arith, room (goal.at.offset_bounds-queue-next c).In-loop-c c.if-found-eq-UNSEEN.true)

pub bounds-queue-next : goal.bounds-queue-next
bounds-queue-next c = omega (arith, room (goal.at.bounds-queue-next c).In-loop-c c.if-found-eq-UNSEEN.true)

pub overflow_add-next : goal.overflow_add-next
overflow_add-next c = omega (arith, room (goal.at.overflow_add-next c).In-loop-c c.if-found-eq-UNSEEN.true)
