-- `fill_starts` meets its contract: the faces below `f` are entered.
use mathlib.Core.Path.{sym, subst}
use Prim.Native.Nat.{◌+◌, ◌≤◌, ◌<◌}
use lib.ListN.{length, get_or}
use native.Mathlib.Omega.{arith}
use Rattle.paper.specs.Mesh.{most_faces, most_corners}
use Rattle.mesh.proofs.Faces.{start_zero, start_next, start_ends}
use Rattle.turning.specs.starts.Starts.{StartsTo}
use Rattle.turning.proofs.starts.Laws.{started_none, faced, started_step}
use Rattle.turning.proofs.starts.fill_starts.Goals as goal
use Rattle.turning.proofs.starts.fill_starts.Goals.{In-loop-f}

pub loop-f-init : goal.loop-f-init
loop-f-init c = (started_none _ _ _, sym (start_zero c.args.sides.now))

-- In the loop: the face's corners are of the list, and the tables have room for them.
inside : (i : In-loop-f) → let l = i.loop-f in
    (l.f < length i.args.sides.now)
    × (length i.args.sides.now ≤ most_faces)
    × (l.start + get_or i.args.sides.now l.f 0 ≤ most_corners)
    × (l.start + get_or i.args.sides.now l.f 0 ≤ length l.faces)
    × (l.f < length l.starts)
inside i =
    let l = i.loop-f in
    let f = i.loop-f-test.true in
    let e = start_ends i.args.sides.now l.f f in (
      f,
      i.requires.few_faces,
      omega (arith, e, l.invariant.1, i.requires.few_corners),
      omega (arith, e, l.invariant.1, i.requires.faces_long),
      omega (arith, f, i.requires.starts_long),
    )

pub loop-f-preserved : goal.loop-f-preserved
loop-f-preserved c =
    let i = (goal.at.loop-f-preserved c).In-loop-f in
    let l = i.loop-f in
    let k = inside i in (
      started_step k.0 k.4 l.invariant.1 l.invariant.0 (faced l.f l.start _ _ l.faces c.fill.new.self (omega arith) (omega (arith, k)) (c.fill.ensures.after (λ y q. q))),
      omega (arith, start_next c.args.sides.now l.f k.0, l.invariant.1),
    )

pub returns : goal.returns
returns c = let l = c.loop-f in subst (StartsTo _ _ _) (omega (arith, c.loop-f-test.false)) l.invariant.0

pub overflow_add-end : goal.overflow_add-end
overflow_add-end c = omega (arith, inside (goal.at.overflow_add-end c).In-loop-f)

pub overflow_cast-starts : goal.overflow_cast-starts
overflow_cast-starts c = omega (arith, inside (goal.at.overflow_cast-starts c).In-loop-f)

pub offset_bounds-faces-start : goal.offset_bounds-faces-start
offset_bounds-faces-start c = omega (arith, inside (goal.at.offset_bounds-faces-start c).In-loop-f)

pub slice_bounds-fill-end : goal.slice_bounds-fill-end
slice_bounds-fill-end c = omega (arith, inside (goal.at.slice_bounds-fill-end c).In-loop-f)
