-- `border_report::border_misses::largest` meets its contract: so far the largest over the corners before `start`, which is the first corner of a face.
use mathlib.Core.Path.{◌≡◌, refl, sym, ap, ◌∙◌}
use mathlib.Core.List.{[], ◌∷◌}
use Prim.Native.Nat.{ℕ, zero, suc, ◌<◌}
use lib.ListN.{get_or}
use native.Mathlib.Omega.{arith}
use Rattle.paper.specs.Report.{conditions, largest_below}
use Rattle.mesh.proofs.Faces.{first_from_lem}
use Rattle.net.specs.Drawn.{drawn}
use Rattle.border_report.specs.border_misses.Held.{WholeFace, corner_miss}
use Rattle.border_report.proofs.border_misses.Laws.{whole_face, next_first, none_so_far}
use Rattle.border_report.proofs.border_misses.largest.Goals as goal

nothing : (j : ℕ) → j < conditions → ◌≡◌ {A = ℕ} (get_or (0 ∷ 0 ∷ 0 ∷ 0 ∷ []) j 0) 0
nothing zero few = refl
nothing (suc zero) few = refl
nothing (suc (suc zero)) few = refl
nothing (suc (suc (suc zero))) few = refl
nothing (suc (suc (suc (suc j)))) few = absurd (omega arith)

pub loop-start-init : goal.loop-start-init
loop-start-init c = (
  omega arith,
  λ f l. let a = first_from_lem f.sides 0 (omega (arith, f.all)) in omega arith,
  refl,
  λ j few. nothing j few ∙ sym (none_so_far _ j),
)

pub write_corners-requires : goal.write_corners-requires
write_corners-requires c =
    let w : WholeFace c.args.table.now c.args.n c.loop-start.start c.sides-k.result =
    whole_face _ _ _ c.requires.0 c.requires.1 _ c.loop-start-test.true (c.loop-start.invariant.1 c.requires.1 c.loop-start-test.true) _ c.sides-k.ensures.read in
    record { mesh = c.requires; range = (w.some, w.within, omega (arith, c.loop-start.invariant.2, w.run.short)); rows = c.rows-rows.ensures }

pub face_misses-larger-requires : goal.face_misses-larger-requires
face_misses-larger-requires c =
    let w : WholeFace c.args.table.now c.args.n c.loop-start.start c.sides-k.result =
    whole_face _ _ _ c.requires.0 c.requires.1 _ c.loop-start-test.true (c.loop-start.invariant.1 c.requires.1 c.loop-start-test.true) _ c.sides-k.ensures.read in
    record {
      mesh = (c.requires.0, c.requires.1, c.rows-rows.ensures);
      face = w;
      numbers = (omega (arith, c.loop-start.invariant.2, w.run.short, c.write_corners.auto.out), c.write_corners.ensures);
      before = c.loop-start.invariant.3;
    }

pub loop-start-preserved : goal.loop-start-preserved
loop-start-preserved c =
    let i = c.loop-start.invariant in
    let t = c.loop-start-test.true in
    let w : WholeFace c.args.table.now c.args.n c.loop-start.start c.sides-k.result =
    whole_face _ _ _ c.requires.0 c.requires.1 _ c.loop-start-test.true (c.loop-start.invariant.1 c.requires.1 c.loop-start-test.true) _ c.sides-k.ensures.read in (
      w.within,
      λ f l. next_first _ _ _ c.requires.0 f _ t (i.1 f t) _ c.sides-k.ensures.read l,
      c.write_corners.auto.out ∙ i.2,
      c.face_misses-larger.ensures,
    )

pub returns : goal.returns
returns c j few =
    let l = c.loop-start in
    l.invariant.3 j few
    ∙ ap (λ (k : ℕ). largest_below k (corner_miss (drawn c.args.n c.args.table.now c.args.points.now) j))
    (let e : l.start ≡ c.args.n = omega arith in e)

pub slice_bounds-write_corners-end : goal.slice_bounds-write_corners-end
slice_bounds-write_corners-end c = sym c.loop-start.invariant.2

pub slice_bounds-face_misses-end : goal.slice_bounds-face_misses-end
slice_bounds-face_misses-end c = sym (c.write_corners.auto.out ∙ c.loop-start.invariant.2)

pub overflow_add-start : goal.overflow_add-start
overflow_add-start c =
    let w : WholeFace c.args.table.now c.args.n c.loop-start.start c.sides-k.result =
    whole_face _ _ _ c.requires.0 c.requires.1 _ c.loop-start-test.true (c.loop-start.invariant.1 c.requires.1 c.loop-start-test.true) _ c.sides-k.ensures.read in
    omega (arith, w.within, c.ranges.n)

pub loop-start-smaller : goal.loop-start-smaller
loop-start-smaller c =
    let w : WholeFace c.args.table.now c.args.n c.loop-start.start c.sides-k.result =
    whole_face _ _ _ c.requires.0 c.requires.1 _ c.loop-start-test.true (c.loop-start.invariant.1 c.requires.1 c.loop-start-test.true) _ c.sides-k.ensures.read in
    omega (arith, w.some, w.within)
