-- `border_report::border_misses::face_misses` meets its contract: so far the largest over the corners before the face and over its first j, and the rows of
-- the face's ring are as they were taken. The next corner's numbers stand after the corner's own, or at the beginning.
use mathlib.Core.Path.{◌≡◌, refl, sym, ap, ◌∙◌, subst}
use mathlib.Core.List.{List}
use Prim.Native.Nat.{ℕ, ◌+◌, ◌*◌, ◌<◌, ◌≤◌}
use native.Mathlib.Omega.{arith}
use lib.IntN.{ℤ}
use Rattle.paper.specs.Mesh.{most_sides}
use Rattle.paper.specs.Numbers.{rounded}
use Rattle.paper.specs.Refined.{RefinedMesh}
use Rattle.paper.specs.Calls.{per_corner}
use Rattle.paper.specs.Report.{largest_below}
use Rattle.walk.specs.Table.{to_next, entry}
use Rattle.net.specs.Drawn.{drawn}
use Rattle.net.specs.stencil.Taken.{Run, FaceTaken}
use Rattle.net.proofs.CornerRuns.{face_held, face_kept}
use Rattle.border_report.specs.border_misses.Held.{NetHeldAll, WholeFace, corner_miss}
use Rattle.border_report.proofs.border_misses.Laws.{larger_at, held_of, held_one, one_more_lem}
use Rattle.border_report.proofs.border_misses.face_misses.Goals as goal
use Rattle.border_report.proofs.border_misses.face_misses.Goals.{then-j-k, else-j-k}

none_more : (n : ℕ) → n ≡ n + 0
none_more n = omega arith

pub take_face-requires : goal.take_face-requires
take_face-requires c =
    let w = c.requires.face in record { mesh = (c.requires.mesh.0, omega (arith, w.some, w.within), c.requires.mesh.2); room = (refl, w.run.short) }

pub loop-j-init : goal.loop-j-init
loop-j-init c = (
  refl,
  (c.take_face.ensures.same, face_held _ _ _ _ _ c.take_face.ensures),
  λ i few. c.requires.before i few
      ∙ ap (λ (d : ℕ). largest_below d (corner_miss (drawn c.args.n c.args.table.now c.args.points.now) i)) (none_more c.args.start),
)

-- corner j of the face
module _ (table : List ℕ) (n start k : ℕ) (w : WholeFace table n start k) (j : ℕ) (h : j < k) where
  corner_in : start + j < n
  corner_in = omega (arith, w.within)

  few : j < most_sides
  few = omega (arith, w.run.short)

  -- the face up to it
  run_here : Run table start (j + 1)
  run_here = record { short = omega (arith, few); along = λ r l. w.run.along r (omega arith) }

  -- the next corner
  next_more : j + 1 < k → (j + 1 < k) × (entry table to_next (start + j) ≡ start + (j + 1))
  next_more t = (t, w.run.along j t ∙ omega arith)

  next_round : k ≤ j + 1 → (0 < k) × (entry table to_next (start + j) ≡ start + 0)
  next_round t = (w.some, w.round j (omega arith) ∙ omega arith)

ring_here : (K : ℕ → RefinedMesh rounded) (start k j : ℕ) → j < k → (stencil : List ℤ) → FaceTaken K start (k + 1) stencil stencil
    → FaceTaken K start (j + 2) stencil stencil
ring_here K start k j h stencil f = record { same = refl; centre = f.centre; toward = λ r l. f.toward r (omega arith); fourth = λ i. refl }

pub write_corners-requires : goal.write_corners-requires
write_corners-requires c =
    let p = c.requires.mesh in
    let link_in : c.linked-l.result.corner < c.args.n =
    rw c.linked-l.ensures.read (c.requires.mesh.0.sound.link_in _ (corner_in c.args.table.now c.args.n c.args.start c.args.k c.requires.face c.loop-j.j c.loop-j-test.true)) in
    record { mesh = (p.0, p.1); range = (omega arith, omega (arith, link_in), omega (arith, c.loop-j.invariant.0)); rows = p.2 }

pub corner_misses-m-requires : goal.corner_misses-m-requires
corner_misses-m-requires c =
    let p = c.requires.mesh in
    let K : ℕ → RefinedMesh rounded = drawn c.args.n c.args.table.now c.args.points.now in
    let link_in : c.linked-l.result.corner < c.args.n =
    rw c.linked-l.ensures.read (c.requires.mesh.0.sound.link_in _ (corner_in c.args.table.now c.args.n c.args.start c.args.k c.requires.face c.loop-j.j c.loop-j-test.true)) in
    let q : (c.if-j-k.q < c.args.k) × (entry c.args.table.now to_next (c.args.start + c.loop-j.j) ≡ c.args.start + c.if-j-k.q) = elim c.if-j-k.branch [
      | then-j-k w ↦ rw w.q-is (next_more c.args.table.now c.args.n c.args.start c.args.k c.requires.face c.loop-j.j c.loop-j-test.true w.if-j-k.true)
      | else-j-k w ↦ rw w.q-is (next_round c.args.table.now c.args.n c.args.start c.args.k c.requires.face c.loop-j.j c.loop-j-test.true w.if-j-k.false)
    ] in
    record {
      mesh = (p.0, corner_in c.args.table.now c.args.n c.args.start c.args.k c.requires.face c.loop-j.j c.loop-j-test.true, p.2);
      ring = (run_here c.args.table.now c.args.n c.args.start c.args.k c.requires.face c.loop-j.j c.loop-j-test.true, c.loop-j.invariant.1.0, ring_here _ _ _ _ c.loop-j-test.true _ c.loop-j.invariant.1.1);
      here = held_of _ _ _ p.0 _ _ c.requires.face.within _ c.requires.numbers.0 c.requires.numbers.1 _ c.loop-j-test.true;
      linked = subst (λ (d : ℕ). NetHeldAll K d c.write_corners.new.out 0) c.linked-l.ensures.read
          (held_one _ _ _ p.0 _ link_in _ (omega (arith, c.loop-j.invariant.0, c.write_corners.auto.out)) c.write_corners.ensures);
      next = subst (λ (d : ℕ). NetHeldAll K d c.args.face.now (per_corner * c.if-j-k.q)) (sym q.1)
          (held_of _ _ _ p.0 _ _ c.requires.face.within _ c.requires.numbers.0 c.requires.numbers.1 _ q.0);
    }

pub loop-j-preserved : goal.loop-j-preserved
loop-j-preserved c =
    let i = c.loop-j.invariant in
    let K : ℕ → RefinedMesh rounded = drawn c.args.n c.args.table.now c.args.points.now in (
      c.write_corners.auto.out ∙ i.0,
      (c.corner_misses-m.auto.stencil ∙ i.1.0, face_kept _ _ _ _ _ c.corner_misses-m.ensures.ring i.1.1),
      λ h few. one_more_lem _ h _ _ _ _ (larger_at _ _ c.larger_of-larger.ensures h few) (i.2 h few) (c.corner_misses-m.ensures.misses h few)
          ∙ ap (λ (d : ℕ). largest_below d (corner_miss K h)) (let e : c.args.start + c.loop-j.j + 1 ≡ c.args.start + (c.loop-j.j + 1) = omega arith in e),
    )

pub returns : goal.returns
returns c i few =
    let l = c.loop-j in
    l.invariant.2 i few
    ∙ ap (λ (d : ℕ). largest_below (c.args.start + d) (corner_miss (drawn c.args.n c.args.table.now c.args.points.now) i))
    (let e : l.j ≡ c.args.k = omega arith in e)

pub overflow_add-at : goal.overflow_add-at
overflow_add-at c = omega (arith, corner_in c.args.table.now c.args.n c.args.start c.args.k c.requires.face c.loop-j.j c.loop-j-test.true, c.ranges.n)

pub linked-l-requires : goal.linked-l-requires
linked-l-requires c = omega (arith, corner_in c.args.table.now c.args.n c.args.start c.args.k c.requires.face c.loop-j.j c.loop-j-test.true, c.requires.mesh.0.table_long)

pub slice_bounds-write_corners-end : goal.slice_bounds-write_corners-end
slice_bounds-write_corners-end c = sym c.loop-j.invariant.0

pub overflow_add-j : goal.overflow_add-j
overflow_add-j c = omega (arith, few c.args.table.now c.args.n c.args.start c.args.k c.requires.face c.loop-j.j c.loop-j-test.true)

pub overflow_add-q : goal.overflow_add-q
overflow_add-q c = omega (arith, few c.args.table.now c.args.n c.args.start c.args.k c.requires.face c.loop-j.j c.loop-j-test.true)

pub overflow_mul-next : goal.overflow_mul-next
overflow_mul-next c =
    let q : (c.if-j-k.q < c.args.k) × (entry c.args.table.now to_next (c.args.start + c.loop-j.j) ≡ c.args.start + c.if-j-k.q) = elim c.if-j-k.branch [
      | then-j-k w ↦ rw w.q-is (next_more c.args.table.now c.args.n c.args.start c.args.k c.requires.face c.loop-j.j c.loop-j-test.true w.if-j-k.true)
      | else-j-k w ↦ rw w.q-is (next_round c.args.table.now c.args.n c.args.start c.args.k c.requires.face c.loop-j.j c.loop-j-test.true w.if-j-k.false)
    ] in
    omega (arith, q.0, c.requires.face.run.short)

pub slice_bounds-corner_misses-end : goal.slice_bounds-corner_misses-end
slice_bounds-corner_misses-end c = sym (c.write_corners.auto.out ∙ c.loop-j.invariant.0)

pub slice_bounds-corner_misses-end-in-loop-j : goal.slice_bounds-corner_misses-end-in-loop-j
slice_bounds-corner_misses-end-in-loop-j c = sym c.loop-j.invariant.1.0
