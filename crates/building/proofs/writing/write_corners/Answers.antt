-- `building::writing::write_corners` meets its contract: the corners below `k` of the range are written, on all three axes.
use mathlib.Core.Path.{◌≡◌, refl, sym, ◌∙◌}
use Prim.Native.Nat.{ℕ, min, ◌+◌, ◌-◌, ◌<◌, ◌≤◌}
use native.Mathlib.Omega.{arith}
use borrow.Author.Rules.{rules}
use mathlib.Core.List.{List}
use Rattle.paper.specs.Corners.{sum_of, first_of, sides_of}
use Rattle.mesh.proofs.Faces.{first_to, first_ends}
use Rattle.net.specs.stencil.Taken.{Run}
use Rattle.building.specs.writing.Written.{WalksFaces}
use Rattle.building.proofs.writing.Laws.{written_none, written_run, run_of, quiet_zeros}
use Rattle.building.proofs.writing.write_corners.Goals as goal
use Rattle.building.proofs.writing.write_corners.Goals.{In-loop-k, Start}

pub loop-k-init : goal.loop-k-init
loop-k-init c = (search rules, refl, written_none _ _ _, refl, refl, quiet_zeros 128)

-- the face of corner k of the range
module _ (l : In-loop-k) where
  abbrev start : Start
  start = search

  abbrev corner : ℕ
  corner = start.args.first + l.loop-k.k

  below : l.loop-k.k < start.args.count
  below = omega (arith, l.loop-k-test.true, start.requires.range.0)

  corner_in : corner < start.args.n
  corner_in = omega (arith, start.requires.range.1, below)

  listed : corner < sum_of start.requires.mesh.1.sides
  listed = omega (arith, corner_in, start.requires.mesh.1.all)

pub face_end-requires : goal.face_end-requires
face_end-requires c =
    let l = (goal.at.face_end-requires c).In-loop-k in
    let f = (start l).requires.mesh.1 in record { sides = f.sides; rounds = f.rounds; here = listed l }

-- where it ends, and the run
module _ (l : In-loop-k) (end : ℕ) (told : (sides : List ℕ) → WalksFaces sides (start l).args.table.now → corner l < sum_of sides → end ≡ first_of sides (corner l) + sides_of sides (corner l)) where
  end_is : let s = (start l).requires.mesh.1.sides in end ≡ first_of s (corner l) + sides_of s (corner l)
  end_is = let f = (start l).requires.mesh.1 in told f.sides f.rounds (listed l)

  past : (corner l < end) × (end ≤ (start l).args.n)
  past =
      let f = (start l).requires.mesh.1 in
      (omega (arith, end_is, first_to f.sides (corner l) (listed l)), omega (arith, end_is, first_ends f.sides (corner l) (listed l), f.all))

  run_is : (run : ℕ) → run ≡ min (end - corner l) ((start l).args.count - l.loop-k.k)
      → (0 < run) × (l.loop-k.k + run ≤ (start l).args.count) × Run (start l).args.table.now (corner l) run
  run_is run e =
      let s = start l in
      let p = past in (
        omega (arith, e, p.0, below l),
        omega (arith, e, below l),
        run_of _ _ _ s.requires.mesh.0 s.requires.mesh.1 _ _ (corner_in l) (omega (arith, e, p.0, end_is)),
      )

pub put_run-requires : goal.put_run-requires
put_run-requires c =
    let i = c.loop-k.invariant in
    let q = run_is (goal.at.put_run-requires c).In-loop-k c.face_end.result c.face_end.ensures c.min-run.result c.min-run.ensures in record {
      mesh = (c.requires.mesh.0, omega (arith, q.1, c.requires.range.1), q.2);
      lent = (i.3, i.4, i.5);
      room = (q.0, omega (arith, q.1, i.1, c.requires.range.2));
      rows = c.requires.rows;
    }

pub overflow_add-k : goal.overflow_add-k
overflow_add-k c =
    omega (arith, (run_is (goal.at.overflow_add-k c).In-loop-k c.face_end.result c.face_end.ensures c.min-run.result c.min-run.ensures).1, c.ranges.count)

pub loop-k-preserved : goal.loop-k-preserved
loop-k-preserved c =
    let i = c.loop-k.invariant in (
      (run_is (goal.at.loop-k-preserved c).In-loop-k c.face_end.result c.face_end.ensures c.min-run.result c.min-run.ensures).1,
      c.put_run.ensures.put.same ∙ i.1,
      written_run _ _ _ _ _ _ i.2 c.put_run.ensures.put,
      omega (arith, i.3),
      omega (arith, i.4),
      c.put_run.ensures.quiet,
    )

pub returns : goal.returns
returns c =
    let l = c.loop-k in
    let e : l.k ≡ c.args.count = omega arith in
    rw e at l.invariant.2

pub overflow_sub-face_end : goal.overflow_sub-face_end
overflow_sub-face_end c = let p = past (goal.at.overflow_sub-face_end c).In-loop-k c.face_end.result c.face_end.ensures in omega (arith, p.0)

pub overflow_sub-count : goal.overflow_sub-count
overflow_sub-count c = omega (arith, below (goal.at.overflow_sub-count c).In-loop-k)

pub slice_bounds-put_run-end : goal.slice_bounds-put_run-end
slice_bounds-put_run-end c = sym c.loop-k.invariant.3

pub slice_bounds-put_run-end-in-loop-k : goal.slice_bounds-put_run-end-in-loop-k
slice_bounds-put_run-end-in-loop-k c = sym c.loop-k.invariant.4

pub loop-k-smaller : goal.loop-k-smaller
loop-k-smaller c = let q = run_is (goal.at.loop-k-smaller c).In-loop-k c.face_end.result c.face_end.ensures c.min-run.result c.min-run.ensures in omega (arith, q.0, q.1)

pub shape_of-out : goal.shape_of-out
shape_of-out c = c.loop-k.invariant.1
