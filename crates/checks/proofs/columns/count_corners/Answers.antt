-- `count_corners` meets its contract: the corners from `c` on are counted, and the lowest of them is noted.
use mathlib.Core.Path.{refl}
use Prim.Native.Nat.{ℕ, ◌<◌, ◌-◌}
use lib.ListN.{length, length-set}
use Rattle.paper.specs.Links.{vertex_of}
use Rattle.checks.specs.columns.Vertices.{HasRow}
use Rattle.checks.proofs.columns.Laws.{counted_start, counted_small, counted_step, counted_done}
use native.Mathlib.Omega.{arith}
use borrow.Author.Rules.{rules}
use Rattle.checks.proofs.columns.count_corners.Goals as goal
use Rattle.checks.proofs.columns.count_corners.Goals.{In-loop-c}

-- in a turn: the corner is before `c`, its vertex has a row, and fewer corners than there are were counted of it
module _ (i : In-loop-c) where
  abbrev d : ℕ
  d = i.loop-c.c - 1

  here : d < length i.args.corners.now
  here = search rules

  row : HasRow i.loop-c.vertices (vertex_of i.args.corners.now d)
  row = omega (arith, i.loop-c.invariant.1, i.requires.rowed d here)

pub overflow_add-vertices : goal.overflow_add-vertices
overflow_add-vertices c =
    let i : In-loop-c = (goal.at.overflow_add-vertices c).In-loop-c in
    let l = i.loop-c in
    omega (
      arith,
      i.requires.small,
      counted_small i.args.corners.now l.vertices l.c (d i) _ l.invariant.2 (omega arith) (here i) refl (row i),
    )

pub loop-c-preserved : goal.loop-c-preserved
loop-c-preserved c =
    let i : In-loop-c = (goal.at.loop-c-preserved c).In-loop-c in
    let l = i.loop-c in (
      search rules,
      simp length-set l.invariant.1,
      counted_step i.args.corners.now l.vertices l.c (d i) _ l.invariant.2 (omega arith) (here i) refl (row i),
    )

pub returns : goal.returns
returns c = let l = c.loop-c in counted_done _ _ l.c (search rules) l.invariant.2

pub loop-c-init : goal.loop-c-init
loop-c-init c = (omega arith, refl, counted_start _ _ c.requires.clear)

pub overflow_mul-count : goal.overflow_mul-count
overflow_mul-count c = omega (arith, c.type_inv.corners (d (goal.at.overflow_mul-count c).In-loop-c))
