-- `mark` meets its contract: the corners of the vertex from `at` on are in both columns, and counted. The chain falls.
use mathlib.Core.Path.{◌≡◌, refl, sym, subst}
use mathlib.Core.List.{List}
use Prim.Native.Nat.{ℕ, ◌+◌, ◌*◌, ◌<◌, ◌≤◌, ◌-◌}
use lib.ListN.{length, length-set}
use Rattle.paper.specs.Mesh.{most_corners}
use Rattle.walk.specs.Table.{row_length, to_next, to_previous, valence_here, entry}
use Rattle.checks.specs.columns.Vertices.{HasRow}
use Rattle.checks.specs.columns.Chain.{earlier_of, last_of}
use Rattle.checks.proofs.columns.Chains.{On, on_head, on_next, on_falls, chained_own}
use Rattle.checks.proofs.columns.Chains.{CornersPassed, passed_none, passed_few, passed_more, passed_count, passed_lowest}
use Rattle.checks.specs.edges.Entries.{to, from, MarkedFrom}
use Rattle.checks.proofs.edges.Marks.{chain_here, marked_none, marked_more, rows_more, noted_marks, noted_at, noted_rest}
use native.Mathlib.Omega.{arith}
use borrow.Author.Rules.{rules}
use Rattle.checks.proofs.edges.mark.Goals as goal
use Rattle.checks.proofs.edges.mark.Goals.{In-loop-at}

pub loop-at-init : goal.loop-at-init
loop-at-init c =
    let cs = c.args.corners.now in let u = c.args.u in
    let q : last_of cs u ≡ c.args.last = sym c.requires.last in (
      subst (On cs u) q (on_head cs (earlier_of cs) (last_of cs) (chained_own cs) u),
      refl,
      subst (MarkedFrom cs _ _ u) q (marked_none cs _ _ u c.requires.keyed),
      record { heads = λ v. refl; counts = λ v. refl },
      subst (λ (x : ℕ). CornersPassed cs u x 0 0) q (passed_none cs u),
    )

-- in a turn: the corner before `at` has a row, its steps lead to corners, and the vertices of these have rows
module _ (i : In-loop-at) where
  abbrev cs : List ℕ
  cs = i.args.corners.now

  abbrev ts : List ℕ
  ts = i.args.table.now

  abbrev at : ℕ
  at = i.loop-at.at

  some : at ≡ 0 → ⊥
  some = search rules

  few : at ≤ most_corners
  few = omega (arith, i.loop-at.invariant.0.inside, i.requires.walk.0.small)

  here : at - 1 < length cs
  here = omega (arith, some, i.loop-at.invariant.0.inside)

  row : row_length * (at - 1) + row_length ≤ length ts
  row = omega (arith, here, i.requires.walk.0.long)

  abbrev next : ℕ
  next = entry ts to_next (at - 1)

  abbrev previous : ℕ
  previous = entry ts to_previous (at - 1)

  next_in : next < length cs
  next_in = i.requires.walk.0.nexts_in (at - 1) here

  previous_in : previous < length cs
  previous_in = i.requires.walk.0.previouses_in (at - 1) here

  small : length cs ≤ most_corners
  small = i.requires.walk.0.small

  to_row : HasRow i.loop-at.vertices (to cs ts (at - 1))
  to_row = omega (arith, i.requires.walk.0.rowed next next_in, i.loop-at.invariant.1)

  from_row : HasRow i.loop-at.vertices (from cs ts (at - 1))
  from_row = omega (arith, i.requires.walk.0.rowed previous previous_in, i.loop-at.invariant.1)

  goes_on : entry ts valence_here (at - 1) ≡ earlier_of cs (at - 1)
  goes_on = chain_here cs ts i.args.u at i.loop-at.invariant.0 some i.requires.walk.2

pub loop-at-smaller : goal.loop-at-smaller
loop-at-smaller c =
    let i : In-loop-at = (goal.at.loop-at-smaller c).In-loop-at in
    omega (
      arith,
      goes_on i,
      on_falls (cs i) (earlier_of (cs i)) (last_of (cs i)) (chained_own (cs i)) i.args.u (at i) i.loop-at.invariant.0 (some i),
    )

pub loop-at-preserved : goal.loop-at-preserved
loop-at-preserved c =
    let i : In-loop-at = (goal.at.loop-at-preserved c).In-loop-at in
    let l = i.loop-at in
    let u = i.args.u in
    let q = sym (goes_on i) in (
      subst (On (cs i) u) q (on_next (cs i) (earlier_of (cs i)) (last_of (cs i)) (chained_own (cs i)) u l.at l.invariant.0 (some i)),
      simp length-set l.invariant.1,
      subst (MarkedFrom (cs i) (ts i) _ u) q
          (marked_more (cs i) (ts i) l.vertices u l.at l.invariant.0 (some i) _ _ refl refl (omega (arith, to_row i)) (omega (arith, from_row i))
          l.invariant.2),
      rows_more (cs i) (ts i) l.vertices u l.at l.invariant.0 (some i) _ _ refl refl (omega (arith, to_row i)) (omega (arith, from_row i)) _ l.invariant.3,
      subst (λ (x : ℕ). CornersPassed (cs i) u x (l.n + 1) (l.at - 1)) q
          (passed_more (cs i) u l.at l.n l.lowest (some i) l.invariant.0 l.invariant.4),
    )

pub returns : goal.returns
returns c =
    let l = c.loop-at in
    let cs = c.args.corners.now in let u = c.args.u in
    let z : l.at ≡ 0 = search rules in
    let r : HasRow l.vertices u = omega (arith, c.requires.walk.1, l.invariant.1) in
    let m = passed_count cs u l.at l.n l.lowest z l.invariant.4 in record {
      marks = noted_marks cs c.args.table.now l.vertices u l.n l.lowest r 0 (subst (MarkedFrom _ _ _ _) z l.invariant.2);
      count = (m, noted_at cs c.args.table.now l.vertices u l.n l.lowest r m (passed_lowest cs u l.at l.n l.lowest z l.invariant.4));
      rest = noted_rest cs c.args.table.now l.vertices u l.n l.lowest r _ l.invariant.3;
    }

pub overflow_add-n : goal.overflow_add-n
overflow_add-n c = let i : In-loop-at = (goal.at.overflow_add-n c).In-loop-at in omega (arith, passed_few _ _ _ _ _ i.loop-at.invariant.4, small i)

pub overflow_add-vertices : goal.overflow_add-vertices
overflow_add-vertices c = omega (arith, c.type_inv.corners (next (goal.at.overflow_add-vertices c).In-loop-at))
