-- `collect` meets its contract: the corners of the vertex from `at` on have their entries and valence. The chain falls, and stands below `at`.
use mathlib.Core.Path.{◌≡◌, refl, sym, subst}
use mathlib.Core.List.{List}
use Prim.Native.Nat.{ℕ, ◌+◌, ◌*◌, ◌≤◌, ◌-◌}
use lib.ListN.{length, length-set}
use Rattle.paper.specs.Mesh.{most_corners}
use Rattle.walk.specs.Table.{row_length, valence_here, entry}
use Rattle.checks.specs.columns.Chain.{earlier_of, last_of}
use Rattle.checks.proofs.columns.Chains.{On, on_head, on_next, on_falls, at_in, at_vertex, chained_own}
use Rattle.checks.proofs.edges.Collecting.{CollectedFrom, collected_none, collected_more, collected_all, chain_on, searchable_on, marked_on, entry_back}
use native.Mathlib.Omega.{arith}
use borrow.Author.Rules.{rules}
use Rattle.checks.proofs.edges.collect.Goals as goal
use Rattle.checks.proofs.edges.collect.Goals.{In-loop-at}

pub loop-at-init : goal.loop-at-init
loop-at-init c =
    let cs = c.args.corners.now in let u = c.args.u in
    let q : last_of cs u ≡ c.args.last = sym c.requires.walk.2 in (
      subst (On cs u) q (on_head cs (earlier_of cs) (last_of cs) (chained_own cs) u),
      refl,
      subst (CollectedFrom cs _ _ u c.args.n) q (collected_none cs _ u c.args.n),
    )

-- in a turn: the corner before `at` has a row, and the chain goes on from it
module _ (i : In-loop-at) where
  abbrev cs : List ℕ
  cs = i.args.corners.now

  abbrev ts : List ℕ
  ts = i.args.table.now

  abbrev at : ℕ
  at = i.loop-at.at

  some : at ≡ 0 → ⊥
  some = search rules

  few : at ≤ most_corners
  few = omega (arith, i.loop-at.invariant.0.inside, i.requires.walk.0.small)

  row : row_length * (at - 1) + row_length ≤ length i.loop-at.table
  row = omega (arith, some, i.loop-at.invariant.0.inside, i.loop-at.invariant.1, i.requires.walk.0.long)

  goes_on : entry i.loop-at.table valence_here (at - 1) ≡ earlier_of cs (at - 1)
  goes_on = chain_on cs ts i.args.u i.args.n i.loop-at.table at i.loop-at.invariant.0 some row i.loop-at.invariant.2 i.requires.walk.1

pub entry-x-requires : goal.entry-x-requires
entry-x-requires c =
    let i : In-loop-at = (goal.at.entry-x-requires c).In-loop-at in
    let l = i.loop-at in
    let vs = i.args.vertices.now in record {
      corner = (
        at_in (cs i) (earlier_of (cs i)) (last_of (cs i)) (chained_own (cs i)) i.args.u l.at l.invariant.0 (some i),
        sym (at_vertex (cs i) (earlier_of (cs i)) (last_of (cs i)) (chained_own (cs i)) i.args.u l.at l.invariant.0 (some i)),
        searchable_on (cs i) (ts i) l.table l.invariant.2.faces vs vs l.invariant.1 refl i.requires.walk.0,
      );
      marked = marked_on (cs i) (ts i) l.table l.invariant.2.faces vs i.args.u 0 i.requires.marked.0;
    }

pub loop-at-smaller : goal.loop-at-smaller
loop-at-smaller c =
    let i : In-loop-at = (goal.at.loop-at-smaller c).In-loop-at in
    omega (
      arith,
      goes_on i,
      on_falls (cs i) (earlier_of (cs i)) (last_of (cs i)) (chained_own (cs i)) i.args.u (at i) i.loop-at.invariant.0 (some i),
    )

pub loop-at-preserved : goal.loop-at-preserved
loop-at-preserved c =
    let i : In-loop-at = (goal.at.loop-at-preserved c).In-loop-at in
    let l = i.loop-at in
    let u = i.args.u in
    let n = i.args.n in
    let x = c.entry-x in (
      subst (On (cs i) u) (sym (goes_on i)) (on_next (cs i) (earlier_of (cs i)) (last_of (cs i)) (chained_own (cs i)) u l.at l.invariant.0 (some i)),
      simp length-set l.invariant.1,
      subst (CollectedFrom (cs i) (ts i) _ u n) (sym (goes_on i))
          (collected_more (cs i) (ts i) u n l.table l.at l.invariant.0 (some i) (row i) l.invariant.2 x.result
          (entry_back (cs i) (ts i) l.table l.invariant.2.faces (l.at - 1) x.result x.ensures)),
    )

pub returns : goal.returns
returns c =
    let l = c.loop-at in
    collected_all _ _ _ c.args.n l.table l.at (search rules) c.requires.marked.1 l.invariant.2
