-- Check 9 meets its contract: no corner before `c` is at fault, the chains of the vertices are made of the corners before `c`, and these
-- have their rows; `before` is the corner before `c` in its face.
use mathlib.Core.Path.{◌≡◌, refl, ◌∙◌, sym, subst, ap}
use mathlib.Core.List.{List}
use Prim.Native.Nat.{ℕ, ◌+◌, ◌*◌, ◌≤◌, ◌<◌}
use lib.ListN.{length, get_or, set, length-set}
use Rattle.paper.specs.Mesh.{least_sides, most_corners}
use Rattle.paper.specs.Corners.{sum_of, start_of, previous}
use Rattle.paper.specs.Links.{vertex_of}
use Rattle.paper.specs.Faults.{fault9}
use Rattle.mesh.proofs.Faces.{start_zero, start_next, start_all, start_ends}
use Rattle.mesh.proofs.Verdicts.{lowest_none, unsound}
use Rattle.walk.specs.Table.{row_length, valence_here}
use Rattle.checks.specs.columns.Vertices.{vertex_row, last_here, noted, HasRow}
use Rattle.checks.specs.columns.Filled.{FacesTo, row_filled}
use Rattle.checks.proofs.columns.Chains.{chains_all}
use Rattle.checks.proofs.columns.Laws.{sides_is, previous_start, previous_later, faces_none, faces_step, faces_chains, faces_beside, faces_all}
use Rattle.checks.proofs.faces.Laws.{FacesPassed, passed_none, passed_kept, passed_step, doubled}
use native.Mathlib.Omega.{arith}
use borrow.Author.Rules.{rules}
use Rattle.checks.proofs.faces.check_faces.Goals as goal
use Rattle.checks.proofs.faces.check_faces.Goals.{In-loop-s, In-loop-c}

pub loop-s-init : goal.loop-s-init
loop-s-init c =
    (omega arith, sym (start_zero _), refl, refl, passed_none _ _ _ _ c.requires.room.2, subst (FacesTo _ _) (start_zero _) (faces_none _ _))

-- in a turn over the faces: face f is there, and ends within the corners
module _ (i : In-loop-s) where
  abbrev sides : List ℕ
  sides = i.args.sides.now

  abbrev corners : List ℕ
  corners = i.args.corners.now

  there : i.loop-s.s-index < length sides
  there = search rules

  ends : start_of sides i.loop-s.s-index + get_or sides i.loop-s.s-index 0 ≤ sum_of sides
  ends = start_ends sides i.loop-s.s-index there

  sided : least_sides ≤ get_or sides i.loop-s.s-index 0
  sided = i.requires.mesh.2 i.loop-s.s-index there

  within : (sum_of sides ≡ length corners) × (length corners ≤ most_corners)
  within = (i.requires.mesh.0, i.requires.mesh.1)

-- and over its corners: corner c is there, it has a row, and so has its vertex
module _ (i : In-loop-c) where
  here : i.loop-c.c < length i.args.corners.now
  here = omega (arith, i.loop-c.invariant.3)

  long : row_length * length i.args.corners.now ≤ length i.loop-c.table
  long = omega (arith, i.loop-s.invariant.2, i.loop-c.invariant.6, i.requires.room.0)

  row : HasRow i.loop-c.vertices (vertex_of i.args.corners.now i.loop-c.c)
  row = omega (arith, i.loop-s.invariant.3, i.loop-c.invariant.7, i.requires.room.1 i.loop-c.c here)

pub loop-c-init : goal.loop-c-init
loop-c-init c =
    let i : In-loop-s = (goal.at.loop-c-init c).In-loop-s in
    let o = i.loop-s in (
      there i,
      o.invariant.1,
      refl,
      omega (arith, o.invariant.1, within i, ends i),
      omega arith,
      omega arith,
      refl,
      refl,
      o.invariant.4,
      (
        omega (arith, ends i, sided i, o.invariant.1),
        (λ z. rw o.invariant.1 (sym (previous_start (sides i) o.s-index (there i) (omega (arith, sided i))))),
        o.invariant.5,
      ),
    )

pub returns-then-start-last : goal.returns-then-start-last
returns-then-start-last c =
    let j : In-loop-c = (goal.at.returns-then-start-last c).In-loop-c in
    let i : In-loop-s = (goal.at.returns-then-start-last c).In-loop-s in
    let l = j.loop-c in record {
      answer = sym (doubled (sides i) (corners i) l.table l.vertices i.loop-s.s-index l.c i.loop-s.start
          l.invariant.0 l.invariant.1 l.invariant.4 (search rules) l.invariant.8 (here j) c.if-start-last.true);
      chains = unsound _ _;
      faces = unsound _ _;
    }

pub loop-c-preserved : goal.loop-c-preserved
loop-c-preserved c =
    let j : In-loop-c = (goal.at.loop-c-preserved c).In-loop-c in
    let i : In-loop-s = (goal.at.loop-c-preserved c).In-loop-s in
    let l = j.loop-c in
    let f = i.loop-s.s-index in
    let taken = c.loop-c-test.true in
    let b : l.c < sum_of (sides i) = omega (arith, within i, here j) in
    let n = get_or (sides i) f 0 in
    let p : l.before ≡ previous (sides i) l.c = l.invariant.9.1 taken in
    let m = sym (sides_is (sides i) f l.invariant.0 l.c (omega (arith, l.invariant.1, l.invariant.4)) (omega (arith, l.invariant.1, l.invariant.2, taken))) in
    let r : row_length * sum_of (sides i) ≤ length l.table = omega (arith, within i, long j) in
    let t = row_filled l.table l.c l.before n in
    let x = noted l.vertices last_here (get_or (corners i) l.c 0) in
    let e = ap (λ (y : List ℕ). set y (row_length * l.c + valence_here) x) (sym c.put_corner.ensures) in
    let size : length t ≡ length l.table = sym (ap length c.put_corner.ensures) ∙ c.put_corner.auto.table in
    let q = passed_kept (sides i) (corners i) l.table t l.vertices l.c
    (faces_chains (sides i) l.table l.c l.before n b l.invariant.9.0 p m r) l.invariant.8 in (
      l.invariant.0,
      l.invariant.1,
      refl,
      l.invariant.3,
      omega (arith, l.invariant.4),
      omega (arith, taken),
      simp length-set (c.put_corner.auto.table ∙ l.invariant.6),
      simp length-set l.invariant.7,
      subst (λ (y : List ℕ). FacesPassed (sides i) (corners i) y (set l.vertices (vertex_row * get_or (corners i) l.c 0 + last_here) (l.c + 1)) (l.c + 1)) e
          (passed_step (sides i) (corners i) t l.vertices f l.c i.loop-s.start l.invariant.0 l.invariant.1 l.invariant.4
          (omega (arith, l.invariant.2, taken)) q (omega (arith, here j, long j, size)) (omega (arith, row j)) c.if-start-last.false),
      (
        b,
        (λ z. sym (previous_later (sides i) f l.invariant.0 l.c (omega (arith, l.invariant.1, l.invariant.4)) (omega (arith, l.invariant.1, l.invariant.2)))),
        subst (λ (y : List ℕ). FacesTo (sides i) y (l.c + 1)) e
            (faces_beside (sides i) t l.c x (l.c + 1) (faces_step (sides i) l.table l.c l.before n b l.invariant.9.0 p m r l.invariant.9.2)),
      ),
    )

pub loop-s-preserved : goal.loop-s-preserved
loop-s-preserved c =
    let i : In-loop-s = (goal.at.loop-s-preserved c).In-loop-s in
    let o = i.loop-s in
    let l = c.loop-c in
    let q : l.c ≡ o.start + get_or (sides i) o.s-index 0 = omega (arith, l.invariant.5, c.loop-c-test.false) in (
      search rules,
      omega (arith, l.invariant.1, start_next (sides i) o.s-index l.invariant.0),
      l.invariant.6 ∙ o.invariant.2,
      l.invariant.7 ∙ o.invariant.3,
      subst (FacesPassed (sides i) (corners i) l.table l.vertices) q l.invariant.8,
      subst (FacesTo (sides i) l.table) q l.invariant.9.2,
    )

pub returns : goal.returns
returns c =
    let l = c.loop-s in
    let ss = c.args.sides.now in
    let cs = c.args.corners.now in
    let all = l.invariant.1 ∙ start_all ss l.s-index c.loop-s-test.false in
    let q : l.start ≡ length cs = all ∙ c.requires.mesh.0 in record {
      answer = sym (lowest_none 9 (length cs) (fault9 ss cs) (λ j h. l.invariant.4.faultless j (omega (arith, q))));
      chains = λ e. chains_all cs l.table l.vertices l.start q l.invariant.4.chains;
      faces = λ e. faces_all ss l.table l.start all l.invariant.5;
    }

pub overflow_add-end : goal.overflow_add-end
overflow_add-end c = omega (arith, within (goal.at.overflow_add-end c).In-loop-s, ends (goal.at.overflow_add-end c).In-loop-s)
