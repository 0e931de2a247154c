-- `refine::fill_faces` meets its contract: the points of the faces before `f` are those of the table of sums.
use mathlib.Core.Path.{◌≡◌, ◌∙◌, sym, subst}
use mathlib.Core.List.{List}
use Prim.Native.Nat.{ℕ, ◌+◌, ◌≤◌, ◌<◌}
use native.Mathlib.Omega.{arith}
use lib.ListN.{length, get_or}
use Rattle.paper.specs.Mesh.{Mesh, of_lists}
use Rattle.paper.specs.Corners.{start_of}
use Rattle.mesh.proofs.Faces.{start_zero, start_next, start_ends, start_all, face_at}
use Rattle.face_sums.specs.Marks.{AtMark}
use Rattle.refine.proofs.Points.{put_none, put_more}
use Rattle.refine.proofs.Laws.{face_known, face_put, lists_of_lem}
use Rattle.refine.proofs.fill_faces.Goals as goal
use Rattle.refine.proofs.fill_faces.Goals.{In-loop-f, Start, then-needed, else-needed}

abbrev mesh : Start → Mesh
mesh s = of_lists s.args.lists

-- at face f
module _ (i : In-loop-f) where
  abbrev s : Start
  s = search

  abbrev sides : List ℕ
  sides = s.args.lists.sides.now

  abbrev f : ℕ
  f = i.loop-f.f

  here : f < length sides
  here = i.loop-f-test.true

  ends : let l = i.loop-f in
      (l.start + get_or sides f 0 ≤ length s.args.lists.corners.now) × (l.start + get_or sides f 0 ≤ 8192) × (3 ≤ get_or sides f 0) × (get_or sides f 0 ≤ 16)
  ends =
      let l = i.loop-f in
      let e = start_ends sides f here in (
        omega (arith, l.invariant.0, s.requires.mesh.sums),
        omega (arith, l.invariant.0, s.requires.mesh.faces.few),
        s.requires.mesh.faces.least f here,
        s.requires.mesh.faces.most f here,
      )

  -- no corner of a face that is not wanted is marked
  unmarked : get_or s.args.wanted.now f 0 ≡ 0 → (c : ℕ) → start_of sides f ≤ c → c < start_of sides (f + 1)
      → AtMark s.args.lists.corners.now s.args.marked.now c → ⊥
  unmarked z c a b m =
      let n = start_next sides f here in
      let h = s.requires.marked.1 c (omega (arith, n, start_ends sides f here, s.requires.mesh.sums)) m in
      omega (arith, z, subst (λ (g : ℕ). 0 < get_or s.args.wanted.now g 0) (face_at sides f c a (omega (arith, n)) here) h)

pub loop-f-init : goal.loop-f-init
loop-f-init c = (sym (start_zero _), put_none _ (λ d m. omega (arith, m.1, start_zero c.args.lists.sides.now)) c.requires.points.1)

pub loop-f-preserved : goal.loop-f-preserved
loop-f-preserved c =
    let i = (goal.at.loop-f-preserved c).In-loop-f in let l = i.loop-f in
    let n = start_next (sides i) (f i) (here i) in (
      omega (arith, n, l.invariant.0),
      put_more (s i).args.lists.corners.now (s i).args.marked.now 0 (start_of (sides i) (f i)) (start_of (sides i) (f i + 1)) (omega arith) (omega (arith, n)) l.invariant.1
          (elim c.if-needed.branch [
            | then-needed w ↦ rw w.points-is
                (face_put (mesh (s i)) (s i).requires.mesh (s i).args.wanted.now (s i).args.sums.now (s i).requires.sums (f i) (here i)
                (omega (arith, w.if-needed.true)) w.read_face-face.result w.read_face-face.ensures (s i).args.table.now (s i).args.marked.now (s i).requires.table l.start
                l.invariant.0 w.fill_face.ensures)
            | else-needed w ↦ rw w.points-is (put_none _ (λ d m. unmarked i (omega (arith, w.if-needed.false)) d m.0 m.1 m.2) l.invariant.1.small)
          ]),
    )

pub fill_face-requires : goal.fill_face-requires
fill_face-requires c =
    let i = (goal.at.fill_face-requires c).In-loop-f in let k = i.loop-f.invariant.1 in let r = c.read_face-face in
    let known = face_known (mesh (s i)) (s i).requires.mesh (s i).args.wanted.now (s i).args.sums.now (s i).requires.sums (f i) (here i)
    (omega (arith, c.if-needed.true)) r.result r.ensures in record {
      lists = lists_of_lem (mesh (s i)) (s i).requires.mesh (s i).args.table.now (s i).requires.table;
      marked = c.requires.marked.0;
      face = (omega (arith, (ends i).0, r.ensures.sides_are), known);
      points = (omega (arith, k.same, c.requires.points.0), k.small);
    }

pub returns : goal.returns
returns c =
    let l = c.loop-f in
    let e : start_of c.args.lists.sides.now l.f ≡ length c.args.lists.corners.now = start_all c.args.lists.sides.now l.f (omega arith) ∙ c.requires.mesh.sums in
    rw (← e) l.invariant.1

pub bounds-wanted-f : goal.bounds-wanted-f
bounds-wanted-f c = omega (arith, here (goal.at.bounds-wanted-f c).In-loop-f, (s (goal.at.bounds-wanted-f c).In-loop-f).requires.sums.wanted_long)

pub read_face-face-requires : goal.read_face-face-requires
read_face-face-requires c =
    let i = (goal.at.read_face-face-requires c).In-loop-f in
    record { sides = (here i, (ends i).2, (ends i).3); sums = omega (arith, here i, c.requires.sums.sums_long) }

pub overflow_cast-start : goal.overflow_cast-start
overflow_cast-start c = omega (arith, ends (goal.at.overflow_cast-start c).In-loop-f)

pub overflow_add-start : goal.overflow_add-start
overflow_add-start c = omega (arith, ends (goal.at.overflow_add-start c).In-loop-f)
