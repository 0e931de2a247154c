-- `face_sums::fill_sums` meets its contract: the sums of the faces before `f` that are needed are put in.
use mathlib.Core.Path.{◌≡◌, refl, sym, ap, ◌∙◌, subst}
use mathlib.Core.List.{List}
use Prim.Native.Nat.{ℕ, ◌+◌, ◌*◌, ◌≤◌, ◌<◌}
use native.Mathlib.Omega.{arith}
use lib.IntN.{ℤ, pos}
use lib.ListN.{length, get_or, set}
use Rattle.paper.specs.Mesh.{Mesh, plain_mesh}
use Rattle.mesh.proofs.Faces.{start_zero, start_next, start_ends}
use Rattle.face_sums.specs.Sums.{face_steps, sum_row, face_sum_at, step_sum, SumsAre}
use Rattle.face_sums.proofs.Laws.{sums_none, sums_more}
use Rattle.face_sums.proofs.Marks.{tells_bit}
use mir.Val.{bool_byte}
use Rattle.face_sums.proofs.Parts.{part, part_length, part_named, part_placed, part_tells, part_sum}
use Rattle.face_sums.proofs.fill_sums.Goals as goal
use Rattle.face_sums.proofs.fill_sums.Goals.{In-loop-f, Start, then-any, else-any}
use Rattle.face_sums.specs.Marks.{SomeIn, Tells, AtMark}

-- at face f
module _ (i : In-loop-f) where
  abbrev s : Start
  s = search

  abbrev sides : List ℕ
  sides = s.args.sides.now

  abbrev mesh : Mesh
  mesh = plain_mesh s.args.coordinates.now sides s.args.corners.now

  here : i.loop-f.f < length sides
  here = i.loop-f-test.true

  ends : let l = i.loop-f in (l.start + get_or sides l.f 0 ≤ length s.args.corners.now) × (l.start + get_or sides l.f 0 ≤ 8192) × (get_or sides l.f 0 ≤ 16)
  ends =
      let l = i.loop-f in
      let e = start_ends sides l.f here in
      (omega (arith, l.invariant.0, s.requires.mesh.1), omega (arith, l.invariant.0, s.requires.mesh.0.few), s.requires.mesh.0.most l.f here)

  room : let l = i.loop-f in (l.f < length l.wanted) × (sum_row * l.f + sum_row ≤ length l.sums)
  room = let l = i.loop-f in (omega (arith, here, l.auto.wanted, s.requires.room.0), omega (arith, here, l.auto.sums, s.requires.room.1))

  -- the face's own corners
  abbrev face : List ℕ
  face = part s.args.corners.now i.loop-f.start (get_or sides i.loop-f.f 0) (i.loop-f.start + get_or sides i.loop-f.f 0) refl ends.0

-- one face more: it is needed and summed, or not
module _ (i : In-loop-f) (any : ℕ) (told : Tells any (SomeIn (AtMark (face i) (s i).args.marked.now) 0 (length (face i)))) where
  abbrev f : ℕ
  f = i.loop-f.f

  abbrev Summed : List ℤ → Type 0
  Summed new = SumsAre (mesh i) (s i).args.marked.now (f + 1) (set i.loop-f.wanted f any) new

  more : (new : List ℤ) → ((k : ℕ) → k < sum_row * f → get_or new k (pos 0) ≡ get_or i.loop-f.sums k (pos 0))
      → (0 < any → (axis : ℕ) → axis < 3 → face_sum_at new f axis ≡ face_steps (mesh i) f axis) → Summed new
  more new b r =
      let l = i.loop-f in
      let t = part_tells (s i).args.corners.now l.start (get_or (sides i) f 0) _ refl (ends i).0 (s i).args.marked.now any told in
      sums_more (mesh i) (s i).args.marked.now f any l.wanted l.sums new (room i).0 (rw (← l.invariant.0) t) b r l.invariant.1

pub loop-f-init : goal.loop-f-init
loop-f-init c = (sym (start_zero _), sums_none _ _ _ _)

pub overflow_add-end : goal.overflow_add-end
overflow_add-end c = omega (arith, ends (goal.at.overflow_add-end c).In-loop-f)

pub offset_bounds-corners-start : goal.offset_bounds-corners-start
offset_bounds-corners-start c = omega (arith, ends (goal.at.offset_bounds-corners-start c).In-loop-f)

pub slice_bounds-face-end : goal.slice_bounds-face-end
slice_bounds-face-end c = (ends (goal.at.slice_bounds-face-end c).In-loop-f).0

pub any_marked-any-requires : goal.any_marked-any-requires
any_marked-any-requires c =
    let k = (goal.at.any_marked-any-requires c).In-loop-f in part_named c.args.corners.now c.loop-f.start _ _ refl (ends k).0 _ c.requires.marked

pub sum_face-requires : goal.sum_face-requires
sum_face-requires c =
    let k = (goal.at.sum_face-requires c).In-loop-f in record {
      placed = part_placed c.args.corners.now c.loop-f.start _ _ refl (ends k).0 _ c.requires.mesh.2;
      face = omega (arith, part_length c.args.corners.now c.loop-f.start (get_or (sides k) k.loop-f.f 0) _ refl (ends k).0, (ends k).2);
      sums = (room k).1;
    }

pub loop-f-preserved : goal.loop-f-preserved
loop-f-preserved c =
    let i = (goal.at.loop-f-preserved c).In-loop-f in
    let l = c.loop-f in
    let told = tells_bit c.any_marked-any.result c.from.result c.from.ensures c.any_marked-any.ensures in
    let t : Summed i c.from.result told c.if-any.sums =
    elim c.if-any.branch [
      | then-any w ↦ subst (Summed i c.from.result told) (sym w.sums-is)
          (more i c.from.result told _ w.sum_face.ensures.before
          (λ o axis a. w.sum_face.ensures.sums_are axis a
          ∙ part_sum c.args.corners.now l.start (get_or (sides i) l.f 0) _ refl (ends i).0 c.args.coordinates.now axis
          ∙ ap (λ (k : ℕ). step_sum c.args.coordinates.now c.args.corners.now k (get_or (sides i) l.f 0) axis) l.invariant.0))
      | else-any w ↦ subst (Summed i c.from.result told) (sym w.sums-is)
          (more i c.from.result told _ (λ k h. refl) (λ o. let z : c.from.result ≡ 0 = c.from.ensures ∙ ap bool_byte w.if-any.false in absurd (omega arith)))
    ] in (omega (arith, start_next (sides i) l.f (here i), l.invariant.0), t)

pub bounds-wanted-f : goal.bounds-wanted-f
bounds-wanted-f c = (room (goal.at.bounds-wanted-f c).In-loop-f).0
