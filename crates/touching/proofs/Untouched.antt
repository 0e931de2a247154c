-- A corner that the vertex does not touch has the same numbers before and after the move: its net looks at the refined points of the faces at its
-- vertex, and none of these faces has the moved vertex.
use mathlib.Core.Path.{◌≡◌, refl, sym, ap, ◌∙◌}
use mathlib.Core.Bool.{Bool, true, false, ◌&&◌}
use mathlib.Core.List.{List}
use Prim.Native.Nat.{ℕ, ◌+◌, ◌*◌, ◌<◌}
use native.Mathlib.Omega.{arith}
use lib.ListN.{get_or, set}
use lib.Seq.{get_or-set_other}
use lib.IntN.{ℤ, pos, ◌*ℤ◌}
use borrow.Author.Tests.{eq-eqb}
use Rattle.numbers.proofs.Sum.{sum_same}
use Rattle.paper.specs.Scan.{pick_n}
use Rattle.paper.specs.Mesh.{Mesh, corner_count}
use Rattle.paper.specs.Corners.{start_of, face_of, next, previous}
use Rattle.paper.specs.Links.{vertex_of, names}
use Rattle.paper.specs.Faults.{Accepted}
use Rattle.paper.specs.Numbers.{rounded}
use Rattle.paper.specs.Refined.{Corners, corners_of, refined_of, ticks_per_step, ticks, face_sum, u_of, v_of, refined_point}
use Rattle.paper.specs.Net.{ring, net}
use Rattle.paper.specs.Borders.{output_at, Wrote}
use Rattle.paper.specs.Claims.{Untouched}
use Rattle.paper.specs.declared.Move.{Move}
use Rattle.paper.specs.Preview.{moved_list, moved, has_vertex, touches_at, touches}
use Rattle.mesh.proofs.Scans.{clash, and_true, none}
use Rattle.mesh.proofs.Faces.{held, face_at, start_ends}
use Rattle.mesh.proofs.Theorems.{manifold}
use Rattle.surface.specs.Sound.{Agree}
use Rattle.surface.proofs.Rings.{ring_in}
use Rattle.surface.proofs.RingFaces.{Beside, ring_beside}
use Rattle.surface.proofs.Hull.{corners_sound}
use Rattle.surface.proofs.Agree.{net_same}
use Rattle.borders.proofs.Written.{accepted, corner_of_lem, written_is}
use Rattle.touching.proofs.Laws.{sums, marks_at}

and_second : (a b : Bool) → a ≡ true → (a && b) ≡ false → b ≡ false
and_second true b p q = q
and_second false b p q = absurd (clash p refl)

pick_zero : (b : Bool) → pick_n b 1 0 ≡ 0 → b ≡ false
pick_zero true e = absurd (omega (arith, e))
pick_zero false e = refl

agree_refl : (K : Corners) → Agree K K
agree_refl K = record {
  count = refl;
  next = λ c h. refl;
  previous = λ c h. refl;
  link = λ c h. refl;
  sides = λ c h. refl;
  valence = λ c h. refl;
}

-- ---- another vertex stays where it is
moved_other : (l : List ℤ) (m : Move) (v axis : ℕ) → axis < 3 → (v ≡ m.vertex → ⊥)
    → get_or (moved_list l m) (3 * v + axis) (pos 0) ≡ get_or l (3 * v + axis) (pos 0)
unfolding moved_list
moved_other l m v axis h n =
    let i = 3 * m.vertex in
    let a = set l i m.x in
    let b = set a (i + 1) m.y in
    get_or-set_other b (i + 2) (3 * v + axis) m.z (pos 0) (λ q. n (omega (arith, q)))
    ∙ get_or-set_other a (i + 1) (3 * v + axis) m.y (pos 0) (λ q. n (omega (arith, q)))
    ∙ get_or-set_other l i (3 * v + axis) m.x (pos 0) (λ q. n (omega (arith, q)))

module _ (M : Mesh) (m : Move) (a : Accepted M) (axis : ℕ) (small : axis < 3) where
  tick_same : (e : ℕ) → (vertex_of M.corners e ≡ m.vertex → ⊥) → ticks M axis e ≡ ticks (moved M m) axis e
  unfolding ticks
  tick_same e n = ap (λ (z : ℤ). pos ticks_per_step *ℤ z) (sym (moved_other M.coordinates m (vertex_of M.corners e) axis small n))

  -- ---- the refined point of a corner whose face has not the vertex
  module _ (d : ℕ) (h : d < corner_count M) (away : (e : ℕ) → e < corner_count M → face_of M.sides e ≡ face_of M.sides d
      → vertex_of M.corners e ≡ m.vertex → ⊥) where
    sum_stays : face_sum M axis (face_of M.sides d) ≡ face_sum (moved M m) axis (face_of M.sides d)
    unfolding face_sum
    sum_stays =
        let f = face_of M.sides d in
        let k = held M.sides d (omega (arith, sums M a)) in
        sum_same _ _ (get_or M.sides f 0) (λ j l.
        let x = start_of M.sides f + j in
        tick_same x
        (away x (omega (arith, start_ends M.sides f k.exists, sums M a)) (face_at M.sides f x (omega arith) (omega arith) k.exists)))

    point_stays : refined_point rounded M axis d ≡ refined_point rounded (moved M m) axis d
    unfolding refined_point u_of v_of
    point_stays =
        let k = manifold M a d h in
        let p = tick_same (previous M.sides d) (away (previous M.sides d) k.previous_below k.face_previous) in
        let x = tick_same (next M.sides d) (away (next M.sides d) k.next_below k.face_next) in
        let o = tick_same d (away d h refl) in
        rw (sum_stays, p, x, o)

  -- ---- the quad-net of a corner that the vertex does not touch
  module _ (c : ℕ) (h : c < corner_count M) (t : touches M.sides M.corners m.vertex c ≡ false) where
    away : (d : ℕ) → Beside M c d → (e : ℕ) → e < corner_count M → face_of M.sides e ≡ face_of M.sides d → vertex_of M.corners e ≡ m.vertex → ⊥
    unfolding touches_at has_vertex names
    away d b e l f v =
        let none-there = and_second _ _ (eq-eqb _ _ b.at_vertex) (none (corner_count M) _ t b.at b.at_in) in
        clash (and_true _ _ (eq-eqb _ _ (f ∙ b.in_face_lem)) (eq-eqb _ _ v)) (none (corner_count M) _ none-there e l)

    pub net_stays : net (refined_of rounded M axis) c ≡ net (refined_of rounded (moved M m) axis) c
    net_stays =
        net_same (refined_of rounded M axis) (refined_of rounded (moved M m) axis) (agree_refl (corners_of M)) (corners_sound M a) c h
        (λ e j. point_stays (ring (corners_of M) c e j) (ring_in (corners_of M) (corners_sound M a) c h e j)
        (away (ring (corners_of M) c e j) (ring_beside M a c h e j)))

-- ---- what two calls leave
pub untouched : Untouched
untouched M m lent marks links links' first count first' count' old old' out out' t b b' c ha hb z axis k small inner =
    let A = output_at out first count in
    let B = output_at out' first' count' in
    let wA : Wrote M A = record { links = links; old = old; call = b } in
    let wB : Wrote (moved M m) B = record { links = links'; old = old'; call = b' } in
    let a = accepted M A wA in
    let h = corner_of_lem M A wA c ha in
    let mark = sym (marks_at M.sides M.corners m.vertex c h) ∙ sym (ap (λ (l : List ℕ). get_or l c 0) t.holds) ∙ z in
    written_is (moved M m) B wB c hb axis small k inner
    ∙ ap (λ (l : List ℤ). get_or l k (pos 0)) (sym (net_stays M m a axis small c h (pick_zero _ mark)))
    ∙ sym (written_is M A wA c ha axis small k inner)
