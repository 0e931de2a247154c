-- `corner_points::fill_corner` meets its contract: the values of the calls are the corner's point, one axis after the other.
use mathlib.Core.Path.{◌≡◌, ◌∙◌}
use mathlib.Core.List.{List}
use Prim.Native.Nat.{ℕ, ◌+◌, ◌*◌, ◌^◌, ◌≤◌, ◌<◌}
use native.Mathlib.Nat.{le_trans}
use native.Mathlib.Omega.{arith}
use borrow.Author.Rules.{rules}
use lib.Dec.{lit<}
use lib.ListN.{length, length-set}
use lib.IntN.{ℤ}
use mir.Syntax.{w32}
use mir.Val.{SFits, to_z, of_z}
use mir.Facts.{to_z-of_z}
use Rattle.numbers.proofs.Machine.{abs_fits}
use Rattle.face_sums.specs.Sums.{vertex_steps}
use Rattle.corner_points.specs.Mean.{Balanced, Known, mean, total_on, face_point}
use Rattle.corner_points.specs.declared.CornerWeights.{CornerWeights}
use Rattle.corner_points.proofs.Laws.{put_one}
use Rattle.corner_points.proofs.Laws.{balanced, pair_of, point_size}
use Rattle.corner_points.proofs.fill_corner.Goals as goal
use Rattle.corner_points.proofs.fill_corner.Goals.{After-weigh-w, Start}

-- means of the same numbers
same_mean : (coordinates : List ℤ) (corners : List ℕ) (axis c n : ℕ) (v w : CornerWeights) (p q p' q' : ℕ) (t u : ℤ) → v ≡ w → t ≡ u → p ≡ p' → q ≡ q'
    → let P = vertex_steps coordinates corners axis in mean v t (P p) (P c) (P q) n ≡ mean w u (P p') (P c) (P q') n
same_mean coordinates corners axis c n v w p q p' q' t u ew et ep eq = rw (ew, et, ep, eq)

module _ (s : Start) where
  here : s.args.c < length s.args.corners.now
  here = s.requires.face.0

  -- Σ on an axis fits
  total_fits : (k : ℕ) → k < 3 → SFits w32 (total_on s.args.face k)
  total_fits k l = let i = s.requires.face.1 k l in abs_fits w32 _ (2 ^ 20) (le_trans i.total_size (omega (arith, i.most))) (lit< tt)

pub weigh-w-requires : goal.weigh-w-requires
weigh-w-requires c = let s = (goal.at.weigh-w-requires c).Start in pair_of _ _ _ _ s.requires.lists s.args.c (here s)

-- with the weights and the corners around
module _ (w : After-weigh-w) where
  abbrev s : Start
  s = search

  abbrev p : ℕ
  p = w.previous-p.result.corner

  abbrev q : ℕ
  q = w.next-q.result.corner

  weights_balanced : Balanced w.weigh-w.result
  weights_balanced = rw w.weigh-w.ensures (balanced _ _ (pair_of _ _ _ _ s.requires.lists s.args.c (here s)))

  bounds : (p < length s.args.corners.now) × (s.args.c < length s.args.corners.now) × (q < length s.args.corners.now)
  bounds = (
    omega (arith, w.previous-p.ensures.read, s.requires.lists.previous_in _ (here s)),
    here s,
    omega (arith, w.next-q.ensures.read, s.requires.lists.next_in _ (here s)),
  )

  known : (k : ℕ) → k < 3 → Known (to_z w32 (of_z w32 (total_on s.args.face k))) s.args.face
  known k l = rw (to_z-of_z (total_fits s k l)) (s.requires.face.1 k l)

  -- what a call answers is the corner's point on that axis
  value_is : (k : ℕ) (r : ℤ) → k < 3 → SFits w32 r → let P = vertex_steps s.args.coordinates.now s.args.corners.now k in
      r ≡ mean w.weigh-w.result (to_z w32 (of_z w32 (total_on s.args.face k))) (P p) (P s.args.c) (P q) s.args.face.sides
      → to_z w32 (of_z w32 r) ≡ face_point s.args.coordinates.now s.args.corners.now s.args.sharpness.now s.args.table.now s.args.face k s.args.c
  value_is k r l f h =
      to_z-of_z f ∙ h
      ∙ same_mean s.args.coordinates.now s.args.corners.now k s.args.c s.args.face.sides w.weigh-w.result _ p q _ _ _ _ w.weigh-w.ensures (to_z-of_z (total_fits s k l)) w.previous-p.ensures.read
      w.next-q.ensures.read

pub on_axis-x-requires : goal.on_axis-x-requires
on_axis-x-requires c =
    let b = (goal.at.on_axis-x-requires c).After-weigh-w in
    record {
      placed = c.requires.lists.placed;
      corners = (lit< tt, omega (arith, bounds b), omega (arith, bounds b), omega (arith, bounds b));
      face = (known b 0 (lit< tt), weights_balanced b);
    }

pub on_axis-y-requires : goal.on_axis-y-requires
on_axis-y-requires c =
    let b = (goal.at.on_axis-y-requires c).After-weigh-w in
    record {
      placed = c.requires.lists.placed;
      corners = (lit< tt, omega (arith, bounds b), omega (arith, bounds b), omega (arith, bounds b));
      face = (known b 1 (lit< tt), weights_balanced b);
    }

pub on_axis-z-requires : goal.on_axis-z-requires
on_axis-z-requires c =
    let b = (goal.at.on_axis-z-requires c).After-weigh-w in
    record {
      placed = c.requires.lists.placed;
      corners = (lit< tt, omega (arith, bounds b), omega (arith, bounds b), omega (arith, bounds b));
      face = (known b 2 (lit< tt), weights_balanced b);
    }

-- where the three numbers go
module _ (t : Start) where
  room : (4 * t.args.c + 4 ≤ length t.args.points.now) × (t.args.c < 8192)
  room = (omega (arith, here t, t.requires.points.0), omega (arith, here t, t.requires.lists.few))

pub returns : goal.returns
returns c =
    let x = c in let w = (goal.at.returns c).After-weigh-w in let t = s w in
    put_one t.args.c t.args.points.now _ _ _ (omega (arith, (room t).0))
    (value_is w 0 _ (lit< tt) (search rules) x.on_axis-x.ensures)
    (value_is w 1 _ (lit< tt) (search rules) c.on_axis-y.ensures)
    (value_is w 2 _ (lit< tt) (search rules) c.on_axis-z.ensures)
    (point_size _ _ _ _ t.requires.lists t.args.c (here t) t.args.face t.requires.face.1) t.requires.points.1

pub overflow_mul-x : goal.overflow_mul-x
overflow_mul-x c = omega (arith, room (goal.at.overflow_mul-x c).Start)

pub offset_bounds-points-c : goal.offset_bounds-points-c
offset_bounds-points-c c = omega (arith, room (goal.at.offset_bounds-points-c c).Start)

pub bounds-points-c : goal.bounds-points-c
bounds-points-c c = omega (arith, room (goal.at.bounds-points-c c).Start)

pub overflow_mul-y : goal.overflow_mul-y
overflow_mul-y c = omega (arith, room (goal.at.overflow_mul-y c).Start)

pub overflow_add-y : goal.overflow_add-y
overflow_add-y c = omega (arith, room (goal.at.overflow_add-y c).Start)

pub offset_bounds-points-c-2 : goal.offset_bounds-points-c-2
offset_bounds-points-c-2 c = omega (arith, room (goal.at.offset_bounds-points-c-2 c).Start)

pub bounds-points-c-2 : goal.bounds-points-c-2
bounds-points-c-2 c = simp length-set (omega (arith, room (goal.at.bounds-points-c-2 c).Start))

pub overflow_mul-z : goal.overflow_mul-z
overflow_mul-z c = omega (arith, room (goal.at.overflow_mul-z c).Start)

pub overflow_add-z : goal.overflow_add-z
overflow_add-z c = omega (arith, room (goal.at.overflow_add-z c).Start)

pub offset_bounds-points-c-3 : goal.offset_bounds-points-c-3
offset_bounds-points-c-3 c = omega (arith, room (goal.at.offset_bounds-points-c-3 c).Start)

pub bounds-points-c-3 : goal.bounds-points-c-3
bounds-points-c-3 c = simp length-set (omega (arith, room (goal.at.bounds-points-c-3 c).Start))
