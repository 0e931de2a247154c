-- `put_rings` meets its contract: before each turn the rings before are written, and the centre comes last.
use mathlib.Core.Path.{◌≡◌, refl}
use Prim.Native.Nat.{◌+◌, ◌-◌, ◌*◌, ◌≤◌, ◌<◌}
use native.Mathlib.Omega.{arith}
use lib.Dec.{lit≤}
use lib.ListN.{length}
use Rattle.net_tangents.specs.Lanes.{lane_of, Lanes}
use Rattle.net_tangents.proofs.Lanes.{table_small, lanes_part}
use Rattle.net_tangents.proofs.Laws.{lanes_at, values_fill, ring_aim, ring_fits, ring_next, last_fits, rings_end}
use Rattle.net_tangents.proofs.put_rings.Goals as goal
use Rattle.net_tangents.proofs.put_rings.Goals.{After-loop-k, At-loop-k, In-loop-k}

-- the table before the loop's test
module _ (e : At-loop-k) where
  here : Lanes e.requires.0.polynomials 0 24 e.loop-k.k e.loop-k.table
  here = e.loop-k.invariant.1 e.requires.0.polynomials e.requires.0.lanes

-- in the loop
module _ (t : In-loop-k) where
  below : t.loop-k.k + 1 < t.args.n
  below = omega arith

  few : t.args.n ≤ 16
  few = t.requires.2

  room : t.loop-k.to + 24 * (t.args.n - t.loop-k.k - 1) + 6 ≤ length t.args.out.now
  room =
      ring_fits t.args.n t.loop-k.k (t.args.n - t.loop-k.k - 1) t.loop-k.to t.args.at (length t.args.out.now) below refl
      t.loop-k.invariant.0 t.requires.3

pub next_row-requires : goal.next_row-requires
next_row-requires c =
    table_small c.requires.0.polynomials c.loop-k.k c.loop-k.table (here (search))

pub put_ring-requires : goal.put_ring-requires
put_ring-requires c = (
  (c.loop-k.k + 1, record { polynomials = c.requires.0.polynomials; lanes = c.next_row.ensures c.requires.0.polynomials c.loop-k.k (here (search)) (omega (arith, below (search), few (search))) }),
  omega (arith, few (search)),
  omega (arith, room (search)),
)

pub loop-k-preserved : goal.loop-k-preserved
loop-k-preserved c =
    let l = c.loop-k in
    let n = c.args.n in
    let w = n - l.k - 1 in (
      ring_next n l.k w l.to c.args.at (below (search)) refl l.invariant.0,
      λ F h. c.next_row.ensures F l.k (l.invariant.1 F h) (omega (arith, below (search), few (search))),
      λ numbers h f old q aim.
          c.put_ring.ensures numbers n (l.k + 1) (c.next_row.ensures (lane_of numbers n) l.k (l.invariant.1 (lane_of numbers n) h) (omega (arith, below (search), few (search))))
          (omega (arith, below (search))) f old (l.invariant.2 numbers h f old q aim) (ring_aim numbers n c.args.at l.k w l.to (below (search)) refl f aim l.invariant.0),
    )

-- after the loop
module _ (o : After-loop-k) where
  ends : o.loop-k.k + 1 ≡ o.args.n
  ends = omega arith

  last_room : o.loop-k.to + 6 ≤ length o.loop-k.out
  last_room = let l = o.loop-k in last_fits o.args.n l.k l.to o.args.at ends l.invariant.0 (length l.out) (rw l.auto.out o.requires.3)

  below_last : o.loop-k.k < 16
  below_last = omega (arith, o.requires.2)

pub next_row-requires-2 : goal.next_row-requires-2
next_row-requires-2 c =
    table_small c.requires.0.polynomials c.loop-k.k c.loop-k.table (here (search))

pub put_places-requires-clause-row : goal.put_places-requires-clause-row
put_places-requires-clause-row c =
    let h = c.next_row-2.ensures c.requires.0.polynomials c.loop-k.k (here (search)) (below_last (search)) in
    ((c.loop-k.k + 1, record { polynomials = c.requires.0.polynomials; lanes = lanes_part c.requires.0.polynomials 0 24 0 6 (c.loop-k.k + 1) _ (lit≤ tt) (lit≤ tt) h }), lit≤ tt)

pub returns : goal.returns
returns c =
    let l = c.loop-k in
    let n = c.args.n in
    λ numbers h f old filled aim centre.
    let lanes = c.next_row-2.ensures (lane_of numbers n) l.k (l.invariant.1 (lane_of numbers n) h) (below_last (search)) in
    rings_end n l.k l.to c.args.at (ends (search)) l.invariant.0 numbers f old l.out _ centre (l.invariant.2 numbers h f old filled aim)
    (values_fill numbers n n 0 0 1 l.to l.out _ (lit≤ tt) (omega arith)
    (c.put_places.ensures (lane_of numbers n) n (lanes_at (lane_of numbers n) 0 6 (l.k + 1) n _ (ends (search)) (lanes_part (lane_of numbers n) 0 24 0 6 (l.k + 1) _ (lit≤ tt) (lit≤ tt) lanes))))
