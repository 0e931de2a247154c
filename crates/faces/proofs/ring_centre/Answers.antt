-- `faces::ring_centre` meets its contract: before the turn at j the sums are those of the places below j, with equal weights.
use mathlib.Core.Path.{◌≡◌, refl}
use native.Mathlib.Omega.{arith}
use lib.Dec.{lit<}
use Rattle.faces.proofs.Round.{turn_first, turn_next, asks, by_bits, place_in, point_ring, equal, equal_size, centre_units, centre_end}
use borrow.Author.Rules.{rules}
use mir.Syntax.{w64}
use mir.Val.{SFits}
use mir.Facts.{to_z-of_z}
use Rattle.faces.proofs.ring_centre.Goals as goal

pub loop-init : goal.loop-init
loop-init c = turn_first _ _ _ _ _ _

pub add_point-x-requires : goal.add_point-x-requires
add_point-x-requires c =
    let a = (asks _ _ _ _ _ c.requires.ring equal equal_size _ _ _ _ _ _ (by_bits c.loop.auto.x-fits c.loop.auto.y-fits c.loop.auto.z-fits c.loop.invariant) refl).0 in
    record { point = a.0; sizes = a.1 }

pub add_point-y-requires : goal.add_point-y-requires
add_point-y-requires c =
    let a = (asks _ _ _ _ _ c.requires.ring equal equal_size _ _ _ _ _ _ (by_bits c.loop.auto.x-fits c.loop.auto.y-fits c.loop.auto.z-fits c.loop.invariant) refl).1 in
    record { point = a.0; sizes = a.1 }

pub add_point-z-requires : goal.add_point-z-requires
add_point-z-requires c =
    let a = (asks _ _ _ _ _ c.requires.ring equal equal_size _ _ _ _ _ _ (by_bits c.loop.auto.x-fits c.loop.auto.y-fits c.loop.auto.z-fits c.loop.invariant) refl).2 in
    record { point = a.0; sizes = a.1 }

pub by-at-requires : goal.by-at-requires
by-at-requires c =
    c.requires.ring.table_holds _ (place_in _ _ _ _ _ c.requires.ring _ _ c.loop.invariant.place)

pub loop-preserved : goal.loop-preserved
loop-preserved c =
    let f : SFits w64 c.add_point-x.result = search rules in
    let g : SFits w64 c.add_point-y.result = search rules in
    let k : SFits w64 c.add_point-z.result = search rules in
    let t = by_bits c.loop.auto.x-fits c.loop.auto.y-fits c.loop.auto.z-fits c.loop.invariant in
    simp (to_z-of_z, f, g, k)
    (turn_next _ _ _ _ _ c.requires.ring equal equal_size _ _ _ _ _ _ _ _ _ _ c.loop-test.true t refl c.by-at.ensures c.add_point-x.ensures
    c.add_point-y.ensures c.add_point-z.ensures)

pub quotient-requires : goal.quotient-requires
quotient-requires c =
    let i = by_bits c.loop.auto.x-fits c.loop.auto.y-fits c.loop.auto.z-fits c.loop.invariant in
    let r = c.requires.ring in
    let e : c.loop.counter ≡ c.args.m = omega (arith, i.left) in record {
      count = (r.least, r.most, c.requires.reciprocal);
      sums = (
        centre_units _ _ (point_ring _ _ _ _ _ r 0 (lit< tt)) _ (rw e at i.sum_x),
        centre_units _ _ (point_ring _ _ _ _ _ r 1 (lit< tt)) _ (rw e at i.sum_y),
        centre_units _ _ (point_ring _ _ _ _ _ r 2 (lit< tt)) _ (rw e at i.sum_z),
      );
    }

pub returns : goal.returns
returns c =
    let i = by_bits c.loop.auto.x-fits c.loop.auto.y-fits c.loop.auto.z-fits c.loop.invariant in
    let e : c.loop.counter ≡ c.args.m = omega (arith, i.left) in
    centre_end _ _ _ _ _ _ _ _ _ c.requires.ring _ (rw e at i) c.quotient.ensures
