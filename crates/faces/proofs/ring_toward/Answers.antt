-- `faces::ring_toward` meets its contract: before the turn at j the sums are those of the places below j, and the last cosine is that of the place
-- before.
use mathlib.Core.Path.{◌≡◌, sym, ap, ◌∙◌}
use Prim.Native.Nat.{ℕ, ◌+◌, ◌-◌, ◌<◌}
use native.Mathlib.Omega.{arith}
use lib.Dec.{lit<}
use Rattle.paper.specs.Cosines.{cosine}
use Rattle.paper.specs.Face.{weight}
use Rattle.numbers.proofs.Rules.{period, cosine_size}
use Rattle.faces.proofs.Round.{turn_first, turn_next, asks, by_bits, place_in, point_ring, toward_units, toward_end}
use Rattle.faces.proofs.Round.{cosine_plain, weights_small, weight_plain}
use borrow.Author.Rules.{rules}
use mir.Syntax.{w64}
use mir.Val.{SFits}
use mir.Facts.{to_z-of_z}
use Rattle.faces.proofs.ring_toward.Goals as goal

-- C(m, j) is that of the place before the next
carried : (m j : ℕ) → j < m → cosine m j ≡ cosine m (j + 1 + (m - 1))
carried m j h = sym (period m j) ∙ ap (cosine m) (omega arith)

pub cosine-last-requires : goal.cosine-last-requires
cosine-last-requires c =
    let r = c.requires.ring in
    (c.requires.rows, r.least, r.most, omega (arith, r.least))

pub loop-j-init : goal.loop-j-init
loop-j-init c =
    let r = c.requires.ring in
    (turn_first _ _ _ _ _ _, (cosine_plain _ r.least r.most _ _ c.cosine-last.ensures).0 ∙ ap (cosine c.args.m) (omega arith))

pub cosine-next-requires : goal.cosine-next-requires
cosine-next-requires c =
    let r = c.requires.ring in
    (c.requires.rows, r.least, r.most, c.loop-j-test.true)

pub weigh-w-requires : goal.weigh-w-requires
weigh-w-requires c =
    let r = c.requires.ring in
    (rw c.loop-j.invariant.1 (cosine_size _ r.least r.most _), (cosine_plain _ r.least r.most _ _ c.cosine-next.ensures).1)

pub add_point-x-requires : goal.add_point-x-requires
add_point-x-requires c =
    let a =
    (asks _ _ _ _ _ c.requires.ring (weight c.args.m) (weights_small c.args.m c.requires.ring.least c.requires.ring.most) _ _ _ _ _ _
    (by_bits c.loop-j.auto.x-fits c.loop-j.auto.y-fits c.loop-j.auto.z-fits c.loop-j.invariant.0) (weight_plain _ c.requires.ring.least c.requires.ring.most _ _ _ _ c.loop-j.invariant.1
    (cosine_plain _ c.requires.ring.least c.requires.ring.most _ _ c.cosine-next.ensures).0 c.weigh-w.ensures)).0 in
    record { point = a.0; sizes = a.1 }

pub add_point-y-requires : goal.add_point-y-requires
add_point-y-requires c =
    let a =
    (asks _ _ _ _ _ c.requires.ring (weight c.args.m) (weights_small c.args.m c.requires.ring.least c.requires.ring.most) _ _ _ _ _ _
    (by_bits c.loop-j.auto.x-fits c.loop-j.auto.y-fits c.loop-j.auto.z-fits c.loop-j.invariant.0) (weight_plain _ c.requires.ring.least c.requires.ring.most _ _ _ _ c.loop-j.invariant.1
    (cosine_plain _ c.requires.ring.least c.requires.ring.most _ _ c.cosine-next.ensures).0 c.weigh-w.ensures)).1 in
    record { point = a.0; sizes = a.1 }

pub add_point-z-requires : goal.add_point-z-requires
add_point-z-requires c =
    let a =
    (asks _ _ _ _ _ c.requires.ring (weight c.args.m) (weights_small c.args.m c.requires.ring.least c.requires.ring.most) _ _ _ _ _ _
    (by_bits c.loop-j.auto.x-fits c.loop-j.auto.y-fits c.loop-j.auto.z-fits c.loop-j.invariant.0) (weight_plain _ c.requires.ring.least c.requires.ring.most _ _ _ _ c.loop-j.invariant.1
    (cosine_plain _ c.requires.ring.least c.requires.ring.most _ _ c.cosine-next.ensures).0 c.weigh-w.ensures)).2 in
    record { point = a.0; sizes = a.1 }

pub by-at-requires : goal.by-at-requires
by-at-requires c =
    c.requires.ring.table_holds _ (place_in _ _ _ _ _ c.requires.ring _ _ c.loop-j.invariant.0.place)

pub loop-j-preserved : goal.loop-j-preserved
loop-j-preserved c =
    let r = c.requires.ring in
    let h = c.loop-j-test.true in
    let f : SFits w64 c.add_point-x.result = search rules in
    let g : SFits w64 c.add_point-y.result = search rules in
    let k : SFits w64 c.add_point-z.result = search rules in
    let n = cosine_plain _ r.least r.most _ _ c.cosine-next.ensures in
    let t = by_bits c.loop-j.auto.x-fits c.loop-j.auto.y-fits c.loop-j.auto.z-fits c.loop-j.invariant.0 in (
      simp (to_z-of_z, f, g, k)
          (turn_next _ _ _ _ _ r (weight c.args.m) (weights_small c.args.m r.least r.most) _ _ _ _ _ _ _ _ _ _ h t
          (weight_plain _ r.least r.most _ _ _ _ c.loop-j.invariant.1 n.0 c.weigh-w.ensures) c.by-at.ensures c.add_point-x.ensures c.add_point-y.ensures
          c.add_point-z.ensures),
      n.0 ∙ carried _ _ h,
    )

pub quotient-requires : goal.quotient-requires
quotient-requires c =
    let i = by_bits c.loop-j.auto.x-fits c.loop-j.auto.y-fits c.loop-j.auto.z-fits c.loop-j.invariant.0 in
    let r = c.requires.ring in
    let e : c.loop-j.j ≡ c.args.m = omega (arith, i.left) in record {
      count = (r.least, r.most, c.requires.reciprocal);
      sums = (
        toward_units _ _ (point_ring _ _ _ _ _ r 0 (lit< tt)) _ (rw e at i.sum_x),
        toward_units _ _ (point_ring _ _ _ _ _ r 1 (lit< tt)) _ (rw e at i.sum_y),
        toward_units _ _ (point_ring _ _ _ _ _ r 2 (lit< tt)) _ (rw e at i.sum_z),
      );
    }

pub returns : goal.returns
returns c =
    let i = by_bits c.loop-j.auto.x-fits c.loop-j.auto.y-fits c.loop-j.auto.z-fits c.loop-j.invariant.0 in
    let e : c.loop-j.j ≡ c.args.m = omega (arith, i.left) in
    toward_end _ _ _ _ _ _ _ _ _ c.requires.ring _ (rw e at i) c.quotient.ensures

pub overflow_sub-m : goal.overflow_sub-m
overflow_sub-m c = omega (arith, c.requires.ring.least)
