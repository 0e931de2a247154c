-- `find_partners` meets its contract: the ends are cut to the corner count, and their pairs are the partners.
use mathlib.Core.Path.{◌≡◌, sym}
use lib.ListN.{length, take}
use native.Mathlib.Omega.{arith}
use lib.Seq.{length-take-le}
use Rattle.partners.specs.Keys.{KeysTo}
use Rattle.partners.proofs.Keys.{keyable_of, keys_taken, low_below, high_below}
use Rattle.partners.proofs.find_partners.Goals as goal
use Rattle.partners.proofs.find_partners.Goals.{After-fill_keys}

pub fill_keys-requires : goal.fill_keys-requires
fill_keys-requires c =
    keyable_of c.requires.lists.0 c.requires.lists.1 (omega (arith, c.requires.lists.0.few_corners)) (omega (arith, c.requires.lists.0.few_corners))

-- After the ends are filled: cut to the corner count, they are as long as the corners.
module _ (v : After-fill_keys) where
  cut : let n = length v.args.corners.now in
      (length (take n v.fill_keys.new.lows) ≡ n) × (length (take n v.fill_keys.new.highs) ≡ n)
  cut = (
    length-take-le _ _ (omega (arith, v.fill_keys.auto.lows, v.requires.lists.0.few_corners)),
    length-take-le _ _ (omega (arith, v.fill_keys.auto.highs, v.requires.lists.0.few_corners)),
  )

  keyed : KeysTo v.args.sides.now v.args.corners.now v.fill_keys.new.lows v.fill_keys.new.highs (length v.args.corners.now)
  keyed = v.fill_keys.ensures v.args.sides.now v.requires.lists.1.nexts

pub fill_afters-requires : goal.fill_afters-requires
fill_afters-requires c =
    let v = (goal.at.fill_afters-requires c).After-fill_keys in
    let lists = c.requires.lists.0 in
    let l = cut v in record {
      ends = record {
        few_vertices = lists.few_vertices;
        few_corners = omega (arith, l, lists.few_corners);
        highs_long = omega (arith, l);
        lows_in = λ x b. low_below lists (keyed v) x (omega (arith, l));
        highs_in = λ x b. high_below lists (keyed v) x (omega (arith, l));
      };
      room = omega (arith, l, lists.few_corners);
    }

pub pair-requires : goal.pair-requires
pair-requires c =
    let v = (goal.at.pair-requires c).After-fill_keys in
    let few = c.requires.lists.0.few_corners in
    let l = cut v in record {
      small = omega (arith, l, few);
      tables = (omega (arith, l, c.fill_afters.auto.afters, few), c.fill_afters.ensures);
      room = (omega (arith, l, c.requires.room.0), c.requires.room.1);
    }

pub returns : goal.returns
returns c =
    let v = (goal.at.returns c).After-fill_keys in
    c.pair.ensures c.args.sides.now c.args.corners.now (cut v).0 (keys_taken c.requires.lists.0 (keyed v))

pub slice_bounds-low-end : goal.slice_bounds-low-end
slice_bounds-low-end c = sym (cut (goal.at.slice_bounds-low-end c).After-fill_keys).0

pub slice_bounds-high-end : goal.slice_bounds-high-end
slice_bounds-high-end c = sym (cut (goal.at.slice_bounds-high-end c).After-fill_keys).1
