-- `fill_afters` meets its contract: the chains are those of the lower ends.
use native.Mathlib.Omega.{arith}
use Rattle.walk.proofs.Table.{blank}
use Rattle.partners.proofs.fill_afters.Goals as goal

pub fill_earliers-requires : goal.fill_earliers-requires
fill_earliers-requires c = record {
  small = c.requires.ends.few_corners;
  lows_in = c.requires.ends.lows_in;
  earliers_long = omega (arith, c.requires.ends.few_corners);
  heads_long = omega (arith, c.requires.ends.few_vertices);
  blank = blank 2048;
}

pub follow_all-requires : goal.follow_all-requires
follow_all-requires c = record {
  walk = record {
    small = c.requires.ends.few_corners;
    highs_long = c.requires.ends.highs_long;
    lows_in = c.requires.ends.lows_in;
    highs_in = c.requires.ends.highs_in;
    earliers_long = omega (arith, c.fill_earliers.auto.earliers, c.requires.ends.few_corners);
    heads_long = omega (arith, c.fill_earliers.auto.heads, c.requires.ends.few_vertices);
    chained = c.fill_earliers.ensures;
  };
  room = (omega (arith, c.requires.ends.few_vertices), blank 2048, c.requires.room);
}
