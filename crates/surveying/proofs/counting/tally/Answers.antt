-- After as many turns as the index says no entry is above it, and the table is the tally of that many values by their numbers.
use mathlib.Core.Path.{◌≡◌, ap, ◌∙◌}
use mathlib.Core.List.{map}
use Prim.Native.Nat.{ℕ}
use native.Mathlib.Omega.{arith}
use lib.ListN.{length}
use Rattle.std.proofs.lemmas.List.{length-map}
use Rattle.surveying.specs.Tally.{tally_to}
use Rattle.surveying.proofs.Tallies.{tally_none, tally_turn, raised, none_above}
use Rattle.surveying.proofs.counting.tally.Goals as goal

pub loop-x-init : goal.loop-x-init
loop-x-init g c = record {
  small = none_above c.args.table.now c.requires.1;
  tallied = λ number n. c.requires.1 ∙ tally_none (map number c.args.values.now) (length c.args.table.now);
}

pub count_one-requires : goal.count_one-requires
count_one-requires g c = omega (arith, c.loop-x.invariant.small c.into.result, c.requires.0)

pub loop-x-preserved : goal.loop-x-preserved
loop-x-preserved g c = let l = c.loop-x in record {
  small = λ m. rw c.count_one.ensures (raised l.table c.into.result l.x-index l.invariant.small m);
  tallied = λ number n.
      c.count_one.ensures
      ∙ tally_turn number c.args.values.now l.table l.x-index _ c.into.result c.x-item.result c.loop-x-test.true c.x-item.is
      (n c.x-item.result c.into.result c.into.ensures) (l.invariant.tallied number n);
}

pub returns : goal.returns
returns g c = λ number n.
    let l = c.loop-x in
    let q : l.x-index ≡ length (map number c.args.values.now) = omega (arith, length-map c.args.values.now number) in
    l.invariant.tallied number n ∙ ap (λ (k : ℕ). tally_to (map number c.args.values.now) k (length c.args.table.now)) q
