-- `turn_pairs` meets its contract: the first corner's pair is reversed, and the others as a whole.
use Rattle.std.proofs.Common.{arith, ◌+◌, ◌*◌}
use Rattle.reversing.proofs.Laws.{pairs_turned, part_reversed}
use Rattle.reversing.proofs.turn_pairs.Goals as goal

pub returns : goal.returns
returns c =
    let a = c.args in
    let r = c.reverse.ensures in
    let r2 = c.reverse-2.ensures in
    let first = part_reversed (2 * a.start) _ (2 * a.start + 2) a.pairs.now c.reverse.new.self (omega arith) (omega arith) r.len r.by_index in
    let later = part_reversed (2 * a.start + 2) _ (2 * a.end) _ c.reverse-2.new.self (omega arith) (omega (arith, first.1)) r2.len r2.by_index in
    pairs_turned a.start a.end a.pairs.now _ _ c.requires.0 first.0 later.0
