-- The numbers of the first vertex are their own differences.
use mathlib.Core.Path.{sym, ◌∙◌}
use Rattle.planes.proofs.differences.Deltas.{read_bits, delta_first}
use Rattle.rearrange.proofs.archiving.Planes.{planed_none, planed_one}
use native.Mathlib.Omega.{arith}
use borrow.Author.Rules.{rules}
use Rattle.rearrange.proofs.archiving.put_first.Goals as goal

pub returns : goal.returns
returns c =
    let l = c.args.numbers.now in
    let d1 = c.cast_unsigned.ensures ∙ read_bits l 0 (search rules) ∙ sym (delta_first l 0 (omega arith)) in
    let d2 = c.cast_unsigned-2.ensures ∙ read_bits l 1 (search rules) ∙ sym (delta_first l 1 (omega arith)) in
    let d3 = c.cast_unsigned-3.ensures ∙ read_bits l 2 (search rules) ∙ sym (delta_first l 2 (omega arith)) in
    let n = c.args.n in
    let q = c.requires.1 in
    let h1 = planed_one l n 0 _ _ _ q (omega (arith, q)) d1 (planed_none l c.args.bytes.now c.requires.2) c.put_number.ensures in
    let h2 = planed_one l n 1 _ _ _ q (omega (arith, q)) d2 h1 c.put_number-2.ensures in
    planed_one l n 2 _ _ _ q (omega (arith, q)) d3 h2 c.put_number-3.ensures
