-- A number is taken less the number three places before.
use Rattle.std.proofs.Common.{sym, ◌∙◌, arith, rules}
use Rattle.planes.proofs.differences.Deltas.{read_bits, delta_of, delta_later}
use Rattle.planes.proofs.differences.delta_at.Goals as goal

pub returns : goal.returns
returns c =
    let l = c.args.numbers.now in
    let i = c.args.i in
    let x = c.cast_unsigned.ensures ∙ read_bits l i (search rules) in
    let y = c.cast_unsigned-before.ensures ∙ read_bits l _ (search rules) in
    delta_of l i x y ∙ sym (delta_later l i (omega arith))
