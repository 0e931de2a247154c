-- After i turns the first i numbers are read.
use mathlib.Core.Path.{◌∙◌}
use lib.IntN.{pos}
use mir.Syntax.{w32}
use mir.ValLaws.{to_z-of_z}
use Rattle.mesh.proofs.Fills.{filled_none, filled_step, filled_whole}
use Rattle.rearrange.specs.four_bytes.Words.{number_in}
use native.Mathlib.Omega.{arith}
use Rattle.rearrange.proofs.four_bytes.read_numbers.Goals as goal

pub loop-i-init : goal.loop-i-init
loop-i-init c = filled_none (number_in c.args.bytes.now) c.args.numbers.now

pub loop-i-preserved : goal.loop-i-preserved
loop-i-preserved c =
    filled_step (number_in c.args.bytes.now) c.args.numbers.now c.loop-i.i c.loop-i.numbers _ (pos 0) (omega arith) c.loop-i.invariant
    (to_z-of_z w32 c.coordinate.result (record { sfits = c.coordinate.type_inv }) ∙ c.coordinate.ensures)

pub returns : goal.returns
returns c =
    let l = c.loop-i in
    filled_whole (number_in c.args.bytes.now) c.args.numbers.now l.numbers l.i (omega arith) l.invariant
