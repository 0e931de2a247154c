-- A number that the table does not reach changes nothing.
use mathlib.Core.Path.{sym}
use lib.Seq.{set_out}
use Rattle.surveying.proofs.counting.count_one.Goals as goal

pub returns-else-m-table : goal.returns-else-m-table
returns-else-m-table c = sym (set_out c.args.table.now c.args.m _ c.if-m-table.false)
