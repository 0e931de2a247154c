-- No byte, another byte than a space, no digit after it, or a number.
use Rattle.std.proofs.Common.{arith}
use Rattle.page_text.proofs.Numbers.{number_none}
use Rattle.page_text.proofs.read_number.Goals as goal

pub returns-then-read-start : goal.returns-then-read-start
returns-then-read-start c =
    number_none c.args.line.now c.args.at (omega arith) c.in_ok-read.read c.in_ok-read.ensures c.if-read-start.true
