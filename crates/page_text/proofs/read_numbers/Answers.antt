-- After each turn the numbers up to it were read.
use Rattle.std.proofs.Common.{◌∙◌, arith}
use Rattle.std.proofs.lemmas.List.{length-set}
use Rattle.page_text.proofs.Pages.{taken_more, page_none, page_end}
use Rattle.page_text.proofs.read_numbers.Goals as goal

pub loop-number-preserved : goal.loop-number-preserved
loop-number-preserved c =
    let l = c.loop-number in (
      length-set l.number-items l.number-index c.in_ok-read.read.value ∙ l.invariant.0,
      taken_more c.args.line.now l.number-index l.at l.number-items (omega arith) l.invariant.1 c.in_ok-read.read.end c.in_ok-read.read.value
          l.invariant.0 c.in_ok-read.ensures.found,
    )

pub returns-in_err-read : goal.returns-in_err-read
returns-in_err-read c =
    let l = c.loop-number in
    rw c.from_residual.ensures (page_none c.args.line.now l.number-index l.at l.number-items (omega arith) l.invariant.1 c.in_err-read.ensures)

pub returns : goal.returns
returns c =
    let l = c.loop-number in
    rw c.then_some.ensures (page_end c.args.line.now l.number-index l.at l.number-items (omega arith) (omega arith) l.invariant.0 l.invariant.1)
