-- `page_numbers::read` meets its contract: each list is a part of the numbers.
use Rattle.std.proofs.Common.{refl, ◌∙◌, arith}
use Rattle.pages.proofs.Lists.{page_same}
use Rattle.page_numbers.proofs.Laws.{part_read}
use Rattle.page_numbers.proofs.read.Goals as goal

pub returns : goal.returns
returns c =
    let numbers = c.args.numbers.now in
    page_same _ _ _ _ _ _ _ _ _ _ refl refl refl
    (c.copy_from_slice.ensures.after ∙ part_read numbers 3 14 (omega arith))
    (c.copy_from_slice-2.ensures.after ∙ part_read numbers 17 4 (omega arith))
