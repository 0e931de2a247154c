-- `page_numbers::numbers` meets its contract: the two lists stand after the first three numbers.
use Rattle.std.proofs.Common.{refl, [], ◌∷◌}
use Rattle.page_numbers.proofs.Laws.{parts_written}
use Rattle.page_numbers.proofs.numbers.Goals as goal

pub returns : goal.returns
returns c = parts_written c.args.page _ _ (0 ∷ 0 ∷ 0 ∷ 0 ∷ []) c.requires.0 refl c.copy_from_slice.ensures.after c.copy_from_slice-2.ensures.after
