-- `pages::larger_of` meets its contract, number by number.
use Rattle.std.proofs.Common.{rules}
use borrow.Author.Tests.{tests}
use Rattle.pages.proofs.Lists.{made_whole}
use Rattle.pages.proofs.larger_of.Goals as goal

pub returns : goal.returns
returns c = made_whole _ _ _ (λ i y q k. search (rules, tests)) c.from_fn.result _ c.from_fn.ensures.items
