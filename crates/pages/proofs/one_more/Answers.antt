-- `pages::one_more` meets its contract, line by line: code and definition have the same numbers.
use Rattle.std.proofs.Common.{◌≡◌, refl, ap, ◌∙◌, ℕ, ◌+◌, List, get_or, rules}
use Rattle.std.specs.Int.{from_bool}
use lib.Dec.{eqb}
use borrow.Author.Tests.{tests}
use Rattle.paper.specs.Report.{line_numbers}
use Rattle.pages.specs.declared.TheConstants.{LINE_NUMBERS}
use Rattle.pages.proofs.Lists.{made_whole, one_where}
use Rattle.pages.proofs.one_more.Goals as goal

pub returns : goal.returns
returns c =
    made_whole _ _ _ (λ i y q k.
    let counted : y ≡ get_or c.args.old i 0 + from_bool (eqb (get_or LINE_NUMBERS i 0) c.args.number) = search (rules, tests) in
    let numbers : ◌≡◌ {A = List ℕ} LINE_NUMBERS line_numbers = refl in (
      search (rules, tests),
      counted ∙ ap (λ (l : List ℕ). get_or c.args.old i 0 + from_bool (eqb (get_or l i 0) c.args.number)) numbers
          ∙ ap (λ (n : ℕ). get_or c.args.old i 0 + n) (one_where (eqb (get_or line_numbers i 0) c.args.number)),
    )) c.from_fn.result _ c.from_fn.ensures.items
