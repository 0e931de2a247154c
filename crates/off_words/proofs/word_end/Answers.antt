-- The word goes up to the first byte that ends it, or to the end of the text.
use mathlib.Core.Path.{◌≡◌, refl, sym, ◌∙◌}
use native.Mathlib.Omega.{arith}
use borrow.Author.Rules.{rules}
use borrow.Author.Tests.{tests}
use lib.ListN.{drop, length}
use Rattle.std.specs.List.{position}
use Rattle.std.proofs.lemmas.Iterator.{YieldsList-from_slice}
use Rattle.std.proofs.lemmas.Iterator.Search.{position_from_yields_List}
use Rattle.std.proofs.lemmas.Slice.{between_to_end}
use Rattle.std.proofs.lemmas.List.Quantifiers.{position-Some}
use Rattle.off_words.specs.Cursor.{ends}
use Rattle.off_words.proofs.Cursors.{none_passes, span_to, span_whole}
use Rattle.off_words.proofs.word_end.Goals as goal
use Rattle.off_words.proofs.word_end.Goals.{After-position}

found : (t : After-position) → t.position.result ≡ position ends (drop t.args.from t.args.text.now)
found t =
    position_from_yields_List ends _ _ t.position.result t.position.ensures.ran
    (YieldsList-from_slice
    (drop t.args.from t.args.text.now)
    (t.iter.ensures.rest ∙ between_to_end t.args.text.now t.args.from (length t.args.text.now) (omega arith))) (λ x b q k. search (rules, tests))

pub returns-in-Some : goal.returns-in-Some
returns-in-Some c =
    let text = c.args.text.now in
    let from = c.args.from in
    let n = c.in-Some.before in
    let p = position-Some ends (drop from text) n 0 (sym (found (goal.at.returns-in-Some c).After-position) ∙ c.in-Some.is) in
    span_to text from n c.requires p.2 p.0 p.1

pub returns-in-None : goal.returns-in-None
returns-in-None c =
    let text = c.args.text.now in
    let from = c.args.from in
    let p = none_passes ends (drop from text) (sym (found (goal.at.returns-in-None c).After-position) ∙ c.in-None.is) in
    span_whole text from (length (drop from text)) c.requires p refl
