-- Up to the first line feed, or to the end, the words after the comment are those after its rest.
use mathlib.Core.Path.{◌≡◌, sym, ◌∙◌}
use Prim.Native.Nat.{◌+◌}
use native.Mathlib.Omega.{arith}
use borrow.Author.Rules.{rules}
use borrow.Author.Tests.{tests, eqb-true}
use lib.Dec.{eqb}
use lib.ListN.{length, drop, length-drop}
use lib.Seq.{get_or-drop}
use Rattle.std.specs.List.{position}
use Rattle.std.proofs.lemmas.Iterator.{YieldsList-from_slice}
use Rattle.std.proofs.lemmas.Iterator.Search.{position_from_yields_List}
use Rattle.std.proofs.lemmas.Slice.{between_to_end}
use Rattle.std.proofs.lemmas.List.Quantifiers.{position-Some}
use Rattle.off_words.proofs.Cursors.{comment_run, comment_feed, comment_last, none_passes}
use Rattle.off_words.proofs.comment_end.Goals as goal
use Rattle.off_words.proofs.comment_end.Goals.{After-position}

found : (t : After-position) → t.position.result ≡ position (λ b. eqb b 10) (drop t.args.from t.args.text.now)
found t =
    position_from_yields_List (λ b. eqb b 10) _ _ t.position.result t.position.ensures.ran
    (YieldsList-from_slice
    (drop t.args.from t.args.text.now)
    (t.iter.ensures.rest ∙ between_to_end t.args.text.now t.args.from (length t.args.text.now) (omega arith))) (λ x b q k. search (rules, tests))

pub returns-in-Some : goal.returns-in-Some
returns-in-Some c =
    let text = c.args.text.now in
    let from = c.args.from in
    let n = c.in-Some.before in
    let rest = drop from text in
    let p = position-Some (λ b. eqb b 10) rest n 0 (sym (found (goal.at.returns-in-Some c).After-position) ∙ c.in-Some.is) in
    let l = length-drop from text in (
      omega arith,
      omega (arith, p.0, l),
      comment_run text from n (omega (arith, p.0, l)) p.2 ∙ comment_feed text (from + n) (omega (arith, p.0, l))
          (sym (get_or-drop from text n 0) ∙ eqb-true _ 10 p.1),
    )

pub returns-in-None : goal.returns-in-None
returns-in-None c =
    let text = c.args.text.now in
    let from = c.args.from in
    let rest = drop from text in
    let l = length-drop from text in
    let q : from + length rest ≡ length text = omega (arith, l) in
    let p = none_passes (λ b. eqb b 10) rest (sym (found (goal.at.returns-in-None c).After-position) ∙ c.in-None.is) in (
      omega arith,
      omega arith,
      comment_run text from (length rest) (omega arith) p ∙ rw q (comment_last text (length text) (omega arith)),
    )
