-- Each test that fails is the fault at its turn.
use mathlib.Core.Path.{◌≡◌, sym, ◌∙◌}
use mathlib.Core.Bool.{true}
use Rattle.paper.specs.File.{marked, known}
use Rattle.dms_lists.proofs.header.Headers.{too_short, no_mark, no_version, no_length, length_fits}
use Rattle.dms_lists.proofs.header.check_length.Goals as goal
use Rattle.dms_lists.proofs.header.check_length.Goals.{Else-not-has_mark, Else-not-has_version}

-- past the tests of the mark and of the version
marked-at : (e : Else-not-has_mark) → marked e.args.file.now ≡ true
marked-at e = sym e.has_mark.ensures ∙ e.if-not-has_mark.false

known_at : (e : Else-not-has_version) → known e.args.file.now ≡ true
known_at e = sym e.has_version.ensures ∙ e.if-not-has_version.false

pub returns-then-file-lt-HEADER : goal.returns-then-file-lt-HEADER
returns-then-file-lt-HEADER c = too_short _ _ c.if-file-lt-HEADER.true

pub returns-then-not-has_mark : goal.returns-then-not-has_mark
returns-then-not-has_mark c = no_mark _ _ (search) (sym c.has_mark.ensures ∙ c.if-not-has_mark.true)

pub returns-then-not-has_version : goal.returns-then-not-has_version
returns-then-not-has_version c = no_version _ _ (search) (marked-at (goal.at.returns-then-not-has_version c).Else-not-has_mark) (sym c.has_version.ensures ∙ c.if-not-has_version.true)

pub returns-then-counted-expected_length : goal.returns-then-counted-expected_length
returns-then-counted-expected_length c = no_length _ _ (search) (marked-at (goal.at.returns-then-counted-expected_length c).Else-not-has_mark) (known_at (goal.at.returns-then-counted-expected_length c).Else-not-has_version) (λ e. c.if-counted-expected_length.true (e ∙ sym c.expected_length.ensures.0))

pub returns : goal.returns
returns c = length_fits _ _ (search) (marked-at (goal.at.returns c).Else-not-has_mark) (known_at (goal.at.returns c).Else-not-has_version) (c.if-counted-expected_length.false ∙ c.expected_length.ensures.0)
