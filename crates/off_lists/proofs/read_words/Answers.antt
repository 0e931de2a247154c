-- Each part ends the reading or leaves the cursor where the next part begins.
use mathlib.Core.Path.{sym, ◌∙◌}
use Rattle.std.proofs.lemmas.Result.{err_from_is_err_and}
use Rattle.off_lists.proofs.Parts.{header_refused, vertices_refused, faces_refused, more_refused, words_done}
use Rattle.off_lists.proofs.read_words.Goals as goal

pub returns-in_err-header : goal.returns-in_err-header
returns-in_err-header c =
    let p = err_from_is_err_and c.from_residual.result c.from_residual.ensures.1 in
    rw (p.1, p.2) (header_refused _ c.in_err-header.field-0.0 c.in_err-header.ensures _ _ _)

pub returns-in_err-faces_start : goal.returns-in_err-faces_start
returns-in_err-faces_start c =
    let p = err_from_is_err_and c.from_residual-in_err-faces_start.result c.from_residual-in_err-faces_start.ensures.1 in
    rw (p.1, p.2)
    (vertices_refused _ c.in_ok-header.header c.in_ok-header.ensures _ _ _ _ c.in_err-faces_start.field-0.0 c.in_err-faces_start.ensures)

pub returns-in_err-faces : goal.returns-in_err-faces
returns-in_err-faces c =
    let p = err_from_is_err_and c.from_residual-in_err-faces.result c.from_residual-in_err-faces.ensures.1 in
    rw (p.1, p.2)
    (faces_refused _ c.in_ok-header.header c.in_ok-header.ensures _ _ _ _ c.in_ok-faces_start.faces_start c.in_ok-faces_start.ensures _ _
    c.in_err-faces.field-0.0 c.in_err-faces.ensures)

pub returns-then-has_word : goal.returns-then-has_word
returns-then-has_word c =
    more_refused _ c.in_ok-header.header c.in_ok-header.ensures _ _ _ _ c.in_ok-faces_start.faces_start c.in_ok-faces_start.ensures _ _
    c.in_ok-faces.faces c.in_ok-faces.ensures (sym c.has_word.ensures ∙ c.if-has_word.true)

pub returns : goal.returns
returns c =
    words_done _ c.in_ok-header.header c.in_ok-header.ensures _ _ _ _ c.in_ok-faces_start.faces_start c.in_ok-faces_start.ensures _ _
    c.in_ok-faces.faces c.in_ok-faces.ensures (sym c.has_word.ensures ∙ c.if-has_word.false)
