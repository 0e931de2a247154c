-- The lines, one after the other.
use mathlib.Core.List.{◌++◌}
use lib.ListN.{get_or}
use Rattle.page_text.specs.Lines.{meshes_word, corners_word, borders_word}
use Rattle.page_text.specs.Lines.{texts_below, named_line, refused_by_line, refusals_line, condition_line, page_line, page_lines}
use Rattle.streams.proofs.text.Putting.{put_three}
use Rattle.page_text.proofs.put_page.Goals as goal

pub returns : goal.returns
unfolding page_lines
returns c =
    let numbers = c.args.numbers.now in
    let refused-text = texts_below (refusals_line numbers) 13 in
    let last-text = refused_by_line 28 (get_or numbers 16 0) in
    let misses-text = texts_below (condition_line numbers) 4 in
    let tail = put_three last-text misses-text (page_line numbers) c.put_refused-last.auto.lines c.put_misses-misses.auto.lines
    c.put_refused-last.ensures c.put_misses-misses.ensures c.put_numbers.ensures in
    let middle = put_three (named_line borders_word (get_or numbers 2 0)) refused-text (last-text ++ (misses-text ++ page_line numbers))
    c.put_count-borders.auto.lines c.put_refusals-refusals.auto.lines c.put_count-borders.ensures c.put_refusals-refusals.ensures tail in
    put_three (named_line meshes_word (get_or numbers 0 0)) (named_line corners_word (get_or numbers 1 0))
    (named_line borders_word (get_or numbers 2 0) ++ (refused-text ++ (last-text ++ (misses-text ++ page_line numbers))))
    c.put_count-meshes.auto.lines c.put_count-corners.auto.lines c.put_count-meshes.ensures c.put_count-corners.ensures middle
