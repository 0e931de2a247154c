-- Each check that refuses decides; one that passes leaves it to the next.
use mathlib.Core.Path.{◌≡◌}
use Rattle.std.proofs.lemmas.Result.{err_from_is_err_and}
use Rattle.paper.specs.Faults.{sound}
use Rattle.paper.specs.File.{length_verdict, counts_verdict, header_verdict}
use Rattle.mesh.proofs.Verdicts.{passed, stop, past}
use Rattle.dms_lists.proofs.header.Headers.{has_header, not_held, all_held}
use Rattle.dms_lists.proofs.header.check_header.Goals as goal
use Rattle.dms_lists.proofs.header.check_header.Goals.{In_ok-check_length, In_ok-check_counts}

-- the checks that have passed
long : (t : In_ok-check_length) → length_verdict t.args.file.now t.args.counted ≡ sound
long t = passed _ t.check_length.ensures _ t.in_ok-check_length.was

counts : (t : In_ok-check_counts) → counts_verdict t.args.file.now ≡ sound
counts t = passed _ t.check_counts.ensures _ t.in_ok-check_counts.was

pub returns-in_err-check_length : goal.returns-in_err-check_length
unfolding header_verdict
returns-in_err-check_length c =
    let p = err_from_is_err_and c.from_residual.result c.from_residual.ensures.1 in
    rw (p.1, p.2) (stop _ c.check_length.ensures _ c.in_err-check_length.was _)

pub returns-in_err-check_counts : goal.returns-in_err-check_counts
unfolding header_verdict
returns-in_err-check_counts c =
    let p = err_from_is_err_and c.from_residual-in_err-check_counts.result c.from_residual-in_err-check_counts.ensures.1 in
    rw (p.1, p.2)
    (past (long (goal.at.returns-in_err-check_counts c).In_ok-check_length) _ (stop _ c.check_counts.ensures _ c.in_err-check_counts.was _))

pub returns-then-file-counted : goal.returns-then-file-counted
unfolding header_verdict
returns-then-file-counted c =
    past (long (goal.at.returns-then-file-counted c).In_ok-check_length) _
    (past (counts (goal.at.returns-then-file-counted c).In_ok-check_counts) _ (not_held c.args.file.now c.args.counted c.if-file-counted.true))

pub returns : goal.returns
unfolding header_verdict
returns c =
    past (long (goal.at.returns c).In_ok-check_length) _
    (past (counts (goal.at.returns c).In_ok-check_counts) _ (all_held c.args.file.now c.args.counted c.if-file-counted.false))

pub check_counts-requires : goal.check_counts-requires
check_counts-requires c = has_header _ _ (long c)
