-- Words 1, 2 and 3 as counts; the first that is none ends the reading.
use Rattle.std.proofs.lemmas.Result.{err_from_is_err_and}
use Rattle.off_lists.proofs.Naturals.{header_first, header_second, header_third, header_read}
use Rattle.off_lists.proofs.read_header.Goals as goal

pub returns-in_err-v : goal.returns-in_err-v
returns-in_err-v c =
    let p = err_from_is_err_and c.from_residual.result c.from_residual.ensures.1 in
    rw (p.1, p.2) (header_first _ c.args.c c.requires c.in_err-v.field-0.0 c.in_err-v.ensures)

pub returns-in_err-f : goal.returns-in_err-f
returns-in_err-f c =
    let p = err_from_is_err_and c.from_residual-in_err-f.result c.from_residual-in_err-f.ensures.1 in
    rw (p.1, p.2) (header_second _ c.args.c c.requires c.in_ok-v.v c.in_ok-v.ensures c.in_err-f.field-0.0 c.in_err-f.ensures)

pub returns-in_err-e : goal.returns-in_err-e
returns-in_err-e c =
    let p = err_from_is_err_and c.from_residual-in_err-e.result c.from_residual-in_err-e.ensures.1 in
    rw (p.1, p.2)
    (header_third _ c.args.c c.requires c.in_ok-v.v c.in_ok-v.ensures c.in_ok-f.f c.in_ok-f.ensures c.in_err-e.field-0.0 c.in_err-e.ensures)

pub returns : goal.returns
returns c =
    header_read _ c.args.c c.requires c.in_ok-v.v c.in_ok-v.ensures c.in_ok-f.f c.in_ok-f.ensures c.in_ok-e.e c.in_ok-e.ensures
