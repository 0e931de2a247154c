-- 24 decides, or what follows it does.
use mathlib.Core.Path.{sym, ◌∙◌}
use borrow.Author.Rules.{rules}
use Rattle.std.proofs.lemmas.Result.{err_from_is_err_and}
use Rattle.paper.specs.Mesh.{mesh_of}
use Rattle.off_words.specs.Cursor.{MarkThere}
use Rattle.off_lists.proofs.Naturals.{turned}
use Rattle.off.proofs.checking.Parts.{too_short, no_mark, marked, lent_all, read_refused, read_all}
use Rattle.off.proofs.read.Goals as goal
use Rattle.off.proofs.read.Goals.{In_ok-start}

there : (t : In_ok-start) → MarkThere t.args.text.now t.in_ok-start.start
there t = rw t.in_ok-start.ensures.ok_part at t.read_mark.ensures

pub returns-then-too_short : goal.returns-then-too_short
returns-then-too_short c =
    let l = mesh_of c.args.coordinates.now c.args.sides.now c.args.corners.now c.args.sharpness.now in
    read_refused _ l (too_short c.args.text.now l (sym c.too_short.ensures ∙ c.if-too_short.true))

pub returns-in_err-start : goal.returns-in_err-start
returns-in_err-start c =
    let p = err_from_is_err_and c.from_residual.result c.from_residual.ensures.1 in
    let o = turned c.read_mark.result _ c.in_err-start.field-0.0 c.in_err-start.ensures.value in
    let l = mesh_of c.args.coordinates.now c.args.sides.now c.args.corners.now c.args.sharpness.now in
    rw (p.1, p.2, o.1) (read_refused _ l (no_mark _ l (rw o.0 at c.read_mark.ensures)))

pub read_through-requires : goal.read_through-requires
read_through-requires c =
    let l = mesh_of c.args.coordinates.now c.args.sides.now c.args.corners.now c.args.sharpness.now in
    let r = lent_all c.args.text.now l (sym c.too_short.ensures ∙ c.if-too_short.false) in
    ((there (goal.at.read_through-requires c).In_ok-start).next_is, search rules, r.0, r.1)

pub returns : goal.returns
returns c =
    let l = mesh_of c.args.coordinates.now c.args.sides.now c.args.corners.now c.args.sharpness.now in
    let m = there (goal.at.returns c).In_ok-start in
    read_all c.args.text.now l (marked _ l (sym c.too_short.ensures ∙ c.if-too_short.false) m.is) _ _ c.read_through.ensures
