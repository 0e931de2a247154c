-- A number, not below zero, not above the largest.
use mathlib.Core.Path.{◌≡◌}
use mir.Syntax.{w32}
use mir.Val.{SFits, to_z, of_z}
use mir.ValLaws.{to_z-of_z}
use borrow.Author.Rules.{rules}
use Rattle.std.proofs.lemmas.Result.{err_from_is_err_and}
use Rattle.off_words.specs.Cursor.{NumberThere}
use Rattle.off_lists.proofs.Naturals.{turned, natural_none, natural_below, natural_above, natural_read}
use Rattle.off_lists.proofs.read_natural.Goals as goal
use Rattle.off_lists.proofs.read_natural.Goals.{In_ok-n, in_default-via-in-Ok+else-value-most, in_default-via-in_default}

there : (t : In_ok-n) → NumberThere t.args.text.now t.args.c.word t.in_ok-n.n
there t = rw t.in_ok-n.ensures.ok_part at t.number.ensures

fits : (t : In_ok-n) → SFits w32 t.in_ok-n.n.value
fits t = search rules

same : (t : In_ok-n) → to_z w32 (of_z w32 t.in_ok-n.n.value) ≡ t.in_ok-n.n.value
same t = to_z-of_z w32 t.in_ok-n.n.value (fits t)

kept : (t : In_ok-n) → SFits w32 (to_z w32 (of_z w32 t.in_ok-n.n.value))
kept t = rw (same t) (fits t)

pub returns-in_err-n : goal.returns-in_err-n
returns-in_err-n c =
    let p = err_from_is_err_and c.from_residual.result c.from_residual.ensures.1 in
    let o = turned c.number.result c.bad_word.result c.in_err-n.field-0.0 c.in_err-n.ensures.value in
    rw (p.1, p.2, o.1, c.bad_word.ensures) (natural_none _ _ c.args.most (rw o.0 at c.number.ensures))

pub returns-in-Ok : goal.returns-in-Ok
returns-in-Ok c =
    let t = (goal.at.returns-in-Ok c).In_ok-n in
    let v = c.in-Ok.ensures in
    natural_read _ _ c.args.most c.in_ok-n.n (there t) _ (same t) v.0 c.in-Ok.value v.1 c.if-value-most.true

pub returns-in_default : goal.returns-in_default
returns-in_default c =
    let t = (goal.at.returns-in_default c).In_ok-n in
    rw c.bad_word-in_default.ensures (elim c.in_default.branch [
      | in_default-via-in-Ok+else-value-most w ↦
          let v = w.in-Ok.ensures in natural_above _ _ c.args.most c.in_ok-n.n (there t) _ (same t) v.0 w.in-Ok.value v.1 w.if-value-most.false
      | in_default-via-in_default w ↦ natural_below _ _ c.args.most c.in_ok-n.n (there t) _ (same t) (kept t) w.in_default.ensures
    ])
