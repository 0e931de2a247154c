-- Checks 18, 19, 32 and 33 meet their contract: each stops the chain with its fault or is passed.
use mathlib.Core.Path.{◌≡◌, sym, ap, ◌∙◌}
use mathlib.Core.Bool.{not}
use Rattle.paper.specs.Faults.{sound, stated}
use Rattle.paper.specs.Floats.{net_verdict}
use Rattle.paper.specs.Sampling.{weights}
use Rattle.std.proofs.lemmas.Result.{err_from_is_err_and}
use Rattle.mesh.proofs.Verdicts.{passed}
use Rattle.sampling.proofs.Laws.{first_point, net_refused, side_refused, parts_refused, all_passed}
use Rattle.sampling.proofs.check.Goals as goal
use Rattle.sampling.proofs.check.Goals.{In_ok-check}

-- after 18 and 19
module _ (t : In_ok-check) where
  net_sound : net_verdict t.args.numbers.now ≡ sound
  net_sound = passed t.check.result (t.check.ensures ∙ first_point t.args.numbers.now) _ t.in_ok-check.was

pub returns-in_err-check : goal.returns-in_err-check
returns-in_err-check c =
    let p = err_from_is_err_and c.from_residual.result c.from_residual.ensures.1 in
    rw (p.1, p.2) (net_refused c.args.numbers.now c.args.side (weights c.args.i c.args.j c.args.k c.args.n) _ _
    (sym (sym (ap stated c.in_err-check.was) ∙ c.check.ensures ∙ first_point c.args.numbers.now)))

pub returns-then-side-gt3 : goal.returns-then-side-gt3
returns-then-side-gt3 c =
    side_refused c.args.numbers.now c.args.side (weights c.args.i c.args.j c.args.k c.args.n) (net_sound (search)) c.if-side-gt3.true

pub returns-then-not-is_whole : goal.returns-then-not-is_whole
returns-then-not-is_whole c =
    parts_refused c.args.numbers.now c.args.side (weights c.args.i c.args.j c.args.k c.args.n) (net_sound (search))
    c.if-side-gt3.false (sym c.is_whole.ensures ∙ ap not c.if-not-is_whole.true)

pub returns : goal.returns
returns c =
    all_passed c.args.numbers.now c.args.side (weights c.args.i c.args.j c.args.k c.args.n) (net_sound (search))
    c.if-side-gt3.false (sym c.is_whole.ensures ∙ ap not c.if-not-is_whole.false)
