-- `sampling::sample` meets its contract: the refusal and the point as it was, or the sample.
use mathlib.Core.Path.{◌≡◌, ◌∙◌}
use borrow.Author.Rules.{rules}
use Prim.Native.Nat.{◌+◌, ◌≤◌}
use mir.Syntax.{w32}
use mir.Val.{SFits}
use mir.Facts.{to_z-of_z}
use Rattle.paper.specs.Faults.{sound}
use Rattle.paper.specs.Floats.{net_verdict}
use Rattle.paper.specs.Sampling.{weights, sample_verdict, side_at}
use Rattle.std.proofs.lemmas.Result.{err_from_is_err_and}
use Rattle.mesh.proofs.Verdicts.{passed}
use Rattle.sampling.proofs.Laws.{net_passed, side_passed, some_parts, few_parts, parts_sum, sample_refused, sample_done, point_is}
use Rattle.sampling.proofs.sample.Goals as goal
use Rattle.sampling.proofs.sample.Goals.{In_ok-check}

-- after the checks
module _ (t : In_ok-check) where
  is_sound : sample_verdict t.args.numbers.now t.args.side (weights t.args.i t.args.j t.args.k t.args.n) ≡ sound
  is_sound = passed t.check.result t.check.ensures _ t.in_ok-check.was

  net : net_verdict t.args.numbers.now ≡ sound
  net = net_passed t.args.numbers.now t.args.side t.args.i t.args.j t.args.k t.args.n is_sound

  low : t.args.side ≤ 3
  low = side_passed t.args.numbers.now t.args.side t.args.i t.args.j t.args.k t.args.n is_sound

  some : 1 ≤ t.args.n
  some = some_parts t.args.numbers.now t.args.side t.args.i t.args.j t.args.k t.args.n is_sound

  few : t.args.n ≤ 16
  few = few_parts t.args.numbers.now t.args.side t.args.i t.args.j t.args.k t.args.n is_sound

  sums : t.args.i + t.args.j + t.args.k ≡ t.args.n
  sums = parts_sum t.args.numbers.now t.args.side t.args.i t.args.j t.args.k t.args.n is_sound

pub returns-in_err-check : goal.returns-in_err-check
returns-in_err-check c =
    let p = err_from_is_err_and c.from_residual.result c.from_residual.ensures.1 in
    rw (p.1, p.2) (sample_refused c.args.numbers.now c.args.side (weights c.args.i c.args.j c.args.k c.args.n) c.args.point.now
    c.check.result c.check.ensures _ c.in_err-check.was)

pub invariant_of-place : goal.invariant_of-place
invariant_of-place c = record { net = (net (search), low (search)); parts = (some (search), few (search), sums (search)) }

pub returns : goal.returns
returns c =
    let w = weights c.args.i c.args.j c.args.k c.args.n in
    let fits_x : SFits w32 c.sample_on.result = search rules in
    let fits_y : SFits w32 c.sample_on-2.result = search rules in
    let fits_z : SFits w32 c.sample_on-3.result = search rules in
    sample_done c.args.numbers.now c.args.side w c.args.point.now _ (is_sound (search))
    (point_is c.args.numbers.now (side_at c.args.side) w _ _ _
    (to_z-of_z fits_x ∙ c.sample_on.ensures)
    (to_z-of_z fits_y ∙ c.sample_on-2.ensures)
    (to_z-of_z fits_z ∙ c.sample_on-3.ensures))
