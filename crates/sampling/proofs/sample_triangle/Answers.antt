-- `sampling::sample_triangle` meets its contract: the refusal and the list as it was, or the samples in its beginning.
use mathlib.Core.Path.{◌≡◌}
use Prim.Native.Nat.{◌≤◌}
use native.Mathlib.Omega.{arith}
use borrow.Author.Rules.{rules}
use Rattle.paper.specs.Faults.{sound}
use Rattle.paper.specs.Sampling.{weights, sample_verdict}
use Rattle.std.proofs.lemmas.Result.{err_from_is_err_and}
use Rattle.mesh.proofs.Verdicts.{passed}
use Rattle.sampling.proofs.Laws.{net_passed, side_passed, some_parts, few_parts, triangle_refused, triangle_short, triangle_done, few_samples}
use Rattle.sampling.proofs.Laws.{needed_is}
use Rattle.sampling.proofs.sample_triangle.Goals as goal
use Rattle.sampling.proofs.sample_triangle.Goals.{In_ok-check}

-- after the checks
module _ (t : In_ok-check) where
  is_sound : sample_verdict t.args.numbers.now t.args.side (weights t.args.n 0 0 t.args.n) ≡ sound
  is_sound = passed t.check.result t.check.ensures _ t.in_ok-check.was

few : (t : In_ok-check) → t.args.n ≤ 16
few t = few_parts t.args.numbers.now t.args.side t.args.n 0 0 t.args.n (is_sound t)

pub returns-in_err-check : goal.returns-in_err-check
returns-in_err-check c =
    let p = err_from_is_err_and c.from_residual.result c.from_residual.ensures.1 in
    rw (p.1, p.2) (triangle_refused c.args.numbers.now c.args.side c.args.n c.args.points.now c.check.result c.check.ensures _ c.in_err-check.was)

pub returns-then-points-needed : goal.returns-then-points-needed
returns-then-points-needed c =
    triangle_short c.args.numbers.now c.args.side c.args.n c.args.points.now (is_sound (search)) _ (needed_is c.args.n)
    c.if-points-needed.true

pub put_triangle-requires : goal.put_triangle-requires
put_triangle-requires c =
    record {
      net = (
        net_passed c.args.numbers.now c.args.side c.args.n 0 0 c.args.n (is_sound (search)),
        side_passed c.args.numbers.now c.args.side c.args.n 0 0 c.args.n (is_sound (search)),
      );
      parts = (
        some_parts c.args.numbers.now c.args.side c.args.n 0 0 c.args.n (is_sound (search)),
        few (search),
        omega (arith, needed_is c.args.n, c.if-points-needed.false),
      );
    }

pub returns : goal.returns
returns c =
    triangle_done c.args.numbers.now c.args.side c.args.n c.args.points.now (is_sound (search)) _
    (omega (arith, needed_is c.args.n, c.if-points-needed.false)) c.put_triangle.ensures

pub overflow_add-needed : goal.overflow_add-needed
overflow_add-needed t = let h = few (search) in search rules

pub overflow_add-needed-2 : goal.overflow_add-needed-2
overflow_add-needed-2 t = let h = few (search) in search rules

pub overflow_mul-needed : goal.overflow_mul-needed
overflow_mul-needed c = record { fits = omega (arith, few_samples c.args.n (few (search))) }

pub overflow_mul-needed-2 : goal.overflow_mul-needed-2
overflow_mul-needed-2 c = record { fits = omega (arith, few_samples c.args.n (few (search))) }
