-- `sampling::tangents` meets its contract: the refusal and the pair as it was, or the two tangents.
use mathlib.Core.Path.{◌≡◌, ◌∙◌}
use Prim.Native.Nat.{◌+◌, ◌^◌, ◌≤◌}
use lib.Dec.{lit≤}
use Rattle.paper.specs.Faults.{sound}
use Rattle.paper.specs.Floats.{net_verdict}
use Rattle.paper.specs.Sampling.{weights, sample_verdict, side_at}
use Rattle.std.proofs.lemmas.Result.{err_from_is_err_and}
use Rattle.mesh.proofs.Verdicts.{passed}
use Rattle.bernstein.proofs.Laws.{sized_bits}
use Rattle.sampling.proofs.Laws.{net_passed, side_passed, some_parts, few_parts, parts_sum}
use Rattle.sampling.proofs.TangentLaws.{tangents_refused, tangents_done, pair_is}
use Rattle.sampling.proofs.tangents.Goals as goal
use Rattle.sampling.proofs.tangents.Goals.{In_ok-check}

-- after the checks
module _ (t : In_ok-check) where
  is_sound : sample_verdict t.args.numbers.now t.args.side (weights t.args.i t.args.j t.args.k t.args.n) ≡ sound
  is_sound = passed t.check.result t.check.ensures _ t.in_ok-check.was

  net : net_verdict t.args.numbers.now ≡ sound
  net = net_passed t.args.numbers.now t.args.side t.args.i t.args.j t.args.k t.args.n is_sound

  low : t.args.side ≤ 3
  low = side_passed t.args.numbers.now t.args.side t.args.i t.args.j t.args.k t.args.n is_sound

  some : 1 ≤ t.args.n
  some = some_parts t.args.numbers.now t.args.side t.args.i t.args.j t.args.k t.args.n is_sound

  few : t.args.n ≤ 16
  few = few_parts t.args.numbers.now t.args.side t.args.i t.args.j t.args.k t.args.n is_sound

  sums : t.args.i + t.args.j + t.args.k ≡ t.args.n
  sums = parts_sum t.args.numbers.now t.args.side t.args.i t.args.j t.args.k t.args.n is_sound

pub returns-in_err-check : goal.returns-in_err-check
returns-in_err-check c =
    let p = err_from_is_err_and c.from_residual.result c.from_residual.ensures.1 in
    rw (p.1, p.2) (tangents_refused c.args.numbers.now c.args.side (weights c.args.i c.args.j c.args.k c.args.n) c.args.pair.now
    c.check.result c.check.ensures _ c.in_err-check.was)

pub invariant_of-here : goal.invariant_of-here
invariant_of-here c = record { net = (net (search), low (search)); parts = (some (search), few (search), sums (search)) }

pub returns : goal.returns
returns c =
    let w = weights c.args.i c.args.j c.args.k c.args.n in
    let i = c.args.i in
    let q = sums (search) in
    let a = c.tangents_on-x.ensures in
    let b = c.tangents_on-y.ensures in
    let d = c.tangents_on-z.ensures in
    tangents_done c.args.numbers.now c.args.side w c.args.pair.now _ (is_sound (search))
    (pair_is c.args.numbers.now (side_at c.args.side) w _ _ _ _ _ _
    (sized_bits _ (2 ^ 62) a.first_size (lit≤ tt) ∙ a.first i q) (sized_bits _ (2 ^ 62) b.first_size (lit≤ tt) ∙ b.first i q)
    (sized_bits _ (2 ^ 62) d.first_size (lit≤ tt) ∙ d.first i q) (sized_bits _ (2 ^ 62) a.second_size (lit≤ tt) ∙ a.second i q)
    (sized_bits _ (2 ^ 62) b.second_size (lit≤ tt) ∙ b.second i q) (sized_bits _ (2 ^ 62) d.second_size (lit≤ tt) ∙ d.second i q))
