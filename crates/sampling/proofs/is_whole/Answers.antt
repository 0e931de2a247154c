-- `sampling::is_whole` meets its contract: each test is one of the parts of fault 33.
use native.Mathlib.Omega.{arith}
use Rattle.mesh.proofs.Ranges.{outside_low, outside_high}
use Rattle.sampling.proofs.Laws.{parts_out, parts_differ, parts_decide}
use Rattle.sampling.proofs.is_whole.Goals as goal
use Rattle.sampling.proofs.is_whole.Goals.{then-n-lt1-via-then-n-lt1, then-n-lt1-via-else-n-lt1+then-n-gt-MOST_PARTS}

pub returns-then-n-lt1 : goal.returns-then-n-lt1
returns-then-n-lt1 c =
    let s = c in
    let n = s.args.n in
    parts_out s.args.i s.args.j s.args.k n
    (elim c.then-n-lt1.branch [
      | then-n-lt1-via-then-n-lt1 w ↦ outside_low 1 16 n w.if-n-lt1.true
      | then-n-lt1-via-else-n-lt1+then-n-gt-MOST_PARTS w ↦ outside_high 1 16 n w.if-n-gt-MOST_PARTS.true
    ])

pub returns-then-n-i : goal.returns-then-n-i
returns-then-n-i c =
    let s = c in
    parts_differ s.args.i s.args.j s.args.k s.args.n (λ e. omega arith)

pub returns-then-n-i-2 : goal.returns-then-n-i-2
returns-then-n-i-2 c =
    let s = c in
    parts_differ s.args.i s.args.j s.args.k s.args.n (λ e. omega arith)

pub returns : goal.returns
returns c =
    let s = c in let e = c in
    parts_decide s.args.i s.args.j s.args.k s.args.n e.if-n-lt1.false
    c.if-n-gt-MOST_PARTS.false c.if-n-i.false c.if-n-i-2.false
