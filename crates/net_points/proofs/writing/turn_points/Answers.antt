-- `net_points::writing::turn_points` meets its contract: on sides 1 and 3 head and tail change places.
use mathlib.Core.Path.{sym, subst}
use Prim.Native.Nat.{◌^◌}
use native.Mathlib.Omega.{arith}
use Rattle.bernstein.specs.declared.Matrix5.{Matrix5}
use Rattle.bernstein.specs.Sums.{AllSized}
use Rattle.sampling.proofs.Laws.{points_sized}
use Rattle.net_points.proofs.writing.Laws.{turn_even, turn_odd}
use Rattle.net_points.proofs.writing.turn_points.Goals as goal

pub reversed-requires : goal.reversed-requires
reversed-requires c =
    let s = c in
    let p = c in
    subst (λ (r : Matrix5). AllSized (2 ^ 27) r) (sym p.control_points-p.ensures)
    (points_sized s.args.numbers.now s.requires.0 s.args.side s.args.axis s.requires.2)

pub returns-then-side-eq1 : goal.returns-then-side-eq1
returns-then-side-eq1 c =
    let s = c in
    let p = c in
    turn_odd s.args.numbers.now s.requires.0 s.args.side s.args.axis s.requires.2 s.requires.1 (omega arith) _ _ p.control_points-p.ensures
    c.reversed.ensures

pub returns : goal.returns
returns c =
    let s = c in
    let p = c in
    turn_even s.args.numbers.now s.requires.0 s.args.side s.args.axis s.requires.2 s.requires.1 c.if-side-eq1.false _ p.control_points-p.ensures
