-- `add_ahead` meets its contract: before each turn the numbers before are summed, and those from here on are as they were.
use mathlib.Core.Path.{sym, subst}
use Prim.Native.Nat.{◌+◌, ◌^◌, ◌≤◌}
use native.Mathlib.Omega.{arith}
use lib.ListN.{get_or}
use lib.IntN.{ℤ, pos, nat_abs}
use Rattle.net_tangents.proofs.Laws.{sum_stored, added_step}
use Rattle.net_tangents.proofs.add_ahead.Goals as goal

pub loop-i-preserved : goal.loop-i-preserved
loop-i-preserved c =
    let l = c.loop-i.list in
    let i = c.loop-i.i in
    let gap = c.args.gap in
    let sizes = c.requires.sizes i (omega arith) (omega arith) in
    let here : nat_abs (get_or l i (pos 0)) ≤ 2 ^ 60 =
    subst (λ (z : ℤ). nat_abs z ≤ 2 ^ 60) (sym (c.loop-i.invariant.after i (omega arith))) sizes.0 in
    let ahead : nat_abs (get_or l (i + gap) (pos 0)) ≤ 2 ^ 60 =
    subst (λ (z : ℤ). nat_abs z ≤ 2 ^ 60) (sym (c.loop-i.invariant.after (i + gap) (omega arith))) sizes.1 in
    added_step c.args.at i gap c.args.list.now l _ (omega arith) c.requires.at_le_to.1 (omega arith) c.loop-i.invariant
    (sum_stored (get_or l i (pos 0)) (get_or l (i + gap) (pos 0)) here ahead).1
