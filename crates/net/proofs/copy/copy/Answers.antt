-- `net::copy::copy` meets its contract. The invariant: i runs of eight points are copied.
use mathlib.Core.Path.{◌≡◌, refl, subst}
use Prim.Native.Nat.{ℕ, ◌+◌, ◌*◌}
use native.Mathlib.Omega.{arith}
use lib.Dec.{lit≤}
use lib.ListN.{get_or}
use lib.IntN.{pos}
use mir.Syntax.{w32}
use mir.Val.{SFits}
use mir.Facts.{to_z-of_z}
use Rattle.net.specs.copy.Copy.{PointsCopied}
use Rattle.net.proofs.copy.Copies.{copied_none, copied_more, copied_join}
use borrow.Author.Rules.{rules}
use Rattle.net.proofs.copy.copy.Goals as goal
use Rattle.net.proofs.copy.copy.Goals.{At-loop-i, In-loop-i, Start}

eight_more : (i : ℕ) → 8 * i + 8 ≡ 8 * (i + 1)
eight_more i = omega arith

pub loop-i-init : goal.loop-i-init
loop-i-init c = copied_none _ _ _ _

pub copy_run-requires : goal.copy_run-requires
copy_run-requires c =
    (omega (arith, c.loop-i-test.true), c.requires.0, omega (arith, c.requires.1, c.loop-i.invariant.same))

pub loop-i-preserved : goal.loop-i-preserved
loop-i-preserved c =
    let l = (goal.at.loop-i-preserved c).In-loop-i in
    let i = l.loop-i.i in
    subst (λ (n : ℕ). PointsCopied l.args.lanes.now l.args.at 0 n l.args.out.now c.copy_run.new.out) (eight_more i)
    (copied_join l.args.lanes.now l.args.at 0 (8 * i) (8 * i + 8) l.args.out.now l.loop-i.out _ l.loop-i.invariant
    c.copy_run.ensures (omega arith))

pub returns : goal.returns
returns c =
    let e : c.loop-i.i ≡ 5 = omega arith in
    let fx : SFits w32 (get_or c.args.lanes.now 160 (pos 0)) = search rules in
    let fy : SFits w32 (get_or c.args.lanes.now 161 (pos 0)) = search rules in
    let fz : SFits w32 (get_or c.args.lanes.now 162 (pos 0)) = search rules in
    copied_more c.args.lanes.now c.args.at 0 40 3 (c.args.at + 120) c.args.out.now c.loop-i.out _ _ _ _ refl (omega arith) (lit≤ tt)
    (subst (λ (i : ℕ). PointsCopied c.args.lanes.now c.args.at 0 (8 * i) c.args.out.now c.loop-i.out) e c.loop-i.invariant)
    (to_z-of_z fx) (to_z-of_z fy) (to_z-of_z fz) c.put_three.ensures

pub bounds-lanes-160 : goal.bounds-lanes-160
bounds-lanes-160 c = search (rules, c.requires.0)

pub bounds-lanes-161 : goal.bounds-lanes-161
bounds-lanes-161 c = search (rules, c.requires.0)

pub bounds-lanes-162 : goal.bounds-lanes-162
bounds-lanes-162 c = search (rules, c.requires.0)

pub overflow_add-at : goal.overflow_add-at
overflow_add-at c = search (rules, c.requires.1)

pub put_three-requires : goal.put_three-requires
put_three-requires c = omega (arith, c.requires.1, c.loop-i.invariant.same)
