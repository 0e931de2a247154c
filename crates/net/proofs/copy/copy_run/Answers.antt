-- `net::copy::copy_run` meets its contract. The invariant: the first j points are copied.
use mathlib.Core.Path.{◌≡◌, refl, subst}
use Prim.Native.Nat.{ℕ, ◌+◌, ◌*◌, ◌<◌}
use native.Mathlib.Omega.{arith}
use lib.ListN.{get_or}
use lib.IntN.{pos}
use mir.Syntax.{w32}
use mir.Val.{SFits}
use mir.Facts.{to_z-of_z}
use Rattle.net.specs.copy.Copy.{PointsCopied}
use Rattle.net.proofs.copy.Copies.{copied_none, copied_more}
use borrow.Author.Rules.{rules}
use Rattle.net.proofs.copy.copy_run.Goals as goal
use Rattle.net.proofs.copy.copy_run.Goals.{In-loop-j}

zero_more : (n : ℕ) → n ≡ n + 0
zero_more n = omega arith

one_more_lem : (n j : ℕ) → n + j + 1 ≡ n + (j + 1)
one_more_lem n j = omega arith

-- the point that is copied
below : (l : In-loop-j) → l.args.point + l.loop-j.j < 40
below l = omega (arith, l.requires.0, l.loop-j-test.true)

pub loop-j-init : goal.loop-j-init
loop-j-init c =
    subst (λ (n : ℕ). PointsCopied c.args.lanes.now c.args.at c.args.point n c.args.out.now c.args.out.now)
    (zero_more c.args.point) (copied_none _ _ _ _)

pub loop-j-preserved : goal.loop-j-preserved
loop-j-preserved c =
    let l = (goal.at.loop-j-preserved c).In-loop-j in
    let n = l.args.point + l.loop-j.j in
    let fx : SFits w32 (get_or l.args.lanes.now (4 * n) (pos 0)) = search rules in
    let fy : SFits w32 (get_or l.args.lanes.now (4 * n + 1) (pos 0)) = search rules in
    let fz : SFits w32 (get_or l.args.lanes.now (4 * n + 2) (pos 0)) = search rules in
    subst (λ (i : ℕ). PointsCopied l.args.lanes.now l.args.at l.args.point i l.args.out.now c.put_four.new.out)
    (one_more_lem l.args.point l.loop-j.j)
    (copied_more l.args.lanes.now l.args.at l.args.point n 4 (l.args.at + 3 * n) l.args.out.now l.loop-j.out _ _ _ _ refl
    (omega arith) (omega (arith, below l)) l.loop-j.invariant (to_z-of_z fx) (to_z-of_z fy) (to_z-of_z fz) c.put_four.ensures.0)

pub returns : goal.returns
returns c =
    let l = c.loop-j in
    let e : l.j ≡ c.args.count = omega arith in
    subst (λ (n : ℕ). PointsCopied c.args.lanes.now c.args.at c.args.point (c.args.point + n) c.args.out.now l.out) e l.invariant

pub overflow_add-p : goal.overflow_add-p
overflow_add-p c = search (rules, below (goal.at.overflow_add-p c).In-loop-j)

pub overflow_mul-from : goal.overflow_mul-from
overflow_mul-from c = search (rules, below (goal.at.overflow_mul-from c).In-loop-j)

pub offset_bounds-lanes-from : goal.offset_bounds-lanes-from
offset_bounds-lanes-from c = search (rules, below (goal.at.offset_bounds-lanes-from c).In-loop-j)

pub bounds-lanes-from : goal.bounds-lanes-from
bounds-lanes-from c = search (rules, below (goal.at.bounds-lanes-from c).In-loop-j)

pub overflow_add-y : goal.overflow_add-y
overflow_add-y c = search (rules, below (goal.at.overflow_add-y c).In-loop-j)

pub offset_bounds-lanes-from-in-loop-j : goal.offset_bounds-lanes-from-in-loop-j
offset_bounds-lanes-from-in-loop-j c = search (rules, below (goal.at.offset_bounds-lanes-from-in-loop-j c).In-loop-j)

pub bounds-lanes-from-in-loop-j : goal.bounds-lanes-from-in-loop-j
bounds-lanes-from-in-loop-j c = search (rules, below (goal.at.bounds-lanes-from-in-loop-j c).In-loop-j)

pub overflow_add-z : goal.overflow_add-z
overflow_add-z c = search (rules, below (goal.at.overflow_add-z c).In-loop-j)

pub offset_bounds-lanes-from-in-loop-j-2 : goal.offset_bounds-lanes-from-in-loop-j-2
offset_bounds-lanes-from-in-loop-j-2 c = search (rules, below (goal.at.offset_bounds-lanes-from-in-loop-j-2 c).In-loop-j)

pub bounds-lanes-from-in-loop-j-2 : goal.bounds-lanes-from-in-loop-j-2
bounds-lanes-from-in-loop-j-2 c = search (rules, below (goal.at.bounds-lanes-from-in-loop-j-2 c).In-loop-j)

pub overflow_add-w : goal.overflow_add-w
overflow_add-w c = search (rules, below (goal.at.overflow_add-w c).In-loop-j)

pub offset_bounds-lanes-from-in-loop-j-3 : goal.offset_bounds-lanes-from-in-loop-j-3
offset_bounds-lanes-from-in-loop-j-3 c = search (rules, below (goal.at.offset_bounds-lanes-from-in-loop-j-3 c).In-loop-j)

pub bounds-lanes-from-in-loop-j-3 : goal.bounds-lanes-from-in-loop-j-3
bounds-lanes-from-in-loop-j-3 c = search (rules, below (goal.at.bounds-lanes-from-in-loop-j-3 c).In-loop-j)

pub overflow_mul-p : goal.overflow_mul-p
overflow_mul-p c = search (rules, below (goal.at.overflow_mul-p c).In-loop-j)

pub overflow_add-at : goal.overflow_add-at
overflow_add-at c = search (rules, below (goal.at.overflow_add-at c).In-loop-j)

pub put_four-requires : goal.put_four-requires
put_four-requires c = let l = (goal.at.put_four-requires c).In-loop-j in omega (arith, below l, l.requires.2, l.loop-j.invariant.same)
