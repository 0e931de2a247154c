-- `pair` meets its contract: the corners below `c` have their partners, and no corner without one shares an edge with them.
use mathlib.Core.Path.{◌∙◌, sym}
use Prim.Native.Nat.{◌≤◌}
use lib.ListN.{length, get_or, length-set}
use native.Mathlib.Omega.{arith}
use Rattle.partners.specs.Keys.{AfterIs}
use Rattle.partners.proofs.Laws.{pairing_none, pairing_old, pairing_alone, pairing_third, pairing_new, pairing_all}
use Rattle.mesh.proofs.Verdicts.{unsound}
use Rattle.partners.proofs.pair.Goals as goal
use Rattle.partners.proofs.pair.Goals.{At-loop-c, In-loop-c, then-partners-c-eq0+else-e-eq0+else-third-ne0, else-partners-c-eq0}

-- In the loop: the next corner with the same ends is one of the list, or there is none.
module _ (i : In-loop-c) where
  after : AfterIs i.args.lows.now i.args.highs.now i.loop-c.c (get_or i.args.afters.now i.loop-c.c 0)
  after = i.requires.tables.1 i.loop-c.c i.loop-c-test.true

  near : get_or i.args.afters.now i.loop-c.c 0 ≤ length i.args.lows.now
  near = after.inside

pub loop-c-preserved : goal.loop-c-preserved
loop-c-preserved c =
    let inv = c.loop-c.invariant in
    elim c.if-partners-c-eq0.branch [
      | then-partners-c-eq0+else-e-eq0+else-third-ne0 u ↦
          λ sides corners e k. rw u.partners-is
          (pairing_new sides corners (omega (arith, e, c.loop-c-test.true)) (inv sides corners e k) u.if-partners-c-eq0.true c.args.afters.now e k
          c.requires.tables.1 u.if-e-eq0.false u.if-third-ne0.false (omega (arith, e, c.requires.room.0)))
      | else-partners-c-eq0 u ↦
          λ sides corners e k. rw u.partners-is (pairing_old sides corners (omega (arith, e, c.loop-c-test.true)) (inv sides corners e k) u.if-partners-c-eq0.false)
    ]

pub returns-then-e-eq0 : goal.returns-then-e-eq0
returns-then-e-eq0 c = λ sides corners e k.
    let i = (goal.at.returns-then-e-eq0 c).In-loop-c in
    let z = pairing_alone sides corners (omega (arith, e, i.loop-c-test.true)) (i.loop-c.invariant sides corners e k) c.if-partners-c-eq0.true
    c.args.afters.now e k c.requires.tables.1 c.if-e-eq0.true in
    record { answers = sym z; partners_are = λ q. unsound 34 _ (sym z ∙ q) }

pub bounds-afters-second : goal.bounds-afters-second
bounds-afters-second c =
    let i = (goal.at.bounds-afters-second c).In-loop-c in
    omega (arith, near i, (after i).above c.if-e-eq0.false)

pub returns-then-third-ne0 : goal.returns-then-third-ne0
returns-then-third-ne0 c = λ sides corners e k.
    let i = (goal.at.returns-then-third-ne0 c).In-loop-c in
    let z = pairing_third sides corners (omega (arith, e, i.loop-c-test.true)) (i.loop-c.invariant sides corners e k)
    c.if-partners-c-eq0.true c.args.afters.now e k c.requires.tables.1 c.if-e-eq0.false c.if-third-ne0.true in
    record { answers = sym z; partners_are = λ q. unsound 34 _ (sym z ∙ q) }

pub bounds-partners-second : goal.bounds-partners-second
bounds-partners-second c =
    let i = (goal.at.bounds-partners-second c).In-loop-c in
    simp length-set (omega (arith, near i, (after i).above c.if-e-eq0.false))

pub returns : goal.returns
returns c = λ sides corners e k.
    let z = pairing_all sides corners (omega (arith, e, c.loop-c-test.false)) (c.loop-c.invariant sides corners e k) in
    record { answers = sym z.0; partners_are = λ q. z.1 }

pub loop-c-init : goal.loop-c-init
loop-c-init c = λ sides corners e t. pairing_none sides corners _ c.requires.room.1
