-- `next_body` meets its contract: no body before `b` may come next, for any list that the marks belong to.
use mathlib.Core.Path.{◌≡◌, sym, ◌∙◌}
use mathlib.Core.List.{List}
use Prim.Native.Nat.{ℕ}
use Rattle.paper.specs.Nesting.{may_follow, next_body}
use Rattle.mesh.proofs.Scans.{first_at, first_none, fails_step}
use Rattle.nesting.specs.Marks.{Marks}
use Rattle.nesting.proofs.Laws.{holder_is}
use native.Mathlib.Omega.{arith}
use Rattle.nesting.proofs.next_body.Goals as goal
use Rattle.nesting.proofs.next_body.Goals.{After-may_follow}

-- In the loop: what the call tells of the body, for any list that the marks belong to.
told : (v : After-may_follow) (list : List ℕ) → Marks list v.args.marks.now
    → v.may_follow.result ≡ may_follow v.args.holders.now list v.loop-b.b
told v list m =
    v.may_follow.ensures v.args.holders.now list (sym (holder_is v.args.holders.now v.loop-b.b v.loop-b-test.true)) m

pub returns-then-may_follow : goal.returns-then-may_follow
unfolding next_body
returns-then-may_follow c list m = (
  c.loop-b-test.true,
  sym (first_at _ _ _ c.loop-b-test.true (sym (told (goal.at.returns-then-may_follow c).After-may_follow list m) ∙ c.if-may_follow.true) (c.loop-b.invariant list m)),
)

pub loop-b-preserved : goal.loop-b-preserved
loop-b-preserved c =
    λ list m. fails_step _ _ (c.loop-b.invariant list m) (sym (told (goal.at.loop-b-preserved c).After-may_follow list m) ∙ c.if-may_follow.false)

pub returns : goal.returns
unfolding next_body
returns c list m = first_none _ _ (λ j h. c.loop-b.invariant list m j (omega arith))

pub loop-b-init : goal.loop-b-init
loop-b-init c = λ list m j h. absurd (omega arith)
