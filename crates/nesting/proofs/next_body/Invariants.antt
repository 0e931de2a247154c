-- `next_body` meets its contract: no body before `b` may come next, for any list that the marks belong to.
use mathlib.Core.Path.{◌≡◌}
use mathlib.Core.Bool.{false}
use mathlib.Core.List.{List}
use Prim.Native.Nat.{ℕ, ◌<◌}
use Rattle.paper.specs.Nesting.{may_follow}
use Rattle.nesting.specs.Marks.{Marks}
use Rattle.nesting.proofs.next_body.Given as goal

abbrev pub invariant-loop-b : goal.invariant-loop-b
invariant-loop-b l = (list : List ℕ) → Marks list l.marks → (j : ℕ) → j < l.b → may_follow l.holders list j ≡ false
