-- `pages::refuse` meets its contract: a page that passes has room for one more.
use borrow.Author.Rules.{rules}
use Prim.Native.Nat.{◌<◌}
use Rattle.paper.specs.Report.{added, most_meshes}
use Rattle.pages.proofs.Lists.{page_same}
use Rattle.pages.proofs.Checks.{SmallPage, page_small}
use native.Mathlib.Omega.{arith}
use Rattle.pages.proofs.refuse.Goals as goal
use Rattle.pages.proofs.refuse.Goals.{Start}

small : (s : Start) → (s.args.page.meshes < most_meshes) × SmallPage s.args.page
small s = page_small s.args.page s.requires

pub returns : goal.returns
unfolding added
returns c M p = search (rules, page_same)

pub one_more-refusals-requires : goal.one_more-refusals-requires
one_more-refusals-requires c = (small (search)).1.refusals_small

pub overflow_add-result : goal.overflow_add-result
overflow_add-result c = omega (arith, small (search))
