-- `pages::accept` meets its contract: a page that passes has room for a mesh's corners and borders.
use Prim.Native.Nat.{◌<◌}
use Rattle.paper.specs.Report.{most_meshes}
use Rattle.pages.proofs.Lists.{page_same}
use Rattle.pages.proofs.Checks.{SmallPage, page_small}
use native.Mathlib.Omega.{arith}
use borrow.Author.Rules.{rules}
use Rattle.pages.proofs.accept.Goals as goal
use Rattle.pages.proofs.accept.Goals.{Start}

-- the numbers of the page are within 2^40, and a mesh has few corners
small : (s : Start) → (s.args.page.meshes < most_meshes) × SmallPage s.args.page
small s = page_small s.args.page s.requires.0

pub overflow_add-result : goal.overflow_add-result
overflow_add-result c = omega (arith, small (search))

pub overflow_add-result-2 : goal.overflow_add-result-2
overflow_add-result-2 c = omega (arith, small (search))

pub overflow_add-result-3 : goal.overflow_add-result-3
overflow_add-result-3 c = omega (arith, small (search))

pub returns : goal.returns
returns c = search (rules, page_same)
