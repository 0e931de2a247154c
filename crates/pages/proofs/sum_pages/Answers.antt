-- `pages::sum_pages` meets its contract: sums of numbers within 2^40 fit.
use mathlib.Core.Path.{refl}
use Prim.Native.Nat.{◌+◌, ◌≤◌}
use Rattle.paper.specs.Report.{merged, most_meshes}
use Rattle.pages.proofs.Checks.{SmallPage, both_small}
use Rattle.pages.proofs.Lists.{page_same}
use native.Mathlib.Omega.{arith}
use Rattle.pages.proofs.sum_pages.Goals as goal
use Rattle.pages.proofs.sum_pages.Goals.{Start}

-- the numbers of both pages are within 2^40
small : (s : Start) → (s.args.page.meshes + s.args.other.meshes ≤ most_meshes) × SmallPage s.args.page × SmallPage s.args.other
small s = both_small s.args.page s.args.other s.requires

pub sums-refusals-requires : goal.sums-refusals-requires
sums-refusals-requires c l = let b = small (search) in (b.1.refusals_small l, b.2.refusals_small l)

pub returns : goal.returns
unfolding merged
returns c =
    page_same _ _ _ _ _ _ _ _ _ _ refl refl refl c.sums-refusals.ensures (c.larger_of-misses.ensures)

pub overflow_add-result : goal.overflow_add-result
overflow_add-result c = omega (arith, small (search))

pub overflow_add-result-2 : goal.overflow_add-result-2
overflow_add-result-2 c = omega (arith, small (search))

pub overflow_add-result-3 : goal.overflow_add-result-3
overflow_add-result-3 c = omega (arith, small (search))
