-- `list` meets its contract: 23 refuses and nothing was written, or the order is copied.
use mathlib.Core.Path.{refl, sym, ap, ◌∙◌}
use Prim.Native.Nat.{◌≤◌}
use Rattle.std.proofs.lemmas.Result.{err_from_is_err_and}
use lib.ListN.{length}
use lib.Seq.{length-take-le}
use Rattle.paper.specs.Faults.{stated}
use Rattle.mesh.proofs.Verdicts.{passed}
use Rattle.nesting.proofs.Laws.{list_done}
use native.Mathlib.Omega.{arith}
use Rattle.nesting.proofs.list.Goals as goal
use Rattle.nesting.proofs.list.Goals.{After-arrange}

pub returns-in_err-check_chains : goal.returns-in_err-check_chains
returns-in_err-check_chains c =
    let p = err_from_is_err_and c.from_residual.result c.from_residual.ensures.1 in
    rw (p.1, p.2) (record { answers = ap stated (sym c.in_err-check_chains.was) ∙ c.check_chains.ensures; holds = refl })

-- the order has room for the listing
room : (a : After-arrange) → length a.args.listing.now ≤ length a.arrange.new.order
room a = omega (arith, a.requires.0.order_room, a.requires.1, a.arrange.auto.order)

pub returns : goal.returns
returns c =
    list_done (passed c.check_chains.result c.check_chains.ensures _ c.in_ok-check_chains.was) c.requires.1 c.arrange.ensures c.copy_from_slice.ensures.after

pub slice_bounds-copy_from_slice-end : goal.slice_bounds-copy_from_slice-end
slice_bounds-copy_from_slice-end c = room (goal.at.slice_bounds-copy_from_slice-end c).After-arrange

pub copy_from_slice-requires : goal.copy_from_slice-requires
copy_from_slice-requires c = sym (length-take-le _ _ (room (goal.at.copy_from_slice-requires c).After-arrange))
