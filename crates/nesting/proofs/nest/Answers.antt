-- `nest` meets its contract: 21 and 22 stop the chain with their fault or are passed; then 23 decides what the listing holds.
use mathlib.Core.Path.{◌≡◌}
use Rattle.std.proofs.lemmas.Result.{err_from_is_err_and}
use lib.ListN.{length}
use Rattle.paper.specs.Faults.{sound, single, lowest_of}
use Rattle.paper.specs.Nesting.{fault21, fault22}
use Rattle.mesh.proofs.Verdicts.{stop, passed, past}
use Rattle.nesting.proofs.Laws.{nest_refused, same_room, arrangeable, nest_listed}
use Rattle.nesting.proofs.nest.Goals as goal
use Rattle.nesting.proofs.nest.Goals.{In_ok-check_lengths, In_ok-check_holders}

pub returns-in_err-check_lengths : goal.returns-in_err-check_lengths
returns-in_err-check_lengths c =
    let p = err_from_is_err_and c.from_residual.result c.from_residual.ensures.1 in
    rw (p.1, p.2) (nest_refused c.args.holders.now c.args.listing.now _ (stop c.check_lengths.result c.check_lengths.ensures _ c.in_err-check_lengths.was _))

-- past check 21, and past check 22
past21 : (t : In_ok-check_lengths) →
    single 21 (fault21 (length t.args.holders.now) (length t.args.listing.now)) 0 ≡ sound
past21 t = passed t.check_lengths.result t.check_lengths.ensures _ t.in_ok-check_lengths.was

past22 : (t : In_ok-check_holders) →
    lowest_of 22 (length t.args.holders.now) (fault22 t.args.holders.now) ≡ sound
past22 t = passed t.check_holders.result t.check_holders.ensures _ t.in_ok-check_holders.was

pub returns-in_err-check_holders : goal.returns-in_err-check_holders
returns-in_err-check_holders c =
    let p = err_from_is_err_and c.from_residual-in_err-check_holders.result c.from_residual-in_err-check_holders.ensures.1 in
    rw (p.1, p.2) (nest_refused c.args.holders.now c.args.listing.now _
    (past (past21 (goal.at.returns-in_err-check_holders c).In_ok-check_lengths) _ (stop c.check_holders.result c.check_holders.ensures _ c.in_err-check_holders.was _)))

pub list-requires : goal.list-requires
list-requires c =
    let B = c.args.holders.now in
    let old = c.args.listing.now in
    let a = past21 (goal.at.list-requires c).In_ok-check_lengths in
    (arrangeable B old a (past22 (goal.at.list-requires c).In_ok-check_holders), same_room B old a)

pub returns : goal.returns
returns c =
    nest_listed c.args.holders.now c.args.listing.now (past21 (goal.at.returns c).In_ok-check_lengths) (past22 (goal.at.returns c).In_ok-check_holders) c.list.ensures
