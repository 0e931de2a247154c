-- Checks 14 and 15 meet their contract: the first stops the chain with its fault or is passed.
use mathlib.Core.Path.{◌≡◌, ◌∙◌, sym}
use lib.ListN.{length}
use Rattle.mesh.proofs.Verdicts.{past}
use Rattle.list_checks.proofs.Laws.{handed, stops}
use Rattle.checks.specs.Request.{links_faults}
use Rattle.checks.proofs.requests.Laws.{length_of, as_14}
use native.Mathlib.Omega.{arith}
use Rattle.checks.proofs.requests.check_links.Goals as goal
use Rattle.checks.proofs.requests.check_links.Goals.{In_ok-check_length}

-- after check 14
module _ (t : In_ok-check_length) where
  same_length : length t.args.links.now ≡ t.args.corners
  same_length = length_of _ _ (sym t.in_ok-check_length.ensures)

pub returns-in_err-check_length : goal.returns-in_err-check_length
unfolding links_faults
returns-in_err-check_length c =
    λ M e t. handed c.from_residual.result c.in_err-check_length.field-0.0 c.from_residual.ensures.1
    (stops _ _ _ (as_14 M c.args.corners e (length c.args.links.now) c.in_err-check_length.ensures))

pub find_link-requires : goal.find_link-requires
find_link-requires c = let e = same_length (goal.at.find_link-requires c).In_ok-check_length in (omega (arith, e, c.requires.0), omega (arith, e, c.requires.1))

pub returns : goal.returns
unfolding links_faults
returns c =
    λ M e t. past (sym (as_14 M c.args.corners e (length c.args.links.now) c.in_ok-check_length.ensures)) _
    (c.find_link.ensures M (e ∙ sym (same_length (goal.at.returns c).In_ok-check_length)) t)
