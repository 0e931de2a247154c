-- Checks 12 and 13 meet their contract: the first stops the chain or is passed.
use mathlib.Core.Path.{◌≡◌, refl, sym}
use Rattle.paper.specs.Faults.{sound, lowest_of, fault12}
use Rattle.list_checks.proofs.Laws.{handed}
use Rattle.checks.proofs.vertices.Laws.{cornered, valences_refused, vertices_checked}
use Rattle.checks.proofs.vertices.check_vertices.Goals as goal
use Rattle.checks.proofs.vertices.check_vertices.Goals.{In_ok-check_valences}

-- after check 12
module _ (t : In_ok-check_valences) where
  twelve : lowest_of 12 t.args.count (fault12 t.args.corners.now) ≡ sound
  twelve = sym t.in_ok-check_valences.ensures

pub returns-in_err-check_valences : goal.returns-in_err-check_valences
returns-in_err-check_valences c =
    let b = c.from_residual in
    let r = c.in_err-check_valences.field-0.0 in
    valences_refused c.args.corners.now c.args.count c.args.table.now b.result r.number r.place (handed b.result r b.ensures.1 refl) c.in_err-check_valences.ensures

pub check_rings-requires : goal.check_rings-requires
check_rings-requires c =
    record { counted = c.requires.counted; links = (c.requires.links, cornered c.args.corners.now c.args.count (twelve (goal.at.check_rings-requires c).In_ok-check_valences)) }

pub returns : goal.returns
returns c =
    vertices_checked c.args.corners.now c.args.count c.args.table.now c.check_rings.result (twelve (goal.at.returns c).In_ok-check_valences) c.check_rings.ensures
