-- A check of one test meets its contract.
use mathlib.Core.Path.{sym}
use Rattle.mesh.proofs.Verdicts.{single_hit, single_miss}
use Rattle.floats.proofs.refused_if.Goals as goal

pub returns-then-fault : goal.returns-then-fault
returns-then-fault c = sym (single_hit _ _ c.if-fault.true)

pub returns : goal.returns
returns c = sym (single_miss _ _ c.if-fault.false)
