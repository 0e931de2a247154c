-- Check 14 meets its contract: its test is the fault's.
use mathlib.Core.Path.{ap, sym}
use Rattle.mesh.proofs.Verdicts.{single_hit, single_miss}
use mathlib.Core.Bool.{not}
use borrow.Author.Tests.{eq-eqb, ne_eqb}
use Rattle.checks.proofs.requests.check_length.Goals as goal

pub returns-then-links-corners : goal.returns-then-links-corners
returns-then-links-corners c = sym (single_hit 14 _ (ap not (ne_eqb _ _ c.if-links-corners.true)))

pub returns : goal.returns
returns c = sym (single_miss 14 _ (ap not (eq-eqb _ _ c.if-links-corners.false)))
