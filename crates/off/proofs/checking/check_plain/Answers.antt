-- The list of eights is as long as it has to be.
use mathlib.Core.Path.{sym, ap, ◌∙◌}
use mathlib.Core.List.{List}
use Prim.Native.Nat.{ℕ, ◌*◌}
use lib.ListN.{length, length-replicate}
use Rattle.paper.specs.Mesh.{mesh_of, plain}
use Rattle.paper.specs.Faults.{verdict}
use Rattle.off.proofs.checking.Parts.{eights}
use native.Mathlib.Omega.{arith}
use Rattle.off.proofs.checking.check_plain.Goals as goal

pub slice_bounds-check-end : goal.slice_bounds-check-end
slice_bounds-check-end c =
    let n = 2 * length c.args.corners.now in
    sym (ap {B = ℕ} length (eights n 16384 (omega (arith, c.requires))) ∙ length-replicate n plain)

pub returns : goal.returns
returns c =
    let k = c.args.corners.now in
    c.check.ensures ∙ ap (λ (hs : List ℕ). verdict (mesh_of c.args.coordinates.now c.args.sides.now k hs)) (eights (2 * length k) 16384
    (omega (arith, c.requires)))
