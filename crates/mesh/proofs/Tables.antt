-- The tables of a call have a row for each corner or vertex, where these are not too many.
use mathlib.Core.Logic.{⊎_elim}
use Prim.Native.Nat.{ℕ, ◌≤◌}
use native.Mathlib.Omega.{arith}
use lib.Dec.{ltb}
use borrow.Author.Tests.{ltb-true, ltb-false}
use Rattle.paper.specs.Mesh.{most_corners}
use Rattle.mesh.proofs.Scans.{ways}
use Rattle.mesh.specs.Tables.{small_mesh, large_mesh, TableRows}

pub rows_suffice : (count r : ℕ) → TableRows count r → count ≤ most_corners → count ≤ r
rows_suffice count r t h =
    ⊎_elim (λ l. omega (arith, h, t.2 (ltb-true large_mesh count l)))
    (λ l. let most : count ≤ large_mesh = ltb-false large_mesh count l in
    ⊎_elim (λ k. omega (arith, most, t.1 (ltb-true small_mesh count k) most))
    (λ k. let few : count ≤ small_mesh = ltb-false small_mesh count k in omega (arith, few, t.0 few)) (ways (ltb small_mesh count)))
    (ways (ltb large_mesh count))
