-- What is found is the lowest, by the counts of corners.
use mathlib.Core.Path.{◌≡◌}
use Prim.Native.Nat.{ℕ}
use borrow.Author.Rules.{rules}
use borrow.Author.Tests.{tests}
use Rattle.std.proofs.lemmas.Iterator.{first_from_Range}
use Rattle.paper.specs.Irregular.{irregular_vertex}
use Rattle.checks.specs.columns.Vertices.{count_here, noted}
use Rattle.irregular.proofs.Laws.{vertex_odd, vertex_square}
use Rattle.irregular.proofs.Scanned.{found_lowest}
use Rattle.irregular.proofs.lowest_counted.Goals as goal

pub returns : goal.returns
returns c =
    let n : ℕ → ℕ = noted c.args.vertices.now count_here in
    let counted = c.requires.2.count_is in
    let Yes : ℕ → Type 0 = λ u. n u ≡ 4 → ⊥ in
    let No : ℕ → Type 0 = λ u. n u ≡ 4 in
    found_lowest c.args.count (irregular_vertex c.args.corners.now) Yes No
    (λ u h. vertex_odd c.args.corners.now u (n u) (counted u) h) (λ u h. vertex_square c.args.corners.now u (n u) (counted u) h) c.find.result
    (first_from_Range _ _ _ c.find.result Yes No c.find.ensures.ran (λ x q k. search (rules, tests)) (λ x q k. search (rules, tests)))
