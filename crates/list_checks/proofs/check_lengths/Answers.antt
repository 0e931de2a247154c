-- Check 4 meets its contract: each test is one of the parts of fault 4.
use mathlib.Core.Path.{sym}
use Prim.Native.Nat.{◌/◌, ◌≤◌}
use borrow.Author.Rules.{rules}
use Rattle.paper.specs.Mesh.{most_vertices, most_faces, most_corners}
use Rattle.mesh.proofs.Ranges.{inside}
use Rattle.mesh.proofs.Verdicts.{single_hit, single_miss}
use Rattle.list_checks.proofs.Laws.{out_of, no_thirds, vertices_out, faces_out, corners_out, lengths_fit}
use Rattle.list_checks.proofs.check_lengths.Goals as goal
use Rattle.list_checks.proofs.check_lengths.Goals.{then-coordinates-ne0-via-then-coordinates-ne0, then-coordinates-ne0-via-else-coordinates-ne0+then-not-contains, then-coordinates-ne0-via-else-coordinates-ne0+else-not-contains+then-not-contains-2, then-coordinates-ne0-via-else-coordinates-ne0+else-not-contains+else-not-contains-2+then-not-contains-3}

pub returns-then-coordinates-ne0 : goal.returns-then-coordinates-ne0
returns-then-coordinates-ne0 c =
    sym (single_hit 4 0 (elim c.then-coordinates-ne0.branch [
      | then-coordinates-ne0-via-then-coordinates-ne0 w ↦ no_thirds _ _ _ w.if-coordinates-ne0.true
      | then-coordinates-ne0-via-else-coordinates-ne0+then-not-contains w ↦ vertices_out _ _ _ (out_of 1 most_vertices (c.args.coordinates / 3) (λ a b. search rules))
      | then-coordinates-ne0-via-else-coordinates-ne0+else-not-contains+then-not-contains-2 w ↦ faces_out _ _ _ (out_of 1 most_faces c.args.faces (λ a b. search rules))
      | then-coordinates-ne0-via-else-coordinates-ne0+else-not-contains+else-not-contains-2+then-not-contains-3 w ↦ corners_out _ _ _ (out_of 1 most_corners c.args.corners (λ a b. search rules))
    ]))

pub returns : goal.returns
returns c =
    let v : (1 ≤ c.args.coordinates / 3) × (c.args.coordinates / 3 ≤ most_vertices) = search rules in
    let f : (1 ≤ c.args.faces) × (c.args.faces ≤ most_faces) = search rules in
    let k : (1 ≤ c.args.corners) × (c.args.corners ≤ most_corners) = search rules in
    sym (single_miss 4 0 (lengths_fit c.args.coordinates c.args.faces c.args.corners c.if-coordinates-ne0.false
    (inside 1 most_vertices _ v.0 v.1) (inside 1 most_faces _ f.0 f.1) (inside 1 most_corners _ k.0 k.1)))
