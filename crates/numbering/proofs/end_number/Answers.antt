-- `end_number` meets its contract, end by end.
use native.Mathlib.Omega.{arith}
use mathlib.Core.Path.{◌≡◌, sym, ap, ◌∙◌}
use Prim.Native.Nat.{ℕ}
use Rattle.paper.specs.Sampling.{side_at}
use Rattle.paper.specs.Net.{side2}
use Rattle.paper.specs.Triangles.{begin, end_number, edge_owner}
use Rattle.numbering.specs.Meshed.{group_start}
use Rattle.numbering.proofs.Lent.{given_of, place_of_lem, here_of, beside_in, vertex_below, vertex_is, edge_below, face_below, number_start}
use Rattle.numbering.proofs.end_number.Goals as goal
use Rattle.numbering.proofs.end_number.Goals.{Start}

pub group_start-requires : goal.group_start-requires
group_start-requires c = let g = given_of c.requires.0 in (c.requires.0, omega (arith, c.vertex_owner-d.ensures, vertex_below g.mesh g.is c.args.c c.requires.1), omega arith)

pub returns-then-side-eq0 : goal.returns-then-side-eq0
returns-then-side-eq0 c =
    λ M t. c.group_start.ensures.1 M t
    ∙ ap (λ (x : ℕ). group_start M c.args.tables.levels.now x 0) (c.vertex_owner-d.ensures ∙ vertex_is M t.of c.args.c c.requires.1)
    ∙ number_start M c.args.tables.levels.now _ 0
    ∙ ap (λ (x : ℕ). end_number M c.args.tables.levels.now c.args.c (begin (side_at x))) (sym c.if-side-eq0.true)

pub group_start-requires-then-side-eq1 : goal.group_start-requires-then-side-eq1
group_start-requires-then-side-eq1 c = let g = given_of c.requires.0 in (c.requires.0, omega (arith, c.edge_owner-d.ensures g.mesh (here_of g.mesh g.is c.args.c c.requires.1), edge_below g.mesh g.is c.args.c c.requires.1), omega arith)

pub returns-then-side-eq1 : goal.returns-then-side-eq1
returns-then-side-eq1 c =
    λ M t. c.group_start-then-side-eq1.ensures.1 M t
    ∙ ap (λ (x : ℕ). group_start M c.args.tables.levels.now x 1) (c.edge_owner-d.ensures M (here_of M t.of c.args.c c.requires.1))
    ∙ number_start M c.args.tables.levels.now _ 1
    ∙ ap (λ (x : ℕ). end_number M c.args.tables.levels.now c.args.c (begin (side_at x))) (sym c.if-side-eq1.true)

pub group_start-requires-then-side-eq2 : goal.group_start-requires-then-side-eq2
group_start-requires-then-side-eq2 c = let g = given_of c.requires.0 in (c.requires.0, omega (arith, c.face_owner-d.ensures g.mesh (here_of g.mesh g.is c.args.c c.requires.1), face_below g.mesh g.is c.args.c c.requires.1), omega arith)

pub returns-then-side-eq2 : goal.returns-then-side-eq2
returns-then-side-eq2 c =
    λ M t. c.group_start-then-side-eq2.ensures.1 M t
    ∙ ap (λ (x : ℕ). group_start M c.args.tables.levels.now x 2) (c.face_owner-d.ensures M (here_of M t.of c.args.c c.requires.1))
    ∙ number_start M c.args.tables.levels.now _ 2
    ∙ ap (λ (x : ℕ). end_number M c.args.tables.levels.now c.args.c (begin (side_at x))) (sym c.if-side-eq2.true)

pub edge_owner-d-requires-2 : goal.edge_owner-d-requires-2
edge_owner-d-requires-2 c =
    let g = given_of c.requires.0 in
    place_of_lem g c.beside-e.result (beside_in g.mesh g.is c.args.c c.requires.1 side2 _ (c.beside-e.ensures g.mesh (here_of g.mesh g.is c.args.c c.requires.1)))

pub group_start-requires-2 : goal.group_start-requires-2
group_start-requires-2 c =
    let g = given_of c.requires.0 in
    let d = beside_in g.mesh g.is c.args.c c.requires.1 side2 _ (c.beside-e.ensures g.mesh (here_of g.mesh g.is c.args.c c.requires.1)) in
    (c.requires.0, omega (arith, c.edge_owner-d-2.ensures g.mesh (here_of g.mesh g.is _ d), edge_below g.mesh g.is _ d), omega arith)

pub returns : goal.returns
returns c =
    let e : c.args.side ≡ 3 = omega arith in
    λ M t. let q = c.beside-e.ensures M (here_of M t.of c.args.c c.requires.1) in let d = beside_in M t.of c.args.c c.requires.1 side2 _ q in
    c.group_start-2.ensures.1 M t
    ∙ ap (λ (x : ℕ). group_start M c.args.tables.levels.now x 1) (c.edge_owner-d-2.ensures M (here_of M t.of _ d) ∙ ap (edge_owner M) q)
    ∙ number_start M c.args.tables.levels.now _ 1 ∙ ap (λ (x : ℕ). end_number M c.args.tables.levels.now c.args.c (begin (side_at x))) (sym (e))
