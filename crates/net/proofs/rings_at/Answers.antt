-- `net::rings_at` meets its contract.
use mathlib.Core.Path.{refl, ap, ◌∙◌}
use Prim.Native.Nat.{ℕ, ◌≤◌}
use native.Mathlib.Omega.{arith}
use borrow.Author.Rules.{rules}
use mir.Syntax.{w64}
use mir.Val.{SFits}
use mir.Facts.{to_z-of_z}
use Rattle.paper.specs.Mesh.{least_sides, most_sides}
use Rattle.paper.specs.Cosines.{cosine}
use Rattle.net.proofs.rings_at.Goals as goal
use Rattle.net.proofs.rings_at.Goals.{After-cosine, After-sides-n, After-valence-m, Start}

-- the two counts are counts of an accepted mesh
vertex-bounds : (c : After-valence-m) → (least_sides ≤ c.valence-m.result) × (c.valence-m.result ≤ most_sides)
vertex-bounds c =
    let p = c.requires.0 in rw c.valence-m.ensures.read (p.sound.valence_least _ p.here, p.sound.valence_most _ p.here)

face-bounds : (c : After-sides-n) → (least_sides ≤ c.sides-n.result) × (c.sides-n.result ≤ most_sides)
face-bounds c =
    let s : Start = search in let p = s.requires.0 in rw c.sides-n.ensures.read (p.sound.sides_least _ p.here, p.sound.sides_most _ p.here)

pub returns : goal.returns
returns c =
    let v = c in
    let n = c in
    let d = c in
    let fv : SFits w64 d.cosine.result = search rules in
    let ff : SFits w64 c.cosine-2.result = search rules in
    record {
      at_vertex = to_z-of_z fv ∙ d.cosine.ensures ∙ ap (λ (m : ℕ). cosine m 1) v.valence-m.ensures.read;
      at_face = to_z-of_z ff ∙ c.cosine-2.ensures ∙ ap (λ (m : ℕ). cosine m 1) n.sides-n.ensures.read;
      place_is = refl;
    }

pub valence-m-requires : goal.valence-m-requires
valence-m-requires c = let p = c.requires.0 in omega (arith, p.table_long, p.here)

pub sides-n-requires : goal.sides-n-requires
sides-n-requires c = let p = c.requires.0 in omega (arith, p.table_long, p.here)

pub cosine-requires : goal.cosine-requires
cosine-requires c = let s = c in let b = vertex-bounds (goal.at.cosine-requires c).After-valence-m in (s.requires.1, b.0, b.1, omega (arith, b.0))

pub cosine-requires-2 : goal.cosine-requires-2
cosine-requires-2 c = let s = c in let b = face-bounds (goal.at.cosine-requires-2 c).After-sides-n in (s.requires.1, b.0, b.1, omega (arith, b.0))
