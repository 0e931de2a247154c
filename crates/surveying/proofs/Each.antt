-- The tally of the corner list holds each vertex's corners; the tallies of those and of the side counts are the counts for each m.
use mathlib.Core.Path.{◌≡◌, ap, ◌∙◌, sym, fun_ext}
use mathlib.Core.List.{List}
use Prim.Native.Nat.{ℕ, ◌+◌, ◌<◌, ◌≤◌}
use native.Mathlib.Omega.{arith}
use lib.Dec.{eqb}
use lib.ListN.{length, get_or, take}
use lib.Seq.{get_or-take, length-take-le}
use Rattle.paper.specs.Scan.{count_below, values_from}
use Rattle.paper.specs.Mesh.{most_sides, most_vertices, Mesh, vertex_count}
use Rattle.paper.specs.Links.{valence, names}
use Rattle.paper.specs.Counts.{vertices_with, faces_with, for_each}
use Rattle.mesh.proofs.Rings.{count_same}
use Rattle.surveying.specs.Tally.{stands, tally_to, tally_of}
use Rattle.surveying.proofs.Tallies.{tally_length, tally_at}

-- the first v entries of a tally with room for them
pub prefix_length : (values table : List ℕ) (size v : ℕ) → table ≡ tally_of values size → v ≤ size → v ≡ length (take v table)
prefix_length values table size v e h =
    sym (length-take-le v table (omega (arith, ap length e, tally_length values (length values) size)))

module _ (M : Mesh) (v : ℕ) (valences : List ℕ) (is : valences ≡ tally_of M.corners most_vertices) (few : v ≤ most_vertices) where
  valence_at : (u : ℕ) → u < v → get_or (take v valences) u 0 ≡ valence M.corners u
  unfolding valence names
  valence_at u h = get_or-take v valences u 0 h ∙ ap (λ (l : List ℕ). get_or l u 0) is ∙ tally_at M.corners (length M.corners) most_vertices u (omega arith)

  pub cornered_is : (cornered : List ℕ) → v ≡ vertex_count M → cornered ≡ tally_of (take v valences) (most_sides + 1) → cornered ≡ for_each (vertices_with M)
  unfolding tally_to for_each vertices_with
  cornered_is cornered q e =
      e ∙ ap (λ (f : ℕ → ℕ). values_from f 0 (most_sides + 1)) (fun_ext λ m.
      ap (λ (n : ℕ). count_below n (stands (take v valences) m)) (sym (prefix_length M.corners valences most_vertices v is few) ∙ q)
      ∙ count_same (stands (take v valences) m) (λ u. eqb (valence M.corners u) m) (vertex_count M) λ u h.
      ap (λ (n : ℕ). eqb n m) (valence_at u (omega arith)))

pub sided_is : (M : Mesh) (sided : List ℕ) → sided ≡ tally_of M.sides (most_sides + 1) → sided ≡ for_each (faces_with M)
unfolding tally_to for_each faces_with
sided_is M sided e = e
