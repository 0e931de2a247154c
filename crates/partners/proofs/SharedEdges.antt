-- Edges by their ends: the same edge, its reverse, and edges that are shared with direction ignored.
use mathlib.Core.Path.{◌≡◌, refl, ◌∙◌, sym}
use mathlib.Core.Bool.{Bool, true, false, ◌||◌}
use mathlib.Core.Logic.{◌⊎◌, inl, inr, ⊎_elim}
use mathlib.Core.List.{List}
use Prim.Native.Nat.{ℕ}
use Rattle.paper.specs.Links.{vertex_of, leaves_to, same_edge, reverse_edge}
use Rattle.paper.specs.Turning.{shares_edge}
use Rattle.mesh.proofs.Ranges.{or_left, or_right}
use Rattle.mesh.proofs.ByCases.{equal_both, both_equal}

pub either : (a b : Bool) → a || b ≡ true → (a ≡ true) ⊎ (b ≡ true)
either true b e = inl refl
either false b e = inr e

module _ (sides corners : List ℕ) where
  pub same_ends : (c d : ℕ) → same_edge sides corners c d ≡ true
      → (vertex_of corners d ≡ vertex_of corners c) × (leaves_to sides corners d ≡ leaves_to sides corners c)
  unfolding same_edge
  same_ends c d = both_equal (vertex_of corners d) (vertex_of corners c) (leaves_to sides corners d) (leaves_to sides corners c)

  pub reverse_ends : (c d : ℕ) → reverse_edge sides corners c d ≡ true
      → (vertex_of corners d ≡ leaves_to sides corners c) × (leaves_to sides corners d ≡ vertex_of corners c)
  unfolding reverse_edge
  reverse_ends c d = both_equal (vertex_of corners d) (leaves_to sides corners c) (leaves_to sides corners d) (vertex_of corners c)

  pub same_of : (c d : ℕ) → vertex_of corners d ≡ vertex_of corners c → leaves_to sides corners d ≡ leaves_to sides corners c
      → same_edge sides corners c d ≡ true
  unfolding same_edge
  same_of c d = equal_both (vertex_of corners d) (vertex_of corners c) (leaves_to sides corners d) (leaves_to sides corners c)

  pub reverse_of : (c d : ℕ) → vertex_of corners d ≡ leaves_to sides corners c → leaves_to sides corners d ≡ vertex_of corners c
      → reverse_edge sides corners c d ≡ true
  unfolding reverse_edge
  reverse_of c d = equal_both (vertex_of corners d) (leaves_to sides corners c) (leaves_to sides corners d) (vertex_of corners c)

  -- the reverses of one edge are the same edge
  pub reverses_same : (c d e : ℕ) → reverse_edge sides corners c d ≡ true → reverse_edge sides corners c e ≡ true → same_edge sides corners d e ≡ true
  reverses_same c d e p q =
      let p' = reverse_ends c d p in
      let q' = reverse_ends c e q in
      same_of d e (q'.0 ∙ sym p'.0) (q'.1 ∙ sym p'.1)

  pub same_back : (c d : ℕ) → same_edge sides corners c d ≡ true → same_edge sides corners d c ≡ true
  same_back c d p = let q = same_ends c d p in same_of d c (sym q.0) (sym q.1)

  pub reverse_back : (c d : ℕ) → reverse_edge sides corners c d ≡ true → reverse_edge sides corners d c ≡ true
  reverse_back c d p = let q = reverse_ends c d p in reverse_of d c (sym q.1) (sym q.0)

  pub shares_self : (c : ℕ) → shares_edge sides corners c c ≡ true
  unfolding shares_edge
  shares_self c = or_left _ _ (same_of c c refl refl)

  pub shares_back : (c d : ℕ) → shares_edge sides corners c d ≡ true → shares_edge sides corners d c ≡ true
  unfolding shares_edge
  shares_back c d p =
      ⊎_elim (λ e. or_left _ _ (same_back c d e)) (λ e. or_right (same_edge sides corners d c) _ (reverse_back c d e))
      (either (same_edge sides corners c d) _ p)
