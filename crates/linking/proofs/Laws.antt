-- Linking, way by way.
use mathlib.Core.Path.{◌≡◌, refl, ◌∙◌, sym}
use mathlib.Core.Bool.{not}
use mathlib.Core.List.{List}
use Prim.Native.Nat.{ℕ, ◌<◌}
use native.Mathlib.Omega.{arith}
use lib.Dec.{eqb}
use lib.ListN.{length, get_or}
use Rattle.paper.specs.Mesh.{Mesh, corner_count}
use Rattle.paper.specs.Faults.{sound, fault, single, Accepted, verdict, link_verdict, done}
use Rattle.paper.specs.Calls.{Linked}
use Rattle.paper.specs.Refined.{corners_of}
use Rattle.mesh.proofs.Links.{link_table_is}
use Rattle.mesh.proofs.Verdicts.{or_else_fault, past, refusing}
use Rattle.walk.specs.Table.{to_link, entry, Tabled}
use Rattle.checks.proofs.requests.Laws.{length_of}

module _ (M : Mesh) (old : List ℕ) where
  -- the answer decides what the table holds
  left : (k p : ℕ) → fault k p ≡ link_verdict M (length old) → Linked M old (refusing k p) old
  left k p e = record { answers = e; holds = refl }

  pub link_refused : (k p : ℕ) → fault k p ≡ verdict M → Linked M old (refusing k p) old
  unfolding link_verdict
  link_refused k p e = left k p (sym (or_else_fault k p _ (sym e)))

  module _ (a : Accepted M) where
    pub link_14 : (k p : ℕ) → fault k p ≡ single 14 (not (eqb (length old) (corner_count M))) (length old) → Linked M old (refusing k p) old
    unfolding link_verdict
    link_14 k p e = left k p (past a _ e)

    pub link_done : (table out : List ℕ) → single 14 (not (eqb (length old) (corner_count M))) (length old) ≡ sound → length out ≡ length old
        → Tabled (corners_of M) table → ((c : ℕ) → c < length old → get_or out c 0 ≡ entry table to_link c) → Linked M old done out
    unfolding link_verdict
    link_done table out f m t k =
        let e : sound ≡ link_verdict M (length old) = past a _ (sym f) in
        let l = length_of (length old) (corner_count M) f in
        record { answers = e; holds = link_table_is M out (m ∙ l) (λ c h. k c (omega arith) ∙ t.links c h) }
