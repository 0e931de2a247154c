-- A table of zeros has room for the refined points of as many corners as it has rows; how the answers make up the verdict.
use mathlib.Core.Path.{◌≡◌, refl, ◌∙◌, sym}
use mathlib.Core.List.{List}
use Prim.Native.Nat.{ℕ, ◌*◌, ◌≤◌}
use native.Mathlib.Omega.{arith}
use lib.ListN.{length, replicate, length-replicate}
use lib.IntN.{ℤ, pos}
use Rattle.paper.specs.Mesh.{most_corners, Mesh, corner_count, face_count}
use Rattle.paper.specs.Faults.{sound, fault, Accepted, verdict, done}
use Rattle.paper.specs.Calls.{Built, nets}
use Rattle.mesh.proofs.Accepted.{sound_of, few_corners}
use Rattle.mesh.proofs.Verdicts.{or_else_fault, past, refusing}
use Rattle.surface.specs.Points.{point_row}
use Rattle.corner_points.specs.RefinedPoints.{SmallPoints}
use Rattle.refine.proofs.Points.{small_zeros}
use Rattle.checks.specs.Request.{links_faults, range_faults}
use Rattle.checks.proofs.requests.Laws.{verdict_is}

pub point_room : (n p : ℕ) → (n ≤ most_corners → n ≤ p)
    → (n ≤ most_corners → point_row * n ≤ length (replicate (point_row * p) (pos 0))) × SmallPoints (replicate (point_row * p) (pos 0))
point_room n p few = (λ h. rw (length-replicate {A = ℤ} (point_row * p) (pos 0)) (omega (arith, few h)), small_zeros (point_row * p))

pub few : (M : Mesh) → Accepted M → corner_count M ≤ most_corners
few M a = few_corners (length M.coordinates) (face_count M) (corner_count M) (sound_of M a).four

-- ---- the ways out of building
module _ (M : Mesh) (links : List ℕ) (first count : ℕ) (old : List ℤ) where
  pub mesh_refused : (k p : ℕ) → fault k p ≡ verdict M → Built M links first count old (refusing k p) old
  mesh_refused k p e =
      record { answers = sym (or_else_fault k p _ (sym e)) ∙ sym (verdict_is M links first count (length old)); holds = refl }

  module _ (a : Accepted M) where
    pub links_refused : (k p : ℕ) → fault k p ≡ links_faults M links → Built M links first count old (refusing k p) old
    links_refused k p e =
        record { answers = past a _ (sym (or_else_fault k p _ (sym e))) ∙ sym (verdict_is M links first count (length old)); holds = refl }

    module _ (b : links_faults M links ≡ sound) where
      pub range_refused : (k p : ℕ) → fault k p ≡ range_faults M first count (length old) → Built M links first count old (refusing k p) old
      range_refused k p e = record { answers = past a _ (past b _ e) ∙ sym (verdict_is M links first count (length old)); holds = refl }

      pub built : range_faults M first count (length old) ≡ sound → (out : List ℤ) → out ≡ nets M first count → Built M links first count old done out
      built e out w = record { answers = past a _ (past b _ (sym e)) ∙ sym (verdict_is M links first count (length old)); holds = w }
