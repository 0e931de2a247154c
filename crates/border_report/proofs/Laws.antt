-- The ways out of the report, as laws over pages; how many rows its tables have.
use Rattle.std.specs.Prelude.{Ok, Err}
use mathlib.Core.Path.{◌≡◌, sym, ap, ◌∙◌}
use mathlib.Core.List.{List}
use mathlib.Core.Logic.{⊎_elim}
use Prim.Native.Nat.{ℕ, ◌+◌, ◌*◌, ◌<◌, ◌≤◌, max}
use native.Mathlib.Omega.{arith}
use lib.Dec.{ltb}
use lib.ListN.{length, get_or, replicate, length-replicate}
use lib.IntN.{ℤ, pos}
use borrow.Author.Tests.{ltb-true, ltb-false}
use Rattle.paper.specs.Scan.{values_from}
use Rattle.paper.specs.Mesh.{Mesh, corner_count, most_corners}
use Rattle.paper.specs.Faults.{Verdict, sound, fault}
use Rattle.paper.specs.Report.{page_with, conditions, largest_miss, added, page_verdict, Offered, mesh_in, verdict_in, page_after, ReportedTo}
use Rattle.paper.specs.declared.Page.{Page}
use Rattle.mesh.specs.Tables.{small_mesh, large_mesh, TableRows}
use Rattle.mesh.proofs.Scans.{ways}
use Rattle.surface.specs.Points.{point_row}
use Rattle.pages.proofs.Lists.{values_equal}
use Rattle.paper.specs.declared.Refusal.{Refusal}

-- a mesh whose checks give a fault, and an accepted one
pub refused_added : (P : Page) (M : Mesh) (v : Verdict) (r : Page) (k p : ℕ) → ((M : Mesh) (p : ℕ) → r ≡ added P M (fault k p)) → fault k p ≡ v → r ≡
    added P M v
refused_added P M v r k p e q = e M p ∙ ap (added P M) q

pub accepted_added : (P : Page) (M : Mesh) (v : Verdict) (r : Page) (m : List ℕ) → v ≡ sound
    → r ≡ page_with (P.meshes + 1) (P.corners + corner_count M) (P.borders + 2 * corner_count M) P.refusals
    (values_from (λ j. max (get_or P.misses j 0) (get_or m j 0)) 0 conditions)
    → ((j : ℕ) → j < conditions → get_or m j 0 ≡ largest_miss M j) → r ≡ added P M v
unfolding added
accepted_added P M v r m s e h =
    rw s
    (e
    ∙ ap (page_with (P.meshes + 1) (P.corners + corner_count M) (P.borders + 2 * corner_count M) P.refusals)
    (values_equal _ (λ j. max (get_or P.misses j 0) (largest_miss M j)) conditions (λ j few. ap (max (get_or P.misses j 0)) (h j few))))

-- a call
module _ (P : Page) (F : Offered) where
  pub refused_report : (r : Refusal) → fault r.number r.place ≡ page_verdict P → ReportedTo P F (Err (record { refusal = r; page = P }))
  unfolding page_after
  refused_report r e = record { answers = e; holds = rw (← e) }

  pub done_report : (N : Page) → page_verdict P ≡ sound → N ≡ added P (mesh_in F) (verdict_in F) → ReportedTo P F (Ok N)
  unfolding page_after
  done_report N e n = record { answers = sym e; holds = rw e n }

-- a short table is chosen only for few rows
pub few_rows : (count r : ℕ) → TableRows count r → r ≡ small_mesh → count ≤ small_mesh
few_rows count r t e =
    ⊎_elim
    (λ l. let more : small_mesh < count = ltb-true small_mesh count l in
    ⊎_elim (λ k. absurd (omega (arith, t.2 (ltb-true large_mesh count k)))) (λ k. absurd (omega (arith, t.1 more (ltb-false large_mesh count k))))
    (ways (ltb large_mesh count)))
    (λ l. ltb-false small_mesh count l) (ways (ltb small_mesh count))

-- tables of zeros with p rows, for n corners
pub point_room : (n p : ℕ) → (n ≤ most_corners → n ≤ p) → n ≤ most_corners → point_row * n ≤ length (replicate (point_row * p) (pos 0))
point_room n p few h = rw (length-replicate {A = ℤ} (point_row * p) (pos 0)) (omega (arith, few h))
