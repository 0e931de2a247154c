-- Laws of the numbers that corners have of their own: runs of corners, the numbers of a run, and what holds of points and of tangents.
use mathlib.Core.Path.{◌≡◌, refl, sym, ap, ◌∙◌, subst}
use mathlib.Core.List.{List}
use Prim.Native.Nat.{ℕ, ◌+◌, ◌-◌, ◌*◌, ◌≤◌, ◌<◌}
use native.Mathlib.Omega.{arith}
use lib.ListN.{length, take, drop, length-take}
use lib.Seq.{get_or-take}
use lib.IntN.{ℤ, pos}
use Rattle.paper.specs.Mesh.{Mesh, corner_count}
use Rattle.paper.specs.Numbers.{rounded}
use Rattle.paper.specs.Faults.{sound}
use Rattle.paper.specs.Floats.{net_verdict}
use Rattle.numbering.specs.declared.CornerTables.{CornerTables}
use Rattle.triangles.specs.Owned.{Netted}
use Rattle.triangles.proofs.Own.{nets_length, net_sound}
use Rattle.paper.specs.Refined.{RefinedMesh}
use Rattle.paper.specs.Calls.{per_corner, nets}
use Rattle.paper.specs.Triangles.{points_before, coordinate_at, point_list}
use Rattle.paper.specs.Tangents.{tangent_at, tangent_list}
use Rattle.closing.proofs.Calls.{points_between}
use Rattle.net.specs.Drawn.{drawn}
use Rattle.building.specs.writing.Written.{NetsDrawn, NetsWritten}
use Rattle.building.proofs.writing.Laws.{drawn_written}
use Rattle.strips.specs.PointRows.{Stands}
use Rattle.strips.proofs.Stood.{put_as, put_join}
use Rattle.triangles.specs.tangent_filling.Paired.{tangents_before}
use Rattle.triangles.specs.runs.Chosen.{OwnLaws}
use Rattle.triangles.proofs.filling.Laws.{points_filled}
use Rattle.triangles.proofs.tangent_filling.Laws.{tangents_between, tangents_filled}

-- ---- a run of corners more: B says where each corner's part begins
module _ (B : ℕ → ℕ) (most : ℕ) (rises : (c d : ℕ) → c ≤ d → d ≤ most → B c ≤ B d) (first count : ℕ) (h : first + count ≤ most) where
  pub run_step : {A : Type 0} (f : ℕ → A) (c run to to' : ℕ) (old out new : List A) → c + run ≤ count → Stands f (B first) (B (first + c)) 0 to old out
      → Stands f (B (first + c)) (B (first + c + run)) to to' out new → Stands f (B first) (B (first + (c + run))) 0 to' old new
  run_step f c run to to' old out new l p q =
      put_as f (B first) (B (first + c + run)) (B first) (B (first + (c + run))) 0 to' old new refl
      (ap B (let z : first + c + run ≡ first + (c + run) = omega arith in z))
      (put_join f (B first) (B (first + c)) (B (first + c + run)) 0 to to' old out new
      (rises first (first + c) (omega arith) (omega arith)) (rises (first + c) (first + c + run) (omega arith) (omega arith)) p q)

  pub run_end : (c run to to' : ℕ) → c + run ≤ count → to ≡ 3 * (B (first + c) - B first)
      → to' ≡ to + 3 * (B (first + c + run) - B (first + c)) → to' ≡ 3 * (B (first + (c + run)) - B first)
  run_end c run to to' l e g =
      let x = rises first (first + c) (omega arith) (omega arith) in
      let y = rises (first + c) (first + c + run) (omega arith) (omega arith) in
      omega (arith, ap B (let z : first + c + run ≡ first + (c + run) = omega arith in z))

-- ---- the numbers of a run stand at the beginning of a longer list
written_part : (K : ℕ → RefinedMesh rounded) (first run : ℕ) (out : List ℤ) → NetsWritten K first run out
    → NetsWritten K first run (take (per_corner * run) out)
unfolding NetsWritten
written_part K first run out w a j p h hj hp = get_or-take (per_corner * run) out (per_corner * j + 3 * p + a) (pos 0) (omega arith) ∙ w a j p h hj hp

pub run_nets : (M : Mesh) (table : List ℕ) (refined : List ℤ) (first count n : ℕ) → NetsDrawn M table refined first count → corner_count M ≡ n → (c run : ℕ)
    → c + run ≤ count → (out : List ℤ) → per_corner * run ≤ length out → NetsWritten (drawn n table refined) (first + c) run out
    → take (per_corner * run) out ≡ nets M (first + c) run
run_nets M table refined first count n d e c run l out long w =
    drawn_written M table refined first count d (first + c) run (omega arith) (omega arith) (take (per_corner * run) out)
    (length-take (per_corner * run) out ∙ omega arith)
    (written_part _ (first + c) run out (rw e w))

-- ---- one corner more
module _ (B : ℕ → ℕ) (most : ℕ) (rises : (c d : ℕ) → c ≤ d → d ≤ most → B c ≤ B d) (first count : ℕ) (h : first + count ≤ most) (at c : ℕ) (l : c < count) where
  pub next_end : (to to' : ℕ) → to ≡ at + 3 * (B (first + c) - B first) → to' ≡ to + 3 * (B (first + c + 1) - B (first + c))
      → to' ≡ at + 3 * (B (first + (c + 1)) - B first)
  next_end to to' e f =
      let x = rises first (first + c) (omega arith) (omega arith) in
      let y = rises (first + c) (first + c + 1) (omega arith) (omega arith) in
      omega (arith, ap B (let z : first + c + 1 ≡ first + (c + 1) = omega arith in z))

-- ---- the numbers of the nets of a range
module _ {T : CornerTables} {numbers : List ℤ} {first count : ℕ} (n : Netted T numbers first count) where
  pub netted_long : length numbers ≡ per_corner * count
  netted_long = ap length n.numbers_are ∙ nets_length n.mesh first count

  pub netted_sound : first + count ≤ length T.levels.now → (c : ℕ) → c < count → net_verdict (take per_corner (drop (per_corner * c) numbers)) ≡ sound
  netted_sound h c l =
      subst (λ (x : List ℤ). net_verdict (take per_corner (drop (per_corner * c) x)) ≡ sound) (sym n.numbers_are)
      (net_sound n.mesh first count c l n.is.accepted (omega (arith, h, n.is.many)))

-- ---- the laws of the two kinds
pub points_laws : OwnLaws points_before coordinate_at point_list
points_laws = record { rises = points_between; whole = λ M levels first count to old out s. points_filled M levels first count count to old out refl s }

pub tangents_laws : OwnLaws tangents_before tangent_at tangent_list
tangents_laws = record { rises = tangents_between; whole = λ M levels first count to old out s. tangents_filled M levels first count count to old out refl s }
