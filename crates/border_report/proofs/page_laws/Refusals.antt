-- Every number under which a file is refused has a line on the page, so a refused mesh adds one there.
use mathlib.Core.Path.{◌≡◌, refl, sym, ap, ◌∙◌, subst}
use mathlib.Core.Bool.{Bool, true, false, not}
use mathlib.Core.List.{List}
use mathlib.Core.Logic.{⊎_elim}
use Prim.Native.Nat.{ℕ, ◌+◌, ◌-◌, ◌*◌, ◌<◌}
use native.Mathlib.Omega.{arith}
use borrow.Author.Tests.{eq-eqb, ne_eqb}
use lib.Dec.{eqb, eqb→eq, lit<}
use lib.ListN.{length, get_or, set, length-set}
use lib.Seq.{get_or-set_same, get_or-set_other}
use Rattle.paper.specs.Scan.{pick_n, some_below, first_below}
use Rattle.paper.specs.Mesh.{Mesh, corner_count}
use Rattle.paper.specs.Faults.{Verdict, sound, fault, ◌or_else◌, single, lowest_of, fault27, list_faults, link_faults, verdict}
use Rattle.paper.specs.File.{file_mesh, length_verdict, header_verdict, file_verdict}
use Rattle.paper.proofs.Below.{below_at}
use Rattle.mesh.proofs.Scans.{compared}
use Rattle.mesh.proofs.Verdicts.{single_miss}
use Rattle.dms_lists.proofs.lists.Lists.{file_corners, file_sharpness}
use Rattle.paper.specs.declared.Page.{Page}
use Rattle.paper.specs.Report.{page_with, line_numbers, lines, added, mesh_in, zero_page, run, AtLine, one_more}
use Rattle.paper.specs.Claims.{RefusedAdds}
use Rattle.pages.proofs.Lists.{values_of}
use Rattle.border_report.proofs.page_laws.Runs.{zero_within, after_file}

-- ---- the numbers of the checks
pub record HasLine (number : ℕ) : Type 0 where
  pub line : ℕ
  pub has_line : AtLine number line

abbrev Lined : Verdict → Type 0
Lined v = (k p : ℕ) → v ≡ fault k p → HasLine k

same_number : (k m p q : ℕ) → fault k p ≡ fault m q → k ≡ m
same_number k m p q e = cc

module _ (k : ℕ) (l : HasLine k) where
  single_lined : (b : Bool) (p : ℕ) → Lined (single k b p)
  unfolding single
  single_lined true p m q e = subst HasLine (same_number k m p q e) l
  single_lined false p m q e = let z : ◌≡◌ {A = ℕ} 0 1 = cc in absurd (omega arith)

  lowest_lined : (n : ℕ) (f : ℕ → Bool) → Lined (lowest_of k n f)
  unfolding lowest_of
  lowest_lined n f = single_lined (some_below n f) (first_below n f)

or_lined : (v w : Verdict) → Lined v → Lined w → Lined (v or_else w)
unfolding ◌or_else◌
or_lined sound w h k = k
or_lined (fault m q) w h k = h

at_line : (l : ℕ) → l < lines → HasLine (get_or line_numbers l 0)
at_line l h = record { line = l; has_line = (h, refl) }

sound_lined : (v : Verdict) → v ≡ sound → Lined v
sound_lined v s k p e = let z : ◌≡◌ {A = ℕ} 0 1 = cc in absurd (omega arith)

-- 27 cannot occur
no_27 : (file : List ℕ) → fault27 (length (file_mesh file).sharpness) (corner_count (file_mesh file)) ≡ false
unfolding fault27
no_27 file =
    let M = file_mesh file in
    let e : length (file_mesh file).sharpness ≡ 2 * corner_count (file_mesh file) = omega (arith, file_corners file, file_sharpness file) in
    ap not (eq-eqb (length M.sharpness) (2 * corner_count M) e)

mesh_lined : (M : Mesh) → fault27 (length M.sharpness) (corner_count M) ≡ false → Lined (verdict M)
unfolding verdict list_faults link_faults
mesh_lined M without =
    or_lined _ _
    (or_lined _ _ (single_lined 4 (at_line 3 (lit< tt)) _ _)
    (or_lined _ _ (sound_lined _ (single_miss 27 _ without))
    (or_lined _ _ (lowest_lined 5 (at_line 4 (lit< tt)) _ _)
    (or_lined _ _ (single_lined 6 (at_line 5 (lit< tt)) _ _)
    (or_lined _ _ (lowest_lined 7 (at_line 6 (lit< tt)) _ _)
    (or_lined _ _ (lowest_lined 8 (at_line 7 (lit< tt)) _ _)
    (or_lined _ _ (lowest_lined 28 (at_line 13 (lit< tt)) _ _) (lowest_lined 9 (at_line 8 (lit< tt)) _ _))))))))
    (or_lined _ _ (lowest_lined 10 (at_line 9 (lit< tt)) _ _)
    (or_lined _ _ (lowest_lined 11 (at_line 10 (lit< tt)) _ _)
    (or_lined _ _ (lowest_lined 12 (at_line 11 (lit< tt)) _ _) (lowest_lined 13 (at_line 12 (lit< tt)) _ _))))

file_lined : (file : List ℕ) (counted : ℕ) → Lined (file_verdict file counted)
unfolding file_verdict header_verdict length_verdict
file_lined file counted =
    or_lined _ _
    (or_lined _ _
    (or_lined _ _ (single_lined 1 (at_line 0 (lit< tt)) _ _)
    (or_lined _ _ (single_lined 2 (at_line 1 (lit< tt)) _ _) (single_lined 3 (at_line 2 (lit< tt)) _ _)))
    (or_lined _ _ (single_lined 4 (at_line 3 (lit< tt)) _ _) (single_lined 3 (at_line 2 (lit< tt)) _ _)))
    (mesh_lined (file_mesh file) (no_27 file))

-- ---- one more under it
-- the line of a number
abbrev line_of : ℕ → ℕ
line_of number = pick_n (eqb number 28) 13 (number - 1)

line_of_lem : (l : ℕ) → l < lines → line_of (get_or line_numbers l 0) ≡ l
line_of_lem l h = eqb→eq (line_of (get_or line_numbers l 0)) l (below_at (λ l. eqb (line_of (get_or line_numbers l 0)) l) lines tt l h)

module _ (P : Page) (k l : ℕ) (h : AtLine k l) (long : length P.refusals ≡ lines) where
  abbrev line_with : ℕ → ℕ
  line_with i = get_or P.refusals i 0 + pick_n (eqb (get_or line_numbers i 0) k) 1 0

  one_line : (i : ℕ) → i < lines → (i ≡ l → ⊥) → eqb (get_or line_numbers i 0) k ≡ false
  one_line i b other =
      ne_eqb (get_or line_numbers i 0) k (λ e. other (sym (line_of_lem i b) ∙ ap line_of (e ∙ sym h.1) ∙ line_of_lem l h.0))

  line_is : (i : ℕ) → i < lines → line_with i ≡ get_or (set P.refusals l (get_or P.refusals l 0 + 1)) i 0
  line_is i b =
      ⊎_elim
      (λ (e : i ≡ l).
      rw (e, eq-eqb (get_or line_numbers l 0) k h.1) (sym (get_or-set_same P.refusals l (get_or P.refusals l 0 + 1) 0 (omega (arith, h.0)))))
      (λ o.
      let other : i ≡ l → ⊥ = λ e. ⊎_elim (λ (q : i < l). omega arith) (λ (q : l < i). omega arith) o in
      rw (one_line i b other) (omega (arith, get_or-set_other P.refusals l i (get_or P.refusals l 0 + 1) 0 other)))
      (compared i l)

  added_one : (M : Mesh) (p : ℕ) → added P M (fault k p) ≡ one_more P l
  unfolding added
  added_one M p =
      ap (λ (r : List ℕ). page_with (P.meshes + 1) P.corners P.borders r P.misses)
      (values_of line_with (set P.refusals l (get_or P.refusals l 0 + 1)) lines (length-set P.refusals l (get_or P.refusals l 0 + 1) ∙ long) line_is)

pub refused_adds : RefusedAdds
refused_adds files F k p few e =
    let P = run zero_page files in
    let w = zero_within files (omega arith) in
    let h = file_lined _ _ k p e in
    record {
      line = h.line;
      has_line = h.has_line;
      adds_one =
          after_file P (0 + length files) F w (omega arith) ∙ ap (added P (mesh_in F)) e ∙ added_one P k h.line h.has_line w.refusals_long (mesh_in F) p;
    }
