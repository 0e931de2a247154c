-- The lines of a file have room in the answer, 64 bytes for each; the line of m by the sum of its numbers.
use mathlib.Core.Path.{◌≡◌, refl, sym, ap, ◌∙◌}
use mathlib.Core.Bool.{true, false, ◌&&◌}
use mathlib.Core.List.{List, [], ◌∷◌, ◌++◌}
use mathlib.Core.Logic.{⊎_elim}
use Prim.Native.Nat.{ℕ, zero, suc, ◌+◌, ◌*◌, ◌≤◌}
use native.Mathlib.Numerals.{add-one}
use native.Mathlib.Omega.{arith}
use lib.Dec.{eqb}
use lib.ListN.{length, take, get_or, length-append}
use lib.Seq.{length-take-le}
use borrow.Author.Tests.{eq-eqb, ne_eqb, eqb-true}
use Rattle.mesh.proofs.Scans.{ways}
use Rattle.paper.specs.Mesh.{most_sides}
use Rattle.paper.specs.declared.Counts.{Counts}
use Rattle.io.specs.Counts.{IsPrefixLen as Within}
use Rattle.streams.specs.text.Text.{decimal, Put}
use Rattle.lines.specs.Lines.{ended, three_line, count_line, count_lines, summary_lines}
use Rattle.streams.proofs.text.Putting.{put_fits}
use Rattle.streams.proofs.text.Decimals.{decimal_short}
use Rattle.std.specs.Prelude.{Ok, Err}
use Rattle.paper.specs.Faults.{Told}

-- the line of a file, and one for each m from 0 on
abbrev answer_room : ℕ
answer_room = 64 * (most_sides + 2)

-- ---- the line of m
pub no_line : (m v f : ℕ) → v + f ≡ 0 → [] ≡ count_line m v f
unfolding count_line
no_line m v f e = rw (eq-eqb v 0 (omega arith), eq-eqb f 0 (omega arith))

pub a_line : (m v f : ℕ) → (v + f ≡ 0 → ⊥) → three_line m v f ≡ count_line m v f
unfolding count_line
a_line m v f n = ⊎_elim zero_left not_left (ways (eqb v 0))
  where
    zero_left : eqb v 0 ≡ true → three_line m v f ≡ count_line m v f
    zero_left e = let q = eqb-true v 0 e in rw (e, ne_eqb f 0 (λ z. n (omega arith)))

    not_left : eqb v 0 ≡ false → three_line m v f ≡ count_line m v f
    not_left e = rw e

-- ---- the lines of all m
pub no_lines : (cornered sided : List ℕ) → [] ≡ count_lines cornered sided 0
unfolding count_lines
no_lines cornered sided = refl

pub next_lines : (cornered sided : List ℕ) (m : ℕ)
    → count_lines cornered sided m ++ count_line m (get_or cornered m 0) (get_or sided m 0) ≡ count_lines cornered sided (m + 1)
unfolding count_lines
next_lines cornered sided m = ap (count_lines cornered sided) (sym (add-one m))

-- ---- lengths
ended_short : (n last : ℕ) → length (ended n last) ≤ 21
ended_short n last = let h = decimal_short 20 n in let l = length-append (decimal n) (last ∷ []) in omega arith

pub three_short : (a b c : ℕ) → length (three_line a b c) ≤ 63
three_short a b c =
    let p = ended_short a 32 in
    let q = ended_short b 32 in
    let r = ended_short c 10 in
    let l = length-append (ended a 32) (ended b 32 ++ ended c 10) in
    let k = length-append (ended b 32) (ended c 10) in
    omega arith

line_short : (m v f : ℕ) → length (count_line m v f) ≤ 63
unfolding count_line
line_short m v f = ⊎_elim left_out stands (ways (eqb v 0 && eqb f 0))
  where
    left_out : (eqb v 0 && eqb f 0) ≡ true → length (count_line m v f) ≤ 63
    left_out e = rw e (omega arith)

    stands : (eqb v 0 && eqb f 0) ≡ false → length (count_line m v f) ≤ 63
    stands e = rw e (three_short m v f)

lines_short : (cornered sided : List ℕ) (n : ℕ) → length (count_lines cornered sided n) ≤ 63 * n
unfolding count_lines
lines_short cornered sided zero = omega arith
lines_short cornered sided (suc m) =
    let h = lines_short cornered sided m in
    let k = line_short m (get_or cornered m 0) (get_or sided m 0) in
    let l = length-append (count_lines cornered sided m) (count_line m (get_or cornered m 0) (get_or sided m 0)) in
    omega arith

pub summary_short : (s : Told Counts) → length (summary_lines s) ≤ answer_room
summary_short (Ok n) =
    let h = lines_short n.cornered n.sided (most_sides + 1) in
    let k = three_short n.vertices n.faces n.corners in
    let l = length-append (three_line n.vertices n.faces n.corners) (count_lines n.cornered n.sided (most_sides + 1)) in
    omega arith
summary_short (Err r) =
    let h = ended_short r.number 32 in
    let i = ended_short r.place 10 in
    let l = length-append (ended r.number 32) (ended r.place 10) in
    omega arith

-- what is printed of a summary stands in the buffer as it is
pub summary_put : (s t : Told Counts) {old new : List ℕ} {r : ℕ} → s ≡ t → length old ≡ answer_room
    → Put old 0 (summary_lines t) new r → Within r new × (take r new ≡ summary_lines s)
summary_put s t {old} {new} {r} e l p =
    let h = p.inside (omega arith) in
    let k = summary_short t in
    ((h, sym (length-take-le r new h)), put_fits p (omega arith) ∙ ap summary_lines (sym e))
