-- Where a page's numbers stand: three, and after them the refusals and the misses.
use Rattle.std.proofs.Common.{◌≡◌, sym, ◌∙◌, List, ◌∷◌, ◌++◌, ℕ, ◌+◌, ◌≤◌, arith, length, get_or, take, drop, length-drop}
use Rattle.std.proofs.lemmas.List.{length-take-le, get_or-take, get_or-drop, take_at, drop_at, drop_all, append-nil}
use Rattle.paper.specs.Report.{lines, conditions, numbers_on}
use Rattle.paper.specs.Scan.{values_from}
use Rattle.paper.specs.declared.Page.{Page}
use Rattle.pages.proofs.Lists.{values_of}

-- a part of a list, number by number
pub part_read : (numbers : List ℕ) (at n : ℕ) → at + n ≤ length numbers → take n (drop at numbers) ≡ values_from (λ l. get_or numbers (at + l) 0) 0 n
part_read numbers at n h =
    sym (values_of (λ l. get_or numbers (at + l) 0) (take n (drop at numbers)) n (length-take-le n (drop at numbers) (omega (arith, length-drop at numbers)))
    (λ i b. sym (get_or-take n (drop at numbers) i 0 b ∙ get_or-drop at numbers i 0)))

-- a page's numbers, when its two lists were copied over zeros
pub parts_written : (P : Page) (r m zeros : List ℕ) → length P.refusals ≡ lines → length zeros ≡ conditions → r ≡ P.refusals → m ≡ P.misses
    → P.meshes ∷ P.corners ∷ P.borders ∷ (take 14 (r ++ zeros) ++ (m ++ drop 4 (drop 14 (r ++ zeros)))) ≡ numbers_on P
parts_written P r m zeros e z f g =
    rw (f, g, take_at P.refusals zeros 14 e, drop_at P.refusals zeros 14 e, drop_all 4 zeros (omega arith), append-nil)
