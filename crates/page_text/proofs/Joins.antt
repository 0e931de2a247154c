-- Texts one after the other: none, and one more.
use mathlib.Core.Path.{◌≡◌, refl, sym, ap}
use mathlib.Core.List.{List, [], ◌++◌}
use Prim.Native.Nat.{ℕ, ◌+◌}
use native.Mathlib.Numerals.{add-one}
use Rattle.page_text.specs.Lines.{texts_below}

pub join_none : (text : ℕ → List ℕ) → [] ≡ texts_below text 0
unfolding texts_below
join_none text = refl

pub join_next : (text : ℕ → List ℕ) (n : ℕ) → texts_below text n ++ text n ≡ texts_below text (n + 1)
unfolding texts_below
join_next text n = ap (texts_below text) (sym (add-one n))
