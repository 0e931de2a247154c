-- What the place is, and the place, where the row says it and where not.
use mathlib.Core.Path.{◌≡◌, refl}
use mathlib.Core.List.{List, [], ◌∷◌, ◌++◌}
use Prim.Native.Nat.{ℕ}
use native.Mathlib.Omega.{arith}
use lib.ListN.{length}
use Rattle.streams.specs.text.Text.{decimal}
use Rattle.lines.specs.Lines.{space}
use Rattle.streams.proofs.text.Putting.{put_none}
use Rattle.lines.specs.words.Worded.{placed, PlacePut}

pub not_placed : (name : List ℕ) (p : ℕ) → length name ≡ 0 → [] ≡ placed name p
unfolding placed
not_placed [] p e = refl
not_placed (b ∷ name) p e = absurd (omega arith)

pub is_placed : (name : List ℕ) (p : ℕ) → (length name ≡ 0 → ⊥) → name ++ ((space ∷ []) ++ decimal p) ≡ placed name p
unfolding placed
is_placed [] p n = absurd (n refl)
is_placed (b ∷ name) p n = refl

pub no_row : (old : List ℕ) (at p : ℕ) → PlacePut old at p old at
unfolding placed
no_row old at p = record { name = []; words = []; put = put_none old at }
