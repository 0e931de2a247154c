-- `telling::tell_counts` meets its contract: three numbers, and two lists copied.
use mathlib.Core.Path.{◌≡◌}
use mathlib.Core.List.{List}
use Prim.Native.Nat.{ℕ}
use Rattle.paper.specs.CFace.{counts_of}
use Rattle.telling.proofs.tell_counts.Goals as goal

told : (v f c : ℕ) (a b a' b' : List ℕ) → a ≡ a' → b ≡ b' → counts_of v f c a b ≡ counts_of v f c a' b'
told v f c a b a' b' p q = rw (p, q)

pub returns : goal.returns
returns c = told _ _ _ _ _ _ _ c.copy.ensures c.copy-2.ensures
