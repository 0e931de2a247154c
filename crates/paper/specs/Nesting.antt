-- L4, the nested grids as a table: each body has the number of the body whose grid it hangs in, its holder, or 65,535 for the Sun.
-- Chains of holders, the checks 21 to 23, the listing, and the call.
use Rattle.std.specs.Prelude.{◌≡◌, Bool, true, false, not, ◌&&◌, ◌||◌, List, [], ◌∷◌, ◌++◌, ℕ, zero, suc, ◌<◌, leb, eqb, length, get_or, take}
use Rattle.paper.specs.Scan.{first_below, some_below, count_below, iterate}
use Rattle.paper.specs.Faults.{Verdict, ◌or_else◌, single, lowest_of, outside, Answered, Answer}

abbrev pub most_bodies : ℕ
most_bodies = 256

abbrev pub sun : ℕ
sun = 65535

-- ---- chains
-- what body b hangs in; the Sun, which is no body of the table, stays the Sun
abbrev pub holder : List ℕ → ℕ → ℕ
holder holders b = get_or holders b sun

-- the chain of b after k steps: b, what it hangs in, what that hangs in ..
unfoldable pub chain : List ℕ → ℕ → ℕ → ℕ
chain holders b k = iterate k (holder holders) b

-- the chain meets the Sun within as many steps as there are bodies; none meets it later (`EachChain` in Claims)
unfoldable pub ends_at_sun : List ℕ → ℕ → Bool
ends_at_sun holders b = some_below (suc (length holders)) (λ k. eqb (chain holders b k) sun)

-- ---- the checks; n is the listing's length
-- 21: no bodies, above 256, or the listing's length differs from the bodies'
unfoldable pub fault21 : ℕ → ℕ → Bool
fault21 bodies n = outside 1 most_bodies bodies || not (eqb n bodies)

-- 22: a number is neither below the body count nor 65,535
unfoldable pub fault22 : List ℕ → ℕ → Bool
fault22 holders b = leb (length holders) (holder holders b) && not (eqb (holder holders b) sun)

-- 23: a chain does not end at the Sun
unfoldable pub fault23 : List ℕ → ℕ → Bool
fault23 holders b = not (ends_at_sun holders b)

-- 21 and 22
unfoldable pub table_verdict : List ℕ → ℕ → Verdict
table_verdict holders n = single 21 (fault21 (length holders) n) 0 or_else lowest_of 22 (length holders) (fault22 holders)

unfoldable pub nesting_verdict : List ℕ → ℕ → Verdict
nesting_verdict holders n = table_verdict holders n or_else lowest_of 23 (length holders) (fault23 holders)

-- ---- the listing
-- b stands in the list
unfoldable pub listed : List ℕ → ℕ → Bool
listed list b = some_below (length list) (λ i. eqb (get_or list i 0) b)

-- b may come next: it is not yet listed, and what it hangs in is listed or is the Sun
unfoldable pub may_follow : List ℕ → List ℕ → ℕ → Bool
may_follow holders list b = not (listed list b) && (eqb (holder holders b) sun || listed list (holder holders b))

-- the lowest number among those that may come next; the body count where none may
unfoldable pub next_body : List ℕ → List ℕ → ℕ
next_body holders list = first_below (length holders) (may_follow holders list)

-- k places, filled one after the other
unfoldable pub places : List ℕ → ℕ → List ℕ
places holders zero = []
places holders (suc k) = places holders k ++ (next_body holders (places holders k) ∷ [])

unfoldable pub listing : List ℕ → List ℕ
listing holders = places holders (length holders)

-- ---- a call on a table, with a lent listing that held `old`: it writes the listing
abbrev pub Nested : List ℕ → List ℕ → Answer → List ℕ → Type 0
Nested holders old = Answered (nesting_verdict holders (length old)) (listing holders) old

-- ---- what the theorems say of chains and of a listing
-- the chain of b ends at the Sun, after however many steps
abbrev pub ReachesSun : List ℕ → ℕ → Type 0
ReachesSun holders b = (k : ℕ) × (chain holders b k ≡ sun)

pub record Ordered (holders out : List ℕ) : Type 0 where
  pub whole : length out ≡ length holders
  -- each body stands at exactly one place
  pub once : (b : ℕ) → b < length holders → count_below (length out) (λ i. eqb (get_or out i 0) b) ≡ 1
  -- and after the one it hangs in, unless that is the Sun
  pub later : (i : ℕ) → i < length out → (holder holders (get_or out i 0) ≡ sun → ⊥) → listed (take i out) (holder holders (get_or out i 0)) ≡ true
  -- and no lower body could have stood at its place
  pub lowest : (i : ℕ) → i < length out → (b : ℕ) → b < get_or out i 0 → may_follow holders (take i out) b ≡ false
