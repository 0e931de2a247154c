-- Tests joined by "or", and a number's place in a range.
use mathlib.Core.Path.{◌≡◌, refl}
use mathlib.Core.Bool.{Bool, true, false, ◌||◌, true≢false}
use Prim.Native.Nat.{ℕ, ◌<◌, ◌≤◌}
use lib.Dec.{ltb}
use borrow.Author.Tests.{ltb-false, lt-ltb, le-ltb}
use Rattle.paper.specs.Faults.{outside}

pub or_left : (a b : Bool) → a ≡ true → a || b ≡ true
or_left a b e = rw e

pub or_right : (a b : Bool) → b ≡ true → a || b ≡ true
or_right true b e = refl
or_right false b e = e

pub or_none : (a b : Bool) → a ≡ false → b ≡ false → a || b ≡ false
or_none a b p q = rw (p, q)

pub none_left : (a b : Bool) → a || b ≡ false → a ≡ false
none_left true b e = e
none_left false b e = refl

pub none_right : (a b : Bool) → a || b ≡ false → b ≡ false
none_right true b e = absurd (true≢false e)
none_right false b e = e

module _ (low high n : ℕ) where
  pub outside_low : n < low → outside low high n ≡ true
  outside_low h = or_left (ltb n low) (ltb high n) (lt-ltb n low h)

  pub outside_high : high < n → outside low high n ≡ true
  outside_high h = or_right (ltb n low) (ltb high n) (lt-ltb high n h)

  pub inside : low ≤ n → n ≤ high → outside low high n ≡ false
  inside a h = or_none (ltb n low) (ltb high n) (le-ltb n low a) (le-ltb high n h)

  pub at_least : outside low high n ≡ false → low ≤ n
  at_least e = ltb-false n low (none_left (ltb n low) (ltb high n) e)

  pub at_most : outside low high n ≡ false → n ≤ high
  at_most e = ltb-false high n (none_right (ltb n low) (ltb high n) e)
