-- Points copied to the output: one, a run of them, one run after the other.
use mathlib.Core.Path.{◌≡◌, refl, ap, ◌∙◌}
use mathlib.Core.Bool.{Bool, true, false, not}
use mathlib.Core.List.{List}
use Prim.Native.Nat.{ℕ, zero, suc, ◌+◌, ◌*◌, ◌≤◌, ◌<◌}
use native.Mathlib.Omega.{arith}
use lib.Dec.{T, ltb, ltb→lt, nltb→le}
use lib.ListN.{length, get_or, set, length-set}
use lib.Seq.{get_or-set_same, get_or-set_other}
use lib.IntN.{ℤ, pos}
use Rattle.paper.specs.Calls.{per_corner}
use Rattle.net.specs.copy.Copy.{PointPut, PointsCopied}

other : (l : List ℤ) (n : ℕ) (v : ℤ) (k : ℕ) → (k ≡ n → ⊥) → get_or (set l n v) k (pos 0) ≡ get_or l k (pos 0)
other l n v k h = get_or-set_other l n k v (pos 0) h

pub three_put : (x y z : ℤ) (to : ℕ) (old : List ℤ) → to + 3 ≤ length old → PointPut x y z to 3 old (set (set (set old to x) (to + 1) y) (to + 2) z)
three_put x y z to old h =
    let one = set old to x in
    let two = set one (to + 1) y in
    record {
      same = length-set two (to + 2) z ∙ length-set one (to + 1) y ∙ length-set old to x;
      first = other two (to + 2) z to (λ e. omega arith) ∙ other one (to + 1) y to (λ e. omega arith) ∙ get_or-set_same old to x (pos 0) (omega arith);
      second = other two (to + 2) z (to + 1) (λ e. omega arith) ∙ get_or-set_same one (to + 1) y (pos 0) (rw (length-set old to x) (omega arith));
      third = get_or-set_same two (to + 2) z (pos 0) (rw (length-set one (to + 1) y, length-set old to x) (omega arith));
      before = λ i l. other two (to + 2) z i (λ e. omega arith) ∙ other one (to + 1) y i (λ e. omega arith) ∙ other old to x i (λ e. omega arith);
      after = λ i l. other two (to + 2) z i (λ e. omega arith) ∙ other one (to + 1) y i (λ e. omega arith) ∙ other old to x i (λ e. omega arith);
    }

pub four_put : (x y z w : ℤ) (to : ℕ) (old mid : List ℤ) → PointPut x y z to 3 old mid → PointPut x y z to 4 old (set mid (to + 3) w)
four_put x y z w to old mid p = record {
  same = length-set mid (to + 3) w ∙ p.same;
  first = other mid (to + 3) w to (λ e. omega arith) ∙ p.first;
  second = other mid (to + 3) w (to + 1) (λ e. omega arith) ∙ p.second;
  third = other mid (to + 3) w (to + 2) (λ e. omega arith) ∙ p.third;
  before = λ i l. other mid (to + 3) w i (λ e. omega arith) ∙ p.before i l;
  after = λ i l. other mid (to + 3) w i (λ e. omega arith) ∙ p.after i (omega arith);
}

-- ---- a run
pub copied_none : (lanes : List ℤ) (at first : ℕ) (old : List ℤ) → PointsCopied lanes at first first old old
copied_none lanes at first old = record { same = refl; points_are = λ p a l m. absurd (omega arith); before = λ i l. refl; after = λ i l. refl }

-- one point more
pub copied_more : (lanes : List ℤ) (at first n width to : ℕ) (old mid new : List ℤ) (x y z : ℤ) → to ≡ at + 3 * n → first ≤ n → 3 * n + width ≤ per_corner
    → PointsCopied lanes at first n old mid → x ≡ get_or lanes (4 * n) (pos 0) → y ≡ get_or lanes (4 * n + 1) (pos 0) → z ≡ get_or lanes (4 * n + 2) (pos 0)
    → PointPut x y z to width mid new → PointsCopied lanes at first (n + 1) old new
copied_more lanes at first n width to old mid new x y z t f room c ex ey ez p = record {
  same = p.same ∙ c.same;
  points_are = λ q a l m k. which q a l m k (ltb q n) (λ u. ltb→lt q n u) (λ u. nltb→le q n u);
  before = λ i l. p.before i (omega arith) ∙ c.before i l;
  after = λ i l. p.after i (omega arith) ∙ c.after i l;
}
  where
    point : (a : ℕ) → a < 3 → get_or new (at + 3 * n + a) (pos 0) ≡ get_or lanes (a + 4 * n) (pos 0)
    point zero k = ap (λ (i : ℕ). get_or new i (pos 0)) (omega arith) ∙ p.first ∙ ex ∙ ap (λ (i : ℕ). get_or lanes i (pos 0)) (omega arith)
    point (suc zero) k = ap (λ (i : ℕ). get_or new i (pos 0)) (omega arith) ∙ p.second ∙ ey ∙ ap (λ (i : ℕ). get_or lanes i (pos 0)) (omega arith)
    point (suc (suc zero)) k = ap (λ (i : ℕ). get_or new i (pos 0)) (omega arith) ∙ p.third ∙ ez ∙ ap (λ (i : ℕ). get_or lanes i (pos 0)) (omega arith)
    point (suc (suc (suc a))) k = absurd (omega arith)

    which : (q a : ℕ) → first ≤ q → q < n + 1 → a < 3 → (b : Bool) → (T b → q < n) → (T (not b) → n ≤ q)
        → get_or new (at + 3 * q + a) (pos 0) ≡ get_or lanes (a + 4 * q) (pos 0)
    which q a l m k true g h = let i = g tt in p.before (at + 3 * q + a) (omega arith) ∙ c.points_are q a l i k
    which q a l m k false g h = let i = h tt in let e : q ≡ n = omega arith in rw e (point a k)

-- one run after another
pub copied_join : (lanes : List ℤ) (at first n end : ℕ) (old mid new : List ℤ) → PointsCopied lanes at first n old mid → PointsCopied lanes at n end mid new
    → first ≤ n → PointsCopied lanes at first end old new
copied_join lanes at first n end old mid new c d l = record {
  same = d.same ∙ c.same;
  points_are = λ q a k m i. which q a k m i (ltb q n) (λ u. ltb→lt q n u) (λ u. nltb→le q n u);
  before = λ i k. d.before i (omega arith) ∙ c.before i k;
  after = λ i k. d.after i k ∙ c.after i k;
}
  where
    which : (q a : ℕ) → first ≤ q → q < end → a < 3 → (b : Bool) → (T b → q < n) → (T (not b) → n ≤ q)
        → get_or new (at + 3 * q + a) (pos 0) ≡ get_or lanes (a + 4 * q) (pos 0)
    which q a k m i true g h = let j = g tt in d.before (at + 3 * q + a) (omega arith) ∙ c.points_are q a k j i
    which q a k m i false g h = d.points_are q a (h tt) m i
