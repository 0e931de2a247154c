-- Restoring: the sums of a vertex are those of the vertex before and its differences; and how the loop fills the numbers.
use mathlib.Core.Path.{◌≡◌, refl, sym, ap, ◌∙◌}
use mathlib.Core.List.{List}
use Prim.Native.Nat.{ℕ, zero, suc, ◌+◌, ◌*◌, ◌%◌, ◌^◌, ◌<◌}
use native.Mathlib.Nat.{mod-eq_of_lt}
use native.Mathlib.Numerals.{add-one}
use native.Mathlib.Omega.{arith}
use lib.ListN.{length, length-set}
use lib.IntN.{ℤ, pos}
use mir.Syntax.{w32}
use mir.Val.{to_z}
use Rattle.mesh.proofs.Fills.{Filled, filled_step, filled_whole}
use Rattle.paper.specs.Archive.{stored_at, sum_at, restored_at, restored}
use Rattle.planes.specs.differences.Deltas.{OneRestored}
use Rattle.rearrange.specs.restoring.Sums.{sum_before}
use Rattle.planes.proofs.differences.Positions.{third, rest}

module _ (bytes : List ℕ) (n : ℕ) where
  pub before_first : (a : ℕ) → sum_before bytes n 0 a ≡ 0
  unfolding sum_before
  before_first a = refl

  before_next : (v a : ℕ) → sum_before bytes n (v + 1) a ≡ sum_at bytes n v a
  unfolding sum_before
  before_next v a = rw add-one

  -- the first vertex starts from 0
  sum_step : (v a : ℕ) → stored_at bytes n (3 * v + a) < 2 ^ 32 → (sum_before bytes n v a + stored_at bytes n (3 * v + a)) % 2 ^ 32 ≡ sum_at bytes n v a
  unfolding sum_before sum_at
  sum_step zero a h =
      let e : stored_at bytes n (3 * 0 + a) ≡ stored_at bytes n a = ap (stored_at bytes n) (let q : 3 * 0 + a ≡ a = omega arith in q) in
      ap (λ (k : ℕ). k % 2 ^ 32) (let q : 0 + stored_at bytes n (3 * 0 + a) ≡ stored_at bytes n a = omega arith in q) ∙ mod-eq_of_lt (omega (arith, e))
  sum_step (suc v) a h = refl

  -- one turn, at the position i of axis a of vertex v
  module _ (v a i : ℕ) (h : a < 3) (q : i ≡ 3 * v + a) where
    number_is : to_z w32 (sum_at bytes n v a) ≡ restored_at bytes n i
    number_is = rw (q, third v a h, rest v a h)

    module _ (l out : List ℤ) (sum r : ℕ) (e : sum ≡ sum_before bytes n v a) (t : OneRestored bytes n l i sum r out) where
      one_sum : r ≡ sum_at bytes n v a
      one_sum =
          t.sums ∙ ap (λ (k : ℕ). (k + stored_at bytes n i) % 2 ^ 32) e ∙ ap (λ (k : ℕ). (sum_before bytes n v a + stored_at bytes n k) % 2 ^ 32) q
          ∙ sum_step v a (rw q at t.small)

      one_next : r ≡ sum_before bytes n (v + 1) a
      one_next = one_sum ∙ sym (before_next v a)

      one_fills : (old : List ℤ) (j : ℕ) → i < length old → i + 1 ≡ j → Filled (restored_at bytes n) old i l → Filled (restored_at bytes n) old j out
      one_fills old j at k f =
          rw (t.holds, ← k) (filled_step (restored_at bytes n) old i l (to_z w32 r) (pos 0) at f (ap (to_z w32) one_sum ∙ number_is))

  -- the three numbers of vertex v
  module _ (v : ℕ) (old l o1 o2 out : List ℤ) (x y z r1 r2 r3 : ℕ) (x-is : x ≡ sum_before bytes n v 0) (y-is : y ≡ sum_before bytes n v 1)
      (z-is : z ≡ sum_before bytes n v 2) (t1 : OneRestored bytes n l (3 * v) x r1 o1) (t2 : OneRestored bytes n o1 (3 * v + 1) y r2 o2)
      (t3 : OneRestored bytes n o2 (3 * v + 2) z r3 out) where
    pub vertex_next : (r1 ≡ sum_before bytes n (v + 1) 0) × (r2 ≡ sum_before bytes n (v + 1) 1) × (r3 ≡ sum_before bytes n (v + 1) 2)
    vertex_next = (
      one_next v 0 (3 * v) (omega arith) (omega arith) l o1 x r1 x-is t1,
      one_next v 1 (3 * v + 1) (omega arith) refl o1 o2 y r2 y-is t2,
      one_next v 2 (3 * v + 2) (omega arith) refl o2 out z r3 z-is t3,
    )

    pub vertex_fills : 3 * v + 2 < length old → Filled (restored_at bytes n) old (3 * v) l → Filled (restored_at bytes n) old (3 * (v + 1)) out
    vertex_fills h f =
        one_fills v 2 (3 * v + 2) (omega arith) refl o2 out z r3 z-is t3 old (3 * (v + 1)) h (omega arith)
        (one_fills v 1 (3 * v + 1) (omega arith) refl o1 o2 y r2 y-is t2 old (3 * v + 2) (omega arith) (omega arith)
        (one_fills v 0 (3 * v) (omega arith) (omega arith) l o1 x r1 x-is t1 old (3 * v + 1) (omega arith) refl f))

-- a list keeps its length
pub one_length : (bytes : List ℕ) (n : ℕ) (l out : List ℤ) (i sum r m : ℕ) → OneRestored bytes n l i sum r out → length l ≡ m → length out ≡ m
one_length bytes n l out i sum r m t e = ap length t.holds ∙ length-set l i (to_z w32 r) ∙ e

-- all numbers of it
pub restored_all : (bytes : List ℕ) (old out : List ℤ) (i : ℕ) → i ≡ length old → Filled (restored_at bytes (length old)) old i out
    → out ≡ restored bytes (length old)
unfolding restored
restored_all bytes old out i q e = filled_whole (restored_at bytes (length old)) old out i q e
