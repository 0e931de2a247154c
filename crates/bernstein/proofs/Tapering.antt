-- The coefficients of the derivatives taper as those of the polynomial do.
use Prim.Native.Nat.{ℕ, ◌*◌, ◌^◌, ◌≤◌}
use native.Mathlib.Omega.{arith}
use lib.Dec.{lit≤}
use lib.IntN.{pos}
use Rattle.numbers.proofs.Laws.{abs_mul_le}
use Rattle.bernstein.specs.declared.Vector5.{Vector5}
use Rattle.bernstein.specs.declared.Matrix5.{Matrix5}
use Rattle.bernstein.specs.Sums.{Tapered, AllTapered, AllSized}
use Rattle.bernstein.specs.Tangents.{times_of, along_of, slope_of, inward_of}
use Rattle.bernstein.proofs.Laws.{tapered_size}

pub widened : (f : Vector5) (A B : ℕ) → A ≤ B → Tapered A f → Tapered B f
widened f A B l h = (omega (arith, h.0), omega (arith, h.1), omega (arith, h.2), omega (arith, h.3), omega (arith, h.4))

times_tapers : (f : Vector5) (z A B : ℕ) → z ≤ 4 → 4 * A ≤ B → Tapered A f → Tapered B (times_of (pos z) f)
unfolding times_of
times_tapers f z A B l m h =
    let a = abs_mul_le (pos z) f.a 4 (65536 * A) l h.0 in
    let b = abs_mul_le (pos z) f.b 4 (4096 * A) l h.1 in
    let c = abs_mul_le (pos z) f.c 4 (256 * A) l h.2 in
    let d = abs_mul_le (pos z) f.d 4 (16 * A) l h.3 in
    let e = abs_mul_le (pos z) f.e 4 A l h.4 in
    (omega (arith, a), omega (arith, b), omega (arith, c), omega (arith, d), omega (arith, e))

slope_tapers : (f : Vector5) (A B : ℕ) → A ≤ 4 * B → Tapered A f → Tapered B (slope_of f)
unfolding slope_of
slope_tapers f A B m h =
    let c = abs_mul_le (pos 2) f.c 2 (256 * A) (lit≤ tt) h.2 in
    let d = abs_mul_le (pos 3) f.d 3 (16 * A) (lit≤ tt) h.3 in
    let e = abs_mul_le (pos 4) f.e 4 A (lit≤ tt) h.4 in
    (omega (arith, h.1), omega (arith, c), omega (arith, d), omega (arith, e), omega arith)

-- within half of the bounds, so that the difference of two is within them
abbrev pub HalfTapered : Matrix5 → Type 0
HalfTapered c = Tapered (2 ^ 33) c.r0 × Tapered (2 ^ 29) c.r1 × Tapered (2 ^ 25) c.r2 × Tapered (2 ^ 21) c.r3 × Tapered (2 ^ 17) c.r4

pub along_halves : (c : Matrix5) → AllTapered c → HalfTapered (along_of c)
unfolding along_of
along_halves c t = (
  widened c.r1 (2 ^ 30) (2 ^ 33) (lit≤ tt) t.t1,
  times_tapers c.r2 2 (2 ^ 26) (2 ^ 29) (lit≤ tt) (lit≤ tt) t.t2,
  times_tapers c.r3 3 (2 ^ 22) (2 ^ 25) (lit≤ tt) (lit≤ tt) t.t3,
  times_tapers c.r4 4 (2 ^ 18) (2 ^ 21) (lit≤ tt) (lit≤ tt) t.t4,
  (lit≤ tt, lit≤ tt, lit≤ tt, lit≤ tt, lit≤ tt),
)

pub inward_halves : (c : Matrix5) → AllTapered c → HalfTapered (inward_of c)
unfolding inward_of
inward_halves c t = (
  slope_tapers c.r0 (2 ^ 34) (2 ^ 33) (lit≤ tt) t.t0,
  slope_tapers c.r1 (2 ^ 30) (2 ^ 29) (lit≤ tt) t.t1,
  slope_tapers c.r2 (2 ^ 26) (2 ^ 25) (lit≤ tt) t.t2,
  slope_tapers c.r3 (2 ^ 22) (2 ^ 21) (lit≤ tt) t.t3,
  slope_tapers c.r4 (2 ^ 18) (2 ^ 17) (lit≤ tt) t.t4,
)

halves_taper : (c : Matrix5) → HalfTapered c → AllTapered c
halves_taper c h = record {
  t0 = widened c.r0 (2 ^ 33) (2 ^ 34) (lit≤ tt) h.0;
  t1 = widened c.r1 (2 ^ 29) (2 ^ 30) (lit≤ tt) h.1;
  t2 = widened c.r2 (2 ^ 25) (2 ^ 26) (lit≤ tt) h.2;
  t3 = widened c.r3 (2 ^ 21) (2 ^ 22) (lit≤ tt) h.3;
  t4 = widened c.r4 (2 ^ 17) (2 ^ 18) (lit≤ tt) h.4;
}

pub along_tapers : (c : Matrix5) → AllTapered c → AllTapered (along_of c)
along_tapers c t = halves_taper (along_of c) (along_halves c t)

pub inward_tapers : (c : Matrix5) → AllTapered c → AllTapered (inward_of c)
inward_tapers c t = halves_taper (inward_of c) (inward_halves c t)

pub tapered_sized : (c : Matrix5) → AllTapered c → AllSized (2 ^ 54) c
tapered_sized c t = (
  tapered_size c.r0 (2 ^ 34) t.t0 (lit≤ tt),
  tapered_size c.r1 (2 ^ 30) t.t1 (lit≤ tt),
  tapered_size c.r2 (2 ^ 26) t.t2 (lit≤ tt),
  tapered_size c.r3 (2 ^ 22) t.t3 (lit≤ tt),
  tapered_size c.r4 (2 ^ 18) t.t4 (lit≤ tt),
)
