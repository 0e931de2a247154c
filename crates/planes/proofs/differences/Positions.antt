-- A position of a coordinate list as vertex and axis.
use Rattle.std.proofs.Common.{◌≡◌, ℕ, ◌+◌, ◌*◌, ◌/◌, ◌%◌, ◌<◌, arith}
use native.Mathlib.Nat.{div-add-mod, div-eq_of_lt-le}

pub third : (v a : ℕ) → a < 3 → (3 * v + a) / 3 ≡ v
third v a h = div-eq_of_lt-le 3 (omega arith) (omega arith)

pub rest : (v a : ℕ) → a < 3 → (3 * v + a) % 3 ≡ a
rest v a h = omega (arith, div-add-mod (3 * v + a) 3, third v a h)
