-- Four bytes and the number that they make.
use mathlib.Core.Path.{◌≡◌, ap, ◌∙◌}
use Prim.Native.Nat.{ℕ, ◌+◌, ◌-◌, ◌*◌, ◌/◌, ◌%◌, ◌^◌, ◌<◌}
use native.Mathlib.Nat.{mod-eq_of_lt, add-mod-mod, mod-add-mod, add-mod_right, add-mul-mod_self_left, div-add-mod, div-div-eq-div-mul, div-eq_of_lt-le, div-one}
use native.Mathlib.Omega.{arith}

-- ---- a number below 2^32 is made up of its four bytes
pub four_bytes : (d : ℕ) → d < 2 ^ 32 → d / 256 ^ 0 % 256 + 256 * (d / 256 ^ 1 % 256) + 256 ^ 2 * (d / 256 ^ 2 % 256) + 256 ^ 3 * (d / 256 ^ 3 % 256) ≡ d
four_bytes d h =
    let a : d / 256 ^ 0 ≡ d = div-one d in
    let b = div-add-mod d 256 in
    let c = div-add-mod (d / 256) 256 in
    let e = div-add-mod (d / 256 ^ 2) 256 in
    let g : d / 256 / 256 ≡ d / 256 ^ 2 = div-div-eq-div-mul d 256 256 in
    let i : d / 256 ^ 2 / 256 ≡ d / 256 ^ 3 = div-div-eq-div-mul d (256 ^ 2) 256 in
    let l : d / 256 ^ 3 < 256 = omega arith in
    omega (arith, ap (λ (x : ℕ). x % 256) a, mod-eq_of_lt l)

low_byte : (b r : ℕ) → b < 256 → (b + 256 * r) % 256 ≡ b
low_byte b r h = add-mul-mod_self_left b 256 r ∙ mod-eq_of_lt h

-- and the bytes of what four bytes make up are these
module _ (b0 b1 b2 b3 : ℕ) (h0 : b0 < 256) (h1 : b1 < 256) (h2 : b2 < 256) (h3 : b3 < 256) where
  abbrev whole : ℕ
  whole = b0 + 256 * b1 + 256 ^ 2 * b2 + 256 ^ 3 * b3

  pub byte0 : whole / 256 ^ 0 % 256 ≡ b0
  byte0 =
      let a : whole / 256 ^ 0 ≡ b0 + 256 * (b1 + 256 * b2 + 65536 * b3) = div-one whole ∙ omega arith in
      ap (λ (x : ℕ). x % 256) a ∙ low_byte b0 (b1 + 256 * b2 + 65536 * b3) h0

  pub byte1 : whole / 256 ^ 1 % 256 ≡ b1
  byte1 =
      let a : whole / 256 ^ 1 ≡ b1 + 256 * (b2 + 256 * b3) = div-eq_of_lt-le 256 (omega arith) (omega arith) in
      ap (λ (x : ℕ). x % 256) a ∙ low_byte b1 (b2 + 256 * b3) h1

  pub byte2 : whole / 256 ^ 2 % 256 ≡ b2
  byte2 =
      let a : whole / 256 ^ 2 ≡ b2 + 256 * b3 = div-eq_of_lt-le (256 ^ 2) (omega arith) (omega arith) in
      ap (λ (x : ℕ). x % 256) a ∙ low_byte b2 b3 h2

  pub byte3 : whole / 256 ^ 3 % 256 ≡ b3
  byte3 =
      let a : whole / 256 ^ 3 ≡ b3 = div-eq_of_lt-le (256 ^ 3) (omega arith) (omega arith) in
      ap (λ (x : ℕ). x % 256) a ∙ mod-eq_of_lt h3

-- ---- differences and sums modulo 2^32 undo each other
pub added : (b c : ℕ) → b < 2 ^ 32 → c < 2 ^ 32 → (b + (c + (2 ^ 32 - b)) % 2 ^ 32) % 2 ^ 32 ≡ c
added b c h k =
    add-mod-mod b (c + (2 ^ 32 - b)) (2 ^ 32)
    ∙ ap (λ (x : ℕ). x % 2 ^ 32) (let q : b + (c + (2 ^ 32 - b)) ≡ c + 2 ^ 32 = omega arith in q)
    ∙ add-mod_right c (2 ^ 32) ∙ mod-eq_of_lt k

pub taken_back : (s d : ℕ) → s < 2 ^ 32 → d < 2 ^ 32 → ((s + d) % 2 ^ 32 + (2 ^ 32 - s)) % 2 ^ 32 ≡ d
taken_back s d h k =
    mod-add-mod (s + d) (2 ^ 32) (2 ^ 32 - s)
    ∙ ap (λ (x : ℕ). x % 2 ^ 32) (let q : s + d + (2 ^ 32 - s) ≡ d + 2 ^ 32 = omega arith in q)
    ∙ add-mod_right d (2 ^ 32) ∙ mod-eq_of_lt k
