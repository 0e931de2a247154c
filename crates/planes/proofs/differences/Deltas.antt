-- The difference at a position, from the numbers as they are read.
use Rattle.std.proofs.Common.{◌≡◌, ℕ, suc, ◌+◌, ◌-◌, ◌*◌, ◌/◌, ◌%◌, ◌^◌, ◌<◌, ◌≤◌, List, get_or, ℤ, pos, sym, ap, ◌∙◌, mod-lt, arith, w32, SFits, to_z, of_z}
use native.Mathlib.Nat.{div-add-mod}
use mir.ValLaws.{to_z-of_z}
use Rattle.paper.specs.Archive.{bits_at, delta}
use Rattle.planes.proofs.differences.Positions.{third, rest}
use Rattle.planes.specs.differences.Deltas.{delta_at}

module _ (numbers : List ℤ) where
  number_at_lem : (v a i : ℕ) → 3 * v + a ≡ i → bits_at numbers v a ≡ of_z w32 (get_or numbers i (pos 0))
  number_at_lem v a i e = ap (λ (j : ℕ). of_z w32 (get_or numbers j (pos 0))) e

  -- a number as it is read from the list
  pub read_bits : (i : ℕ) → SFits w32 (get_or numbers i (pos 0)) → of_z w32 (to_z w32 (of_z w32 (get_or numbers i (pos 0)))) ≡ of_z w32 (get_or numbers i (pos 0))
  read_bits i h = ap (of_z w32) (to_z-of_z w32 (get_or numbers i (pos 0)) h)

  -- a number of the first vertex is kept
  pub delta_first : (i : ℕ) → i < 3 → delta_at numbers i ≡ of_z w32 (get_or numbers i (pos 0))
  unfolding delta
  delta_first i h =
      let q : i / 3 ≡ 0 = ap (λ (j : ℕ). j / 3) (let e : i ≡ 3 * 0 + i = omega arith in e) ∙ third 0 i h in
      let r : i % 3 ≡ i = ap (λ (j : ℕ). j % 3) (let e : i ≡ 3 * 0 + i = omega arith in e) ∙ rest 0 i h in
      rw (q, r) (number_at_lem 0 i i (omega arith))

  -- a later one is taken less the number three places before
  pub delta_later : (i : ℕ) → 3 ≤ i → delta_at numbers i ≡ (of_z w32 (get_or numbers i (pos 0)) + (2 ^ 32 - of_z w32 (get_or numbers (i - 3) (pos 0)))) % 2 ^ 32
  unfolding delta
  delta_later i h =
      let v = (i - 3) / 3 in
      let a = (i - 3) % 3 in
      let t : a < 3 = mod-lt (i - 3) {m = 3} (omega arith) in
      let e : 3 * v + a ≡ i - 3 = div-add-mod (i - 3) 3 in
      let f : 3 * suc v + a ≡ i = omega arith in
      let q : i / 3 ≡ suc v = ap (λ (j : ℕ). j / 3) (sym f) ∙ third (suc v) a t in
      let r : i % 3 ≡ a = ap (λ (j : ℕ). j % 3) (sym f) ∙ rest (suc v) a t in
      rw (q, r, number_at_lem (suc v) a i f, number_at_lem v a (i - 3) e)

  pub delta_of : (i : ℕ) {x y : ℕ} → x ≡ of_z w32 (get_or numbers i (pos 0)) → y ≡ of_z w32 (get_or numbers (i - 3) (pos 0))
      → (x + (2 ^ 32 - y)) % 2 ^ 32 ≡ (of_z w32 (get_or numbers i (pos 0)) + (2 ^ 32 - of_z w32 (get_or numbers (i - 3) (pos 0)))) % 2 ^ 32
  delta_of i e f = rw (e, f)
