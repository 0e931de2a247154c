-- L11's theorems, of two calls: every list of 32-bit numbers whose length is a multiple of three comes back, and so does every list of
-- bytes of such a length. The four bytes of a difference make it up again, and the differences up to a vertex add up to its bits.
use mathlib.Core.Path.{◌≡◌, refl, sym, ap, ◌∙◌}
use mathlib.Core.List.{List}
use Prim.Native.Nat.{ℕ, zero, suc, ◌+◌, ◌-◌, ◌*◌, ◌/◌, ◌%◌, ◌^◌, ◌<◌}
use native.Mathlib.Nat.{mod-lt, div-add-mod}
use native.Mathlib.Omega.{arith}
use lib.ListN.{length, get_or}
use lib.Seq.{ext_get_or}
use lib.IntN.{ℤ, pos}
use mir.Syntax.{w32}
use mir.Val.{of_z, to_z}
use mir.ValLaws.{to_z-of_z, of_z-to_z, of_z_fits}
use Rattle.paper.specs.Scan.{values_from}
use Rattle.std.specs.Prelude.{Ok, Err}
use Rattle.paper.specs.Faults.{Verdict, sound, stated, kept, Answer, done}
use Rattle.mesh.proofs.Links.{values_length, values_at}
use Rattle.mesh.proofs.Verdicts.{unsound}
use Rattle.paper.specs.Archive.{bits_at, delta, archived, stored_at, sum_at, restored_at, restored, archive_verdict, Archived, Restored, All32Bit, AllBytes}
use Rattle.paper.specs.Claims.{NumbersReturn, BytesReturn}
use Rattle.planes.proofs.differences.Positions.{third, rest}
use Rattle.rearrange.proofs.laws.Words.{four_bytes, byte0, byte1, byte2, byte3, added, taken_back}
use Rattle.rearrange.proofs.laws.Lengths.{passes, thirds, four_times}
use Rattle.rearrange.proofs.laws.Planes.{first_plane, second_plane, third_plane, last_plane, archived_length, same_planes}

-- ---- restoring what was archived
module _ (numbers : List ℤ) (all : All32Bit numbers) where
  abbrev n : ℕ
  n = length numbers

  bits_below : (v a : ℕ) → 3 * v + a < n → bits_at numbers v a < 2 ^ 32
  bits_below v a h = (of_z_fits w32 (get_or numbers (3 * v + a) (pos 0)) (all (3 * v + a) h)).fits

  delta_below : (v a : ℕ) → 3 * v + a < n → delta numbers v a < 2 ^ 32
  unfolding delta
  delta_below zero a h = bits_below 0 a h
  delta_below (suc v) a h = mod-lt _ {m = 2 ^ 32} (omega arith)

  stored_is : (v a : ℕ) → a < 3 → 3 * v + a < n → stored_at (archived numbers) n (3 * v + a) ≡ delta numbers v a
  stored_is v a t h =
      let i = 3 * v + a in
      let d : delta numbers (i / 3) (i % 3) ≡ delta numbers v a = rw (third v a t, rest v a t) in
      rw (first_plane numbers i h, second_plane numbers i h, third_plane numbers i h, last_plane numbers i h, d)
      (four_bytes (delta numbers v a) (delta_below v a h))

  sum_is : (v a : ℕ) → a < 3 → 3 * v + a < n → sum_at (archived numbers) n v a ≡ bits_at numbers v a
  unfolding sum_at delta
  sum_is zero a t h = ap (stored_at (archived numbers) n) (let q : a ≡ 3 * 0 + a = omega arith in q) ∙ stored_is 0 a t h
  sum_is (suc v) a t h =
      ap (λ (x : ℕ). (x + stored_at (archived numbers) n (3 * suc v + a)) % 2 ^ 32) (sum_is v a t (omega arith))
      ∙ ap (λ (x : ℕ). (bits_at numbers v a + x) % 2 ^ 32) (stored_is (suc v) a t h)
      ∙ added (bits_at numbers v a) (bits_at numbers (suc v) a) (bits_below v a (omega arith)) (bits_below (suc v) a h)

  number_is : (i : ℕ) → i < n → restored_at (archived numbers) n i ≡ get_or numbers i (pos 0)
  number_is i h =
      let q : 3 * (i / 3) + i % 3 ≡ i = div-add-mod i 3 in
      let l : 3 * (i / 3) + i % 3 < n = omega arith in
      ap (to_z w32) (sum_is (i / 3) (i % 3) (mod-lt i {m = 3} (omega arith)) l)
      ∙ to_z-of_z w32 (get_or numbers (3 * (i / 3) + i % 3) (pos 0)) (all (3 * (i / 3) + i % 3) l)
      ∙ ap (λ (j : ℕ). get_or numbers j (pos 0)) q

  numbers_back : restored (archived numbers) n ≡ numbers
  unfolding restored
  numbers_back =
      ext_get_or (pos 0) (values_from (restored_at (archived numbers) n) 0 n) numbers (values_length (restored_at (archived numbers) n) 0 n)
      (λ i h. let l : i < n = omega (arith, values_length (restored_at (archived numbers) n) 0 n) in
      values_at (restored_at (archived numbers) n) (pos 0) 0 n i l
      ∙ ap (restored_at (archived numbers) n) (let q : 0 + i ≡ i = omega arith in q) ∙ number_is i l)

-- ---- archiving what was restored
restored_length : (bytes : List ℕ) (m : ℕ) → length (restored bytes m) ≡ m
unfolding restored
restored_length bytes m = values_length (restored_at bytes m) 0 m

module _ (bytes : List ℕ) (m : ℕ) (small : AllBytes bytes) (len : length bytes ≡ 4 * m) where
  abbrev made : List ℤ
  made = restored bytes m

  made_at : (i : ℕ) → i < m → get_or made i (pos 0) ≡ restored_at bytes m i
  unfolding restored
  made_at i h = values_at (restored_at bytes m) (pos 0) 0 m i h ∙ ap (restored_at bytes m) (let q : 0 + i ≡ i = omega arith in q)

  byte_below : (j : ℕ) → j < 4 * m → get_or bytes j 0 < 256
  byte_below j h = small j (omega (arith, len))

  stored_below : (i : ℕ) → i < m → stored_at bytes m i < 2 ^ 32
  stored_below i h =
      omega (
        arith,
        byte_below i (omega arith),
        byte_below (m + i) (omega arith),
        byte_below (2 * m + i) (omega arith),
        byte_below (3 * m + i) (omega arith),
      )

  sum_below : (v a : ℕ) → 3 * v + a < m → sum_at bytes m v a < 2 ^ 32
  unfolding sum_at
  sum_below zero a h = stored_below a (omega arith)
  sum_below (suc v) a h = mod-lt _ {m = 2 ^ 32} (omega arith)

  bits_is : (v a : ℕ) → a < 3 → 3 * v + a < m → bits_at made v a ≡ sum_at bytes m v a
  bits_is v a t h =
      ap (of_z w32) (made_at (3 * v + a) h)
      ∙ ap (λ (x : ℕ). of_z w32 (to_z w32 (sum_at bytes m x ((3 * v + a) % 3)))) (third v a t)
      ∙ ap (λ (x : ℕ). of_z w32 (to_z w32 (sum_at bytes m v x))) (rest v a t)
      ∙ of_z-to_z w32 (sum_at bytes m v a) (record { fits = sum_below v a h })

  delta_is : (v a : ℕ) → a < 3 → 3 * v + a < m → delta made v a ≡ stored_at bytes m (3 * v + a)
  unfolding delta sum_at
  delta_is zero a t h = bits_is 0 a t h ∙ ap (stored_at bytes m) (let q : a ≡ 3 * 0 + a = omega arith in q)
  delta_is (suc v) a t h =
      ap (λ (x : ℕ). (x + (2 ^ 32 - bits_at made v a)) % 2 ^ 32) (bits_is (suc v) a t h)
      ∙ ap (λ (x : ℕ). (sum_at bytes m (suc v) a + (2 ^ 32 - x)) % 2 ^ 32) (bits_is v a t (omega arith))
      ∙ taken_back (sum_at bytes m v a) (stored_at bytes m (3 * suc v + a)) (sum_below v a (omega arith)) (stored_below (3 * suc v + a) h)

  delta_at_lem : (i : ℕ) → i < m → delta made (i / 3) (i % 3) ≡ stored_at bytes m i
  delta_at_lem i h =
      let q : 3 * (i / 3) + i % 3 ≡ i = div-add-mod i 3 in
      delta_is (i / 3) (i % 3) (mod-lt i {m = 3} (omega arith)) (omega arith) ∙ ap (stored_at bytes m) q

  module _ (i : ℕ) (h : i < m) where
    here : i < length made
    here = omega (arith, restored_length bytes m)

    h0 : get_or bytes i 0 < 256
    h0 = byte_below i (omega arith)

    h1 : get_or bytes (m + i) 0 < 256
    h1 = byte_below (m + i) (omega arith)

    h2 : get_or bytes (2 * m + i) 0 < 256
    h2 = byte_below (2 * m + i) (omega arith)

    h3 : get_or bytes (3 * m + i) 0 < 256
    h3 = byte_below (3 * m + i) (omega arith)

    plane0 : get_or (archived made) i 0 ≡ get_or bytes i 0
    plane0 = first_plane made i here ∙ ap (λ (x : ℕ). x / 256 ^ 0 % 256) (delta_at_lem i h) ∙ byte0 _ _ _ _ h0 h1 h2 h3

    plane1 : get_or (archived made) (m + i) 0 ≡ get_or bytes (m + i) 0
    plane1 =
        ap (λ (x : ℕ). get_or (archived made) (x + i) 0) (sym (restored_length bytes m))
        ∙ second_plane made i here ∙ ap (λ (x : ℕ). x / 256 ^ 1 % 256) (delta_at_lem i h) ∙ byte1 _ _ _ _ h0 h1 h2 h3

    plane2 : get_or (archived made) (2 * m + i) 0 ≡ get_or bytes (2 * m + i) 0
    plane2 =
        ap (λ (x : ℕ). get_or (archived made) (2 * x + i) 0) (sym (restored_length bytes m))
        ∙ third_plane made i here ∙ ap (λ (x : ℕ). x / 256 ^ 2 % 256) (delta_at_lem i h) ∙ byte2 _ _ _ _ h0 h1 h2 h3

    plane3 : get_or (archived made) (3 * m + i) 0 ≡ get_or bytes (3 * m + i) 0
    plane3 =
        ap (λ (x : ℕ). get_or (archived made) (3 * x + i) 0) (sym (restored_length bytes m))
        ∙ last_plane made i here ∙ ap (λ (x : ℕ). x / 256 ^ 3 % 256) (delta_at_lem i h) ∙ byte3 _ _ _ _ h0 h1 h2 h3

  bytes_back : archived made ≡ bytes
  bytes_back = same_planes m (archived made) bytes (archived_length made ∙ ap (λ (x : ℕ). 4 * x) (restored_length bytes m)) len plane0 plane1 plane2 plane3

-- ---- two calls
done_of : (r : Answer) → stated r ≡ sound → r ≡ done
done_of (Ok tt) e = refl
done_of (Err x) e = unsound x.number x.place e

archive_passes : (numbers : List ℤ) (old bytes : List ℕ) (a : Answer) → length numbers % 3 ≡ 0 → length old ≡ 4 * length numbers → Archived numbers old a bytes
    → (a ≡ done) × (bytes ≡ archived numbers)
archive_passes numbers old bytes a t l c =
    let s : stated a ≡ sound = c.answers ∙ passes (length numbers) (length old) t l in
    (done_of a s, c.holds ∙ ap (λ (x : Verdict). kept x (archived numbers) old) s)

restore_passes : (bytes : List ℕ) (lent back : List ℤ) (r : Answer) → length lent % 3 ≡ 0 → length bytes ≡ 4 * length lent → Restored bytes lent r back
    → (r ≡ done) × (back ≡ restored bytes (length lent))
restore_passes bytes lent back r t l c =
    let s : stated r ≡ sound = c.answers ∙ passes (length lent) (length bytes) t l in
    (done_of r s, c.holds ∙ ap (λ (x : Verdict). kept x (restored bytes (length lent)) lent) s)

-- a list that is restored is a quarter as long as the bytes
pub restored_fits : (bytes : List ℕ) (lent out : List ℤ) (r : Answer) → Restored bytes lent r out → r ≡ done → length bytes ≡ 4 * length out
restored_fits bytes lent out r c e =
    let v : archive_verdict (length lent) (length bytes) ≡ sound = sym c.answers ∙ ap stated e in
    let q = restore_passes bytes lent out r (thirds _ _ v) (four_times _ _ v) c in
    let l : length out ≡ length lent = ap length q.1 ∙ restored_length bytes (length lent) in
    four_times (length lent) (length bytes) v ∙ ap (λ (x : ℕ). 4 * x) (sym l)

pub numbers_return : NumbersReturn
numbers_return numbers lent back old bytes a r all t lo ll c d =
    let p = archive_passes numbers old bytes a t lo c in
    let m : length bytes ≡ 4 * length lent = ap length p.1 ∙ archived_length numbers ∙ ap (λ (x : ℕ). 4 * x) (sym ll) in
    let q = restore_passes bytes lent back r (ap (λ (x : ℕ). x % 3) ll ∙ t) m d in
    (p.0, q.0, q.1 ∙ ap (restored bytes) ll ∙ ap (λ (x : List ℕ). restored x (length numbers)) p.1 ∙ numbers_back numbers all)

pub bytes_return : BytesReturn
bytes_return bytes old back lent numbers a r small t lb lo d c =
    let q = restore_passes bytes lent numbers r t lb d in
    let m : length numbers ≡ length lent = ap length q.1 ∙ restored_length bytes (length lent) in
    let k : length old ≡ 4 * length numbers = omega (arith, m) in
    let p = archive_passes numbers old back a (ap (λ (x : ℕ). x % 3) m ∙ t) k c in
    (q.0, p.0, p.1 ∙ ap archived q.1 ∙ bytes_back bytes (length lent) small lb)
