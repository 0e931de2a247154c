-- How the loops fill the four planes: none, one number more, all.
use mathlib.Core.Path.{◌≡◌, sym, ◌∙◌}
use mathlib.Core.List.{List}
use Prim.Native.Nat.{ℕ, ◌+◌, ◌*◌, ◌/◌, ◌%◌, ◌<◌}
use native.Mathlib.Omega.{arith}
use lib.ListN.{length, set}
use lib.IntN.{ℤ}
use Rattle.paper.specs.Archive.{archived}
use Rattle.rearrange.proofs.laws.Planes.{first_plane, second_plane, third_plane, last_plane, archived_length, same_planes}
use Rattle.planes.specs.differences.Deltas.{delta_at}
use Rattle.planes.specs.Planes.{Planed, four_set, spread}
use Rattle.planes.proofs.BytesPut.{run_one, lowest_byte}
use Rattle.planes.proofs.Planes.{Bytes, planed_runs, byte_here}

module _ (numbers : List ℤ) where
  abbrev m : ℕ
  m = length numbers

  pub planed_none : (bytes : List ℕ) → length bytes ≡ 4 * m → Planed numbers 0 bytes
  planed_none bytes e = record {
    long = e;
    lowest = λ j h. absurd (omega arith);
    second = λ j h. absurd (omega arith);
    third = λ j h. absurd (omega arith);
    highest = λ j h. absurd (omega arith);
  }

  pub planed_all : (i : ℕ) (bytes : List ℕ) → i ≡ m → Planed numbers i bytes → bytes ≡ archived numbers
  planed_all i bytes q p =
      same_planes m bytes (archived numbers) p.long (archived_length numbers)
      (λ j h. p.lowest j (omega arith) ∙ sym (first_plane numbers j h))
      (λ j h. p.second j (omega arith) ∙ sym (second_plane numbers j h))
      (λ j h. p.third j (omega arith) ∙ sym (third_plane numbers j h))
      (λ j h. p.highest j (omega arith) ∙ sym (last_plane numbers j h))

  one : (i d : ℕ) (bytes : List ℕ) → i < m → d ≡ delta_at numbers i → Planed numbers i bytes → Planed numbers (i + 1) (spread bytes m i d)
  unfolding four_set
  one i d bytes h e p =
      let b1 = set bytes i (d % 256) in
      let b2 = set b1 (m + i) (d / 256 % 256) in
      let b3 = set b2 (2 * m + i) (d / 65536 % 256) in
      let out = set b3 (3 * m + i) (d / 16777216 % 256) in
      let r0 = run_one (Bytes numbers 0 i) i bytes (d % 256) (omega (arith, p.long)) (lowest_byte d ∙ byte_here numbers 0 i d e) in
      let r1 = run_one (Bytes numbers 1 i) (m + i) b1 (d / 256 % 256) (omega (arith, p.long, r0.long)) (byte_here numbers 1 i d e) in
      let r2 = run_one (Bytes numbers 2 i) (2 * m + i) b2 (d / 65536 % 256) (omega (arith, p.long, r0.long, r1.long)) (byte_here numbers 2 i d e) in
      let r3 = run_one (Bytes numbers 3 i) (3 * m + i) b3 (d / 16777216 % 256) (omega (arith, p.long, r0.long, r1.long, r2.long))
      (byte_here numbers 3 i d e) in
      planed_runs numbers i 1 (omega arith) bytes b1 b2 b3 out p r0 r1 r2 r3

  pub planed_one : (n i d : ℕ) (bytes out : List ℕ) → n ≡ m → i < m → d ≡ delta_at numbers i → Planed numbers i bytes → out ≡ spread bytes n i d
      → Planed numbers (i + 1) out
  planed_one n i d bytes out q h e p s = rw (s, q) (one i d bytes h e p)
