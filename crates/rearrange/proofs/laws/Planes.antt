-- The four planes: where each byte of `archived` stands.
use mathlib.Core.Path.{◌≡◌, sym, ap, ◌∙◌, subst}
use mathlib.Core.Logic.{⊎_elim}
use mathlib.Core.List.{List, ◌++◌}
use Prim.Native.Nat.{ℕ, ◌+◌, ◌-◌, ◌*◌, ◌<◌, ◌≤◌}
use native.Mathlib.Omega.{arith}
use lib.Dec.{ltb}
use borrow.Author.Tests.{ltb-true, ltb-false}
use lib.ListN.{length, get_or, length-append, get_or-append}
use lib.Seq.{get_or-append-add, ext_get_or}
use lib.IntN.{ℤ}
use Rattle.mesh.proofs.Scans.{ways}
use Rattle.mesh.proofs.Links.{values_length, values_at}
use Rattle.paper.specs.Archive.{byte_of, plane, archived}

module _ (numbers : List ℤ) where
  abbrev n : ℕ
  n = length numbers

  plane_length : (k : ℕ) → length (plane numbers k) ≡ n
  plane_length k = values_length (byte_of numbers k) 0 n

  plane_at : (k i : ℕ) → i < n → get_or (plane numbers k) i 0 ≡ byte_of numbers k i
  plane_at k i h = values_at (byte_of numbers k) 0 0 n i h ∙ ap (byte_of numbers k) (let q : 0 + i ≡ i = omega arith in q)

  in_first : (k : ℕ) (rest : List ℕ) (i : ℕ) → i < n → get_or (plane numbers k ++ rest) i 0 ≡ byte_of numbers k i
  in_first k rest i h = get_or-append (plane numbers k) rest 0 i (omega (arith, plane_length k)) ∙ plane_at k i h

  past_first : (k : ℕ) (rest : List ℕ) (i : ℕ) → get_or (plane numbers k ++ rest) (n + i) 0 ≡ get_or rest i 0
  past_first k rest i =
      subst (λ (m : ℕ). get_or (plane numbers k ++ rest) (m + i) 0 ≡ get_or rest i 0) (plane_length k) (get_or-append-add (plane numbers k) rest i 0)

  -- the four bytes at position i
  pub first_plane : (i : ℕ) → i < n → get_or (archived numbers) i 0 ≡ byte_of numbers 0 i
  unfolding archived
  first_plane i h = in_first 0 _ i h

  pub second_plane : (i : ℕ) → i < n → get_or (archived numbers) (n + i) 0 ≡ byte_of numbers 1 i
  unfolding archived
  second_plane i h = past_first 0 (plane numbers 1 ++ (plane numbers 2 ++ plane numbers 3)) i ∙ in_first 1 _ i h

  pub third_plane : (i : ℕ) → i < n → get_or (archived numbers) (2 * n + i) 0 ≡ byte_of numbers 2 i
  unfolding archived
  third_plane i h =
      ap (λ (j : ℕ). get_or (archived numbers) j 0) (let q : 2 * n + i ≡ n + (n + i) = omega arith in q)
      ∙ past_first 0 (plane numbers 1 ++ (plane numbers 2 ++ plane numbers 3)) (n + i)
      ∙ past_first 1 (plane numbers 2 ++ plane numbers 3) i ∙ in_first 2 _ i h

  pub last_plane : (i : ℕ) → i < n → get_or (archived numbers) (3 * n + i) 0 ≡ byte_of numbers 3 i
  unfolding archived
  last_plane i h =
      ap (λ (j : ℕ). get_or (archived numbers) j 0) (let q : 3 * n + i ≡ n + (n + (n + i)) = omega arith in q)
      ∙ past_first 0 (plane numbers 1 ++ (plane numbers 2 ++ plane numbers 3)) (n + (n + i))
      ∙ past_first 1 (plane numbers 2 ++ plane numbers 3) (n + i)
      ∙ past_first 2 (plane numbers 3) i ∙ plane_at 3 i h

  pub archived_length : length (archived numbers) ≡ 4 * n
  unfolding archived
  archived_length =
      omega (
        arith,
        length-append (plane numbers 0) (plane numbers 1 ++ (plane numbers 2 ++ plane numbers 3)),
        length-append (plane numbers 1) (plane numbers 2 ++ plane numbers 3),
        length-append (plane numbers 2) (plane numbers 3),
        plane_length 0,
        plane_length 1,
        plane_length 2,
        plane_length 3,
      )

-- two lists of four planes that agree plane by plane
module _ (m : ℕ) (xs ys : List ℕ) (k : length xs ≡ 4 * m) (l : length ys ≡ 4 * m) where
  abbrev Agree : ℕ → Type 0
  Agree s = (i : ℕ) → i < m → get_or xs (s + i) 0 ≡ get_or ys (s + i) 0

  from : (s j : ℕ) → Agree s → s ≤ j → j < s + m → get_or xs j 0 ≡ get_or ys j 0
  from s j p a b =
      let q : s + (j - s) ≡ j = omega arith in
      subst (λ (x : ℕ). get_or xs x 0 ≡ get_or ys x 0) q (p (j - s) (omega arith))

  pub same_planes : ((i : ℕ) → i < m → get_or xs i 0 ≡ get_or ys i 0) → Agree m → Agree (2 * m) → Agree (3 * m) → xs ≡ ys
  same_planes p0 p1 p2 p3 = ext_get_or 0 xs ys (k ∙ sym l) (λ j h. at_each j (omega (arith, k)))
    where
      at_each : (j : ℕ) → j < 4 * m → get_or xs j 0 ≡ get_or ys j 0
      at_each j h =
          ⊎_elim
          (λ e. p0 j (ltb-true j m e))
          (λ e. ⊎_elim
          (λ f. from m j p1 (ltb-false j m e) (omega (arith, ltb-true j (2 * m) f)))
          (λ f. ⊎_elim
          (λ g. from (2 * m) j p2 (ltb-false j (2 * m) f) (omega (arith, ltb-true j (3 * m) g)))
          (λ g. from (3 * m) j p3 (ltb-false j (3 * m) g) (omega arith))
          (ways (ltb j (3 * m))))
          (ways (ltb j (2 * m))))
          (ways (ltb j m))
