-- How four planes are filled further: with the next differences, and with four.
use Rattle.std.proofs.Common.{◌≡◌, ℕ, ◌+◌, ◌-◌, ◌*◌, ◌/◌, ◌%◌, ◌^◌, ◌<◌, ◌≤◌, ltb, List, length, get_or, ℤ, sym, refl, ap, ◌∙◌, subst, ⊎_elim, arith, ltb-false, ltb-true}
use Rattle.mesh.proofs.Scans.{ways}
use Rattle.paper.specs.Archive.{byte_of}
use Rattle.planes.specs.differences.Deltas.{delta_at}
use Rattle.planes.specs.Planes.{Planed, four_set}
use Rattle.planes.proofs.BytesPut.{BytesPut, run_row, lowest_byte}

module _ (numbers : List ℤ) where
  abbrev m : ℕ
  m = length numbers

  -- byte k of the differences from position i on
  abbrev pub Bytes : ℕ → ℕ → ℕ → ℕ
  Bytes k i j = byte_of numbers k (i + j)

  -- ---- the next w differences, from position i on
  module _ (i w : ℕ) (h : i + w ≤ m) where
    -- one plane, whose byte of position j stands at `place j`
    plane_run : (k : ℕ) (place : ℕ → ℕ) (out : List ℕ) → ((j : ℕ) → place i + j ≡ place (i + j))
        → ((j : ℕ) → j < i → get_or out (place j) 0 ≡ byte_of numbers k j) → ((j : ℕ) → j < w → get_or out (place i + j) 0 ≡ Bytes k i j)
        → (j : ℕ) → j < i + w → get_or out (place j) 0 ≡ byte_of numbers k j
    plane_run k place out moved held new j l =
        ⊎_elim (λ e. held j (ltb-true j i e))
        (λ e. let a : i ≤ j = ltb-false j i e in
        let q : i + (j - i) ≡ j = omega arith in
        subst (λ (x : ℕ). get_or out (place x) 0 ≡ byte_of numbers k x) q
        (ap (λ (x : ℕ). get_or out x 0) (sym (moved (j - i))) ∙ new (j - i) (omega arith)))
        (ways (ltb j i))

    pub planed_runs : (bytes b1 b2 b3 out : List ℕ) → Planed numbers i bytes → BytesPut (Bytes 0 i) w i bytes b1 → BytesPut (Bytes 1 i) w (m + i) b1 b2
        → BytesPut (Bytes 2 i) w (2 * m + i) b2 b3 → BytesPut (Bytes 3 i) w (3 * m + i) b3 out → Planed numbers (i + w) out
    planed_runs bytes b1 b2 b3 out p r0 r1 r2 r3 = record {
      long = r3.long ∙ r2.long ∙ r1.long ∙ r0.long ∙ p.long;
      lowest = plane_run 0 (λ j. j) out (λ j. refl)
          (λ j l. r3.below j (omega arith) ∙ r2.below j (omega arith) ∙ r1.below j (omega arith) ∙ r0.below j l ∙ p.lowest j l)
          (λ j l. r3.below (i + j) (omega arith) ∙ r2.below (i + j) (omega arith) ∙ r1.below (i + j) (omega arith) ∙ r0.holds j l);
      second = plane_run 1 (λ j. m + j) out (λ j. omega arith)
          (λ j l. r3.below (m + j) (omega arith) ∙ r2.below (m + j) (omega arith) ∙ r1.below (m + j) (omega arith)
          ∙ r0.above (m + j) (omega arith) ∙ p.second j l)
          (λ j l. r3.below (m + i + j) (omega arith) ∙ r2.below (m + i + j) (omega arith) ∙ r1.holds j l);
      third = plane_run 2 (λ j. 2 * m + j) out (λ j. omega arith)
          (λ j l. r3.below (2 * m + j) (omega arith) ∙ r2.below (2 * m + j) (omega arith) ∙ r1.above (2 * m + j) (omega arith)
          ∙ r0.above (2 * m + j) (omega arith) ∙ p.third j l)
          (λ j l. r3.below (2 * m + i + j) (omega arith) ∙ r2.holds j l);
      highest = plane_run 3 (λ j. 3 * m + j) out (λ j. omega arith)
          (λ j l. r3.below (3 * m + j) (omega arith) ∙ r2.above (3 * m + j) (omega arith) ∙ r1.above (3 * m + j) (omega arith)
          ∙ r0.above (3 * m + j) (omega arith) ∙ p.highest j l)
          (λ j l. r3.holds j l);
    }

  -- byte k of a difference
  byte : (k i d : ℕ) → d ≡ delta_at numbers i → d / 256 ^ k % 256 ≡ byte_of numbers k i
  byte k i d e = ap (λ (x : ℕ). x / 256 ^ k % 256) e

  pub byte_here : (k i d : ℕ) → d ≡ delta_at numbers i → d / 256 ^ k % 256 ≡ byte_of numbers k (i + 0)
  byte_here k i d e = byte k i d e ∙ ap (byte_of numbers k) (let q : i ≡ i + 0 = omega arith in q)

  -- ---- four differences
  module _ (i a b c d : ℕ) (ea : a ≡ delta_at numbers i) (eb : b ≡ delta_at numbers (i + 1))
      (ec : c ≡ delta_at numbers (i + 2)) (ed : d ≡ delta_at numbers (i + 3)) where
    row_run : (k at : ℕ) (old out : List ℕ) → at + 3 < length old
        → out ≡ four_set old 1 at (a / 256 ^ k % 256) (b / 256 ^ k % 256) (c / 256 ^ k % 256) (d / 256 ^ k % 256) → BytesPut (Bytes k i) 4 at old out
    row_run k at old out room e =
        subst (BytesPut (Bytes k i) 4 at old) (sym e)
        (run_row (Bytes k i) at old _ _ _ _ room (byte_here k i a ea) (byte k (i + 1) b eb) (byte k (i + 2) c ec) (byte k (i + 3) d ed))

    pub planed_four : (bytes b1 b2 b3 out : List ℕ) → i + 4 ≤ m → Planed numbers i bytes
        → b1 ≡ four_set bytes 1 i (a % 256) (b % 256) (c % 256) (d % 256)
        → b2 ≡ four_set b1 1 (m + i) (a / 256 % 256) (b / 256 % 256) (c / 256 % 256) (d / 256 % 256)
        → b3 ≡ four_set b2 1 (2 * m + i) (a / 65536 % 256) (b / 65536 % 256) (c / 65536 % 256) (d / 65536 % 256)
        → out ≡ four_set b3 1 (3 * m + i) (a / 16777216 % 256) (b / 16777216 % 256) (c / 16777216 % 256) (d / 16777216 % 256)
        → Planed numbers (i + 4) out
    planed_four bytes b1 b2 b3 out h p e0 e1 e2 e3 =
        let f0 : b1 ≡ four_set bytes 1 i (a / 256 ^ 0 % 256) (b / 256 ^ 0 % 256) (c / 256 ^ 0 % 256) (d / 256 ^ 0 % 256) =
        rw (lowest_byte a, lowest_byte b, lowest_byte c, lowest_byte d) at e0 in
        let r0 = row_run 0 i bytes b1 (omega (arith, p.long)) f0 in
        let r1 = row_run 1 (m + i) b1 b2 (omega (arith, p.long, r0.long)) e1 in
        let r2 = row_run 2 (2 * m + i) b2 b3 (omega (arith, p.long, r0.long, r1.long)) e2 in
        let r3 = row_run 3 (3 * m + i) b3 out (omega (arith, p.long, r0.long, r1.long, r2.long)) e3 in
        planed_runs i 4 h bytes b1 b2 b3 out p r0 r1 r2 r3
