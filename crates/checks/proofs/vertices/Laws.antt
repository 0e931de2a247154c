-- The ring of links from a vertex's lowest corner is as long as the vertex has corners exactly where fault 13 does not hold.
use mathlib.Core.Path.{◌≡◌, refl, ap, ◌∙◌, sym}
use mathlib.Core.Bool.{Bool, true, false}
use mathlib.Core.Logic.{⊎_elim}
use mathlib.Core.List.{List}
use Prim.Native.Nat.{ℕ, zero, suc, ◌+◌, ◌-◌, ◌<◌, ◌≤◌}
use native.Mathlib.Omega.{arith}
use native.Mathlib.Numerals.{add-one}
use lib.Dec.{eqb}
use lib.ListN.{length}
use borrow.Author.Tests.{eq-eqb, ne_eqb, eqb-true, lt-ltb, le-ltb}
use Rattle.paper.specs.Scan.{first_below, count_below, iterate}
use Rattle.paper.specs.Mesh.{least_sides}
use Rattle.paper.specs.Links.{vertex_of, names, link, valence, lowest}
use Rattle.paper.specs.Faults.{fault12, fault13, after, ring_length, met, sound, fault, lowest_of, stated, Answer}
use Rattle.mesh.specs.Closed.{Closed}
use Rattle.mesh.proofs.Scans.{first_passes, first_fails, some_false, ways, compared, first_none, first_at, first_le_all, fails_step}
use Rattle.mesh.proofs.Rings.{Turns, period_le, comes_back, met_all, count_none, iterate_zero, iterate_suc}
use Rattle.mesh.proofs.Links.{link_in}
use Rattle.mesh.proofs.Accepted.{turns, ring_full, valence_within}
use Rattle.mesh.proofs.Verdicts.{lowest_hit, lowest_none, lowest_sound, past}
use Rattle.list_checks.proofs.Laws.{stops}
use Rattle.walk.specs.Table.{to_link, entry, Column}
use Rattle.checks.specs.columns.Vertices.{count_here, lowest_here, noted}
use Rattle.checks.specs.columns.Filled.{CornersCounted}
use Rattle.checks.specs.vertices.Ring.{ring_within, Cornered, Ringed, VerticesChecked}

-- the ring
abbrev pub back_at : (ℕ → ℕ) → ℕ → ℕ → Bool
back_at step start j = eqb (iterate (suc j) step start) start

pub record RingWalked (step : ℕ → ℕ) (count start bound left len at : ℕ) : Type 0 where
  pub sum : len + left ≡ bound
  pub place : at ≡ iterate len step start
  pub within : at < count
  pub fresh : (j : ℕ) → j < len → back_at step start j ≡ false

pub around_start : (step : ℕ → ℕ) (count start bound : ℕ) → start < count → RingWalked step count start bound bound 0 start
around_start step count start bound h =
    record { sum = omega arith; place = sym (iterate_zero step start); within = h; fresh = λ j l. absurd (omega arith) }

module _ (step : ℕ → ℕ) (count start bound left len at : ℕ) (a : RingWalked step count start bound left len at) where
  pub ring_none : left ≡ 0 → 0 ≡ ring_within step start bound
  unfolding ring_within
  ring_none e =
      let q : first_below bound (back_at step start) ≡ bound = first_none bound (back_at step start) (λ j l. a.fresh j (omega (arith, a.sum))) in
      rw (le-ltb (first_below bound (back_at step start)) bound (omega arith))

  stepped : step at ≡ iterate (suc len) step start
  stepped = ap step a.place ∙ sym (iterate_suc step len start)

  -- one step, to where the link leads
  module _ (n : left ≡ 0 → ⊥) (to : ℕ) (q : to ≡ step at) where
    pub ring_back : to ≡ start → len + 1 ≡ ring_within step start bound
    unfolding ring_within
    ring_back e =
        let l : len < bound = omega (arith, a.sum) in
        let f : first_below bound (back_at step start) ≡ len = first_at bound (back_at step start) len l (eq-eqb _ _ (sym stepped ∙ sym q ∙ e)) a.fresh in
        rw (lt-ltb (first_below bound (back_at step start)) bound (omega arith)) (omega arith)

    pub around_next : step at < count → (to ≡ start → ⊥) → RingWalked step count start bound (left - 1) (len + 1) to
    around_next w ne =
        record {
          sum = omega (arith, a.sum);
          place = q ∙ rw add-one stepped;
          within = omega arith;
          fresh = fails_step (back_at step start) len a.fresh (ne_eqb _ _ (λ e. ne (q ∙ stepped ∙ e)));
        }

-- a vertex with corners has a lowest one
pub lowest_in : (corners : List ℕ) (u : ℕ) → least_sides ≤ valence corners u → lowest corners u < length corners
unfolding lowest valence
lowest_in corners u h =
    ⊎_elim
    (λ (q : first_below (length corners) (names corners u) ≡ length corners).
    absurd (omega (arith, count_none (names corners u) (length corners) (λ j l. first_fails (length corners) (names corners u) j (omega arith)))))
    (λ o. ⊎_elim (λ z. z) (λ (z : length corners < first_below (length corners) (names corners u)). absurd
    (omega (arith, first_le_all (length corners) (names corners u)))) o)
    (compared (first_below (length corners) (names corners u)) (length corners))

pub lowest_of_lem : (corners : List ℕ) (u : ℕ) → lowest corners u < length corners → vertex_of corners (lowest corners u) ≡ u
unfolding lowest names
lowest_of_lem corners u h = eqb-true _ _ (first_passes (length corners) (names corners u) h)

-- check 13 at a vertex
module _ (sides corners table : List ℕ) (k : Closed sides corners) (t : Column table to_link (link sides corners) (length corners)) (u : ℕ)
    (h : least_sides ≤ valence corners u) where
  low : lowest corners u < length corners
  low = lowest_in corners u h

  around : Turns (length corners) (names corners u) (link sides corners) (lowest corners u)
  around = turns sides corners k u (lowest corners u) low (lowest_of_lem corners u low)

  followed : (j : ℕ) → (iterate j (entry table to_link) (lowest corners u) ≡ iterate j (link sides corners) (lowest corners u)) ×
      (iterate j (link sides corners) (lowest corners u) < length corners)
  unfolding iterate
  followed zero = (refl, low)
  followed (suc j) =
      let r = followed j in (
        ap (entry table to_link) r.0 ∙ t (iterate j (link sides corners) (lowest corners u)) r.1,
        link_in sides corners k
            (iterate j (link sides corners) (lowest corners u)) r.1,
      )

  ring_is : ring_within (entry table to_link) (lowest corners u) (valence corners u) ≡ ring_length sides corners u
  unfolding ring_within ring_length after valence
  ring_is =
      let P = first_below (length corners) (λ j. eqb (iterate (suc j) (link sides corners) (lowest corners u)) (lowest corners u)) in
      let le = period_le (length corners) (names corners u) (link sides corners) (lowest corners u) around in
      let q : first_below (valence corners u) (back_at (entry table to_link) (lowest corners u)) ≡ P =
      first_at (valence corners u) (back_at (entry table to_link) (lowest corners u)) P le
      (eq-eqb _ _ ((followed (suc P)).0 ∙ comes_back (length corners) (names corners u) (link sides corners) (lowest corners u) around))
      (λ j l. ap (λ (x : ℕ). eqb x (lowest corners u)) (followed (suc j)).0 ∙ first_fails (length corners)
      (λ j. eqb (iterate (suc j) (link sides corners) (lowest corners u)) (lowest corners u)) j l) in
      rw (q, lt-ltb P (count_below (length corners) (names corners u)) le)

  pub whole_ring : ring_within (entry table to_link) (lowest corners u) (valence corners u) ≡ valence corners u → fault13 sides corners u ≡ false
  unfolding fault13 met after ring_length valence
  whole_ring e = some_false (length corners) _ (met_all (length corners) (names corners u) (link sides corners) (lowest corners u) around (sym ring_is ∙ e))

  pub torn_ring : (ring_within (entry table to_link) (lowest corners u) (valence corners u) ≡ valence corners u → ⊥) → fault13 sides corners u ≡ true
  torn_ring ne =
      ⊎_elim (λ b. b) (λ b. absurd (ne (ring_is ∙ ring_full sides corners k u (lowest corners u) low (lowest_of_lem corners u low) b)))
      (ways (fault13 sides corners u))

pub RingsWhole : List ℕ → List ℕ → ℕ → Type 0
RingsWhole corners table u =
    (sides : List ℕ) → Closed sides corners → Column table to_link (link sides corners) (length corners) → (j : ℕ) → j < u → fault13 sides corners j ≡ false

module _ (corners table : List ℕ) where
  pub whole_none : RingsWhole corners table 0
  unfolding RingsWhole
  whole_none sides k t j l = absurd (omega arith)

  module _ (u count : ℕ) (w : RingsWhole corners table u) (f : Cornered corners count) (l : u < count)
      (vertices : List ℕ) (g : CornersCounted corners vertices) (len : ℕ)
      (en : len ≡ ring_within (entry table to_link) (noted vertices lowest_here u) (noted vertices count_here u)) where
    len_is : len ≡ ring_within (entry table to_link) (lowest corners u) (valence corners u)
    len_is =
        en ∙ ap (λ (x : ℕ). ring_within (entry table to_link) x (noted vertices count_here u)) (g.lowest_is u (lowest_in corners u (f u l)))
        ∙ ap (ring_within (entry table to_link) (lowest corners u)) (g.count_is u)

    pub whole_more : len ≡ noted vertices count_here u → RingsWhole corners table (u + 1)
    unfolding RingsWhole
    whole_more e sides k t =
        fails_step (fault13 sides corners) u (w sides k t)
        (whole_ring sides corners table k t u (f u l) (sym len_is ∙ e ∙ g.count_is u))

    pub whole_torn : (len ≡ noted vertices count_here u → ⊥)
        → (sides : List ℕ) → Closed sides corners → Column table to_link (link sides corners) (length corners) → fault 13 u ≡ lowest_of 13 count
        (fault13 sides corners)
    unfolding RingsWhole
    whole_torn ne sides k t =
        sym (lowest_hit 13 count (fault13 sides corners) u l
        (torn_ring sides corners table k t u (f u l) (λ e. ne (len_is ∙ e ∙ sym (g.count_is u)))) (w sides k t))

  pub whole_all : (u count : ℕ) → RingsWhole corners table u → count ≤ u → (sides : List ℕ) → Closed sides corners → Column table to_link (link sides corners)
      (length corners) → sound ≡ lowest_of 13 count (fault13 sides corners)
  unfolding RingsWhole
  whole_all u count w e sides k t = sym (lowest_none 13 count (fault13 sides corners) (λ j l. w sides k t j (omega arith)))

-- after check 12 each vertex has corners
pub cornered : (corners : List ℕ) (count : ℕ) → lowest_of 12 count (fault12 corners) ≡ sound → Cornered corners count
cornered corners count e u h = (valence_within corners u (lowest_sound 12 count (fault12 corners) e u h)).0

-- ---- the ways out of 12 and 13
module _ (corners : List ℕ) (count : ℕ) (table : List ℕ) where
  pub valences_refused : (r : Answer) (k p : ℕ) → stated r ≡ fault k p → fault k p ≡ lowest_of 12 count (fault12 corners)
      → VerticesChecked corners count table r
  valences_refused r k p q e sides c t = q ∙ stops k p _ e

  pub vertices_checked : (r : Answer) → lowest_of 12 count (fault12 corners) ≡ sound → Ringed corners table count r → VerticesChecked corners count table r
  vertices_checked r twelve a sides c t = past twelve _ (a sides c t)
