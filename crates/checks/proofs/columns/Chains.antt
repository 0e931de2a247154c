-- The chains of the vertices: how they grow by a corner, and the places on one.
use mathlib.Core.Path.{◌≡◌, refl, ap, ◌∙◌, sym, subst}
use mathlib.Core.Bool.{Bool, true, false}
use mathlib.Core.Logic.{⊎_elim}
use mathlib.Core.List.{List}
use Prim.Native.Nat.{ℕ, zero, suc, ◌+◌, ◌-◌, ◌*◌, ◌<◌, ◌≤◌}
use native.Mathlib.Omega.{arith}
use native.Mathlib.Numerals.{add-one}
use lib.ListN.{length, get_or, set}
use borrow.Author.Tests.{eq-eqb, ne_eqb, eqb-true}
use Rattle.paper.specs.Scan.{first_below, count_below}
use Rattle.paper.specs.Links.{vertex_of, names, valence, lowest}
use Rattle.mesh.proofs.Scans.{ways, clash, compared, first_passes, first_at}
use Rattle.mesh.proofs.Rings.{count_hit, count_miss, count_le, none_counted}
use Rattle.walk.specs.Table.{row_length, valence_here, entry, Kept, Blank}
use Rattle.walk.proofs.Table.{put}
use Rattle.checks.specs.columns.Vertices.{vertex_row, last_here, leaving_here, arriving_here, count_here, noted}
use Rattle.checks.specs.columns.Chain.{last_below, earlier_of, EarliersTo, LastsTo, last_of, Chain, Chained, Clear, Ready}
use Rattle.checks.proofs.columns.Notes.{note_put, note_kept}

-- the highest number that passes
module _ (f : ℕ → Bool) where
  pub last_hit : (n : ℕ) → f n ≡ true → last_below (suc n) f ≡ suc n
  unfolding last_below
  last_hit n e = rw e

  pub last_miss : (n : ℕ) → f n ≡ false → last_below (suc n) f ≡ last_below n f
  unfolding last_below
  last_miss n e = rw e

  pub last_zero : last_below 0 f ≡ 0
  unfolding last_below
  last_zero = refl

  pub last_le : (n : ℕ) → last_below n f ≤ n
  last_le zero = omega (arith, last_zero)
  last_le (suc n) = ⊎_elim (λ e. omega (arith, last_hit n e)) (λ e. omega (arith, last_miss n e, last_le n)) (ways (f n))

  pub last_passes : (n d : ℕ) → last_below n f ≡ suc d → f d ≡ true
  last_passes zero d e = absurd (omega (arith, last_zero))
  last_passes (suc n) d e =
      ⊎_elim
      (λ b. let q : n ≡ d = omega (arith, last_hit n b) in subst (λ (x : ℕ). f x ≡ true) q b)
      (λ b. last_passes n d (sym (last_miss n b) ∙ e))
      (ways (f n))

  pub last_above : (n d : ℕ) → last_below n f ≤ d → d < n → f d ≡ false
  last_above zero d a b = absurd (omega arith)
  last_above (suc n) d a b =
      ⊎_elim
      (λ e. absurd (omega (arith, last_hit n e)))
      (λ e. ⊎_elim
      (λ (q : d ≡ n). subst (λ (x : ℕ). f x ≡ false) (sym q) e)
      (λ o. last_above n d (omega (arith, last_miss n e)) (⊎_elim (λ (z : d < n). z) (λ (z : n < d). absurd (omega arith)) o))
      (compared d n))
      (ways (f n))

  -- as many pass below it
  pub last_counted : (n : ℕ) → count_below (last_below n f) f ≡ count_below n f
  last_counted zero = ap (λ (x : ℕ). count_below x f) last_zero
  last_counted (suc n) =
      ⊎_elim
      (λ e. ap (λ (x : ℕ). count_below x f) (last_hit n e))
      (λ e. ap (λ (x : ℕ). count_below x f) (last_miss n e) ∙ last_counted n ∙ sym (count_miss f n e))
      (ways (f n))

-- ---- the chains below corner c, and what they leave clear
pub record ChainsTo (corners table vertices : List ℕ) (c : ℕ) : Type 0 where
  pub earliers_to : EarliersTo corners (entry table valence_here) c
  pub lasts_to : LastsTo corners (noted vertices last_here) c
  pub leaving_clear : Clear vertices leaving_here
  pub arriving_clear : Clear vertices arriving_here
  pub count_clear : Clear vertices count_here

module _ (corners table vertices : List ℕ) where
  pub chains_none : Blank vertices → ChainsTo corners table vertices 0
  unfolding EarliersTo LastsTo
  chains_none z =
      record {
        earliers_to = λ c h. absurd (omega arith);
        lasts_to = λ u. z (vertex_row * u + last_here) ∙ sym (last_zero (names corners u));
        leaving_clear = λ u. z (vertex_row * u + leaving_here);
        arriving_clear = λ u. z (vertex_row * u + arriving_here);
        count_clear = λ u. z (vertex_row * u + count_here);
      }

  pub chains_all : (c : ℕ) → c ≡ length corners → ChainsTo corners table vertices c → Ready corners table vertices
  chains_all c e k =
      record {
        chained = record {
          earliers_are = subst (EarliersTo corners (entry table valence_here)) e k.earliers_to;
          lasts_are = subst (LastsTo corners (noted vertices last_here)) e k.lasts_to;
        };
        leaving_clear = k.leaving_clear;
        arriving_clear = k.arriving_clear;
        count_clear = k.count_clear;
      }

  pub chains_kept : (new : List ℕ) (c : ℕ) → Kept table new valence_here → ChainsTo corners table vertices c → ChainsTo corners new vertices c
  unfolding EarliersTo
  chains_kept new c e k =
      record {
        earliers_to = λ d h. e d ∙ k.earliers_to d h;
        lasts_to = k.lasts_to;
        leaving_clear = k.leaving_clear;
        arriving_clear = k.arriving_clear;
        count_clear = k.count_clear;
      }

  -- one corner more: its earlier one is the last of its vertex, and then it is the last
  module _ (c : ℕ) (k : ChainsTo corners table vertices c) where
    pub last_is : noted vertices last_here (vertex_of corners c) ≡ last_below c (names corners (vertex_of corners c))
    unfolding LastsTo
    last_is = k.lasts_to (vertex_of corners c)

    pub chains_step : row_length * c + valence_here < length table → vertex_row * vertex_of corners c + last_here < length vertices
        → ChainsTo corners (set table (row_length * c + valence_here) (noted vertices last_here (vertex_of corners c)))
        (set vertices (vertex_row * vertex_of corners c + last_here) (c + 1)) (c + 1)
    unfolding EarliersTo LastsTo names
    chains_step ht hv =
        let v = vertex_of corners c in
        let others = note_kept vertices last_here v (c + 1) (omega arith) in
        record {
          earliers_to = λ d b.
              put table valence_here c (noted vertices last_here v) (λ x. x ≡ last_below d (names corners (vertex_of corners d))) d ht
              (λ q. rw q last_is)
              (λ q. k.earliers_to d (omega (arith, q)));
          lasts_to = λ u.
              note_put vertices last_here v (c + 1) (λ x. x ≡ last_below (c + 1) (names corners u)) u hv
              (λ q. rw add-one (sym (last_hit (names corners u) c (eq-eqb v u (sym q)))))
              (λ q. k.lasts_to u ∙ rw add-one (sym (last_miss (names corners u) c (ne_eqb v u (λ z. q (sym z))))));
          leaving_clear = λ u. others leaving_here (omega arith) (λ q. omega arith) u ∙ k.leaving_clear u;
          arriving_clear = λ u. others arriving_here (omega arith) (λ q. omega arith) u ∙ k.arriving_clear u;
          count_clear = λ u. others count_here (omega arith) (λ q. omega arith) u ∙ k.count_clear u;
        }

-- ---- a place on the chain of u
pub record On (corners : List ℕ) (u at : ℕ) : Type 0 where
  pub chain : Chain corners u at
  pub inside : at ≤ length corners

module _ (corners : List ℕ) (u n at : ℕ) (l : n ≤ length corners) (e : at ≡ last_below n (names corners u)) where
  on_last : On corners u at
  unfolding Chain names
  on_last =
      record {
        chain = λ d q. eqb-true (get_or corners d 0) u (last_passes (names corners u) n d (sym e ∙ q));
        inside = omega (arith, last_le (names corners u) n);
      }

  -- what the chain leaves out between two places does not name u
  between : (d : ℕ) → at ≤ d → d < n → vertex_of corners d ≡ u → ⊥
  unfolding names
  between d a b q = clash (eq-eqb (vertex_of corners d) u q) (last_above (names corners u) n d (omega arith) b)

module _ (corners : List ℕ) (earlier last : ℕ → ℕ) (k : Chained corners earlier last) (u : ℕ) where
  head_is : last u ≡ last_below (length corners) (names corners u)
  unfolding LastsTo
  head_is = k.lasts_are u

  pub on_head : On corners u (last u)
  on_head = on_last corners u (length corners) (last u) (omega arith) head_is

  pub above_head : (d : ℕ) → last u ≤ d → d < length corners → vertex_of corners d ≡ u → ⊥
  above_head = between corners u (length corners) (last u) (omega arith) head_is

  module _ (at : ℕ) (o : On corners u at) (n : at ≡ 0 → ⊥) where
    pub at_in : at - 1 < length corners
    at_in = omega (arith, o.inside)

    pub at_vertex : vertex_of corners (at - 1) ≡ u
    unfolding Chain
    at_vertex = o.chain (at - 1) (omega arith)

    earlier_is : earlier (at - 1) ≡ last_below (at - 1) (names corners u)
    unfolding EarliersTo
    earlier_is = k.earliers_are (at - 1) at_in ∙ ap (λ (x : ℕ). last_below (at - 1) (names corners x)) at_vertex

    pub on_next : On corners u (earlier (at - 1))
    on_next = on_last corners u (at - 1) (earlier (at - 1)) (omega (arith, o.inside)) earlier_is

    pub on_falls : earlier (at - 1) < at
    on_falls = omega (arith, earlier_is, last_le (names corners u) (at - 1))

    -- a corner of u from the next place on is the one here, or was passed
    pub on_from : (d : ℕ) → earlier (at - 1) ≤ d → vertex_of corners d ≡ u → at ≤ d + 1
    on_from d a v =
        ⊎_elim
        (λ (q : d ≡ at - 1). omega arith)
        (λ o. ⊎_elim
        (λ (z : d < at - 1). absurd (between corners u (at - 1) (earlier (at - 1)) (omega (arith, at_in)) earlier_is d a z v))
        (λ (z : at - 1 < d). omega arith)
        o)
        (compared d (at - 1))

-- the chains as the definitions have them
pub chained_own : (corners : List ℕ) → Chained corners (earlier_of corners) (last_of corners)
unfolding EarliersTo LastsTo
chained_own corners = record { earliers_are = λ c l. refl; lasts_are = λ u. refl }

-- ---- the corners of u from `at` on: n of them, and the lowest one
pub record CornersPassed (corners : List ℕ) (u at n low : ℕ) : Type 0 where
  pub count : n + count_below at (names corners u) ≡ valence corners u
  pub own : (n ≡ 0 → ⊥) → vertex_of corners low ≡ u
  pub inside : (n ≡ 0 → ⊥) → low < length corners
  pub before : (n ≡ 0 → ⊥) → at ≡ last_below low (names corners u)

module _ (corners : List ℕ) (u : ℕ) where
  pub passed_none : CornersPassed corners u (last_of corners u) 0 0
  unfolding valence
  passed_none =
      let q = last_counted (names corners u) (length corners) in
      record { count = omega (arith, q); own = λ n. absurd (n refl); inside = λ n. absurd (n refl); before = λ n. absurd (n refl) }

  pub passed_few : (at n low : ℕ) → CornersPassed corners u at n low → n ≤ length corners
  unfolding valence
  passed_few at n low k = omega (arith, k.count, count_le (names corners u) (length corners))

  pub passed_more : (at n low : ℕ) → (at ≡ 0 → ⊥) → On corners u at → CornersPassed corners u at n low
      → CornersPassed corners u (earlier_of corners (at - 1)) (n + 1) (at - 1)
  unfolding names Chain
  passed_more at n low z o k =
      let d = at - 1 in
      let v : vertex_of corners d ≡ u = o.chain d (omega arith) in
      let q : earlier_of corners d ≡ last_below d (names corners u) = ap (λ (x : ℕ). last_below d (names corners x)) v in
      let b = ap (λ (x : ℕ). count_below x (names corners u)) q ∙ last_counted (names corners u) d in
      let w : at ≡ suc d = omega arith in
      let h = ap (λ (x : ℕ). count_below x (names corners u)) w ∙ count_hit (names corners u) d (eq-eqb (vertex_of corners d) u v) in
      record { count = omega (arith, k.count, b, h); own = λ m. v; inside = λ m. omega (arith, o.inside); before = λ m. q }

  -- the whole chain
  module _ (at n low : ℕ) (z : at ≡ 0) (k : CornersPassed corners u at n low) where
    pub passed_count : n ≡ valence corners u
    passed_count = omega (arith, k.count, ap (λ (x : ℕ). count_below x (names corners u)) z, count_le (names corners u) 0)

    pub passed_lowest : lowest corners u < length corners → low ≡ lowest corners u
    unfolding lowest valence names
    passed_lowest h =
        let f = names corners u in
        let e = first_passes (length corners) f h in
        let m : n ≡ 0 → ⊥ = λ q. clash e (none_counted f (length corners) (omega (arith, passed_count)) (first_below (length corners) f) h) in
        sym (first_at (length corners) f low (k.inside m) (eq-eqb (vertex_of corners low) u (k.own m))
        (λ j l. last_above f low j (omega (arith, k.before m)) l))
