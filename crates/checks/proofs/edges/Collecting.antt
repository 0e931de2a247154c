-- Collecting: every corner of a marked vertex gets its entry and its valence, and the columns of the faces stay; after the last vertex all corners have them.
use mathlib.Core.Path.{◌≡◌, refl, ap, ◌∙◌, sym, subst}
use mathlib.Core.Bool.{false}
use mathlib.Core.Logic.{⊎_elim}
use mathlib.Core.List.{List}
use Prim.Native.Nat.{ℕ, ◌+◌, ◌-◌, ◌*◌, ◌<◌, ◌≤◌}
use native.Mathlib.Omega.{arith}
use lib.Dec.{ltb}
use lib.ListN.{length, set, length-set}
use borrow.Author.Tests.{ne_eqb, ltb-true, ltb-false}
use Rattle.paper.specs.Links.{vertex_of, names, valence, lowest}
use Rattle.mesh.specs.Tables.{Named}
use Rattle.mesh.proofs.Scans.{ways, clash, compared, first_passes}
use Rattle.mesh.proofs.Rings.{count_none}
use Rattle.walk.specs.Table.{row_length, to_next, to_previous, to_link, sides_here, valence_here, entry}
use Rattle.walk.proofs.Table.{put, kept_put}
use Rattle.checks.specs.columns.Vertices.{leaving_here, arriving_here, count_here, lowest_here, noted}
use Rattle.checks.specs.columns.Chain.{earlier_of, EarliersFrom, last_of, Clear}
use Rattle.checks.specs.columns.Filled.{CornersCounted}
use Rattle.checks.proofs.columns.Chains.{On, above_head, at_vertex, on_falls, on_from, chained_own}
use Rattle.checks.specs.edges.Entries.{Entries, to, from, Searchable}
use Rattle.checks.specs.edges.Entries.{ChainsFrom, HeadsFrom, ColumnKeyed, BothKeyed, Hit, InColumn, MarkedFrom, CountedAt, Unmarked, StepsBelong, EntryFor}
use Rattle.checks.specs.edges.Entries.{FacesKept, Collected, EntriesFound}
use Rattle.checks.proofs.edges.Marks.{chain_here}

-- ---- tables that have the columns of the faces in common
pub faces_same : (table : List ℕ) → FacesKept table table
faces_same table = record { nexts = λ c. refl; previouses = λ c. refl; sides_are = λ c. refl }

pub faces_then : (old middle new : List ℕ) → FacesKept middle new → FacesKept old middle → FacesKept old new
faces_then old middle new b a =
    record {
      nexts = λ c. b.nexts c ∙ a.nexts c;
      previouses = λ c. b.previouses c ∙ a.previouses c;
      sides_are = λ c. b.sides_are c ∙ a.sides_are c;
    }

module _ (corners old new : List ℕ) (k : FacesKept old new) where
  to_kept : (c : ℕ) → to corners new c ≡ to corners old c
  to_kept c = ap (vertex_of corners) (k.nexts c)

  from_kept : (c : ℕ) → from corners new c ≡ from corners old c
  from_kept c = ap (vertex_of corners) (k.previouses c)

  steps_back : (sides : List ℕ) → StepsBelong sides corners new → StepsBelong sides corners old
  steps_back sides e =
      record {
        sums = e.sums;
        nexts = λ c l. sym (k.nexts c) ∙ e.nexts c l;
        previouses = λ c l. sym (k.previouses c) ∙ e.previouses c l;
      }

  pub steps_on : (sides : List ℕ) → StepsBelong sides corners old → StepsBelong sides corners new
  steps_on sides e =
      record {
        sums = e.sums;
        nexts = λ c l. k.nexts c ∙ e.nexts c l;
        previouses = λ c l. k.previouses c ∙ e.previouses c l;
      }

  keyed_on : {f g column : ℕ → ℕ} → ((c : ℕ) → g c ≡ f c) → ColumnKeyed corners f column → ColumnKeyed corners g column
  keyed_on {f} {g} {column} e m = record { inside = m.inside; key_is = λ t n. e (column t - 1) ∙ m.key_is t n }

  pub both_keyed_on : (vertices : List ℕ) → BothKeyed corners old vertices → BothKeyed corners new vertices
  both_keyed_on vertices m = record { left = keyed_on to_kept m.left; arrived = keyed_on from_kept m.arrived }

  pub marked_on : (vertices : List ℕ) (u at : ℕ) → MarkedFrom corners old vertices u at → MarkedFrom corners new vertices u at
  unfolding InColumn
  marked_on vertices u at m =
      record {
        keyed = both_keyed_on vertices m.keyed;
        left_from = λ d a b v. subst (λ (x : ℕ). Hit corners u d (noted vertices leaving_here x)) (sym (to_kept d)) (m.left_from d a b v);
        arrived_from = λ d a b v. subst (λ (x : ℕ). Hit corners u d (noted vertices arriving_here x)) (sym (from_kept d)) (m.arrived_from d a b v);
      }

  pub searchable_on : (before after : List ℕ) → length new ≡ length old → length after ≡ length before
      → Searchable corners old before → Searchable corners new after
  searchable_on before after ln lv s =
      record {
        small = s.small;
        long = omega (arith, s.long);
        rowed = λ c l. omega (arith, s.rowed c l);
        nexts_in = λ c l. omega (arith, k.nexts c, s.nexts_in c l);
        previouses_in = λ c l. omega (arith, k.previouses c, s.previouses_in c l);
      }

  pub entry_back : (c x : ℕ) → EntryFor corners new c x → EntryFor corners old c x
  entry_back c x f sides e = f sides (steps_on sides e)

  pub entry_on : (c x : ℕ) → EntryFor corners old c x → EntryFor corners new c x
  entry_on c x f sides e = f sides (steps_back sides e)

-- ---- collecting: the corners of u from `at` on have their entries and the valence n
pub record CollectedFrom (corners old new : List ℕ) (u n at : ℕ) : Type 0 where
  pub entries : (c : ℕ) → c < length corners → vertex_of corners c ≡ u → at ≤ c → EntryFor corners old c (entry new to_link c)
  pub others : (c : ℕ) → (vertex_of corners c ≡ u → ⊥) → entry new to_link c ≡ entry old to_link c
  pub valences : (c : ℕ) → c < length corners → vertex_of corners c ≡ u → at ≤ c → entry new valence_here c ≡ n
  pub chains : (c : ℕ) → (vertex_of corners c ≡ u → at ≤ c → ⊥) → entry new valence_here c ≡ entry old valence_here c
  pub faces : FacesKept old new

module _ (corners old : List ℕ) (u n : ℕ) where
  pub collected_none : CollectedFrom corners old old u n (last_of corners u)
  collected_none =
      let above = above_head corners (earlier_of corners) (last_of corners) (chained_own corners) u in
      record {
        entries = λ c h v a. absurd (above c a h v);
        others = λ c m. refl;
        valences = λ c h v a. absurd (above c a h v);
        chains = λ c m. refl;
        faces = faces_same old;
      }

  module _ (new : List ℕ) (at : ℕ) (o : On corners u at) (z : at ≡ 0 → ⊥) (h : row_length * (at - 1) + row_length ≤ length new)
      (t : CollectedFrom corners old new u n at) where
    -- the chain goes on as it was
    pub chain_on : ChainsFrom corners old u → entry new valence_here (at - 1) ≡ earlier_of corners (at - 1)
    chain_on f = t.chains (at - 1) (λ q a. omega (arith, z)) ∙ chain_here corners old u at o z f

    module _ (x : ℕ) (w : EntryFor corners old (at - 1) x) where
      pub collected_more :
          CollectedFrom corners old (set (set new (row_length * (at - 1) + to_link) x) (row_length * (at - 1) + valence_here) n) u n (earlier_of corners (at - 1))
      collected_more =
          let once = set new (row_length * (at - 1) + to_link) x in
          let size : length once ≡ length new = length-set new (row_length * (at - 1) + to_link) x in
          let first = kept_put new to_link (at - 1) x (omega arith) in
          let second = kept_put once valence_here (at - 1) n (omega arith) in
          let v = at_vertex corners (earlier_of corners) (last_of corners) (chained_own corners) u at o z in
          let falls = on_falls corners (earlier_of corners) (last_of corners) (chained_own corners) u at o z in
          record {
            entries = λ c l e a.
                subst (EntryFor corners old c) (sym (second to_link (omega arith) (λ q. omega arith) c))
                (put new to_link (at - 1) x (EntryFor corners old c) c (omega arith)
                (λ q. subst (λ (y : ℕ). EntryFor corners old y x) (sym q) w)
                (λ q. t.entries c l e (omega (arith, q, on_from corners (earlier_of corners) (last_of corners) (chained_own corners) u at o z c a e))));
            others = λ c m.
                second to_link (omega arith) (λ q. omega arith) c
                ∙ put new to_link (at - 1) x (λ y. y ≡ entry old to_link c) c (omega arith)
                (λ q. absurd (m (ap (vertex_of corners) q ∙ v)))
                (λ q. t.others c m);
            valences = λ c l e a.
                put once valence_here (at - 1) n (λ y. y ≡ n) c (omega arith) (λ q. refl)
                (λ q. first valence_here (omega arith) (λ y. omega arith) c
                ∙ t.valences c l e (omega (arith, q, on_from corners (earlier_of corners) (last_of corners) (chained_own corners) u at o z c a e)));
            chains = λ c m.
                put once valence_here (at - 1) n (λ y. y ≡ entry old valence_here c) c (omega arith)
                (λ q. absurd (m (ap (vertex_of corners) q ∙ v) (omega (arith, q, falls))))
                (λ q. first valence_here (omega arith) (λ y. omega arith) c ∙ t.chains c (λ e a. m e (omega (arith, falls))));
            faces = record {
              nexts = λ c. second to_next (omega arith) (λ q. omega arith) c ∙ first to_next (omega arith) (λ q. omega arith) c ∙ t.faces.nexts c;
              previouses = λ c.
                  second to_previous (omega arith) (λ q. omega arith) c ∙ first to_previous (omega arith) (λ q. omega arith) c ∙ t.faces.previouses c;
              sides_are = λ c.
                  second sides_here (omega arith) (λ q. omega arith) c ∙ first sides_here (omega arith) (λ q. omega arith) c ∙ t.faces.sides_are c;
            };
          }

  pub collected_all : (new : List ℕ) (at : ℕ) → at ≡ 0 → n ≡ valence corners u → CollectedFrom corners old new u n at → Collected corners old new u
  collected_all new at z e t =
      record {
        entries = λ c h v. t.entries c h v (omega arith);
        others = t.others;
        valences = λ c h v. t.valences c h v (omega arith) ∙ e;
        chains = λ c m. t.chains c (λ q a. m q);
        faces = t.faces;
      }

-- ---- all vertices: those below u have their entries and valences, and are counted
pub EntriesBelow : List ℕ → List ℕ → ℕ → Type 0
EntriesBelow corners table u = (c : ℕ) → c < length corners → vertex_of corners c < u → EntryFor corners table c (entry table to_link c)

pub ValencesBelow : List ℕ → List ℕ → ℕ → Type 0
ValencesBelow corners table u = (c : ℕ) → c < length corners → vertex_of corners c < u → entry table valence_here c ≡ valence corners (vertex_of corners c)

pub record CountedBelow (corners vertices : List ℕ) (u : ℕ) : Type 0 where
  pub counts : (v : ℕ) → v < u → noted vertices count_here v ≡ valence corners v
  pub lowests : (v : ℕ) → v < u → lowest corners v < length corners → noted vertices lowest_here v ≡ lowest corners v
  pub clear : (v : ℕ) → u ≤ v → noted vertices count_here v ≡ 0

-- below u + 1 is u, or below u
up_to : (P : ℕ → Type 0) (v u : ℕ) → v < u + 1 → (v ≡ u → P v) → (v < u → P v) → P v
up_to P v u l same lower =
    ⊎_elim same (λ o. lower (⊎_elim (λ (z : v < u). z) (λ (z : u < v). absurd (omega arith)) o)) (compared v u)

module _ (corners : List ℕ) where
  pub below_none : (table : List ℕ) → EntriesBelow corners table 0
  unfolding EntriesBelow
  below_none table c h v = absurd (omega arith)

  pub valences_none : (table : List ℕ) → ValencesBelow corners table 0
  unfolding ValencesBelow
  valences_none table c h v = absurd (omega arith)

  pub counted_none : (vertices : List ℕ) → Clear vertices count_here → CountedBelow corners vertices 0
  counted_none vertices z = record { counts = λ v l. absurd (omega arith); lowests = λ v l. absurd (omega arith); clear = λ v l. z v }

  module _ (old new : List ℕ) (u : ℕ) (t : Collected corners old new u) where
    pub below_more : EntriesBelow corners old u → EntriesBelow corners new (u + 1)
    unfolding EntriesBelow
    below_more b c h v =
        entry_on corners old new t.faces c (entry new to_link c)
        (up_to (λ w. EntryFor corners old c (entry new to_link c)) (vertex_of corners c) u v
        (λ q. t.entries c h q)
        (λ l. subst (EntryFor corners old c) (sym (t.others c (λ q. omega arith))) (b c h l)))

    pub valences_more : ValencesBelow corners old u → ValencesBelow corners new (u + 1)
    unfolding ValencesBelow
    valences_more b c h v =
        up_to (λ w. entry new valence_here c ≡ valence corners w) (vertex_of corners c) u v
        (λ q. t.valences c h q ∙ ap (valence corners) (sym q))
        (λ l. t.chains c (λ q. omega arith) ∙ b c h l)

    pub chains_more : ChainsFrom corners old u → ChainsFrom corners new (u + 1)
    unfolding EarliersFrom
    chains_more f c h v = t.chains c (λ q. omega arith) ∙ f c h (omega arith)

  pub heads_more : (old new : List ℕ) (u : ℕ) → Unmarked old new u → HeadsFrom corners old u → HeadsFrom corners new (u + 1)
  heads_more old new u m f v l = m.heads v (λ q. omega arith) ∙ f v (omega arith)

  pub counted_more : (old new : List ℕ) (u : ℕ) → CountedAt corners new u → Unmarked old new u → CountedBelow corners old u → CountedBelow corners new (u + 1)
  counted_more old new u a m b =
      record {
        counts = λ v l.
            up_to (λ w. noted new count_here w ≡ valence corners w) v u l
            (λ q. subst (λ (w : ℕ). noted new count_here w ≡ valence corners w) (sym q) a.count_is)
            (λ k. m.counts v (λ q. omega arith) ∙ b.counts v k);
        lowests = λ v l.
            up_to (λ w. lowest corners w < length corners → noted new lowest_here w ≡ lowest corners w) v u l
            (λ q. subst (λ (w : ℕ). lowest corners w < length corners → noted new lowest_here w ≡ lowest corners w) (sym q) a.lowest_is)
            (λ k h. m.heads v (λ q. omega arith) ∙ b.lowests v k h);
        clear = λ v l. m.counts v (λ q. omega arith) ∙ b.clear v (omega arith);
      }

  -- no corner names a vertex from `count` on
  module _ (u count : ℕ) (l : count ≤ u) (named : Named corners count) where
    nameless : (v : ℕ) → u ≤ v → (c : ℕ) → c < length corners → names corners v c ≡ false
    unfolding names
    nameless v a c h = ne_eqb (vertex_of corners c) v (λ q. omega (arith, named c h))

    counted_all : (vertices : List ℕ) → CountedBelow corners vertices u → CornersCounted corners vertices
    unfolding valence lowest
    counted_all vertices b =
        record {
          count_is = λ v.
              ⊎_elim
              (λ k. b.counts v (ltb-true v u k))
              (λ k. let a = ltb-false v u k in b.clear v a ∙ sym (count_none (names corners v) (length corners) (nameless v a)))
              (ways (ltb v u));
          lowest_is = λ v h.
              ⊎_elim
              (λ k. b.lowests v (ltb-true v u k) h)
              (λ k. absurd (clash (first_passes (length corners) (names corners v) h) (nameless v (ltb-false v u k) _ h)))
              (ways (ltb v u));
        }

    pub found : (old new vertices : List ℕ) → EntriesBelow corners new u → ValencesBelow corners new u → FacesKept old new
        → CountedBelow corners vertices u → EntriesFound corners old new vertices
    unfolding EntriesBelow ValencesBelow Entries
    found old new vertices b w k c =
        record {
          entries = λ sides e d h. b d h (omega (arith, named d h)) sides e;
          valences = λ d h. w d h (omega (arith, named d h));
          faces = k;
          counted = counted_all vertices c;
        }
