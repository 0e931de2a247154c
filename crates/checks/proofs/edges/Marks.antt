-- Marking a vertex: its corners enter the far ends of their edges into the columns of leaving and of arriving edges; how many they are, and the lowest, is noted.
use mathlib.Core.Path.{◌≡◌, refl, ap, ◌∙◌, sym, subst}
use mathlib.Core.List.{List}
use Prim.Native.Nat.{ℕ, ◌+◌, ◌-◌, ◌*◌, ◌<◌, ◌≤◌}
use native.Mathlib.Omega.{arith}
use lib.ListN.{length, set, length-set}
use Rattle.paper.specs.Links.{valence, lowest}
use Rattle.walk.specs.Table.{valence_here, entry}
use Rattle.checks.specs.columns.Vertices.{vertex_row, last_here, leaving_here, arriving_here, count_here, lowest_here, noted, NotesKept, HasRow}
use Rattle.checks.specs.columns.Chain.{earlier_of, EarliersFrom, last_of, Chain, Chained, Clear}
use Rattle.checks.proofs.columns.Notes.{note_put, note_kept}
use Rattle.checks.proofs.columns.Chains.{On, above_head, at_vertex, on_from, chained_own}
use Rattle.checks.specs.edges.Entries.{to, from, ChainsFrom, ColumnKeyed, BothKeyed, Hit, InColumn, MarkedFrom, CountedAt, Unmarked}

-- ---- marking
pub keyed_clear : (corners table vertices : List ℕ) → Clear vertices leaving_here → Clear vertices arriving_here → BothKeyed corners table vertices
keyed_clear corners table vertices l a =
    record {
      left = record { inside = λ t n. absurd (n (l t)); key_is = λ t n. absurd (n (l t)) };
      arrived = record { inside = λ t n. absurd (n (a t)); key_is = λ t n. absurd (n (a t)) };
    }

-- the chain of u, as the table has it
pub chain_here : (corners table : List ℕ) (u at : ℕ) → On corners u at → (at ≡ 0 → ⊥) → ChainsFrom corners table u
    → entry table valence_here (at - 1) ≡ earlier_of corners (at - 1)
unfolding EarliersFrom Chain
chain_here corners table u at o z f = f (at - 1) (omega (arith, z, o.inside)) (omega (arith, o.chain (at - 1) (omega arith)))

-- one column, before and after a store of `at` by its corner's key
module _ (corners : List ℕ) (earlier last : ℕ → ℕ) (k : Chained corners earlier last) (u at : ℕ) (o : On corners u at) (n : at ≡ 0 → ⊥)
    (key column column' : ℕ → ℕ)
    (stored : (P : ℕ → Type 0) (j : ℕ) → (j ≡ key (at - 1) → P at) → ((j ≡ key (at - 1) → ⊥) → P (column j)) → P (column' j)) where
  keyed_step : ColumnKeyed corners key column → ColumnKeyed corners key column'
  keyed_step m =
      record {
        inside = λ t. stored (λ x. (x ≡ 0 → ⊥) → x ≤ length corners) t (λ q z. o.inside) (λ q. m.inside t);
        key_is = λ t. stored (λ x. (x ≡ 0 → ⊥) → key (x - 1) ≡ t) t (λ q z. sym q) (λ q. m.key_is t);
      }

  marked_step : InColumn corners key column u at → InColumn corners key column' u (earlier (at - 1))
  unfolding InColumn
  marked_step f d a b v =
      let l = on_from corners earlier last k u at o n d a v in
      stored (Hit corners u d) (key d)
      (λ q. record { some = n; low = l; own = at_vertex corners earlier last k u at o n })
      (λ q. let ne : d ≡ at - 1 → ⊥ = λ e. q (ap key e) in f d (omega (arith, ne, l)) b v)

-- both columns
pub marked_none : (corners table vertices : List ℕ) (u : ℕ) → BothKeyed corners table vertices → MarkedFrom corners table vertices u (last_of corners u)
unfolding InColumn
marked_none corners table vertices u m =
    let above = above_head corners (earlier_of corners) (last_of corners) (chained_own corners) u in
    record { keyed = m; left_from = λ d a b v. absurd (above d a b v); arrived_from = λ d a b v. absurd (above d a b v) }

-- the columns that marking does not use
pub record RowsKept (old new : List ℕ) : Type 0 where
  pub heads : NotesKept old new last_here
  pub counts : NotesKept old new count_here

module _ (corners table vertices : List ℕ) (u at : ℕ)
    (o : On corners u at) (n : at ≡ 0 → ⊥) (t f : ℕ) (et : t ≡ to corners table (at - 1)) (ef : f ≡ from corners table (at - 1))
    (rt : vertex_row * t + vertex_row ≤ length vertices) (rf : vertex_row * f + vertex_row ≤ length vertices) where
  both_kept : (j : ℕ) → j < vertex_row → (j ≡ leaving_here → ⊥) → (j ≡ arriving_here → ⊥)
      → NotesKept vertices (set (set vertices (vertex_row * t + leaving_here) at) (vertex_row * f + arriving_here) at) j
  both_kept j l p q c =
      note_kept (set vertices (vertex_row * t + leaving_here) at) arriving_here f at (omega arith) j l q c
      ∙ note_kept vertices leaving_here t at (omega arith) j l p c

  pub rows_more : (old : List ℕ) → RowsKept old vertices
      → RowsKept old (set (set vertices (vertex_row * t + leaving_here) at) (vertex_row * f + arriving_here) at)
  rows_more old m =
      record {
        heads = λ c. both_kept last_here (omega arith) (λ q. omega arith) (λ q. omega arith) c ∙ m.heads c;
        counts = λ c. both_kept count_here (omega arith) (λ q. omega arith) (λ q. omega arith) c ∙ m.counts c;
      }

  leaving_stored : (P : ℕ → Type 0) (j : ℕ) → (j ≡ to corners table (at - 1) → P at) → ((j ≡ to corners table (at - 1) → ⊥) → P (noted vertices leaving_here j))
      → P (noted (set (set vertices (vertex_row * t + leaving_here) at) (vertex_row * f + arriving_here) at) leaving_here j)
  leaving_stored P j same other =
      subst P (sym (note_kept (set vertices (vertex_row * t + leaving_here) at) arriving_here f at (omega arith) leaving_here (omega arith) (λ q. omega arith) j))
      (note_put vertices leaving_here t at P j (omega arith) (λ q. same (q ∙ et)) (λ q. other (λ z. q (z ∙ sym et))))

  arriving_stored : (P : ℕ → Type 0) (j : ℕ) → (j ≡ from corners table (at - 1) → P at) →
      ((j ≡ from corners table (at - 1) → ⊥) → P (noted vertices arriving_here j))
      → P (noted (set (set vertices (vertex_row * t + leaving_here) at) (vertex_row * f + arriving_here) at) arriving_here j)
  arriving_stored P j same other =
      note_put (set vertices (vertex_row * t + leaving_here) at) arriving_here f at P j
      (omega (arith, length-set vertices (vertex_row * t + leaving_here) at)) (λ q. same (q ∙ ef))
      (λ q. subst P (sym (note_kept vertices leaving_here t at (omega arith) arriving_here (omega arith) (λ q. omega arith) j)) (other (λ z. q (z ∙ sym ef))))

  pub marked_more : MarkedFrom corners table vertices u at
      → MarkedFrom corners table (set (set vertices (vertex_row * t + leaving_here) at) (vertex_row * f + arriving_here) at) u (earlier_of corners (at - 1))
  marked_more m =
      let keyed = keyed_step corners (earlier_of corners) (last_of corners) (chained_own corners) u at o n in
      let marked = marked_step corners (earlier_of corners) (last_of corners) (chained_own corners) u at o n in
      record {
        keyed = record {
          left = keyed (to corners table) (noted vertices leaving_here) _ leaving_stored m.keyed.left;
          arrived = keyed (from corners table) (noted vertices arriving_here) _ arriving_stored m.keyed.arrived;
        };
        left_from = marked (to corners table) (noted vertices leaving_here) _ leaving_stored m.left_from;
        arrived_from = marked (from corners table) (noted vertices arriving_here) _ arriving_stored m.arrived_from;
      }

-- ---- what is noted of u: n corners, and the lowest
abbrev pub noting : List ℕ → ℕ → ℕ → ℕ → List ℕ
noting vertices u n low = set (set vertices (vertex_row * u + count_here) n) (vertex_row * u + lowest_here) low

module _ (corners table vertices : List ℕ) (u n low : ℕ) (r : HasRow vertices u) where
  noted_kept : (j : ℕ) → j < vertex_row → (j ≡ count_here → ⊥) → (j ≡ lowest_here → ⊥) → NotesKept vertices (noting vertices u n low) j
  noted_kept j l p q c =
      note_kept (set vertices (vertex_row * u + count_here) n) lowest_here u low (omega arith) j l q c
      ∙ note_kept vertices count_here u n (omega arith) j l p c

  noted_long : length (set vertices (vertex_row * u + count_here) n) ≡ length vertices
  noted_long = length-set vertices (vertex_row * u + count_here) n

  noted_count : (P : ℕ → Type 0) (v : ℕ) → (v ≡ u → P n) → ((v ≡ u → ⊥) → P (noted vertices count_here v)) → P (noted (noting vertices u n low) count_here v)
  noted_count P v same other =
      subst P (sym (note_kept (set vertices (vertex_row * u + count_here) n) lowest_here u low (omega arith) count_here (omega arith) (λ q. omega arith) v))
      (note_put vertices count_here u n P v (omega arith) same other)

  noted_lowest : (P : ℕ → Type 0) (v : ℕ) → (v ≡ u → P low) → ((v ≡ u → ⊥) → P (noted vertices lowest_here v))
      → P (noted (noting vertices u n low) lowest_here v)
  noted_lowest P v same other =
      note_put (set vertices (vertex_row * u + count_here) n) lowest_here u low P v (omega (arith, noted_long)) same
      (λ q. subst P (sym (note_kept vertices count_here u n (omega arith) lowest_here (omega arith) (λ z. omega arith) v)) (other q))

  pub noted_at : n ≡ valence corners u → (lowest corners u < length corners → low ≡ lowest corners u) → CountedAt corners (noting vertices u n low) u
  noted_at e f =
      record {
        count_is = noted_count (λ x. x ≡ valence corners u) u (λ q. e) (λ q. absurd (q refl));
        lowest_is = λ h. noted_lowest (λ x. x ≡ lowest corners u) u (λ q. f h) (λ q. absurd (q refl));
      }

  pub noted_rest : (old : List ℕ) → RowsKept old vertices → Unmarked old (noting vertices u n low) u
  noted_rest old k =
      record {
        heads = λ v m. noted_lowest (λ x. x ≡ noted old last_here v) v (λ q. absurd (m q)) (λ q. k.heads v);
        counts = λ v m. noted_count (λ x. x ≡ noted old count_here v) v (λ q. absurd (m q)) (λ q. k.counts v);
      }

  -- the marks stand in other columns
  pub noted_marks : (at : ℕ) → MarkedFrom corners table vertices u at → MarkedFrom corners table (noting vertices u n low) u at
  unfolding InColumn
  noted_marks at m =
      let l = noted_kept leaving_here (omega arith) (λ q. omega arith) (λ q. omega arith) in
      let a = noted_kept arriving_here (omega arith) (λ q. omega arith) (λ q. omega arith) in
      record {
        keyed = record { left = keyed_same l m.keyed.left; arrived = keyed_same a m.keyed.arrived };
        left_from = λ d b h v. subst (Hit corners u d) (sym (l (to corners table d))) (m.left_from d b h v);
        arrived_from = λ d b h v. subst (Hit corners u d) (sym (a (from corners table d))) (m.arrived_from d b h v);
      }
    where
      keyed_same : {key f g : ℕ → ℕ} → ((t : ℕ) → g t ≡ f t) → ColumnKeyed corners key f → ColumnKeyed corners key g
      keyed_same {key} {f} {g} e k =
          record {
            inside = λ t. subst (λ (x : ℕ). (x ≡ 0 → ⊥) → x ≤ length corners) (sym (e t)) (k.inside t);
            key_is = λ t. subst (λ (x : ℕ). (x ≡ 0 → ⊥) → key (x - 1) ≡ t) (sym (e t)) (k.key_is t);
          }
