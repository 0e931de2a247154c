-- The turns of the loops that fill the columns.
use mathlib.Core.Path.{◌≡◌, ap, ◌∙◌, sym}
use mathlib.Core.Bool.{true, false}
use mathlib.Core.List.{List}
use Prim.Native.Nat.{ℕ, suc, ◌+◌, ◌-◌, ◌*◌, ◌<◌, ◌≤◌}
use native.Mathlib.Omega.{arith}
use lib.ListN.{length, get_or, set, length-set}
use borrow.Author.Tests.{eq-eqb, ne_eqb, eqb-true}
use Rattle.paper.specs.Scan.{first_below, count_below}
use Rattle.paper.specs.Corners.{sum_of, start_of, first_of, sides_of, next, previous}
use Rattle.paper.specs.Links.{vertex_of, names, valence, lowest}
use Rattle.mesh.proofs.Scans.{first_passes, first_le}
use Rattle.mesh.proofs.Faces.{face_at, start_zero, next_below, previous_first, previous_inner, previous_next, next_previous}
use Rattle.mesh.proofs.Rings.{count_hit, count_miss, count_le}
use Rattle.walk.specs.Table.{row_length, to_next, to_previous, sides_here, valence_here, entry, Kept}
use Rattle.walk.proofs.Table.{put, kept_put}
use Rattle.checks.specs.columns.Vertices.{vertex_row, count_here, lowest_here, noted, NotesKept}
use Rattle.checks.specs.columns.Chain.{Clear}
use Rattle.checks.specs.columns.Filled.{FacesTo, FacesFilled, row_filled, CornersCounted}
use Rattle.checks.proofs.columns.Notes.{note_put, note_kept}

-- ---- the corners of face f
module _ (sides : List ℕ) (f : ℕ) (l : f < length sides) where
  module _ (c : ℕ) (a : start_of sides f ≤ c) (b : c < start_of sides f + get_or sides f 0) where
    first_is : first_of sides c ≡ start_of sides f
    unfolding first_of
    first_is = ap (start_of sides) (face_at sides f c a b l)

    pub sides_is : sides_of sides c ≡ get_or sides f 0
    unfolding sides_of
    sides_is = ap (λ (x : ℕ). get_or sides x 0) (face_at sides f c a b l)

  pub previous_start : 0 < get_or sides f 0 → previous sides (start_of sides f) ≡ start_of sides f + get_or sides f 0 - 1
  previous_start h =
      let i = first_is (start_of sides f) (omega arith) (omega arith) in
      let j = sides_is (start_of sides f) (omega arith) (omega arith) in
      previous_first sides (start_of sides f) (omega arith) ∙ omega arith

  pub previous_later : (c : ℕ) → start_of sides f ≤ c → c + 1 < start_of sides f + get_or sides f 0 → previous sides (c + 1) ≡ c
  previous_later c a b =
      let i = first_is (c + 1) (omega arith) (omega arith) in
      previous_inner sides (c + 1) (λ q. omega arith) ∙ omega arith

-- ---- the columns of the faces
module _ (sides table : List ℕ) where
  pub faces_none : FacesTo sides table (start_of sides 0)
  faces_none =
      record {
        nexts = λ c h. absurd (omega (arith, start_zero sides));
        previouses = λ c h. absurd (omega (arith, start_zero sides));
        sides_are = λ c h. absurd (omega (arith, start_zero sides));
      }

  -- one corner more
  module _ (c last n : ℕ) (b : c < sum_of sides) (i : last < sum_of sides) (e : last ≡ previous sides c) (m : n ≡ sides_of sides c)
      (long : row_length * sum_of sides ≤ length table) where
    first_kept : (k : ℕ) → k < row_length → (k ≡ to_next → ⊥) → Kept table (set table (row_length * last + to_next) c) k
    first_kept = kept_put table to_next last c (omega arith)

    second_kept : (k : ℕ) → k < row_length → (k ≡ to_previous → ⊥)
        → Kept (set table (row_length * last + to_next) c) (set (set table (row_length * last + to_next) c) (row_length * c + to_previous) last) k
    second_kept = kept_put (set table (row_length * last + to_next) c) to_previous c last (omega arith)

    third_kept : (k : ℕ) → k < row_length → (k ≡ sides_here → ⊥)
        → Kept (set (set table (row_length * last + to_next) c) (row_length * c + to_previous) last) (row_filled table c last n) k
    third_kept = kept_put (set (set table (row_length * last + to_next) c) (row_length * c + to_previous) last) sides_here c n (omega arith)

    pub faces_chains : Kept table (row_filled table c last n) valence_here
    faces_chains d =
        third_kept valence_here (omega arith) (λ q. omega arith) d
        ∙ second_kept valence_here (omega arith) (λ q. omega arith) d
        ∙ first_kept valence_here (omega arith) (λ q. omega arith) d

    pub faces_step : FacesTo sides table c → FacesTo sides (row_filled table c last n) (c + 1)
    faces_step t =
        let one : length (set table (row_length * last + to_next) c) ≡ length table = length-set table (row_length * last + to_next) c in
        let two : length (set (set table (row_length * last + to_next) c) (row_length * c + to_previous) last) ≡ length table =
        length-set (set table (row_length * last + to_next) c) (row_length * c + to_previous) last ∙ one in
        record {
          nexts = λ d l.
              third_kept to_next (omega arith) (λ q. omega arith) (previous sides d)
              ∙ second_kept to_next (omega arith) (λ q. omega arith) (previous sides d)
              ∙ put table to_next last c (λ y. y ≡ d) (previous sides d) (omega arith)
              (λ q. sym (next_previous sides c b) ∙ ap (next sides) (sym e ∙ sym q) ∙ next_previous sides d (omega arith))
              (λ q. t.nexts d (lower d l (λ y. q (ap (previous sides) y ∙ sym e))));
          previouses = λ d l.
              third_kept to_previous (omega arith) (λ q. omega arith) d
              ∙ put (set table (row_length * last + to_next) c) to_previous c last (λ y. y ≡ previous sides d) d (omega arith)
              (λ q. rw q e)
              (λ q. first_kept to_previous (omega arith) (λ z. omega arith) d ∙ t.previouses d (lower d l q));
          sides_are = λ d l.
              put (set (set table (row_length * last + to_next) c) (row_length * c + to_previous) last) sides_here c n (λ y. y ≡ sides_of sides d) d (omega arith)
              (λ q. rw q m)
              (λ q. second_kept sides_here (omega arith) (λ z. omega arith) d
              ∙ first_kept sides_here (omega arith) (λ z. omega arith) d ∙ t.sides_are d (lower d l q));
        }
      where
        lower : (d : ℕ) → d < c + 1 → (d ≡ c → ⊥) → d < c
        lower d l q = omega (arith, q)

  pub faces_all : (n : ℕ) → n ≡ sum_of sides → FacesTo sides table n → FacesFilled sides table
  faces_all n e t =
      record {
        nexts = λ c h.
            let b = next_below sides c h in
            ap (entry table to_next) (sym (previous_next sides c h)) ∙ t.nexts (next sides c) (omega arith);
        previouses = λ c h. t.previouses c (omega arith);
        sides_are = λ c h. t.sides_are c (omega arith);
      }

  -- a store in the column of chains
  pub faces_beside : (c x n : ℕ) → FacesTo sides table n → FacesTo sides (set table (row_length * c + valence_here) x) n
  faces_beside c x n t =
      let k = kept_put table valence_here c x (omega arith) in
      record {
        nexts = λ d h. k to_next (omega arith) (λ q. omega arith) (previous sides d) ∙ t.nexts d h;
        previouses = λ d h. k to_previous (omega arith) (λ q. omega arith) d ∙ t.previouses d h;
        sides_are = λ d h. k sides_here (omega arith) (λ q. omega arith) d ∙ t.sides_are d h;
      }

-- ---- the corners from c on are counted
pub record CountedFrom (corners vertices : List ℕ) (c : ℕ) : Type 0 where
  pub rest : (u : ℕ) → noted vertices count_here u + count_below c (names corners u) ≡ valence corners u
  pub least : (u d : ℕ) → c ≤ d → d < length corners → vertex_of corners d ≡ u → noted vertices lowest_here u ≤ d
  pub own : (u d : ℕ) → c ≤ d → d < length corners → vertex_of corners d ≡ u → vertex_of corners (noted vertices lowest_here u) ≡ u

module _ (corners vertices : List ℕ) where
  pub counted_start : Clear vertices count_here → CountedFrom corners vertices (length corners)
  unfolding valence
  counted_start z =
      record {
        rest = λ u. omega (arith, z u);
        least = λ u d a b e. absurd (omega arith);
        own = λ u d a b e. absurd (omega arith);
      }

  pub counted_done : (c : ℕ) → c ≡ 0 → CountedFrom corners vertices c → CornersCounted corners vertices
  unfolding lowest names
  counted_done c e k =
      record {
        count_is = λ u. omega (arith, k.rest u, ap (λ (x : ℕ). count_below x (names corners u)) e, count_le (names corners u) 0);
        lowest_is = λ u h.
            let low = first_below (length corners) (names corners u) in
            let n : vertex_of corners low ≡ u = eqb-true _ _ (first_passes (length corners) (names corners u) h) in
            omega (
              arith,
              k.least u low (omega arith) h n,
              first_le (length corners) (names corners u) (noted vertices lowest_here u) (eq-eqb _ _ (k.own u low (omega arith) h n)),
            );
      }

  -- one corner more, c, which names v
  module _ (at c v : ℕ) (k : CountedFrom corners vertices at) (w : at ≡ suc c) (h : c < length corners) (e : vertex_of corners c ≡ v)
      (r : vertex_row * v + vertex_row ≤ length vertices) where
    counted_with : (u : ℕ) → noted vertices count_here u + count_below (suc c) (names corners u) ≡ valence corners u
    counted_with u = ap (λ (x : ℕ). noted vertices count_here u + count_below x (names corners u)) (sym w) ∙ k.rest u

    pub counted_small : noted vertices count_here v < length corners
    unfolding valence names
    counted_small =
        omega (arith, counted_with v, count_hit (names corners v) c (eq-eqb (vertex_of corners c) v e), count_le (names corners v) (length corners))

    pub counted_step :
        CountedFrom corners (set (set vertices (vertex_row * v + count_here) (noted vertices count_here v + 1)) (vertex_row * v + lowest_here) c) c
    unfolding names
    counted_step =
        let once = set vertices (vertex_row * v + count_here) (noted vertices count_here v + 1) in
        let size : length once ≡ length vertices = length-set vertices (vertex_row * v + count_here) (noted vertices count_here v + 1) in
        let counts : NotesKept once (set once (vertex_row * v + lowest_here) c) count_here =
        note_kept once lowest_here v c (omega arith) count_here (omega arith) (λ q. omega arith) in
        let lowests : NotesKept vertices once lowest_here =
        note_kept vertices count_here v (noted vertices count_here v + 1) (omega arith) lowest_here (omega arith) (λ q. omega arith) in
        record {
          rest = λ u.
              ap (λ (x : ℕ). x + count_below c (names corners u)) (counts u)
              ∙ note_put vertices count_here v (noted vertices count_here v + 1) (λ x. x + count_below c (names corners u) ≡ valence corners u) u (omega arith)
              (λ q. let b : names corners u c ≡ true = eq-eqb (vertex_of corners c) u (e ∙ sym q) in
              omega (arith, counted_with u, count_hit (names corners u) c b, ap (noted vertices count_here) q))
              (λ q. let b : names corners u c ≡ false = ne_eqb (vertex_of corners c) u (λ z. q (sym z ∙ e)) in
              omega (arith, counted_with u, count_miss (names corners u) c b));
          least = λ u d a b z.
              note_put once lowest_here v c (λ x. x ≤ d) u (omega arith) (λ q. a)
              (λ q. omega (arith, lowests u, k.least u d (above d a (λ y. q (sym z ∙ ap (vertex_of corners) y ∙ e))) b z));
          own = λ u d a b z.
              note_put once lowest_here v c (λ x. vertex_of corners x ≡ u) u (omega arith) (λ q. e ∙ sym q)
              (λ q. ap (vertex_of corners) (lowests u) ∙ k.own u d (above d a (λ y. q (sym z ∙ ap (vertex_of corners) y ∙ e))) b z);
        }
      where
        above : (d : ℕ) → c ≤ d → (d ≡ c → ⊥) → at ≤ d
        above d a n = omega (arith, n)
