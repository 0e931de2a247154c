-- What each passed check gives to the later ones: rooms, sums and names for filling the tables, unique edges with reverses for the links;
-- and how the answers make up the verdict.
use mathlib.Core.Path.{◌≡◌, ◌∙◌, sym}
use mathlib.Core.List.{List}
use Prim.Native.Nat.{ℕ, ◌*◌, ◌≤◌}
use native.Mathlib.Omega.{arith}
use lib.ListN.{length, replicate, length-replicate}
use Rattle.paper.specs.Mesh.{Mesh, vertex_count, corner_count, most_vertices, most_corners}
use Rattle.paper.specs.Links.{link}
use Rattle.paper.specs.Refined.{corners_of}
use Rattle.paper.specs.Faults.{Verdict, sound, fault, ◌or_else◌, lowest_of, fault8, fault10, fault11, fault12, fault13, list_faults, Answer}
use Rattle.paper.specs.Faults.{link_faults, verdict, stated}
use Rattle.mesh.specs.Closed.{Closed}
use Rattle.mesh.proofs.Faces.{next_below, previous_below}
use Rattle.mesh.proofs.Links.{link_in}
use Rattle.mesh.proofs.Verdicts.{sound_left, sound_right, lowest_sound, or_else_fault, or_else_sound, or_else_assoc, unsound}
use Rattle.mesh.proofs.Accepted.{named_of}
use Rattle.walk.specs.Table.{row_length, to_link, Column, Tabled}
use Rattle.walk.proofs.Table.{blank}
use Rattle.list_checks.specs.Entries.{Listed}
use Rattle.list_checks.proofs.Entries.{then_nine}
use Rattle.list_checks.proofs.Entries as entry-laws
use Rattle.checks.specs.columns.Vertices.{vertex_row, Rowed}
use Rattle.checks.specs.columns.Chain.{EarliersTo, EarliersFrom, LastsTo, Ready}
use Rattle.checks.specs.columns.Filled.{FacesFilled, CornersCounted}
use Rattle.checks.specs.edges.Entries.{Entries, Valences, Searchable, ChainsFrom, HeadsFrom, StepsBelong, EntriesFound}
use Rattle.checks.specs.vertices.Ring.{Linking}
use Rattle.checks.specs.Checked.{RowsFor, RoomFor, Checked, ListsChecked}

-- a table of p rows, and beside it one of q rows for the vertices, of zeros
pub rows_for : (n p : ℕ) → (n ≤ most_corners → n ≤ p) → RowsFor n (replicate (row_length * p) 0)
rows_for n p a h = rw (length-replicate {A = ℕ} (row_length * p) 0) (omega (arith, a h))

pub room : (M : Mesh) (table : List ℕ) (q : ℕ) → RowsFor (corner_count M) table → (vertex_count M ≤ most_vertices → vertex_count M ≤ q)
    → RoomFor M table (replicate (vertex_row * q) 0)
room M table q a b =
    record {
      corners_fit = a;
      vertices_fit = λ h. rw (length-replicate {A = ℕ} (vertex_row * q) 0) (omega (arith, b h));
      blank = blank (vertex_row * q);
    }

-- after 4 and 8 the vertex of every corner has a row
pub rowed : (M : Mesh) (vertices : List ℕ) → vertex_count M ≤ most_vertices → (vertex_count M ≤ most_vertices → vertex_row * vertex_count M ≤ length vertices)
    → lowest_of 8 (corner_count M) (fault8 (vertex_count M) M.corners) ≡ sound → Rowed M.corners vertices
rowed M vertices l r e c h =
    omega (arith, r l, named_of (vertex_count M) M.corners c (lowest_sound 8 (corner_count M) (fault8 (vertex_count M) M.corners) e c h))

pub lists_refused : (M : Mesh) (table vertices : List ℕ) (r : Answer) (k p : ℕ) → stated r ≡ fault k p → fault k p ≡ list_faults M
    → ListsChecked M r table vertices
lists_refused M table vertices r k p q e = record { answers = q ∙ e; ready = λ z. unsound k p (sym q ∙ z); faced = λ z. unsound k p (sym q ∙ z) }

-- after 4 to 9 with 27 and 28
pub listed : (M : Mesh) → list_faults M ≡ sound → Listed M
listed M e = entry-laws.listed M (sound_left _ _ (then_nine M ∙ e))

module _ (M : Mesh) (g : Listed M) where
  pub rows : (vertices : List ℕ) → vertex_row * vertex_count M ≤ length vertices → Rowed M.corners vertices
  rows vertices l c h = omega (arith, g.named c h)

  -- the columns of the faces
  module _ (table : List ℕ) (f : FacesFilled M.sides table) where
    pub ends : StepsBelong M.sides M.corners table
    ends = record { sums = g.sums; nexts = λ c l. f.nexts c (omega (arith, g.sums)); previouses = λ c l. f.previouses c (omega (arith, g.sums)) }

    pub searchable : (vertices : List ℕ) → row_length * corner_count M ≤ length table → vertex_row * vertex_count M ≤ length vertices
        → Searchable M.corners table vertices
    searchable vertices lt lv =
        record {
          small = g.small;
          long = lt;
          rowed = rows vertices lv;
          nexts_in = λ c l. omega (arith, g.sums, ends.nexts c l, next_below M.sides c (omega (arith, g.sums)));
          previouses_in = λ c l. omega (arith, g.sums, ends.previouses c l, previous_below M.sides c (omega (arith, g.sums)));
        }

module _ (corners table vertices : List ℕ) (r : Ready corners table vertices) where
  pub chains : ChainsFrom corners table 0
  unfolding EarliersTo EarliersFrom
  chains c h l = r.chained.earliers_are c h

  pub heads : HeadsFrom corners vertices 0
  unfolding LastsTo
  heads v l = r.chained.lasts_are v

-- tables that are filled for checks 10 to 13, of lists that have passed 4 to 9: an entry for the link of each corner, its valence, and the
-- vertices are counted
pub record FilledFor (M : Mesh) (table vertices : List ℕ) : Type 0 where
  pub passed : list_faults M ≡ sound
  pub long : row_length * corner_count M ≤ length table
  pub long_vertices : vertex_row * vertex_count M ≤ length vertices
  pub faces : FacesFilled M.sides table
  pub entries : Entries M.sides M.corners table
  pub valences : Valences M.corners table
  pub counted : CornersCounted M.corners vertices

-- after the search, which leaves the columns of the faces as they were
pub filled_for : (M : Mesh) → list_faults M ≡ sound → (old table vertices : List ℕ) → row_length * corner_count M ≤ length table
    → vertex_row * vertex_count M ≤ length vertices → FacesFilled M.sides old → EntriesFound M.corners old table vertices → FilledFor M table vertices
filled_for M e old table vertices lt lv f k =
    let faced : FacesFilled M.sides table =
    record {
      nexts = λ c h. k.faces.nexts c ∙ f.nexts c h;
      previouses = λ c h. k.faces.previouses c ∙ f.previouses c h;
      sides_are = λ c h. k.faces.sides_are c ∙ f.sides_are c h;
    } in
    record {
      passed = e;
      long = lt;
      long_vertices = lv;
      faces = faced;
      entries = k.entries M.sides (ends M (listed M e) table faced);
      valences = k.valences;
      counted = k.counted;
    }

-- after 10 and 11
abbrev pub edge_faults : Mesh → Verdict
edge_faults M = lowest_of 10 (corner_count M) (fault10 M.sides M.corners) or_else lowest_of 11 (corner_count M) (fault11 M.sides M.corners)

pub closed : (M : Mesh) → Listed M → edge_faults M ≡ sound → Closed M.sides M.corners
closed M g e = record { sums = g.sums; ten = lowest_sound _ _ _ (sound_left _ _ e); eleven = lowest_sound _ _ _ (sound_right _ _ e) }

pub linking : (M : Mesh) (table : List ℕ) → Closed M.sides M.corners → row_length * corner_count M ≤ length table
    → Column table to_link (link M.sides M.corners) (corner_count M) → Linking table (corner_count M)
linking M table k l t = record { long = l; links_in = λ c h. omega (arith, t c h, link_in M.sides M.corners k c h) }

-- the table of corners, column by column
pub tabled : (M : Mesh) (table vertices : List ℕ) → FilledFor M table vertices
    → Column table to_link (link M.sides M.corners) (corner_count M) → Tabled (corners_of M) table
tabled M table vertices f t =
    let g = listed M f.passed in
    record {
      long = f.long;
      nexts = λ c h. f.faces.nexts c (omega (arith, g.sums));
      previouses = λ c h. f.faces.previouses c (omega (arith, g.sums));
      links = t;
      sides = λ c h. f.faces.sides_are c (omega (arith, g.sums));
      valences = f.valences;
    }

-- ---- the ways out of the whole check
module _ (M : Mesh) (table : List ℕ) where
  stopped : (r : Answer) (k p : ℕ) → stated r ≡ fault k p → fault k p ≡ verdict M → Checked M r table
  stopped r k p q v = record { answers = q ∙ v; tabled = λ a. unsound k p (v ∙ a) }

  pub stopped_lists : (r : Answer) (k p : ℕ) → stated r ≡ fault k p → fault k p ≡ list_faults M → Checked M r table
  unfolding verdict
  stopped_lists r k p q e = stopped r k p q (sym (or_else_fault k p (link_faults M) (sym e)))

  module _ (e : list_faults M ≡ sound) where
    pub stopped_edges : (r : Answer) (k p : ℕ) → stated r ≡ fault k p → fault k p ≡ edge_faults M → Checked M r table
    unfolding verdict link_faults
    stopped_edges r k p q f =
        stopped r k p q (sym (or_else_sound (link_faults M) e ∙ sym (or_else_assoc _ _ _) ∙ or_else_fault k p _ (sym f)))

    pub checked : (r : Answer) → edge_faults M ≡ sound
        → stated r ≡ lowest_of 12 (vertex_count M) (fault12 M.corners) or_else lowest_of 13 (vertex_count M) (fault13 M.sides M.corners)
        → (stated r ≡ sound → Tabled (corners_of M) table) → Checked M r table
    unfolding verdict link_faults
    checked r f v t =
        let q : stated r ≡ verdict M = v ∙ sym (or_else_sound (link_faults M) e ∙ sym (or_else_assoc _ _ _) ∙ or_else_sound _ f) in
        record { answers = q; tabled = λ a. t (q ∙ a) }
