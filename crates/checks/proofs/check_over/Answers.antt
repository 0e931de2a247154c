-- The check over both tables meets its contract: a fault of the lists is the verdict; else the columns of the faces and the chains let the search
-- find the entries, after 10 and 11 these are the links, and 12 and 13 complete the verdict.
use mathlib.Core.Path.{◌≡◌, refl, ap, ◌∙◌, sym}
use mathlib.Core.List.{List}
use Prim.Native.Nat.{ℕ, ◌*◌, ◌≤◌}
use lib.ListN.{length}
use Rattle.paper.specs.Mesh.{Mesh, corner_count, vertex_count, of_lists}
use Rattle.paper.specs.Links.{link}
use Rattle.paper.specs.Faults.{sound, list_faults, stated, Answer}
use Rattle.mesh.specs.Closed.{Closed}
use Rattle.list_checks.proofs.Laws.{handed}
use Rattle.walk.specs.Table.{row_length, to_link, Column}
use Rattle.checks.specs.columns.Vertices.{vertex_row}
use Rattle.checks.specs.columns.Chain.{Ready}
use Rattle.checks.specs.columns.Filled.{FacesFilled}
use Rattle.checks.specs.Checked.{RoomFor, ListsChecked}
use Rattle.checks.specs.edges.Entries.{EntriesFound, EdgesChecked}
use Rattle.list_checks.specs.Entries.{Listed}
use Rattle.checks.proofs.Laws.{listed, searchable, chains, heads, FilledFor, filled_for, edge_faults, closed, linking, tabled, stopped_lists}
use Rattle.checks.proofs.Laws.{stopped_edges, checked}
use native.Mathlib.Omega.{arith}
use Rattle.checks.proofs.check_over.Goals as goal

-- the mesh of a call: M; the tables as they were lent, t0 and v0, after checks 4 to 9, t1 and v1, and after the search for the links, t2 and v2
module _ (M : Mesh) (a : Answer) (t1 v1 : List ℕ) (k : ListsChecked M a t1 v1) (done : stated a ≡ sound) where
  -- after checks 4 to 9
  lists_sound : list_faults M ≡ sound
  lists_sound = sym k.answers ∙ done

  lists : Listed M
  lists = listed M lists_sound

  ready : Ready M.corners t1 v1
  ready = k.ready done

  faced : FacesFilled M.sides t1
  faced = k.faced done

  module _ (t0 v0 : List ℕ) (room : RoomFor M t0 v0) (lt : length t1 ≡ length t0) (lv : length v1 ≡ length v0) where
    long_table : row_length * corner_count M ≤ length t1
    long_table = omega (arith, room.corners_fit lists.small)

    long_vertices : vertex_row * vertex_count M ≤ length v1
    long_vertices = omega (arith, room.vertices_fit lists.few)

    -- after the search for the links
    filled : (t2 v2 : List ℕ) → length t2 ≡ length t1 → length v2 ≡ length v1 → EntriesFound M.corners t1 t2 v2 → FilledFor M t2 v2
    filled t2 v2 mt mv e = filled_for M lists_sound _ _ _ (omega (arith, long_table)) (omega (arith, long_vertices)) faced e

-- after checks 10 and 11
module _ (M : Mesh) (l : Listed M) (b : Answer) (t2 v2 : List ℕ) (f : FilledFor M t2 v2) (k : EdgesChecked M.corners t2 b) (done : stated b ≡ sound) where
  edges_sound : edge_faults M ≡ sound
  edges_sound = sym (k.answers M.sides l.sums f.entries) ∙ done

  links : Column t2 to_link (link M.sides M.corners) (corner_count M)
  links = k.links M.sides l.sums f.entries done

  closes : Closed M.sides M.corners
  closes = closed M l edges_sound

pub returns-in_err-check_lists : goal.returns-in_err-check_lists
returns-in_err-check_lists c =
    let M = of_lists c.args.lists in
    let b = c.from_residual in
    let k = c.in_err-check_lists in
    let r = k.field-0.0 in
    stopped_lists M _ b.result r.number r.place (handed b.result r b.ensures.1 refl) (sym (ap stated k.was) ∙ c.check_lists.ensures.answers)

pub fill_links-requires : goal.fill_links-requires
fill_links-requires c =
    let M = of_lists c.args.lists in
    let a = c.check_lists in
    let done = ap stated c.in_ok-check_lists.was in
    let l = lists M a.result a.new.table a.new.vertices a.ensures done in
    let r = ready M a.result a.new.table a.new.vertices a.ensures done in
    let lt = long_table M a.result a.new.table a.new.vertices a.ensures done c.args.table.now c.args.vertices.now c.requires a.auto.table a.auto.vertices in
    let lv = long_vertices M a.result a.new.table a.new.vertices a.ensures done c.args.table.now c.args.vertices.now c.requires a.auto.table a.auto.vertices in record {
      walk = (searchable M l _ (faced M a.result a.new.table a.new.vertices a.ensures done) _ lt lv, chains _ _ _ r, heads _ _ _ r);
      vertices = (l.named, lv);
      clear = (r.leaving_clear, r.arriving_clear, r.count_clear);
    }

pub check_entries-requires : goal.check_entries-requires
check_entries-requires c =
    let M = of_lists c.args.lists in
    let a = c.check_lists in
    let done = ap stated c.in_ok-check_lists.was in
    let l = lists M a.result a.new.table a.new.vertices a.ensures done in
    let x = c.fill_links in
    let f = filled M a.result a.new.table a.new.vertices a.ensures done c.args.table.now c.args.vertices.now c.requires a.auto.table a.auto.vertices x.new.table x.new.vertices x.auto.table x.auto.vertices x.ensures in
    (l.small, f.long)

pub returns-in_err-check_entries : goal.returns-in_err-check_entries
returns-in_err-check_entries c =
    let M = of_lists c.args.lists in
    let a = c.check_lists in
    let done = ap stated c.in_ok-check_lists.was in
    let l = lists M a.result a.new.table a.new.vertices a.ensures done in
    let x = c.fill_links in
    let f = filled M a.result a.new.table a.new.vertices a.ensures done c.args.table.now c.args.vertices.now c.requires a.auto.table a.auto.vertices x.new.table x.new.vertices x.auto.table x.auto.vertices x.ensures in
    let b = c.from_residual-in_err-check_entries in
    let k = c.in_err-check_entries in
    let r = k.field-0.0 in
    stopped_edges M _ f.passed b.result r.number r.place (handed b.result r b.ensures.1 refl) (sym (ap stated k.was) ∙ c.check_entries.ensures.answers M.sides l.sums f.entries)

pub check_vertices-requires : goal.check_vertices-requires
check_vertices-requires c =
    let M = of_lists c.args.lists in
    let a = c.check_lists in
    let done = ap stated c.in_ok-check_lists.was in
    let l = lists M a.result a.new.table a.new.vertices a.ensures done in
    let x = c.fill_links in
    let f = filled M a.result a.new.table a.new.vertices a.ensures done c.args.table.now c.args.vertices.now c.requires a.auto.table a.auto.vertices x.new.table x.new.vertices x.auto.table x.auto.vertices x.ensures in
    let b = c.check_entries in
    let none = ap stated c.in_ok-check_entries.was in record {
      counted = (l.few, f.long_vertices, f.counted);
      links = linking M _ (closes M l b.result _ _ f b.ensures none) f.long (links M l b.result _ _ f b.ensures none);
    }

pub returns : goal.returns
returns c =
    let M = of_lists c.args.lists in
    let a = c.check_lists in
    let done = ap stated c.in_ok-check_lists.was in
    let l = lists M a.result a.new.table a.new.vertices a.ensures done in
    let x = c.fill_links in
    let f = filled M a.result a.new.table a.new.vertices a.ensures done c.args.table.now c.args.vertices.now c.requires a.auto.table a.auto.vertices x.new.table x.new.vertices x.auto.table x.auto.vertices x.ensures in
    let b = c.check_entries in
    let none = ap stated c.in_ok-check_entries.was in
    let e = links M l b.result _ _ f b.ensures none in
    checked M _ f.passed c.check_vertices.result (edges_sound M l b.result _ _ f b.ensures none)
    (c.check_vertices.ensures M.sides (closes M l b.result _ _ f b.ensures none) e) (λ z. tabled M _ _ f e)
