-- `building::build_over` meets its contract: the checks of the mesh, of its links and of the range refuse, or what is written over the refined points of
-- the range is what the mesh has.
use mathlib.Core.Path.{◌≡◌, refl}
use lib.ListN.{length}
use Rattle.std.proofs.lemmas.Result.{err_from_is_err_and}
use Rattle.paper.specs.Mesh.{Mesh, of_lists}
use Rattle.paper.specs.Faults.{sound, verdict, Accepted}
use Rattle.paper.specs.Refined.{corners_of}
use Rattle.mesh.proofs.Verdicts.{passed}
use Rattle.walk.specs.Table.{Tabled}
use Rattle.checks.specs.Request.{links_faults, range_faults}
use Rattle.checks.proofs.requests.Laws.{Granted, granted}
use Rattle.building.proofs.writing.Laws.{drawn_written}
use Rattle.building.proofs.Laws.{few, mesh_refused, links_refused, range_refused, built}
use native.Mathlib.Omega.{arith}
use Rattle.building.proofs.build_over.Goals as goal
use Rattle.building.proofs.build_over.Goals.{In_ok-check_within, In_ok-check_links, In_ok-check_asked, Start}

abbrev mesh : Start → Mesh
mesh s = of_lists s.args.lists

-- after the checks of the mesh
module _ (t : In_ok-check_within) where
  abbrev start : Start
  start = search

  accepts : Accepted (mesh start)
  accepts = passed {v = verdict (mesh start)} t.check_within.result t.check_within.ensures.answers _ t.in_ok-check_within.was

  tabled : Tabled (corners_of (mesh start)) t.check_within.new.table
  tabled = t.check_within.ensures.tabled accepts

-- after those of the links
links_sound : (t : In_ok-check_links) → let s : Start = search in Tabled (corners_of (mesh s)) t.check_within.new.table → links_faults (mesh s) s.args.links.now ≡ sound
links_sound t d = let s : Start = search in passed t.check_links.result (t.check_links.ensures (mesh s) refl d.links) _ t.in_ok-check_links.was

-- after those of the range
range_sound : (t : In_ok-check_asked) → let s : Start = search in range_faults (mesh s) s.args.range.first s.args.range.count (length s.args.out.now) ≡ sound
range_sound t = let s : Start = search in passed t.check_asked.result (t.check_asked.ensures (mesh s) refl) _ t.in_ok-check_asked.was

grant : (t : In_ok-check_asked) → let s : Start = search in Granted (mesh s) s.args.range.first s.args.range.count (length s.args.out.now)
grant t = granted _ _ _ _ (range_sound t)

pub returns-in_err-check_within : goal.returns-in_err-check_within
returns-in_err-check_within c =
    let p = err_from_is_err_and c.from_residual.result c.from_residual.ensures.1 in
    rw (p.1, p.2) (mesh_refused (mesh (goal.at.returns-in_err-check_within c).Start) _ _ _ _ _ _ c.in_err-check_within.ensures.answers)

pub check_links-requires : goal.check_links-requires
check_links-requires c =
    let t = (goal.at.check_links-requires c).In_ok-check_within in
    (few (mesh (start t)) (accepts t), (tabled t).long)

pub returns-in_err-check_links : goal.returns-in_err-check_links
returns-in_err-check_links c =
    let t = (goal.at.returns-in_err-check_links c).In_ok-check_within in
    let p = err_from_is_err_and c.from_residual-in_err-check_links.result c.from_residual-in_err-check_links.ensures.1 in
    rw (p.1, p.2) (links_refused (mesh (start t)) _ _ _ _ (accepts t) _ _ (c.in_err-check_links.ensures (mesh (start t)) refl (tabled t).links))

pub check_asked-requires : goal.check_asked-requires
check_asked-requires c = let t = (goal.at.check_asked-requires c).In_ok-check_within in few (mesh (start t)) (accepts t)

pub returns-in_err-check_asked : goal.returns-in_err-check_asked
returns-in_err-check_asked c =
    let t = (goal.at.returns-in_err-check_asked c).In_ok-check_within in
    let l = (goal.at.returns-in_err-check_asked c).In_ok-check_links in
    let p = err_from_is_err_and c.from_residual-in_err-check_asked.result c.from_residual-in_err-check_asked.ensures.1 in
    rw (p.1, p.2)
    (range_refused (mesh (start t)) _ _ _ _ (accepts t) (links_sound l (tabled t)) _ _ (c.in_err-check_asked.ensures (mesh (start t)) refl))

pub fill_range-requires : goal.fill_range-requires
fill_range-requires c =
    let t = (goal.at.fill_range-requires c).In_ok-check_within in
    let g = grant (goal.at.fill_range-requires c).In_ok-check_asked in record {
      mesh = accepts t;
      table = tabled t;
      range = (g.some, g.within);
      points = (c.requires.points.0 (few (mesh (start t)) (accepts t)), c.requires.points.1);
    }

pub write_corners-requires : goal.write_corners-requires
write_corners-requires c =
    let g = grant (goal.at.write_corners-requires c).In_ok-check_asked in
    let d = c.fill_range.ensures in record { mesh = (d.draws, d.faced); range = (g.some, g.within, omega (arith, g.room)); rows = c.rows-rows.ensures }

pub returns : goal.returns
returns c =
    let t = (goal.at.returns c).In_ok-check_within in
    let l = (goal.at.returns c).In_ok-check_links in
    let u = (goal.at.returns c).In_ok-check_asked in
    let g = grant u in
    built (mesh (start t)) _ _ _ _ (accepts t) (links_sound l (tabled t)) (range_sound u) _
    (drawn_written (mesh (start t)) _ _ _ _ c.fill_range.ensures _ _ (omega arith) (omega arith) _
    (omega (arith, g.room)) c.write_corners.ensures)
