-- The lists that were read are those of the file's mesh: what is answered of them is answered of it, and what is copied are its lists.
use mathlib.Core.Path.{◌≡◌, ap, ◌∙◌, sym}
use Prim.Native.Nat.{ℕ, ◌*◌, ◌≤◌}
use native.Mathlib.Omega.{arith}
use lib.ListN.{length, take}
use lib.Seq.{length-take-le}
use Rattle.paper.specs.Mesh.{Mesh, mesh_of}
use Rattle.paper.specs.Faults.{sound, verdict, stated}
use Rattle.paper.specs.File.{vertices_in, corners_in, file_mesh, room_verdict}
use Rattle.std.proofs.lemmas.Result.{err_from_is_err_and}
use Rattle.mesh.proofs.Verdicts.{passed, stop, past}
use Rattle.dms_lists.specs.lists.Room.{Room}
use Rattle.dms_lists.proofs.Reading.{mesh_read, coordinates_long, sides_long, corners_long, sharpness_long}
use Rattle.dms.proofs.Files.{room_of, refused_decode, done_decode, begun, lists_decide, lists_copied}
use Rattle.dms.proofs.decode_lists.Goals as goal
use Rattle.dms.proofs.decode_lists.Goals.{After-corner_count-k, After-check, In_ok-check_room}

-- after the counts were read
module _ (t : After-corner_count-k) where
  n_is : 3 * t.vertex_count-n.result ≡ 3 * vertices_in t.args.file.now
  n_is = ap (λ (n : ℕ). 3 * n) t.vertex_count-n.ensures.0

  p_is : 2 * t.corner_count-k.result ≡ 2 * corners_in t.args.file.now
  p_is = ap (λ (n : ℕ). 2 * n) t.corner_count-k.ensures.0

  -- the own lists, and how long the parts of them are that were read
  abbrev lists : Mesh
  lists = mesh_of t.read_lists.new.coordinates t.read_lists.new.sides t.read_lists.new.corners t.read_lists.new.sharpness

  numbers_long : 3 * t.vertex_count-n.result ≡ length (take (3 * t.vertex_count-n.result) lists.coordinates)
  numbers_long = coordinates_long t.args.file.now _ lists t.read_lists.ensures _ t.vertex_count-n.ensures.0

  counts_long : t.face_count-f.result ≡ length (take t.face_count-f.result lists.sides)
  counts_long = sides_long t.args.file.now _ lists t.read_lists.ensures _ t.face_count-f.ensures.0

  names_long : t.corner_count-k.result ≡ length (take t.corner_count-k.result lists.corners)
  names_long = corners_long t.args.file.now _ lists t.read_lists.ensures _ t.corner_count-k.ensures.0

  pairs_long : 2 * t.corner_count-k.result ≡ length (take (2 * t.corner_count-k.result) lists.sharpness)
  pairs_long = sharpness_long t.args.file.now _ lists t.read_lists.ensures _ t.corner_count-k.ensures.0

-- after the checks of the mesh
checked : (t : After-check) → stated t.check.result ≡ verdict (file_mesh t.args.file.now)
checked t =
    let r = t.read_lists.new in
    t.check.ensures
    ∙ ap verdict (mesh_read t.args.file.now _ (mesh_of r.coordinates r.sides r.corners r.sharpness) t.read_lists.ensures _ _ _
    t.vertex_count-n.ensures.0 t.face_count-f.ensures.0 t.corner_count-k.ensures.0)

-- and after that of the room
module _ (t : In_ok-check_room) where
  room_sound : room_verdict t.args.file.now (length t.args.coordinates.now) (length t.args.sides.now) (length t.args.corners.now)
      (length t.args.sharpness.now) ≡ sound
  room_sound = sym t.in_ok-check_room.ensures

  room : Room t.args.file.now (length t.args.coordinates.now) (length t.args.sides.now) (length t.args.corners.now)
      (length t.args.sharpness.now)
  room = room_of _ _ _ _ _ room_sound

  -- each lent space is as long as its list
  coordinates_fit : 3 * t.vertex_count-n.result ≤ length t.args.coordinates.now
  coordinates_fit = omega (arith, room.coordinates_fit, t.vertex_count-n.ensures.0)

  sides_fit : t.face_count-f.result ≤ length t.args.sides.now
  sides_fit = omega (arith, room.sides_fit, t.face_count-f.ensures.0)

  corners_fit : t.corner_count-k.result ≤ length t.args.corners.now
  corners_fit = omega (arith, room.corners_fit, t.corner_count-k.ensures.0)

  sharpness_fit : 2 * t.corner_count-k.result ≤ length t.args.sharpness.now
  sharpness_fit = omega (arith, room.sharpness_fit, t.corner_count-k.ensures.0)

pub returns-in_err-check : goal.returns-in_err-check
returns-in_err-check c counted h =
    let lent = mesh_of c.args.coordinates.now c.args.sides.now c.args.corners.now c.args.sharpness.now in
    let p = err_from_is_err_and c.from_residual.result c.from_residual.ensures.1 in
    rw (p.1, p.2) (refused_decode _ _ lent _
    (lists_decide _ _ lent h (stop _ (checked (goal.at.returns-in_err-check c).After-check) _ c.in_err-check.was _)))

pub returns-in_err-check_room : goal.returns-in_err-check_room
returns-in_err-check_room c counted h =
    let lent = mesh_of c.args.coordinates.now c.args.sides.now c.args.corners.now c.args.sharpness.now in
    let mesh_sound = passed _ (checked (goal.at.returns-in_err-check_room c).After-check) _ c.in_ok-check.was in
    let p = err_from_is_err_and c.from_residual-in_err-check_room.result c.from_residual-in_err-check_room.ensures.1 in
    rw (p.1, p.2) (refused_decode _ _ lent _ (lists_decide _ _ lent h (past mesh_sound _ c.in_err-check_room.ensures)))

pub returns : goal.returns
returns c counted h =
    let lent = mesh_of c.args.coordinates.now c.args.sides.now c.args.corners.now c.args.sharpness.now in
    let k = (goal.at.returns c).After-corner_count-k in
    let mesh_sound = passed _ (checked (goal.at.returns c).After-check) _ c.in_ok-check.was in
    done_decode c.args.file.now _ lent _ _ _ _ _ (n_is k) c.face_count-f.ensures.0 c.corner_count-k.ensures.0 (p_is k)
    (lists_decide _ _ lent h (past mesh_sound _ c.in_ok-check_room.ensures))
    (lists_copied c.args.file.now _ _ _ _ _ (lists k) lent _ (n_is k) c.face_count-f.ensures.0 c.corner_count-k.ensures.0 (p_is k) c.read_lists.ensures
    (begun _ _ _ lent.coordinates (numbers_long k) c.copy_from_slice.ensures.after) (begun _ _ _ lent.sides (counts_long k) c.copy_from_slice-2.ensures.after)
    (begun _ _ _ lent.corners (names_long k) c.copy_from_slice-3.ensures.after) (begun _ _ _ lent.sharpness (pairs_long k) c.copy_from_slice-4.ensures.after))

pub slice_bounds-own_numbers-end : goal.slice_bounds-own_numbers-end
slice_bounds-own_numbers-end c = numbers_long (goal.at.slice_bounds-own_numbers-end c).After-corner_count-k

pub slice_bounds-own_counts-end : goal.slice_bounds-own_counts-end
slice_bounds-own_counts-end c = counts_long (goal.at.slice_bounds-own_counts-end c).After-corner_count-k

pub slice_bounds-own_names-end : goal.slice_bounds-own_names-end
slice_bounds-own_names-end c = names_long (goal.at.slice_bounds-own_names-end c).After-corner_count-k

pub slice_bounds-own_pairs-end : goal.slice_bounds-own_pairs-end
slice_bounds-own_pairs-end c = pairs_long (goal.at.slice_bounds-own_pairs-end c).After-corner_count-k

pub slice_bounds-copy_from_slice-end : goal.slice_bounds-copy_from_slice-end
slice_bounds-copy_from_slice-end c = coordinates_fit (goal.at.slice_bounds-copy_from_slice-end c).In_ok-check_room

pub slice_bounds-copy_from_slice-end-2 : goal.slice_bounds-copy_from_slice-end-2
slice_bounds-copy_from_slice-end-2 c = sym (length-take-le _ c.args.coordinates.now (coordinates_fit (goal.at.slice_bounds-copy_from_slice-end-2 c).In_ok-check_room))

pub copy_from_slice-requires : goal.copy_from_slice-requires
copy_from_slice-requires c =
    length-take-le _ c.args.coordinates.now (coordinates_fit (goal.at.copy_from_slice-requires c).In_ok-check_room) ∙ numbers_long (goal.at.copy_from_slice-requires c).After-corner_count-k

pub slice_bounds-copy_from_slice-end-3 : goal.slice_bounds-copy_from_slice-end-3
slice_bounds-copy_from_slice-end-3 c = sides_fit (goal.at.slice_bounds-copy_from_slice-end-3 c).In_ok-check_room

pub slice_bounds-copy_from_slice-end-4 : goal.slice_bounds-copy_from_slice-end-4
slice_bounds-copy_from_slice-end-4 c = sym (length-take-le _ c.args.sides.now (sides_fit (goal.at.slice_bounds-copy_from_slice-end-4 c).In_ok-check_room))

pub copy_from_slice-requires-2 : goal.copy_from_slice-requires-2
copy_from_slice-requires-2 c =
    length-take-le _ c.args.sides.now (sides_fit (goal.at.copy_from_slice-requires-2 c).In_ok-check_room) ∙ counts_long (goal.at.copy_from_slice-requires-2 c).After-corner_count-k

pub slice_bounds-copy_from_slice-end-5 : goal.slice_bounds-copy_from_slice-end-5
slice_bounds-copy_from_slice-end-5 c = corners_fit (goal.at.slice_bounds-copy_from_slice-end-5 c).In_ok-check_room

pub slice_bounds-copy_from_slice-end-6 : goal.slice_bounds-copy_from_slice-end-6
slice_bounds-copy_from_slice-end-6 c = sym (length-take-le _ c.args.corners.now (corners_fit (goal.at.slice_bounds-copy_from_slice-end-6 c).In_ok-check_room))

pub copy_from_slice-requires-3 : goal.copy_from_slice-requires-3
copy_from_slice-requires-3 c =
    length-take-le _ c.args.corners.now (corners_fit (goal.at.copy_from_slice-requires-3 c).In_ok-check_room) ∙ names_long (goal.at.copy_from_slice-requires-3 c).After-corner_count-k

pub slice_bounds-copy_from_slice-end-7 : goal.slice_bounds-copy_from_slice-end-7
slice_bounds-copy_from_slice-end-7 c = sharpness_fit (goal.at.slice_bounds-copy_from_slice-end-7 c).In_ok-check_room

pub slice_bounds-copy_from_slice-end-8 : goal.slice_bounds-copy_from_slice-end-8
slice_bounds-copy_from_slice-end-8 c = sym (length-take-le _ c.args.sharpness.now (sharpness_fit (goal.at.slice_bounds-copy_from_slice-end-8 c).In_ok-check_room))

pub copy_from_slice-requires-4 : goal.copy_from_slice-requires-4
copy_from_slice-requires-4 c =
    length-take-le _ c.args.sharpness.now (sharpness_fit (goal.at.copy_from_slice-requires-4 c).In_ok-check_room) ∙ pairs_long (goal.at.copy_from_slice-requires-4 c).After-corner_count-k
