-- `build_moved` meets its contract: building's on the moved list, which is read back from the copy.
use mathlib.Core.Path.{subst}
use mathlib.Core.List.{List}
use lib.IntN.{ℤ}
use Rattle.paper.specs.Mesh.{mesh_of}
use Rattle.paper.specs.Calls.{Built}
use Rattle.preview.proofs.Laws.{moved_back, back_length}
use Rattle.preview.proofs.build_moved.Goals as goal

pub slice_bounds-build-end-2 : goal.slice_bounds-build-end-2
slice_bounds-build-end-2 c =
    back_length c.args.lists.coordinates.now c.args.to c.args.copy.now _ c.copy_moved.ensures

pub returns : goal.returns
returns c =
    subst
    (λ (l : List ℤ). Built (mesh_of l c.args.lists.sides.now c.args.lists.corners.now c.args.lists.sharpness.now) c.args.links.now
    c.args.range.first c.args.range.count
    c.args.out.now c.build.result c.build.new.out)
    (moved_back c.args.lists.coordinates.now c.args.to c.args.copy.now c.copy_moved.new.copy c.copy_moved.ensures) c.build.ensures
