-- A file of version 1 has 8 and 8 throughout.
use mathlib.Core.Path.{◌≡◌, ap, ◌∙◌}
use mathlib.Core.Bool.{false}
use mathlib.Core.List.{List}
use Prim.Native.Nat.{ℕ, ◌*◌}
use Rattle.paper.specs.Mesh.{plain_list}
use Rattle.paper.specs.File.{version_in, sharp, corners_in, sharpness_start, file_mesh}
use Rattle.paper.specs.Claims.{VersionOne}
use Rattle.dms_lists.proofs.lists.Lists.{file_corners, plain_values}

not_sharp : (file : List ℕ) → version_in file ≡ 1 → sharp file ≡ false
unfolding sharp
not_sharp file e = rw e

pub version_one : VersionOne
unfolding file_mesh
version_one file e = plain_values file (not_sharp file e) (sharpness_start file) (2 * corners_in file) ∙ ap plain_list (file_corners file)
