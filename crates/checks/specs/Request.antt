-- What is asked of building besides the mesh: refusals 14 to 17, in their order.
use Rattle.std.specs.Prelude.{not, List, ℕ, eqb, length}
use Rattle.paper.specs.Mesh.{Mesh, corner_count}
use Rattle.paper.specs.Faults.{Verdict, ◌or_else◌, single, lowest_of}
use Rattle.paper.specs.Calls.{fault15, fault16, fault17}

-- 14 and 15, of a link table
unfoldable pub links_faults : Mesh → List ℕ → Verdict
links_faults M links = single 14 (not (eqb (length links) (corner_count M))) (length links) or_else lowest_of 15 (corner_count M) (fault15 M links)

-- 16 and 17, of a first corner and a count, and n places in the output
unfoldable pub range_faults : Mesh → ℕ → ℕ → ℕ → Verdict
range_faults M first count n = single 16 (fault16 M first count) first or_else single 17 (fault17 count n) n
