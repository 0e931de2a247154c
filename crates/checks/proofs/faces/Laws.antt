-- What check 9 knows of the last corner of a vertex, and what it has filled before a corner.
use mathlib.Core.Path.{◌≡◌, ap, ◌∙◌, sym}
use mathlib.Core.Bool.{true, false}
use mathlib.Core.Logic.{⊎_elim}
use mathlib.Core.List.{List}
use Prim.Native.Nat.{ℕ, ◌+◌, ◌-◌, ◌*◌, ◌<◌, ◌≤◌}
use native.Mathlib.Omega.{arith}
use lib.Dec.{ltb}
use lib.ListN.{length, get_or, set}
use borrow.Author.Tests.{ltb-true, ltb-false, le-leb, lt-leb}
use Rattle.paper.specs.Scan.{some_below}
use Rattle.paper.specs.Corners.{start_of, first_of}
use Rattle.paper.specs.Links.{vertex_of, names}
use Rattle.paper.specs.Faults.{fault, lowest_of, fault9, same_vertex_from}
use Rattle.mesh.proofs.Scans.{ways, some_true, some_false, fails_step}
use Rattle.mesh.proofs.Faces.{face_at}
use Rattle.mesh.proofs.Verdicts.{lowest_hit}
use Rattle.walk.specs.Table.{row_length, valence_here, Kept, Blank}
use Rattle.checks.specs.columns.Vertices.{vertex_row, last_here, noted}
use Rattle.checks.specs.columns.Chain.{last_below}
use Rattle.checks.proofs.columns.Chains.{last_le, last_passes, last_above, ChainsTo, chains_none, chains_kept, chains_step, last_is}

-- the last corner before c of c's vertex: c repeats that vertex if this corner is in c's face, whose first corner is `first`
module _ (first : ℕ) (corners : List ℕ) (c last : ℕ) (e : last ≡ last_below c (names corners (vertex_of corners c))) where
  from_first : (d : ℕ) → first ≤ d → same_vertex_from first corners c d ≡ names corners (vertex_of corners c) d
  unfolding same_vertex_from names
  from_first d h = rw (le-leb first d h)

  before_first : (d : ℕ) → d < first → same_vertex_from first corners c d ≡ false
  unfolding same_vertex_from
  before_first d h = rw (lt-leb first d h)

  repeated : first < last → some_below c (same_vertex_from first corners c) ≡ true
  repeated h =
      some_true c (same_vertex_from first corners c) (last - 1) (omega (arith, e, last_le (names corners (vertex_of corners c)) c))
      (from_first (last - 1) (omega arith) ∙ last_passes (names corners (vertex_of corners c)) c (last - 1) (sym e ∙ omega arith))

  unrepeated : last ≤ first → some_below c (same_vertex_from first corners c) ≡ false
  unrepeated h =
      some_false c (same_vertex_from first corners c)
      (λ d l. ⊎_elim
      (λ b. before_first d (ltb-true d first b))
      (λ b. let k : first ≤ d = ltb-false d first b in
      from_first d k ∙ last_above (names corners (vertex_of corners c)) c d (omega (arith, e)) l)
      (ways (ltb d first)))

-- check 9 before corner c: the chains of the vertices, and no fault
pub record FacesPassed (sides corners table vertices : List ℕ) (c : ℕ) : Type 0 where
  pub chains : ChainsTo corners table vertices c
  pub faultless : (j : ℕ) → j < c → fault9 sides corners j ≡ false

pub passed_none : (sides corners table vertices : List ℕ) → Blank vertices → FacesPassed sides corners table vertices 0
passed_none sides corners table vertices z = record { chains = chains_none corners table vertices z; faultless = λ j l. absurd (omega arith) }

pub passed_kept : (sides corners old new vertices : List ℕ) (c : ℕ) → Kept old new valence_here → FacesPassed sides corners old vertices c
    → FacesPassed sides corners new vertices c
passed_kept sides corners old new vertices c k p = record { chains = chains_kept corners old vertices new c k p.chains; faultless = p.faultless }

-- a corner of face f, whose first corner is where the face starts
module _ (sides corners table vertices : List ℕ) (f c start : ℕ) (l : f < length sides) (s : start ≡ start_of sides f)
    (h : start ≤ c) (k : c < start + get_or sides f 0) (p : FacesPassed sides corners table vertices c) where
  in_face_lem : fault9 sides corners c ≡ some_below c (same_vertex_from start corners c)
  unfolding fault9 first_of
  in_face_lem =
      ap (λ (x : ℕ). some_below c (same_vertex_from (start_of sides x) corners c)) (face_at sides f c (omega arith) (omega arith) l)
      ∙ ap (λ (x : ℕ). some_below c (same_vertex_from x corners c)) (sym s)

  met : noted vertices last_here (vertex_of corners c) ≡ last_below c (names corners (vertex_of corners c))
  met = last_is corners table vertices c p.chains

  pub doubled : c < length corners → start < noted vertices last_here (vertex_of corners c) → lowest_of 9 (length corners) (fault9 sides corners) ≡ fault 9 c
  doubled i q = lowest_hit 9 (length corners) (fault9 sides corners) c i (in_face_lem ∙ repeated start corners c _ met q) p.faultless

  pub passed_step : row_length * c + valence_here < length table → vertex_row * vertex_of corners c + last_here < length vertices
      → noted vertices last_here (vertex_of corners c) ≤ start
      → FacesPassed sides corners (set table (row_length * c + valence_here) (noted vertices last_here (vertex_of corners c)))
      (set vertices (vertex_row * vertex_of corners c + last_here) (c + 1)) (c + 1)
  passed_step ht hv q =
      record {
        chains = chains_step corners table vertices c p.chains ht hv;
        faultless = fails_step (fault9 sides corners) c p.faultless (in_face_lem ∙ unrepeated start corners c _ met q);
      }
