-- The marks of a range's vertices: none, and those of a range one corner longer.
use mathlib.Core.Path.{◌≡◌, ap, ◌∙◌, sym}
use mathlib.Core.Logic.{⊎_elim}
use mathlib.Core.List.{List}
use Prim.Native.Nat.{ℕ, ◌+◌, ◌<◌}
use native.Mathlib.Omega.{arith}
use lib.Dec.{eqb}
use lib.ListN.{length, get_or, set, length-set, replicate, get_or-replicate}
use lib.Seq.{get_or-set_same, get_or-set_other}
use borrow.Author.Tests.{eqb-true, eqb-false}
use Rattle.paper.specs.Links.{vertex_of}
use Rattle.mesh.proofs.Scans.{ways}
use Rattle.face_sums.proofs.Marks.{tells_none, tells_set, tells_passed}
use Rattle.refine.specs.Marks.{Marked}

pub marked_none : (corners marked : List ℕ) (first : ℕ) → marked ≡ replicate (length marked) 0 → Marked corners first 0 marked
marked_none corners marked first z u h =
    tells_none _ first (first + 0) _ (omega arith) (ap (λ (t : List ℕ). get_or t u 0) z ∙ get_or-replicate (length marked) u 0 0 h)

pub marked_set : (corners marked : List ℕ) (first k : ℕ) → Marked corners first k marked → vertex_of corners (first + k) < length marked
    → Marked corners first (k + 1) (set marked (vertex_of corners (first + k)) 1)
marked_set corners marked first k h l u b =
    let v = vertex_of corners (first + k) in
    let inside : u < length marked = simp length-set at b in
    ⊎_elim
    (λ e. let q : u ≡ v = eqb-true u v e in
    tells_set _ first (first + k) _ (omega arith) _ (rw (q, get_or-set_same marked v 1 0 l) (omega arith)) (omega arith) (sym q))
    (λ e. tells_passed _ first (first + k) _ (omega arith) _ (λ q. eqb-false u v e (sym q))
    (rw (get_or-set_other marked v u 1 0 (eqb-false u v e)) (h u inside)))
    (ways (eqb u v))
