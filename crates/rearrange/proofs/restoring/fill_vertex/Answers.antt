-- The sums of the first vertex start from 0.
use mathlib.Core.Path.{sym, subst}
use Prim.Native.Nat.{ℕ}
use Rattle.mesh.proofs.Fills.{Filled, filled_none}
use Rattle.paper.specs.Archive.{restored_at}
use Rattle.rearrange.proofs.restoring.Sums.{before_first, vertex_fills, restored_all}
use native.Mathlib.Omega.{arith}
use Rattle.rearrange.proofs.restoring.fill_vertex.Goals as goal

pub returns : goal.returns
returns c =
    let b = c.args.bytes.now in
    let old = c.args.numbers.now in
    let r1 = c.restore_at in
    let r2 = c.restore_at-2 in
    let r3 = c.restore_at-3 in
    let o1 = r1.new.numbers in
    let o2 = r2.new.numbers in
    let o3 = r3.new.numbers in
    let h = vertex_fills b 3 0 old old o1 o2 o3 0 0 0 _ _ _ (sym (before_first b 3 0)) (sym (before_first b 3 1)) (sym (before_first b 3 2))
    r1.ensures r2.ensures r3.ensures (omega (arith, c.requires.0)) (filled_none (restored_at b 3) old) in
    restored_all b old o3 3 (sym c.requires.0) (subst (λ (n : ℕ). Filled (restored_at b n) old 3 o3) (sym c.requires.0) h)
