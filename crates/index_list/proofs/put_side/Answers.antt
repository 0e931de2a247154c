-- `put_side` meets its contract: before strip k the strips before it stand there.
use mathlib.Core.Path.{refl}
use Prim.Native.Nat.{◌<◌}
use native.Mathlib.Omega.{arith}
use Rattle.index_list.proofs.Turns.{turn_strip, turn_room, turn_step, turn_end}
use Rattle.index_list.proofs.put_side.Goals as goal

pub put_strip-requires : goal.put_strip-requires
put_strip-requires c =
    let t : c.loop-k.k < c.level_at-n.result = omega arith in let b = c.rings_before-ring.ensures.0 in let e = c.ring_row-upper.ensures in
    (turn_strip c.loop-k.invariant t _ _ _ b refl e.1 e.0 e.2, turn_room c.loop-k.invariant t _ _ _ b refl e.1 e.0 e.2)

pub overflow_add-to-in-loop-k : goal.overflow_add-to-in-loop-k
overflow_add-to-in-loop-k c =
    let e = c.ring_row-upper.ensures in
    let b = turn_room c.loop-k.invariant (omega arith) _ _ _ c.rings_before-ring.ensures.0 refl e.1 e.0 e.2 in
    omega (arith, e.1, c.loop-k.invariant.long)

pub loop-k-preserved : goal.loop-k-preserved
loop-k-preserved c =
    let e = c.ring_row-upper.ensures in
    turn_step c.loop-k.invariant (omega arith) _ _ _ c.rings_before-ring.ensures.0 refl e.1 e.0 e.2 _
    (omega (arith, c.put_strip.auto)) c.put_strip.ensures _ (omega (arith, e.1))

pub returns : goal.returns
returns c = turn_end c.loop-k.invariant (omega arith)
