-- What `any` tells after the corners passed: whether one of them has its vertex marked.
use Rattle.std.proofs.Common.{IsTrue, ◌↔◌}
use Rattle.face_sums.specs.Marks.{SomeIn, AtMark}
use Rattle.face_sums.proofs.any_marked.Given as goal

abbrev pub invariant-loop-u : goal.invariant-loop-u
invariant-loop-u l = IsTrue l.any ↔ SomeIn (AtMark l.face l.marked) 0 l.u-index
