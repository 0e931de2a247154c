-- The bytes of the word before this one were put.
use mathlib.Core.Path.{refl, ◌∙◌}
use Rattle.streams.proofs.text.Putting.{put_none, put_next, put_whole}
use native.Mathlib.Omega.{arith}
use Rattle.streams.proofs.text.put_word.Goals as goal

pub loop-byte-init : goal.loop-byte-init
loop-byte-init c = (refl, put_none _ _)

pub loop-byte-preserved : goal.loop-byte-preserved
loop-byte-preserved c = (
  c.put_byte-to.auto.buffer ∙ c.loop-byte.invariant.0,
  put_next c.args.word.now c.loop-byte.byte-index c.loop-byte-test.true c.loop-byte.invariant.0 c.loop-byte.invariant.1 c.put_byte-to.ensures,
)

pub returns : goal.returns
returns c = put_whole c.args.word.now c.loop-byte.byte-index (omega (arith, c.loop-byte-test.false)) c.loop-byte.invariant.1
