-- A minus sign and the size, or the size alone.
use mathlib.Core.Path.{ap, ◌∙◌}
use mathlib.Core.List.{◌∷◌}
use Prim.Native.Nat.{ℕ}
use lib.IntN.{nat_abs}
use mir.Syntax.{w32}
use mir.Facts.{to_z-of_z}
use mir.ValLaws.{to_z-of_z as exact}
use Rattle.streams.specs.text.Text.{decimal}
use Rattle.streams.proofs.text.Putting.{put_then, put_same}
use Rattle.streams.proofs.text.Decimals.{signed_below, signed_above}
use Rattle.streams.proofs.text.put_signed.Goals as goal

pub returns-then-z-lt0 : goal.returns-then-z-lt0
returns-then-z-lt0 c =
    put_same
    (ap (λ (n : ℕ). 45 ∷ decimal n) (c.from-size.ensures ∙ c.unsigned_abs.ensures.value ∙ ap nat_abs (exact w32 c.args.z c.ranges.z))
    ∙ signed_below c.args.z (simp (to_z-of_z, c.ranges.z) at c.if-z-lt0.true))
    (put_then c.put_byte-to.auto.buffer c.put_byte-to.ensures c.put_number.ensures)

pub returns : goal.returns
returns c =
    put_same
    (ap decimal (c.from-size.ensures ∙ c.unsigned_abs.ensures.value ∙ ap nat_abs (exact w32 c.args.z c.ranges.z))
    ∙ signed_above c.args.z (simp (to_z-of_z, c.ranges.z) at c.if-z-lt0.false)) c.put_number-2.ensures
