-- `rounding::tie` meets its contract, with a rest and without.
use mathlib.Core.Path.{◌≡◌, refl, sym, ap, ◌∙◌}
use Prim.Native.Nat.{ℕ, zero, suc}
use borrow.Author.Rules.{rules}
use lib.IntN.{ℤ, pos}
use mir.Syntax.{w32}
use mir.Val.{SFits}
use mir.Facts.{to_z-of_z}
use Rattle.numbers.specs.Sign.{tie as tied}
use Rattle.numbers.proofs.rounding.tie.Goals as goal

rest : (r : ℕ) (n : ℤ) → (r ≡ 0 → ⊥) → pos 0 ≡ tied r n
rest zero n h = absurd (h refl)
rest (suc r) n h = refl

pub returns-then-rest-eq0 : goal.returns-then-rest-eq0
returns-then-rest-eq0 c =
    let f : SFits w32 c.small_sign.result = search rules in
    let s = c in
    let e = simp (to_z-of_z, s.ranges.n) at c.small_sign.ensures in
    rw (to_z-of_z f) (e ∙ sym (ap (λ (r : ℕ). tied r s.args.n) c.if-rest-eq0.true))

pub returns-else-rest-eq0 : goal.returns-else-rest-eq0
returns-else-rest-eq0 c = rest c.args.rest c.args.n c.if-rest-eq0.false
