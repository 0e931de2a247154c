-- Digit by digit, by the invariant; after all of them the value is what was counted, below 10^9.
use mathlib.Core.Path.{refl, sym, ap, ◌∙◌}
use Prim.Native.Nat.{ℕ, ◌+◌, ◌*◌, ◌<◌, ◌≤◌}
use lib.ListN.{length, get_or, drop}
use native.Mathlib.Omega.{arith}
use Rattle.paper.specs.Off.{value_after}
use Rattle.off_words.proofs.digits.Numbers.{within, tens_start, below_eight, below_nine, all_on, decimal_on, tens_on, all_decimal, decimal_none}
use Rattle.off_words.proofs.digits.decimal.Goals as goal
use Rattle.off_words.proofs.digits.decimal.Goals.{Else-not-is_ascii_digit}

-- the number so far has at most eight digits, and a digit comes
few : (t : Else-not-is_ascii_digit) → (t.loop-byte.n < 100000000)
few t =
    let w = within 1 9 (length t.args.digits.now) (sym t.may_have.ensures ∙ t.if-not-may_have.false) in
    below_eight t.loop-byte.n t.loop-byte.byte-index t.loop-byte.invariant.below (omega (arith, w))

digit : (t : Else-not-is_ascii_digit)
    → (48 ≤ get_or t.args.digits.now t.loop-byte.byte-index 0) × (get_or t.args.digits.now t.loop-byte.byte-index 0 ≤ 57)
digit t = rw t.if-not-is_ascii_digit.false at t.is_ascii_digit.ensures.cases

pub loop-byte-init : goal.loop-byte-init
loop-byte-init c = record { digits = refl; value = refl; below = tens_start }

pub overflow_mul-n : goal.overflow_mul-n
overflow_mul-n c = record { fits = omega (arith, few c) }

pub overflow_add-n : goal.overflow_add-n
overflow_add-n c =
    let t = (goal.at.overflow_add-n c).Else-not-is_ascii_digit in
    record { fits = omega (arith, few t, digit t, c.from.ensures) }

pub loop-byte-preserved : goal.loop-byte-preserved
loop-byte-preserved c =
    let t = (goal.at.loop-byte-preserved c).Else-not-is_ascii_digit in
    let l = c.loop-byte in
    let d = digit t in
    let w = c.args.digits.now in
    record {
      digits = l.invariant.digits ∙ all_on w l.byte-index c.loop-byte-test.true d.0 d.1;
      value =
          l.invariant.value ∙ decimal_on w l.byte-index c.loop-byte-test.true l.n
          ∙ ap (λ (k : ℕ). value_after (10 * l.n + k) (drop (l.byte-index + 1) w)) (sym c.from.ensures);
      below = tens_on l.n l.byte-index c.from.result l.invariant.below (omega (arith, d, c.from.ensures));
    }

pub returns : goal.returns
returns c =
    let l = c.loop-byte in
    let w = c.args.digits.now in
    let e = sym c.may_have.ensures ∙ c.if-not-may_have.false in
    let h = within 1 9 (length w) e in (
      all_decimal w l.byte-index (omega arith) l.invariant.digits e,
      sym (l.invariant.value ∙ decimal_none l.n w l.byte-index (omega arith)),
      below_nine l.n l.byte-index l.invariant.below (omega (arith, h)),
    )
