-- Each turn passes one digit more; before one more is appended the value is small enough for it.
use Rattle.std.proofs.Common.{◌≡◌, sym, subst, ℕ, ◌+◌, arith, length}
use Rattle.page_text.specs.Reading.{DigitsPassed}
use Rattle.page_text.proofs.Numbers.{ended_here, ended_end, passed_none, passed_more, digits_large, digits_found}
use Rattle.page_text.proofs.read_digits.Goals as goal

pub loop-at-init : goal.loop-at-init
loop-at-init c = passed_none c.args.line.now c.args.from c.requires

pub loop-at-preserved : goal.loop-at-preserved
loop-at-preserved c =
    subst (λ (n : ℕ). DigitsPassed c.args.line.now c.args.from (c.loop-at.at + 1) n) (sym c.appended-value.ensures)
    (passed_more c.args.line.now c.args.from c.loop-at.at c.loop-at.value (omega arith) c.if-not-is_ascii_digit.ensures.cases c.loop-at.invariant (omega arith))

pub returns-then-not-is_ascii_digit : goal.returns-then-not-is_ascii_digit
returns-then-not-is_ascii_digit c =
    digits_found c.args.line.now c.args.from _ c.loop-at.invariant (ended_here c.args.line.now c.loop-at.at (omega arith) (λ d. omega (arith, c.if-not-is_ascii_digit.ensures.cases, d.0, d.1)))

pub returns-then-value-gt-MOST_BEFORE : goal.returns-then-value-gt-MOST_BEFORE
returns-then-value-gt-MOST_BEFORE c = digits_large c.args.line.now c.args.from c.loop-at.at c.loop-at.value (omega arith) c.if-not-is_ascii_digit.ensures.cases c.loop-at.invariant (omega arith)

pub returns : goal.returns
returns c =
    let q : c.loop-at.at ≡ length c.args.line.now = omega (arith, c.loop-at.invariant.inside) in
    digits_found c.args.line.now c.args.from _ (subst (λ (n : ℕ). DigitsPassed c.args.line.now c.args.from n c.loop-at.value) q c.loop-at.invariant)
    (ended_end c.args.line.now _ (omega arith))
