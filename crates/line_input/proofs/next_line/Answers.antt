-- A line feed stands in what is held; or what is held is moved down, and more is read after it.
use mathlib.Core.Path.{sym, ◌∙◌}
use native.Mathlib.Nat.{sub-zero}
use native.Mathlib.Omega.{arith}
use Rattle.line_input.proofs.Lines.{one_found, next_held, next_read}
use Rattle.line_input.proofs.next_line.Goals as goal

pub returns-in-Some : goal.returns-in-Some
returns-in-Some g c =
    next_held c.args.buffer.now c.args.held c.requires.0 c.requires.1 c.in-Some.i (one_found _ _ (sym c.find_feed.ensures ∙ c.in-Some.is))

pub returns-in-Err : goal.returns-in-Err
returns-in-Err g c =
    next_read c.args.buffer.now _ _ c.args.held _ _ (omega arith) c.copy_within.ensures.len (λ k h. simp sub-zero at (c.copy_within.ensures.by_index.0 k 0 (omega arith) (omega arith)))
    c.in-Err.ensures

pub returns-in_default-line : goal.returns-in_default-line
returns-in_default-line g c =
    next_read c.args.buffer.now _ _ c.args.held _ _ (omega arith) c.copy_within.ensures.len (λ k h. simp sub-zero at (c.copy_within.ensures.by_index.0 k 0 (omega arith) (omega arith)))
    c.read_line-line.ensures
