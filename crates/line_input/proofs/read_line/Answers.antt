-- The bytes that were kept stay where they are; after them stands what was read, which is free.
use mathlib.Core.Path.{sym, ◌∙◌}
use Prim.Native.Nat.{◌+◌, ◌-◌}
use lib.ListN.{length}
use borrow.Rule.Slice.PartMut.{same_len_mid}
use native.Mathlib.Omega.{arith}
use Rattle.line_input.proofs.Lines.{stays_front, one_found, read_to_feed, read_to_end}
use Rattle.line_input.proofs.read_line.Goals as goal

pub returns-in-Some : goal.returns-in-Some
returns-in-Some g c =
    let old = c.args.buffer.now in
    let kept = c.args.kept in
    let same = same_len_mid kept (length old - kept) old c.fill.new.buffer c.fill.auto.buffer in
    read_to_feed old _ kept (kept + c.in_ok-count.count) same (stays_front kept old _ c.requires) (omega arith)
    (omega (arith, c.fill.auto.buffer, c.in_ok-count.ensures.ok.0)) c.in-Some.feed (one_found _ _ (sym c.find_feed.ensures ∙ c.in-Some.is))

pub returns : goal.returns
returns g c =
    let old = c.args.buffer.now in
    let kept = c.args.kept in
    let same = same_len_mid kept (length old - kept) old c.fill.new.buffer c.fill.auto.buffer in
    read_to_end old _ kept (kept + c.in_ok-count.count) same (stays_front kept old _ c.requires) (omega arith)
    (omega (arith, c.fill.auto.buffer, c.in_ok-count.ensures.ok.0)) (sym c.find_feed.ensures ∙ c.in_default.is)
