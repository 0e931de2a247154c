-- In version 2 the bytes lie within the file, since the length asked of it includes them.
use mathlib.Core.Path.{sym, ap, ◌∙◌}
use borrow.Author.Rules.{rules}
use Prim.Native.Nat.{ℕ, ◌*◌}
use native.Mathlib.Omega.{arith}
use Rattle.dms_lists.proofs.lists.Lists.{bytes_read, plain_read}
use Rattle.dms_lists.proofs.header.Headers.{sharp_bytes}
use Rattle.dms_lists.proofs.lists.read_sharpness.Goals as goal

pub read_bytes-requires : goal.read_bytes-requires
read_bytes-requires c =
    let count = c.corner_count-count.ensures.0 in
    let bytes = sharp_bytes _ (sym c.is_sharp.ensures ∙ c.if-is_sharp.true) in
    (omega (arith, bytes, count, c.sharpness_start.ensures.0, c.requires.1), omega (arith, count, c.requires.2))

pub returns-then-is_sharp : goal.returns-then-is_sharp
returns-then-is_sharp c =
    bytes_read _ _ _ _ _ (sym c.is_sharp.ensures ∙ c.if-is_sharp.true) c.sharpness_start.ensures.0
    (ap (λ (n : ℕ). 2 * n) c.corner_count-count.ensures.0) c.read_bytes.ensures

pub returns-else-is_sharp : goal.returns-else-is_sharp
returns-else-is_sharp c =
    plain_read _ _ c.args.out.now _ (sym c.is_sharp.ensures ∙ c.if-is_sharp.false) (ap (λ (k : ℕ). 2 * k) c.corner_count-count.ensures.0)
    (search rules)
