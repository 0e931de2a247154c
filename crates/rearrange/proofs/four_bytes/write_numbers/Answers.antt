-- After i turns the first i numbers stand in the bytes.
use mathlib.Core.Path.{◌≡◌, ◌∙◌, subst}
use Prim.Native.Nat.{ℕ}
use lib.ListN.{length, get_or}
use lib.IntN.{pos}
use mir.Syntax.{w32}
use mir.Val.{SFits}
use mir.ValLaws.{of_z_fits}
use Rattle.rearrange.specs.four_bytes.Words.{NumbersStored}
use Rattle.planes.proofs.differences.Deltas.{read_bits}
use Rattle.rearrange.proofs.four_bytes.Lists.{worded_none, worded_step}
use native.Mathlib.Omega.{arith}
use borrow.Author.Rules.{rules}
use Rattle.rearrange.proofs.four_bytes.write_numbers.Goals as goal

pub loop-i-init : goal.loop-i-init
loop-i-init c = worded_none c.args.numbers.now c.args.bytes.now c.requires

pub loop-i-preserved : goal.loop-i-preserved
loop-i-preserved c =
    let l = c.loop-i in
    let list = c.args.numbers.now in
    let fits : SFits w32 (get_or list l.i (pos 0)) = search rules in
    let bits = read_bits list l.i fits in
    worded_step list l.i _ _ l.bytes _ c.loop-i-test.true (omega arith) (rw bits (of_z_fits w32 _ fits).fits) bits
    (c.copy_from_slice.ensures.after ∙ c.to_le_bytes.ensures) l.invariant

pub returns : goal.returns
returns c =
    let l = c.loop-i in
    let e : l.i ≡ length c.args.numbers.now = omega arith in
    subst (λ (k : ℕ). NumbersStored c.args.numbers.now k l.bytes) e l.invariant
