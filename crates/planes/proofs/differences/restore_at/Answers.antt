-- One number: the sum wraps, and is read in two's complement.
use Rattle.std.proofs.Common.{ℕ, ◌+◌, ◌%◌, ◌^◌, ap, arith, w32}
use mir.ValLaws.{to_z-of_z}
use Rattle.planes.proofs.differences.restore_at.Goals as goal

pub returns : goal.returns
returns c =
    record {
      small = omega (arith, c.stored-d.type_inv, c.stored-d.ensures);
      sums = ap (λ (k : ℕ). (c.args.before + k) % 2 ^ 32) c.stored-d.ensures;
      holds = rw (to_z-of_z w32 c.cast_signed.result (record { sfits = c.cast_signed.type_inv }), c.cast_signed.ensures);
    }
