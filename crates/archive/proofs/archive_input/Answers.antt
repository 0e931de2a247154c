-- The lent list has a number for each four bytes.
use lib.ListN.{length-take}
use native.Mathlib.Nat.{div-add-mod}
use native.Mathlib.Omega.{arith}
use Rattle.archive.proofs.archive_input.Goals as goal

pub archive_numbers-requires : goal.archive_numbers-requires
archive_numbers-requires c =
    simp length-take (omega (arith, c.min-n.ensures, c.in-Ok-2.ensures.ok, div-add-mod c.in-Ok.held 4))
