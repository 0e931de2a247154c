-- Bytes that are restored are four times as many as the numbers.
use Rattle.rearrange.proofs.laws.Theorems.{restored_fits}
use Rattle.restore.proofs.restore_numbers.Goals as goal

pub write_numbers-requires : goal.write_numbers-requires
write_numbers-requires c = restored_fits _ _ _ c.restore.result c.restore.ensures c.in-Ok.is
