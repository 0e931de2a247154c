-- `bernstein::columns` meets its contract: the first column is `row`, and the numbers of the others keep their bits.
use Prim.Native.Nat.{◌^◌}
use lib.Dec.{lit≤}
use mir.Facts.{to_z-of_z}
use Rattle.bernstein.specs.Sums.{columns_of, firsts_of}
use Rattle.bernstein.proofs.Laws.{fits}
use Rattle.bernstein.proofs.columns.Goals as goal

pub returns : goal.returns
unfolding columns_of firsts_of
returns c =
    let k0 = fits c.args.d.r0 (2 ^ 31) c.requires.0 (lit≤ tt) in
    let k1 = fits c.args.d.r1 (2 ^ 31) c.requires.1 (lit≤ tt) in
    let k2 = fits c.args.d.r2 (2 ^ 31) c.requires.2 (lit≤ tt) in
    let k3 = fits c.args.d.r3 (2 ^ 31) c.requires.3 (lit≤ tt) in
    simp (to_z-of_z, k0.1, k0.2, k0.3, k0.4, k1.1, k1.2, k1.3, k2.1, k2.2, k3.1, c.row.ensures)
