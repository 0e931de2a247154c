-- `bernstein::row_in` meets its contract: the values of the five rows.
use mathlib.Core.Path.{◌≡◌, ◌∙◌, sym, subst}
use Prim.Native.Nat.{ℕ, ◌*◌, ◌^◌, ◌≤◌}
use lib.Dec.{lit≤}
use lib.IntN.{ℤ, nat_abs}
use Rattle.bernstein.specs.declared.Vector5.{Vector5}
use Rattle.bernstein.specs.Sums.{Tapered, row_of, polynomial_at}
use Rattle.bernstein.proofs.Laws.{bits, sized_bits, value_size}
use Rattle.bernstein.proofs.Tapering.{widened}
use Rattle.bernstein.proofs.row_in.Goals as goal

module _ (k : ℕ) (l : k ≤ 16) where
  wide : (f : Vector5) (A : ℕ) → A ≤ 5 * 2 ^ 34 → Tapered A f → Tapered (5 * 2 ^ 34) f
  wide f A l h = widened f A (5 * 2 ^ 34) l h

  -- a value, by its bits
  bit : (f : Vector5) (z : ℤ) → Tapered (5 * 2 ^ 34) f → z ≡ polynomial_at f k → bits z ≡ polynomial_at f k
  bit f z h q =
      sized_bits z (5 * (65536 * (5 * 2 ^ 34))) (subst (λ (y : ℤ). nat_abs y ≤ 5 * (65536 * (5 * 2 ^ 34))) (sym q) (value_size f k (5 * 2 ^ 34) l h)) (lit≤ tt) ∙ q

pub value_at-requires : goal.value_at-requires
value_at-requires c = (wide c.args.k c.requires.1 c.args.c.r0 (2 ^ 34) (lit≤ tt) c.requires.0.t0, c.requires.1)

pub value_at-requires-2 : goal.value_at-requires-2
value_at-requires-2 c = (wide c.args.k c.requires.1 c.args.c.r1 (2 ^ 30) (lit≤ tt) c.requires.0.t1, c.requires.1)

pub value_at-requires-3 : goal.value_at-requires-3
value_at-requires-3 c = (wide c.args.k c.requires.1 c.args.c.r2 (2 ^ 26) (lit≤ tt) c.requires.0.t2, c.requires.1)

pub value_at-requires-4 : goal.value_at-requires-4
value_at-requires-4 c = (wide c.args.k c.requires.1 c.args.c.r3 (2 ^ 22) (lit≤ tt) c.requires.0.t3, c.requires.1)

pub value_at-requires-5 : goal.value_at-requires-5
value_at-requires-5 c = (wide c.args.k c.requires.1 c.args.c.r4 (2 ^ 18) (lit≤ tt) c.requires.0.t4, c.requires.1)

pub returns : goal.returns
unfolding row_of
returns c =
    cc (
      bit c.args.k c.requires.1 c.args.c.r0 _ (wide c.args.k c.requires.1 c.args.c.r0 (2 ^ 34) (lit≤ tt) c.requires.0.t0) c.value_at.ensures,
      bit c.args.k c.requires.1 c.args.c.r1 _ (wide c.args.k c.requires.1 c.args.c.r1 (2 ^ 30) (lit≤ tt) c.requires.0.t1) c.value_at-2.ensures,
      bit c.args.k c.requires.1 c.args.c.r2 _ (wide c.args.k c.requires.1 c.args.c.r2 (2 ^ 26) (lit≤ tt) c.requires.0.t2) c.value_at-3.ensures,
      bit c.args.k c.requires.1 c.args.c.r3 _ (wide c.args.k c.requires.1 c.args.c.r3 (2 ^ 22) (lit≤ tt) c.requires.0.t3) c.value_at-4.ensures,
      bit c.args.k c.requires.1 c.args.c.r4 _ (wide c.args.k c.requires.1 c.args.c.r4 (2 ^ 18) (lit≤ tt) c.requires.0.t4) c.value_at-5.ensures,
    )
