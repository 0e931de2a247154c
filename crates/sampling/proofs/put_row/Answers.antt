-- `sampling::put_row` meets its contract: after j turns the state is that j places on, and the first j samples are written.
use mathlib.Core.Path.{◌≡◌, sym, ap, ◌∙◌, subst}
use Prim.Native.Nat.{ℕ, ◌+◌, ◌*◌, ◌^◌, ◌≤◌, ◌<◌}
use native.Mathlib.Omega.{arith}
use borrow.Author.Rules.{rules}
use lib.Dec.{lit≤}
use lib.ListN.{length}
use lib.IntN.{ℤ, pos, nat_abs}
use mir.Syntax.{w32}
use mir.Val.{SFits, to_z, of_z}
use mir.Facts.{to_z-of_z}
use Rattle.paper.specs.Numbers.{round}
use Rattle.bernstein.specs.declared.Vector5.{Vector5}
use Rattle.bernstein.specs.Sums.{Sized, state_of, polynomial_at, step_of}
use Rattle.bernstein.proofs.Laws.{bits, state_size, sized_bits}
use Rattle.bernstein.proofs.Identity.{state_step}
use Rattle.sampling.specs.Grid.{RowPut}
use Rattle.sampling.proofs.Lists.{row_none, row_step}
use Rattle.sampling.proofs.put_row.Goals as goal
use Rattle.sampling.proofs.put_row.Goals.{In-loop-j}

value_same : (e : Vector5) (g : Vector5) (x : ℕ) → g ≡ state_of e x → g.a ≡ polynomial_at e x
unfolding state_of
value_same e g x h = ap (λ (f : Vector5). f.a) h

from_all : (x : ℕ) → x ≡ x + 0
from_all x = omega arith

one_more_lem : (x j : ℕ) → x + j + 1 ≡ x + (j + 1)
one_more_lem x j = omega arith

-- in the loop
module _ (t : In-loop-j) where
  abbrev j : ℕ
  j = t.loop-j.j

  abbrev e : Vector5
  e = t.args.e

  abbrev first : ℕ
  first = t.args.first

  inv : (t.loop-j.g ≡ state_of e (first + j)) × RowPut e t.args.n first j t.args.from t.args.points.now t.loop-j.points
  inv = t.loop-j.invariant e t.state_at-g.ensures

  below : j < t.args.count
  below = t.loop-j-test.true

  sized : Sized (2 ^ 60) t.loop-j.g
  sized =
      subst (λ (g : Vector5). Sized (2 ^ 60) g) (sym inv.0)
      (state_size e (first + j) (5 * 2 ^ 34) (omega (arith, below, t.requires.0.short)) t.requires.0.tapers (lit≤ tt))

  value_is : bits t.loop-j.g.a ≡ polynomial_at e (first + j)
  value_is = sized_bits t.loop-j.g.a (2 ^ 60) sized.0 (lit≤ tt) ∙ value_same e t.loop-j.g (first + j) inv.0

  small : nat_abs (bits t.loop-j.g.a) ≤ 2 ^ 27 * t.args.n ^ 4
  small = rw value_is (t.requires.0.small j below)

  room : t.args.from + 3 * j < length t.loop-j.points
  room = omega (arith, inv.1.same, below, t.requires.1)

pub loop-j-init : goal.loop-j-init
loop-j-init c = λ e h. (h ∙ ap (state_of e) (from_all c.args.first), row_none e c.args.n c.args.first c.args.from c.args.points.now)

pub rounded-requires : goal.rounded-requires
rounded-requires c = (c.requires.0.some, c.requires.0.few, small (search))

pub loop-j-preserved : goal.loop-j-preserved
loop-j-preserved c =
    let fits : SFits w32 c.rounded.result = search rules in
    let l = c.loop-j in
    λ e h.
    let i = l.invariant e h in (
      c.step-g.ensures ∙ ap step_of i.0 ∙ state_step e (c.args.first + l.j) ∙ ap (state_of e) (one_more_lem c.args.first l.j),
      row_step e c.args.n c.args.first l.j c.args.from c.args.points.now l.points (to_z w32 (of_z w32 c.rounded.result)) i.1
          (room (search))
          (to_z-of_z fits ∙ c.rounded.ensures ∙ ap (λ (z : ℤ). round z (pos (c.args.n ^ 4)))
          (sized_bits l.g.a (2 ^ 60) (sized (search)).0 (lit≤ tt) ∙ value_same e l.g (c.args.first + l.j) i.0)),
    )

pub shape_of-points : goal.shape_of-points
shape_of-points c = (c.loop-j.invariant _ c.state_at-g.ensures).1.same

pub returns : goal.returns
returns c =
    let l = c.loop-j in
    subst (λ (x : ℕ). RowPut c.args.e c.args.n c.args.first x c.args.from c.args.points.now l.points) (omega arith)
    (l.invariant c.args.e c.state_at-g.ensures).1

pub state_at-g-requires : goal.state_at-g-requires
state_at-g-requires c = (c.requires.0.tapers, c.requires.0.early)

pub overflow_mul-j : goal.overflow_mul-j
overflow_mul-j c = let h = room (search) in search rules

pub overflow_add-from : goal.overflow_add-from
overflow_add-from c = let h = room (search) in search rules

pub offset_bounds-points-from : goal.offset_bounds-points-from
offset_bounds-points-from c = let h = room (search) in search rules

pub bounds-points-from : goal.bounds-points-from
bounds-points-from c = room (search)

pub step-g-requires : goal.step-g-requires
step-g-requires c = sized (search)
