-- `sampling::put_axis` meets its contract: before row k the states are those at k, and the rows before it are written.
use mathlib.Core.Path.{◌≡◌, sym, ap, ◌∙◌, subst}
use Prim.Native.Nat.{ℕ, ◌+◌, ◌-◌, ◌*◌, ◌^◌, ◌≤◌}
use native.Mathlib.Omega.{arith}
use borrow.Author.Rules.{rules}
use lib.ListN.{length}
use lib.IntN.{pos}
use Rattle.bernstein.specs.declared.Vector5.{Vector5}
use Rattle.bernstein.specs.declared.Matrix5.{Matrix5}
use Rattle.bernstein.specs.Sums.{AllSized, AllTapered, polynomial_of, states_of, steps_of, firsts_of, row_of}
use Rattle.bernstein.proofs.Laws.{polynomial_tapers, states_size}
use Rattle.bernstein.proofs.Identity.{states_step, firsts_row}
use Rattle.sampling.specs.Grid.{samples_before, RowsPut}
use Rattle.sampling.proofs.Lists.{rows_none, rows_step, place_next, row_sampleable, row_room}
use Rattle.sampling.proofs.put_axis.Goals as goal
use Rattle.sampling.proofs.put_axis.Goals.{In-loop-k}

-- in the loop
module _ (t : In-loop-k) where
  abbrev n : ℕ
  n = t.args.n

  abbrev k : ℕ
  k = t.loop-k.k

  abbrev c : Matrix5
  c = polynomial_of t.args.p (pos n)

  inv : (t.loop-k.s ≡ states_of c k) × RowsPut t.args.p n t.args.axis k t.args.points.now t.loop-k.points
  inv = t.loop-k.invariant.2 t.args.p t.start-s.ensures

  below : k ≤ n
  below = t.loop-k-test.true

  tapers : AllTapered c
  tapers = polynomial_tapers t.args.p n t.requires.0.sized t.requires.0.few

  sized : AllSized (2 ^ 60) t.loop-k.s
  sized = subst (λ (s : Matrix5). AllSized (2 ^ 60) s) (sym inv.0) (states_size c k (omega (arith, below, t.requires.0.few)) tapers)

  room : t.loop-k.at + 3 * (n - k + 1) ≤ length t.loop-k.points + 2
  room =
      row_room n k t.args.axis t.loop-k.at (length t.loop-k.points) below t.requires.1 t.loop-k.invariant.1
      (omega (arith, inv.1.same, t.requires.2))

  few : n ≤ 16
  few = t.requires.0.few

row_is : (c : Matrix5) (k : ℕ) (s : Matrix5) (e : Vector5) → e ≡ firsts_of s → s ≡ states_of c k → e ≡ row_of c k
row_is c k s e h g = h ∙ ap firsts_of g ∙ firsts_row c k

pub loop-k-init : goal.loop-k-init
unfolding samples_before
loop-k-init c = (omega arith, omega arith, λ p h. (h, rows_none p c.args.n c.args.axis c.args.points.now))

pub row-e-requires : goal.row-e-requires
row-e-requires a = sized (search)

pub put_row-requires : goal.put_row-requires
put_row-requires a = (
  row_sampleable a.args.p a.args.n a.loop-k.k (below (search)) a.requires.0 (tapers (search)) a.row-e.result
      (row_is (c (search)) a.loop-k.k a.loop-k.s a.row-e.result a.row-e.ensures (inv (search)).0),
  room (search),
)

pub overflow_mul-at : goal.overflow_mul-at
overflow_mul-at a = let h = few (search) in search rules

pub overflow_add-at : goal.overflow_add-at
overflow_add-at a = record { fits = omega (arith, room (search)) }

pub next-s-requires : goal.next-s-requires
next-s-requires a = sized (search)

pub overflow_add-k : goal.overflow_add-k
overflow_add-k a = let h = few (search) in search rules

pub loop-k-smaller : goal.loop-k-smaller
loop-k-smaller a = let h = below (search) in omega arith

pub loop-k-preserved : goal.loop-k-preserved
loop-k-preserved a =
    let l = a.loop-k in
    let s = a in
    let place : l.at + 3 * (s.args.n - l.k + 1) ≡ 3 * samples_before s.args.n (l.k + 1) + s.args.axis =
    place_next s.args.p s.args.n s.args.axis l.k l.at s.args.points.now l.points _ (below (search)) s.requires.1 l.invariant.1 (inv (search)).1
    a.row-e.result (row_is (c (search)) l.k l.s a.row-e.result a.row-e.ensures (inv (search)).0) a.put_row.ensures in (
      omega (arith, below (search)),
      place,
      λ q h.
          let i = l.invariant.2 q h in (
            a.next-s.ensures ∙ ap steps_of i.0 ∙ states_step (polynomial_of q (pos s.args.n)) l.k,
            rows_step q s.args.n s.args.axis l.k l.at s.args.points.now l.points _ (below (search)) s.requires.1 l.invariant.1 i.1
                a.row-e.result (row_is (polynomial_of q (pos s.args.n)) l.k l.s a.row-e.result a.row-e.ensures i.0)
                a.put_row.ensures,
          ),
    )

pub shape_of-points : goal.shape_of-points
shape_of-points a = (a.loop-k.invariant.2 _ a.start-s.ensures).1.same

pub returns : goal.returns
returns a =
    let l = a.loop-k in
    let s = a in
    subst (λ (x : ℕ). RowsPut s.args.p s.args.n s.args.axis x s.args.points.now l.points) (omega (arith, l.invariant.0))
    (l.invariant.2 s.args.p a.start-s.ensures).1
