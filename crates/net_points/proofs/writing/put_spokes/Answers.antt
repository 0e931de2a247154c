-- `net_points::writing::put_spokes` meets its contract: before ring k + 1 the states are those of row k, and the rows of the rings before it are put.
use mathlib.Core.Path.{◌≡◌, refl, sym, ap, ◌∙◌, subst}
use Prim.Native.Nat.{ℕ, suc, ◌+◌, ◌-◌, ◌*◌, ◌^◌, ◌≤◌, ◌<◌}
use native.Mathlib.Omega.{arith}
use native.Mathlib.Numerals.{add-one}
use lib.ListN.{length}
use lib.IntN.{pos}
use Rattle.bernstein.specs.declared.Vector5.{Vector5}
use Rattle.bernstein.specs.declared.Matrix5.{Matrix5}
use Rattle.bernstein.specs.Sums.{AllSized, polynomial_of, states_of, steps_of, firsts_of, row_of}
use Rattle.bernstein.proofs.Laws.{polynomial_tapers, states_size}
use Rattle.bernstein.proofs.Identity.{states_step, firsts_row}
use Rattle.closing.proofs.Counts.{most_inner}
use Rattle.net_points.proofs.writing.Laws.{spoke_sampleable, ring_room}
use Rattle.net_points.proofs.writing.Parts.{spokes_step, spokes_all}
use Rattle.net_points.proofs.writing.put_spokes.Goals as goal
use Rattle.net_points.proofs.writing.put_spokes.Goals.{After-rings_before-ring, In-loop-k}

next_is : (c s r : Matrix5) (k : ℕ) → s ≡ states_of c k → r ≡ steps_of s → r ≡ states_of c (suc k)
next_is c s r k e h = h ∙ ap steps_of e ∙ states_step c k ∙ ap (states_of c) (add-one k)

row_is : (c s r : Matrix5) (e : Vector5) (k : ℕ) → s ≡ states_of c k → r ≡ steps_of s → e ≡ firsts_of r → e ≡ row_of c (suc k)
row_is c s r e k q h g = g ∙ ap firsts_of (next_is c s r k q h) ∙ firsts_row c (suc k)

-- in the loop
module _ (t : In-loop-k) where
  abbrev n : ℕ
  n = t.args.n

  abbrev k : ℕ
  k = t.loop-k.k

  abbrev c : Matrix5
  c = polynomial_of t.args.p (pos n)

  below : k + 1 < n
  below = omega arith

  few : n ≤ 16
  few = t.requires.0.few

  states : t.loop-k.s ≡ states_of c k
  states = (t.loop-k.invariant t.args.p t.start-s.ensures).0

  sized_at : (r : Matrix5) (x : ℕ) → x ≤ 16 → r ≡ states_of c x → AllSized (2 ^ 60) r
  sized_at r x h e =
      subst (λ (s : Matrix5). AllSized (2 ^ 60) s) (sym e) (states_size c x h (polynomial_tapers t.args.p n t.requires.0.sized few))

  sized : AllSized (2 ^ 60) t.loop-k.s
  sized = sized_at t.loop-k.s k (omega (arith, below, few)) states

  sized_next : (r : Matrix5) → r ≡ steps_of t.loop-k.s → AllSized (2 ^ 60) r
  sized_next r e = sized_at r (suc k) (omega (arith, below, few)) (next_is c t.loop-k.s r k states e)

  within : 2 * (k * (2 * n - k - 1)) + t.args.side * (n - k - 1) + (n - k - 1) ≤ 2 * (n * (n - 1))
  within = ring_room n k t.args.side below t.requires.1

  inner : n * (n - 1) ≤ 240
  inner = most_inner n few

  long : length t.loop-k.points ≡ length t.args.points.now
  long = t.loop-k.auto.points

pub next-s-requires : goal.next-s-requires
next-s-requires c = sized (search)

pub row-e-requires : goal.row-e-requires
row-e-requires c = sized_next (search) c.next-s.result c.next-s.ensures

-- where the row starts
module _ (c : After-rings_before-ring) where
  ring_is : c.rings_before-ring.result ≡ 2 * (c.loop-k.k * (2 * c.args.n - c.loop-k.k - 1))
  ring_is = c.rings_before-ring.ensures.0

  place_room : c.args.at + 3 * (c.rings_before-ring.result + c.args.side * (c.args.n - c.loop-k.k - 1)) + 3 * (c.args.n - c.loop-k.k - 1)
      ≤ length c.loop-k.points + 2
  place_room = let b = within (search) in omega (arith, ring_is, long (search), c.requires.2)

pub put_row-requires : goal.put_row-requires
put_row-requires c = (
  spoke_sampleable c.args.p c.args.n c.loop-k.k (c.args.n - c.loop-k.k - 1) (below (search)) (omega arith) c.requires.0 c.row-e.result
      (row_is (polynomial_of c.args.p (pos c.args.n)) c.loop-k.s c.next-s.result c.row-e.result c.loop-k.k (states (search)) c.next-s.ensures c.row-e.ensures),
  place_room (search),
)

pub loop-k-preserved : goal.loop-k-preserved
loop-k-preserved c =
    λ p h.
    let i = c.loop-k.invariant p h in (
      c.next-s.ensures ∙ ap steps_of i.0 ∙ states_step (polynomial_of p (pos c.args.n)) c.loop-k.k,
      λ f aim.
          spokes_step p c.args.n c.args.side c.args.at c.loop-k.k c.args.points.now c.loop-k.points _ (below (search)) c.row-e.result
          (row_is (polynomial_of p (pos c.args.n)) c.loop-k.s c.next-s.result c.row-e.result c.loop-k.k i.0 c.next-s.ensures c.row-e.ensures)
          c.rings_before-ring.result (c.args.n - c.loop-k.k - 1) _ c.rings_before-ring.ensures.0 (omega arith) refl c.put_row.ensures f aim (i.1 f aim),
    )

pub returns : goal.returns
returns c =
    let l = c.loop-k in
    λ f aim.
    spokes_all f c.args.side c.args.n c.args.at l.k c.args.points.now l.points (omega arith)
    ((l.invariant c.args.p c.start-s.ensures).1 f aim)
