-- Where the refined points of an axis are turned, so is every value of a quad-net, formula by formula in the order of 01, and so its 41 points.
use mathlib.Core.Path.{◌≡◌, refl, sym, ap, ◌∙◌}
use mathlib.Core.List.{List, map}
use Prim.Native.Nat.{ℕ, zero, suc, ◌+◌, ◌*◌}
use lib.ListN.{get_or, get_or-map}
use lib.IntN.{ℤ, pos, ◌+ℤ◌, ◌*ℤ◌}
use Rattle.paper.specs.Numbers.{sum, sum_by, round, rounded}
use Rattle.paper.specs.Cosines.{unit}
use Rattle.paper.specs.Refined.{Corners, RefinedMesh}
use Rattle.paper.specs.Face.{weight, centre, toward}
use Rattle.paper.specs.Net.{End, Side, head, tail, size, ring, head_place, tail_place, points, end}
use Rattle.paper.specs.Net.{H, T, X, Y, N, C, outer1, outer2, outer3, a0, a1, a2, a3, middle, b_head, b_tail, a_head, a_tail, b22, b_grid, a_grid, net}
use Rattle.mirror.proofs.Turn.{Turn}

-- ---- what is turned stays so through sums, multiples, r and finite sums
module _ (σ : ℤ → ℤ) (t : Turn σ) where
  pub add : {a b a' b' : ℤ} → a' ≡ σ a → b' ≡ σ b → a' +ℤ b' ≡ σ (a +ℤ b)
  add {a} {b} e f = rw (e, f) (t.plus a b)

  pub mul : (k : ℤ) {a a' : ℤ} → a' ≡ σ a → k *ℤ a' ≡ σ (k *ℤ a)
  mul k {a} e = rw e (t.times k a)

  pub by : (d : ℕ) {n n' : ℤ} → n' ≡ σ n → round n' (pos d) ≡ σ (round n (pos d))
  by d {n} e = rw e (t.rounds n d)

  pub sum_turn : (f f' : ℕ → ℤ) (n : ℕ) → ((j : ℕ) → f' j ≡ σ (f j)) → sum f' n ≡ σ (sum f n)
  unfolding sum_by
  sum_turn f f' zero e = sym t.none
  sum_turn f f' (suc n) e = add (sum_turn f f' n e) (e n)

-- ---- the quad-net of corner c over the points p', which are the points p turned
module _ (σ : ℤ → ℤ) (t : Turn σ) (corners : Corners) (p p' : ℕ → ℤ) (e : (c : ℕ) → p' c ≡ σ (p c)) (c : ℕ) where
  abbrev K : RefinedMesh rounded
  K = record { corners = corners; point = p }

  abbrev K' : RefinedMesh rounded
  K' = record { corners = corners; point = p' }

  end_turn : (q : End) → end K' c q ≡ σ (end K c q)
  unfolding centre
  end_turn q = by σ t (size corners c q) (sum_turn σ t (points K c q) (points K' c q) (size corners c q) (λ j. e (ring corners c q j)))

  toward_turn : (q : End) (i : ℕ) → toward rounded (points K' c q) (size corners c q) i ≡ σ (toward rounded (points K c q) (size corners c q) i)
  unfolding toward
  toward_turn q i =
      let m = size corners c q in
      by σ t (3 * unit * m)
      (sum_turn σ t (λ k. weight m k *ℤ points K c q (i + k)) (λ k. weight m k *ℤ points K' c q (i + k)) m
      (λ k. mul σ t (weight m k) (e (ring corners c q (i + k)))))

  module _ (s : Side) where
    H-turn : H K' c s ≡ σ (H K c s)
    unfolding H
    H-turn = end_turn (head s)

    T-turn : T K' c s ≡ σ (T K c s)
    unfolding T
    T-turn = end_turn (tail s)

    X-turn : X K' c s ≡ σ (X K c s)
    unfolding X
    X-turn = toward_turn (head s) (head_place corners c s)

    Y-turn : Y K' c s ≡ σ (Y K c s)
    unfolding Y
    Y-turn = toward_turn (tail s) (tail_place s)

    N-turn : N K' c s ≡ σ (N K c s)
    unfolding N
    N-turn = simp (X-turn, Y-turn, e, t.plus, t.minus, t.times, t.rounds)

    C-same : C K' c s ≡ C K c s
    unfolding C
    C-same = refl

  -- the other values are sums, differences, multiples and roundings of these, through which the turn goes
  net_turn : net K' c ≡ map σ (net K c)
  unfolding net b_grid a_grid outer1 outer2 outer3 a0 a1 a2 a3 middle b_head b_tail a_head a_tail b22
  net_turn = simp (H-turn, T-turn, X-turn, Y-turn, N-turn, C-same, t.plus, t.minus, t.times, t.rounds)

  -- each of the 41 points
  pub point_turn : (j : ℕ) → get_or (net K' c) j (pos 0) ≡ σ (get_or (net K c) j (pos 0))
  point_turn j =
      ap (λ (l : List ℤ). get_or l j (pos 0)) net_turn
      ∙ ap (get_or (map σ (net K c)) j) (sym t.none)
      ∙ get_or-map σ (net K c) j (pos 0)
