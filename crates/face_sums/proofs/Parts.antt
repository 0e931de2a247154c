-- A face's own list of corners, which is a part of the list of all: what holds of its corners, and their sums.
use Rattle.std.proofs.Common.{◌≡◌, ℕ, ◌+◌, ◌-◌, ◌*◌, ◌<◌, ◌≤◌, List, length, get_or, take, drop, ap, ◌∙◌, zero-add, arith}
use Rattle.std.proofs.lemmas.List.{length-drop, length-take-le, get_or-drop, get_or-take}
use lib.IntN.{ℤ, pos}
use Rattle.paper.specs.Links.{vertex_of}
use Rattle.numbers.proofs.Sum.{sum_same}
use Rattle.mesh.specs.Tables.{Named}
use Rattle.face_sums.specs.Marks.{SomeIn, Tells, AtMark}
use Rattle.face_sums.specs.Sums.{Placed, vertex_steps, step_sum}

module _ (corners : List ℕ) (start n end : ℕ) (e : end ≡ start + n) (fits : end ≤ length corners) where
  abbrev pub part : List ℕ
  part = take (end - start) (drop start corners)

  pub part_length : length part ≡ n
  part_length = length-take-le (end - start) (drop start corners) (simp length-drop (omega arith)) ∙ omega arith

  pub part_at : (j : ℕ) → j < n → vertex_of part j ≡ vertex_of corners (start + j)
  part_at j h = get_or-take (end - start) (drop start corners) j 0 (omega arith) ∙ get_or-drop start corners j 0

  pub part_named : (m : ℕ) → Named corners m → Named part m
  part_named m h j l = let k : j < n = omega (arith, l, part_length) in rw (part_at j k) (h (start + j) (omega arith))

  pub part_placed : (coordinates : List ℤ) → Placed coordinates corners → Placed coordinates part
  part_placed coordinates p = record { named = part_named _ p.named; within = p.within }

  -- a corner at a marked vertex, told of the part and of the whole
  pub part_tells : (marked : List ℕ) (r : ℕ) → Tells r (SomeIn (AtMark part marked) 0 (length part)) → Tells r (SomeIn (AtMark corners marked) start (start + n))
  part_tells marked r t = record {
    yes = λ s.
        let j = s.at - start in
        let k : j < n = omega (arith, s.from, s.to) in
        let q : start + j ≡ s.at = omega (arith, s.from) in
        t.yes (record {
          at = j;
          from = omega arith;
          to = omega (arith, k, part_length);
          holds = rw (part_at j k, q) s.holds;
        });
    only = λ o.
        let s = t.only o in
        let k : s.at < n = omega (arith, s.to, part_length) in
        record { at = start + s.at; from = omega arith; to = omega (arith, k); holds = rw (← part_at s.at k) s.holds };
  }

  pub part_sum : (coordinates : List ℤ) (axis : ℕ) → step_sum coordinates part 0 (length part) axis ≡ step_sum coordinates corners start n axis
  part_sum coordinates axis =
      rw part_length
      (sum_same (λ j. vertex_steps coordinates part axis (0 + j)) (λ j. vertex_steps coordinates corners axis (start + j)) n
      (λ j h. ap (λ (v : ℕ). get_or coordinates (3 * v + axis) (pos 0)) (ap (vertex_of part) (zero-add j) ∙ part_at j h)))
