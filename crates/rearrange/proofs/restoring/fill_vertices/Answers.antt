-- After v turns the numbers of the first v vertices are restored, and x, y, z are the sums of the last of them.
use mathlib.Core.Path.{◌≡◌, sym}
use Prim.Native.Nat.{ℕ, ◌+◌, ◌*◌, ◌/◌, ◌%◌, ◌<◌}
use native.Mathlib.Nat.{div-add-mod}
use lib.ListN.{length}
use mir.Syntax.{w64}
use mir.Val.{Fits}
use Rattle.mesh.proofs.Fills.{filled_none}
use Rattle.paper.specs.Archive.{restored_at}
use Rattle.rearrange.proofs.restoring.Sums.{before_first, vertex_next, vertex_fills, one_length, restored_all}
use native.Mathlib.Omega.{arith}
use Rattle.rearrange.proofs.restoring.fill_vertices.Goals as goal
use Rattle.rearrange.proofs.restoring.fill_vertices.Goals.{After-restore_at-x, After-restore_at-y, After-restore_at-z, In-loop-v}

-- the places of vertex v
module _ (v n : ℕ) (h : v < n / 3) where
  first_place : 3 * v < n
  first_place = omega (arith, div-add-mod n 3)

  second_place : 3 * v + 1 < n
  second_place = omega (arith, div-add-mod n 3)

  last_place : 3 * v + 2 < n
  last_place = omega (arith, div-add-mod n 3)

all_vertices : (v n : ℕ) → v ≡ n / 3 → n % 3 ≡ 0 → 3 * v ≡ n
all_vertices v n a e = omega (arith, div-add-mod n 3)

-- the list keeps its length from call to call
length1 : (c : After-restore_at-x) → length c.restore_at-x.new.numbers ≡ length c.args.numbers.now
length1 c = one_length _ _ _ _ _ _ _ _ c.restore_at-x.ensures c.loop-v.auto.numbers

length2 : (c : After-restore_at-y) → length c.restore_at-x.new.numbers ≡ length c.args.numbers.now
    → length c.restore_at-y.new.numbers ≡ length c.args.numbers.now
length2 c = one_length _ _ _ _ _ _ _ _ c.restore_at-y.ensures

pub loop-v-init : goal.loop-v-init
loop-v-init c =
    let b = c.args.bytes.now in
    let l = c.args.numbers.now in
    let n = length l in (filled_none (restored_at b n) l, sym (before_first b n 0), sym (before_first b n 1), sym (before_first b n 2))

-- the three places in a turn of the loop
module _ (i : In-loop-v) where
  abbrev turn : ℕ
  turn = i.loop-v.v

  abbrev count : ℕ
  count = length i.args.numbers.now

  first : 3 * turn < count
  first = first_place turn count i.loop-v-test.true

  second : 3 * turn + 1 < count
  second = second_place turn count i.loop-v-test.true

  last : 3 * turn + 2 < count
  last = last_place turn count i.loop-v-test.true

  -- a number below the length fits
  fits_below : (k : ℕ) → k < count → Fits w64 k
  fits_below k h = record { fits = omega arith }

  first_fits : Fits w64 (3 * turn)
  first_fits = fits_below (3 * turn) first

pub restore_at-x-requires : goal.restore_at-x-requires
restore_at-x-requires c = (first (goal.at.restore_at-x-requires c).In-loop-v, c.loop-v.auto.numbers, c.requires.1)

pub overflow_add-v : goal.overflow_add-v
overflow_add-v c = let i = (goal.at.overflow_add-v c).In-loop-v in fits_below i (3 * turn i + 1) (second i)

pub restore_at-y-requires : goal.restore_at-y-requires
restore_at-y-requires c = let i = (goal.at.restore_at-y-requires c).In-loop-v in (second i, length1 (goal.at.restore_at-y-requires c).After-restore_at-x, c.requires.1)

pub overflow_add-v-in-loop-v : goal.overflow_add-v-in-loop-v
overflow_add-v-in-loop-v c = let i = (goal.at.overflow_add-v-in-loop-v c).In-loop-v in fits_below i (3 * turn i + 2) (last i)

pub restore_at-z-requires : goal.restore_at-z-requires
restore_at-z-requires c =
    let i = (goal.at.restore_at-z-requires c).In-loop-v in
    (last i, length2 (goal.at.restore_at-z-requires c).After-restore_at-y (length1 (goal.at.restore_at-z-requires c).After-restore_at-x), c.requires.1)

pub loop-v-preserved : goal.loop-v-preserved
loop-v-preserved c =
    let i = (goal.at.loop-v-preserved c).In-loop-v in
    let b = c.args.bytes.now in
    let old = c.args.numbers.now in
    let l = i.loop-v in
    let r3 = c.restore_at-z in
    let filled = vertex_fills b (length old) l.v old l.numbers c.restore_at-x.new.numbers c.restore_at-y.new.numbers r3.new.numbers l.x l.y l.z
    c.restore_at-x.result c.restore_at-y.result r3.result l.invariant.1 l.invariant.2 l.invariant.3 c.restore_at-x.ensures c.restore_at-y.ensures r3.ensures (last i) l.invariant.0 in
    let next = vertex_next b (length old) l.v old l.numbers c.restore_at-x.new.numbers c.restore_at-y.new.numbers r3.new.numbers l.x l.y l.z
    c.restore_at-x.result c.restore_at-y.result r3.result l.invariant.1 l.invariant.2 l.invariant.3 c.restore_at-x.ensures c.restore_at-y.ensures r3.ensures in
    (filled, next.0, next.1, next.2)

pub returns : goal.returns
returns c =
    let l = c.loop-v in
    restored_all c.args.bytes.now c.args.numbers.now l.numbers (3 * l.v) (all_vertices l.v (length c.args.numbers.now) (omega arith) c.requires.0) l.invariant.0

pub overflow_mul-v : goal.overflow_mul-v
overflow_mul-v c = first_fits (goal.at.overflow_mul-v c).In-loop-v

pub overflow_mul-v-in-loop-v : goal.overflow_mul-v-in-loop-v
overflow_mul-v-in-loop-v c = first_fits (goal.at.overflow_mul-v-in-loop-v c).In-loop-v

pub overflow_mul-v-in-loop-v-2 : goal.overflow_mul-v-in-loop-v-2
overflow_mul-v-in-loop-v-2 c = first_fits (goal.at.overflow_mul-v-in-loop-v-2 c).In-loop-v
