-- `net::stencil::take_vertex` meets its contract, by cases on the corners of the vertex: three, four, or any other count.
use mathlib.Core.Path.{◌≡◌, sym, ◌∙◌}
use Prim.Native.Nat.{ℕ, ◌*◌, ◌<◌}
use native.Mathlib.Omega.{arith}
use borrow.Author.Rules.{rules}
use lib.Dec.{lit<}
use lib.IntN.{pos}
use mir.Facts.{to_z-of_z}
use Rattle.numbers.specs.Units.{Reciprocal}
use Rattle.walk.specs.Table.{valence_here, entry}
use Rattle.faces.specs.Ring.{Readable}
use Rattle.net.specs.Drawn.{Drawn}
use Rattle.net.proofs.stencil.Taken.{row_at, vertex_taken}
use Rattle.net.proofs.stencil.Rings.{Divisor, divisor, row_in, readable, vertex_ring, valence_before, vertex_h, vertex_x, ring_behind}
use Rattle.net.proofs.stencil.Rings.{three_h, three_behind, three_ahead, four_h, four_behind, four_ahead}
use Rattle.net.proofs.stencil.take_vertex.Goals as goal
use Rattle.net.proofs.stencil.take_vertex.Goals.{After-four_centre, After-linked-far, After-reciprocal-f, After-ring_centre-centre, After-three_centre, After-valence-m, Start, Then-m-eq3, Then-m-eq4}

-- the mesh, and the three corners
module _ (s : Start) where
  drawn_is : Drawn s.args.count s.args.table.now s.args.points.now
  drawn_is = s.requires.mesh.0

  after_in : s.args.d < s.args.count
  after_in = rw s.requires.ring.2 (drawn_is.sound.link_in _ s.requires.mesh.1)

  here : Readable s.args.points.now s.args.c
  here = readable _ _ _ drawn_is _ s.requires.mesh.1

  behind : Readable s.args.points.now s.args.b
  behind = readable _ _ _ drawn_is _ s.requires.ring.0

  after : Readable s.args.points.now s.args.d
  after = readable _ _ _ drawn_is _ after_in

-- how many corners the vertex has
valence-is : (n : After-valence-m) → let s = n in n.valence-m.result ≡ entry s.args.table.now valence_here s.args.c
valence-is n = n.valence-m.ensures.read

by : (s : Start) (m : ℕ) → m ≡ entry s.args.table.now valence_here s.args.c → Divisor m
by s m e = let t = (drawn_is s).sound in rw e (divisor _ (t.valence_least _ s.requires.mesh.1) (t.valence_most _ s.requires.mesh.1))

-- ---- three
three : (p : Then-m-eq3) → let s : Start = search in entry s.args.table.now valence_here s.args.c ≡ 3
three p = sym p.valence-m.ensures.read ∙ p.if-m-eq3.true

pub returns-then-m-eq3 : goal.returns-then-m-eq3
returns-then-m-eq3 c =
    let u = c in
    let o = c in
    let v = c in
    let q = c in
    let w = c in
    let r = (goal.at.returns-then-m-eq3 c).After-three_centre in
    let i = r in
    let s = (goal.at.returns-then-m-eq3 c).Start in
    let t = drawn_is s in
    vertex_taken _ _ r.three_centre.result q.three_toward.result o.three_toward-then-m-eq3.result _ _ _ _ w.take_row.ensures v.take_row-then-m-eq3.ensures
    u.take_row-then-m-eq3-2.ensures
    (row_at _ 7 _ _ w.take_row.ensures _ _
    (λ a l z h. three_h _ _ _ t _ _ _ s.requires.ring.0 s.requires.mesh.1 s.requires.ring.1 s.requires.ring.2 (three (goal.at.returns-then-m-eq3 c).Then-m-eq3) a z h) r.three_centre.ensures)
    (row_at _ 8 _ _ v.take_row-then-m-eq3.ensures _ _
    (λ a l z h. three_behind _ _ _ t _ _ _ s.requires.ring.0 s.requires.mesh.1 s.requires.ring.1 s.requires.ring.2 (three (goal.at.returns-then-m-eq3 c).Then-m-eq3) a z l h) q.three_toward.ensures)
    (row_at _ 9 _ _ u.take_row-then-m-eq3-2.ensures _ _
    (λ a l z h. three_ahead _ _ _ t _ _ _ s.requires.ring.0 s.requires.mesh.1 s.requires.ring.1 s.requires.ring.2 (three (goal.at.returns-then-m-eq3 c).Then-m-eq3) a z h) o.three_toward-then-m-eq3.ensures)

-- ---- four
four : (p : Then-m-eq4) → let s : Start = search in entry s.args.table.now valence_here s.args.c ≡ 4
four p = sym p.valence-m.ensures.read ∙ p.if-m-eq4.true

far : (n : After-linked-far) → let s : Start = search in Readable s.args.points.now n.linked-far.result.corner
far n =
    let s : Start = search in
    readable _ _ _ (drawn_is s) _ (rw n.linked-far.ensures.read ((drawn_is s).sound.link_in _ (after_in s)))

pub returns-then-m-eq4 : goal.returns-then-m-eq4
returns-then-m-eq4 c =
    let u = c in
    let o = c in
    let v = c in
    let q = c in
    let w = c in
    let r = (goal.at.returns-then-m-eq4 c).After-four_centre in
    let n = r in
    let i = n in
    let s = (goal.at.returns-then-m-eq4 c).Start in
    let t = drawn_is s in
    vertex_taken _ _ r.four_centre.result q.four_toward.result o.four_toward-then-m-eq4.result _ _ _ _ w.take_row-then-m-eq4.ensures v.take_row-then-m-eq4-2.ensures
    u.take_row-then-m-eq4-3.ensures
    (row_at _ 7 _ _ w.take_row-then-m-eq4.ensures _ _
    (λ a l z h. four_h _ _ _ t _ _ _ s.requires.ring.0 s.requires.mesh.1 s.requires.ring.1 s.requires.ring.2 (four (goal.at.returns-then-m-eq4 c).Then-m-eq4) _ n.linked-far.ensures.read a z h)
    r.four_centre.ensures)
    (row_at _ 8 _ _ v.take_row-then-m-eq4-2.ensures _ _
    (λ a l z h. four_behind _ _ _ t _ _ _ s.requires.ring.0 s.requires.mesh.1 s.requires.ring.1 s.requires.ring.2 (four (goal.at.returns-then-m-eq4 c).Then-m-eq4) _ n.linked-far.ensures.read a z l h)
    q.four_toward.ensures)
    (row_at _ 9 _ _ u.take_row-then-m-eq4-3.ensures _ _
    (λ a l z h. four_ahead _ _ _ t _ _ _ s.requires.ring.0 s.requires.mesh.1 s.requires.ring.1 s.requires.ring.2 (four (goal.at.returns-then-m-eq4 c).Then-m-eq4) _ n.linked-far.ensures.read a z h)
    o.four_toward-then-m-eq4.ensures)

-- ---- any other count
reciprocal_is : (c : After-reciprocal-f) → Reciprocal (pos (3 * c.valence-m.result)) c.reciprocal-f.result
reciprocal_is c = let s : Start = search in let d = by s c.valence-m.result c.valence-m.ensures.read in rw (d.count_is, to_z-of_z d.fits) at c.reciprocal-f.ensures

pub returns-else-m-eq4 : goal.returns-else-m-eq4
returns-else-m-eq4 c =
    let u = c in
    let v = c in
    let w = c in
    let o = c in
    let q = c in
    let r = (goal.at.returns-else-m-eq4 c).After-ring_centre-centre in
    let i = r in
    let s = (goal.at.returns-else-m-eq4 c).Start in
    let t = drawn_is s in
    let n = valence-is (goal.at.returns-else-m-eq4 c).After-valence-m in
    vertex_taken _ _ r.ring_centre-centre.result q.ring_toward-behind.result o.ring_toward-ahead.result _ _ _ _ w.take_row-else-m-eq4.ensures v.take_row-else-m-eq4-2.ensures
    u.take_row-else-m-eq4-3.ensures
    (row_at _ 7 _ _ w.take_row-else-m-eq4.ensures _ _ (λ a l z h. vertex_h _ _ _ t _ _ a z n h) r.ring_centre-centre.ensures)
    (row_at _ 8 _ _ v.take_row-else-m-eq4-2.ensures _ _
    (λ a l z h. ring_behind _ _ _ t _ _ _ s.requires.ring.0 s.requires.mesh.1 s.requires.ring.1 s.requires.ring.2 _ a z l n h) q.ring_toward-behind.ensures)
    (row_at _ 9 _ _ u.take_row-else-m-eq4-3.ensures _ _ (λ a l z h. vertex_x _ _ _ t _ _ a z n h) o.ring_toward-ahead.ensures)

pub four_toward-requires-then-m-eq4 : goal.four_toward-requires-then-m-eq4
four_toward-requires-then-m-eq4 c =
    let v = c in
    let n = (goal.at.four_toward-requires-then-m-eq4 c).After-linked-far in
    let s = (goal.at.four_toward-requires-then-m-eq4 c).Start in
    (here s, after s, far n, behind s)

pub ring_centre-centre-requires : goal.ring_centre-centre-requires
ring_centre-centre-requires c =
    let i = c in
    let s = (goal.at.ring_centre-centre-requires c).Start in
    record { ring = vertex_ring _ _ _ (drawn_is s) _ _ s.requires.mesh.1 (valence-is (goal.at.ring_centre-centre-requires c).After-valence-m); reciprocal = reciprocal_is (goal.at.ring_centre-centre-requires c).After-reciprocal-f }

pub ring_toward-behind-requires : goal.ring_toward-behind-requires
ring_toward-behind-requires c =
    let r = (goal.at.ring_toward-behind-requires c).After-reciprocal-f in
    let i = r in
    let s = (goal.at.ring_toward-behind-requires c).Start in
    let t = drawn_is s in record {
      ring = vertex_ring _ _ _ t _ _ s.requires.ring.0 (valence-is (goal.at.ring_toward-behind-requires c).After-valence-m
          ∙ sym (valence_before _ _ _ t _ _ _ s.requires.ring.0 s.requires.mesh.1 s.requires.ring.1 s.requires.ring.2));
      rows = s.requires.mesh.2;
      reciprocal = reciprocal_is r;
    }

pub ring_toward-ahead-requires : goal.ring_toward-ahead-requires
ring_toward-ahead-requires c =
    let r = (goal.at.ring_toward-ahead-requires c).After-reciprocal-f in
    let i = r in
    let s = (goal.at.ring_toward-ahead-requires c).Start in
    record { ring = vertex_ring _ _ _ (drawn_is s) _ _ s.requires.mesh.1 (valence-is (goal.at.ring_toward-ahead-requires c).After-valence-m); rows = s.requires.mesh.2; reciprocal = reciprocal_is r }

pub valence-m-requires : goal.valence-m-requires
valence-m-requires c = row_in _ _ _ (drawn_is (goal.at.valence-m-requires c).Start) _ _ (lit< tt) c.requires.mesh.1

pub three_centre-requires : goal.three_centre-requires
three_centre-requires c = let s = (goal.at.three_centre-requires c).Start in (here s, after s, behind s)

pub take_row-requires : goal.take_row-requires
take_row-requires c = let s = c in omega (arith, s.requires.room)

pub three_toward-requires : goal.three_toward-requires
three_toward-requires c = let s = (goal.at.three_toward-requires c).Start in (behind s, here s, after s)

pub take_row-requires-then-m-eq3 : goal.take_row-requires-then-m-eq3
take_row-requires-then-m-eq3 c = let w = c in let s = c in omega (arith, s.requires.room, w.take_row.ensures.same)

pub three_toward-requires-then-m-eq3 : goal.three_toward-requires-then-m-eq3
three_toward-requires-then-m-eq3 c = let v = c in let s = (goal.at.three_toward-requires-then-m-eq3 c).Start in (here s, after s, behind s)

pub take_row-requires-then-m-eq3-2 : goal.take_row-requires-then-m-eq3-2
take_row-requires-then-m-eq3-2 c = let v = c in let w = c in let s = c in omega (arith, s.requires.room, w.take_row.ensures.same, v.take_row-then-m-eq3.ensures.same)

pub linked-far-requires : goal.linked-far-requires
linked-far-requires c = let s = (goal.at.linked-far-requires c).Start in row_in _ _ _ (drawn_is s) _ _ (lit< tt) (after_in s)

pub four_centre-requires : goal.four_centre-requires
four_centre-requires c = let s = (goal.at.four_centre-requires c).Start in (here s, after s, far (goal.at.four_centre-requires c).After-linked-far, behind s)

pub take_row-requires-then-m-eq4 : goal.take_row-requires-then-m-eq4
take_row-requires-then-m-eq4 c = let s = c in omega (arith, s.requires.room)

pub four_toward-requires : goal.four_toward-requires
four_toward-requires c = let n = (goal.at.four_toward-requires c).After-linked-far in let s = (goal.at.four_toward-requires c).Start in (behind s, here s, after s, far n)

pub take_row-requires-then-m-eq4-2 : goal.take_row-requires-then-m-eq4-2
take_row-requires-then-m-eq4-2 c = let w = c in let s = c in omega (arith, s.requires.room, w.take_row-then-m-eq4.ensures.same)

pub take_row-requires-then-m-eq4-3 : goal.take_row-requires-then-m-eq4-3
take_row-requires-then-m-eq4-3 c = let v = c in let w = c in let n = c in let s = c in omega (arith, s.requires.room, w.take_row-then-m-eq4.ensures.same, v.take_row-then-m-eq4-2.ensures.same)

pub overflow_cast-m : goal.overflow_cast-m
overflow_cast-m c = let d = by (goal.at.overflow_cast-m c).Start c.valence-m.result c.valence-m.ensures.read in search rules

pub overflow_mul-m : goal.overflow_mul-m
overflow_mul-m c = let d = by (goal.at.overflow_mul-m c).Start c.valence-m.result c.valence-m.ensures.read in rw d.count_is d.fits

pub reciprocal-f-requires : goal.reciprocal-f-requires
reciprocal-f-requires c = let d = by (goal.at.reciprocal-f-requires c).Start c.valence-m.result c.valence-m.ensures.read in rw (d.count_is, to_z-of_z d.fits) (d.from, d.to)

pub take_row-requires-else-m-eq4 : goal.take_row-requires-else-m-eq4
take_row-requires-else-m-eq4 c = let s = c in omega (arith, s.requires.room)

pub take_row-requires-else-m-eq4-2 : goal.take_row-requires-else-m-eq4-2
take_row-requires-else-m-eq4-2 c = let w = c in let r = c in omega (arith, c.requires.room, w.take_row-else-m-eq4.ensures.same)

pub take_row-requires-else-m-eq4-3 : goal.take_row-requires-else-m-eq4-3
take_row-requires-else-m-eq4-3 c = let v = c in let w = c in let r = c in omega (arith, c.requires.room, w.take_row-else-m-eq4.ensures.same, v.take_row-else-m-eq4-2.ensures.same)
