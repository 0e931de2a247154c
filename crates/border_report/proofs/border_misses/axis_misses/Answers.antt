-- `border_report::border_misses::axis_misses` meets its contract: the rows are read at the places that the table of sides names.
use mathlib.Core.Path.{◌≡◌, ◌∙◌}
use Prim.Native.Nat.{ℕ, max}
use lib.Dec.{lit<}
use Rattle.border_report.proofs.border_misses.Laws.{larger_at, miss0, miss1}
use Rattle.border_report.proofs.border_misses.axis_misses.Goals as goal

both : {a b x y : ℕ} → a ≡ x → b ≡ y → max a b ≡ max x y
both e f = rw (e, f)

pub row-own1-requires : goal.row-own1-requires
row-own1-requires c =
    let p = c.requires.numbers in record { net = (p.1, p.0); places = (lit< tt, lit< tt, lit< tt, lit< tt) }

pub row-other1-requires : goal.row-other1-requires
row-other1-requires c =
    let p = c.requires.numbers in record { net = (p.3, p.0); places = (lit< tt, lit< tt, lit< tt, lit< tt) }

pub side_misses-across_next-requires : goal.side_misses-across_next-requires
side_misses-across_next-requires c =
    (c.requires.sides.1, c.row-outer1.ensures.1, c.row-own1.ensures.1, c.row-other1.ensures.1)

pub returns : goal.returns
returns c K e four held-here held-linked held_next j few =
    let a = c.args in
    let across-link = c.side_misses-across_link.ensures j few
    ∙ miss0 K e a.axis a.face.now a.linked.now a.here 0 held-here held-linked a.sides.side0 four.side0 j few _ _ _
    (c.row-outer0.ensures.0 j few) (c.row-own0.ensures.0 j few) (c.row-other0.ensures.0 j few) in
    let across-next = c.side_misses-across_next.ensures j few
    ∙ miss1 K e a.axis a.face.now a.face.now a.here a.next held-here held_next a.sides.side1 four.side1 j few _ _ _
    (c.row-outer1.ensures.0 j few) (c.row-own1.ensures.0 j few) (c.row-other1.ensures.0 j few) in
    larger_at _ _ c.larger_of.ensures j few ∙ both across-link across-next
