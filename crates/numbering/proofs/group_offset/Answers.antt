-- `group_offset` meets its contract, group by group.
use mathlib.Core.Path.{◌≡◌, ap, ◌∙◌}
use native.Mathlib.Omega.{arith}
use Rattle.numbering.specs.Meshed.{group_start}
use Rattle.numbering.proofs.Lent.{here_of, offset0, offset1, offset2, offset3, offset4, offset5}
use Rattle.numbering.proofs.group_offset.Goals as goal
use Rattle.numbering.proofs.group_offset.Goals.{Start}

pub returns-then-g-eq0 : goal.returns-then-g-eq0
returns-then-g-eq0 c = (omega arith, λ M o. ap (group_start M _ _) c.if-g-eq0.true ∙ offset0 M o _ c.requires.1)

pub returns-then-g-eq1 : goal.returns-then-g-eq1
returns-then-g-eq1 c =
    (omega arith, λ M o. ap (group_start M _ _) c.if-g-eq1.true ∙ offset1 M o _ c.requires.1 _ c.own_vertex-a.ensures.1)

pub returns-then-g-eq2 : goal.returns-then-g-eq2
returns-then-g-eq2 c = (
  omega arith,
  λ M o. ap (group_start M _ _) c.if-g-eq2.true ∙ offset2 M o _ c.requires.1 _
      c.own_vertex-a.ensures.1 _ (c.own_edge-b.ensures.1 M (here_of M o _ c.requires.1)),
)

pub returns-then-g-eq3 : goal.returns-then-g-eq3
returns-then-g-eq3 c = (
  omega arith,
  λ M o. let h = here_of M o _ c.requires.1 in
      ap (group_start M _ _) c.if-g-eq3.true ∙ offset3 M o _ c.requires.1 _ c.own_vertex-a.ensures.1 _ (c.own_edge-b.ensures.1 M h) _
      (c.own_face-d.ensures.1 M h),
)

pub returns-then-g-eq4 : goal.returns-then-g-eq4
returns-then-g-eq4 c = (
  omega arith,
  λ M o. let h = here_of M o _ c.requires.1 in
      ap (group_start M _ _) c.if-g-eq4.true ∙ offset4 M o _ c.requires.1 _ c.own_vertex-a.ensures.1 _ (c.own_edge-b.ensures.1 M h) _
      (c.own_face-d.ensures.1 M h) _ (c.segments_at-m.ensures.2 M h),
)

pub returns : goal.returns
returns c =
    let z : c.args.g ≡ 5 = omega (arith, c.if-g-eq4.false, c.if-g-eq3.false, c.if-g-eq2.false, c.if-g-eq1.false, c.if-g-eq0.false, c.requires.2) in (
      omega arith,
      λ M o. let h = here_of M o _ c.requires.1 in ap (group_start M _ _) z ∙ offset5 M o _ c.requires.1 _ c.own_vertex-a.ensures.1 _
          (c.own_edge-b.ensures.1 M h) _ (c.own_face-d.ensures.1 M h) _ (c.segments_at-m.ensures.2 M h) _
          (c.segments_at-n.ensures.2 M h),
    )
