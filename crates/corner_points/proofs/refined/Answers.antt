-- A refined point meets its contract: every step fits by the sizes of the coordinates.
use mathlib.Core.Path.{◌∙◌}
use borrow.Author.Rules.{rules}
use mir.Syntax.{w32}
use mir.Val.{SFits}
use mir.Facts.{to_z-of_z}
use Rattle.corner_points.proofs.Laws.{MeanSizes, sizes}
use Rattle.corner_points.proofs.refined.Goals as goal
use Rattle.corner_points.proofs.refined.Goals.{Start}

facts : (s : Start) → MeanSizes s.args.w s.args.total s.args.before s.args.here s.args.after s.args.face.sides
facts s = sizes s.args.w s.requires.1 s.args.total s.args.before s.args.here s.args.after s.args.face s.requires.0

pub overflow_mul-three : goal.overflow_mul-three
overflow_mul-three c =
    let s = c in let k = facts (goal.at.overflow_mul-three c).Start in
    simp (to_z-of_z, s.ranges.before, k.read_before) k.on_before

pub overflow_mul-three-2 : goal.overflow_mul-three-2
overflow_mul-three-2 c =
    let s = c in let k = facts (goal.at.overflow_mul-three-2 c).Start in
    simp (to_z-of_z, s.ranges.here, k.read_here) k.on_here

pub overflow_add-three : goal.overflow_add-three
overflow_add-three c =
    let s = c in let k = facts (goal.at.overflow_add-three c).Start in
    simp (to_z-of_z, s.ranges.before, k.read_before, s.ranges.here, k.read_here, k.on_before, k.on_here) k.two

pub overflow_mul-three-3 : goal.overflow_mul-three-3
overflow_mul-three-3 c =
    let s = (goal.at.overflow_mul-three-3 c).Start in let k = facts s in
    simp (to_z-of_z, s.ranges.after, k.read_after) k.on_after

pub overflow_add-three-2 : goal.overflow_add-three-2
overflow_add-three-2 c =
    let s = (goal.at.overflow_add-three-2 c).Start in let k = facts s in
    simp (
      to_z-of_z,
      s.ranges.before,
      k.read_before,
      s.ranges.here,
      k.read_here,
      s.ranges.after,
      k.read_after,
      k.on_before,
      k.on_here,
      k.on_after,
      k.two,
    ) k.three

pub overflow_mul-t : goal.overflow_mul-t
overflow_mul-t c =
    let s = (goal.at.overflow_mul-t c).Start in let k = facts s in
    simp (to_z-of_z, s.ranges.total, k.read_face) k.on_face

pub overflow_mul-t-2 : goal.overflow_mul-t-2
overflow_mul-t-2 c =
    let s = (goal.at.overflow_mul-t-2 c).Start in let k = facts s in
    simp (
      to_z-of_z,
      s.ranges.before,
      k.read_before,
      s.ranges.here,
      k.read_here,
      s.ranges.after,
      k.read_after,
      k.on_before,
      k.on_here,
      k.on_after,
      k.two,
      k.read,
      k.three,
    ) k.product

pub overflow_add-t : goal.overflow_add-t
overflow_add-t c =
    let s = (goal.at.overflow_add-t c).Start in let k = facts s in
    simp (
      to_z-of_z,
      s.ranges.before,
      k.read_before,
      s.ranges.here,
      k.read_here,
      s.ranges.after,
      k.read_after,
      k.on_before,
      k.on_here,
      k.on_after,
      k.two,
      s.ranges.total,
      k.read_face,
      k.read,
      k.three,
      k.on_face,
      k.product,
    ) k.all

pub overflow_mul-n : goal.overflow_mul-n
overflow_mul-n c = let k = facts (goal.at.overflow_mul-n c).Start in rw k.read k.divisor_fits

pub round_by-requires : goal.round_by-requires
round_by-requires c =
    let s = (goal.at.round_by-requires c).Start in let k = facts s in
    simp (
      to_z-of_z,
      s.ranges.before,
      k.read_before,
      s.ranges.here,
      k.read_here,
      s.ranges.after,
      k.read_after,
      k.on_before,
      k.on_here,
      k.on_after,
      k.two,
      s.ranges.total,
      k.read_face,
      k.read,
      k.three,
      k.on_face,
      k.product,
      k.all,
      k.divisor_fits,
    ) (k.bounded, s.requires.0.known.reciprocal_is)

pub returns : goal.returns
returns c =
    let s = (goal.at.returns c).Start in let k = facts s in
    let f : SFits w32 c.round_by.result = search rules in
    to_z-of_z f
    ∙ simp (
      to_z-of_z,
      s.ranges.before,
      k.read_before,
      s.ranges.here,
      k.read_here,
      s.ranges.after,
      k.read_after,
      k.on_before,
      k.on_here,
      k.on_after,
      k.two,
      s.ranges.total,
      k.read_face,
      k.read,
      k.three,
      k.on_face,
      k.product,
      k.all,
      k.divisor_fits,
    ) at c.round_by.ensures
