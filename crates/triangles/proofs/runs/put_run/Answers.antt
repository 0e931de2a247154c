-- `put_run` meets its contract: the numbers of the corners before stand there.
use mathlib.Core.Path.{◌≡◌, ap, ◌∙◌, subst}
use mathlib.Core.List.{List}
use Prim.Native.Nat.{ℕ, ◌+◌, ◌-◌, ◌*◌}
use native.Mathlib.Omega.{arith}
use lib.ListN.{take, drop}
use lib.IntN.{ℤ}
use Rattle.paper.specs.Mesh.{corner_count}
use Rattle.paper.specs.Faults.{sound}
use Rattle.paper.specs.Floats.{net_verdict}
use Rattle.paper.specs.Calls.{per_corner, nets}
use Rattle.triangles.proofs.Own.{net_part}
use Rattle.strips.proofs.Stood.{range_step, range_end}
use Rattle.triangles.proofs.runs.Laws.{next_end, netted_long, netted_sound}
use Rattle.triangles.proofs.runs.put_run.Goals as goal

pub overflow_mul-from : goal.overflow_mul-from
overflow_mul-from g c = record { fits = omega (arith, netted_long c.requires.netted.0) }

pub overflow_add-net : goal.overflow_add-net
overflow_add-net g c = record { fits = omega (arith, netted_long c.requires.netted.0) }

pub offset_bounds-numbers-from : goal.offset_bounds-numbers-from
offset_bounds-numbers-from g c = record { fits = omega (arith, netted_long c.requires.netted.0) }

pub slice_bounds-net-end : goal.slice_bounds-net-end
slice_bounds-net-end g c = omega (arith, netted_long c.requires.netted.0)

pub put-to-requires-clause-given : goal.put-to-requires-clause-given
put-to-requires-clause-given g c =
    let l = c.loop-c in
    let n = c.requires.netted.0 in (
      record { mesh = n.mesh; is = n.is },
      omega (arith, c.requires.netted.1),
      subst (λ (x : ℕ). net_verdict (take x (drop (per_corner * l.c) c.args.numbers.now)) ≡ sound)
          (let z : per_corner ≡ per_corner * l.c + per_corner - per_corner * l.c = omega arith in z) (netted_sound n c.requires.netted.1 l.c (omega arith)),
    )

pub loop-c-preserved : goal.loop-c-preserved
loop-c-preserved g c =
    let s = c.args in
    let l = c.loop-c in
    let levels = s.tables.levels.now in (
      λ M o.
          next_end (g.N.Own.before M levels) (corner_count M) (c.requires.laws.rises M levels) s.first s.count (omega (arith, c.requires.netted.1, o.many)) s.at l.c
          (omega arith) l.to _ (l.invariant.0 M o) (c.put-to.ensures.ends M o),
      λ M o e.
          range_step (g.N.Own.number M levels) (g.N.Own.before M levels) (corner_count M) (c.requires.laws.rises M levels) s.first s.count
          (omega (arith, c.requires.netted.1, o.many)) s.at l.c l.to _ s.out.now l.out _ (omega arith) (l.invariant.1 M o e)
          (c.put-to.ensures.numbers M o
          (subst (λ (x : ℕ). take x (drop (per_corner * l.c) s.numbers.now) ≡ nets M (s.first + l.c) 1)
          (let z : per_corner ≡ per_corner * l.c + per_corner - per_corner * l.c = omega arith in z)
          (ap (λ (x : List ℤ). take per_corner (drop (per_corner * l.c) x)) e ∙ net_part M s.first s.count l.c (omega arith)))),
    )

pub returns-clause-numbers : goal.returns-clause-numbers
returns-clause-numbers g c =
    let s = c.args in
    let l = c.loop-c in
    let levels = s.tables.levels.now in
    λ M o q.
    range_end (g.N.Own.number M levels) (g.N.Own.before M levels) (corner_count M) (c.requires.laws.rises M levels) s.first s.count
    (omega (arith, c.requires.netted.1, o.many)) s.at l.c l.to s.out.now l.out (omega arith) (l.invariant.1 M o q)
