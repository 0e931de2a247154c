-- `put_runs` meets its contract: the numbers of the corners before stand there.
use mathlib.Core.Path.{ap, subst}
use Prim.Native.Nat.{ℕ, ◌+◌}
use native.Mathlib.Omega.{arith}
use lib.ListN.{length}
use Rattle.paper.specs.Mesh.{corner_count}
use Rattle.strips.specs.PointRows.{Stands}
use Rattle.triangles.proofs.runs.Laws.{run_step, run_end, run_nets}
use Rattle.triangles.proofs.runs.put_runs.Goals as goal

pub put_run-to-requires-clause-netted : goal.put_run-to-requires-clause-netted
put_run-to-requires-clause-netted g c =
    let s = c.args in
    let l = c.loop-c in
    let run = c.min-run.result in
    let d = c.requires.mesh.0 in (
      record {
        mesh = d.mesh;
        is = d.is;
        numbers_are = run_nets d.mesh _ _ s.first s.count _ d.draws (ap length d.is.corners_are) l.c run (omega arith) _ (omega arith) c.write_corners.ensures;
      },
      omega (arith, c.requires.range),
    )

pub loop-c-preserved : goal.loop-c-preserved
loop-c-preserved g c =
    let s = c.args in
    let l = c.loop-c in
    let run = c.min-run.result in
    let levels = s.tables.levels.now in (
      omega arith,
      λ M o.
          run_end (g.N.Own.before M levels) (corner_count M) (c.requires.laws.rises M levels) s.first s.count (omega (arith, c.requires.range, o.many)) l.c run l.to _
          (omega arith) (l.invariant.1 M o) (c.put_run-to.ensures.ends M o),
      λ M o d.
          run_step (g.N.Own.before M levels) (corner_count M) (c.requires.laws.rises M levels) s.first s.count (omega (arith, c.requires.range, o.many))
          (g.N.Own.number M levels) l.c run l.to _ s.out.now l.out _ (omega arith) (l.invariant.2 M o d)
          (c.put_run-to.ensures.numbers M o
          (run_nets M _ _ s.first s.count _ d (ap length o.corners_are) l.c run (omega arith) _ (omega arith) c.write_corners.ensures)),
    )

pub returns : goal.returns
returns g c =
    let s = c.args in
    let l = c.loop-c in
    let levels = s.tables.levels.now in
    λ M o d.
    c.requires.laws.whole M levels s.first s.count l.to s.out.now l.out
    (subst (λ (x : ℕ). Stands (g.N.Own.number M levels) (g.N.Own.before M levels s.first) (g.N.Own.before M levels (s.first + x)) 0 l.to s.out.now l.out)
    (omega (arith, l.invariant.0)) (l.invariant.2 M o d))
