-- `triangles_of` meets its contract.
use Prim.Native.Nat.{◌-◌, ◌*◌, ◌≤◌}
use native.Mathlib.Omega.{arith}
use Rattle.numbering.proofs.Lent.{here_of, level_bounds, triangles_rest}
use Rattle.numbering.proofs.triangles_of.Goals as goal
use Rattle.numbering.proofs.triangles_of.Goals.{After-level_at-n, Start}

few : (l : After-level_at-n) → (l.level_at-n.result * (l.level_at-n.result - 1) ≤ 240) × (1 ≤ l.level_at-n.result) × (l.level_at-n.result ≤ 16)
few l = level_bounds l.requires.0 l.args.c l.requires.1 _ l.level_at-n.ensures

pub returns : goal.returns
returns c = (
  omega (arith, few (search)),
  λ M o. let h = here_of M o c.args.c c.requires.1 in
      triangles_rest M o c.args.c c.requires.1 _ _ _ _ _ (c.segments_at-a.ensures.2 M h) (c.segments_at-b.ensures.2 M h)
      (c.segments_at-d.ensures.2 M h) (c.segments_at-e.ensures.2 M h) c.level_at-n.ensures,
)
