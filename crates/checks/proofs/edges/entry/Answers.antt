-- `entry` meets its contract: the columns name the first corner that the leaving edge leaves, and a corner of the vertex where its
-- reverse arrives, if there is one.
use mathlib.Core.Path.{◌≡◌}
use Prim.Native.Nat.{ℕ, ◌+◌, ◌-◌, ◌<◌, ◌≤◌}
use lib.ListN.{length}
use Rattle.paper.specs.Mesh.{most_corners}
use Rattle.paper.specs.Links.{vertex_of}
use Rattle.walk.specs.Table.{to_next, entry}
use Rattle.checks.specs.columns.Vertices.{leaving_here, arriving_here, noted, HasRow}
use Rattle.checks.specs.edges.Entries.{repeated, alone, to, EntryFor}
use Rattle.checks.proofs.edges.Faults.{entry_again, entry_single, entry_joined}
use Rattle.checks.proofs.edges.entry.Goals as goal
use Rattle.checks.proofs.edges.entry.Goals.{Start}

-- the next corner, the vertex that the leaving edge goes to, and its row
module _ (s : Start) where
  abbrev next : ℕ
  next = entry s.args.table.now to_next s.args.c

  abbrev far : ℕ
  far = to s.args.corners.now s.args.table.now s.args.c

  next_in : next < length s.args.corners.now
  next_in = s.requires.corner.2.nexts_in s.args.c s.requires.corner.0

  small : length s.args.corners.now ≤ most_corners
  small = s.requires.corner.2.small

  row : HasRow s.args.vertices.now far
  row = s.requires.corner.2.rowed next next_in

  -- the ways out, for all side counts
  again_at : (noted s.args.vertices.now leaving_here far ≡ s.args.c + 1 → ⊥)
      → EntryFor s.args.corners.now s.args.table.now s.args.c repeated
  again_at n sides e = entry_again _ _ _ s.args.u _ s.requires.corner.0 s.requires.corner.1 s.requires.marked sides e n

  single_at : noted s.args.vertices.now leaving_here far ≡ s.args.c + 1
      → ((noted s.args.vertices.now arriving_here far ≡ 0 → ⊥)
      → vertex_of s.args.corners.now (noted s.args.vertices.now arriving_here far - 1) ≡ s.args.u → ⊥)
      → EntryFor s.args.corners.now s.args.table.now s.args.c alone
  single_at q n sides e = entry_single _ _ _ s.args.u _ s.requires.corner.0 s.requires.corner.1 s.requires.marked sides e q n

pub returns : goal.returns
returns c =
    λ sides e.
    entry_joined _ _ _ c.args.u _ c.requires.corner.0 c.requires.corner.1 c.requires.marked sides e c.if-first-c.false
    c.if-e-eq0.false c.if-corners-d.false

pub returns-then-first-c : goal.returns-then-first-c
returns-then-first-c c = again_at (goal.at.returns-then-first-c c).Start c.if-first-c.true

pub returns-then-e-eq0 : goal.returns-then-e-eq0
returns-then-e-eq0 c = single_at (goal.at.returns-then-e-eq0 c).Start c.if-first-c.false (λ n v. n c.if-e-eq0.true)

pub returns-then-corners-d : goal.returns-then-corners-d
returns-then-corners-d c = single_at (goal.at.returns-then-corners-d c).Start c.if-first-c.false (λ n v. c.if-corners-d.true v)
