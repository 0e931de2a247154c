-- `fill_links` meets its contract: the corners of the vertices below `u` have their entries and valences, and those vertices are counted.
use mathlib.Core.Path.{◌≡◌}
use Prim.Native.Nat.{◌≤◌}
use lib.ListN.{length}
use Rattle.checks.specs.edges.Entries.{Searchable, ChainsFrom, HeadsFrom, BothKeyed, FacesKept}
use Rattle.checks.proofs.edges.Collecting.{EntriesBelow, ValencesBelow, CountedBelow}
use Rattle.checks.proofs.edges.fill_links.Given as goal

abbrev pub invariant-loop-u : goal.invariant-loop-u
invariant-loop-u l =
    (l.u ≤ l.count) × (length l.table ≡ length l.initial.table) × (length l.vertices ≡ length l.initial.vertices) × Searchable l.corners l.table l.vertices
    × BothKeyed l.corners l.table l.vertices × ChainsFrom l.corners l.table l.u × EntriesBelow l.corners l.table l.u × ValencesBelow l.corners l.table l.u
    × FacesKept l.initial.table l.table × CountedBelow l.corners l.vertices l.u × HeadsFrom l.corners l.vertices l.u
