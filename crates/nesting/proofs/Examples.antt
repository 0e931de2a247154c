-- Small tables with answers worked out apart, computed from the definitions: the order of the checks, their places, and listings.
use mathlib.Core.Path.{◌≡◌, refl}
use mathlib.Core.List.{[], ◌∷◌}
use lib.ListN.{replicate}
use Rattle.paper.specs.Scan.{first_from, first_below, some_below, iterate}
use Rattle.paper.specs.Faults.{sound, fault, ◌or_else◌, single, lowest_of}
use Rattle.paper.specs.Nesting.{sun, chain, ends_at_sun, fault21, fault22, fault23, table_verdict, nesting_verdict, listed, may_follow, next_body, places, listing}

-- 21 before 22 before 23; 23 at the lowest body whose chain runs into a ring
refused : (nesting_verdict [] 0 ≡ fault 21 0)
    × (nesting_verdict (0 ∷ 9 ∷ []) 1 ≡ fault 21 0)
    × (nesting_verdict (replicate 257 sun) 257 ≡ fault 21 0)
    × (nesting_verdict (1 ∷ 0 ∷ 3 ∷ []) 3 ≡ fault 22 2)
    × (nesting_verdict (sun ∷ 65534 ∷ 9 ∷ []) 3 ≡ fault 22 1)
    × (nesting_verdict (sun ∷ 1 ∷ []) 2 ≡ fault 23 1)
    × (nesting_verdict (4 ∷ sun ∷ 1 ∷ 3 ∷ 2 ∷ []) 5 ≡ fault 23 3)
    × (nesting_verdict (sun ∷ 2 ∷ 3 ∷ 4 ∷ 3 ∷ []) 5 ≡ fault 23 1)
unfolding first_from first_below some_below iterate ◌or_else◌ single lowest_of chain ends_at_sun fault21 fault22 fault23 table_verdict nesting_verdict
refused = (refl, refl, refl, refl, refl, refl, refl, refl)

-- neither breadth first nor depth first
listings : (nesting_verdict (3 ∷ 3 ∷ sun ∷ sun ∷ 0 ∷ []) 5 ≡ sound)
    × (listing (sun ∷ 0 ∷ sun ∷ []) ≡ 0 ∷ 1 ∷ 2 ∷ [])
    × (listing (sun ∷ sun ∷ 0 ∷ []) ≡ 0 ∷ 1 ∷ 2 ∷ [])
    × (listing (2 ∷ 0 ∷ sun ∷ []) ≡ 2 ∷ 0 ∷ 1 ∷ [])
    × (listing (3 ∷ 3 ∷ sun ∷ sun ∷ 0 ∷ []) ≡ 2 ∷ 3 ∷ 0 ∷ 1 ∷ 4 ∷ [])
    × (listing (6 ∷ sun ∷ 5 ∷ sun ∷ sun ∷ 4 ∷ sun ∷ 4 ∷ []) ≡ 1 ∷ 3 ∷ 4 ∷ 5 ∷ 2 ∷ 6 ∷ 0 ∷ 7 ∷ [])
unfolding first_from first_below some_below iterate ◌or_else◌ single lowest_of chain ends_at_sun fault21 fault22 fault23 table_verdict nesting_verdict
    listed may_follow next_body places listing
listings = (refl, refl, refl, refl, refl, refl)
