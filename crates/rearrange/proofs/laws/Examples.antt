-- Small lists with bytes worked out apart, computed from the definitions, both ways; and the order of the checks, with their places.
use mathlib.Core.Path.{◌≡◌, refl}
use mathlib.Core.List.{[], ◌∷◌}
use lib.IntN.{pos, negsuc}
use Rattle.paper.specs.Scan.{values_from}
use Rattle.paper.specs.Faults.{sound, fault, ◌or_else◌, single}
use Rattle.paper.specs.Archive.{fault30, fault31, archive_verdict, delta, archived, sum_at, restored}

-- 30 before 31, each with its own length
refused : (archive_verdict 0 0 ≡ sound)
    × (archive_verdict 3 12 ≡ sound)
    × (archive_verdict 4 16 ≡ fault 30 4)
    × (archive_verdict 2 9 ≡ fault 30 2)
    × (archive_verdict 0 1 ≡ fault 31 1)
    × (archive_verdict 3 11 ≡ fault 31 11)
    × (archive_verdict 3 13 ≡ fault 31 13)
    × (archive_verdict 4294967298 0 ≡ fault 31 0)
unfolding ◌or_else◌ single fault30 fault31 archive_verdict
refused = (refl, refl, refl, refl, refl, refl, refl, refl)

-- -2^31, 2^31 - 1, 305419896, then 2^31 - 1, -2^31, -1: x wraps downwards and y upwards
wraps : (archived (negsuc 2147483647 ∷ pos 2147483647 ∷ pos 305419896 ∷ pos 2147483647 ∷ negsuc 2147483647 ∷ negsuc 0 ∷ [])
    ≡ 0 ∷ 255 ∷ 120 ∷ 255 ∷ 1 ∷ 135 ∷ 0 ∷ 255 ∷ 86 ∷ 255 ∷ 0 ∷ 169 ∷ 0 ∷ 255 ∷ 52 ∷ 255 ∷ 0 ∷ 203 ∷ 128 ∷ 127 ∷ 18 ∷ 255 ∷ 0 ∷ 237 ∷ [])
    × (restored (0 ∷ 255 ∷ 120 ∷ 255 ∷ 1 ∷ 135 ∷ 0 ∷ 255 ∷ 86 ∷ 255 ∷ 0 ∷ 169 ∷ 0 ∷ 255 ∷ 52 ∷ 255 ∷ 0 ∷ 203 ∷ 128 ∷ 127 ∷ 18 ∷ 255 ∷ 0 ∷ 237 ∷ []) 6
    ≡ negsuc 2147483647 ∷ pos 2147483647 ∷ pos 305419896 ∷ pos 2147483647 ∷ negsuc 2147483647 ∷ negsuc 0 ∷ [])
unfolding values_from delta archived sum_at restored
wraps = (refl, refl)

-- three vertices; and no vertex
small : (archived (pos 5 ∷ pos 6 ∷ pos 7 ∷ pos 5 ∷ pos 7 ∷ pos 6 ∷ pos 4 ∷ pos 300 ∷ negsuc 69999 ∷ [])
    ≡ 5 ∷ 6 ∷ 7 ∷ 0 ∷ 1 ∷ 255 ∷ 255 ∷ 37 ∷ 138 ∷ 0 ∷ 0 ∷ 0 ∷ 0 ∷ 0 ∷ 255 ∷ 255 ∷ 1 ∷ 238
    ∷ 0 ∷ 0 ∷ 0 ∷ 0 ∷ 0 ∷ 255 ∷ 255 ∷ 0 ∷ 254 ∷ 0 ∷ 0 ∷ 0 ∷ 0 ∷ 0 ∷ 255 ∷ 255 ∷ 0 ∷ 255 ∷ [])
    × (archived [] ≡ [])
    × (restored [] 0 ≡ [])
unfolding values_from delta archived sum_at restored
small = (refl, refl, refl)
