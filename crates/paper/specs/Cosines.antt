-- The cosine table ("Numbers used"). The table itself is the definition; its four rules, in the order of 01, are claimed of every row.
use Rattle.std.specs.Prelude.{◌≡◌, List, [], ◌∷◌, ℕ, ◌-◌, ◌%◌, ◌+◌, ◌*◌, ◌/◌, ◌^◌, ◌<◌, ◌≤◌, get_or, ℤ, pos, negsuc, ◌+ℤ◌, ◌-ℤ◌, ◌*ℤ◌, nat_abs, ◌<ℤ◌}
use Rattle.paper.specs.Mesh.{least_sides}

-- what stands for 1 in the table
abbrev pub unit : ℕ
unit = 2 ^ 30

-- row m holds the m whole numbers C(m, 0) to C(m, m - 1), for m from the least to the most sides
unfoldable pub table : List (List ℤ)
table =
    (pos 1073741824 ∷ negsuc 536870911 ∷ negsuc 536870911 ∷ [])
    ∷ (pos 1073741824 ∷ pos 0 ∷ negsuc 1073741823 ∷ pos 0 ∷ [])
    ∷ (pos 1073741824 ∷ pos 331804471 ∷ negsuc 868675382 ∷ negsuc 868675382 ∷ pos 331804471 ∷ [])
    ∷ (pos 1073741824 ∷ pos 536870912 ∷ negsuc 536870911 ∷ negsuc 1073741823 ∷ negsuc 536870911 ∷ pos 536870912 ∷ [])
    ∷ (pos 1073741824 ∷ pos 669467077 ∷ negsuc 238930033 ∷ negsuc 967407955 ∷ negsuc 967407955 ∷ negsuc 238930033 ∷ pos 669467077 ∷ [])
    ∷ (pos 1073741824 ∷ pos 759250125 ∷ pos 0 ∷ negsuc 759250124 ∷ negsuc 1073741823 ∷ negsuc 759250124 ∷ pos 0 ∷ pos 759250125 ∷ [])
    ∷ (pos 1073741824 ∷ pos 822533958 ∷ pos 186453311 ∷ negsuc 536870911 ∷ negsuc 1008987268 ∷ negsuc 1008987268 ∷ negsuc 536870911 ∷ pos 186453311 ∷ pos 822533958 ∷ [])
    ∷ (pos 1073741824 ∷ pos 868675383 ∷ pos 331804471 ∷ negsuc 331804470 ∷ negsuc 868675382 ∷ negsuc 1073741823 ∷ negsuc 868675382 ∷ negsuc 331804470 ∷ pos 331804471 ∷ pos 868675383 ∷ [])
    ∷ (pos 1073741824 ∷ pos 903289103 ∷ pos 446048474 ∷ negsuc 152809393 ∷ negsuc 703151358 ∷ negsuc 1030247735 ∷ negsuc 1030247735 ∷ negsuc 703151358 ∷ negsuc 152809393 ∷ pos 446048474 ∷ pos 903289103 ∷ [])
    ∷ (pos 1073741824 ∷ pos 929887697 ∷ pos 536870912 ∷ pos 0 ∷ negsuc 536870911 ∷ negsuc 929887696 ∷ negsuc 1073741823 ∷ negsuc 929887696 ∷ negsuc 536870911 ∷ pos 0 ∷ pos 536870912 ∷ pos 929887697 ∷ [])
    ∷ (pos 1073741824 ∷ pos 950751168 ∷ pos 609954877 ∷ pos 129425275 ∷ negsuc 380754097 ∷ negsuc 803707295 ∷ negsuc 1042540837 ∷ negsuc 1042540837
    ∷ negsuc 803707295 ∷ negsuc 380754097 ∷ pos 129425275 ∷ pos 609954877 ∷ pos 950751168 ∷ [])
    ∷ (pos 1073741824 ∷ pos 967407956 ∷ pos 669467077 ∷ pos 238930034 ∷ negsuc 238930033 ∷ negsuc 669467076 ∷ negsuc 967407955 ∷ negsuc 1073741823
    ∷ negsuc 967407955 ∷ negsuc 669467076 ∷ negsuc 238930033 ∷ pos 238930034 ∷ pos 669467077 ∷ pos 967407956 ∷ [])
    ∷ (pos 1073741824 ∷ pos 980911966 ∷ pos 718473518 ∷ pos 331804471 ∷ negsuc 112236582 ∷ negsuc 536870911 ∷ negsuc 868675382 ∷ negsuc 1050277988
    ∷ negsuc 1050277988 ∷ negsuc 868675382 ∷ negsuc 536870911 ∷ negsuc 112236582 ∷ pos 331804471 ∷ pos 718473518 ∷ pos 980911966 ∷ [])
    ∷ (pos 1073741824 ∷ pos 992008094 ∷ pos 759250125 ∷ pos 410903207 ∷ pos 0 ∷ negsuc 410903206 ∷ negsuc 759250124 ∷ negsuc 992008093
    ∷ negsuc 1073741823 ∷ negsuc 992008093 ∷ negsuc 759250124 ∷ negsuc 410903206 ∷ pos 0 ∷ pos 410903207 ∷ pos 759250125 ∷ pos 992008094 ∷ [])
    ∷ []

-- C(m, k), k read modulo m
unfoldable pub cosine : ℕ → ℕ → ℤ
cosine m k = get_or (get_or table (m - least_sides) []) (k % m) (pos 0)

-- 2^30 (C(m, k+1) + C(m, k-1)) - 2 C(m,1) C(m,k): what the recurrence leaves over, as k is read modulo m
abbrev pub rest : ℕ → ℕ → ℤ
rest m k = pos unit *ℤ (cosine m (k + 1) +ℤ cosine m (k + (m - 1))) -ℤ pos 2 *ℤ cosine m 1 *ℤ cosine m k

pub record RowRules (m : ℕ) : Type 0 where
  pub first : cosine m 0 ≡ pos unit
  pub symmetric : (k : ℕ) → k ≤ m → cosine m k ≡ cosine m (m - k)
  pub falls : (k : ℕ) → k < m / 2 → cosine m (k + 1) <ℤ cosine m k
  pub recurs : (k : ℕ) → nat_abs (rest m k) ≤ 3 * unit
