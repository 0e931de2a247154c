-- Edges by their two ends, the lower first; for each corner the next corner that shares its edge; the partners.
use Rattle.std.specs.Prelude.{◌≡◌, List, ℕ, ◌+◌, ◌-◌, ◌*◌, ◌<◌, ◌≤◌, min, max, eqb, length, get_or}
use Rattle.paper.specs.Scan.{pick_n}
use Rattle.paper.specs.Mesh.{most_vertices, most_corners}
use Rattle.paper.specs.Corners.{next}
use Rattle.mesh.specs.Tables.{Named}
use Rattle.walk.specs.Table.{row_length, to_next, entry, Column, Blank}
use Rattle.paper.specs.Links.{vertex_of, leaves_to}
use Rattle.paper.specs.Faults.{sound, lowest_of, stated, Answer}
use Rattle.checks.specs.columns.Chain.{Chained}
use Rattle.paper.specs.Turning.{fault34}
use Rattle.partners.specs.Partner.{partner}

-- the ends of the leaving edges of the corners below n
pub record KeysTo (sides corners lows highs : List ℕ) (n : ℕ) : Type 0 where
  pub low : (c : ℕ) → c < n → get_or lows c 0 ≡ min (vertex_of corners c) (leaves_to sides corners c)
  pub high : (c : ℕ) → c < n → get_or highs c 0 ≡ max (vertex_of corners c) (leaves_to sides corners c)

-- filled for all side counts that the table of corners has the next corners of
abbrev pub Keyed : List ℕ → List ℕ → List ℕ → List ℕ → ℕ → Type 0
Keyed corners table lows highs n = (sides : List ℕ) → Column table to_next (next sides) (length corners) → KeysTo sides corners lows highs n

-- what filling the ends asks
pub record Keyable (corners table lows highs : List ℕ) : Type 0 where
  pub small : length corners ≤ most_corners
  pub long : row_length * length corners ≤ length table
  pub lows_long : length corners ≤ length lows
  pub highs_long : length corners ≤ length highs
  pub nexts_in : (c : ℕ) → c < length corners → entry table to_next c < length corners

-- the ends of edges, by which corners are followed
pub record EdgeEnds (vertices : ℕ) (lows highs : List ℕ) : Type 0 where
  pub few_vertices : vertices ≤ most_vertices
  pub few_corners : length lows ≤ most_corners
  pub highs_long : length lows ≤ length highs
  pub lows_in : Named lows vertices
  pub highs_in : (c : ℕ) → c < length lows → get_or highs c 0 < vertices

-- chains by lower ends: each corner leads to the earlier one with the same lower end, and each vertex to the highest corner that has it
abbrev pub Chains : List ℕ → List ℕ → List ℕ → Type 0
Chains lows earliers heads = Chained lows (λ c. get_or earliers c 0) (λ u. get_or heads u 0)

-- what filling them asks
pub record Chainable (vertices : ℕ) (lows earliers heads : List ℕ) : Type 0 where
  pub small : length lows ≤ most_corners
  pub lows_in : Named lows vertices
  pub earliers_long : length lows ≤ length earliers
  pub heads_long : vertices ≤ length heads
  pub blank : Blank heads

-- c and d have the same ends
pub record Key (lows highs : List ℕ) (c d : ℕ) : Type 0 where
  pub low : get_or lows d 0 ≡ get_or lows c 0
  pub high : get_or highs d 0 ≡ get_or highs c 0

-- x is one more than the lowest corner above c with the same ends; 0 where there is none
pub record AfterIs (lows highs : List ℕ) (c x : ℕ) : Type 0 where
  pub none : x ≡ 0 → (d : ℕ) → c < d → d < length lows → Key lows highs c d → ⊥
  pub above : (x ≡ 0 → ⊥) → c + 1 < x
  pub inside : x ≤ length lows
  pub same : (x ≡ 0 → ⊥) → Key lows highs c (x - 1)
  pub lowest : (d : ℕ) → c < d → d + 1 < x → Key lows highs c d → ⊥

abbrev pub Afters : List ℕ → List ℕ → List ℕ → Type 0
Afters lows highs afters = (c : ℕ) → c < length lows → AfterIs lows highs c (get_or afters c 0)

-- an entry of the table by higher ends, where it belongs to u; 0 where it is empty or belongs to another lower end
abbrev pub own_entry : List ℕ → ℕ → ℕ → ℕ
own_entry lows u e = pick_n (eqb e 0) 0 (pick_n (eqb (get_or lows (e - 1) 0) u) e 0)

-- the tables by which they are found
pub record Followable (vertices : ℕ) (lows highs earliers heads : List ℕ) : Type 0 where
  pub small : length lows ≤ most_corners
  pub highs_long : length lows ≤ length highs
  pub lows_in : Named lows vertices
  pub highs_in : (c : ℕ) → c < length lows → get_or highs c 0 < vertices
  pub earliers_long : length lows ≤ length earliers
  pub heads_long : vertices ≤ length heads
  pub chained : Chains lows earliers heads

-- by the higher end, one more than the lowest corner met, for edges whose lower end is below u; and for u, of its corners from `at` on
pub record Latest (vertices : ℕ) (lows highs table : List ℕ) (u at : ℕ) : Type 0 where
  pub room : vertices ≤ length table
  pub inside : (w : ℕ) → get_or table w 0 ≤ length lows
  pub key : (w : ℕ) → (get_or table w 0 ≡ 0 → ⊥) → get_or highs (get_or table w 0 - 1) 0 ≡ w
  pub low : (w : ℕ) → (get_or table w 0 ≡ 0 → ⊥) → get_or lows (get_or table w 0 - 1) 0 ≤ u
  pub later : (w : ℕ) → (get_or table w 0 ≡ 0 → ⊥) → get_or lows (get_or table w 0 - 1) 0 ≡ u → at ≤ get_or table w 0 - 1
  pub met : (d : ℕ) → at ≤ d → d < length lows → get_or lows d 0 ≡ u
      → (get_or table (get_or highs d 0) 0 ≤ d + 1) × ((get_or table (get_or highs d 0) 0 ≡ 0 → ⊥) × (get_or lows (get_or table (get_or highs d 0) 0 - 1) 0 ≡ u))

pub record LatestBelow (vertices : ℕ) (lows highs table : List ℕ) (u : ℕ) : Type 0 where
  pub room : vertices ≤ length table
  pub inside : (w : ℕ) → get_or table w 0 ≤ length lows
  pub key : (w : ℕ) → (get_or table w 0 ≡ 0 → ⊥) → get_or highs (get_or table w 0 - 1) 0 ≡ w
  pub low : (w : ℕ) → (get_or table w 0 ≡ 0 → ⊥) → get_or lows (get_or table w 0 - 1) 0 < u

-- the corners whose lower end is below u have their entries; and those of u from `at` on
abbrev pub AftersBelow : List ℕ → List ℕ → List ℕ → ℕ → Type 0
AftersBelow lows highs afters u = (c : ℕ) → c < length lows → get_or lows c 0 < u → AfterIs lows highs c (get_or afters c 0)

abbrev pub AftersTo : List ℕ → List ℕ → List ℕ → ℕ → ℕ → Type 0
AftersTo lows highs afters u at =
    (c : ℕ) → c < length lows → get_or lows c 0 ≤ u → (get_or lows c 0 ≡ u → at ≤ c) → AfterIs lows highs c (get_or afters c 0)

-- check 34 and the partners, each plus one, for the lists that the ends belong to
pub record PartnersOver (sides corners : List ℕ) (r : Answer) (partners : List ℕ) : Type 0 where
  pub answers : stated r ≡ lowest_of 34 (length corners) (fault34 sides corners)
  pub partners_are : lowest_of 34 (length corners) (fault34 sides corners) ≡ sound
      → (c : ℕ) → c < length corners → get_or partners c 0 ≡ partner sides corners c + 1

abbrev pub PartnersFor : List ℕ → List ℕ → Answer → List ℕ → Type 0
PartnersFor lows highs r partners =
    (sides corners : List ℕ) → length lows ≡ length corners → KeysTo sides corners lows highs (length corners)
    → PartnersOver sides corners r partners
