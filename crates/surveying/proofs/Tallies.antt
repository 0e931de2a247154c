-- A tally grows by one number: its own entry by one, no other.
use mathlib.Core.Path.{◌≡◌, ap, ◌∙◌, sym}
use mathlib.Core.Logic.{⊎_elim}
use mathlib.Core.List.{List, map}
use Prim.Native.Nat.{ℕ, suc, ◌+◌, ◌<◌, ◌≤◌}
use native.Mathlib.Numerals.{add-one}
use native.Mathlib.Omega.{arith}
use lib.ListN.{length, get_or, set, replicate, length-set, length-replicate, get_or-replicate, get_or-eq_default}
use lib.Seq.{set_out, get_or-set_same, get_or-set_other, ext_get_or}
use borrow.Author.Tests.{eqb-true, eqb-false}
use Rattle.paper.specs.Scan.{count_below}
use Rattle.mesh.proofs.ByCases.{by_equal, by_less}
use Rattle.mesh.proofs.Scans.{ways}
use Rattle.mesh.proofs.Links.{values_length, values_at}
use Rattle.mesh.proofs.Rings.{count_hit, count_miss, count_le}
use Rattle.std.proofs.lemmas.List.{get_or-map, map-id}
use Rattle.surveying.specs.Tally.{stands, tally_to, tally_of, Numbers}

pub tally_length : (values : List ℕ) (i size : ℕ) → length (tally_to values i size) ≡ size
unfolding tally_to
tally_length values i size = values_length (λ m. count_below i (stands values m)) 0 size

zero_add : (n : ℕ) → 0 + n ≡ n
zero_add n = omega arith

pub tally_at : (values : List ℕ) (i size m : ℕ) → m < size → get_or (tally_to values i size) m 0 ≡ count_below i (stands values m)
unfolding tally_to
tally_at values i size m h =
    values_at (λ k. count_below i (stands values k)) 0 0 size m h ∙ ap (λ (k : ℕ). count_below i (stands values k)) (zero_add m)

pub tally_none : (values : List ℕ) (size : ℕ) → replicate size 0 ≡ tally_to values 0 size
tally_none values size =
    ext_get_or 0 (replicate size 0) (tally_to values 0 size) (length-replicate size 0 ∙ sym (tally_length values 0 size))
    (λ m h. let l : m < size = omega (arith, length-replicate {A = ℕ} size 0) in
    get_or-replicate size m 0 0 l ∙ sym (tally_at values 0 size m l ∙ omega (arith, count_le (stands values m) 0)))

-- one value more
module _ (values : List ℕ) (i size : ℕ) where
  abbrev x : ℕ
  x = get_or values i 0

  abbrev before : List ℕ
  before = tally_to values i size

  grown : (m : ℕ) → m < size → get_or (set before x (get_or before x 0 + 1)) m 0 ≡ get_or (tally_to values (suc i) size) m 0
  grown m h =
      ⊎_elim
      (λ e. let q : x ≡ m = eqb-true x m e in
      rw q (get_or-set_same before m (get_or before m 0 + 1) 0 (omega (arith, tally_length values i size))
      ∙ omega (arith, tally_at values i size m h, tally_at values (suc i) size m h, count_hit (stands values m) i e)))
      (λ e. get_or-set_other before x m (get_or before x 0 + 1) 0 (λ q. eqb-false x m e (sym q))
      ∙ tally_at values i size m h ∙ sym (tally_at values (suc i) size m h ∙ count_miss (stands values m) i e))
      (ways (stands values m i))

  pub tally_step : set before x (get_or before x 0 + 1) ≡ tally_to values (i + 1) size
  tally_step =
      rw (add-one i)
      (ext_get_or 0 (set before x (get_or before x 0 + 1)) (tally_to values (suc i) size)
      (length-set before x (get_or before x 0 + 1) ∙ tally_length values i size ∙ sym (tally_length values (suc i) size))
      (λ m h. grown m (omega (arith, length-set before x (get_or before x 0 + 1), tally_length values i size))))

pub none_above : (table : List ℕ) → table ≡ replicate (length table) 0 → (m : ℕ) → get_or table m 0 ≤ 0
none_above table e m =
    by_less m (length table)
    (λ l. omega (arith, ap (λ (t : List ℕ). get_or t m 0) e, get_or-replicate {A = ℕ} (length table) m 0 0 l))
    (λ l. omega (arith, get_or-eq_default table 0 {n = m} l))

-- no entry of a table passes i, and one more of x leaves none above i + 1
pub raised : (table : List ℕ) (x i : ℕ) → ((m : ℕ) → get_or table m 0 ≤ i) → (m : ℕ) → get_or (set table x (get_or table x 0 + 1)) m 0 ≤ i + 1
raised table x i h m =
    by_equal m x
    (λ q. by_less x (length table)
    (λ l. omega (arith, h x, ap (λ (k : ℕ). get_or (set table x (get_or table x 0 + 1)) k 0) q, get_or-set_same table x (get_or table x 0 + 1) 0 l))
    (λ l. omega (arith, h m, ap (λ (t : List ℕ). get_or t m 0) (set_out table x (get_or table x 0 + 1) l))))
    (λ n. omega (arith, h m, get_or-set_other table x m (get_or table x 0 + 1) 0 n))

-- a turn of the loop over values of any type, each of which has a number
pub tally_turn : {T : Type 0} (number : T → ℕ) (values : List T) (table : List ℕ) (i size m : ℕ) (x : T) → i < length values → x ≡ get_or values i x
    → m ≡ number x → table ≡ tally_to (map number values) i size → set table m (get_or table m 0 + 1) ≡ tally_to (map number values) (i + 1) size
tally_turn number values table i size m x h q n e =
    let at : get_or (map number values) i 0 ≡ m = get_or-map number values i x 0 h ∙ ap number (sym q) ∙ sym n in
    rw (e, ← at) (tally_step (map number values) i size)

-- of values that are numbers themselves
pub counted : {table : List ℕ} (size : ℕ) (values : List ℕ) → ((number : ℕ → ℕ) → Numbers (λ x y. y ≡ x) number → table ≡ tally_of (map number values) size)
    → table ≡ tally_of values size
counted size values h = h (λ x. x) (λ x n e. e) ∙ ap (λ (l : List ℕ). tally_of l size) (map-id values)
