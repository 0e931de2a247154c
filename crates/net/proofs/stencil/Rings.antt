-- The rings of a drawn mesh, as the code goes round them: what the calls of crate faces give of them are the ends and face points of the definitions.
use mathlib.Core.Path.{◌≡◌, refl, sym, ap, ◌∙◌, subst}
use mathlib.Core.List.{List}
use Prim.Native.Nat.{ℕ, zero, suc, ◌+◌, ◌*◌, ◌≤◌, ◌<◌}
use native.Mathlib.Numerals.{add-one}
use native.Mathlib.Omega.{arith}
use lib.Dec.{lit<}
use lib.ListN.{length, get_or}
use lib.IntN.{ℤ, pos}
use lib.Signed.{◌≤ℤ◌}
use mir.Syntax.{w32}
use mir.Val.{SFits, to_z}
use mir.Facts.{to_z_pos}
use Rattle.numbers.proofs.Diff.{diff}
use Rattle.paper.specs.Scan.{iterate}
use Rattle.paper.specs.Mesh.{least_sides, most_sides}
use Rattle.paper.specs.Numbers.{rounded}
use Rattle.paper.specs.Face.{centre, toward}
use Rattle.paper.specs.Refined.{RefinedMesh}
use Rattle.paper.specs.Net.{side0, side1, side2, side3, H, X}
use Rattle.surface.specs.Points.{point_at}
use Rattle.surface.proofs.Rings.{iterate_in, iterate_round}
use Rattle.surface.proofs.Border.{border}
use Rattle.walk.specs.Table.{row_length, to_next, to_previous, to_link, sides_here, valence_here, entry, tabled}
use Rattle.faces.specs.Ring.{around, ReadableOn, Readable, Ring, IsCentre, IsToward, ThreeRing, FourRing, ThreeCentre, ThreeToward, FourCentre, FourToward}
use Rattle.net_rows.specs.sides.Values.{corners_around}
use Rattle.net.specs.Drawn.{drawn, Drawn}

-- ---- one step more
pub step_more : (step : ℕ → ℕ) (j c d : ℕ) → d ≡ iterate j step c → step d ≡ iterate (j + 1) step c
unfolding iterate
step_more step j c d e = rw add-one (ap step e)

-- ---- three corners in turn, and four, by a column, on an axis
module _ (points : List ℤ) (table : List ℕ) (column c : ℕ) (a : ℕ) where
  abbrev step : ℕ → ℕ
  step = entry table column

  cyclic : (m : ℕ) → iterate m step c ≡ c → (j : ℕ) → around points a table column c (j + m) ≡ around points a table column c j
  unfolding around
  cyclic m e j = ap (point_at points a) (iterate_round step j m c e)

  pub three_ring : (d e : ℕ) → iterate 3 step c ≡ c → d ≡ step c → e ≡ step d
      → ThreeRing (point_at points a c) (point_at points a d) (point_at points a e) (around points a table column c) 0
  unfolding around iterate
  three_ring d e round ed ee = record {
    cyclic = cyclic 3 round;
    first = refl;
    second = ap (point_at points a) (sym ed);
    third = ap (point_at points a) (sym (ee ∙ ap step ed));
  }

  pub four_ring : (d e f : ℕ) → iterate 4 step c ≡ c → d ≡ step c → e ≡ step d → f ≡ step e
      → FourRing (point_at points a c) (point_at points a d) (point_at points a e) (point_at points a f) (around points a table column c) 0
  unfolding around iterate
  four_ring d e f round ed ee ef = record {
    cyclic = cyclic 4 round;
    first = refl;
    second = ap (point_at points a) (sym ed);
    third = ap (point_at points a) (sym (ee ∙ ap step ed));
    fourth = ap (point_at points a) (sym (ef ∙ ap step (ee ∙ ap step ed)));
  }

-- ---- four corners in turn in a face, the first of which is the r-th from the corner before c on
pub record Quad (table : List ℕ) (c r b d e f : ℕ) : Type 0 where
  pub place : b ≡ iterate r (entry table to_next) (entry table to_previous c)
  pub second : d ≡ entry table to_next b
  pub third : e ≡ entry table to_next d
  pub fourth : f ≡ entry table to_next e
  pub round : b ≡ entry table to_next f

module _ (table : List ℕ) (c r b d e f : ℕ) (q : Quad table c r b d e f) where
  pub quad_more : Quad table c (r + 1) d e f b
  quad_more = record {
    place = q.second ∙ step_more (entry table to_next) r (entry table to_previous c) b q.place;
    second = q.third;
    third = q.fourth;
    fourth = q.round;
    round = q.second;
  }

  pub quad_closes : iterate 4 (entry table to_next) b ≡ b
  unfolding iterate
  quad_closes =
      let next = entry table to_next in
      sym (q.round ∙ ap next (q.fourth ∙ ap next (q.third ∙ ap next q.second)))

-- ---- the divisor of a ring of m corners, in the machine
pub record Divisor (m : ℕ) : Type 0 where
  pub count_is : to_z w32 m ≡ pos m
  pub fits : SFits w32 (pos (3 * m))
  pub from : pos 1 ≤ℤ pos (3 * m)
  pub to : pos (3 * m) ≤ℤ pos 48

pub divisor : (m : ℕ) → least_sides ≤ m → m ≤ most_sides → Divisor m
divisor m l h = let k = sizes m l h in record { count_is = to_z_pos w32 {n = m} (omega arith); fits = k.0; from = k.1; to = k.2 }
  where
    sizes : (m : ℕ) → 3 ≤ m → m ≤ most_sides → SFits w32 (pos (3 * m)) × (pos 1 ≤ℤ pos (3 * m)) × (pos (3 * m) ≤ℤ pos 48)
    sizes m l h = simp diff (omega arith)

module _ (count : ℕ) (table : List ℕ) (points : List ℤ) (t : Drawn count table points) where
  abbrev K : ℕ → RefinedMesh rounded
  K = drawn count table points

  abbrev next : ℕ → ℕ
  next = entry table to_next

  -- ---- what the tables hold of each corner
  pub row_in : (k i : ℕ) → k < row_length → i < count → row_length * i + k < length table
  row_in k i l h = omega (arith, t.table_long)

  pub readable : (i : ℕ) → i < count → Readable points i
  readable i h = (on 0 (lit< tt), on 1 (lit< tt), on 2 (lit< tt))
    where
      on : (a : ℕ) → a < 3 → ReadableOn points a i
      on a l = (omega (arith, t.points_long), t.small a l i h)

  pub face_ring : (c n : ℕ) → c < count → n ≡ entry table sides_here c → Ring points table to_next c n
  face_ring c n h e = rw e (record {
    count = count;
    here = h;
    points_hold = readable;
    table_holds = λ i l. row_in to_next i (lit< tt) l;
    step_in = t.sound.next_in;
    closes = t.sound.face_closes c h;
    least = t.sound.sides_least c h;
    most = t.sound.sides_most c h;
  })

  pub vertex_ring : (c m : ℕ) → c < count → m ≡ entry table valence_here c → Ring points table to_link c m
  vertex_ring c m h e = rw e (record {
    count = count;
    here = h;
    points_hold = readable;
    table_holds = λ i l. row_in to_link i (lit< tt) l;
    step_in = t.sound.link_in;
    closes = t.sound.vertex_closes c h;
    least = t.sound.valence_least c h;
    most = t.sound.valence_most c h;
  })

  -- ---- the corners around d are corners of the mesh
  pub around_in : (d : ℕ) → d < count → (i : ℕ) → i < 7 → get_or (corners_around (tabled count table) d) i 0 < count
  around_in d h zero l = h
  around_in d h (suc zero) l = t.sound.next_in d h
  around_in d h (suc (suc zero)) l = t.sound.previous_in _ (t.sound.link_in d h)
  around_in d h (suc (suc (suc zero))) l = t.sound.link_in d h
  around_in d h (suc (suc (suc (suc zero)))) l = t.sound.previous_in _ (t.sound.link_in _ (t.sound.previous_in d h))
  around_in d h (suc (suc (suc (suc (suc zero))))) l = t.sound.link_in _ (t.sound.previous_in d h)
  around_in d h (suc (suc (suc (suc (suc (suc zero)))))) l = t.sound.previous_in d h
  around_in d h (suc (suc (suc (suc (suc (suc (suc i))))))) l = absurd (omega arith)

  -- ---- ends and face points
  pub face_h : (c n a : ℕ) (r : ℤ) → n ≡ entry table sides_here c → IsCentre (around points a table to_next c) n r → r ≡ H (K a) c side1
  unfolding H around
  face_h c n a r e h = h.is ∙ ap (centre rounded (around points a table to_next c)) e

  pub face_x : (c n a : ℕ) (r : ℤ) → n ≡ entry table sides_here c → IsToward (around points a table to_next c) n 0 r → r ≡ X (K a) c side1
  unfolding X around
  face_x c n a r e h = h.is ∙ ap (λ (n : ℕ). toward rounded (around points a table to_next c) n 0) e

  pub vertex_h : (c m a : ℕ) (r : ℤ) → m ≡ entry table valence_here c → IsCentre (around points a table to_link c) m r → r ≡ H (K a) c side0
  unfolding H around
  vertex_h c m a r e h = h.is ∙ ap (centre rounded (around points a table to_link c)) e

  pub vertex_x : (c m a : ℕ) (r : ℤ) → m ≡ entry table valence_here c → IsToward (around points a table to_link c) m 0 r → r ≡ X (K a) c side0
  unfolding X around
  vertex_x c m a r e h = h.is ∙ ap (λ (m : ℕ). toward rounded (around points a table to_link c) m 0) e

  -- from the corner b before c in the ring of the vertex
  pub vertex_behind : (b c a : ℕ) → a < 3 → b < count → entry table to_link b ≡ c → X (K a) b side0 ≡ X (K a) c side3
  vertex_behind b c a l h e = sym (border (K a) t.sound (t.small a l) b h side0).same_x ∙ ap (λ (d : ℕ). X (K a) d side3) e

  -- and from the corner d before c in the face
  pub face_behind : (d a : ℕ) → a < 3 → d < count → X (K a) d side1 ≡ X (K a) (next d) side2
  face_behind d a l h = sym (border (K a) t.sound (t.small a l) d h side1).same_x

  -- ---- round the face of c, from the corner before it
  module _ (c : ℕ) (h : c < count) where
    abbrev pub first : ℕ
    first = entry table to_previous c

    pub first_in : first < count
    first_in = t.sound.previous_in c h

    pub place_in : (r : ℕ) → iterate r next first < count
    place_in r = iterate_in next count t.sound.next_in r first first_in

    pub walked_in : (r d : ℕ) → d ≡ iterate r next first → d < count
    walked_in r d e = rw e (place_in r)

    pub sides_along : (r : ℕ) → entry table sides_here (iterate r next first) ≡ entry table sides_here c
    unfolding iterate
    sides_along zero = sym (t.sound.sides_next first first_in) ∙ ap (entry table sides_here) (t.sound.next_previous c h)
    sides_along (suc r) = t.sound.sides_next (iterate r next first) (place_in r) ∙ sides_along r

    -- ---- a face of four sides
    pub quad_start : (b d e f : ℕ) → entry table sides_here c ≡ 4 → b ≡ first → d ≡ c → e ≡ next c → f ≡ next e → Quad table c 0 b d e f
    unfolding iterate
    quad_start b d e f four eb ed ee ef =
        let p = t.sound.next_previous c h in
        let n : entry table sides_here first ≡ 4 = sides_along 0 ∙ four in
        let k : iterate 4 next first ≡ first = subst (λ (n : ℕ). iterate n next first ≡ first) n (t.sound.face_closes first first_in) in
        record {
          place = eb;
          second = ed ∙ sym p ∙ ap next (sym eb);
          third = ee ∙ ap next (sym ed);
          fourth = ef;
          round = eb ∙ sym k ∙ ap next (sym (ef ∙ ap next (ee ∙ ap next (sym p))));
        }

    module _ (four : entry table sides_here c ≡ 4) (r b d e f : ℕ) (q : Quad table c r b d e f) where
      pub quad_in : (b < count) × (d < count) × (e < count) × (f < count)
      quad_in =
          let hb = walked_in r b q.place in
          let hd : d < count = rw q.second (t.sound.next_in b hb) in
          let he : e < count = rw q.third (t.sound.next_in d hd) in
          (hb, hd, he, rw q.fourth (t.sound.next_in e he))

      pub quad_x : (a : ℕ) (z : ℤ) → FourToward (point_at points a b) (point_at points a d) (point_at points a e) (point_at points a f) z
          → z ≡ X (K a) (iterate r next first) side1
      quad_x a z o =
          face_x b 4 a z (sym (ap (entry table sides_here) q.place ∙ sides_along r ∙ four))
          (o.of _ 0 (four_ring points table to_next b a d e f (quad_closes table c r b d e f q) q.second q.third q.fourth))
          ∙ ap (λ (d : ℕ). X (K a) d side1) q.place

    pub quad_h : (b e f : ℕ) (a : ℕ) (z : ℤ) → entry table sides_here c ≡ 4 → Quad table c 0 b c e f
        → FourCentre (point_at points a c) (point_at points a e) (point_at points a f) (point_at points a b) z → z ≡ H (K a) c side1
    quad_h b e f a z four q o =
        face_h c 4 a z (sym four)
        (o.of _ 0 (four_ring points table to_next c a e f b (subst (λ (n : ℕ). iterate n next c ≡ c) four (t.sound.face_closes c h)) q.third q.fourth
        q.round))

  -- ---- the ring of the vertex of c: b comes before c in it, d after it
  module _ (b c d : ℕ) (hb : b < count) (hc : c < count) (eb : entry table to_link b ≡ c) (ed : d ≡ entry table to_link c) where
    abbrev link : ℕ → ℕ
    link = entry table to_link

    pub valence_before : entry table valence_here b ≡ entry table valence_here c
    valence_before = sym (t.sound.valence_link b hb) ∙ ap (entry table valence_here) eb

    -- of three
    module _ (three : entry table valence_here c ≡ 3) where
      closes3 : (e : ℕ) → e < count → entry table valence_here e ≡ 3 → iterate 3 link e ≡ e
      closes3 e h n = subst (λ (m : ℕ). iterate m link e ≡ e) n (t.sound.vertex_closes e h)

      last3 : b ≡ link d
      unfolding iterate
      last3 = sym (closes3 b hb (valence_before ∙ three)) ∙ ap link (ap link eb ∙ sym ed)

      pub three_h : (a : ℕ) (z : ℤ) → ThreeCentre (point_at points a c) (point_at points a d) (point_at points a b) z → z ≡ H (K a) c side0
      three_h a z o = vertex_h c 3 a z (sym three) (o.of _ 0 (three_ring points table to_link c a d b (closes3 c hc three) ed last3))

      pub three_behind : (a : ℕ) (z : ℤ) → a < 3 → ThreeToward (point_at points a b) (point_at points a c) (point_at points a d) z → z ≡ X (K a) c side3
      three_behind a z l o =
          vertex_x b 3 a z (sym (valence_before ∙ three))
          (o.of _ 0 (three_ring points table to_link b a c d (closes3 b hb (valence_before ∙ three)) (sym eb) ed)) ∙ vertex_behind b c a l hb eb

      pub three_ahead : (a : ℕ) (z : ℤ) → ThreeToward (point_at points a c) (point_at points a d) (point_at points a b) z → z ≡ X (K a) c side0
      three_ahead a z o = vertex_x c 3 a z (sym three) (o.of _ 0 (three_ring points table to_link c a d b (closes3 c hc three) ed last3))

    -- of four, where e comes after d
    module _ (four : entry table valence_here c ≡ 4) (e : ℕ) (ee : e ≡ link d) where
      closes4 : (e : ℕ) → e < count → entry table valence_here e ≡ 4 → iterate 4 link e ≡ e
      closes4 e h n = subst (λ (m : ℕ). iterate m link e ≡ e) n (t.sound.vertex_closes e h)

      last4 : b ≡ link e
      unfolding iterate
      last4 = sym (closes4 b hb (valence_before ∙ four)) ∙ ap link (ap link (ap link eb ∙ sym ed) ∙ sym ee)

      pub four_h : (a : ℕ) (z : ℤ) → FourCentre (point_at points a c) (point_at points a d) (point_at points a e) (point_at points a b) z → z ≡ H (K a) c side0
      four_h a z o = vertex_h c 4 a z (sym four) (o.of _ 0 (four_ring points table to_link c a d e b (closes4 c hc four) ed ee last4))

      pub four_behind : (a : ℕ) (z : ℤ) → a < 3 → FourToward (point_at points a b) (point_at points a c) (point_at points a d) (point_at points a e) z
          → z ≡ X (K a) c side3
      four_behind a z l o =
          vertex_x b 4 a z (sym (valence_before ∙ four))
          (o.of _ 0 (four_ring points table to_link b a c d e (closes4 b hb (valence_before ∙ four)) (sym eb) ed ee)) ∙ vertex_behind b c a l hb eb

      pub four_ahead : (a : ℕ) (z : ℤ) → FourToward (point_at points a c) (point_at points a d) (point_at points a e) (point_at points a b) z
          → z ≡ X (K a) c side0
      four_ahead a z o = vertex_x c 4 a z (sym four) (o.of _ 0 (four_ring points table to_link c a d e b (closes4 c hc four) ed ee last4))

    -- of any other count
    pub ring_behind : (m a : ℕ) (z : ℤ) → a < 3 → m ≡ entry table valence_here c → IsToward (around points a table to_link b) m 0 z → z ≡ X (K a) c side3
    ring_behind m a z l e o = vertex_x b m a z (e ∙ sym valence_before) o ∙ vertex_behind b c a l hb eb
