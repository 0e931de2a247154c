-- The places of the output, the turns of the loop that writes it, and the mesh that the tables draw.
use mathlib.Core.Path.{◌≡◌, refl, ap, ◌∙◌, sym, subst}
use mathlib.Core.Logic.{⊎_elim}
use mathlib.Core.List.{List}
use Prim.Native.Nat.{ℕ, zero, suc, ◌+◌, ◌-◌, ◌*◌, ◌/◌, ◌%◌, ◌<◌, ◌≤◌}
use native.Mathlib.Omega.{arith}
use lib.Dec.{ltb, lit≤}
use borrow.Author.Tests.{ltb-true, ltb-false}
use lib.ListN.{length, get_or, replicate, length-replicate}
use lib.Seq.{ext_get_or}
use lib.IntN.{ℤ, pos}
use Rattle.paper.specs.Mesh.{Mesh, face_count, corner_count, most_vertices}
use Rattle.paper.specs.Corners.{sum_of, face_of, first_of, sides_of, previous}
use Rattle.paper.specs.Links.{vertex_of}
use Rattle.paper.specs.Faults.{Accepted}
use Rattle.paper.specs.Numbers.{rounded}
use Rattle.paper.specs.Refined.{RefinedMesh, refined_point, corners_of, refined_of}
use Rattle.paper.specs.Net.{ring, net, net_points}
use Rattle.paper.specs.Calls.{per_corner, number_at, nets}
use Rattle.mesh.specs.Tables.{Named}
use Rattle.mesh.proofs.Accepted.{sound_of, few_vertices}
use Rattle.mesh.proofs.Faces.{first_from_lem, first_to, first_ends, first_same, sides_same, previous_inner}
use Rattle.mesh.proofs.Links.{values_length, values_at}
use Rattle.mesh.proofs.Scans.{ways}
use Rattle.surface.specs.Points.{point_row}
use Rattle.surface.proofs.Hull.{corners_sound}
use Rattle.surface.proofs.Rings.{ring_in}
use Rattle.surface.proofs.RingFaces.{MeetsFace, ring_seen}
use Rattle.surface.proofs.Agree.{net_same}
use Rattle.walk.specs.Table.{to_next, to_previous, entry, Tabled}
use Rattle.refine.specs.Marks.{NamedIn, Marked}
use Rattle.corner_points.specs.RefinedPoints.{PointsPut}
use Rattle.refine.specs.Pointed.{MarkedPointed}
use Rattle.refine.proofs.Accepted.{vertex_in, faces_of_lem, refinable_of, table_agrees, table_sound}
use Rattle.refine.proofs.Points.{put_choice}
use Rattle.net.specs.Drawn.{drawn, Drawn}
use Rattle.net.specs.stencil.Taken.{Run, Quiet}
use Rattle.net.specs.Put.{RunPut}
use Rattle.building.specs.writing.Written.{WalksFaces, Faced, NetsDrawn, NetsWritten}

-- ---- place i of the output holds point `i % per_corner / 3` of corner `i / per_corner` on axis `i % 3`
place : (i : ℕ) → per_corner * (i / per_corner) + 3 * (i % per_corner / 3) + i % 3 ≡ i
place i = omega arith

corner_of_lem : (i count : ℕ) → i < per_corner * count → i / per_corner < count
corner_of_lem i count h = omega arith

point_of_lem : (i : ℕ) → i % per_corner / 3 < net_points
point_of_lem i = omega arith

axis_in : (i : ℕ) → i % 3 < 3
axis_in i = omega arith

-- all corners written: the whole output
written_all : (M : Mesh) (first count : ℕ) (out : List ℤ) → length out ≡ per_corner * count → NetsWritten (refined_of rounded M) first count out
    → out ≡ nets M first count
unfolding NetsWritten nets number_at
written_all M first count out l w =
    ext_get_or (pos 0) out (nets M first count) (l ∙ sym (values_length (number_at rounded M first) 0 (per_corner * count)))
    (λ i h. let b : i < per_corner * count = omega arith in
    subst (λ (k : ℕ). get_or out k (pos 0) ≡ number_at rounded M first i) (place i)
    (w (i % 3) (i / per_corner) (i % per_corner / 3) (axis_in i) (corner_of_lem i count b) (point_of_lem i))
    ∙ sym (values_at (number_at rounded M first) (pos 0) 0 (per_corner * count) i b ∙ ap (number_at rounded M first) (let q : 0 + i ≡ i = omega arith in q)))

-- nothing yet
pub written_none : (K : ℕ → RefinedMesh rounded) (first : ℕ) (out : List ℤ) → NetsWritten K first 0 out
unfolding NetsWritten
written_none K first out a j p h l = absurd (omega arith)

-- a run of corners more
pub written_run : (K : ℕ → RefinedMesh rounded) (first k run : ℕ) (old new : List ℤ) → NetsWritten K first k old
    → RunPut K (first + k) run (per_corner * k) old new → NetsWritten K first (k + run) new
unfolding NetsWritten
written_run K first k run old new w x a j p h hj hp =
    ⊎_elim
    (λ l. let b = ltb-true j k l in x.before (per_corner * j + 3 * p + a) (omega arith) ∙ w a j p h b hp)
    (λ l. let b = ltb-false j k l in
    ap (λ (i : ℕ). get_or new i (pos 0)) (let e : per_corner * j + 3 * p + a ≡ per_corner * k + per_corner * (j - k) + 3 * p + a = omega arith in e)
    ∙ x.points_are (j - k) (omega arith) a p h hp
    ∙ ap (λ (d : ℕ). get_or (net (K a) d) p (pos 0)) (let e : first + k + (j - k) ≡ first + j = omega arith in e))
    (ways (ltb j k))

-- ---- the table of an accepted mesh has the rounds of its faces
module _ (M : Mesh) (accepted : Accepted M) (table : List ℕ) (t : Tabled (corners_of M) table) where
  pub rounds_of : WalksFaces M.sides table
  rounds_of =
      let sums = (refinable_of M accepted).sums in
      record {
        faces = faces_of_lem M accepted;
        long = omega (arith, t.long, sums);
        previouses = λ c h. t.previouses c (omega (arith, sums));
        counts = λ c h. t.sides c (omega (arith, sums));
      }

  pub faced_of : Faced (corner_count M) table
  faced_of = record { sides = M.sides; rounds = rounds_of; all = (refinable_of M accepted).sums }

-- ---- the corners of c's face from c on are a run
pub run_of : (n : ℕ) (table : List ℕ) (points : List ℤ) → Drawn n table points → (f : Faced n table) → (c run : ℕ) → c < n
    → c + run ≤ first_of f.sides c + sides_of f.sides c → Run table c run
run_of n table points d f c run h l =
    let s = f.sides in
    let hs : c < sum_of s = omega (arith, f.all) in
    record {
      short = omega (arith, first_from_lem s c hs, f.rounds.counts c hs, d.sound.sides_most c h);
      along = λ r k.
          let e = c + r + 1 in
          let he : e < sum_of s = omega (arith, first_ends s c hs) in
          let p : previous s e ≡ e - 1 = previous_inner s e (λ q. omega (arith, first_same s c hs e (omega (arith, first_from_lem s c hs)) (omega arith), first_from_lem s c hs)) in
          let q : entry table to_previous e ≡ c + r = omega (arith, f.rounds.previouses e he, p) in
          ap (entry table to_next) (sym q) ∙ d.sound.next_previous e (omega (arith, he, f.all));
    }

-- the rows of a new list of zeros
pub quiet_zeros : (n : ℕ) → Quiet (replicate n (pos 0))
quiet_zeros n i = rw (zero_at n (point_row * i + 3)) (lit≤ tt)
  where
    zero_at : (n i : ℕ) → get_or (replicate n (pos 0)) i (pos 0) ≡ pos 0
    zero_at zero i = refl
    zero_at (suc n) zero = refl
    zero_at (suc n) (suc i) = zero_at n i

-- ---- a new table of zeros, for the vertices
pub zeros : (n : ℕ) → replicate {A = ℕ} n 0 ≡ replicate {A = ℕ} (length {A = ℕ} (replicate n 0)) 0
zeros n = ap (λ (k : ℕ). replicate {A = ℕ} k 0) (sym (length-replicate {A = ℕ} n 0))

module _ (M : Mesh) (accepted : Accepted M) where
  pub named_in : Named M.corners (length {A = ℕ} (replicate most_vertices 0))
  named_in c h =
      omega (
        arith,
        vertex_in M accepted c h,
        length-replicate {A = ℕ} most_vertices 0,
        few_vertices (length M.coordinates) (face_count M)
            (corner_count M) (sound_of M accepted).four,
      )

-- ---- the faces of the range: their corners are one range too
module _ (sides : List ℕ) (first last c d : ℕ) (a : first ≤ c) (b : c ≤ last) (l : last < sum_of sides) (h : d < sum_of sides)
    (e : face_of sides d ≡ face_of sides c) where
  here : c < sum_of sides
  here = omega arith

  in_face_lem : (first_of sides c ≤ d) × (d < first_of sides c + sides_of sides c)
  unfolding first_of sides_of
  in_face_lem = (rw (← e) (first_from_lem sides d h), rw (← e) (first_to sides d h))

  -- a corner of the range's first or last face that is beyond d is in d's face, and so no such corner is
  pub from_first : first_of sides first ≤ d
  from_first =
      ⊎_elim
      (λ k. let m = ltb-true d (first_of sides first) k in
      let f = first_from_lem sides first (omega arith) in
      absurd (omega (arith, in_face_lem.0, first_same sides c here first (omega (arith, in_face_lem.0)) (omega (arith, first_to sides c here)))))
      (λ k. ltb-false d (first_of sides first) k)
      (ways (ltb d (first_of sides first)))

  pub to_last : d < first_of sides last + sides_of sides last
  to_last =
      ⊎_elim
      (λ k. ltb-true d (first_of sides last + sides_of sides last) k)
      (λ k. let m = ltb-false d (first_of sides last + sides_of sides last) k in
      let t = first_to sides last l in
      let f = first_from_lem sides c here in
      absurd (omega (
        arith,
        in_face_lem.1,
        first_same sides c here last (omega arith) (omega (arith, in_face_lem.1)),
        sides_same sides c here last (omega arith) (omega (arith, in_face_lem.1)),
      )))
      (ways (ltb d (first_of sides last + sides_of sides last)))

-- ---- the corners at marked vertices are those at the vertices of the range
-- the table of refined points has those of the corners at the vertices of `count` corners from `first` on, and is otherwise as before
abbrev AskedPointed : Mesh → ℕ → ℕ → List ℤ → List ℤ → Type 0
AskedPointed M first count =
    PointsPut (refined_point rounded M) (λ c. (c < corner_count M) × NamedIn M.corners first count (vertex_of M.corners c))

pub asked_of : (M : Mesh) (marked : List ℕ) (first count : ℕ) (old points : List ℤ) → Named M.corners (length marked)
    → Marked M.corners first count marked → MarkedPointed M marked old points → AskedPointed M first count old points
asked_of M marked first count old points n m =
    put_choice (λ c k. (k.1, (m (vertex_of M.corners c) (n c k.1)).only k.2))
    (λ c k. (omega arith, k.0, (m (vertex_of M.corners c) (n c k.0)).yes k.1))

-- ---- the tables draw the mesh, as far as the nets of the range look
module _ (M : Mesh) (accepted : Accepted M) (table : List ℕ) (old points : List ℤ) (first count start all : ℕ) (t : Tabled (corners_of M) table)
    (some : 0 < count) (range : first + count ≤ corner_count M) (from : start ≡ first_of M.sides first)
    (to : start + all ≡ first_of M.sides (first + count - 1) + sides_of M.sides (first + count - 1))
    (long : point_row * corner_count M ≤ length old) (v : AskedPointed M start all old points) where
  drawn_of : Drawn (corner_count M) table points
  drawn_of = record {
    sound = table_sound M table t accepted;
    table_long = t.long;
    points_long = omega (arith, v.same);
    small = λ axis l c h. v.small _;
    fourth = λ c h. v.small _;
  }

  -- a corner at a vertex of the face of a corner of the range is one of them
  asked : (k d : ℕ) → k < count → d < corner_count M → MeetsFace M (first + k) d → NamedIn M.corners start all (vertex_of M.corners d)
  asked k d l h s =
      let sums = (refinable_of M accepted).sums in
      let last : first + count - 1 < sum_of M.sides = omega arith in
      let at : s.at < sum_of M.sides = omega (arith, s.at_in) in
      record {
        at = s.at;
        from = omega (arith, from_first M.sides first (first + count - 1) (first + k) s.at (omega arith) (omega arith) last at s.at_face);
        to = omega (arith, to_last M.sides first (first + count - 1) (first + k) s.at (omega arith) (omega arith) last at s.at_face);
        holds = sym s.same_vertex;
      }

  -- the rings of a corner of the range are at the vertices of its face
  drawn_net : (axis : ℕ) → axis < 3 → (k : ℕ) → k < count → first + k < corner_count M
      → net (refined_of rounded M axis) (first + k) ≡ net (drawn (corner_count M) table points axis) (first + k)
  drawn_net axis a k l h =
      let K = corners_of M in
      let c = first + k in
      let ok = corners_sound M accepted in
      net_same (refined_of rounded M axis) (drawn (corner_count M) table points axis) (table_agrees M table t) ok c h
      (λ e j. let d = ring_in K ok c h e j in
      sym (v.points_are axis (ring K c e j) a (d, asked k (ring K c e j) l d (ring_seen M accepted c h e j))))

  pub nets_drawn : NetsDrawn M table points first count
  nets_drawn = record {
    draws = drawn_of;
    faced = faced_of M accepted table t;
    nets_are = λ axis k a l. drawn_net axis a k l (omega arith);
  }

-- what is written from the tables for corners of the range is what the mesh has
pub drawn_written : (M : Mesh) (table : List ℕ) (points : List ℤ) (first count : ℕ) → NetsDrawn M table points first count → (from n : ℕ) → first ≤ from
    → from + n ≤ first + count → (out : List ℤ) → length out ≡ per_corner * n → NetsWritten (drawn (corner_count M) table points) from n out → out ≡ nets M from n
unfolding NetsWritten
drawn_written M table points first count d from n low high out size w =
    written_all M from n out size
    (λ a j p h hj hp. w a j p h hj hp
    ∙ ap (λ (l : List ℤ). get_or l p (pos 0)) (sym (subst (λ (c : ℕ). net (refined_of rounded M a) c ≡ net (drawn (corner_count M) table points a) c)
    (let e : first + (from + j - first) ≡ from + j = omega arith in e) (d.nets_are a (from + j - first) h (omega arith)))))
