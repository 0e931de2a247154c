-- A run of corners of one face: the rows have what the net of each is made from, every lane has numbers of the sizes that it asks, and the numbers are put
-- one corner after the other.
use mathlib.Core.Path.{◌≡◌, refl, sym, ap, ◌∙◌}
use mathlib.Core.Bool.{Bool, true, false, not}
use mathlib.Core.List.{List}
use Prim.Native.Nat.{ℕ, zero, suc, ◌+◌, ◌*◌, ◌≤◌, ◌<◌}
use native.Mathlib.Omega.{arith}
use lib.Dec.{T, ltb, ltb→lt, nltb→le, lit<}
use lib.ListN.{length, get_or}
use lib.IntN.{ℤ, pos}
use borrow.Author.Count.{below_more}
use Rattle.paper.specs.Scan.{iterate}
use Rattle.paper.specs.Mesh.{most_sides}
use Rattle.paper.specs.Numbers.{rounded}
use Rattle.paper.specs.Refined.{RefinedMesh}
use Rattle.paper.specs.Net.{side0, side1, side2, side3, H, X, C}
use Rattle.paper.specs.Calls.{per_corner}
use Rattle.surface.specs.Points.{point_row, point_at}
use Rattle.surface.specs.Sizes.{RefinedSize, CosineSize}
use Rattle.surface.proofs.Rings.{iterate_first, iterate_in}
use Rattle.surface.proofs.Border.{border}
use Rattle.surface.proofs.Sizes.{H-size, X-size, C-cosine}
use Rattle.walk.specs.Table.{to_next, to_previous, entry}
use Rattle.net_rows.specs.sides.Values.{FaceSized}
use Rattle.net_rows.proofs.sides.Laws.{as_face}
use Rattle.net.specs.declared.lanes.Rings.{Rings}
use Rattle.net.specs.Drawn.{drawn, Drawn}
use Rattle.net.specs.stencil.Taken.{Run, Quiet, FaceTaken, CornerTaken}
use Rattle.net.specs.lanes.Lanes.{rows_face, RingsAt, LaneReady, LaneHas, LaneFilled}
use Rattle.net.specs.copy.Copy.{PointsCopied}
use Rattle.net.specs.Put.{RunPut}
use Rattle.net.proofs.stencil.Rings.{step_more, around_in, face_behind, place_in}

-- ---- the rows of the face, as they are kept from corner to corner
module _ (K : ℕ → RefinedMesh rounded) (c n : ℕ) where
  pub face_held : (old new : List ℤ) → FaceTaken K c n old new → FaceTaken K c n new new
  face_held old new f = record { same = refl; centre = f.centre; toward = f.toward; fourth = λ i. refl }

  pub face_kept : (old new : List ℤ) → ((i : ℕ) → point_row * 10 ≤ i → get_or new i (pos 0) ≡ get_or old i (pos 0)) → FaceTaken K c n old old → FaceTaken K c n new new
  face_kept old new e f = record {
    same = refl;
    centre = λ a l. e (point_row * 10 + a) (omega arith) ∙ f.centre a l;
    toward = λ r h a l. e (point_row * (11 + r) + a) (omega arith) ∙ f.toward r h a l;
    fourth = λ i. refl;
  }

module _ (count : ℕ) (table : List ℕ) (points : List ℤ) (t : Drawn count table points) where
  abbrev K : ℕ → RefinedMesh rounded
  K = drawn count table points

  abbrev next : ℕ → ℕ
  next = entry table to_next

  -- ---- the corners of a run
  pub run_place : (c run : ℕ) → Run table c run → (r : ℕ) → r < run → iterate r next c ≡ c + r
  unfolding iterate
  run_place c run h zero l = omega arith
  run_place c run h (suc r) l = ap next (run_place c run h r (omega arith)) ∙ h.along r (omega arith) ∙ shift c r
    where
      shift : (c r : ℕ) → c + r + 1 ≡ c + suc r
      shift c r = omega arith

  -- the centre is the same all round the face
  H-along : (c r a : ℕ) → a < 3 → c < count → H (K a) (iterate r next c) side1 ≡ H (K a) c side1
  unfolding iterate H
  H-along c zero a l h = refl
  H-along c (suc r) a l h =
      (border (K a) t.sound (t.small a l) (iterate r next c) (iterate_in next count t.sound.next_in r c h) side1).same_h ∙ H-along c r a l h

  -- ---- corner d, the r-th of a face from c on, once its rows are taken
  module _ (c r n d : ℕ) (hc : c < count) (hd : d < count) (e : iterate r next c ≡ d) (l : r + 1 < n) (g : Rings) (rg : RingsAt table d r g)
      (old new : List ℤ) (f : FaceTaken K c n old old) (u : CornerTaken K d old new) where
    abbrev before : ℕ
    before = entry table to_previous c

    -- the r-th corner from c on is the one after the r-th from the corner before c on
    place : iterate (r + 1) next before ≡ d
    place = sym (iterate_first next r before) ∙ ap (iterate r next) (t.sound.next_previous c hc) ∙ e

    pub lane_has : (a : ℕ) → a < 3 → LaneHas (K a) d new a g
    unfolding iterate C
    lane_has a la =
        let k = face_kept K c n old new u.after f in
        record {
          around = record { sound = t.sound; here = hd; points = λ i li. u.points i li a la };
          vertex = record { centre = u.centre a la; ahead = u.ahead a la; behind = u.behind a la; cosine = rg.at_vertex };
          face = rw rg.place_is (record {
            centre = k.centre a la ∙ sym (H-along c r a la hc) ∙ ap (λ (d : ℕ). H (K a) d side1) e;
            ahead = ap (point_at new a) (more r) ∙ k.toward (r + 1) l a la ∙ ap (λ (d : ℕ). X (K a) d side1) place;
            behind = k.toward r (omega arith) a la ∙ face_behind count table points t (iterate r next before) a la (place_in count table points t c hc r)
                ∙ ap (λ (d : ℕ). X (K a) d side2) (step_more next r before _ refl ∙ place);
            cosine = rg.at_face;
          });
        }
      where
        more : (r : ℕ) → 11 + r + 1 ≡ 11 + (r + 1)
        more r = omega arith

    -- sizes, in the lane of an axis
    module _ (long : length new ≡ 128) (short : r < most_sides) where
      cosines : CosineSize g.vertex × CosineSize g.face
      unfolding C
      cosines =
          let z = C-cosine (K 0) t.sound (t.small 0 (lit< tt)) d hd in
          (rw rg.at_vertex (z side0), rw rg.at_face (z side1))

      pub ready_axis : (a : ℕ) → a < 3 → LaneReady new a g
      ready_axis a la =
          let h = lane_has a la in
          let m = t.small a la in
          record {
            long = long;
            lane = omega arith;
            place = rw rg.place_is short;
            points = λ i li. rw (h.around.points i li) (m _ (around_in count table points t d hd i li));
            vertex = record {
              centre = rw h.vertex.centre (H-size (K a) t.sound m d hd side0);
              ahead = rw h.vertex.ahead (X-size (K a) t.sound m d hd side0);
              behind = rw h.vertex.behind (X-size (K a) t.sound m d hd side3);
            };
            face = record {
              centre = rw h.face.centre (H-size (K a) t.sound m d hd side1);
              ahead = rw h.face.ahead (X-size (K a) t.sound m d hd side1);
              behind = rw h.face.behind (X-size (K a) t.sound m d hd side2);
            };
            cosines = cosines;
          }

      -- and in the one that is not used
      pub ready : Quiet new → (k : ℕ) → k < 4 → LaneReady new k g
      ready quiet k lk = which (ltb k 3) (λ u. ltb→lt k 3 u) (λ u. nltb→le k 3 u)
        where
          which : (b : Bool) → (T b → k < 3) → (T (not b) → 3 ≤ k) → LaneReady new k g
          which true y n = ready_axis k (y tt)
          which false y n =
              let three : k ≡ 3 = let q = n tt in omega arith in
              let q : (i : ℕ) → RefinedSize (point_at new k i) = rw three quiet in
              let sized : (i j : ℕ) → FaceSized (rows_face new k i j) = λ i j.
              record { centre = q i; ahead = as_face (point_at new k (j + 1)) (q (j + 1)); behind = as_face (point_at new k j) (q j) } in
              record {
                long = long;
                lane = lk;
                place = rw rg.place_is short;
                points = λ i li. q i;
                vertex = sized 7 8;
                face = sized 10 (11 + g.place);
                cosines = cosines;
              }

-- ---- the numbers
module _ (K : ℕ → RefinedMesh rounded) (c at : ℕ) where
  pub run_none : (out : List ℤ) → RunPut K c 0 at out out
  run_none out = record { same = refl; points_are = λ r l. absurd (omega arith); before = λ i l. refl; after = λ i l. refl }

  -- one corner more
  pub run_more : (r : ℕ) (rows : List ℤ) (g : Rings) (lanes old mid new : List ℤ) → RunPut K c r at old mid → ((a : ℕ) → a < 3 → LaneHas (K a) (c + r) rows a g)
      → ((k : ℕ) → k < 4 → LaneFilled rows k g lanes) → PointsCopied lanes (at + per_corner * r) 0 41 mid new → RunPut K c (r + 1) at old new
  run_more r rows g lanes old mid new m has filled d = record {
    same = d.same ∙ m.same;
    points_are = below_more _ r (λ q l a p la lp. d.before (at + per_corner * q + 3 * p + a) (omega arith) ∙ m.points_are q l a p la lp)
        (λ a p la lp. d.points_are p a (omega arith) lp la ∙ filled a (omega arith) (K a) (c + r) (has a la) p lp);
    before = λ i l. d.before i (omega arith) ∙ m.before i l;
    after = λ i l. d.after i (omega arith) ∙ m.after i (omega arith);
  }
