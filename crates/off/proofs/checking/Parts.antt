-- The parts of a call, as laws over lists: 4 to 13 of the lists, and what is copied.
use mathlib.Core.Path.{◌≡◌, refl, sym, ap, ◌∙◌}
use mathlib.Core.Bool.{true, false, not}
use mathlib.Core.List.{List, ◌∷◌, ◌++◌}
use Prim.Native.Nat.{ℕ, zero, suc, ◌*◌, ◌%◌, ◌≤◌}
use native.Mathlib.Omega.{arith}
use lib.Dec.{eqb, ltb}
use lib.ListN.{length, take, drop, replicate, length-replicate}
use lib.Seq.{length-take-le}
use lib.IntN.{ℤ}
use borrow.Author.Tests.{eqb-true, not-false, ltb-false}
use Rattle.mesh.proofs.Accepted.{sound_of, few_vertices, few_faces, few_corners}
use Rattle.mesh.proofs.Ranges.{none_left, none_right, or_left, or_right, or_none}
use Rattle.mesh.proofs.Verdicts.{sound_right, single_hit, single_miss, or_else_fault, or_else_sound, or_else_assoc, past, refusing}
use Rattle.paper.specs.Mesh.{most_vertices, most_faces, most_corners, Mesh, mesh_of, plain, plain_list, plain_mesh, lengths_of, four as four_lengths, face_count, corner_count}
use Rattle.paper.specs.Faults.{sound, fault, single, fault4, list_faults, link_faults, verdict, stated, Answer, Told}
use Rattle.paper.specs.File.{begins}
use Rattle.paper.specs.declared.Refusal.{Refusal}
use Rattle.paper.specs.declared.Lengths.{Lengths}
use Rattle.std.specs.Prelude.{Ok, Err}
use Rattle.paper.specs.Off.{words_of, nth_word}
use Rattle.paper.specs.Off.{words_mesh, is_off, short, fault24, words_verdict, off_verdict, text_mesh, OffRead}
use Rattle.off.specs.checking.Call.{OwnRoom, TextChecked, TextCopied}
use Rattle.off_lists.specs.Reading.{Lists, read_verdict, WordsRead}

-- ---- 4 to 13
-- no fault of 4 keeps the lists within the limits
module _ (n f k : ℕ) (e : fault4 n f k ≡ false) where
  thirds : n % 3 ≡ 0
  unfolding fault4
  thirds = eqb-true (n % 3) 0 (not-false _ (none_left (not (eqb (n % 3) 0)) _ e))

  pub few_numbers : n ≤ 3 * most_vertices
  few_numbers = omega (arith, few_vertices n f k e, thirds)

module _ (d : Lengths) (coordinates : List ℤ) (sides corners : List ℕ) (room : OwnRoom coordinates sides corners)
    (e : fault4 d.coordinates d.sides d.corners ≡ false) where
  pub coordinates_fit : d.coordinates ≤ length coordinates
  coordinates_fit = omega (arith, few_numbers _ _ _ e, room.coordinates_room)

  pub sides_fit : d.sides ≤ length sides
  sides_fit = omega (arith, few_faces _ _ _ e, room.sides_room)

  pub corners_fit : d.corners ≤ length corners
  corners_fit = omega (arith, few_corners _ _ _ e, room.corners_room)

  -- as check_plain asks it
  pub corners_few : length (take d.corners corners) ≤ most_corners
  corners_few = omega (arith, few_corners _ _ _ e, length-take-le d.corners corners corners_fit)

  pub check_all : (r : Answer) → stated r ≡ verdict (plain_mesh (take d.coordinates coordinates) (take d.sides sides) (take
      d.corners corners))
      → (M : Mesh) → Lists M d coordinates sides corners → stated r ≡ verdict M
  check_all r q M l =
      let k = l.corners_hold corners_fit in
      q ∙ ap verdict (same M (l.coordinates_hold coordinates_fit) (l.sides_hold sides_fit) k (ap pairs_of_lem k ∙ sym l.plain_pairs))
    where
      pairs_of_lem : List ℕ → List ℕ
      pairs_of_lem ks = plain_list (length ks)

      same : (M : Mesh) {cs : List ℤ} {ss ks hs : List ℕ} → cs ≡ M.coordinates → ss ≡ M.sides → ks ≡ M.corners → hs ≡ M.sharpness
          → mesh_of cs ss ks hs ≡ M
      same M p q r s = rw (p, q, r, s)

four_is : (d : Lengths) (coordinates : List ℤ) (sides corners : List ℕ) (M : Mesh) → Lists M d coordinates sides corners
    → single 4 (fault4 d.coordinates d.sides d.corners) 0 ≡ single 4 (fault4 (length M.coordinates) (face_count M) (corner_count M)) 0
four_is d coordinates sides corners M l = rw (l.coordinates_count, l.sides_count, l.corners_count)

pub check_four : (d : Lengths) (coordinates : List ℤ) (sides corners : List ℕ) (r : Refusal)
    → fault r.number r.place ≡ single 4 (fault4 d.coordinates d.sides d.corners) 0
    → (M : Mesh) → Lists M d coordinates sides corners → fault r.number r.place ≡ verdict M
unfolding verdict list_faults
check_four d coordinates sides corners r e M l =
    let v : single 4 (fault4 (length M.coordinates) (face_count M) (corner_count M)) 0 ≡ fault r.number r.place =
    sym (four_is d coordinates sides corners M l) ∙ sym e in
    sym (or_else_fault r.number r.place (link_faults M) (or_else_fault r.number r.place _ v))

-- the beginning of a list of eights
pub eights : (k n : ℕ) → k ≤ n → take k (replicate n plain) ≡ replicate k plain
eights zero n h = refl
eights (suc k) zero h = absurd (omega arith)
eights (suc k) (suc n) h = ap {B = List ℕ} (λ r. plain ∷ r) (eights k n (omega arith))

-- ---- the checks in a row
module _ (text : List ℕ) (coordinates : List ℤ) (sides corners : List ℕ) where
  pub checked_words : (r : Refusal) → WordsRead text (Err r) coordinates sides corners → TextChecked text (Err r) coordinates sides corners
  checked_words r w = record { answers = sym (or_else_fault r.number r.place _ (sym w.answers)); lists = tt }

  module _ (d : Lengths) (w : WordsRead text (Ok d) coordinates sides corners) where
    pub checked_lists : (r : Refusal) → ((M : Mesh) → Lists M d coordinates sides corners → fault r.number r.place ≡ verdict M)
        → TextChecked text (Err r) coordinates sides corners
    checked_lists r q = record { answers = past (sym w.answers) _ (q (words_mesh (words_of text)) w.lists); lists = tt }

    pub checked_all : ((M : Mesh) → Lists M d coordinates sides corners → sound ≡ verdict M) → TextChecked text (Ok d) coordinates sides corners
    checked_all q = record { answers = past (sym w.answers) _ (q (words_mesh (words_of text)) w.lists); lists = w.lists }

  -- an accepted text's lists are within the limits
  module _ (d : Lengths) (c : TextChecked text (Ok d) coordinates sides corners) where
    pub within_limits : fault4 d.coordinates d.sides d.corners ≡ false
    within_limits =
        let v = sound_right _ _ (sym c.answers) in
        let l = c.lists in
        rw (l.coordinates_count, l.sides_count, l.corners_count) (sound_of (words_mesh (words_of text)) v).four

    pub few_pairs : d.corners ≤ most_corners
    few_pairs = few_corners _ _ _ within_limits

pub room_kept : (coordinates coordinates' : List ℤ) (sides corners sides' corners' : List ℕ) → OwnRoom coordinates sides corners
    → length coordinates' ≡ length coordinates → length sides' ≡ length sides → length corners' ≡ length corners → OwnRoom coordinates' sides' corners'
room_kept cs cs' ss ks ss' ks' r p q k =
    omega (arith, r)

-- ---- copying
pub taken : {A : Type 0} (n : ℕ) (list : List A) → n ≤ length list → n ≡ length (take n list)
taken n list h = sym (length-take-le n list h)

pub taken_fits : {A B : Type 0} (n : ℕ) (list : List A) (lent : List B) → n ≤ length list → n ≤ length lent → length (take n list) ≤ length lent
taken_fits n list lent h k = omega (arith, taken n list h)

-- so many eights in the beginning of a lent list
pub eights_begin : (n : ℕ) (old new : List ℕ) → n ≤ length old → new ≡ replicate (length (take n old)) plain → new ++ drop n old ≡ begins (replicate n plain) old
eights_begin n old new h e = rw (length-replicate n plain, e, length-take-le n old h)

-- ---- what the lent lists hold
module _ (text : List ℕ) (lent : Mesh) (coordinates : List ℤ) (sides corners : List ℕ) where
  pub copied_none : (r : Refusal) → TextChecked text (Err r) coordinates sides corners → TextCopied text lent (Err r) lent
  copied_none r c = record { answers = c.answers; lengths = tt; holds = refl }

  module _ (d : Lengths) (c : TextChecked text (Ok d) coordinates sides corners) (room : OwnRoom coordinates sides corners) where
    four : fault4 d.coordinates d.sides d.corners ≡ false
    four = within_limits text coordinates sides corners d c

    pub copied_all : (lists : Mesh) → lists.coordinates ≡ begins (take d.coordinates coordinates) lent.coordinates
        → lists.sides ≡ begins (take d.sides sides) lent.sides → lists.corners ≡ begins (take d.corners corners) lent.corners
        → lists.sharpness ≡ begins (replicate (2 * d.corners) plain) lent.sharpness
        → TextCopied text lent
        (Ok (record { coordinates = d.coordinates; sides = d.sides; corners = d.corners; sharpness = 2 * d.corners })) lists
    copied_all lists p q r s =
        let l = c.lists in
        let x = l.coordinates_hold (coordinates_fit d coordinates sides corners room four) in
        let y = l.sides_hold (sides_fit d coordinates sides corners room four) in
        let z = l.corners_hold (corners_fit d coordinates sides corners room four) in
        let w : plain_list d.corners ≡ (words_mesh (words_of text)).sharpness = ap plain_list l.corners_count ∙ sym l.plain_pairs in
        record {
          answers = c.answers;
          lengths = same_lengths (words_mesh (words_of text)) l.coordinates_count l.sides_count l.corners_count
              (sym (length-replicate (2 * d.corners) plain) ∙ ap length w);
          holds = same lists (rw x at p) (rw y at q) (rw z at r) (rw w at s);
        }
      where
        same : (L : Mesh) {cs : List ℤ} {ss ks hs : List ℕ} → L.coordinates ≡ cs → L.sides ≡ ss → L.corners ≡ ks → L.sharpness ≡ hs
            → L ≡ mesh_of cs ss ks hs
        same L p q r s = rw (← p, ← q, ← r, ← s)

        same_lengths : (M : Mesh) {n f k h : ℕ} → n ≡ length M.coordinates → f ≡ length M.sides → k ≡ length M.corners → h ≡ length M.sharpness
            → four_lengths n f k h ≡ lengths_of M
        same_lengths M p q r s = rw (p, q, r, s)

-- ---- 24, and the call as a whole
module _ (text : List ℕ) (lent : Mesh) where
  pub read_refused : fault24 (words_of text) (lengths_of lent) ≡ true → OffRead text lent (refusing 24 0) lent
  unfolding off_verdict words_verdict
  read_refused e = record { answers = sym (or_else_fault 24 0 _ (single_hit 24 0 e)); lengths = tt; holds = refl }

  pub too_short : short (lengths_of lent) ≡ true → fault24 (words_of text) (lengths_of lent) ≡ true
  unfolding fault24
  too_short e = or_left (short (lengths_of lent)) _ e

  pub no_mark : is_off (nth_word (words_of text) 0) ≡ false → fault24 (words_of text) (lengths_of lent) ≡ true
  unfolding fault24
  no_mark e = or_right (short (lengths_of lent)) _ (ap not e)

  pub marked : short (lengths_of lent) ≡ false → is_off (nth_word (words_of text) 0) ≡ true → fault24 (words_of text) (lengths_of lent) ≡ false
  unfolding fault24
  marked e o = or_none (short (lengths_of lent)) _ e (ap not o)

  module _ (e : short (lengths_of lent) ≡ false) where
    pub lent_all : OwnRoom lent.coordinates lent.sides lent.corners × (2 * most_corners ≤ length lent.sharpness)
    unfolding short
    lent_all =
        let sides = none_right (ltb (length lent.coordinates) (3 * most_vertices)) _ e in
        let corners = none_right (ltb (length lent.sides) most_faces) _ sides in (
          record {
            coordinates_room = ltb-false _ _ (none_left _ _ e);
            sides_room = ltb-false _ _ (none_left _ _ sides);
            corners_room = ltb-false _ _ (none_left _ _ corners);
          },
          ltb-false _ _ (none_right (ltb (length lent.corners) most_corners) _ corners),
        )

  pub read_all : fault24 (words_of text) (lengths_of lent) ≡ false → (r : Told Lengths) (lists : Mesh) → TextCopied text lent r lists
      → OffRead text lent r lists
  unfolding off_verdict words_verdict text_mesh read_verdict
  read_all e r lists c =
      record { answers = c.answers ∙ or_else_assoc _ _ _ ∙ sym (or_else_sound _ (single_miss 24 0 e)); lengths = c.lengths; holds = c.holds }
