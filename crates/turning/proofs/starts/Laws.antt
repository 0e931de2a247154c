-- The tables of the faces, filled face by face.
use mathlib.Core.Path.{◌≡◌, ap, ◌∙◌, sym}
use mathlib.Core.List.{List}
use Prim.Native.Nat.{ℕ, ◌+◌, ◌<◌, ◌≤◌}
use native.Mathlib.Omega.{arith}
use Rattle.std.proofs.lemmas.Grind.{common_steps}
use Rattle.std.proofs.Common.{replicate}
use borrow.Rule.Slice.PartMut.{put_mid}
use lib.ListN.{length, get_or, set, take, drop}
use Rattle.paper.specs.Corners.{start_of}
use Rattle.mesh.proofs.Faces.{face_at, start_zero, start_next}
use Rattle.mesh.proofs.ByCases.{by_less}
use Rattle.partners.proofs.Stores.{put}
use Rattle.turning.specs.starts.Starts.{StartsTo, FaceNumbered}

-- the table of the faces' first corners, and of the corners' faces
pub started_none : (sides faces starts : List ℕ) → StartsTo sides faces starts 0
started_none sides faces starts =
    record { faces_are = λ c l. absurd (omega (arith, start_zero sides)); starts_are = λ g l. absurd (omega arith) }

-- a face's part of the table, filled with its number
pub faced : (f start n end : ℕ) (old part : List ℕ) → start + n ≡ end → end ≤ length old → part ≡ replicate (length (take n (drop start old))) f
    → FaceNumbered f start old (put_mid start n old part) end
faced f start n end old part e l q =
    record {
      filled = λ d x y. grind (arith, common_steps);
      kept = λ d x. grind (arith, common_steps);
    }

pub started_step : {sides faces starts faces' : List ℕ} {f start : ℕ} → f < length sides → f < length starts → start ≡ start_of sides f
    → StartsTo sides faces starts f → FaceNumbered f start faces faces' (start + get_or sides f 0) → StartsTo sides faces' (set starts f start) (f + 1)
started_step {sides} {starts = starts} {f = f} {start = start} h l e s p =
    record {
      faces_are = λ c b. let n = start_next sides f h in by_less c start
          (λ w. p.kept c w ∙ s.faces_are c (omega arith))
          (λ w. p.filled c w (omega arith) ∙ sym (face_at sides f c (omega arith) (omega arith) h));
      starts_are = λ g b. put (λ z. z ≡ start_of sides g) starts f g start l
          (λ q. e ∙ ap (start_of sides) (sym q))
          (λ q. s.starts_are g (omega (arith, q)));
    }
