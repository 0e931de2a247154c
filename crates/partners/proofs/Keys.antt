-- The ends of the edges: what filling them asks, and that they are vertices.
use mathlib.Core.Path.{◌∙◌}
use mathlib.Core.List.{List}
use Prim.Native.Nat.{ℕ, ◌<◌, ◌≤◌}
use native.Mathlib.Omega.{arith}
use lib.ListN.{length, get_or, take}
use lib.Seq.{get_or-take}
use Rattle.paper.specs.Corners.{next}
use Rattle.paper.specs.Links.{leaves_to}
use Rattle.mesh.proofs.Faces.{next_below}
use Rattle.partners.specs.Lists.{ListsPass, Nexted}
use Rattle.partners.specs.Keys.{KeysTo, Keyable}

-- next corners are corners
pub keyable_of : {vertices : ℕ} {sides corners table lows highs : List ℕ} → ListsPass vertices sides corners → Nexted sides corners table
    → length corners ≤ length lows → length corners ≤ length highs → Keyable corners table lows highs
keyable_of {sides = sides} z n l h =
    record {
      small = z.few_corners;
      long = n.long;
      lows_long = l;
      highs_long = h;
      nexts_in = λ c b. let s = z.listed.sums in omega (arith, n.nexts c b, next_below sides c (omega arith), s);
    }

-- the ends of the edges, in tables cut to the corner count
module _ {vertices : ℕ} {sides corners lows highs : List ℕ} (z : ListsPass vertices sides corners)
    (k : KeysTo sides corners lows highs (length corners)) where
  pub keys_taken : KeysTo sides corners (take (length corners) lows) (take (length corners) highs) (length corners)
  keys_taken =
      record {
        low = λ c l. get_or-take (length corners) lows c 0 l ∙ k.low c l;
        high = λ c l. get_or-take (length corners) highs c 0 l ∙ k.high c l;
      }

  to_below : (c : ℕ) → c < length corners → leaves_to sides corners c < vertices
  unfolding leaves_to
  to_below c l = z.named (next sides c) (omega (arith, next_below sides c (omega (arith, z.listed.sums)), z.listed.sums))

  pub low_below : (c : ℕ) → c < length corners → get_or (take (length corners) lows) c 0 < vertices
  low_below c l = omega (arith, keys_taken.low c l, z.named c l)

  pub high_below : (c : ℕ) → c < length corners → get_or (take (length corners) highs) c 0 < vertices
  high_below c l = omega (arith, keys_taken.high c l, z.named c l, to_below c l)
