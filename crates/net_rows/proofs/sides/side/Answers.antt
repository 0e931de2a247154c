-- `net_rows::sides::side` meets its contract.
use mathlib.Core.Path.{◌≡◌, ◌∙◌}
use Prim.Native.Nat.{◌+◌, ◌^◌, ◌≤◌}
use native.Mathlib.Omega.{arith}
use borrow.Author.Rules.{rules}
use lib.IntN.{ℤ, pos, nat_abs, ◌+ℤ◌, ◌-ℤ◌, ◌*ℤ◌}
use mir.Syntax.{w32}
use mir.Val.{SFits}
use mir.Facts.{to_z-of_z}
use Rattle.paper.specs.Numbers.{round}
use Rattle.surface.specs.Sizes.{FaceSize, ValueSize}
use Rattle.net_rows.proofs.sides.side.Goals as goal

wider : (z y : ℤ) → z ≡ y → nat_abs y ≤ 2 ^ 24 + 2 ^ 21 → ValueSize z
wider z y e h = rw e (omega arith)

as_face : (z : ℤ) → nat_abs z ≤ 2 ^ 24 → FaceSize z
as_face z h = omega arith

pub returns : goal.returns
returns c =
    let s = c in
    let k = s.ranges in
    let x = s.args in
    let q = c.inner.result in
    let f : SFits w32 q = search rules in
    let e : q ≡ round (pos 3 *ℤ x.x +ℤ pos 3 *ℤ x.y +ℤ x.v -ℤ x.w) (pos 6) = simp (to_z-of_z, k.x, k.y, k.v, k.w) at c.inner.ensures.0 in
    record {
      head = to_z-of_z k.head;
      tail = to_z-of_z k.tail;
      x = to_z-of_z k.x;
      y = to_z-of_z k.y;
      inner = to_z-of_z f ∙ e;
      cosine = to_z-of_z k.cosine;
      sized = record {
        head = wider _ _ (to_z-of_z k.head) (as_face x.head s.requires.0);
        tail = wider _ _ (to_z-of_z k.tail) (as_face x.tail s.requires.1);
        x = wider _ _ (to_z-of_z k.x) s.requires.2;
        y = wider _ _ (to_z-of_z k.y) s.requires.3;
        inner = rw (to_z-of_z f) c.inner.ensures.1;
        cosine = rw (to_z-of_z k.cosine) s.requires.6;
      };
    }
