-- `bernstein::value_at` meets its contract: each sum fits.
use mathlib.Core.Path.{◌≡◌}
use Prim.Native.Nat.{ℕ, ◌*◌, ◌^◌, ◌≤◌}
use native.Mathlib.Nat.{le_trans}
use native.Mathlib.Omega.{arith}
use lib.Dec.{lit≤}
use lib.IntN.{ℤ, pos, ◌+ℤ◌, ◌*ℤ◌}
use mir.Syntax.{w64}
use mir.Val.{SFits, to_z}
use mir.Facts.{to_z-of_z}
use mir.ValLaws.{to_z_pos}
use Rattle.numbers.proofs.Laws.{abs_mul_le}
use Rattle.bernstein.specs.declared.Vector5.{Vector5}
use Rattle.bernstein.specs.Sums.{Tapered, polynomial_at}
use Rattle.bernstein.proofs.Laws.{size_fits, horner}
use Rattle.bernstein.proofs.value_at.Goals as goal

module _ (e : Vector5) (j : ℕ) (h : Tapered (5 * 2 ^ 34) e) (l : j ≤ 16) where
  abbrev x : ℤ
  x = pos j

  plain : to_z w64 j ≡ pos j
  plain = to_z_pos w64 j (omega (arith, l))

  abbrev d : ℤ
  d = e.d +ℤ x *ℤ e.e

  abbrev c₂ : ℤ
  c₂ = e.c +ℤ x *ℤ d

  abbrev b : ℤ
  b = e.b +ℤ x *ℤ c₂

  abbrev a : ℤ
  a = e.a +ℤ x *ℤ b

  abbrev Fine : Type 0
  Fine =
      SFits w64 e.a × SFits w64 e.b × SFits w64 e.c × SFits w64 e.d × SFits w64 e.e
      × SFits w64 (x *ℤ e.e) × SFits w64 d × SFits w64 (x *ℤ d) × SFits w64 c₂ × SFits w64 (x *ℤ c₂) × SFits w64 b × SFits w64 (x *ℤ b) × SFits w64 a

  facts : Fine
  facts =
      let A = 5 * 2 ^ 34 in
      let p1 = abs_mul_le x e.e 16 A l h.4 in
      let q1 = horner e.d e.e j (16 * A) A l h.3 h.4 in
      let p2 = abs_mul_le x d 16 (32 * A) l (le_trans q1 (lit≤ tt)) in
      let q2 = horner e.c d j (256 * A) (32 * A) l h.2 (le_trans q1 (lit≤ tt)) in
      let p3 = abs_mul_le x c₂ 16 (768 * A) l (le_trans q2 (lit≤ tt)) in
      let q3 = horner e.b c₂ j (4096 * A) (768 * A) l h.1 (le_trans q2 (lit≤ tt)) in
      let p4 = abs_mul_le x b 16 (16384 * A) l (le_trans q3 (lit≤ tt)) in
      let q4 = horner e.a b j (65536 * A) (16384 * A) l h.0 (le_trans q3 (lit≤ tt)) in (
        size_fits e.a (le_trans h.0 (lit≤ tt)),
        size_fits e.b (le_trans h.1 (lit≤ tt)),
        size_fits e.c (le_trans h.2 (lit≤ tt)),
        size_fits e.d (le_trans h.3 (lit≤ tt)),
        size_fits e.e (le_trans h.4 (lit≤ tt)),
        size_fits (x *ℤ e.e) (le_trans p1 (lit≤ tt)),
        size_fits d (le_trans q1 (lit≤ tt)),
        size_fits (x *ℤ d) (le_trans p2 (lit≤ tt)),
        size_fits c₂ (le_trans q2 (lit≤ tt)),
        size_fits (x *ℤ c₂) (le_trans p3 (lit≤ tt)),
        size_fits b (le_trans q3 (lit≤ tt)),
        size_fits (x *ℤ b) (le_trans p4 (lit≤ tt)),
        size_fits a (le_trans q4 (lit≤ tt)),
      )

pub overflow_mul-d : goal.overflow_mul-d
overflow_mul-d c =
    let k = facts c.args.e c.args.j c.requires.0 c.requires.1 in
    simp (plain c.args.e c.args.j c.requires.0 c.requires.1, to_z-of_z, k.0, k.1, k.2, k.3, k.4, k.5, k.6, k.7, k.8, k.9, k.10, k.11, k.12) k.5

pub overflow_add-d : goal.overflow_add-d
overflow_add-d c =
    let k = facts c.args.e c.args.j c.requires.0 c.requires.1 in
    simp (plain c.args.e c.args.j c.requires.0 c.requires.1, to_z-of_z, k.0, k.1, k.2, k.3, k.4, k.5, k.6, k.7, k.8, k.9, k.10, k.11, k.12) k.6

pub overflow_mul-c : goal.overflow_mul-c
overflow_mul-c c =
    let k = facts c.args.e c.args.j c.requires.0 c.requires.1 in
    simp (plain c.args.e c.args.j c.requires.0 c.requires.1, to_z-of_z, k.0, k.1, k.2, k.3, k.4, k.5, k.6, k.7, k.8, k.9, k.10, k.11, k.12) k.7

pub overflow_add-c : goal.overflow_add-c
overflow_add-c c =
    let k = facts c.args.e c.args.j c.requires.0 c.requires.1 in
    simp (plain c.args.e c.args.j c.requires.0 c.requires.1, to_z-of_z, k.0, k.1, k.2, k.3, k.4, k.5, k.6, k.7, k.8, k.9, k.10, k.11, k.12) k.8

pub overflow_mul-b : goal.overflow_mul-b
overflow_mul-b c =
    let k = facts c.args.e c.args.j c.requires.0 c.requires.1 in
    simp (plain c.args.e c.args.j c.requires.0 c.requires.1, to_z-of_z, k.0, k.1, k.2, k.3, k.4, k.5, k.6, k.7, k.8, k.9, k.10, k.11, k.12) k.9

pub overflow_add-b : goal.overflow_add-b
overflow_add-b c =
    let k = facts c.args.e c.args.j c.requires.0 c.requires.1 in
    simp (plain c.args.e c.args.j c.requires.0 c.requires.1, to_z-of_z, k.0, k.1, k.2, k.3, k.4, k.5, k.6, k.7, k.8, k.9, k.10, k.11, k.12) k.10

pub overflow_mul-result : goal.overflow_mul-result
overflow_mul-result c =
    let k = facts c.args.e c.args.j c.requires.0 c.requires.1 in
    simp (plain c.args.e c.args.j c.requires.0 c.requires.1, to_z-of_z, k.0, k.1, k.2, k.3, k.4, k.5, k.6, k.7, k.8, k.9, k.10, k.11, k.12) k.11

pub overflow_add-result : goal.overflow_add-result
overflow_add-result c =
    let k = facts c.args.e c.args.j c.requires.0 c.requires.1 in
    simp (plain c.args.e c.args.j c.requires.0 c.requires.1, to_z-of_z, k.0, k.1, k.2, k.3, k.4, k.5, k.6, k.7, k.8, k.9, k.10, k.11, k.12) k.12

pub returns : goal.returns
unfolding polynomial_at
returns c =
    let k = facts c.args.e c.args.j c.requires.0 c.requires.1 in
    simp (plain c.args.e c.args.j c.requires.0 c.requires.1, to_z-of_z, k.0, k.1, k.2, k.3, k.4, k.5, k.6, k.7, k.8, k.9, k.10, k.11, k.12)
