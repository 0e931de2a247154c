-- After each turn every plane holds a first vertex and some fours.
use mathlib.Core.Path.{◌≡◌, subst}
use Prim.Native.Nat.{ℕ, ◌+◌, ◌-◌, ◌*◌, ◌/◌, ◌%◌, ◌<◌, ◌≤◌}
use native.Mathlib.Nat.{div-add-mod}
use native.Mathlib.Omega.{arith}
use lib.ListN.{length}
use Rattle.planes.specs.Planes.{Planed}
use Rattle.rearrange.proofs.archiving.fill_fours.Goals as goal

-- the fours end within the list
within : (k n : ℕ) → 3 ≤ n → k < (n - 3) / 4 → 3 + 4 * k + 4 ≤ n
within k n a h = omega (arith, div-add-mod (n - 3) 4)

next : (k : ℕ) → 3 + 4 * k + 4 ≡ 3 + 4 * (k + 1)
next k = omega arith

end : (k n : ℕ) → 3 ≤ n → k ≡ (n - 3) / 4 → 3 + 4 * k ≡ n - (n - 3) % 4
end k n a e = omega (arith, div-add-mod (n - 3) 4)

pub loop-k-init : goal.loop-k-init
loop-k-init c = c.requires.1

pub put_four-requires : goal.put_four-requires
put_four-requires c = (omega arith, within c.loop-k.k _ c.requires.0 c.loop-k-test.true, c.loop-k.invariant)

pub loop-k-preserved : goal.loop-k-preserved
loop-k-preserved c = subst (λ (i : ℕ). Planed c.args.numbers.now i c.put_four.new.bytes) (next c.loop-k.k) c.put_four.ensures

pub returns : goal.returns
returns c =
    let l = c.loop-k in
    let list = c.args.numbers.now in
    subst (λ (i : ℕ). Planed list i l.bytes) (end l.k (length list) c.requires.0 (omega arith)) l.invariant
