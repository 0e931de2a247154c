-- `telling::tell` meets its contract: done is 0 with the place left alone, a refusal its number and place.
use mathlib.Core.Path.{◌≡◌, refl}
use Prim.Native.Nat.{ℕ}
use Rattle.std.specs.Prelude.{Ok, Err}
use Rattle.paper.specs.Faults.{stated, Answer}
use Rattle.paper.specs.CFace.{States}
use Rattle.paper.specs.declared.Refusal.{Refusal}
use Rattle.telling.proofs.tell.Goals as goal

done : (a : Answer) {u : Unit} (before : ℕ) → a ≡ Ok u → States (stated a) before 0 before
done a before e = rw e (record { number = refl; place = refl })

refused : (a : Answer) (r : Refusal) (before : ℕ) → a ≡ Err r → States (stated a) before r.number r.place
refused a r before e = rw e (record { number = refl; place = refl })

pub returns-in-Ok : goal.returns-in-Ok
returns-in-Ok c = done _ _ c.in-Ok.is

pub returns-in-Err : goal.returns-in-Err
returns-in-Err c = rw c.from.ensures (refused _ _ _ c.in-Err.is)
