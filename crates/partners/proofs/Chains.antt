-- The chains by lower ends: how they grow by a corner, and the places on one.
use mathlib.Core.Path.{◌≡◌, ◌∙◌, sym, subst}
use mathlib.Core.List.{List}
use Prim.Native.Nat.{ℕ, ◌+◌, ◌<◌}
use native.Mathlib.Omega.{arith}
use native.Mathlib.Numerals.{add-one}
use lib.ListN.{length, get_or, set}
use borrow.Author.Tests.{eq-eqb, ne_eqb}
use Rattle.paper.specs.Links.{vertex_of, names}
use Rattle.walk.specs.Table.{Blank}
use Rattle.checks.specs.columns.Chain.{last_below, EarliersTo, LastsTo}
use Rattle.checks.proofs.columns.Chains.{last_zero, last_hit, last_miss}
use Rattle.partners.proofs.Stores.{put}
use Rattle.partners.specs.Keys.{Chains}

-- the chains below corner c
pub record EndChainsTo (lows earliers heads : List ℕ) (c : ℕ) : Type 0 where
  pub earliers_to : EarliersTo lows (λ c. get_or earliers c 0) c
  pub lasts_to : LastsTo lows (λ u. get_or heads u 0) c

pub chains_none : (lows earliers heads : List ℕ) → Blank heads → EndChainsTo lows earliers heads 0
unfolding EarliersTo LastsTo
chains_none lows earliers heads z = record { earliers_to = λ c h. absurd (omega arith); lasts_to = λ u. z u ∙ sym (last_zero (names lows u)) }

module _ {lows earliers heads : List ℕ} {c : ℕ} where
  pub chains_all : c ≡ length lows → EndChainsTo lows earliers heads c → Chains lows earliers heads
  chains_all e k =
      record {
        earliers_are = subst (EarliersTo lows (λ c. get_or earliers c 0)) e k.earliers_to;
        lasts_are = subst (LastsTo lows (λ u. get_or heads u 0)) e k.lasts_to;
      }

  -- one corner more: its earlier one is the last with its lower end, and then it is the last
  pub chains_step : EndChainsTo lows earliers heads c → c < length earliers → vertex_of lows c < length heads
      → EndChainsTo lows (set earliers c (get_or heads (vertex_of lows c) 0)) (set heads (vertex_of lows c) (c + 1)) (c + 1)
  unfolding EarliersTo LastsTo names
  chains_step k he hh =
      let v = vertex_of lows c in
      record {
        earliers_to = λ d b.
            put (λ x. x ≡ last_below d (names lows (vertex_of lows d))) earliers c d (get_or heads v 0) he
            (λ q. rw q (k.lasts_to v))
            (λ q. k.earliers_to d (omega (arith, q)));
        lasts_to = λ u.
            put (λ x. x ≡ last_below (c + 1) (names lows u)) heads v u (c + 1) hh
            (λ q. rw add-one (sym (last_hit (names lows u) c (eq-eqb v u (sym q)))))
            (λ q. k.lasts_to u ∙ rw add-one (sym (last_miss (names lows u) c (ne_eqb v u (λ z. q (sym z))))));
      }
