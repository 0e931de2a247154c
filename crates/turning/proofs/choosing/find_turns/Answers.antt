-- `find_turns` meets its contract: 34 stops it, or the partners are right and 35 decides.
use native.Mathlib.Omega.{arith}
use Rattle.std.proofs.lemmas.Result.{err_from_is_err_and}
use Rattle.walk.proofs.Table.{blank}
use Rattle.turning.proofs.choosing.Laws.{chosen_refused, chosen_spread, spreadable_of}
use Rattle.turning.proofs.choosing.find_turns.Goals as goal

pub find_partners-requires : goal.find_partners-requires
find_partners-requires c =
    record { lists = c.requires.lists; room = (omega (arith, c.requires.lists.0.few_corners), blank 8192) }

pub returns-in_err-find_partners : goal.returns-in_err-find_partners
returns-in_err-find_partners c =
    let p = err_from_is_err_and c.from_residual.result c.from_residual.ensures.1 in
    rw (p.1, p.2) (chosen_refused _ c.args.states.now c.find_partners.ensures c.in_err-find_partners.was)

pub invariant_of-tables : goal.invariant_of-tables
invariant_of-tables c =
    let lists = c.requires.lists.0 in
    record {
      spreadable = spreadable_of c.find_partners.ensures c.in_ok-find_partners.was lists c.fill_starts.ensures
          (omega (arith, c.find_partners.auto.partners, lists.few_corners)) (omega (arith, c.fill_starts.auto.faces, lists.few_corners))
          (omega (arith, c.fill_starts.auto.starts, lists.few_faces));
    }

pub spread-requires : goal.spread-requires
spread-requires c = record { room = (c.requires.room.0, omega (arith, c.requires.lists.0.few_faces), c.requires.room.1) }

pub returns : goal.returns
returns c =
    chosen_spread c.find_partners.ensures c.in_ok-find_partners.was c.spread.ensures
