-- `mahunopi::mahunopi_survey` meets its contract: it answers what `dms::survey` states, and tells the counts where the lent lists have room.
use mathlib.Core.Path.{sym, ◌∙◌}
use Rattle.mahunopi.proofs.Laws.{fits_first, fits_second, numbered, survey_refused, survey_no_room, survey_done}
use lib.ListN.{length}
use Rattle.mahunopi.proofs.mahunopi_survey.Goals as goal

pub returns-then-too_short : goal.returns-then-too_short
returns-then-too_short c = survey_no_room _ _ _ _ _ c.in-Ok.ensures _ _ (sym c.too_short.ensures ∙ c.if-too_short.true) c.tell.ensures

pub tell_counts-requires : goal.tell_counts-requires
tell_counts-requires c =
    let room = sym c.too_short.ensures ∙ c.if-too_short.false in
    let n = numbered _ _ _ c.in-Ok.ensures in (
      fits_first c.in-Ok.counts.cornered (length c.args.cornered.now) (length c.args.sided.now) n.0 room,
      fits_second c.in-Ok.counts.sided (length c.args.cornered.now) (length c.args.sided.now) n.1 room,
    )

pub returns-else-too_short : goal.returns-else-too_short
returns-else-too_short c = survey_done _ _ _ _ _ c.in-Ok.ensures (sym c.too_short.ensures ∙ c.if-too_short.false) _ c.tell_counts.ensures

pub returns-in-Err : goal.returns-in-Err
returns-in-Err c = survey_refused _ _ _ _ _ _ _ c.in-Err.ensures c.tell-in-Err.ensures
