use Rattle.ivl_calendar.proofs.Words.{is_name_tested}
use Rattle.ivl_calendar.proofs.requests.is_name.Goals as goal

pub returns-then-ne : goal.returns-then-ne
returns-then-ne c = is_name_tested c.args.word.now c.day_from.result c.is_none.result c.is_none.ensures c.day_from.ensures.is_text c.day_from.ensures.none c.if-ne.ensures
