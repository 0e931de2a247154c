-- A space, and after it the number.
use Rattle.streams.proofs.text.Putting.{put_then}
use borrow.Author.Rules.{rules}
use Rattle.page_text.proofs.put_spaced.Goals as goal

pub returns : goal.returns
returns c = search (rules, put_then)
