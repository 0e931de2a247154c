-- The word, the number and the line feed.
use Rattle.streams.proofs.text.Putting.{put_three}
use borrow.Author.Rules.{rules}
use Rattle.page_text.proofs.put_count.Goals as goal

pub returns : goal.returns
returns c = search (rules, put_three)
