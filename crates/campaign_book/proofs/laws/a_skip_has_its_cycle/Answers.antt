use Rattle.campaign_book.proofs.Found as found
use Rattle.campaign_book.proofs.laws.a_skip_has_its_cycle.Goals as goal

pub returns : goal.returns
returns c = found.book_skips
