use Rattle.campaign_book.proofs.Found as found
use Rattle.campaign_book.proofs.laws.numbers_differ.Goals as goal

pub returns : goal.returns
returns c = found.numbers_differ
