use Rattle.listing_laws.proofs.Listed.{listed_is_read}
use Rattle.listing_laws.proofs.what_is_listed_is_read.Goals as goal

pub returns : goal.returns
returns c = listed_is_read
