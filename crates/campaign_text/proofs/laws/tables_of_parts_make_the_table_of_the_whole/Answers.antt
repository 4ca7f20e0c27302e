use Rattle.campaign_text.proofs.Wholes.{is_whole}
use Rattle.campaign_text.proofs.laws.tables_of_parts_make_the_table_of_the_whole.Goals as goal

pub returns : goal.returns
returns c program plan begin some more results others runs one two = is_whole program plan begin some more results others runs one two
