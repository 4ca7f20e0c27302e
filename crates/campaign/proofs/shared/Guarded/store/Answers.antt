-- The answer is that of the book under the lock.
use Rattle.campaign_book.specs.Entries.{row_of}
use Rattle.campaign.proofs.Answered.{is_answer}
use Rattle.campaign.proofs.shared.Guarded.store.Goals as goal

pub returns-then-is_ok-clause-answer : goal.returns-then-is_ok-clause-answer
returns-then-is_ok-clause-answer g c =
    let s = c.store-answer.ensures in
    is_answer _ _ _ _ (row_of c.args.entry) _ c.args.self.now.program c.args.self.now.plan s.program s.plan s.was s.is s.rows

pub returns-else-is_ok-clause-answer : goal.returns-else-is_ok-clause-answer
returns-else-is_ok-clause-answer g c =
    let s = c.store-answer.ensures in
    is_answer _ _ _ _ (row_of c.args.entry) _ c.args.self.now.program c.args.self.now.plan s.program s.plan s.was s.is s.rows
