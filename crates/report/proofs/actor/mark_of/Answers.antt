-- How an item changes a thread's methods, by cases on the item.
use Rattle.std.proofs.Common.{◌≡◌, sym, ap, ◌∙◌}
use Rattle.velodrome.specs.Transactions.{is_event}
use Rattle.report.proofs.MarkLaws.{entered, exited, happened, left_alone}
use Rattle.report.proofs.actor.mark_of.Goals as goal

pub returns-then-thread_of-thread : goal.returns-then-thread_of-thread
returns-then-thread_of-thread c =
    λ lines w. left_alone lines w c.args.item.now c.args.thread (λ same. c.if-thread_of-thread.true (c.thread_of.ensures ∙ same))

pub returns-in-Enter : goal.returns-in-Enter
returns-in-Enter c =
    λ lines w. entered lines w c.args.item.now c.in-Enter.thread c.args.thread c.in-Enter.method c.in-Enter.is (sym c.thread_of.ensures ∙ c.if-thread_of-thread.false)

pub returns-in-Exit : goal.returns-in-Exit
returns-in-Exit c =
    λ lines w. exited lines w c.args.item.now c.in-Exit.thread c.args.thread c.in-Exit.method c.in-Exit.is (sym c.thread_of.ensures ∙ c.if-thread_of-thread.false)

pub returns-in-Read : goal.returns-in-Read
returns-in-Read c =
    λ lines w. happened lines w c.args.item.now c.args.thread (ap is_event c.in-Read.is) (sym c.thread_of.ensures ∙ c.if-thread_of-thread.false)

pub returns-in-Write : goal.returns-in-Write
returns-in-Write c =
    λ lines w. happened lines w c.args.item.now c.args.thread (ap is_event c.in-Write.is) (sym c.thread_of.ensures ∙ c.if-thread_of-thread.false)

pub returns-in-Acquire : goal.returns-in-Acquire
returns-in-Acquire c =
    λ lines w. happened lines w c.args.item.now c.args.thread (ap is_event c.in-Acquire.is) (sym c.thread_of.ensures ∙ c.if-thread_of-thread.false)

pub returns-in-Release : goal.returns-in-Release
returns-in-Release c =
    λ lines w. happened lines w c.args.item.now c.args.thread (ap is_event c.in-Release.is) (sym c.thread_of.ensures ∙ c.if-thread_of-thread.false)

pub returns-in-Fork : goal.returns-in-Fork
returns-in-Fork c =
    λ lines w. happened lines w c.args.item.now c.args.thread (ap is_event c.in-Fork.is) (sym c.thread_of.ensures ∙ c.if-thread_of-thread.false)

pub returns-in-Join : goal.returns-in-Join
returns-in-Join c =
    λ lines w. happened lines w c.args.item.now c.args.thread (ap is_event c.in-Join.is) (sym c.thread_of.ensures ∙ c.if-thread_of-thread.false)
