use Rattle.std.proofs.Common.{rules}
use Rattle.debugger_commands.proofs.Reading.{no_break, four_words, is_break}
use Rattle.debugger_commands.proofs.line.with_two_words.Goals.{else-is-via-then-is+else-is_none, else-is-via-else-is}
use Rattle.debugger_commands.proofs.line.with_two_words.Goals as goal

pub returns-then-is_none : goal.returns-then-is_none
returns-then-is_none c =
    is_break c.args.name.now c.args.word.now c.args.rest.now c.break_at.result c.split_once.result (search rules) c.split_once.ensures.cases (search rules) c.break_at.ensures

pub returns-else-is : goal.returns-else-is
returns-else-is c = elim c.else-is.branch [
  | else-is-via-then-is+else-is_none w ↦ four_words c.args.name.now c.args.word.now c.args.rest.now w.split_once.result w.split_once.ensures.cases (search rules)
  | else-is-via-else-is w ↦ no_break c.args.name.now c.args.word.now c.args.rest.now (search rules)
]
