use Rattle.std.proofs.Common.{rules}
use Rattle.needs.specs.Unmatched.{matches_in}
use Rattle.needs.proofs.UnmatchedLaws.{is_named, of_found, of_none}
use Rattle.needs.proofs.unmatched.is_matched_by_name.Goals as goal

pub returns-in-Some : goal.returns-in-Some
returns-in-Some c =
    let p = c.args.pattern.now in
    rw c.matches_in.ensures (of_found c.args.program.now c.requires.each c.args.name.now (matches_in p) (is_named p c.args.name.now c.requires.name) c.in-Some.class.now (search rules))

pub returns-in-None : goal.returns-in-None
returns-in-None c =
    let p = c.args.pattern.now in
    of_none c.args.program.now c.requires.each c.args.name.now (matches_in p) (is_named p c.args.name.now c.requires.name) (search rules)
