use Rattle.std.proofs.Common.{rules}
use Rattle.needs.proofs.UnmatchedLaws.{of_all, of_class, of_other_class, named_of_other, of_exactly, exactly_of_other}
use Rattle.needs.proofs.unmatched.is_of_one.Goals as goal

pub returns-in-All : goal.returns-in-All
returns-in-All c = of_all c.args.pattern.now c.args.class.now _ c.in-All.is c.len.ensures

pub returns-then-same_text : goal.returns-then-same_text
returns-then-same_text c = of_class c.args.pattern.now c.args.class.now c.in-Class.named _ c.in-Class.is (search rules) c.len-then-same_text.ensures

pub returns-else-same_text : goal.returns-else-same_text
returns-else-same_text c = rw c.if-same_text.false (of_other_class c.args.pattern.now c.args.class.now c.in-Class.named c.in-Class.is (search rules))

pub returns-else-same_text-2 : goal.returns-else-same_text-2
returns-else-same_text-2 c = rw c.if-same_text-2.false (named_of_other c.args.pattern.now c.args.class.now c.in-Named.named c.in-Named.method c.in-Named.is (search rules))

pub returns-then-same_text-3 : goal.returns-then-same_text-3
returns-then-same_text-3 c =
    of_exactly c.args.pattern.now c.args.class.now c.in-Exactly.named c.in-Exactly.method c.in-Exactly.descriptor _ c.in-Exactly.is (search rules) (search rules)

pub returns-else-same_text-3 : goal.returns-else-same_text-3
returns-else-same_text-3 c =
    rw c.if-same_text-3.false (exactly_of_other c.args.pattern.now c.args.class.now c.in-Exactly.named c.in-Exactly.method c.in-Exactly.descriptor c.in-Exactly.is (search rules))
