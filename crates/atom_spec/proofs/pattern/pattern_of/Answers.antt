-- The number of dots decides the kind.
use Rattle.std.proofs.Common.{sym, ◌∙◌, arith}
use Rattle.std.proofs.lemmas.Result.{IfOk-weaker}
use Rattle.escapes.specs.Readings.{IsReadAs}
use Rattle.atom_spec.specs.Lines.{IsPattern, pattern_text}
use Rattle.atom_spec.specs.Parts.{IsPatternWith}
use Rattle.atom_spec.proofs.Patterns.{of_so_many, of_no_sort}
use Rattle.atom_spec.proofs.pattern.pattern_of.Goals as goal

pub returns-in-1 : goal.returns-in-1
returns-in-1 c =
    IfOk-weaker c.class_or_name_of.result (IsReadAs (IsPatternWith 1) pattern_text c.args.text.now) (IsReadAs IsPattern pattern_text c.args.text.now)
    (λ o read. of_so_many 1 c.args.text.now o (sym c.dots_in.ensures ∙ c.in-1.is) read) c.class_or_name_of.ensures

pub returns-in-2 : goal.returns-in-2
returns-in-2 c =
    IfOk-weaker c.exactly_of.result (IsReadAs (IsPatternWith 2) pattern_text c.args.text.now) (IsReadAs IsPattern pattern_text c.args.text.now)
    (λ o read. of_so_many 2 c.args.text.now o (sym c.dots_in.ensures ∙ c.in-2.is) read) c.exactly_of.ensures

pub returns-in_default : goal.returns-in_default
returns-in_default c =
    let same = c.dots_in.ensures in
    of_no_sort c.args.text.now (λ e. omega arith) (λ e. omega arith) (λ e. omega arith)
