-- The number of dots decides the kind.
use Rattle.std.proofs.Common.{sym, ◌∙◌, arith}
use Rattle.std.proofs.lemmas.Result.{IfOk-weaker}
use Rattle.escapes.specs.Readings.{IsReadAs}
use Rattle.trace_text.specs.Items.{IsVariable, variable_text}
use Rattle.trace_text.specs.Parts.{IsVariableWith}
use Rattle.trace_text.proofs.Variables.{of_so_many, of_no_sort}
use Rattle.trace_text.proofs.variable.variable_of.Goals as goal

pub returns-in-2 : goal.returns-in-2
returns-in-2 c =
    IfOk-weaker c.static_of.result (IsReadAs (IsVariableWith 2) variable_text c.args.text.now) (IsReadAs IsVariable variable_text c.args.text.now)
    (λ o read. of_so_many 2 c.args.text.now o (sym c.dots_in.ensures ∙ c.in-2.is) read) c.static_of.ensures

pub returns-in-3 : goal.returns-in-3
returns-in-3 c =
    IfOk-weaker c.instance_of.result (IsReadAs (IsVariableWith 3) variable_text c.args.text.now) (IsReadAs IsVariable variable_text c.args.text.now)
    (λ o read. of_so_many 3 c.args.text.now o (sym c.dots_in.ensures ∙ c.in-3.is) read) c.instance_of.ensures

pub returns-in_default-dots_in : goal.returns-in_default-dots_in
returns-in_default-dots_in c =
    let same = c.dots_in.ensures in
    of_no_sort c.args.text.now (λ e. omega arith) (λ e. omega arith) (λ e. omega arith)
