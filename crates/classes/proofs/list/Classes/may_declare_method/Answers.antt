use Rattle.std.proofs.Common.{List, sym, ◌∙◌, subst}
use Rattle.jvms_program.specs.declared.program.Class.{Class}
use Rattle.classes.specs.Declarations.{HasNoMethod}
use Rattle.classes.proofs.DeclarationLaws.{is_none, no_method}
use Rattle.classes.proofs.list.Classes.may_declare_method.Goals as goal

pub returns : goal.returns
returns c = λ is.
    subst (λ (p : List Class). HasNoMethod p c.args.name.now c.args.descriptor.now) c.self.view_is
    (no_method c.self.inside.list c.self.inside.declared.methods c.args.name.now c.args.descriptor.now c.self.invariant.2
    (sym c.number_of.ensures ∙ is_none c.number_of.result c.is_some.result c.is_some.ensures is))
