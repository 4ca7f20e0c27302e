use Rattle.std.proofs.Common.{refl}
use Rattle.classes.specs.MethodNames.{reference}
use Rattle.classes.proofs.MethodLaws.{in_class_order, in_interface_order, missing_method}
use Rattle.classes.proofs.methods.method_in_order.Goals as goal

pub returns-then-not-may_declare_method : goal.returns-then-not-may_declare_method
returns-then-not-may_declare_method c =
    missing_method c.args.program.now (reference c.args.r) (c.may_declare_method.ensures c.if-not-may_declare_method.true)

pub returns-then-r : goal.returns-then-r
returns-then-r c =
    in_interface_order c.args.program.now (reference c.args.r) _ _ _ _ _ refl refl refl c.if-r.true c.first_for_interface.ensures c.method_number_at.ensures

pub returns-else-r : goal.returns-else-r
returns-else-r c =
    in_class_order c.args.program.now (reference c.args.r) _ _ _ _ _ _ refl refl refl c.members_class.ensures c.if-r.false c.first_for_class.ensures c.method_number_at-else-r.ensures
