-- The test of an object against a class.
use Rattle.std.specs.Prelude.{Bool}
use Rattle.jvms_machine.specs.Decisions.{TurnDecision}
use Rattle.exec_ref.specs.declared.objects.InstanceTest.{InstanceTest}
use Rattle.exec_ref.specs.declared.objects.InstanceTest.TheVariants as instance_test
use Rattle.machine_parts.specs.Decided.{decision_value}

-- The turn for on_null, the turn for the result of the test, or the decision instead of them.
abbrev pub by_instance_test : TurnDecision → (Bool → TurnDecision) → InstanceTest → TurnDecision
by_instance_test on_null on_result instance_test.Null = on_null
by_instance_test on_null on_result (instance_test.IsInstance is) = on_result is
by_instance_test on_null on_result (instance_test.Stops d) = decision_value d
