-- The exception that is pending after a failed initialisation, by the class of the pending object.
use Rattle.std.proofs.Common.{◌≡◌, ℕ, Bool, true, false, cond, List, sym, ap, ◌∙◌}
use Rattle.jvms_program.specs.declared.program.Class.{Class}
use Rattle.jvms_program.specs.declared.thrown.Thrown.TheVariants as thrown
use Rattle.jvms_machine.specs.declared.machine.Limits.{Limits}
use Rattle.jvms_machine.specs.declared.action.Exception.{Exception}
use Rattle.jvms_machine.specs.declared.action.Exception.TheVariants as exception
use Rattle.jvms_machine.specs.State.{State, Object, class_of}
use Rattle.jvms_machine.specs.Exceptions.{exception_of}
use Rattle.jvms_machine.specs.Unwinding.{failed_with}
use Rattle.unwinding.specs.Replacing.{is_replaced}

module _ (program : List Class) (limits : Limits) (s : State) (called : Bool) (r : ℕ) (o : Object) (class : List ℕ) (same : class ≡ class_of o) where
  told : (b : Bool) → is_replaced program called class ≡ b → cond b (exception_of limits s thrown.ExceptionInInitializerError) (exception.Existing r) ≡ failed_with program limits s called r o
  told b is = ap (λ x. cond x (exception_of limits s thrown.ExceptionInInitializerError) (exception.Existing r)) (sym is ∙ ap (is_replaced program called) same)

  pub failed_anew : (e : Exception) → is_replaced program called class ≡ true → e ≡ exception_of limits s thrown.ExceptionInInitializerError → e ≡ failed_with program limits s called r o
  failed_anew e replaced is = is ∙ told true replaced

  pub failed_still : is_replaced program called class ≡ false → exception.Existing r ≡ failed_with program limits s called r o
  failed_still replaced = told false replaced
