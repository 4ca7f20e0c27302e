-- The action of an instruction that touches its frame alone has room in it. It leaves the frame with the local
-- variables of its code, at most its operands, and values of the heap in them.
use Rattle.std.proofs.Common.{◌≡◌, ℕ, ◌+◌, ◌-◌, ◌<◌, ◌≤◌, cond, Bool, true, ◌&&◌, nat_le, nat_lt, leb-true, ltb-true, List, [], ◌∷◌, length, drop, not, Option, Some, None, IfSome, ℤ, pos, subst, sym, ◌∙◌, arith, length-drop}
use Rattle.std.specs.List.{AllByRecursion}
use Rattle.std.proofs.lemmas.Bool.{cond_both, and_parts}
use Rattle.jvms_machine.specs.declared.value.Value.{Value}
use Rattle.jvms_machine.specs.declared.value.Value.TheVariants as value
use Rattle.jvms_machine.specs.declared.action.FrameAction.{FrameAction}
use Rattle.jvms_machine.specs.declared.action.FrameAction.TheVariants as action
use Rattle.jvms_machine.specs.declared.action.FrameDecision.{FrameDecision}
use Rattle.jvms_machine.specs.declared.action.FrameDecision.TheVariants as decision
use Rattle.jvms_file.specs.declared.insn.Kind.{Kind}
use Rattle.jvms_file.specs.declared.insn.Push.{Push}
use Rattle.jvms_file.specs.declared.insn.Push.TheVariants as push
use Rattle.jvms_file.specs.declared.insn.LocalUse.{LocalUse}
use Rattle.jvms_file.specs.declared.insn.LocalUse.TheVariants as local_use
use Rattle.jvms_file.specs.declared.insn.StackForm.{StackForm}
use Rattle.jvms_file.specs.declared.insn.StackForm.TheVariants as form
use Rattle.jvms_file.specs.declared.insn.IntInsn.{IntInsn}
use Rattle.jvms_file.specs.declared.insn.IntInsn.TheVariants as int_insn
use Rattle.jvms_file.specs.declared.insn.LongInsn.{LongInsn}
use Rattle.jvms_file.specs.declared.insn.LongInsn.TheVariants as long_insn
use Rattle.jvms_file.specs.declared.insn.Branch.{Branch}
use Rattle.jvms_file.specs.declared.insn.Branch.TheVariants as branch
use Rattle.jvms_file.specs.declared.insn.Simple.{Simple}
use Rattle.jvms_file.specs.declared.insn.Simple.TheVariants as simple
use Rattle.jvms_program.specs.declared.program.Loadable.{Loadable}
use Rattle.jvms_program.specs.declared.program.Loadable.TheVariants as loadable
use Rattle.jvms_program.specs.declared.program.Body.{Body}
use Rattle.jvms_program.specs.declared.program.Instruction.{Instruction}
use Rattle.jvms_program.specs.declared.program.Instruction.TheVariants as instruction
use Rattle.jvms_machine.specs.State.{Activation, Object, IsValue}
use Rattle.jvms_machine.specs.Activations.{rearranged_operands, form_takes, form_gives, activation_after, HasRoom, pushes, jumps, with_local, with_depth, on_int, on_two_ints, on_given_reference, on_reference, on_two_references}
use Rattle.jvms_machine.specs.Constants.{pushes_value, push_decision, constant_decision}
use Rattle.jvms_machine.specs.Locals.{local_at, local_value, last_local, storable_value, is_profile_kind, load_value, load_decision, store_value, store_decision, return_to, local_decision, increment_value, increment_decision}
use Rattle.jvms_machine.specs.Stack.{are_set, parts_a_long, stack_decision}
use Rattle.jvms_machine.specs.Arithmetic.{quotient_decision, int_decision}
use Rattle.jvms_machine.specs.LongArithmetic.{on_long, on_two_longs, on_shift, long_divided, long_decision}
use Rattle.jvms_machine.specs.Places.{kind_size, put_on, value_size}
use Rattle.jvms_machine.specs.Branches.{branch_decision}
use Rattle.jvms_machine.specs.Switches.{table_target, case_target}
use Rattle.jvms_machine.specs.Profile.{is_outside_element, is_outside_method, is_outside_class, is_outside_array, is_outside_use}
use Rattle.jvms_machine.specs.Steps.{beyond_unless, simple_decision, frame_decision}
use Rattle.jvms_machine.proofs.ListLaws.{all_read, all_drop}
use Rattle.jvms_machine.proofs.PlaceLaws.{kind_is_some, local_is_whole, put_length, put_values, storable_is_whole, stored_length, stored_values}

-- A frame is fit: it has the local variables of its code and at most its operands, and all of them are values.
pub record IsFit (heap : List Object) (body : Body) (a : Activation) : Type 0 where
  pub locals_fit : length a.locals ≡ body.max_locals
  pub operands_fit : length a.operands ≤ body.max_stack
  pub locals : AllByRecursion (IsValue heap) a.locals
  pub operands : AllByRecursion (IsValue heap) a.operands

-- The value that an action stores in a frame is one of the heap.
abbrev pub HasValue : List Object → FrameAction → Type 0
HasValue heap (action.Push takes v) = IsValue heap v
HasValue heap (action.Store takes n v) = IsValue heap v
HasValue heap _ = Unit {0}

-- A decision keeps a frame fit: its action has room, and its value is one of the heap.
abbrev pub Keeps : List Object → Body → Activation → FrameDecision → Type 0
Keeps heap body a (decision.Does act) = HasRoom body a act × HasValue heap act
Keeps heap body a _ = Unit {0}

module _ (heap : List Object) (body : Body) (a : Activation) (fit : IsFit heap body a) where
  -- ---- An action keeps a frame fit

  few : (takes : ℕ) → takes ≤ length a.operands → length (drop takes a.operands) ≡ length a.operands - takes
  few takes there = length-drop takes a.operands

  left : (takes : ℕ) → AllByRecursion (IsValue heap) (drop takes a.operands)
  left takes = all_drop (IsValue heap) takes a.operands fit.operands

  with_operands : (place : ℕ) (operands : List Value) → length operands ≤ body.max_stack → AllByRecursion (IsValue heap) operands → IsFit heap body (record { place = place; locals = a.locals; operands = operands })
  with_operands place operands short values = record { locals_fit = fit.locals_fit; operands_fit = short; locals = fit.locals; operands = values }

  rearranged_is_fit : (f : StackForm) (operands : List Value) → form_takes f ≤ length operands → length operands - form_takes f + form_gives f ≤ body.max_stack → AllByRecursion (IsValue heap) operands → (length (rearranged_operands f operands) ≤ body.max_stack) × AllByRecursion (IsValue heap) (rearranged_operands f operands)
  rearranged_is_fit form.Pop (x ∷ below) takes room v = (omega arith, v.1)
  rearranged_is_fit form.Pop2 (x ∷ y ∷ below) takes room v = (omega arith, v.1.1)
  rearranged_is_fit form.Dup (x ∷ below) takes room v = (omega arith, (v.0, v))
  rearranged_is_fit form.DupX1 (x ∷ y ∷ below) takes room v = (omega arith, (v.0, (v.1.0, (v.0, v.1.1))))
  rearranged_is_fit form.DupX2 (x ∷ y ∷ z ∷ below) takes room v = (omega arith, (v.0, (v.1.0, (v.1.1.0, (v.0, v.1.1.1)))))
  rearranged_is_fit form.Dup2 (x ∷ y ∷ below) takes room v = (omega arith, (v.0, (v.1.0, v)))
  rearranged_is_fit form.Dup2X1 (x ∷ y ∷ z ∷ below) takes room v = (omega arith, (v.0, (v.1.0, (v.1.1.0, (v.0, (v.1.0, v.1.1.1))))))
  rearranged_is_fit form.Dup2X2 (x ∷ y ∷ z ∷ w ∷ below) takes room v = (omega arith, (v.0, (v.1.0, (v.1.1.0, (v.1.1.1.0, (v.0, (v.1.0, v.1.1.1.1)))))))
  rearranged_is_fit form.Swap (x ∷ y ∷ below) takes room v = (omega arith, (v.1.0, (v.0, v.1.1)))
  rearranged_is_fit _ _ takes room v = absurd (omega arith)

  pub applied_is_fit : (act : FrameAction) → HasRoom body a act → HasValue heap act → IsFit heap body (activation_after act a)
  applied_is_fit (action.Push takes v) room is =
      let short = few takes room.0 in
      with_operands (a.place + 1) (put_on v (drop takes a.operands)) (subst (λ n. n ≤ body.max_stack) (sym (put_length v (drop takes a.operands))) (omega arith)) (put_values heap v (drop takes a.operands) is (left takes))
  applied_is_fit (action.Store takes n v) room is =
      let short = few takes room.0 in
      let operands_fit = fit.operands_fit in
      record { locals_fit = stored_length a.locals n v ∙ fit.locals_fit; operands_fit = omega arith; locals = stored_values heap a.locals n v is fit.locals; operands = left takes }
  applied_is_fit (action.Jump takes target) room is =
      let short = few takes room in
      let operands_fit = fit.operands_fit in
      with_operands target (drop takes a.operands) (omega arith) (left takes)
  applied_is_fit (action.Rearrange f) room is =
      let both = rearranged_is_fit f a.operands room.0 room.1 fit.operands in with_operands (a.place + 1) (rearranged_operands f a.operands) both.0 both.1
  applied_is_fit (action.Subroutine target) room is =
      with_operands target (value.ReturnAddress (a.place + 1) ∷ a.operands) (omega arith) (tt, fit.operands)

  -- ---- A decision keeps a frame fit

  abbrev KeepsFit : FrameDecision → Type 0
  KeepsFit d = Keeps heap body a d

  keeps_if : (test : Bool) (d other : FrameDecision) → (test ≡ true → KeepsFit d) → KeepsFit other → KeepsFit (cond test d other)
  keeps_if test d other here there = cond_both test d other KeepsFit here (λ _. there)

  with_local_keeps : (n : ℕ) (d : FrameDecision) → (n < body.max_locals → KeepsFit d) → KeepsFit (with_local body n d)
  with_local_keeps n d keeps = keeps_if (nat_lt n body.max_locals) d _ (λ is. keeps (ltb-true n body.max_locals is)) tt

  with_depth_keeps : (takes gives : ℕ) (d : FrameDecision) → (takes ≤ length a.operands → length a.operands - takes + gives ≤ body.max_stack → KeepsFit d) → KeepsFit (with_depth body takes gives a d)
  with_depth_keeps takes gives d keeps =
      keeps_if (nat_le takes (length a.operands) && nat_le (length a.operands - takes + gives) body.max_stack) d _
      (λ both.
      let tests = and_parts (nat_le takes (length a.operands)) (nat_le (length a.operands - takes + gives) body.max_stack) both in
      keeps (leb-true takes (length a.operands) tests.0) (leb-true (length a.operands - takes + gives) body.max_stack tests.1))
      tt

  on_int_keeps : (operands : List Value) (f : ℤ → FrameDecision) → ((n : ℤ) → KeepsFit (f n)) → KeepsFit (on_int operands f)
  on_int_keeps (value.Int n ∷ below) f keeps = keeps n
  on_int_keeps _ f keeps = tt

  on_two_ints_keeps : (operands : List Value) (f : ℤ → ℤ → FrameDecision) → ((m n : ℤ) → KeepsFit (f m n)) → KeepsFit (on_two_ints operands f)
  on_two_ints_keeps (value.Int n ∷ value.Int m ∷ below) f keeps = keeps m n
  on_two_ints_keeps _ f keeps = tt

  on_given_keeps : (given : Option (Option ℕ)) (f : Option ℕ → FrameDecision) → ((r : Option ℕ) → KeepsFit (f r)) → KeepsFit (on_given_reference given f)
  on_given_keeps (Some r) f keeps = keeps r
  on_given_keeps None f keeps = tt

  on_reference_keeps : (operands : List Value) (f : Option ℕ → FrameDecision) → ((r : Option ℕ) → KeepsFit (f r)) → KeepsFit (on_reference operands f)
  on_reference_keeps [] f keeps = tt
  on_reference_keeps (v ∷ below) f keeps = on_given_keeps _ f keeps

  on_two_references_keeps : (operands : List Value) (f : Option ℕ → Option ℕ → FrameDecision) → ((r q : Option ℕ) → KeepsFit (f r q)) → KeepsFit (on_two_references operands f)
  on_two_references_keeps operands f keeps =
      on_reference_keeps operands (λ q. on_reference (drop 1 operands) (λ r. f r q)) (λ q. on_reference_keeps (drop 1 operands) (λ r. f r q) (λ r. keeps r q))

  -- ---- Constants and local variables

  pushed_keeps : (v : Value) → IsValue heap v → KeepsFit (pushes_value body a v)
  pushed_keeps v is = with_depth_keeps 0 (value_size v) (pushes 0 v) (λ there room. ((there, room), is))

  push_keeps : (p : Push) → KeepsFit (push_decision body p a)
  push_keeps push.Null = pushed_keeps value.Null tt
  push_keeps (push.Int n) = pushed_keeps (value.Int n) tt
  push_keeps (push.Long n) = pushed_keeps (value.Long (pos n)) tt
  push_keeps (push.Float n) = tt
  push_keeps (push.Double n) = tt

  local_is_value : (n : ℕ) → IsValue heap (local_at a n)
  local_is_value n = all_read (IsValue heap) a.locals n value.Unset tt fit.locals

  -- A loaded value is one of the heap, and has the size of its kind.
  load_value_keeps : (k : Kind) (o : Option Value) → IfSome o (λ v. IsValue heap v × (value_size v ≡ kind_size k)) → length a.operands - 0 + kind_size k ≤ body.max_stack → KeepsFit (load_value o)
  load_value_keeps k None is room = tt
  load_value_keeps k (Some v) is room = ((omega arith, subst (λ n. length a.operands - 0 + n ≤ body.max_stack) (sym is.1) room), is.0)

  load_keeps : (k : Kind) (n : ℕ) → KeepsFit (load_decision body k n a)
  load_keeps k n =
      keeps_if (is_profile_kind k) _ _
      (λ _. with_local_keeps (last_local k n) _ (λ _. with_depth_keeps 0 (kind_size k) (load_value (local_value k a n))
      (λ there room. load_value_keeps k (local_value k a n) (local_is_whole heap k (local_at a n) (local_at a (n + 1)) (local_is_value n)) room)))
      tt

  store_value_keeps : (k : Kind) (n : ℕ) (o : Option Value) → last_local k n < body.max_locals → kind_size k ≤ length a.operands → IfSome o (λ v. IsValue heap v × (value_size v ≡ kind_size k)) → KeepsFit (store_value k n o)
  store_value_keeps k n None is there whole = tt
  store_value_keeps k n (Some v) is there whole =
      let some = kind_is_some k in ((there, subst (λ m. n + m ≤ body.max_locals) (sym whole.1) (omega arith)), whole.0)

  store_keeps : (k : Kind) (n : ℕ) → KeepsFit (store_decision body k n a)
  store_keeps k n =
      keeps_if (is_profile_kind k) _ _
      (λ _. with_local_keeps (last_local k n) _ (λ is. with_depth_keeps (kind_size k) 0 (store_value k n (storable_value k a.operands))
      (λ there _. store_value_keeps k n (storable_value k a.operands) is there (storable_is_whole heap k a.operands fit.operands))))
      tt

  return_to_keeps : (v : Value) → KeepsFit (return_to v)
  return_to_keeps (value.ReturnAddress i) = (omega arith, tt)
  return_to_keeps _ = tt

  local_keeps : (how : LocalUse) (n : ℕ) → KeepsFit (local_decision body how n a)
  local_keeps (local_use.Load k) n = load_keeps k n
  local_keeps (local_use.Store k) n = store_keeps k n
  local_keeps local_use.Return n = with_local_keeps n _ (λ _. return_to_keeps (local_at a n))

  increment_value_keeps : (n : ℕ) (by : ℤ) (v : Value) → n < body.max_locals → KeepsFit (increment_value n by v)
  increment_value_keeps n by (value.Int m) is = ((omega arith, omega arith), tt)
  increment_value_keeps n by _ is = tt

  increment_keeps : (n : ℕ) (by : ℤ) → KeepsFit (increment_decision body n by a)
  increment_keeps n by = with_local_keeps n _ (λ is. increment_value_keeps n by (local_at a n) is)

  -- ---- The stack and arithmetic

  stack_keeps : (f : StackForm) → KeepsFit (stack_decision body f a)
  stack_keeps f =
      with_depth_keeps (form_takes f) (form_gives f) _
      (λ there room. keeps_if (are_set (form_takes f) a.operands && not (parts_a_long f a.operands)) (decision.Does (action.Rearrange f)) _ (λ _. ((there, room), tt)) tt)

  divided_keeps : (n : Option ℤ) → 2 ≤ length a.operands → length a.operands - 2 + 1 ≤ body.max_stack → KeepsFit (quotient_decision n)
  divided_keeps None there room = tt
  divided_keeps (Some n) there room = ((there, room), tt)

  int_keeps : (i : IntInsn) → KeepsFit (int_decision body i a)
  int_keeps (int_insn.Binary op) =
      with_depth_keeps 2 1 _ (λ there room. on_two_ints_keeps a.operands _ (λ x y. ((there, room), tt)))
  int_keeps (int_insn.Division op) =
      with_depth_keeps 2 1 _ (λ there room. on_two_ints_keeps a.operands _ (λ x y. divided_keeps _ there room))
  int_keeps int_insn.Negate = with_depth_keeps 1 1 _ (λ there room. on_int_keeps a.operands _ (λ n. ((there, room), tt)))
  int_keeps (int_insn.Conversion to) = with_depth_keeps 1 1 _ (λ there room. on_int_keeps a.operands _ (λ n. ((there, room), tt)))

  -- ---- Arithmetic on longs

  on_long_keeps : (operands : List Value) (f : ℤ → FrameDecision) → ((n : ℤ) → KeepsFit (f n)) → KeepsFit (on_long operands f)
  on_long_keeps (value.Second ∷ value.Long n ∷ below) f keeps = keeps n
  on_long_keeps _ f keeps = tt

  on_two_longs_keeps : (operands : List Value) (f : ℤ → ℤ → FrameDecision) → ((m n : ℤ) → KeepsFit (f m n)) → KeepsFit (on_two_longs operands f)
  on_two_longs_keeps (value.Second ∷ value.Long n ∷ value.Second ∷ value.Long m ∷ below) f keeps = keeps m n
  on_two_longs_keeps _ f keeps = tt

  on_shift_keeps : (operands : List Value) (f : ℤ → ℤ → FrameDecision) → ((m n : ℤ) → KeepsFit (f m n)) → KeepsFit (on_shift operands f)
  on_shift_keeps (value.Int n ∷ value.Second ∷ value.Long m ∷ below) f keeps = keeps m n
  on_shift_keeps _ f keeps = tt

  long_divided_keeps : (n : Option ℤ) → 4 ≤ length a.operands → length a.operands - 4 + 2 ≤ body.max_stack → KeepsFit (long_divided n)
  long_divided_keeps None there room = tt
  long_divided_keeps (Some n) there room = ((there, room), tt)

  long_keeps : (i : LongInsn) → KeepsFit (long_decision body i a)
  long_keeps (long_insn.Binary op) =
      with_depth_keeps 4 2 _ (λ there room. on_two_longs_keeps a.operands _ (λ x y. ((there, room), tt)))
  long_keeps (long_insn.Division op) =
      with_depth_keeps 4 2 _ (λ there room. on_two_longs_keeps a.operands _ (λ x y. long_divided_keeps _ there room))
  long_keeps (long_insn.Shift op) = with_depth_keeps 3 2 _ (λ there room. on_shift_keeps a.operands _ (λ n d. ((there, room), tt)))
  long_keeps long_insn.Negate = with_depth_keeps 2 2 _ (λ there room. on_long_keeps a.operands _ (λ n. ((there, room), tt)))
  long_keeps long_insn.FromInt = with_depth_keeps 1 2 _ (λ there room. on_int_keeps a.operands _ (λ n. ((there, room), tt)))
  long_keeps long_insn.ToInt = with_depth_keeps 2 1 _ (λ there room. on_long_keeps a.operands _ (λ n. ((there, room), tt)))
  long_keeps long_insn.Compare = with_depth_keeps 4 1 _ (λ there room. on_two_longs_keeps a.operands _ (λ x y. ((there, room), tt)))

  -- ---- Branches and switches

  branch_keeps : (how : Branch) (target : ℕ) → KeepsFit (branch_decision body how target a)
  branch_keeps (branch.IfZero c) target = with_depth_keeps 1 0 _ (λ there room. on_int_keeps a.operands _ (λ n. (there, tt)))
  branch_keeps (branch.IfInts c) target = with_depth_keeps 2 0 _ (λ there room. on_two_ints_keeps a.operands _ (λ m n. (there, tt)))
  branch_keeps branch.IfSame target = with_depth_keeps 2 0 _ (λ there room. on_two_references_keeps a.operands _ (λ r q. (there, tt)))
  branch_keeps branch.IfDifferent target = with_depth_keeps 2 0 _ (λ there room. on_two_references_keeps a.operands _ (λ r q. (there, tt)))
  branch_keeps branch.IfNull target = with_depth_keeps 1 0 _ (λ there room. on_reference_keeps a.operands _ (λ r. (there, tt)))
  branch_keeps branch.IfNonNull target = with_depth_keeps 1 0 _ (λ there room. on_reference_keeps a.operands _ (λ r. (there, tt)))
  branch_keeps branch.Goto target = (omega arith, tt)
  branch_keeps branch.Subroutine target = with_depth_keeps 0 1 (decision.Does (action.Subroutine target)) (λ _ room. (omega arith, tt))

  switch_keeps : (target : ℤ → ℕ) → KeepsFit (with_depth body 1 0 a (on_int a.operands (λ n. jumps 1 (target n))))
  switch_keeps target = with_depth_keeps 1 0 _ (λ there room. on_int_keeps a.operands _ (λ n. (there, tt)))

  -- ---- Each instruction

  beyond_keeps : (outside : Bool) → KeepsFit (beyond_unless outside)
  beyond_keeps outside = keeps_if outside _ _ (λ _. tt) tt

  simple_keeps : (s : Simple) → KeepsFit (simple_decision body s a)
  simple_keeps simple.Nop = (omega arith, tt)
  simple_keeps (simple.Push p) = push_keeps p
  simple_keeps (simple.Local how n) = local_keeps how n
  simple_keeps (simple.Increment n by) = increment_keeps n by
  simple_keeps (simple.Stack f) = stack_keeps f
  simple_keeps (simple.Int i) = int_keeps i
  simple_keeps (simple.Long i) = long_keeps i
  simple_keeps (simple.Floating i) = tt
  simple_keeps (simple.Array i) = beyond_keeps (is_outside_array i)
  simple_keeps (simple.Return i) = tt
  simple_keeps (simple.Object i) = tt

  constant_keeps : (c : Loadable) → KeepsFit (constant_decision body c a)
  constant_keeps (loadable.Integer n) = pushed_keeps (value.Int n) tt
  constant_keeps (loadable.Float n) = tt
  constant_keeps (loadable.Long n) = pushed_keeps (value.Long n) tt
  constant_keeps (loadable.Double n) = tt
  constant_keeps (loadable.String units) = tt
  constant_keeps (loadable.Class name) = tt

  pub frame_decision_keeps : (i : Instruction) → KeepsFit (frame_decision body i a)
  unfolding frame_decision
  frame_decision_keeps (instruction.Simple s) = simple_keeps s
  frame_decision_keeps (instruction.Branch how target) = branch_keeps how target
  frame_decision_keeps (instruction.Table s) = switch_keeps (table_target s)
  frame_decision_keeps (instruction.Lookup s) = switch_keeps (case_target s.cases s.default)
  frame_decision_keeps (instruction.Constant c) = constant_keeps c
  frame_decision_keeps (instruction.Field how r) = beyond_keeps (is_outside_element r.field_type.element)
  frame_decision_keeps (instruction.Invoke how r) = beyond_keeps (is_outside_method r.method_type)
  frame_decision_keeps (instruction.Class how name) = beyond_keeps (is_outside_use how name)
  frame_decision_keeps (instruction.MultiNewArray count name) = beyond_keeps (is_outside_class name)
