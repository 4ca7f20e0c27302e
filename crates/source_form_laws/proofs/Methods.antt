-- Proves that a method that is still open keeps its form with each statement in it.
use Rattle.std.proofs.Common.{◌≡◌, ℕ, ◌-◌, ◌^◌, Bool, false, List, [], ◌∷◌, ◌++◌, length, Option, Some, None, IsTrue, ℤ, pos, int_le, ◌+ℤ◌, unwrap_or, refl, sym, subst, arith}
use Rattle.std.specs.List.{AllByRecursion, list_any}
use Rattle.std.proofs.lemmas.Int.{ints}
use Rattle.std.proofs.lemmas.Bool.{and_parts}
use Rattle.std.proofs.lemmas.List.{length-append}
use Rattle.jvms_file.specs.Instructions.{is_above}
use Rattle.jvms_file.specs.Spelling.{IsU2}
use Rattle.jasmin.specs.declared.source.MatchLine.{MatchLine}
use Rattle.jasmin.specs.declared.source.TableLines.{TableLines}
use Rattle.jasmin.specs.declared.source.LookupLines.{LookupLines}
use Rattle.jasmin.specs.declared.source.CodeItem.{CodeItem}
use Rattle.jasmin.specs.declared.source.CodeItem.TheVariants as item
use Rattle.jasmin.specs.declared.source.Operation.TheVariants as operation
use Rattle.jasmin.specs.declared.source.CatchLine.{CatchLine}
use Rattle.jasmin.specs.declared.source.MethodLines.{MethodLines}
use Rattle.jasmin.specs.declared.statement.Instruction.{Instruction}
use Rattle.jasmin.specs.declared.statement.Instruction.TheVariants as instruction
use Rattle.jasmin.specs.declared.reading.SwitchLines.{SwitchLines}
use Rattle.jasmin.specs.declared.reading.SwitchLines.TheVariants as switch_lines
use Rattle.jasmin.specs.declared.reading.OpenMethod.{OpenMethod}
use Rattle.jasmin.specs.Reading.{last_value, switch_of_lines, has_labels, is_method_like, with_throws, with_catch, with_item, with_instruction, with_table_label, with_match, closed_switch, new_method, method_lines_of}
use Rattle.source_form_laws.specs.Formed.{IsSigned, IsClassOrArray, IsFormedCaught, IsFormedItem, IsFormedLookup, IsFormedOperation, IsFormedMethodLines}
use Rattle.source_form_laws.proofs.Lists.{one_more}
use Rattle.source_form_laws.proofs.Operations.{IsFormedInstruction}
use Rattle.source_form_laws.proofs.Statements.{IsFormedHead, IsNext, IsRising}

-- An optional value satisfies a predicate if it is present.
abbrev pub IfThere : {A : Type 0} → (A → Type 0) → Option A → Type 0
IfThere P None = Unit {0}
IfThere P (Some x) = P x

-- The form of the lines of an open switch.
abbrev pub IsFormedSwitch : SwitchLines → Type 0
IsFormedSwitch (switch_lines.Table low labels) =
    IsSigned 31 low × IsTrue (int_le (low +ℤ pos (length labels - 1)) (pos (2 ^ 31 - 1)))
IsFormedSwitch (switch_lines.Lookup matches) = IsFormedLookup None matches

-- The form of an open method. None of the closed methods has its name and descriptor.
pub record IsFormedOpen (interface : Bool) (methods : List MethodLines) (m : OpenMethod) : Type 0 where
  pub head : IsFormedHead interface m.access m.name m.descriptor
  pub fresh : list_any (is_method_like m.name m.descriptor) methods ≡ false
  pub throws : AllByRecursion IsClassOrArray m.throws
  pub max_stack : IfThere IsU2 m.max_stack
  pub max_locals : IfThere IsU2 m.max_locals
  pub catches : AllByRecursion (λ (c : CatchLine). IsFormedCaught c.caught) m.catches
  pub code : AllByRecursion IsFormedItem m.code
  pub switch : IfThere IsFormedSwitch m.switch

-- ---- Its first and its last line

pub opened_formed : (interface : Bool) (methods : List MethodLines) (access : ℕ) (name descriptor : List ℕ) → IsFormedHead interface access name descriptor → list_any (is_method_like name descriptor) methods ≡ false → IsFormedOpen interface methods (new_method access name descriptor)
opened_formed interface methods access name descriptor head fresh =
    record { head = head; fresh = fresh; throws = tt; max_stack = tt; max_locals = tt; catches = tt; code = tt; switch = tt }

limit_small : (o : Option ℕ) → IfThere IsU2 o → IsU2 (unwrap_or o 1)
limit_small None small = omega arith
limit_small (Some n) small = small

pub ended_formed : (interface : Bool) (methods : List MethodLines) (m : OpenMethod) → IsFormedOpen interface methods m → IsFormedMethodLines interface (method_lines_of m)
ended_formed interface methods m h = record {
  access = h.head.small;
  name = h.head.named;
  descriptor = h.head.described;
  permitted = h.head.permitted;
  throws = h.throws;
  max_stack = limit_small m.max_stack h.max_stack;
  max_locals = limit_small m.max_locals h.max_locals;
  catches = h.catches;
  code = h.code;
}

-- ---- Its statements

pub throws_kept : (interface : Bool) (methods : List MethodLines) (name : List ℕ) (m : OpenMethod) → IsClassOrArray name → IsFormedOpen interface methods m → IsFormedOpen interface methods (with_throws name m)
throws_kept interface methods name m new h =
    record { head = h.head; fresh = h.fresh; throws = one_more IsClassOrArray m.throws name h.throws new; max_stack = h.max_stack; max_locals = h.max_locals; catches = h.catches; code = h.code; switch = h.switch }

pub stack_kept : (interface : Bool) (methods : List MethodLines) (n : ℕ) (m : OpenMethod) → IsU2 n → IsFormedOpen interface methods m → IsFormedOpen interface methods (record m { max_stack = Some n })
stack_kept interface methods n m small h =
    record { head = h.head; fresh = h.fresh; throws = h.throws; max_stack = small; max_locals = h.max_locals; catches = h.catches; code = h.code; switch = h.switch }

pub locals_kept : (interface : Bool) (methods : List MethodLines) (n : ℕ) (m : OpenMethod) → IsU2 n → IsFormedOpen interface methods m → IsFormedOpen interface methods (record m { max_locals = Some n })
locals_kept interface methods n m small h =
    record { head = h.head; fresh = h.fresh; throws = h.throws; max_stack = h.max_stack; max_locals = small; catches = h.catches; code = h.code; switch = h.switch }

pub catch_kept : (interface : Bool) (methods : List MethodLines) (c : CatchLine) (m : OpenMethod) → IsFormedCaught c.caught → IsFormedOpen interface methods m → IsFormedOpen interface methods (with_catch c m)
catch_kept interface methods c m new h =
    record { head = h.head; fresh = h.fresh; throws = h.throws; max_stack = h.max_stack; max_locals = h.max_locals; catches = one_more (λ (d : CatchLine). IsFormedCaught d.caught) m.catches c h.catches new; code = h.code; switch = h.switch }

pub item_kept : (interface : Bool) (methods : List MethodLines) (i : CodeItem) (m : OpenMethod) → IsFormedItem i → IsFormedOpen interface methods m → IsFormedOpen interface methods (with_item i m)
item_kept interface methods i m new h =
    record { head = h.head; fresh = h.fresh; throws = h.throws; max_stack = h.max_stack; max_locals = h.max_locals; catches = h.catches; code = one_more IsFormedItem m.code i h.code new; switch = h.switch }

-- A method keeps its form with another open switch.
switch_kept : (interface : Bool) (methods : List MethodLines) (s : Option SwitchLines) (m : OpenMethod) → IfThere IsFormedSwitch s → IsFormedOpen interface methods m → IsFormedOpen interface methods (record m { switch = s })
switch_kept interface methods s m new h =
    record { head = h.head; fresh = h.fresh; throws = h.throws; max_stack = h.max_stack; max_locals = h.max_locals; catches = h.catches; code = h.code; switch = new }

-- ---- Its switches

and_none : (z : ℤ) → z +ℤ pos 0 ≡ z
and_none z = omega (arith, ints)

-- A tableswitch begins without labels.
begun : (low : ℤ) → IsSigned 31 low → IsFormedSwitch (switch_lines.Table low [])
begun low signed =
    (signed, subst (λ (n : ℤ). IsTrue (int_le n (pos (2 ^ 31 - 1)))) (sym (and_none low)) (and_parts _ (int_le low (pos (2 ^ 31 - 1))) signed).1)

pub instruction_kept : (interface : Bool) (methods : List MethodLines) (i : Instruction) (m : OpenMethod) → IsFormedInstruction i → IsFormedOpen interface methods m → IsFormedOpen interface methods (with_instruction i m)
instruction_kept interface methods (instruction.Whole o) m new h = item_kept interface methods (item.Operation o) m new h
instruction_kept interface methods (instruction.Table low) m new h = switch_kept interface methods (Some (switch_lines.Table low [])) m (begun low new) h
instruction_kept interface methods instruction.Lookup m new h = switch_kept interface methods (Some (switch_lines.Lookup [])) m tt h

-- A tableswitch keeps its form with another label.
labelled : (label : List ℕ) (s : Option SwitchLines) → IsNext (switch_of_lines s) → IfThere IsFormedSwitch s → IfThere IsFormedSwitch (with_table_label label s)
labelled label None next formed = tt
labelled label (Some (switch_lines.Table low labels)) next formed =
    let count : length (labels ++ label ∷ []) - 1 ≡ length labels = omega (arith, length-append labels (label ∷ [])) in
    (formed.0, subst (λ (n : ℕ). IsTrue (int_le (low +ℤ pos n) (pos (2 ^ 31 - 1)))) (sym count) next)
labelled label (Some (switch_lines.Lookup matches)) next formed = formed

pub label_kept : (interface : Bool) (methods : List MethodLines) (label : List ℕ) (m : OpenMethod) → IsNext (switch_of_lines m.switch) → IsFormedOpen interface methods m → IsFormedOpen interface methods (record m { switch = with_table_label label m.switch })
label_kept interface methods label m next h = switch_kept interface methods (with_table_label label m.switch) m (labelled label m.switch next h.switch) h

-- Returns the value of the last match, or the one before all of them.
abbrev last_behind : Option ℤ → List MatchLine → Option ℤ
last_behind last [] = last
last_behind last (m ∷ ms) = last_behind (Some m.value) ms

last_is : (last : Option ℤ) (m : MatchLine) (ms : List MatchLine) → last_behind last (m ∷ ms) ≡ last_value (m ∷ ms)
last_is last m [] = refl
last_is last m (n ∷ ms) = last_is (Some m.value) n ms

last_of_all : (ms : List MatchLine) → last_behind None ms ≡ last_value ms
last_of_all [] = refl
last_of_all (m ∷ ms) = last_is None m ms

rising : (last : Option ℤ) (ms : List MatchLine) (m : MatchLine) → IsFormedLookup last ms → IsSigned 31 m.value → IsTrue (is_above (last_behind last ms) m.value) → IsFormedLookup last (ms ++ m ∷ [])
rising last [] m formed signed above = (signed, above, tt)
rising last (n ∷ ms) m formed signed above = (formed.0, formed.1, rising (Some n.value) ms m formed.2 signed above)

-- A lookupswitch keeps its form with another match.
matched : (line : MatchLine) (s : Option SwitchLines) → IsSigned 31 line.value → IsRising (switch_of_lines s) line.value → IfThere IsFormedSwitch s → IfThere IsFormedSwitch (with_match line s)
matched line None signed above formed = tt
matched line (Some (switch_lines.Table low labels)) signed above formed = formed
matched line (Some (switch_lines.Lookup matches)) signed above formed =
    rising None matches line formed signed (subst (λ (last : Option ℤ). IsTrue (is_above last line.value)) (sym (last_of_all matches)) above)

pub match_kept : (interface : Bool) (methods : List MethodLines) (line : MatchLine) (m : OpenMethod) → IsSigned 31 line.value → IsRising (switch_of_lines m.switch) line.value → IsFormedOpen interface methods m → IsFormedOpen interface methods (record m { switch = with_match line m.switch })
match_kept interface methods line m signed above h = switch_kept interface methods (with_match line m.switch) m (matched line m.switch signed above h.switch) h

-- A method keeps its form with the instruction of the switch that a default closes.
closed : (interface : Bool) (methods : List MethodLines) (s : Option SwitchLines) (label : List ℕ) (m : OpenMethod) → IsTrue (has_labels (Some (record m { switch = s }))) → IfThere IsFormedSwitch s → IsFormedOpen interface methods m → IsFormedOpen interface methods (closed_switch s label m)
unfolding IsFormedOperation
closed interface methods None label m labels formed h = h
closed interface methods (Some (switch_lines.Table low [])) label m labels formed h = absurd cc
closed interface methods (Some (switch_lines.Table low (l ∷ ls))) label m labels formed h =
    let lines : TableLines = record { low = low; labels = l ∷ ls; default = label } in
    let whole = item_kept interface methods (item.Operation (operation.Table lines)) m (formed.0, omega arith, formed.1) h in
    switch_kept interface methods None (with_item (item.Operation (operation.Table lines)) m) tt whole
closed interface methods (Some (switch_lines.Lookup matches)) label m labels formed h =
    let lines : LookupLines = record { matches = matches; default = label } in
    let whole = item_kept interface methods (item.Operation (operation.Lookup lines)) m formed h in
    switch_kept interface methods None (with_item (item.Operation (operation.Lookup lines)) m) tt whole

pub default_kept : (interface : Bool) (methods : List MethodLines) (label : List ℕ) (m : OpenMethod) → IsTrue (has_labels (Some m)) → IsFormedOpen interface methods m → IsFormedOpen interface methods (closed_switch m.switch label m)
default_kept interface methods label m labels h = closed interface methods m.switch label m labels h.switch h
