-- Proves that the code of a method means the body that its lines denote.
use Rattle.std.proofs.Common.{◌≡◌, ℕ, not, cond, List, [], ◌∷◌, map, Ok, refl, sym, ap, ◌∙◌}
use Rattle.jvms_file.specs.declared.class_file.Constant.{Constant}
use Rattle.jvms_file.specs.declared.class_file.Code.{Code}
use Rattle.jvms_file.specs.Members.{is_code_length}
use Rattle.jvms_program.specs.declared.program.Instruction.{Instruction}
use Rattle.jvms_program.specs.declared.program.Catch.{Catch}
use Rattle.jvms_program.specs.declared.program.Catch.TheVariants as catch
use Rattle.jvms_program.specs.declared.program.ExceptionHandler.{ExceptionHandler}
use Rattle.jvms_program.specs.declared.program.Body.{Body}
use Rattle.jvms_program.specs.Meaning.{class_text, catch_of, handler_of, body_of}
use Rattle.jasmin.specs.declared.source.CodeItem.{CodeItem}
use Rattle.jasmin.specs.declared.source.Caught.{Caught}
use Rattle.jasmin.specs.declared.source.Caught.TheVariants as caught
use Rattle.jasmin.specs.declared.source.CatchLine.{CatchLine}
use Rattle.jasmin.specs.declared.source.MethodLines.{MethodLines}
use Rattle.jasmin.specs.Denote.{target, operations, instruction_of as denoted_instruction, catch_of as denoted_catch, handler_of as denoted_handler}
use Rattle.assembly.specs.declared.fault.AsmFault.TheVariants as fault
use Rattle.assembly.specs.Sizes.{code_length, starts_of, any_too_far}
use Rattle.assembly.specs.Named.{AreOperands, NamesCaught, AreCaught}
use Rattle.assembly.specs.CodeOf.{handler_of as assembled_handler, handlers_from, code_of, code_within}
use Rattle.assembled_entry_laws.proofs.Steps.{want_step, same_Ok}
use Rattle.class_meaning_laws.proofs.Names.{same_lists, class_text_is, class_is_not_0}
use Rattle.class_meaning_laws.proofs.Instructions.{insns_mean}

-- ---- Handlers

catch_is : (pool : List Constant) (n : ℕ) (c : Caught) → NamesCaught pool n c → catch_of pool n ≡ denoted_catch c
catch_is pool n caught.All is = ap (catch_of pool) is
catch_is pool n (caught.Class name) is =
    ap (λ b. cond b catch.All (catch.Class (class_text pool n))) (class_is_not_0 pool n name is.1) ∙ ap (λ t. catch.Class t) (class_text_is pool n name is.1)

abbrev handler_by : List CodeItem → CatchLine → Catch → ExceptionHandler
handler_by items c caught = record { start = target items c.from; end = target items c.to; target = target items c.using; catch = caught }

handler_means : (pool : List Constant) (items : List CodeItem) (n : ℕ) (c : CatchLine) → NamesCaught pool n c.caught
    → handler_of pool (assembled_handler items n c) ≡ denoted_handler items c
handler_means pool items n c is = ap (handler_by items c) (catch_is pool n c.caught is)

handlers_mean : (pool : List Constant) (items : List CodeItem) (numbers : List ℕ) (cs : List CatchLine) → AreCaught pool numbers cs
    → map (handler_of pool) (handlers_from items numbers cs) ≡ map (denoted_handler items) cs
unfolding handlers_from
handlers_mean pool items [] [] are = refl
handlers_mean pool items (n ∷ numbers) (c ∷ cs) are =
    same_lists (handler_of pool (assembled_handler items n c)) (denoted_handler items c) (map (handler_of pool) (handlers_from items numbers cs)) (map (denoted_handler items) cs) (handler_means pool items n c are.0) (handlers_mean pool items numbers cs are.1)
handlers_mean pool items [] (c ∷ cs) are = absurd are
handlers_mean pool items (n ∷ numbers) [] are = absurd are

-- ---- Bodies

abbrev body_by : MethodLines → List Instruction → List ExceptionHandler → Body
body_by m instructions handlers =
    record { max_stack = m.max_stack; max_locals = m.max_locals; instructions = instructions; handlers = handlers }

-- Returns the body of a method that has code.
abbrev pub denoted_body : MethodLines → Body
denoted_body m = body_by m (map (denoted_instruction m.code) (operations m.code)) (map (denoted_handler m.code) m.catches)

code_means : (pool : List Constant) (operands caught : List ℕ) (m : MethodLines) → AreOperands pool operands (operations m.code) → AreCaught pool caught m.catches
    → body_of pool (code_of operands caught m) ≡ denoted_body m
code_means pool operands caught m named handled =
    ap (λ is. body_by m is (map (handler_of pool) (handlers_from m.code caught m.catches))) (insns_mean pool m.code operands (operations m.code) named)
    ∙ ap (body_by m (map (denoted_instruction m.code) (operations m.code))) (handlers_mean pool m.code caught m.catches handled)

within_is : (operands caught : List ℕ) (m : MethodLines) (c : Code) → code_within operands caught m ≡ Ok c → code_of operands caught m ≡ c
unfolding code_within
within_is operands caught m c gives =
    want_step (is_code_length (code_length operands m.code)) fault.CodeLength _ _ gives λ long e.
    want_step (not (any_too_far (starts_of operands m.code) m.code (starts_of operands m.code) (operations m.code))) fault.BranchTooFar _ _ e λ near last.
    same_Ok (code_of operands caught m) c last

pub code_within_means : (pool : List Constant) (operands caught : List ℕ) (m : MethodLines) (c : Code) → AreOperands pool operands (operations m.code) → AreCaught pool caught m.catches
    → code_within operands caught m ≡ Ok c → body_of pool c ≡ denoted_body m
code_within_means pool operands caught m c named handled gives =
    ap (body_of pool) (sym (within_is operands caught m c gives)) ∙ code_means pool operands caught m named handled
