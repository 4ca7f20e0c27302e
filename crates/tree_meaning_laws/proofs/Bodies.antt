-- Proves that the listed code of a method means the code.
use Rattle.std.proofs.Common.{◌≡◌, ℕ, ◌≤◌, cond, ◌==◌, Bool, true, false, List, [], ◌∷◌, length, map, Ok, refl, sym, ap, subst, ◌∙◌, arith}
use Rattle.std.specs.Prelude.{nat_lt, nat_le}
use Rattle.std.specs.List.{AllByRecursion}
use Rattle.std.proofs.lemmas.Bool.{and_parts, leb-true}
use Rattle.jvms_file.specs.declared.class_file.Constant.{Constant}
use Rattle.jvms_file.specs.declared.class_file.Handler.{Handler}
use Rattle.jvms_file.specs.declared.class_file.Layout.{Layout}
use Rattle.jvms_file.specs.declared.class_file.Code.{Code}
use Rattle.jvms_file.specs.declared.insn.Insn.{Insn}
use Rattle.jvms_file.specs.Code.{layout_of}
use Rattle.jvms_file.specs.Spelling.{InOrder, SpellsInsns, SpellsHandler, SpellsCode}
use Rattle.jvms_program.specs.declared.program.Catch.{Catch}
use Rattle.jvms_program.specs.declared.program.Catch.TheVariants as catch
use Rattle.jvms_program.specs.declared.program.ExceptionHandler.{ExceptionHandler}
use Rattle.jvms_program.specs.Meaning.{class_text, catch_of, handler_of, instruction_of}
use Rattle.jasmin.specs.declared.source.Operation.{Operation}
use Rattle.jasmin.specs.declared.source.CodeItem.{CodeItem}
use Rattle.jasmin.specs.declared.source.Caught.TheVariants as caught
use Rattle.jasmin.specs.Denote.{target, operations, instruction_of as denoted, catch_of as denoted_catch, handler_of as denoted_handler}
use Rattle.classfile_laws.proofs.InsnPads.{zero_pads_spell}
use Rattle.listing_spec.specs.TreeOf.{label_of, targets_of, is_referred, items_onto, caught_of, catch_of as line_of}
use Rattle.tree_meaning_laws.proofs.Lists.{all_follow, each_spelled, same_lists}
use Rattle.tree_meaning_laws.proofs.Labels.{items_from, operations_are, IsLed, place_is_led}
use Rattle.tree_meaning_laws.proofs.Items.{AreOperations, listed, as_many_operations}
use Rattle.tree_meaning_laws.proofs.Targets.{AreWithin, insns_within, IsWithin, handler_within, as_many_starts, AreReferred, insns_referred, IsReferred, handlers_referred}
use Rattle.tree_meaning_laws.proofs.Instructions.{AreLed, insns_mean}

-- ---- Handlers

caught_means : (pool : List Constant) (n : ℕ) → denoted_catch (caught_of pool n) ≡ catch_of pool n
caught_means pool n = by_test (n == 0)
  where
    by_test : (b : Bool) → denoted_catch (cond b caught.All (caught.Class (class_text pool n))) ≡ cond b catch.All (catch.Class (class_text pool n))
    by_test true = refl
    by_test false = refl

-- The labels of a handler's places mark these places.
abbrev IsHandlerLed : List CodeItem → Handler → Type 0
IsHandlerLed items h = IsLed items h.start × IsLed items h.end × IsLed items h.target

abbrev handler_by : ℕ → ℕ → ℕ → Catch → ExceptionHandler
handler_by start end target caught = record { start = start; end = end; target = target; catch = caught }

handler_means : (pool : List Constant) (items : List CodeItem) (h : Handler) → IsHandlerLed items h → denoted_handler items (line_of pool h) ≡ handler_of pool h
handler_means pool items h led =
    ap (λ n. handler_by n (target items (label_of h.end)) (target items (label_of h.target)) (denoted_catch (caught_of pool h.catch_type))) led.0
    ∙ ap (λ n. handler_by h.start n (target items (label_of h.target)) (denoted_catch (caught_of pool h.catch_type))) led.1
    ∙ ap (λ n. handler_by h.start h.end n (denoted_catch (caught_of pool h.catch_type))) led.2
    ∙ ap (handler_by h.start h.end h.target) (caught_means pool h.catch_type)

handlers_mean : (pool : List Constant) (items : List CodeItem) (hs : List Handler) → AllByRecursion (IsHandlerLed items) hs → map (denoted_handler items) (map (line_of pool) hs) ≡ map (handler_of pool) hs
handlers_mean pool items [] led = refl
handlers_mean pool items (h ∷ hs) led =
    same_lists (denoted_handler items (line_of pool h)) (handler_of pool h) (map (denoted_handler items) (map (line_of pool) hs)) (map (handler_of pool) hs) (handler_means pool items h led.0) (handlers_mean pool items hs led.1)

-- ---- Code

-- A method's items and lines mean its instructions and handlers.
pub record CodeMeans (pool : List Constant) (c : Code) (items : List CodeItem) : Type 0 where
  pub instructions : map (denoted items) (operations items) ≡ map (instruction_of pool) c.insns
  pub handlers : map (denoted_handler items) (map (line_of pool) c.handlers) ≡ map (handler_of pool) c.handlers

-- The labels of all places within the code that something refers to mark these places.
abbrev Leads : Code → List Operation → Type 0
Leads c os = (place : ℕ) → place ≤ length c.layout.starts → is_referred c place ≡ true → IsLed (items_from c 0 os) place

insn_led : (c : Code) (os : List Operation) → Leads c os → (i : Insn) → AreWithin c.layout.starts i → AreReferred c i → AreLed (items_from c 0 os) i
insn_led c os leads i within referred = all_follow _ _ (IsLed (items_from c 0 os)) leads (targets_of i) within referred

handler_led : (c : Code) (os : List Operation) → Leads c os → (h : Handler) → IsWithin c.layout.starts h → IsReferred c h → IsHandlerLed (items_from c 0 os) h
handler_led c os leads h within referred =
    (leads h.start within.0 referred.0, leads h.end within.1 referred.1, leads h.target within.2 referred.2)

-- The bytes of the layout spell the instructions too.
layout_spells : (pool : List Constant) (major : ℕ) (code : List ℕ) (c : Code) → c.layout ≡ layout_of c.layout.starts c.insns code → SpellsInsns pool major c.layout.starts code c.insns
    → SpellsInsns pool major c.layout.starts c.layout.bytes c.insns
layout_spells pool major code c laid spelt =
    subst (λ (bytes : List ℕ). SpellsInsns pool major c.layout.starts bytes c.insns) (sym (ap (λ (l : Layout). l.bytes) laid)) (zero_pads_spell pool major c.layout.starts code c.insns spelt)

-- The listed operations of spelled code mean the code.
by_operations : (pool : List Constant) (major : ℕ) (code : List ℕ) (c : Code) (os : List Operation) (table : List ℕ) → nat_le (length code) 65535 ≡ true → SpellsInsns pool major c.layout.starts code c.insns
    → c.layout ≡ layout_of c.layout.starts c.insns code → InOrder (SpellsHandler pool c.layout.starts (length code)) table c.handlers → AreOperations pool c.layout.bytes c.layout.starts c.insns os
    → CodeMeans pool c (items_from c 0 os)
by_operations pool major code c os table few spelt laid order are =
    let items = items_from c 0 os in
    let count = as_many_starts pool major c.layout.starts 0 code c.insns c.layout.starts spelt in
    let starts : length c.layout.starts ≡ length c.insns = count.0 in
    let below : length c.layout.starts ≤ length code = count.1 in
    let most : length code ≤ 65535 = leb-true (length code) 65535 few in
    let made : length os ≡ length c.insns = as_many_operations pool c.layout.bytes c.layout.starts c.insns os are in
    let leads : Leads c os = λ place within is. place_is_led c os place (omega arith) (omega arith) is in
    let led : AllByRecursion (AreLed items) c.insns = all_follow (AreWithin c.layout.starts) (AreReferred c) (AreLed items) (insn_led c os leads) c.insns (insns_within pool major c.layout.starts 0 code c.insns c.layout.starts spelt) (insns_referred c) in
    let handled : AllByRecursion (IsHandlerLed items) c.handlers = all_follow (IsWithin c.layout.starts) (IsReferred c) (IsHandlerLed items) (handler_led c os leads) c.handlers (each_spelled (SpellsHandler pool c.layout.starts (length code)) (IsWithin c.layout.starts) (λ bytes h. handler_within pool c.layout.starts (length code) bytes h) table c.handlers order) (handlers_referred c) in
    record {
      instructions = ap (map (denoted items)) (operations_are c 0 os) ∙ insns_mean pool items major c.layout.starts [] c.layout.bytes c.insns c.layout.starts os (layout_spells pool major code c laid spelt) are led;
      handlers = handlers_mean pool items c.handlers handled;
    }

pub code_means : (pool : List Constant) (major : ℕ) (bytes : List ℕ) (c : Code) (items : List CodeItem) → SpellsCode pool major bytes c → items_onto pool c [] 0 c.layout.starts c.insns ≡ Ok items → CodeMeans pool c items
code_means pool major bytes c items (stack, locals, code, long, spelt, laid, table, (few, (count, handlers, parts, counted, order)), attributes, kept, whole) gives =
    let starts = (as_many_starts pool major c.layout.starts 0 code c.insns c.layout.starts spelt).0 in
    let l = listed pool c [] 0 c.layout.starts c.insns items starts gives in
    subst (CodeMeans pool c) (sym l.parts)
    (by_operations pool major code c l.made handlers (and_parts (nat_lt 0 (length code)) (nat_le (length code) 65535) long).1 spelt laid order l.are)
