-- Proves that bytes spell catches as handlers (JVMS 4.7.3). Their labels have bytes, and a range ends after its start.
use Rattle.std.proofs.Common.{◌≡◌, ℕ, suc, ◌+◌, ◌≤◌, ◌<◌, true, false, List, [], ◌∷◌, ◌++◌, length, get_or, Option, Some, None, refl, sym, ap, subst, ◌∙◌, arith, length-append}
use Rattle.std.specs.Prelude.{◌==◌, ◌||◌, nat_lt, slice_get, is_some}
use Rattle.std.specs.Option.{option_and_then, option_map, unwrap_or}
use Rattle.std.specs.List.{list_any}
use Rattle.std.proofs.lemmas.Bool.{or_parts, or_left, or_right, not-false, ltb-true, eq-eqb}
use Rattle.std.proofs.lemmas.Option.{none-some, get_or_from_slice_get}
use Rattle.std.proofs.Math.ListN.{get_or-append}
use Rattle.jvms_file.specs.declared.class_file.Constant.{Constant}
use Rattle.jvms_file.specs.Names.{same_text}
use Rattle.jvms_file.specs.ConstantPool.{entry, utf8_at, class_name_number, is_class}
use Rattle.jvms_file.specs.Spelling.{u2, IsU2, InOrder, SpellsHandler}
use Rattle.jasmin.specs.declared.source.CodeItem.{CodeItem}
use Rattle.jasmin.specs.declared.source.CodeItem.TheVariants as item
use Rattle.jasmin.specs.declared.source.Caught.{Caught}
use Rattle.jasmin.specs.declared.source.Caught.TheVariants as caught
use Rattle.jasmin.specs.declared.source.CatchLine.{CatchLine}
use Rattle.jasmin.specs.Denote.{label_place, target, operations}
use Rattle.jasmin.specs.Assembling.{marks_no_instruction, is_undefined, has_bad_label, is_not_before, is_bad_range}
use Rattle.assembly.specs.Sizes.{label_byte}
use Rattle.assembly.specs.Named.{NamesCaught, AreCaught}
use Rattle.assembly.specs.CodeOf.{handler_of, handlers_from}
use Rattle.classfile_laws.proofs.Steps.{choose}
use Rattle.classfile_laws.proofs.InsnStarts.{AreStarts, start_below, start_before}
use Rattle.code_spelling_laws.proofs.Labels.{Begun, placed_of, read_at, start_of_label, leads_of}

-- ---- The place of a range's end

-- If adding one to an optional number yields a number, it was the predecessor.
suc_of : (o : Option ℕ) (p : ℕ) → option_map suc o ≡ Some p → (q : ℕ) × (o ≡ Some q) × (suc q ≡ p)
suc_of None p is = absurd cc
suc_of (Some q) p is = (q, refl, cc)

-- A label precedes an instruction, or follows the last.
place_is_within : (items : List CodeItem) (label : List ℕ) (p : ℕ) → label_place items label ≡ Some p → p ≤ length (operations items)
place_is_within [] label p is = absurd (none-some p is)
place_is_within (item.Label name ∷ items) label p is =
    choose (same_text name label) (Some 0) (label_place items label) (Some p) is
    (λ here e. let none : 0 ≡ p = cc in omega arith)
    (λ later e. place_is_within items label p e)
place_is_within (item.Operation o ∷ items) label p is =
    let before = suc_of (label_place items label) p is in
    let more : before.0 ≤ length (operations items) = place_is_within items label before.0 before.1 in
    let next : suc before.0 ≡ p = before.2 in
    omega arith

there : (o : Option ℕ) → is_some o ≡ true → (p : ℕ) × (o ≡ Some p)
there None is = absurd cc
there (Some p) is = (p, refl)

-- The place of a range's end is at most the number of instructions.
end_place : (items : List CodeItem) (label : List ℕ) → is_undefined items label ≡ false → (p : ℕ) × (label_place items label ≡ Some p) × (p ≤ length (operations items))
end_place items label defined =
    let place = there (label_place items label) (not-false (is_some (label_place items label)) defined) in
    (place.0, place.1, place_is_within items label place.0 place.1)

-- ---- Bytes

-- The starts of instructions and the end after them increase.
rise_to_end : (low n : ℕ) (starts : List ℕ) → low ≤ n → AreStarts low n starts → AreStarts low (suc n) (starts ++ n ∷ [])
rise_to_end low n [] above rise = (above, omega arith, tt)
rise_to_end low n (pc ∷ pcs) above rise =
    let first : low ≤ pc = rise.0 in
    let below : pc < n = rise.1 in
    (first, omega arith, rise_to_end (suc pc) n pcs below rise.2)

-- Returns the byte at which a range ends.
abbrev end_byte : List ℕ → List CodeItem → ℕ → List ℕ → ℕ
end_byte starts items n label = unwrap_or (slice_get (starts ++ n ∷ []) (target items label)) 0

record Range (starts : List ℕ) (items : List CodeItem) (n : ℕ) (c : CatchLine) : Type 0 where
  end_is : slice_get (starts ++ n ∷ []) (target items c.to) ≡ Some (end_byte starts items n c.to)
  behind : label_byte starts items c.from < end_byte starts items n c.to
  within : end_byte starts items n c.to ≤ n

-- The first place is before the second, if the range is good.
before : (from to : Option ℕ) (p q : ℕ) → from ≡ Some p → to ≡ Some q → is_not_before from to ≡ false → p < q
before from to p q from_is to_is good =
    let test : is_not_before (Some p) (Some q) ≡ false = sym (ap (λ (o : Option ℕ). is_not_before o to) from_is ∙ ap (λ (o : Option ℕ). is_not_before (Some p) o) to_is) ∙ good in
    ltb-true p q (not-false (nat_lt p q) test)

range_of : (starts : List ℕ) (items : List CodeItem) (n : ℕ) (c : CatchLine) → Begun starts items n → marks_no_instruction items c.from ≡ false → is_undefined items c.to ≡ false → is_bad_range items c ≡ false → Range starts items n c
range_of starts items n c begun from to good =
    let first = placed_of (length (operations items)) (label_place items c.from) from in
    let last = end_place items c.to to in
    let order : first.number < last.0 = before (label_place items c.from) (label_place items c.to) first.number last.0 first.is last.1 good in
    let first_at : target items c.from ≡ first.number = ap (λ (o : Option ℕ). unwrap_or o 0) first.is in
    let last_at : target items c.to ≡ last.0 = ap (λ (o : Option ℕ). unwrap_or o 0) last.1 in
    let count : length starts ≡ length (operations items) = begun.count in
    let most : last.0 ≤ length (operations items) = last.2 in
    let all : length (starts ++ n ∷ []) ≡ length starts + 1 = length-append starts (n ∷ []) in
    let end_is = read_at (starts ++ n ∷ []) (target items c.to) (omega arith) in
    let rise = rise_to_end 0 n starts (omega arith) begun.rise in
    let below : end_byte starts items n c.to < suc n = start_below 0 (suc n) (starts ++ n ∷ []) (target items c.to) (end_byte starts items n c.to) rise end_is in
    let lower : get_or (starts ++ n ∷ []) (target items c.from) 0 < end_byte starts items n c.to = start_before 0 (suc n) (starts ++ n ∷ []) (target items c.to) (end_byte starts items n c.to) (target items c.from) rise end_is (omega arith) in
    let inside = start_of_label starts items n c.from begun from in
    let start = leads_of starts items n begun c.from from in
    let same : get_or (starts ++ n ∷ []) (target items c.from) 0 ≡ label_byte starts items c.from = get_or-append starts (n ∷ []) 0 (target items c.from) inside ∙ get_or_from_slice_get starts (target items c.from) (label_byte starts items c.from) 0 start.byte_is in
    record { end_is = end_is; behind = subst (λ (k : ℕ). k < end_byte starts items n c.to) same lower; within = omega arith }

-- ---- What is caught

class_is_there : (pool : List Constant) (o : Option ℕ) (name : List ℕ) → option_and_then (utf8_at pool) o ≡ Some name → is_some o ≡ true
class_is_there pool None name is = absurd cc
class_is_there pool (Some n) name is = refl

caught_is : (pool : List Constant) (n : ℕ) (c : Caught) → NamesCaught pool n c → IsU2 n × ((n == 0 || is_class pool n) ≡ true)
caught_is pool n caught.All named = (omega arith, or_left (n == 0) (is_class pool n) (eq-eqb n 0 named))
caught_is pool n (caught.Class name) named =
    (named.0, or_right (n == 0) (is_class pool n) (class_is_there pool (option_and_then class_name_number (entry pool n)) name named.1))

-- ---- Handlers

-- Bytes spell a catch whose labels and range are good.
handler_is_spelled : (pool : List Constant) (starts : List ℕ) (items : List CodeItem) (n number : ℕ) (c : CatchLine) → Begun starts items n → has_bad_label items c ≡ false → is_bad_range items c ≡ false → NamesCaught pool number c.caught
    → (bytes : List ℕ) × SpellsHandler pool starts n bytes (handler_of items number c)
handler_is_spelled pool starts items n number c begun labels good named =
    let parts = or_parts (marks_no_instruction items c.from) (is_undefined items c.to || marks_no_instruction items c.using) labels in
    let others = or_parts (is_undefined items c.to) (marks_no_instruction items c.using) parts.1 in
    let start = leads_of starts items n begun c.from parts.0 in
    let handler = leads_of starts items n begun c.using others.1 in
    let range = range_of starts items n c begun parts.0 others.0 good in
    let few : n ≤ 65535 = begun.few in
    let last : end_byte starts items n c.to ≤ n = range.within in
    let names = caught_is pool number c.caught named in
    let from = label_byte starts items c.from in
    let to = end_byte starts items n c.to in
    let using_byte = label_byte starts items c.using in (
      u2 from ++ (u2 to ++ (u2 using_byte ++ u2 number)),
      (from, to, using_byte, start.below, omega arith, handler.below, names.0, range.behind, start.byte_is, range.end_is, handler.byte_is, names.1, refl),
    )

pub handlers_are_spelled : (pool : List Constant) (starts : List ℕ) (items : List CodeItem) (n : ℕ) → Begun starts items n → (numbers : List ℕ) (catches : List CatchLine) → AreCaught pool numbers catches → list_any (has_bad_label items) catches ≡ false → list_any (is_bad_range items) catches ≡ false
    → (bytes : List ℕ) × InOrder (SpellsHandler pool starts n) bytes (handlers_from items numbers catches)
unfolding handlers_from
handlers_are_spelled pool starts items n begun [] [] named labels good = ([], refl)
handlers_are_spelled pool starts items n begun [] (c ∷ catches) named labels good = absurd named
handlers_are_spelled pool starts items n begun (number ∷ numbers) [] named labels good = absurd named
handlers_are_spelled pool starts items n begun (number ∷ numbers) (c ∷ catches) named labels good =
    let these = or_parts (has_bad_label items c) (list_any (has_bad_label items) catches) labels in
    let ranges = or_parts (is_bad_range items c) (list_any (is_bad_range items) catches) good in
    let first = handler_is_spelled pool starts items n number c begun these.0 ranges.0 named.0 in
    let others = handlers_are_spelled pool starts items n begun numbers catches named.1 these.1 ranges.1 in
    (first.0 ++ others.0, (first.0, others.0, refl, first.1, others.1))

-- There is one handler for each catch.
pub handlers_count : (pool : List Constant) (items : List CodeItem) (numbers : List ℕ) (catches : List CatchLine) → AreCaught pool numbers catches → length (handlers_from items numbers catches) ≡ length catches
unfolding handlers_from
handlers_count pool items [] [] named = refl
handlers_count pool items [] (c ∷ catches) named = absurd named
handlers_count pool items (number ∷ numbers) [] named = absurd named
handlers_count pool items (number ∷ numbers) (c ∷ catches) named = ap suc (handlers_count pool items numbers catches named.1)
