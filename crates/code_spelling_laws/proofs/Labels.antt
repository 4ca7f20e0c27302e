-- Proves that labels have the starts of instructions.
use Rattle.std.proofs.Common.{◌≡◌, ℕ, ◌≤◌, ◌<◌, Bool, false, List, [], ◌∷◌, length, Option, Some, None, refl, sym, ap, ◌∙◌, arith}
use Rattle.std.specs.Prelude.{nat_lt, slice_get}
use Rattle.std.specs.Option.{unwrap_or}
use Rattle.std.specs.List.{list_any, AllByRecursion}
use Rattle.std.proofs.lemmas.Bool.{true≢false, or_parts, not-false, ltb-true}
use Rattle.std.proofs.lemmas.Option.{slice_get-get_or, unwrap_or-slice_get}
use Rattle.jasmin.specs.declared.source.Operation.{Operation}
use Rattle.jasmin.specs.declared.source.CodeItem.{CodeItem}
use Rattle.jasmin.specs.declared.source.CodeItem.TheVariants as item
use Rattle.jasmin.specs.Denote.{label_place, target, operations}
use Rattle.jasmin.specs.Assembling.{labels_of, is_no_instruction, marks_no_instruction}
use Rattle.assembly.specs.Sizes.{label_byte}
use Rattle.source_form_laws.specs.Formed.{IsFormedItem, IsFormedOperation}
use Rattle.classfile_laws.proofs.InsnStarts.{AreStarts, start_below}

-- ---- All elements of a list

-- If no element passes a test, all have a property that follows from that.
pub all_of_none : {A : Type 0} (test : A → Bool) (P : A → Type 0) → ((x : A) → test x ≡ false → P x) → (xs : List A) → list_any test xs ≡ false → AllByRecursion P xs
all_of_none test P each [] none = tt
all_of_none test P each (x ∷ xs) none =
    let parts = or_parts (test x) (list_any test xs) none in
    (each x parts.0, all_of_none test P each xs parts.1)

-- The instructions of formed items are formed.
pub formed_operations : (items : List CodeItem) → AllByRecursion IsFormedItem items → AllByRecursion IsFormedOperation (operations items)
formed_operations [] formed = tt
formed_operations (item.Label name ∷ items) formed = formed_operations items formed.1
formed_operations (item.Operation o ∷ items) formed = (formed.0, formed_operations items formed.1)

-- ---- Labels

-- A label marks an instruction: its place has a start, which is before byte 65536.
pub record Leads (starts : List ℕ) (items : List CodeItem) (label : List ℕ) : Type 0 where
  pub byte_is : slice_get starts (target items label) ≡ Some (label_byte starts items label)
  pub below : label_byte starts items label < 65536

-- An optional place is present and less than a count.
pub record IsPlaced (count : ℕ) (place : Option ℕ) : Type 0 where
  pub number : ℕ
  pub is : place ≡ Some number
  pub within : number < count

pub placed_of : (count : ℕ) (place : Option ℕ) → is_no_instruction count place ≡ false → IsPlaced count place
placed_of count None nowhere = absurd (true≢false nowhere)
placed_of count (Some p) nowhere = record { number = p; is = refl; within = ltb-true p count (not-false (nat_lt p count) nowhere) }

-- At a place within a list, the list has the element that is read with a default.
pub read_at : (xs : List ℕ) (place : ℕ) → place < length xs → slice_get xs place ≡ Some (unwrap_or (slice_get xs place) 0)
read_at xs place inside = slice_get-get_or xs place 0 inside ∙ ap (λ (n : ℕ). Some n) (sym (unwrap_or-slice_get xs place 0))

-- The starts of code are known: one for each instruction, increasing, and before an end of at most 65535.
pub record Begun (starts : List ℕ) (items : List CodeItem) (end : ℕ) : Type 0 where
  pub count : length starts ≡ length (operations items)
  pub rise : AreStarts 0 end starts
  pub few : end ≤ 65535

-- The place of a label has a start.
pub start_of_label : (starts : List ℕ) (items : List CodeItem) (end : ℕ) (label : List ℕ) → Begun starts items end → marks_no_instruction items label ≡ false → target items label < length starts
start_of_label starts items end label begun somewhere =
    let place = placed_of (length (operations items)) (label_place items label) somewhere in
    let at : target items label ≡ place.number = ap (λ (o : Option ℕ). unwrap_or o 0) place.is in
    let inside : place.number < length (operations items) = place.within in
    let count : length starts ≡ length (operations items) = begun.count in
    omega arith

pub leads_of : (starts : List ℕ) (items : List CodeItem) (end : ℕ) → Begun starts items end → (label : List ℕ) → marks_no_instruction items label ≡ false → Leads starts items label
leads_of starts items end begun label somewhere =
    let is = read_at starts (target items label) (start_of_label starts items end label begun somewhere) in
    let below : label_byte starts items label < end = start_below 0 end starts (target items label) (label_byte starts items label) begun.rise is in
    let few : end ≤ 65535 = begun.few in
    record { byte_is = is; below = omega arith }

-- All labels of an instruction mark instructions.
abbrev pub LabelsLead : List ℕ → List CodeItem → Operation → Type 0
LabelsLead starts items o = AllByRecursion (Leads starts items) (labels_of o)

pub labels_lead : (starts : List ℕ) (items : List CodeItem) (end : ℕ) → Begun starts items end → (os : List Operation) → list_any (λ o. list_any (marks_no_instruction items) (labels_of o)) os ≡ false → AllByRecursion (LabelsLead starts items) os
labels_lead starts items end begun =
    all_of_none (λ o. list_any (marks_no_instruction items) (labels_of o)) (LabelsLead starts items)
    (λ o none. all_of_none (marks_no_instruction items) (Leads starts items) (leads_of starts items end begun) (labels_of o) none)
