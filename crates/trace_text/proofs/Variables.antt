-- Variables, and the texts that are none.
use Rattle.std.proofs.Common.{◌≡◌, ◌≢◌, ℕ, zero, suc, ◌+◌, ◌<◌, ◌≤◌, ◌==◌, Bool, true, false, cond, List, [], ◌∷◌, ◌++◌, length, Option, Some, None, refl, sym, ap, ◌∙◌, append_assoc, arith}
use Rattle.std.specs.Fmt.{decimal}
use Rattle.jvms_program.specs.declared.key.FieldKey.{FieldKey}
use Rattle.jvms_machine.specs.declared.trace.Variable.{Variable}
use Rattle.jvms_machine.specs.declared.trace.Variable.TheVariants as variable
use Rattle.escapes.specs.declared.sort.NameSort.TheVariants as sort
use Rattle.escapes.specs.Keys.{IsFieldKey, field_text}
use Rattle.escapes.specs.Cuts.{has, dots_in}
use Rattle.escapes.specs.Readings.{IsReadAs}
use Rattle.escapes.proofs.Cutting.{one_cut, no_first}
use Rattle.escapes.proofs.Dots.{none_counted, joined_count, behind_dot, member_dots}
use Rattle.trace_text.specs.Items.{IsNumber, IsVariable, variable_text}
use Rattle.trace_text.specs.Parts.{dots_of, IsVariableWith}
use Rattle.trace_text.proofs.Numbers.{number_below, number_above}

-- ---- Dots

field_dots : (f : FieldKey) → IsFieldKey f → dots_in (field_text f) ≡ 2
field_dots f is = member_dots sort.Field sort.FieldDescriptor f.class f.name f.descriptor is

number_dots : (n : ℕ) → IsNumber n → dots_in (decimal n) ≡ 0
number_dots n is = none_counted (decimal n) (number_below 46 n (omega arith) is)

-- The dots of a variable's text show its kind.
pub variable_dots : (v : Variable) → IsVariable v → dots_in (variable_text v) ≡ dots_of v
variable_dots (variable.Instance r f) is =
    joined_count (decimal r) (46 ∷ field_text f) 0 3 (number_dots r is.0) (behind_dot (field_text f) 2 (field_dots f is.1))
variable_dots (variable.Static f) is = field_dots f is
variable_dots (variable.Element r i) is =
    joined_count (decimal r ++ 91 ∷ decimal i) (93 ∷ []) 0 0 (joined_count (decimal r) (91 ∷ decimal i) 0 0 (number_dots r is.0) (number_dots i is.1)) refl

-- A text with n dots can only be that of a variable with n dots.
pub of_so_many : (n : ℕ) (text : List ℕ) (o : Option Variable) → dots_in text ≡ n → IsReadAs (IsVariableWith n) variable_text text o → IsReadAs IsVariable variable_text text o
of_so_many n text (Some v) many read = (read.0.variable, read.1)
of_so_many n text None many read = λ v is e. read v (record { has = sym (variable_dots v is) ∙ ap dots_in (sym e) ∙ many; variable = is }) e

pub of_no_sort : (text : List ℕ) → (dots_in text ≡ 0 → ⊥) → (dots_in text ≡ 2 → ⊥) → (dots_in text ≡ 3 → ⊥) → (v : Variable) → IsVariable v → text ≢ variable_text v
of_no_sort text first second third (variable.Instance r f) is e = third (ap dots_in e ∙ variable_dots (variable.Instance r f) is)
of_no_sort text first second third (variable.Static f) is e = second (ap dots_in e ∙ variable_dots (variable.Static f) is)
of_no_sort text first second third (variable.Element r i) is e = first (ap dots_in e ∙ variable_dots (variable.Element r i) is)

-- ---- Elements

pub element_is : (r i : ℕ) → variable_text (variable.Element r i) ≡ decimal r ++ 91 ∷ (decimal i ++ 93 ∷ [])
element_is r i = append_assoc (decimal r) (91 ∷ decimal i) (93 ∷ [])

-- A text that is no element is no variable without dots.
pub element_only : (text : List ℕ) → ((r i : ℕ) → IsNumber r → IsNumber i → text ≢ decimal r ++ 91 ∷ (decimal i ++ 93 ∷ [])) → (v : Variable) → IsVariableWith 0 v → text ≢ variable_text v
element_only text none (variable.Instance r f) is e = absurd (let no = is.has in omega arith)
element_only text none (variable.Static f) is e = absurd (let no = is.has in omega arith)
element_only text none (variable.Element r i) is e = none r i is.variable.0 is.variable.1 (e ∙ element_is r i)

pub no_open : (text : List ℕ) → has 91 text ≡ false → (v : Variable) → IsVariableWith 0 v → text ≢ variable_text v
no_open text none = element_only text (λ r i left right e. no_first 91 text (decimal r) (decimal i ++ 93 ∷ []) none e)

-- The opening bracket cuts an element's text into its reference and the rest.
cut_open : (text reference behind : List ℕ) (r i : ℕ) → text ≡ reference ++ 91 ∷ behind → has 91 reference ≡ false → IsNumber r → text ≡ decimal r ++ 91 ∷ (decimal i ++ 93 ∷ [])
    → (reference ≡ decimal r) × (behind ≡ decimal i ++ 93 ∷ [])
cut_open text reference behind r i split clear is e =
    one_cut 91 reference behind (decimal r) (decimal i ++ 93 ∷ []) clear (number_above 91 r (omega arith) is) (sym split ∙ e)

pub no_close : (text reference behind : List ℕ) → text ≡ reference ++ 91 ∷ behind → has 91 reference ≡ false → has 93 behind ≡ false → (v : Variable) → IsVariableWith 0 v → text ≢ variable_text v
no_close text reference behind split clear none =
    element_only text (λ r i left right e. no_first 93 behind (decimal i) [] none (cut_open text reference behind r i split clear left e).1)

cut_close : (behind index rest : List ℕ) (i : ℕ) → behind ≡ index ++ 93 ∷ rest → has 93 index ≡ false → IsNumber i → behind ≡ decimal i ++ 93 ∷ [] → (index ≡ decimal i) × (rest ≡ [])
cut_close behind index rest i split clear is e =
    one_cut 93 index rest (decimal i) [] clear (number_above 93 i (omega arith) is) (sym split ∙ e)

-- The parts of a text with both brackets.
pub record IsCutAtBrackets (text reference behind index rest : List ℕ) : Type 0 where
  pub open_split : text ≡ reference ++ 91 ∷ behind
  pub open_clear : has 91 reference ≡ false
  pub close_split : behind ≡ index ++ 93 ∷ rest
  pub close_clear : has 93 index ≡ false

pub more_behind : (text reference behind index rest : List ℕ) → IsCutAtBrackets text reference behind index rest → (rest ≡ [] → ⊥) → (v : Variable) → IsVariableWith 0 v → text ≢ variable_text v
more_behind text reference behind index rest parts some =
    element_only text (λ r i left right e.
    some (cut_close behind index rest i parts.close_split parts.close_clear right (cut_open text reference behind r i parts.open_split parts.open_clear left e).1).1)

pub no_reference : (text reference behind index rest : List ℕ) → IsCutAtBrackets text reference behind index rest → ((n : ℕ) → IsNumber n → reference ≢ decimal n) → (v : Variable) → IsVariableWith 0 v → text ≢ variable_text v
no_reference text reference behind index rest parts none =
    element_only text (λ r i left right e. none r left (cut_open text reference behind r i parts.open_split parts.open_clear left e).0)

pub no_index : (text reference behind index rest : List ℕ) → IsCutAtBrackets text reference behind index rest → ((n : ℕ) → IsNumber n → index ≢ decimal n) → (v : Variable) → IsVariableWith 0 v → text ≢ variable_text v
no_index text reference behind index rest parts none =
    element_only text (λ r i left right e.
    none i right (cut_close behind index rest i parts.close_split parts.close_clear right (cut_open text reference behind r i parts.open_split parts.open_clear left e).1).0)

-- ---- Instance fields

cut_dot : (text reference field : List ℕ) (r : ℕ) (f : FieldKey) → text ≡ reference ++ 46 ∷ field → has 46 reference ≡ false → IsNumber r → text ≡ decimal r ++ 46 ∷ field_text f
    → (reference ≡ decimal r) × (field ≡ field_text f)
cut_dot text reference field r f split clear is e =
    one_cut 46 reference field (decimal r) (field_text f) clear (number_below 46 r (omega arith) is) (sym split ∙ e)

instance_only : (text : List ℕ) → ((r : ℕ) (f : FieldKey) → IsNumber r → IsFieldKey f → text ≢ decimal r ++ 46 ∷ field_text f) → (v : Variable) → IsVariableWith 3 v → text ≢ variable_text v
instance_only text none (variable.Instance r f) is e = none r f is.variable.0 is.variable.1 e
instance_only text none (variable.Static f) is e = absurd (let no = is.has in omega arith)
instance_only text none (variable.Element r i) is e = absurd (let no = is.has in omega arith)

pub no_dot_at_all : (text : List ℕ) → has 46 text ≡ false → (v : Variable) → IsVariableWith 3 v → text ≢ variable_text v
no_dot_at_all text none = instance_only text (λ r f left right e. no_first 46 text (decimal r) (field_text f) none e)

pub no_object : (text reference field : List ℕ) → text ≡ reference ++ 46 ∷ field → has 46 reference ≡ false → ((n : ℕ) → IsNumber n → reference ≢ decimal n) → (v : Variable) → IsVariableWith 3 v → text ≢ variable_text v
no_object text reference field split clear none =
    instance_only text (λ r f left right e. none r left (cut_dot text reference field r f split clear left e).0)

pub no_field : (text reference field : List ℕ) → text ≡ reference ++ 46 ∷ field → has 46 reference ≡ false → ((f : FieldKey) → IsFieldKey f → field ≢ field_text f) → (v : Variable) → IsVariableWith 3 v → text ≢ variable_text v
no_field text reference field split clear none =
    instance_only text (λ r f left right e. none f right (cut_dot text reference field r f split clear left e).1)
