-- A text is that of one list of items, or has one first faulty line.
use Rattle.std.proofs.Common.{◌≡◌, ◌≢◌, ℕ, suc, ◌+◌, ◌<◌, Bool, true, false, List, [], ◌∷◌, ◌++◌, length, ◌⊎◌, inl, inr, Option, Some, None, Result, Ok, Err, refl, sym, ap, ◌∙◌, append_assoc, arith}
use Rattle.std.specs.Fmt.{decimal}
use Rattle.std.specs.List.{AllByRecursion, flat_map}
use Rattle.jvms_machine.specs.declared.trace.Item.{Item}
use Rattle.jvms_machine.specs.declared.trace.Item.TheVariants as item
use Rattle.jvms_machine.specs.declared.trace.Variable.{Variable}
use Rattle.jvms_machine.specs.declared.trace.Variable.TheVariants as variable
use Rattle.jvms_program.specs.declared.key.FieldKey.{FieldKey}
use Rattle.jvms_program.specs.declared.key.MethodKey.{MethodKey}
use Rattle.escapes.specs.declared.sort.NameSort.TheVariants as sort
use Rattle.escapes.specs.Cuts.{dots_in}
use Rattle.escapes.specs.Keys.{IsFieldKey, IsMethodKey, field_text, method_text}
use Rattle.escapes.proofs.Cutting.{one_cut}
use Rattle.escapes.proofs.Members.{SameParts, one_member}
use Rattle.trace_text.specs.declared.fault.TraceFault.{TraceFault}
use Rattle.trace_text.specs.declared.fault.TraceFault.TheVariants as fault
use Rattle.jvms_machine.specs.Events.{thread_of}
use Rattle.trace_text.specs.Items.{IsNumber, IsVariable, IsItem, variable_text, word_of, touched_text, item_text}
use Rattle.trace_text.specs.Parts.{word_text, kind_of, dots_of}
use Rattle.trace_text.specs.Traces.{item_line, trace_text, IsTextOf, IsFaulty, BeginsWithNoItem, IsRead}
use Rattle.trace_text.proofs.Numbers.{one_number, number_below, number_above}
use Rattle.trace_text.proofs.Variables.{variable_dots, element_is}
use Rattle.trace_text.proofs.Lines.{word_is, one_word, item_parts, are_item, item_no_end, one_line}

-- ---- Keys

abbrev field_key : List ℕ → List ℕ → List ℕ → FieldKey
field_key c n d = record { class = c; name = n; descriptor = d }

pub one_field : (f g : FieldKey) → IsFieldKey f → IsFieldKey g → field_text f ≡ field_text g → f ≡ g
one_field f g left right e =
    let same = one_member sort.Field sort.FieldDescriptor f.class f.name f.descriptor g.class g.name g.descriptor left right e in
    ap (λ c. field_key c f.name f.descriptor) same.same_first ∙ ap (λ n. field_key g.class n f.descriptor) same.same_second ∙ ap (λ d. field_key g.class g.name d) same.same_third

abbrev method_key : List ℕ → List ℕ → List ℕ → MethodKey
method_key c n d = record { class = c; name = n; descriptor = d }

pub one_method : (f g : MethodKey) → IsMethodKey f → IsMethodKey g → method_text f ≡ method_text g → f ≡ g
one_method f g left right e =
    let same = one_member sort.Method sort.MethodDescriptor f.class f.name f.descriptor g.class g.name g.descriptor left right e in
    ap (λ c. method_key c f.name f.descriptor) same.same_first ∙ ap (λ n. method_key g.class n f.descriptor) same.same_second ∙ ap (λ d. method_key g.class g.name d) same.same_third

-- ---- Variables

same_instance : (r q : ℕ) (f g : FieldKey) → IsNumber r → IsNumber q → IsFieldKey f → IsFieldKey g → decimal r ++ 46 ∷ field_text f ≡ decimal q ++ 46 ∷ field_text g → variable.Instance r f ≡ variable.Instance q g
same_instance r q f g rn qn ff gf e =
    let parts = one_cut 46 (decimal r) (field_text f) (decimal q) (field_text g) (number_below 46 r (omega arith) rn) (number_below 46 q (omega arith) qn) e in
    ap (λ (n : ℕ). variable.Instance n f) (one_number r q rn qn parts.0) ∙ ap (λ (k : FieldKey). variable.Instance q k) (one_field f g ff gf parts.1)

same_element : (r i q j : ℕ) → IsNumber r → IsNumber i → IsNumber q → IsNumber j → decimal r ++ 91 ∷ (decimal i ++ 93 ∷ []) ≡ decimal q ++ 91 ∷ (decimal j ++ 93 ∷ []) → variable.Element r i ≡ variable.Element q j
same_element r i q j rn in' qn jn e =
    let parts = one_cut 91 (decimal r) (decimal i ++ 93 ∷ []) (decimal q) (decimal j ++ 93 ∷ []) (number_above 91 r (omega arith) rn) (number_above 91 q (omega arith) qn) e in
    let inner = one_cut 93 (decimal i) [] (decimal j) [] (number_above 93 i (omega arith) in') (number_above 93 j (omega arith) jn) parts.1 in
    ap (λ (n : ℕ). variable.Element n i) (one_number r q rn qn parts.0) ∙ ap (λ (n : ℕ). variable.Element q n) (one_number i j in' jn inner.0)

by_dots : (v w : Variable) → IsVariable v → IsVariable w → dots_of v ≡ dots_of w → variable_text v ≡ variable_text w → v ≡ w
by_dots (variable.Instance r f) (variable.Instance q g) left right dots e = same_instance r q f g left.0 right.0 left.1 right.1 e
by_dots (variable.Instance r f) w left right dots e = absurd (omega arith)
by_dots (variable.Static f) (variable.Static g) left right dots e = ap (λ (k : FieldKey). variable.Static k) (one_field f g left right e)
by_dots (variable.Static f) w left right dots e = absurd (omega arith)
by_dots (variable.Element r i) (variable.Element q j) left right dots e = same_element r i q j left.0 left.1 right.0 right.1 (sym (element_is r i) ∙ e ∙ element_is q j)
by_dots (variable.Element r i) w left right dots e = absurd (omega arith)

pub one_variable : (v w : Variable) → IsVariable v → IsVariable w → variable_text v ≡ variable_text w → v ≡ w
one_variable v w left right e = by_dots v w left right (sym (variable_dots v left) ∙ ap dots_in e ∙ variable_dots w right) e

-- ---- Items

by_kind : (a b : Item) → IsItem a → IsItem b → kind_of a ≡ kind_of b → thread_of a ≡ thread_of b → touched_text a ≡ touched_text b → a ≡ b
by_kind (item.Read t v) (item.Read u w) left right kind thread e = ap (λ (n : ℕ). item.Read n v) thread ∙ ap (λ (x : Variable). item.Read u x) (one_variable v w left.1 right.1 e)
by_kind (item.Read t v) b left right kind thread e = absurd cc
by_kind (item.Write t v) (item.Write u w) left right kind thread e = ap (λ (n : ℕ). item.Write n v) thread ∙ ap (λ (x : Variable). item.Write u x) (one_variable v w left.1 right.1 e)
by_kind (item.Write t v) b left right kind thread e = absurd cc
by_kind (item.Acquire t r) (item.Acquire u q) left right kind thread e = ap (λ (n : ℕ). item.Acquire n r) thread ∙ ap (λ (x : ℕ). item.Acquire u x) (one_number r q left.1 right.1 e)
by_kind (item.Acquire t r) b left right kind thread e = absurd cc
by_kind (item.Release t r) (item.Release u q) left right kind thread e = ap (λ (n : ℕ). item.Release n r) thread ∙ ap (λ (x : ℕ). item.Release u x) (one_number r q left.1 right.1 e)
by_kind (item.Release t r) b left right kind thread e = absurd cc
by_kind (item.Fork t r) (item.Fork u q) left right kind thread e = ap (λ (n : ℕ). item.Fork n r) thread ∙ ap (λ (x : ℕ). item.Fork u x) (one_number r q left.1 right.1 e)
by_kind (item.Fork t r) b left right kind thread e = absurd cc
by_kind (item.Join t r) (item.Join u q) left right kind thread e = ap (λ (n : ℕ). item.Join n r) thread ∙ ap (λ (x : ℕ). item.Join u x) (one_number r q left.1 right.1 e)
by_kind (item.Join t r) b left right kind thread e = absurd cc
by_kind (item.Enter t m) (item.Enter u k) left right kind thread e = ap (λ (n : ℕ). item.Enter n m) thread ∙ ap (λ (x : MethodKey). item.Enter u x) (one_method m k left.1 right.1 e)
by_kind (item.Enter t m) b left right kind thread e = absurd cc
by_kind (item.Exit t m) (item.Exit u k) left right kind thread e = ap (λ (n : ℕ). item.Exit n m) thread ∙ ap (λ (x : MethodKey). item.Exit u x) (one_method m k left.1 right.1 e)
by_kind (item.Exit t m) b left right kind thread e = absurd cc

pub one_item : (a b : Item) → IsItem a → IsItem b → item_text a ≡ item_text b → a ≡ b
one_item a b left right e =
    let same = are_item (item_text a) (word_of a) (decimal (thread_of a)) (touched_text a) b (item_parts a left) right e in
    by_kind a b left right (one_word (kind_of a) (kind_of b) (word_is a ∙ same.same_first ∙ sym (word_is b))) (one_number (thread_of a) (thread_of b) left.0 right.0 same.same_second) same.same_third

-- ---- Traces

line_then : (i : Item) (rest : List ℕ) → item_line i ++ rest ≡ item_text i ++ 10 ∷ rest
line_then i rest = append_assoc (item_text i) (10 ∷ []) rest

some_line : (i : Item) (rest : List ℕ) → item_line i ++ rest ≢ []
some_line i rest e = nothing (item_text i) (sym (line_then i rest) ∙ e)
  where
    nothing : (xs : List ℕ) → xs ++ 10 ∷ rest ≡ [] → ⊥
    nothing [] h = cc
    nothing (x ∷ xs) h = cc

-- Two lines at the beginning of one text are of the same item.
first_same : (a b : Item) (xs ys : List ℕ) → IsItem a → IsItem b → item_line a ++ xs ≡ item_line b ++ ys → (a ≡ b) × (xs ≡ ys)
first_same a b xs ys left right e =
    let parts = one_line b (item_line a ++ xs) (item_text a) xs ys (line_then a xs) (item_no_end a left) right e in
    (one_item a b left right parts.0, parts.1)

pub one_trace : (as' bs : List Item) → AllByRecursion IsItem as' → AllByRecursion IsItem bs → trace_text as' ≡ trace_text bs → as' ≡ bs
one_trace [] [] left right e = refl
one_trace [] (b ∷ bs) left right e = absurd (some_line b (trace_text bs) (sym e))
one_trace (a ∷ as') [] left right e = absurd (some_line a (trace_text as') e)
one_trace (a ∷ as') (b ∷ bs) left right e =
    let parts = first_same a b (trace_text as') (trace_text bs) left.0 right.0 e in
    ap (λ (x : Item). x ∷ as') parts.0 ∙ ap (λ (xs : List Item). b ∷ xs) (one_trace as' bs left.1 right.1 parts.1)

-- A text of items followed by no item's line is not the text of any items.
no_fault_in : (before items : List Item) (rest : List ℕ) → AllByRecursion IsItem before → AllByRecursion IsItem items → trace_text before ++ rest ≡ trace_text items → BeginsWithNoItem rest → ⊥
no_fault_in [] [] rest left right e fault = fault.some e
no_fault_in [] (i ∷ items) rest left right e fault = fault.none i (trace_text items) right.0 e
no_fault_in (b ∷ before) [] rest left right e fault = some_line b (trace_text before ++ rest) (sym (append_assoc (item_line b) (trace_text before) rest) ∙ e)
no_fault_in (b ∷ before) (i ∷ items) rest left right e fault =
    let parts = first_same b i (trace_text before ++ rest) (trace_text items) left.0 right.0 (sym (append_assoc (item_line b) (trace_text before) rest) ∙ e) in
    no_fault_in before items rest left.1 right.1 parts.1 fault

pub no_fault : (text : List ℕ) (items : List Item) (line : ℕ) → IsTextOf text items → IsFaulty text line → ⊥
no_fault text items line is fault = no_fault_in fault.items items fault.rest fault.are_valid is.are_valid (sym fault.split ∙ is.written) fault.fault

-- Two prefixes of a text that both end before the first faulty line have the same length.
same_length : (xs ys : List Item) (left_rest right_rest : List ℕ) → AllByRecursion IsItem xs → AllByRecursion IsItem ys → trace_text xs ++ left_rest ≡ trace_text ys ++ right_rest
    → BeginsWithNoItem left_rest → BeginsWithNoItem right_rest → length xs ≡ length ys
same_length [] [] left_rest right_rest xa ya e left right = refl
same_length [] (y ∷ ys) left_rest right_rest xa ya e left right =
    absurd (left.none y (trace_text ys ++ right_rest) ya.0 (e ∙ append_assoc (item_line y) (trace_text ys) right_rest))
same_length (x ∷ xs) [] left_rest right_rest xa ya e left right =
    absurd (right.none x (trace_text xs ++ left_rest) xa.0 (sym e ∙ append_assoc (item_line x) (trace_text xs) left_rest))
same_length (x ∷ xs) (y ∷ ys) left_rest right_rest xa ya e left right =
    let parts = first_same x y (trace_text xs ++ left_rest) (trace_text ys ++ right_rest) xa.0 ya.0
    (sym (append_assoc (item_line x) (trace_text xs) left_rest) ∙ e ∙ append_assoc (item_line y) (trace_text ys) right_rest) in
    ap suc (same_length xs ys left_rest right_rest xa.1 ya.1 parts.1 left right)

pub one_fault : (text : List ℕ) (j k : ℕ) → IsFaulty text j → IsFaulty text k → j ≡ k
one_fault text j k left right =
    let same = same_length left.items right.items left.rest right.rest left.are_valid right.are_valid (sym left.split ∙ right.split) left.fault right.fault in
    left.count ∙ ap suc same ∙ sym right.count

-- Reading the text of items returns the same items.
pub read_again : (items : List Item) (answer : Result (List Item) TraceFault) → AllByRecursion IsItem items → IsRead (trace_text items) answer → (answer ≡ Ok items) ⊎ (answer ≡ Err fault.Memory)
read_again items (Ok again) are read = inl (ap (λ (xs : List Item). Ok xs) (sym (one_trace items again are read.are_valid read.written)))
read_again items (Err (fault.Syntax line)) are read = absurd (no_fault (trace_text items) items line (record { are_valid = are; written = refl }) read)
read_again items (Err fault.Memory) are read = inr refl
