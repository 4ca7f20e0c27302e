-- Proves that the statements of a source lead from the state before the first line to the source.
use Rattle.std.proofs.Common.{◌≡◌, ◌⊎◌, inl, inr, ℕ, ◌+◌, ◌-◌, ◌<◌, ◌≤◌, ◌||◌, Bool, true, false, List, [], ◌∷◌, ◌++◌, length, map, Option, Some, None, Ok, IsTrue, ℤ, pos, negsuc, int_le, ◌+ℤ◌, is_some, unwrap_or, refl, sym, ap, subst, ◌∙◌, append_assoc, append-nil, arith, codes}
use Rattle.std.specs.List.{AllByRecursion, list_any}
use Rattle.std.specs.Str.Lines.{lines}
use Rattle.std.proofs.lemmas.Bool.{cases_lt, or_parts, leb-true, le-leb}
use Rattle.std.proofs.lemmas.Int.{ints}
use Rattle.std.proofs.lemmas.List.{length-append}
use Rattle.jvms_file.specs.Spelling.{IsDistinctBy}
use Rattle.jasmin.specs.declared.source.CatchLine.{CatchLine}
use Rattle.jasmin.specs.declared.source.MatchLine.{MatchLine}
use Rattle.jasmin.specs.declared.source.Operation.{Operation}
use Rattle.jasmin.specs.declared.source.Operation.TheVariants as operation
use Rattle.jasmin.specs.declared.source.CodeItem.{CodeItem}
use Rattle.jasmin.specs.declared.source.CodeItem.TheVariants as item
use Rattle.jasmin.specs.declared.source.FieldLine.{FieldLine}
use Rattle.jasmin.specs.declared.source.MethodLines.{MethodLines}
use Rattle.jasmin.specs.declared.source.Source.{Source}
use Rattle.jasmin.specs.declared.statement.Instruction.TheVariants as instruction
use Rattle.jasmin.specs.declared.statement.Statement.{Statement}
use Rattle.jasmin.specs.declared.statement.Statement.TheVariants as statement
use Rattle.jasmin.specs.declared.reading.Part.{Part}
use Rattle.jasmin.specs.declared.reading.Part.TheVariants as part
use Rattle.jasmin.specs.declared.reading.OpenMethod.{OpenMethod}
use Rattle.jasmin.specs.declared.reading.Reading.{Reading}
use Rattle.jasmin.specs.Denote.{has_code}
use Rattle.jasmin.specs.Reading.{last_value, is_in_order, is_repeated, with_item, new_method, method_lines_of, with_statement, empty_reading, last_line, source_of_reading, source_of}
use Rattle.source_grammar_laws.specs.Lines.{IsPermitted, Suits}
use Rattle.source_grammar_laws.specs.Sources.{sort_of, IsDirective, AreRising, MakesItem, MakesCode, MakesMethod, Member, is_field, is_method, MakesMembers, fields_in, methods_in, same_field, same_method, IsBeginning, MakesSuper, MakesSource, Writes}
use Rattle.source_grammar_laws.proofs.Steps.{Admits, Runs, runs_on, lines_read}
use Rattle.source_grammar_laws.proofs.Bodies.{IsLimitBehind, IsFilled, changed, IsFresh, directive_peeled, item_quiet, takes_item, item_peeled}
use Rattle.source_grammar_laws.proofs.Inside.{at, plain, in_table, in_lookup, table_item, lookup_item}
use Rattle.source_grammar_laws.proofs.Outside.{before, begun, class_of}

-- ---- Directives of a method

-- A directive leads from one state of an open method to the next.
record IsInner (r : Reading) (m : OpenMethod) (d : Statement) : Type 0 where
  pub admitted : Admits (at r (Some (plain m))) d
  pub leads : with_statement (at r (Some (plain m))) d ≡ at r (Some (plain (changed d m)))
  pub same : changed d (plain m) ≡ plain (changed d m)

none_is : {A : Type 0} (o : Option A) → o ≡ None → is_some o ≡ false
none_is None e = refl
none_is (Some x) e = absurd cc

directive_runs : (r : Reading) (m : OpenMethod) (d : Statement) → IsDirective d → IsFresh d (plain m) → IsInner r m d
unfolding Suits is_repeated with_statement
directive_runs r m (statement.MaxStack n) is fresh = record { admitted = record { here = refl; suits = tt; once = none_is m.max_stack fresh }; leads = refl; same = refl }
directive_runs r m (statement.MaxLocals n) is fresh = record { admitted = record { here = refl; suits = tt; once = none_is m.max_locals fresh }; leads = refl; same = refl }
directive_runs r m (statement.Catch c) is fresh = record { admitted = record { here = refl; suits = tt; once = refl }; leads = refl; same = refl }
directive_runs r m (statement.Throws name) is fresh = record { admitted = record { here = refl; suits = tt; once = refl }; leads = refl; same = refl }
directive_runs r m statement.Dropped is fresh = record { admitted = record { here = refl; suits = tt; once = refl }; leads = refl; same = refl }
directive_runs r m _ is fresh = absurd is

-- Directives lead to another state of the open method.
record AreInner (r : Reading) (m : OpenMethod) (ds tail : List Statement) (items : List CodeItem) (lines : MethodLines) : Type 0 where
  pub next : OpenMethod
  pub runs : Runs (at r (Some (plain m))) ds (at r (Some (plain next)))
  pub filled : IsFilled (plain next) tail items lines

directives_run : (ds tail : List Statement) (r : Reading) (m : OpenMethod) (items : List CodeItem) (lines : MethodLines) → AllByRecursion IsDirective ds → IsFilled (plain m) (ds ++ tail) items lines → AreInner r m ds tail items lines
directives_run [] tail r m items lines all filled = record { next = m; runs = refl; filled = filled }
directives_run (d ∷ ds) tail r m items lines all filled =
    let peeled = directive_peeled d (plain m) (ds ++ tail) items lines all.0 filled in
    let inner = directive_runs r m d all.0 peeled.0 in
    let rest = directives_run ds tail r (changed d m) items lines all.1 (subst (λ (n : OpenMethod). IsFilled n (ds ++ tail) items lines) inner.same peeled.1) in
    record { next = rest.next; runs = (inner.admitted, subst (λ (q : Reading). Runs q ds (at r (Some (plain rest.next)))) (sym inner.leads) rest.runs); filled = rest.filled }

-- ---- Switches

sum_of : (a n : ℕ) → ((a < n) × (negsuc a +ℤ pos n ≡ pos (n - (a + 1)))) ⊎ ((n ≤ a) × (negsuc a +ℤ pos n ≡ negsuc (a - n)))
sum_of a n = elim (cases_lt a n) as (λ x. ((a < n) × (negsuc a +ℤ pos n ≡ pos (n - (a + 1)))) ⊎ ((n ≤ a) × (negsuc a +ℤ pos n ≡ negsuc (a - n)))) [
  | inl below ↦ inl (below, omega (arith, ints))
  | inr above ↦ inr (above, omega (arith, ints))
]

-- If the greatest value fits an int, so do the values below it.
below_top : (low : ℤ) (k n : ℕ) → k ≤ n → int_le (low +ℤ pos n) (pos 2147483647) ≡ true → int_le (low +ℤ pos k) (pos 2147483647) ≡ true
below_top (pos a) k n few top =
    let most : a + n ≤ 2147483647 = leb-true (a + n) 2147483647 top in
    le-leb (a + k) 2147483647 (omega arith)
below_top (negsuc a) k n few top = by (sum_of a k) (sum_of a n)
  where
    by : ((a < k) × (negsuc a +ℤ pos k ≡ pos (k - (a + 1)))) ⊎ ((k ≤ a) × (negsuc a +ℤ pos k ≡ negsuc (a - k))) → ((a < n) × (negsuc a +ℤ pos n ≡ pos (n - (a + 1)))) ⊎ ((n ≤ a) × (negsuc a +ℤ pos n ≡ negsuc (a - n))) → int_le (negsuc a +ℤ pos k) (pos 2147483647) ≡ true
    by (inr (down, is)) other = ap (λ (z : ℤ). int_le z (pos 2147483647)) is
    by (inl (up, is)) (inl (above, same)) =
        let test : int_le (pos (n - (a + 1))) (pos 2147483647) ≡ true = ap (λ (z : ℤ). int_le z (pos 2147483647)) (sym same) ∙ top in
        let most : n - (a + 1) ≤ 2147483647 = leb-true (n - (a + 1)) 2147483647 test in
        ap (λ (z : ℤ). int_le z (pos 2147483647)) is ∙ le-leb (k - (a + 1)) 2147483647 (omega arith)
    by (inl (up, is)) (inr (below, same)) = absurd (omega arith)

-- The remaining labels of a tableswitch and its default lead out of the switch.
table_runs : (more : List (List ℕ)) (labels : List (List ℕ)) (default : List ℕ) (r : Reading) (m : OpenMethod) (low : ℤ) → 0 < length (labels ++ more) → IsTrue (int_le (low +ℤ pos (length (labels ++ more) - 1)) (pos 2147483647))
    → Runs (at r (Some (in_table m low labels))) (map (λ label. statement.TableLabel label) more ++ statement.Default default ∷ []) (at r (Some (plain (with_item (table_item low (labels ++ more) default) m))))
unfolding Suits is_repeated with_statement
table_runs [] [] default r m low some high = absurd (omega arith)
table_runs [] (l ∷ ls) default r m low some high = (
  record { here = refl; suits = inl (low +ℤ pos (length (l ∷ ls)), refl); once = refl },
  ap (λ (all : List (List ℕ)). at r (Some (plain (with_item (table_item low all default) m)))) (sym (append-nil (l ∷ ls))),
)
table_runs (l ∷ ls) labels default r m low some high =
    let all : (labels ++ l ∷ []) ++ ls ≡ labels ++ l ∷ ls = append_assoc labels (l ∷ []) ls in
    let size = length-append labels (l ∷ ls) in
    let small = below_top low (length labels) (length (labels ++ l ∷ ls) - 1) (omega arith) high in
    let rest = table_runs ls (labels ++ l ∷ []) default r m low (subst (λ (xs : List (List ℕ)). 0 < length xs) (sym all) some) (subst (λ (xs : List (List ℕ)). IsTrue (int_le (low +ℤ pos (length xs - 1)) (pos 2147483647))) (sym all) high) in (
      record { here = refl; suits = (low +ℤ pos (length labels), refl, small); once = refl },
      subst (λ (xs : List (List ℕ)). Runs (at r (Some (in_table m low (labels ++ l ∷ [])))) (map (λ label. statement.TableLabel label) ls ++ statement.Default default ∷ []) (at r (Some (plain (with_item (table_item low xs default) m))))) all rest,
    )

last_is : (ms : List MatchLine) (m : MatchLine) → last_value (ms ++ m ∷ []) ≡ Some m.value
last_is [] m = refl
last_is (x ∷ []) m = refl
last_is (x ∷ y ∷ ms) m = last_is (y ∷ ms) m

lookup_runs : (more : List MatchLine) (matches : List MatchLine) (default : List ℕ) (r : Reading) (m : OpenMethod) → AreRising (last_value matches) more
    → Runs (at r (Some (in_lookup m matches))) (map (λ x. statement.Match x) more ++ statement.Default default ∷ []) (at r (Some (plain (with_item (lookup_item (matches ++ more) default) m))))
unfolding Suits is_repeated with_statement
lookup_runs [] matches default r m rising = (
  record { here = refl; suits = inr (last_value matches, refl); once = refl },
  ap (λ (all : List MatchLine). at r (Some (plain (with_item (lookup_item all default) m)))) (sym (append-nil matches)),
)
lookup_runs (x ∷ xs) matches default r m rising =
    let all : (matches ++ x ∷ []) ++ xs ≡ matches ++ x ∷ xs = append_assoc matches (x ∷ []) xs in
    let rest = lookup_runs xs (matches ++ x ∷ []) default r m (subst (λ (o : Option ℤ). AreRising o xs) (sym (last_is matches x)) rising.1) in (
      record { here = refl; suits = (last_value matches, refl, rising.0); once = refl },
      subst (λ (ms : List MatchLine). Runs (at r (Some (in_lookup m (matches ++ x ∷ [])))) (map (λ y. statement.Match y) xs ++ statement.Default default ∷ []) (at r (Some (plain (with_item (lookup_item ms default) m))))) all rest,
    )

-- ---- Items

or_none : (b : Bool) → IsTrue (b || false) → b ≡ true
or_none true e = refl
or_none false e = absurd cc

whole_runs : (o : Operation) (r : Reading) (m : OpenMethod) → IsTrue (has_code m.name m.access || false) → Runs (at r (Some (plain m))) (statement.Instruction (instruction.Whole o) ∷ []) (at r (Some (plain (with_item (item.Operation o) m))))
unfolding Suits is_repeated with_statement
whole_runs o r m takes = (record { here = or_none (has_code m.name m.access) takes; suits = refl; once = refl }, refl)

item_runs : (i : CodeItem) (mine : List Statement) (r : Reading) (m : OpenMethod) → MakesItem mine i → IsTrue (takes_item (plain m) i) → Runs (at r (Some (plain m))) mine (at r (Some (plain (with_item i m))))
unfolding Suits is_repeated with_statement
item_runs (item.Label label) mine r m e takes =
    subst (λ (ss : List Statement). Runs (at r (Some (plain m))) ss (at r (Some (plain (with_item (item.Label label) m))))) (sym e) (record { here = refl; suits = refl; once = refl }, refl)
item_runs (item.Operation (operation.Table table)) mine r m (e, some, high) takes =
    subst (λ (ss : List Statement). Runs (at r (Some (plain m))) ss (at r (Some (plain (with_item (item.Operation (operation.Table table)) m))))) (sym e)
    (record { here = or_none (has_code m.name m.access) takes; suits = refl; once = refl }, table_runs table.labels [] table.default r m table.low some high)
item_runs (item.Operation (operation.Lookup lookup)) mine r m (e, rising) takes =
    subst (λ (ss : List Statement). Runs (at r (Some (plain m))) ss (at r (Some (plain (with_item (item.Operation (operation.Lookup lookup)) m))))) (sym e)
    (record { here = or_none (has_code m.name m.access) takes; suits = refl; once = refl }, lookup_runs lookup.matches [] lookup.default r m rising)
item_runs (item.Operation o) mine r m e takes =
    subst (λ (ss : List Statement). Runs (at r (Some (plain m))) ss (at r (Some (plain (with_item (item.Operation o) m))))) (sym e) (whole_runs o r m takes)

-- ---- Bodies

lines_same : (a b : MethodLines) → a.access ≡ b.access → a.name ≡ b.name → a.descriptor ≡ b.descriptor → a.throws ≡ b.throws → a.max_stack ≡ b.max_stack → a.max_locals ≡ b.max_locals → a.catches ≡ b.catches → a.code ≡ b.code → a ≡ b
lines_same a b access name descriptor throws stack locals catches code =
    made a.access a.name a.descriptor a.throws a.max_stack a.max_locals a.catches a.code access name descriptor throws stack locals catches code
  where
    made : (a1 : ℕ) (a2 a3 : List ℕ) (a4 : List (List ℕ)) (a5 a6 : ℕ) (a7 : List CatchLine) (a8 : List CodeItem) → a1 ≡ b.access → a2 ≡ b.name → a3 ≡ b.descriptor → a4 ≡ b.throws → a5 ≡ b.max_stack → a6 ≡ b.max_locals → a7 ≡ b.catches → a8 ≡ b.code
        → ◌≡◌ {A = MethodLines} (record { access = a1; name = a2; descriptor = a3; throws = a4; max_stack = a5; max_locals = a6; catches = a7; code = a8 }) b
    made a1 a2 a3 a4 a5 a6 a7 a8 e1 e2 e3 e4 e5 e6 e7 e8 = rw (e1, e2, e3, e4, e5, e6, e7, e8) refl

limit_is : (o : Option ℕ) (n : ℕ) → IsLimitBehind o [] n → unwrap_or o 1 ≡ n
limit_is None n e = sym e
limit_is (Some k) n e = sym e

ended_is : (m : OpenMethod) (lines : MethodLines) → IsFilled (plain m) [] [] lines → method_lines_of (plain m) ≡ lines
ended_is m lines h =
    lines_same (method_lines_of (plain m)) lines (sym h.access) (sym h.name) (sym h.descriptor) (sym (h.throws ∙ append-nil m.throws)) (limit_is m.max_stack lines.max_stack h.stack) (limit_is m.max_locals lines.max_locals h.locals)
    (sym (h.catches ∙ append-nil m.catches)) (sym (h.items_are ∙ append-nil m.code))

-- A body leads to an open method, which closes as these lines.
record IsRun (r : Reading) (m : OpenMethod) (body : List Statement) (lines : MethodLines) : Type 0 where
  pub next : OpenMethod
  pub runs : Runs (at r (Some (plain m))) body (at r (Some (plain next)))
  pub is : method_lines_of (plain next) ≡ lines

body_runs : (items : List CodeItem) (body : List Statement) (r : Reading) (m : OpenMethod) (lines : MethodLines) → MakesCode body items → IsFilled (plain m) body items lines → IsRun r m body lines
body_runs [] body r m lines code filled =
    let inner = directives_run body [] r m [] lines code (subst (λ (ss : List Statement). IsFilled (plain m) ss [] lines) (sym (append-nil body)) filled) in
    record { next = inner.next; runs = inner.runs; is = ended_is inner.next lines inner.filled }
body_runs (i ∷ items) body r m lines (directives, mine, behind, whole, all, makes, rest) filled =
    let inner = directives_run directives (mine ++ behind) r m (i ∷ items) lines all (subst (λ (ss : List Statement). IsFilled (plain m) ss (i ∷ items) lines) whole filled) in
    let peeled = item_peeled i (plain inner.next) mine behind items lines (item_quiet i mine makes) inner.filled in
    let item_run = item_runs i mine r inner.next makes peeled.0 in
    let later = body_runs items behind r (with_item i inner.next) lines rest peeled.1 in
    let last = runs_on mine behind (at r (Some (plain inner.next))) (at r (Some (plain (with_item i inner.next)))) (at r (Some (plain later.next))) item_run later.runs in
    let whole_run = runs_on directives (mine ++ behind) (at r (Some (plain m))) (at r (Some (plain inner.next))) (at r (Some (plain later.next))) inner.runs last in
    record { next = later.next; runs = subst (λ (ss : List Statement). Runs (at r (Some (plain m))) ss (at r (Some (plain later.next)))) (sym whole) whole_run; is = later.is }

-- ---- Members

no_other : {A : Type 0} (p : A → Bool) (xs : List A) (y : A) (ys : List A) → list_any p (xs ++ y ∷ ys) ≡ false → p y ≡ false
no_other p [] y ys e = (or_parts (p y) (list_any p ys) e).0
no_other p (x ∷ xs) y ys e = no_other p xs y ys (or_parts (p x) (list_any p (xs ++ y ∷ ys)) e).1

-- In a list without repetition, no element is equal to one before it.
distinct_before : {A : Type 0} (same : A → A → Bool) (xs : List A) (y : A) (ys : List A) → IsDistinctBy same (xs ++ y ∷ ys) → list_any (λ x. same x y) xs ≡ false
distinct_before same [] y ys d = refl
distinct_before same (x ∷ xs) y ys d = rw (no_other (λ z. same x z) xs y ys d.0, distinct_before same xs y ys d.1) refl

-- Returns the state with these members added.
abbrev with_members : Reading → List Member → Reading
with_members r members = record r { fields = r.fields ++ fields_in members; methods = r.methods ++ methods_in members }

filled_by : (lines : MethodLines) (body : List Statement) → MakesMethod body lines → IsFilled (plain (new_method lines.access lines.name lines.descriptor)) body lines.code lines
filled_by lines body made =
    record { access = refl; name = refl; descriptor = refl; throws = made.1; catches = made.2; stack = made.3; locals = made.4; items_are = refl; takes = made.5 }

-- A method's statements, from its head to its end, add the method.
method_runs : (r : Reading) (lines : MethodLines) (body : List Statement) → IsPermitted (sort_of r.access) lines.access lines.name → list_any (λ m. same_method m lines) r.methods ≡ false → MakesMethod body lines
    → Runs (at r None) (statement.Method lines.access lines.name lines.descriptor ∷ (body ++ statement.EndMethod ∷ [])) (at (record r { methods = r.methods ++ lines ∷ [] }) None)
unfolding Suits is_repeated with_statement
method_runs r lines body permitted fresh made =
    let m = new_method lines.access lines.name lines.descriptor in
    let b = body_runs lines.code body r (new_method lines.access lines.name lines.descriptor) lines made.0 (filled_by lines body made) in
    let last : Runs (at r (Some (plain b.next))) (statement.EndMethod ∷ []) (at (record r { methods = r.methods ++ lines ∷ [] }) None) =
    (record { here = refl; suits = tt; once = refl }, ap (λ (x : MethodLines). at (record r { methods = r.methods ++ x ∷ [] }) None) b.is) in
    (record { here = refl; suits = permitted; once = fresh }, runs_on body (statement.EndMethod ∷ []) (at r (Some (plain (new_method lines.access lines.name lines.descriptor)))) (at r (Some (plain b.next))) (at (record r { methods = r.methods ++ lines ∷ [] }) None) b.runs last)

field_runs : (r : Reading) (f : FieldLine) → list_any (λ g. same_field g f) r.fields ≡ false → Admits (at r None) (statement.Field f)
unfolding Suits is_repeated
field_runs r f fresh = record { here = refl; suits = tt; once = fresh }

field_leads : (r : Reading) (f : FieldLine) → with_statement (at r None) (statement.Field f) ≡ at (record r { fields = r.fields ++ f ∷ [] }) None
unfolding with_statement
field_leads r f = refl

pub members_run : (members : List Member) (ss : List Statement) (r : Reading) → MakesMembers r.access ss members → IsDistinctBy same_field (r.fields ++ fields_in members) → IsDistinctBy same_method (r.methods ++ methods_in members) → Runs (at r None) ss (at (with_members r members) None)
members_run [] ss r none fields methods =
    subst (λ (xs : List Statement). Runs (at r None) xs (at (with_members r []) None)) (sym none)
    (rw (append-nil r.fields, append-nil r.methods) refl)
members_run (is_field f ∷ members) ss r (behind, e, rest) fields methods =
    let all : (r.fields ++ f ∷ []) ++ fields_in members ≡ r.fields ++ f ∷ fields_in members = append_assoc r.fields (f ∷ []) (fields_in members) in
    let next = record r { fields = r.fields ++ f ∷ [] } in
    let more = members_run members behind (record r { fields = r.fields ++ f ∷ [] }) rest (subst (IsDistinctBy same_field) (sym all) fields) methods in
    let more_all : Runs (at (record r { fields = r.fields ++ f ∷ [] }) None) behind (at (with_members r (is_field f ∷ members)) None) = subst (λ (fs : List FieldLine). Runs (at (record r { fields = r.fields ++ f ∷ [] }) None) behind (at (record r { fields = fs; methods = r.methods ++ methods_in members }) None)) all more in
    subst (λ (xs : List Statement). Runs (at r None) xs (at (with_members r (is_field f ∷ members)) None)) (sym e)
    (field_runs r f (distinct_before same_field r.fields f (fields_in members) fields), subst (λ (q : Reading). Runs q behind (at (with_members r (is_field f ∷ members)) None)) (sym (field_leads r f)) more_all)
members_run (is_method m ∷ members) ss r (body, behind, e, permitted, made, rest) fields methods =
    let all : (r.methods ++ m ∷ []) ++ methods_in members ≡ r.methods ++ m ∷ methods_in members = append_assoc r.methods (m ∷ []) (methods_in members) in
    let first = method_runs r m body permitted (distinct_before same_method r.methods m (methods_in members) methods) made in
    let more = members_run members behind (record r { methods = r.methods ++ m ∷ [] }) rest fields (subst (IsDistinctBy same_method) (sym all) methods) in
    let more_all : Runs (at (record r { methods = r.methods ++ m ∷ [] }) None) behind (at (with_members r (is_method m ∷ members)) None) = subst (λ (ms : List MethodLines). Runs (at (record r { methods = r.methods ++ m ∷ [] }) None) behind (at (record r { fields = r.fields ++ fields_in members; methods = ms }) None)) all more in
    let joined = runs_on (statement.Method m.access m.name m.descriptor ∷ (body ++ statement.EndMethod ∷ [])) behind (at r None) (at (record r { methods = r.methods ++ m ∷ [] }) None) (at (with_members r (is_method m ∷ members)) None) first more_all in
    let shape : statement.Method m.access m.name m.descriptor ∷ ((body ++ statement.EndMethod ∷ []) ++ behind) ≡ ss = ap (λ (xs : List Statement). statement.Method m.access m.name m.descriptor ∷ xs) (append_assoc body (statement.EndMethod ∷ []) behind) ∙ sym e in
    subst (λ (xs : List Statement). Runs (at r None) xs (at (with_members r (is_method m ∷ members)) None)) shape joined

-- ---- Parts before the members

-- A part that is after the class and before the members.
record IsEarly (p : Part) : Type 0 where
  pub implements : is_in_order p part.Implements ≡ true
  pub members : is_in_order p part.Members ≡ true

-- The state has these interfaces and members, and its other parts are the same.
record IsEnd (r : Reading) (interfaces : List (List ℕ)) (members : List Member) (t : Reading) : Type 0 where
  pub access : t.access ≡ r.access
  pub name : t.name ≡ r.name
  pub superclass : t.superclass ≡ r.superclass
  pub interfaces_are : t.interfaces ≡ interfaces
  pub fields : t.fields ≡ fields_in members
  pub methods : t.methods ≡ methods_in members
  pub none : t.method ≡ None

-- The statements lead from a state to the end.
record IsEnded (start r : Reading) (ss : List Statement) (interfaces : List (List ℕ)) (members : List Member) : Type 0 where
  pub t : Reading
  pub runs : Runs start ss t
  pub end : IsEnd r interfaces members t

abbrev bare : Reading → Reading
bare r = record r { fields = []; methods = [] }

full_end : (r : Reading) (members : List Member) → IsEnd r r.interfaces members (at (with_members (bare r) members) None)
full_end r members = record { access = refl; name = refl; superclass = refl; interfaces_are = refl; fields = refl; methods = refl; none = refl }

-- The first member may follow an earlier part.
first_field : (r : Reading) (p : Part) (f : FieldLine) (ss : List Statement) (t : Reading) → IsEarly p → Runs (at (bare r) None) (statement.Field f ∷ ss) t → Runs (before r p) (statement.Field f ∷ ss) t
unfolding Suits is_repeated with_statement
first_field r p f ss t early runs = (record { here = early.members; suits = tt; once = refl }, runs.1)

first_method : (r : Reading) (p : Part) (access : ℕ) (name descriptor : List ℕ) (ss : List Statement) (t : Reading) → IsEarly p → Runs (at (bare r) None) (statement.Method access name descriptor ∷ ss) t → Runs (before r p) (statement.Method access name descriptor ∷ ss) t
unfolding Suits is_repeated with_statement
first_method r p access name descriptor ss t early runs = (record { here = early.members; suits = runs.0.suits; once = refl }, runs.1)

early_members : (members : List Member) (ss : List Statement) (r : Reading) (p : Part) → IsEarly p → MakesMembers r.access ss members → IsDistinctBy same_field (fields_in members) → IsDistinctBy same_method (methods_in members) → IsEnded (before r p) r ss r.interfaces members
early_members [] ss r p early none fields methods =
    record { t = before r p; runs = subst (λ (xs : List Statement). Runs (before r p) xs (before r p)) (sym none) refl; end = record { access = refl; name = refl; superclass = refl; interfaces_are = refl; fields = refl; methods = refl; none = refl } }
early_members (is_field f ∷ members) ss r p early (behind, e, rest) fields methods =
    let t = at (with_members (bare r) (is_field f ∷ members)) None in
    let inner = members_run (is_field f ∷ members) ss (bare r) (behind, e, rest) fields methods in
    let first = first_field r p f behind (at (with_members (bare r) (is_field f ∷ members)) None) early (subst (λ (xs : List Statement). Runs (at (bare r) None) xs (at (with_members (bare r) (is_field f ∷ members)) None)) e inner) in
    record {
      t = at (with_members (bare r) (is_field f ∷ members)) None;
      runs = subst (λ (xs : List Statement). Runs (before r p) xs (at (with_members (bare r) (is_field f ∷ members)) None)) (sym e) first;
      end = full_end r (is_field f ∷ members);
    }
early_members (is_method m ∷ members) ss r p early (body, behind, e, permitted, made, rest) fields methods =
    let inner = members_run (is_method m ∷ members) ss (bare r) (body, behind, e, permitted, made, rest) fields methods in
    let first = first_method r p m.access m.name m.descriptor (body ++ statement.EndMethod ∷ behind) (at (with_members (bare r) (is_method m ∷ members)) None) early (subst (λ (xs : List Statement). Runs (at (bare r) None) xs (at (with_members (bare r) (is_method m ∷ members)) None)) e inner) in
    record {
      t = at (with_members (bare r) (is_method m ∷ members)) None;
      runs = subst (λ (xs : List Statement). Runs (before r p) xs (at (with_members (bare r) (is_method m ∷ members)) None)) (sym e) first;
      end = full_end r (is_method m ∷ members);
    }

implements_admitted : (r : Reading) (p : Part) (name : List ℕ) → IsEarly p → Admits (before r p) (statement.Implements name)
unfolding Suits is_repeated
implements_admitted r p name early = record { here = early.implements; suits = tt; once = refl }

implements_leads : (r : Reading) (p : Part) (name : List ℕ) → with_statement (before r p) (statement.Implements name) ≡ before (record r { interfaces = r.interfaces ++ name ∷ [] }) part.Implements
unfolding with_statement
implements_leads r p name = refl

early_interfaces : (names : List (List ℕ)) (members : List Member) (ss : List Statement) (r : Reading) (p : Part) → IsEarly p → MakesMembers r.access ss members → IsDistinctBy same_field (fields_in members) → IsDistinctBy same_method (methods_in members)
    → IsEnded (before r p) r (map (λ name. statement.Implements name) names ++ ss) (r.interfaces ++ names) members
early_interfaces [] members ss r p early made fields methods =
    subst (λ (is : List (List ℕ)). IsEnded (before r p) r ss is members) (sym (append-nil r.interfaces)) (early_members members ss r p early made fields methods)
early_interfaces (name ∷ names) members ss r p early made fields methods =
    let next = record r { interfaces = r.interfaces ++ name ∷ [] } in
    let rest = early_interfaces names members ss (record r { interfaces = r.interfaces ++ name ∷ [] }) part.Implements (record { implements = refl; members = refl }) made fields methods in
    record {
      t = rest.t;
      runs = (implements_admitted r p name early, subst (λ (q : Reading). Runs q (map (λ n. statement.Implements n) names ++ ss) rest.t) (sym (implements_leads r p name)) rest.runs);
      end = record { access = rest.end.access; name = rest.end.name; superclass = rest.end.superclass; interfaces_are = rest.end.interfaces_are ∙ append_assoc r.interfaces (name ∷ []) names; fields = rest.end.fields; methods = rest.end.methods; none = rest.end.none };
    }

-- ---- The class and its superclass

record IsClassEnd (start : Reading) (ss : List Statement) (access : ℕ) (name super : List ℕ) (interfaces : List (List ℕ)) (members : List Member) : Type 0 where
  pub t : Reading
  pub runs : Runs start ss t
  pub access_is : t.access ≡ access
  pub name_is : t.name ≡ Some name
  pub superclass : unwrap_or t.superclass (codes "java/lang/Object") ≡ super
  pub interfaces_are : t.interfaces ≡ interfaces
  pub fields : t.fields ≡ fields_in members
  pub methods : t.methods ≡ methods_in members
  pub none : t.method ≡ None

class_runs : (bytecode source : Bool) (access : ℕ) (name super : List ℕ) (first : List Statement) (interfaces : List (List ℕ)) (members : List Member) (ss : List Statement) → MakesSuper first super → MakesMembers access ss members → IsDistinctBy same_field (fields_in members) → IsDistinctBy same_method (methods_in members)
    → IsClassEnd (class_of bytecode source access name) (first ++ (map (λ n. statement.Implements n) interfaces ++ ss)) access name super interfaces members
unfolding Suits is_repeated with_statement
class_runs b f access name super first interfaces members ss (inl (e, object)) made fields methods =
    let h = early_interfaces interfaces members ss (class_of b f access name) part.Class (record { implements = refl; members = refl }) made fields methods in
    record {
      t = h.t;
      runs = subst (λ (xs : List Statement). Runs (class_of b f access name) (xs ++ (map (λ n. statement.Implements n) interfaces ++ ss)) h.t) (sym e) h.runs;
      access_is = h.end.access;
      name_is = h.end.name;
      superclass = ap (λ (o : Option (List ℕ)). unwrap_or o (codes "java/lang/Object")) h.end.superclass ∙ sym object;
      interfaces_are = h.end.interfaces_are;
      fields = h.end.fields;
      methods = h.end.methods;
      none = h.end.none;
    }
class_runs b f access name super first interfaces members ss (inr e) made fields methods =
    let h = early_interfaces interfaces members ss (record (class_of b f access name) { superclass = Some super }) part.Super (record { implements = refl; members = refl }) made fields methods in
    record {
      t = h.t;
      runs = subst (λ (xs : List Statement). Runs (class_of b f access name) (xs ++ (map (λ n. statement.Implements n) interfaces ++ ss)) h.t) (sym e) (record { here = refl; suits = tt; once = refl }, h.runs);
      access_is = h.end.access;
      name_is = h.end.name;
      superclass = ap (λ (o : Option (List ℕ)). unwrap_or o (codes "java/lang/Object")) h.end.superclass;
      interfaces_are = h.end.interfaces_are;
      fields = h.end.fields;
      methods = h.end.methods;
      none = h.end.none;
    }

-- ---- The beginning

record IsBegun (ss : List Statement) : Type 0 where
  pub bytecode : Bool
  pub source : Bool
  pub runs : Runs empty_reading ss (begun bytecode source)

beginning_runs : (ss : List Statement) → IsBeginning ss → IsBegun ss
unfolding Suits is_repeated with_statement
beginning_runs ss (inl e) = subst IsBegun (sym e) (record { bytecode = false; source = false; runs = refl })
beginning_runs ss (inr (inl e)) = subst IsBegun (sym e) (record { bytecode = true; source = false; runs = (record { here = refl; suits = tt; once = refl }, refl) })
beginning_runs ss (inr (inr (inl e))) = subst IsBegun (sym e) (record { bytecode = false; source = true; runs = (record { here = refl; suits = tt; once = refl }, refl) })
beginning_runs ss (inr (inr (inr (inl e)))) =
    subst IsBegun (sym e) (record { bytecode = true; source = true; runs = (record { here = refl; suits = tt; once = refl }, (record { here = refl; suits = tt; once = refl }, refl)) })
beginning_runs ss (inr (inr (inr (inr e)))) =
    subst IsBegun (sym e) (record { bytecode = true; source = true; runs = (record { here = refl; suits = tt; once = refl }, (record { here = refl; suits = tt; once = refl }, refl)) })

class_admitted : (bytecode source : Bool) (access : ℕ) (name : List ℕ) → Admits (begun bytecode source) (statement.Class access name)
unfolding Suits is_repeated
class_admitted bytecode source access name = record { here = refl; suits = tt; once = refl }

class_leads : (bytecode source : Bool) (access : ℕ) (name : List ℕ) → with_statement (begun bytecode source) (statement.Class access name) ≡ class_of bytecode source access name
unfolding with_statement
class_leads bytecode source access name = refl

-- ---- The source

tree_is : (last : ℕ) (t : Reading) (s : Source) (name : Option (List ℕ)) (method : Option OpenMethod) → name ≡ Some s.name → method ≡ None → t.access ≡ s.access → unwrap_or t.superclass (codes "java/lang/Object") ≡ s.superclass → t.interfaces ≡ s.interfaces → t.fields ≡ s.fields → t.methods ≡ s.methods
    → source_of_reading last (record t { name = name; method = method }) ≡ Ok s
tree_is last t s name method named none access superclass interfaces fields methods = rw (named, none, access, superclass, interfaces, fields, methods) refl

source_runs : (ss : List Statement) (s : Source) (last : ℕ) → MakesSource ss s → (t : Reading) × Runs empty_reading ss t × (source_of_reading last t ≡ Ok s)
source_runs ss s last made =
    let first = beginning_runs made.beginning made.begins in
    let class = class_runs first.bytecode first.source s.access s.name s.superclass made.super s.interfaces made.members made.behind made.superclass made.body (subst (IsDistinctBy same_field) made.fields made.distinct_fields) (subst (IsDistinctBy same_method) made.methods made.distinct_methods) in
    let rest = made.super ++ (map (λ name. statement.Implements name) s.interfaces ++ made.behind) in
    let from_class : Runs (begun first.bytecode first.source) (statement.Class s.access s.name ∷ (made.super ++ (map (λ name. statement.Implements name) s.interfaces ++ made.behind))) class.t =
    (class_admitted first.bytecode first.source s.access s.name, subst (λ (q : Reading). Runs q (made.super ++ (map (λ name. statement.Implements name) s.interfaces ++ made.behind)) class.t) (sym (class_leads first.bytecode first.source s.access s.name)) class.runs) in
    let all = runs_on made.beginning (statement.Class s.access s.name ∷ (made.super ++ (map (λ name. statement.Implements name) s.interfaces ++ made.behind))) empty_reading (begun first.bytecode first.source) class.t first.runs from_class in (
      class.t,
      subst (λ (xs : List Statement). Runs empty_reading xs class.t) (sym made.parts) all,
      tree_is last class.t s class.t.name class.t.method class.name_is class.none class.access_is class.superclass class.interfaces_are (class.fields ∙ sym made.fields) (class.methods ∙ sym made.methods),
    )

pub source_read : (text : List ℕ) (s : Source) → Writes text s → source_of text ≡ Ok s
unfolding source_of
source_read text s writes =
    let h = source_runs writes.statements s (last_line (lines text)) writes.source in
    rw (lines_read (lines text) 0 empty_reading h.0 writes.statements writes.lines_spell h.1) h.2
