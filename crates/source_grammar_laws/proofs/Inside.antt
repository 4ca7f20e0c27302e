-- Proves what the statements of fields and methods make, from the state before the first to that after the last.
use Rattle.std.proofs.Common.{◌≡◌, ◌⊎◌, inl, inr, ℕ, ◌-◌, ◌<◌, ◌||◌, Bool, true, false, List, [], ◌∷◌, ◌++◌, length, map, Option, Some, None, IsTrue, ℤ, pos, int_le, ◌+ℤ◌, is_some, unwrap_or, refl, sym, ap, subst, ◌∙◌, append_assoc, append-nil, arith}
use Rattle.std.specs.List.{AllByRecursion, list_all}
use Rattle.std.proofs.lemmas.List.{length-append}
use Rattle.std.proofs.lemmas.Option.{none-some}
use Rattle.jvms_file.specs.Instructions.{is_above}
use Rattle.jasmin.specs.declared.source.MatchLine.{MatchLine}
use Rattle.jasmin.specs.declared.source.Operation.{Operation}
use Rattle.jasmin.specs.declared.source.Operation.TheVariants as operation
use Rattle.jasmin.specs.declared.source.CodeItem.{CodeItem}
use Rattle.jasmin.specs.declared.source.CodeItem.TheVariants as item
use Rattle.jasmin.specs.declared.source.FieldLine.{FieldLine}
use Rattle.jasmin.specs.declared.source.MethodLines.{MethodLines}
use Rattle.jasmin.specs.declared.statement.OpenSwitch.TheVariants as open_switch
use Rattle.jasmin.specs.declared.statement.Instruction.TheVariants as instruction
use Rattle.jasmin.specs.declared.statement.Statement.{Statement}
use Rattle.jasmin.specs.declared.statement.Statement.TheVariants as statement
use Rattle.jasmin.specs.declared.reading.Part.TheVariants as part
use Rattle.jasmin.specs.declared.reading.SwitchLines.{SwitchLines}
use Rattle.jasmin.specs.declared.reading.SwitchLines.TheVariants as switch_lines
use Rattle.jasmin.specs.declared.reading.OpenMethod.{OpenMethod}
use Rattle.jasmin.specs.declared.reading.Reading.{Reading}
use Rattle.jasmin.specs.Denote.{has_code}
use Rattle.jasmin.specs.Reading.{last_value, is_repeated, with_item, new_method, method_lines_of, with_statement}
use Rattle.source_grammar_laws.specs.Lines.{IsPermitted, Suits}
use Rattle.source_grammar_laws.specs.Sources.{sort_of, IsDirective, AreRising, MakesItem, MakesCode, is_label_item, MakesMethod, Member, is_field, is_method, MakesMembers, fields_in, methods_in}
use Rattle.source_grammar_laws.proofs.Steps.{Admits, Runs, IsWhole, IsApart}
use Rattle.source_grammar_laws.proofs.Bodies.{IsLimitBehind, IsFilled, changed, IsFresh, directive_pushed, code_after_directive, item_quiet, takes_item, item_pushed}

-- ---- The remaining statements

-- Returns the state among the members, with this open method or none.
abbrev pub at : Reading → Option OpenMethod → Reading
at r o = record r { part = part.Members; method = o }

-- The statements make members up to the end.
pub record RestMembers (access : ℕ) (fields : List FieldLine) (methods : List MethodLines) (ss : List Statement) (t : Reading) : Type 0 where
  pub members : List Member
  pub body : MakesMembers access ss members
  pub fields_are : t.fields ≡ fields ++ fields_in members
  pub methods_are : t.methods ≡ methods ++ methods_in members

-- The statements make the rest of a method, and members after it.
pub record RestMethod (r : Reading) (m : OpenMethod) (ss : List Statement) (t : Reading) : Type 0 where
  pub lines : MethodLines
  pub body : List Statement
  pub behind : List Statement
  pub items : List CodeItem
  pub whole : ss ≡ body ++ statement.EndMethod ∷ behind
  pub code : MakesCode body items
  pub filled : IsFilled m body items lines
  pub rest : RestMembers r.access r.fields (r.methods ++ lines ∷ []) behind t

abbrev pub table_item : ℤ → List (List ℕ) → List ℕ → CodeItem
table_item low labels default = item.Operation (operation.Table (record { low = low; labels = labels; default = default }))

abbrev pub lookup_item : List MatchLine → List ℕ → CodeItem
lookup_item matches default = item.Operation (operation.Lookup (record { matches = matches; default = default }))

-- The value of the last label fits an int, if at least one label follows.
abbrev IsHigh : ℤ → List (List ℕ) → List (List ℕ) → Type 0
IsHigh low labels [] = Unit {0}
IsHigh low labels (l ∷ ls) = IsTrue (int_le (low +ℤ pos (length (labels ++ l ∷ ls) - 1)) (pos 2147483647))

-- The statements make the rest of a tableswitch, and of its method.
pub record RestTable (r : Reading) (m : OpenMethod) (low : ℤ) (labels : List (List ℕ)) (ss : List Statement) (t : Reading) : Type 0 where
  pub more : List (List ℕ)
  pub default : List ℕ
  pub behind : List Statement
  pub whole : ss ≡ (map (λ label. statement.TableLabel label) more ++ statement.Default default ∷ []) ++ behind
  pub some : 0 < length (labels ++ more)
  pub high : IsHigh low labels more
  pub rest : RestMethod r (record (with_item (table_item low (labels ++ more) default) m) { switch = None }) behind t

-- The statements make the rest of a lookupswitch, and of its method.
pub record RestLookup (r : Reading) (m : OpenMethod) (matches : List MatchLine) (ss : List Statement) (t : Reading) : Type 0 where
  pub more : List MatchLine
  pub default : List ℕ
  pub behind : List Statement
  pub whole : ss ≡ (map (λ x. statement.Match x) more ++ statement.Default default ∷ []) ++ behind
  pub rising : AreRising (last_value matches) more
  pub rest : RestMethod r (record (with_item (lookup_item (matches ++ more) default) m) { switch = None }) behind t

abbrev pub InMethod : Reading → OpenMethod → Option SwitchLines → List Statement → Reading → Type 0
InMethod r m None ss t = RestMethod r m ss t
InMethod r m (Some (switch_lines.Table low labels)) ss t = RestTable r m low labels ss t
InMethod r m (Some (switch_lines.Lookup matches)) ss t = RestLookup r m matches ss t

abbrev pub InsideOf : Reading → Option OpenMethod → List Statement → Reading → Type 0
InsideOf r None ss t = RestMembers r.access r.fields r.methods ss t
InsideOf r (Some m) ss t = InMethod r m m.switch ss t

-- The parts of the state that no member changes.
pub record IsKept (r t : Reading) : Type 0 where
  pub access : t.access ≡ r.access
  pub name : t.name ≡ r.name
  pub superclass : t.superclass ≡ r.superclass
  pub interfaces : t.interfaces ≡ r.interfaces

-- The statements after one make the rest of the class.
abbrev Later : List Statement → Reading → Type 0
Later ss t = (r : Reading) (o : Option OpenMethod) → Runs (at r o) ss t → InsideOf r o ss t × IsKept r t

-- ---- Outside of methods

field_said : (ss : List Statement) (r t : Reading) (f : FieldLine) → RestMembers r.access (r.fields ++ f ∷ []) r.methods ss t → RestMembers r.access r.fields r.methods (statement.Field f ∷ ss) t
field_said ss r t f h =
    record {
      members = is_field f ∷ h.members;
      body = (ss, refl, h.body);
      fields_are = h.fields_are ∙ append_assoc r.fields (f ∷ []) (fields_in h.members);
      methods_are = h.methods_are;
    }

made_method : (access : ℕ) (name descriptor : List ℕ) (body : List Statement) (items : List CodeItem) (lines : MethodLines) → MakesCode body items → IsFilled (new_method access name descriptor) body items lines → MakesMethod body lines
made_method access name descriptor body items lines code h = (
  subst (λ (is : List CodeItem). MakesCode body is) (sym h.items_are) code,
  h.throws,
  h.catches,
  h.stack,
  h.locals,
  takes (sym h.name) (sym h.access) (sym h.items_are) h.takes,
)
  where
    takes : name ≡ lines.name → access ≡ lines.access → items ≡ lines.code → IsTrue (has_code name access || list_all is_label_item items) → IsTrue (has_code lines.name lines.access || list_all is_label_item lines.code)
    takes e f g is = rw (← e, ← f, ← g) is

method_said : (ss : List Statement) (r t : Reading) (access : ℕ) (name descriptor : List ℕ) → IsPermitted (sort_of r.access) access name
    → RestMethod r (new_method access name descriptor) ss t → RestMembers r.access r.fields r.methods (statement.Method access name descriptor ∷ ss) t
method_said ss r t access name descriptor permitted h =
    record {
      members = is_method h.lines ∷ h.rest.members;
      body = (h.body, h.behind, shape h.lines.access h.lines.name h.lines.descriptor (sym h.filled.access) (sym h.filled.name) (sym h.filled.descriptor) h.whole, allowed h.lines.access h.lines.name (sym h.filled.access) (sym h.filled.name), made_method access name descriptor h.body h.items h.lines h.code h.filled, h.rest.body);
      fields_are = h.rest.fields_are;
      methods_are = h.rest.methods_are ∙ append_assoc r.methods (h.lines ∷ []) (methods_in h.rest.members);
    }
  where
    shape : (a : ℕ) (n d : List ℕ) → access ≡ a → name ≡ n → descriptor ≡ d → ss ≡ h.body ++ statement.EndMethod ∷ h.behind → statement.Method access name descriptor ∷ ss ≡ statement.Method a n d ∷ (h.body ++ statement.EndMethod ∷ h.behind)
    shape a n d e f g i = cc

    allowed : (a : ℕ) (n : List ℕ) → access ≡ a → name ≡ n → IsPermitted (sort_of r.access) a n
    allowed a n e f = rw (← e, ← f) permitted

outside_step : (s : Statement) (ss : List Statement) (r t : Reading) → IsApart s → Admits (at r None) s → Runs (with_statement (at r None) s) ss t → Later ss t → InsideOf r None (s ∷ ss) t × IsKept r t
unfolding Suits with_statement
outside_step (statement.Field f) ss r t is a runs later =
    let h = later (record r { fields = r.fields ++ f ∷ [] }) None runs in
    (field_said ss r t f h.0, record { access = h.1.access; name = h.1.name; superclass = h.1.superclass; interfaces = h.1.interfaces })
outside_step (statement.Method access name descriptor) ss r t is a runs later =
    let h = later r (Some (new_method access name descriptor)) runs in
    (method_said ss r t access name descriptor a.suits h.0, h.1)
outside_step (statement.TableLabel label) ss r t is a runs later = let e = a.suits.1 in absurd cc
outside_step (statement.Match m) ss r t is a runs later = let e = a.suits.1 in absurd cc
outside_step (statement.Default label) ss r t is a runs later = absurd (neither a.suits)
  where
    neither : ((next : ℤ) × (open_switch.None ≡ open_switch.Table next)) ⊎ ((last : Option ℤ) × (open_switch.None ≡ open_switch.Lookup last)) → ⊥
    neither (inl p) = let e = p.1 in cc
    neither (inr p) = let e = p.1 in cc
outside_step statement.Blank ss r t is a runs later = absurd is
outside_step (statement.LabelledInstruction label i) ss r t is a runs later = absurd is
outside_step _ ss r t is a runs later = let bad = a.here in absurd cc

-- ---- Inside a method

abbrev pub plain : OpenMethod → OpenMethod
plain m = record m { switch = None }

or_true : (b : Bool) → IsTrue (b || true)
or_true true = refl
or_true false = refl

no_limit : (o : Option ℕ) → IsLimitBehind o [] (unwrap_or o 1)
no_limit None = refl
no_limit (Some n) = refl

ended_said : (m : OpenMethod) → IsFilled m [] [] (method_lines_of m)
ended_said m = record {
  access = refl;
  name = refl;
  descriptor = refl;
  throws = sym (append-nil m.throws);
  catches = sym (append-nil m.catches);
  stack = no_limit m.max_stack;
  locals = no_limit m.max_locals;
  items_are = sym (append-nil m.code);
  takes = or_true (has_code m.name m.access);
}

end_said : (ss : List Statement) (r t : Reading) (m : OpenMethod) → RestMembers r.access r.fields (r.methods ++ method_lines_of m ∷ []) ss t → RestMethod r m (statement.EndMethod ∷ ss) t
end_said ss r t m h = record { lines = method_lines_of m; body = []; behind = ss; items = []; whole = refl; code = tt; filled = ended_said m; rest = h }

directive_said : (d : Statement) (ss : List Statement) (r t : Reading) (m : OpenMethod) → IsDirective d → IsFresh d m → RestMethod r (changed d m) ss t → RestMethod r m (d ∷ ss) t
directive_said d ss r t m is fresh h =
    record {
      lines = h.lines;
      body = d ∷ h.body;
      behind = h.behind;
      items = h.items;
      whole = ap (λ (xs : List Statement). d ∷ xs) h.whole;
      code = code_after_directive d h.body h.items is h.code;
      filled = directive_pushed d m h.body h.items h.lines is fresh h.filled;
      rest = h.rest;
    }

item_said : (i : CodeItem) (mine ss : List Statement) (r t : Reading) (m : OpenMethod) → MakesItem mine i → IsTrue (takes_item m i) → RestMethod r (with_item i m) ss t → RestMethod r m (mine ++ ss) t
item_said i mine ss r t m makes takes h =
    record {
      lines = h.lines;
      body = mine ++ h.body;
      behind = h.behind;
      items = i ∷ h.items;
      whole = ap (λ (xs : List Statement). mine ++ xs) h.whole ∙ sym (append_assoc mine h.body (statement.EndMethod ∷ h.behind));
      code = ([], mine, h.body, refl, tt, makes, h.code);
      filled = item_pushed i m mine h.body h.items h.lines (item_quiet i mine makes) takes h.filled;
      rest = h.rest;
    }

makes_whole : (o : Operation) → IsWhole o → MakesItem (statement.Instruction (instruction.Whole o) ∷ []) (item.Operation o)
makes_whole (operation.Table lines) is = absurd is
makes_whole (operation.Lookup lines) is = absurd is
makes_whole _ is = refl

is_none : {A : Type 0} (o : Option A) → is_some o ≡ false → o ≡ None
is_none None e = refl
is_none (Some x) e = absurd cc

or_first : (a b : Bool) → a ≡ true → IsTrue (a || b)
or_first true b e = refl
or_first false b e = absurd cc

-- A complete tableswitch has at least one label, and the last value fits an int.
table_said : (ss : List Statement) (r t : Reading) (m : OpenMethod) (low : ℤ) → has_code m.name m.access ≡ true → RestTable r m low [] ss t → RestMethod r (plain m) (statement.Instruction (instruction.Table low) ∷ ss) t
table_said ss r t m low has h =
    let made : MakesItem (statement.Instruction (instruction.Table low) ∷ (map (λ label. statement.TableLabel label) h.more ++ statement.Default h.default ∷ [])) (table_item low h.more h.default) = (refl, h.some, highest h.more h.some h.high) in
    let whole = item_said (table_item low h.more h.default) (statement.Instruction (instruction.Table low) ∷ (map (λ label. statement.TableLabel label) h.more ++ statement.Default h.default ∷ [])) h.behind r t (plain m) made (or_first (has_code m.name m.access) false has) h.rest in
    subst (λ (xs : List Statement). RestMethod r (plain m) (statement.Instruction (instruction.Table low) ∷ xs) t) (sym h.whole) whole
  where
    highest : (more : List (List ℕ)) → 0 < length more → IsHigh low [] more → IsTrue (int_le (low +ℤ pos (length more - 1)) (pos 2147483647))
    highest [] some high = absurd (omega arith)
    highest (l ∷ ls) some high = high

lookup_said : (ss : List Statement) (r t : Reading) (m : OpenMethod) → has_code m.name m.access ≡ true → RestLookup r m [] ss t → RestMethod r (plain m) (statement.Instruction instruction.Lookup ∷ ss) t
lookup_said ss r t m has h =
    let made : MakesItem (statement.Instruction instruction.Lookup ∷ (map (λ x. statement.Match x) h.more ++ statement.Default h.default ∷ [])) (lookup_item h.more h.default) = (refl, h.rising) in
    let whole = item_said (lookup_item h.more h.default) (statement.Instruction instruction.Lookup ∷ (map (λ x. statement.Match x) h.more ++ statement.Default h.default ∷ [])) h.behind r t (plain m) made (or_first (has_code m.name m.access) false has) h.rest in
    subst (λ (xs : List Statement). RestMethod r (plain m) (statement.Instruction instruction.Lookup ∷ xs) t) (sym h.whole) whole

kept_from : (r : Reading) (methods : List MethodLines) (t : Reading) → IsKept (record r { methods = methods }) t → IsKept r t
kept_from r methods t h = record { access = h.access; name = h.name; superclass = h.superclass; interfaces = h.interfaces }

plain_step : (s : Statement) (ss : List Statement) (r t : Reading) (m : OpenMethod) → IsApart s → Admits (at r (Some (plain m))) s → Runs (with_statement (at r (Some (plain m))) s) ss t → Later ss t → RestMethod r (plain m) (s ∷ ss) t × IsKept r t
unfolding Suits is_repeated with_statement
plain_step statement.EndMethod ss r t m is a runs later =
    let h = later (record r { methods = r.methods ++ method_lines_of (plain m) ∷ [] }) None runs in
    (end_said ss r t (plain m) h.0, kept_from r (r.methods ++ method_lines_of (plain m) ∷ []) t h.1)
plain_step (statement.MaxStack n) ss r t m is a runs later =
    let h = later r (Some (changed (statement.MaxStack n) (plain m))) runs in
    (directive_said (statement.MaxStack n) ss r t (plain m) tt (is_none m.max_stack a.once) h.0, h.1)
plain_step (statement.MaxLocals n) ss r t m is a runs later =
    let h = later r (Some (changed (statement.MaxLocals n) (plain m))) runs in
    (directive_said (statement.MaxLocals n) ss r t (plain m) tt (is_none m.max_locals a.once) h.0, h.1)
plain_step (statement.Catch c) ss r t m is a runs later =
    let h = later r (Some (changed (statement.Catch c) (plain m))) runs in
    (directive_said (statement.Catch c) ss r t (plain m) tt tt h.0, h.1)
plain_step (statement.Throws name) ss r t m is a runs later =
    let h = later r (Some (changed (statement.Throws name) (plain m))) runs in
    (directive_said (statement.Throws name) ss r t (plain m) tt tt h.0, h.1)
plain_step statement.Dropped ss r t m is a runs later =
    let h = later r (Some (plain m)) runs in
    (directive_said statement.Dropped ss r t (plain m) tt tt h.0, h.1)
plain_step (statement.Label label) ss r t m is a runs later =
    let h = later r (Some (with_item (item.Label label) (plain m))) runs in
    (item_said (item.Label label) (statement.Label label ∷ []) ss r t (plain m) refl (or_true (has_code m.name m.access)) h.0, h.1)
plain_step (statement.Instruction (instruction.Whole o)) ss r t m is a runs later =
    let h = later r (Some (with_item (item.Operation o) (plain m))) runs in
    (item_said (item.Operation o) (statement.Instruction (instruction.Whole o) ∷ []) ss r t (plain m) (makes_whole o is) (or_first (has_code m.name m.access) false a.here) h.0, h.1)
plain_step (statement.Instruction (instruction.Table low)) ss r t m is a runs later =
    let h = later r (Some (record m { switch = Some (switch_lines.Table low []) })) runs in
    (table_said ss r t (record m { switch = Some (switch_lines.Table low []) }) low a.here h.0, h.1)
plain_step (statement.Instruction instruction.Lookup) ss r t m is a runs later =
    let h = later r (Some (record m { switch = Some (switch_lines.Lookup []) })) runs in
    (lookup_said ss r t (record m { switch = Some (switch_lines.Lookup []) }) a.here h.0, h.1)
plain_step (statement.TableLabel label) ss r t m is a runs later = let e = a.suits.1 in absurd cc
plain_step (statement.Match x) ss r t m is a runs later = let e = a.suits.1 in absurd cc
plain_step (statement.Default label) ss r t m is a runs later = absurd (neither a.suits)
  where
    neither : ((next : ℤ) × (open_switch.None ≡ open_switch.Table next)) ⊎ ((last : Option ℤ) × (open_switch.None ≡ open_switch.Lookup last)) → ⊥
    neither (inl p) = let e = p.1 in cc
    neither (inr p) = let e = p.1 in cc
plain_step statement.Blank ss r t m is a runs later = absurd is
plain_step (statement.LabelledInstruction label i) ss r t m is a runs later = absurd is
plain_step _ ss r t m is a runs later = let bad = a.here in absurd cc

-- ---- Inside a switch

table_label_said : (label : List ℕ) (ss : List Statement) (r t : Reading) (m : OpenMethod) (low : ℤ) (labels : List (List ℕ)) → IsTrue (int_le (low +ℤ pos (length labels)) (pos 2147483647)) → RestTable r m low (labels ++ label ∷ []) ss t → RestTable r m low labels (statement.TableLabel label ∷ ss) t
table_label_said label ss r t m low labels small h =
    let all : (labels ++ label ∷ []) ++ h.more ≡ labels ++ label ∷ h.more = append_assoc labels (label ∷ []) h.more in
    record {
      more = label ∷ h.more;
      default = h.default;
      behind = h.behind;
      whole = ap (λ (xs : List Statement). statement.TableLabel label ∷ xs) h.whole;
      some = subst (λ (ls : List (List ℕ)). 0 < length ls) all h.some;
      high = highest h.more h.high;
      rest = subst (λ (ls : List (List ℕ)). RestMethod r (record (with_item (table_item low ls h.default) m) { switch = None }) h.behind t) all h.rest;
    }
  where
    highest : (more : List (List ℕ)) → IsHigh low (labels ++ label ∷ []) more → IsTrue (int_le (low +ℤ pos (length (labels ++ label ∷ more) - 1)) (pos 2147483647))
    highest [] high =
        let count : length (labels ++ label ∷ []) - 1 ≡ length labels = omega (arith, length-append labels (label ∷ [])) in
        rw count small
    highest (l ∷ ls) high = subst (λ (xs : List (List ℕ)). IsTrue (int_le (low +ℤ pos (length xs - 1)) (pos 2147483647))) (append_assoc labels (label ∷ []) (l ∷ ls)) high

table_default_said : (default : List ℕ) (ss : List Statement) (r t : Reading) (m : OpenMethod) (low : ℤ) (labels : List (List ℕ)) → 0 < length labels → RestMethod r (record (with_item (table_item low labels default) m) { switch = None }) ss t → RestTable r m low labels (statement.Default default ∷ ss) t
table_default_said default ss r t m low labels some h =
    let none = append-nil labels in
    record {
      more = [];
      default = default;
      behind = ss;
      whole = refl;
      some = subst (λ (ls : List (List ℕ)). 0 < length ls) (sym none) some;
      high = tt;
      rest = subst (λ (ls : List (List ℕ)). RestMethod r (record (with_item (table_item low ls default) m) { switch = None }) ss t) (sym none) h;
    }

abbrev pub in_table : OpenMethod → ℤ → List (List ℕ) → OpenMethod
in_table m low labels = record m { switch = Some (switch_lines.Table low labels) }

same_next : (a b : ℤ) → open_switch.Table a ≡ open_switch.Table b → a ≡ b
same_next a b e = cc

some_labels : (r : Reading) (m : OpenMethod) (low : ℤ) (labels : List (List ℕ)) (default : List ℕ) → Admits (at r (Some (in_table m low labels))) (statement.Default default) → 0 < length labels
some_labels r m low [] default a = let bad = a.here in absurd cc
some_labels r m low (l ∷ ls) default a = omega arith

table_step : (s : Statement) (ss : List Statement) (r t : Reading) (m : OpenMethod) (low : ℤ) (labels : List (List ℕ)) → IsApart s → Admits (at r (Some (in_table m low labels))) s → Runs (with_statement (at r (Some (in_table m low labels))) s) ss t → Later ss t → RestTable r (in_table m low labels) low labels (s ∷ ss) t × IsKept r t
unfolding Suits with_statement
table_step (statement.TableLabel label) ss r t m low labels is a runs later =
    let h = later r (Some (in_table m low (labels ++ label ∷ []))) runs in
    let small = subst (λ (n : ℤ). IsTrue (int_le n (pos 2147483647))) (sym (same_next (low +ℤ pos (length labels)) a.suits.0 a.suits.1)) a.suits.2 in
    let rest : RestTable r (in_table m low labels) low (labels ++ label ∷ []) ss t = record { more = h.0.more; default = h.0.default; behind = h.0.behind; whole = h.0.whole; some = h.0.some; high = h.0.high; rest = h.0.rest } in
    (table_label_said label ss r t (in_table m low labels) low labels small rest, h.1)
table_step (statement.Default default) ss r t m low labels is a runs later =
    let h = later r (Some (record (with_item (table_item low labels default) m) { switch = None })) runs in
    (table_default_said default ss r t (in_table m low labels) low labels (some_labels r m low labels default a) h.0, h.1)
table_step (statement.Match x) ss r t m low labels is a runs later = let e = a.suits.1 in absurd cc
table_step (statement.Label label) ss r t m low labels is a runs later = let e = a.suits in absurd cc
table_step (statement.Instruction i) ss r t m low labels is a runs later = let e = a.suits in absurd cc
table_step statement.Blank ss r t m low labels is a runs later = absurd is
table_step (statement.LabelledInstruction label i) ss r t m low labels is a runs later = absurd is
table_step _ ss r t m low labels is a runs later = let bad = a.here in absurd cc

last_is : (ms : List MatchLine) (m : MatchLine) → last_value (ms ++ m ∷ []) ≡ Some m.value
last_is [] m = refl
last_is (x ∷ []) m = refl
last_is (x ∷ y ∷ ms) m = last_is (y ∷ ms) m

match_said : (x : MatchLine) (ss : List Statement) (r t : Reading) (m : OpenMethod) (matches : List MatchLine) → IsTrue (is_above (last_value matches) x.value) → RestLookup r m (matches ++ x ∷ []) ss t → RestLookup r m matches (statement.Match x ∷ ss) t
match_said x ss r t m matches above h =
    let all : (matches ++ x ∷ []) ++ h.more ≡ matches ++ x ∷ h.more = append_assoc matches (x ∷ []) h.more in
    record {
      more = x ∷ h.more;
      default = h.default;
      behind = h.behind;
      whole = ap (λ (xs : List Statement). statement.Match x ∷ xs) h.whole;
      rising = (above, subst (λ (o : Option ℤ). AreRising o h.more) (last_is matches x) h.rising);
      rest = subst (λ (ms : List MatchLine). RestMethod r (record (with_item (lookup_item ms h.default) m) { switch = None }) h.behind t) all h.rest;
    }

lookup_default_said : (default : List ℕ) (ss : List Statement) (r t : Reading) (m : OpenMethod) (matches : List MatchLine) → RestMethod r (record (with_item (lookup_item matches default) m) { switch = None }) ss t → RestLookup r m matches (statement.Default default ∷ ss) t
lookup_default_said default ss r t m matches h =
    record {
      more = [];
      default = default;
      behind = ss;
      whole = refl;
      rising = tt;
      rest = subst (λ (ms : List MatchLine). RestMethod r (record (with_item (lookup_item ms default) m) { switch = None }) ss t) (sym (append-nil matches)) h;
    }

abbrev pub in_lookup : OpenMethod → List MatchLine → OpenMethod
in_lookup m matches = record m { switch = Some (switch_lines.Lookup matches) }

same_last : (a b : Option ℤ) → open_switch.Lookup a ≡ open_switch.Lookup b → a ≡ b
same_last a b e = cc

lookup_step : (s : Statement) (ss : List Statement) (r t : Reading) (m : OpenMethod) (matches : List MatchLine) → IsApart s → Admits (at r (Some (in_lookup m matches))) s → Runs (with_statement (at r (Some (in_lookup m matches))) s) ss t → Later ss t → RestLookup r (in_lookup m matches) matches (s ∷ ss) t × IsKept r t
unfolding Suits with_statement
lookup_step (statement.Match x) ss r t m matches is a runs later =
    let h = later r (Some (in_lookup m (matches ++ x ∷ []))) runs in
    let above = subst (λ (o : Option ℤ). IsTrue (is_above o x.value)) (sym (same_last (last_value matches) a.suits.0 a.suits.1)) a.suits.2 in
    let rest : RestLookup r (in_lookup m matches) (matches ++ x ∷ []) ss t = record { more = h.0.more; default = h.0.default; behind = h.0.behind; whole = h.0.whole; rising = h.0.rising; rest = h.0.rest } in
    (match_said x ss r t (in_lookup m matches) matches above rest, h.1)
lookup_step (statement.Default default) ss r t m matches is a runs later =
    let h = later r (Some (record (with_item (lookup_item matches default) m) { switch = None })) runs in
    (lookup_default_said default ss r t (in_lookup m matches) matches h.0, h.1)
lookup_step (statement.TableLabel label) ss r t m matches is a runs later = let e = a.suits.1 in absurd cc
lookup_step (statement.Label label) ss r t m matches is a runs later = let e = a.suits in absurd cc
lookup_step (statement.Instruction i) ss r t m matches is a runs later = let e = a.suits in absurd cc
lookup_step statement.Blank ss r t m matches is a runs later = absurd is
lookup_step (statement.LabelledInstruction label i) ss r t m matches is a runs later = absurd is
lookup_step _ ss r t m matches is a runs later = let bad = a.here in absurd cc

-- ---- All statements

method_step : (s : Statement) (ss : List Statement) (r t : Reading) (m : OpenMethod) (o : Option SwitchLines) → IsApart s → Admits (at r (Some (record m { switch = o }))) s → Runs (with_statement (at r (Some (record m { switch = o }))) s) ss t → Later ss t → InMethod r (record m { switch = o }) o (s ∷ ss) t × IsKept r t
method_step s ss r t m None is a runs later = plain_step s ss r t m is a runs later
method_step s ss r t m (Some (switch_lines.Table low labels)) is a runs later = table_step s ss r t m low labels is a runs later
method_step s ss r t m (Some (switch_lines.Lookup matches)) is a runs later = lookup_step s ss r t m matches is a runs later

one_step : (s : Statement) (ss : List Statement) (r t : Reading) (o : Option OpenMethod) → IsApart s → Admits (at r o) s → Runs (with_statement (at r o) s) ss t → Later ss t → InsideOf r o (s ∷ ss) t × IsKept r t
one_step s ss r t None is a runs later = outside_step s ss r t is a runs later
one_step s ss r t (Some m) is a runs later = method_step s ss r t m m.switch is a runs later

no_statement : (r t : Reading) (o : Option OpenMethod) → t.method ≡ None → at r o ≡ t → InsideOf r o [] t × IsKept r t
no_statement r t None none e = (
  record { members = []; body = refl; fields_are = sym (ap (λ (q : Reading). q.fields) e) ∙ sym (append-nil r.fields); methods_are = sym (ap (λ (q : Reading). q.methods) e) ∙ sym (append-nil r.methods) },
  record { access = sym (ap (λ (q : Reading). q.access) e); name = sym (ap (λ (q : Reading). q.name) e); superclass = sym (ap (λ (q : Reading). q.superclass) e); interfaces = sym (ap (λ (q : Reading). q.interfaces) e) },
)
no_statement r t (Some m) none e = absurd (none-some m (sym none ∙ sym (ap (λ (q : Reading). q.method) e)))

pub inside_said : (ss : List Statement) (r t : Reading) (o : Option OpenMethod) → AllByRecursion IsApart ss → t.method ≡ None → Runs (at r o) ss t → InsideOf r o ss t × IsKept r t
inside_said [] r t o all none runs = no_statement r t o none runs
inside_said (s ∷ ss) r t o all none runs = one_step s ss r t o all.0 runs.0 runs.1 (λ q p more. inside_said ss q t p all.1 none more)
