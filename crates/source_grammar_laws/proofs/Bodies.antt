-- Proves what the statements of a method's body add to the method.
use Rattle.std.proofs.Common.{◌≡◌, ℕ, ◌&&◌, ◌||◌, Bool, true, false, List, [], ◌∷◌, ◌++◌, map, Option, Some, None, IsTrue, refl, sym, ap, subst, ◌∙◌, append_assoc}
use Rattle.std.specs.List.{list_all}
use Rattle.jasmin.specs.declared.source.MatchLine.{MatchLine}
use Rattle.jasmin.specs.declared.source.Operation.TheVariants as operation
use Rattle.jasmin.specs.declared.source.CodeItem.{CodeItem}
use Rattle.jasmin.specs.declared.source.CodeItem.TheVariants as item
use Rattle.jasmin.specs.declared.source.CatchLine.{CatchLine}
use Rattle.jasmin.specs.declared.source.MethodLines.{MethodLines}
use Rattle.jasmin.specs.declared.statement.Instruction.{Instruction}
use Rattle.jasmin.specs.declared.statement.Instruction.TheVariants as instruction
use Rattle.jasmin.specs.declared.statement.Statement.{Statement}
use Rattle.jasmin.specs.declared.statement.Statement.TheVariants as statement
use Rattle.jasmin.specs.declared.reading.OpenMethod.{OpenMethod}
use Rattle.jasmin.specs.Denote.{has_code}
use Rattle.jasmin.specs.Reading.{with_throws, with_catch, with_item}
use Rattle.source_grammar_laws.specs.Sources.{IsDirective, MakesItem, MakesCode, throws_in, catches_in, stacks_in, locals_in, IsLimit, is_label_item}

-- The limits determine this number, if one may be given already.
abbrev pub IsLimitBehind : Option ℕ → List ℕ → ℕ → Type 0
IsLimitBehind None ns n = IsLimit ns n
IsLimitBehind (Some k) [] n = n ≡ k
IsLimitBehind (Some k) (m ∷ ns) n = ⊥

limit_peeled : (o : Option ℕ) (k : ℕ) (ns : List ℕ) (n : ℕ) → IsLimitBehind o (k ∷ ns) n → (o ≡ None) × IsLimitBehind (Some k) ns n
limit_peeled None k [] n is = (refl, is)
limit_peeled None k (m ∷ ns) n is = absurd is
limit_peeled (Some j) k ns n is = absurd is

limit_pushed : (o : Option ℕ) (k : ℕ) (ns : List ℕ) (n : ℕ) → o ≡ None → IsLimitBehind (Some k) ns n → IsLimitBehind o (k ∷ ns) n
limit_pushed None k [] n e is = is
limit_pushed None k (m ∷ ns) n e is = absurd is
limit_pushed (Some j) k ns n e is = absurd cc

-- An open method becomes these lines by a body, whose items these are.
pub record IsFilled (m : OpenMethod) (body : List Statement) (items : List CodeItem) (lines : MethodLines) : Type 0 where
  pub access : lines.access ≡ m.access
  pub name : lines.name ≡ m.name
  pub descriptor : lines.descriptor ≡ m.descriptor
  pub throws : lines.throws ≡ m.throws ++ throws_in body
  pub catches : lines.catches ≡ m.catches ++ catches_in body
  pub stack : IsLimitBehind m.max_stack (stacks_in body) lines.max_stack
  pub locals : IsLimitBehind m.max_locals (locals_in body) lines.max_locals
  pub items_are : lines.code ≡ m.code ++ items
  pub takes : IsTrue (has_code m.name m.access || list_all is_label_item items)

-- ---- Directives

abbrev pub changed : Statement → OpenMethod → OpenMethod
changed (statement.MaxStack n) m = record m { max_stack = Some n }
changed (statement.MaxLocals n) m = record m { max_locals = Some n }
changed (statement.Catch c) m = with_catch c m
changed (statement.Throws name) m = with_throws name m
changed _ m = m

-- A limit isn't given yet.
abbrev pub IsFresh : Statement → OpenMethod → Type 0
IsFresh (statement.MaxStack n) m = m.max_stack ≡ None
IsFresh (statement.MaxLocals n) m = m.max_locals ≡ None
IsFresh _ m = Unit {0}

one_more : {A : Type 0} (xs : List A) (y : A) (ys : List A) → xs ++ y ∷ ys ≡ (xs ++ y ∷ []) ++ ys
one_more xs y ys = sym (append_assoc xs (y ∷ []) ys)

pub directive_peeled : (d : Statement) (m : OpenMethod) (body : List Statement) (items : List CodeItem) (lines : MethodLines) → IsDirective d → IsFilled m (d ∷ body) items lines → IsFresh d m × IsFilled (changed d m) body items lines
directive_peeled (statement.MaxStack n) m body items lines is h =
    let limit = limit_peeled m.max_stack n (stacks_in body) lines.max_stack h.stack in
    (limit.0, record { access = h.access; name = h.name; descriptor = h.descriptor; throws = h.throws; catches = h.catches; stack = limit.1; locals = h.locals; items_are = h.items_are; takes = h.takes })
directive_peeled (statement.MaxLocals n) m body items lines is h =
    let limit = limit_peeled m.max_locals n (locals_in body) lines.max_locals h.locals in
    (limit.0, record { access = h.access; name = h.name; descriptor = h.descriptor; throws = h.throws; catches = h.catches; stack = h.stack; locals = limit.1; items_are = h.items_are; takes = h.takes })
directive_peeled (statement.Catch c) m body items lines is h =
    (tt, record { access = h.access; name = h.name; descriptor = h.descriptor; throws = h.throws; catches = h.catches ∙ one_more m.catches c (catches_in body); stack = h.stack; locals = h.locals; items_are = h.items_are; takes = h.takes })
directive_peeled (statement.Throws name) m body items lines is h =
    (tt, record { access = h.access; name = h.name; descriptor = h.descriptor; throws = h.throws ∙ one_more m.throws name (throws_in body); catches = h.catches; stack = h.stack; locals = h.locals; items_are = h.items_are; takes = h.takes })
directive_peeled statement.Dropped m body items lines is h =
    (tt, record { access = h.access; name = h.name; descriptor = h.descriptor; throws = h.throws; catches = h.catches; stack = h.stack; locals = h.locals; items_are = h.items_are; takes = h.takes })
directive_peeled _ m body items lines is h = absurd is

pub directive_pushed : (d : Statement) (m : OpenMethod) (body : List Statement) (items : List CodeItem) (lines : MethodLines) → IsDirective d → IsFresh d m → IsFilled (changed d m) body items lines → IsFilled m (d ∷ body) items lines
directive_pushed (statement.MaxStack n) m body items lines is fresh h =
    record { access = h.access; name = h.name; descriptor = h.descriptor; throws = h.throws; catches = h.catches; stack = limit_pushed m.max_stack n (stacks_in body) lines.max_stack fresh h.stack; locals = h.locals; items_are = h.items_are; takes = h.takes }
directive_pushed (statement.MaxLocals n) m body items lines is fresh h =
    record { access = h.access; name = h.name; descriptor = h.descriptor; throws = h.throws; catches = h.catches; stack = h.stack; locals = limit_pushed m.max_locals n (locals_in body) lines.max_locals fresh h.locals; items_are = h.items_are; takes = h.takes }
directive_pushed (statement.Catch c) m body items lines is fresh h =
    record { access = h.access; name = h.name; descriptor = h.descriptor; throws = h.throws; catches = h.catches ∙ sym (one_more m.catches c (catches_in body)); stack = h.stack; locals = h.locals; items_are = h.items_are; takes = h.takes }
directive_pushed (statement.Throws name) m body items lines is fresh h =
    record { access = h.access; name = h.name; descriptor = h.descriptor; throws = h.throws ∙ sym (one_more m.throws name (throws_in body)); catches = h.catches; stack = h.stack; locals = h.locals; items_are = h.items_are; takes = h.takes }
directive_pushed statement.Dropped m body items lines is fresh h =
    record { access = h.access; name = h.name; descriptor = h.descriptor; throws = h.throws; catches = h.catches; stack = h.stack; locals = h.locals; items_are = h.items_are; takes = h.takes }
directive_pushed _ m body items lines is fresh h = absurd is

-- A directive may precede code.
pub code_after_directive : (d : Statement) (body : List Statement) (items : List CodeItem) → IsDirective d → MakesCode body items → MakesCode (d ∷ body) items
code_after_directive d body [] is all = (is, all)
code_after_directive d body (i ∷ items) is (directives, mine, behind, e, all, makes, rest) =
    (d ∷ directives, mine, behind, ap (λ (xs : List Statement). d ∷ xs) e, (is, all), makes, rest)

-- ---- Items

-- Statements add items and nothing else.
pub record IsQuiet (xs : List Statement) : Type 0 where
  pub thrown : (ss : List Statement) → throws_in (xs ++ ss) ≡ throws_in ss
  pub catches : (ss : List Statement) → catches_in (xs ++ ss) ≡ catches_in ss
  pub stacks : (ss : List Statement) → stacks_in (xs ++ ss) ≡ stacks_in ss
  pub locals : (ss : List Statement) → locals_in (xs ++ ss) ≡ locals_in ss

labels_quiet : (labels : List (List ℕ)) (default : List ℕ) → IsQuiet (map (λ label. statement.TableLabel label) labels ++ statement.Default default ∷ [])
labels_quiet [] default = record { thrown = λ ss. refl; catches = λ ss. refl; stacks = λ ss. refl; locals = λ ss. refl }
labels_quiet (l ∷ ls) default =
    let rest = labels_quiet ls default in
    record { thrown = λ ss. rest.thrown ss; catches = λ ss. rest.catches ss; stacks = λ ss. rest.stacks ss; locals = λ ss. rest.locals ss }

matches_quiet : (matches : List MatchLine) (default : List ℕ) → IsQuiet (map (λ m. statement.Match m) matches ++ statement.Default default ∷ [])
matches_quiet [] default = record { thrown = λ ss. refl; catches = λ ss. refl; stacks = λ ss. refl; locals = λ ss. refl }
matches_quiet (m ∷ ms) default =
    let rest = matches_quiet ms default in
    record { thrown = λ ss. rest.thrown ss; catches = λ ss. rest.catches ss; stacks = λ ss. rest.stacks ss; locals = λ ss. rest.locals ss }

instruction_quiet : (i : Instruction) (xs : List Statement) → IsQuiet xs → IsQuiet (statement.Instruction i ∷ xs)
instruction_quiet i xs rest = record { thrown = λ ss. rest.thrown ss; catches = λ ss. rest.catches ss; stacks = λ ss. rest.stacks ss; locals = λ ss. rest.locals ss }

none_quiet : IsQuiet []
none_quiet = record { thrown = λ ss. refl; catches = λ ss. refl; stacks = λ ss. refl; locals = λ ss. refl }

label_quiet : (label : List ℕ) → IsQuiet (statement.Label label ∷ [])
label_quiet label = record { thrown = λ ss. refl; catches = λ ss. refl; stacks = λ ss. refl; locals = λ ss. refl }

pub item_quiet : (i : CodeItem) (mine : List Statement) → MakesItem mine i → IsQuiet mine
item_quiet (item.Label label) mine e = subst IsQuiet (sym e) (label_quiet label)
item_quiet (item.Operation (operation.Table lines)) mine (e, some, high) =
    subst IsQuiet (sym e) (instruction_quiet (instruction.Table lines.low) _ (labels_quiet lines.labels lines.default))
item_quiet (item.Operation (operation.Lookup lines)) mine (e, rising) =
    subst IsQuiet (sym e) (instruction_quiet instruction.Lookup _ (matches_quiet lines.matches lines.default))
item_quiet (item.Operation o) mine e = subst IsQuiet (sym e) (instruction_quiet (instruction.Whole o) [] none_quiet)

-- Decides whether a method may have an item.
abbrev pub takes_item : OpenMethod → CodeItem → Bool
takes_item m i = has_code m.name m.access || is_label_item i

takes_apart : (code first rest : Bool) → IsTrue (code || (first && rest)) → IsTrue (code || first) × IsTrue (code || rest)
takes_apart true first rest e = (refl, refl)
takes_apart false true rest e = (refl, e)
takes_apart false false rest e = absurd cc

takes_both : (code first rest : Bool) → IsTrue (code || first) → IsTrue (code || rest) → IsTrue (code || (first && rest))
takes_both true first rest e f = refl
takes_both false true rest e f = f
takes_both false false rest e f = absurd cc

pub item_peeled : (i : CodeItem) (m : OpenMethod) (mine body : List Statement) (items : List CodeItem) (lines : MethodLines) → IsQuiet mine → IsFilled m (mine ++ body) (i ∷ items) lines → IsTrue (takes_item m i) × IsFilled (with_item i m) body items lines
item_peeled i m mine body items lines quiet h =
    let both = takes_apart (has_code m.name m.access) (is_label_item i) (list_all is_label_item items) h.takes in (
      both.0,
      record {
        access = h.access;
        name = h.name;
        descriptor = h.descriptor;
        throws = h.throws ∙ ap (λ (xs : List (List ℕ)). m.throws ++ xs) (quiet.thrown body);
        catches = h.catches ∙ ap (λ (xs : List CatchLine). m.catches ++ xs) (quiet.catches body);
        stack = subst (λ (ns : List ℕ). IsLimitBehind m.max_stack ns lines.max_stack) (quiet.stacks body) h.stack;
        locals = subst (λ (ns : List ℕ). IsLimitBehind m.max_locals ns lines.max_locals) (quiet.locals body) h.locals;
        items_are = h.items_are ∙ one_more m.code i items;
        takes = both.1;
      },
    )

pub item_pushed : (i : CodeItem) (m : OpenMethod) (mine body : List Statement) (items : List CodeItem) (lines : MethodLines) → IsQuiet mine → IsTrue (takes_item m i) → IsFilled (with_item i m) body items lines → IsFilled m (mine ++ body) (i ∷ items) lines
item_pushed i m mine body items lines quiet takes h =
    record {
      access = h.access;
      name = h.name;
      descriptor = h.descriptor;
      throws = h.throws ∙ sym (ap (λ (xs : List (List ℕ)). m.throws ++ xs) (quiet.thrown body));
      catches = h.catches ∙ sym (ap (λ (xs : List CatchLine). m.catches ++ xs) (quiet.catches body));
      stack = subst (λ (ns : List ℕ). IsLimitBehind m.max_stack ns lines.max_stack) (sym (quiet.stacks body)) h.stack;
      locals = subst (λ (ns : List ℕ). IsLimitBehind m.max_locals ns lines.max_locals) (sym (quiet.locals body)) h.locals;
      items_are = h.items_are ∙ sym (one_more m.code i items);
      takes = takes_both (has_code m.name m.access) (is_label_item i) (list_all is_label_item items) takes h.takes;
    }
