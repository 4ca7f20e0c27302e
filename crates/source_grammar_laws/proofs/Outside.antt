-- Proves what the statements of a whole source make.
use Rattle.std.proofs.Common.{◌≡◌, ◌⊎◌, inl, inr, ℕ, Bool, true, false, List, [], ◌∷◌, ◌++◌, map, Option, Some, None, Result, Ok, Err, ℤ, unwrap_or, refl, sym, ap, subst, ◌∙◌, append_assoc, append-nil, codes}
use Rattle.std.specs.List.{AllByRecursion}
use Rattle.std.specs.Str.Lines.{lines}
use Rattle.std.proofs.lemmas.Option.{none-some, same_Some}
use Rattle.jvms_file.specs.Results.{◌>>=◌}
use Rattle.jasmin.specs.declared.source.Source.{Source}
use Rattle.jasmin.specs.declared.statement.OpenSwitch.TheVariants as open_switch
use Rattle.jasmin.specs.declared.statement.Statement.{Statement}
use Rattle.jasmin.specs.declared.statement.Statement.TheVariants as statement
use Rattle.jasmin.specs.declared.reading.Part.{Part}
use Rattle.jasmin.specs.declared.reading.Part.TheVariants as part
use Rattle.jasmin.specs.declared.reading.OpenMethod.{OpenMethod}
use Rattle.jasmin.specs.declared.reading.Reading.{Reading}
use Rattle.jasmin.specs.Reading.{is_repeated, with_statement, empty_reading, with_lines, last_line, source_of_reading, source_of}
use Rattle.source_form_laws.specs.Formed.{IsFormed}
use Rattle.source_form_laws.proofs.Judged.{same_ok}
use Rattle.source_form_laws.proofs.Sources.{source_formed}
use Rattle.source_grammar_laws.specs.Lines.{Suits}
use Rattle.source_grammar_laws.specs.Sources.{MakesMembers, IsBeginning, MakesSuper, MakesSource, Writes}
use Rattle.source_grammar_laws.proofs.Steps.{Runs, IsApart, lines_said}
use Rattle.source_grammar_laws.proofs.Inside.{RestMembers, IsKept, inside_said}

-- ---- Interfaces

-- Returns the state before the members.
abbrev pub before : Reading → Part → Reading
before r p = record r { part = p; fields = []; methods = []; method = None }

abbrev bare : Reading → Reading
bare r = record r { fields = []; methods = [] }

-- The statements make interfaces, and members after them.
record RestImplements (r : Reading) (ss : List Statement) (t : Reading) : Type 0 where
  pub names : List (List ℕ)
  pub behind : List Statement
  pub whole : ss ≡ map (λ name. statement.Implements name) names ++ behind
  pub interfaces_are : t.interfaces ≡ r.interfaces ++ names
  pub rest : RestMembers r.access [] [] behind t
  pub access : t.access ≡ r.access
  pub name : t.name ≡ r.name
  pub superclass : t.superclass ≡ r.superclass

-- The members may follow without interfaces.
members_at_once : (r : Reading) (ss : List Statement) (t : Reading) → RestMembers r.access [] [] ss t × IsKept (bare r) t → RestImplements r ss t
members_at_once r ss t h =
    record { names = []; behind = ss; whole = refl; interfaces_are = h.1.interfaces ∙ sym (append-nil r.interfaces); rest = h.0; access = h.1.access; name = h.1.name; superclass = h.1.superclass }

no_more : (r t : Reading) (p : Part) → before r p ≡ t → RestImplements r [] t
no_more r t p e =
    record {
      names = [];
      behind = [];
      whole = refl;
      interfaces_are = sym (ap (λ (q : Reading). q.interfaces) e) ∙ sym (append-nil r.interfaces);
      rest = record { members = []; body = refl; fields_are = sym (ap (λ (q : Reading). q.fields) e); methods_are = sym (ap (λ (q : Reading). q.methods) e) };
      access = sym (ap (λ (q : Reading). q.access) e);
      name = sym (ap (λ (q : Reading). q.name) e);
      superclass = sym (ap (λ (q : Reading). q.superclass) e);
    }

one_more : (name : List ℕ) (r : Reading) (ss : List Statement) (t : Reading) → RestImplements (record r { interfaces = r.interfaces ++ name ∷ [] }) ss t → RestImplements r (statement.Implements name ∷ ss) t
one_more name r ss t h =
    record {
      names = name ∷ h.names;
      behind = h.behind;
      whole = ap (λ (xs : List Statement). statement.Implements name ∷ xs) h.whole;
      interfaces_are = h.interfaces_are ∙ append_assoc r.interfaces (name ∷ []) h.names;
      rest = h.rest;
      access = h.access;
      name = h.name;
      superclass = h.superclass;
    }

no_default : ((next : ℤ) × (open_switch.None ≡ open_switch.Table next)) ⊎ ((last : Option ℤ) × (open_switch.None ≡ open_switch.Lookup last)) → ⊥
no_default (inl p) = let e = p.1 in cc
no_default (inr p) = let e = p.1 in cc

implements_said : (ss : List Statement) (r t : Reading) → AllByRecursion IsApart ss → t.method ≡ None → Runs (before r part.Implements) ss t → RestImplements r ss t
unfolding Suits is_repeated with_statement
implements_said [] r t all none runs = no_more r t part.Implements runs
implements_said (statement.Implements name ∷ ss) r t all none runs =
    one_more name r ss t (implements_said ss (record r { interfaces = r.interfaces ++ name ∷ [] }) t all.1 none runs.1)
implements_said (statement.Field f ∷ ss) r t all none runs =
    members_at_once r (statement.Field f ∷ ss) t (inside_said (statement.Field f ∷ ss) (bare r) t None all none (record { here = refl; suits = runs.0.suits; once = runs.0.once }, runs.1))
implements_said (statement.Method access name descriptor ∷ ss) r t all none runs =
    members_at_once r (statement.Method access name descriptor ∷ ss) t (inside_said (statement.Method access name descriptor ∷ ss) (bare r) t None all none (record { here = refl; suits = runs.0.suits; once = runs.0.once }, runs.1))
implements_said (statement.TableLabel label ∷ ss) r t all none runs = let e = runs.0.suits.1 in absurd cc
implements_said (statement.Match m ∷ ss) r t all none runs = let e = runs.0.suits.1 in absurd cc
implements_said (statement.Default label ∷ ss) r t all none runs = absurd (no_default runs.0.suits)
implements_said (statement.Blank ∷ ss) r t all none runs = absurd all.0
implements_said (statement.LabelledInstruction label i ∷ ss) r t all none runs = absurd all.0
implements_said (s ∷ ss) r t all none runs = let bad = runs.0.here in absurd cc

-- ---- The superclass

abbrev named_super : Reading → List ℕ → Reading
named_super r super = record r { superclass = Some super }

super_said : (ss : List Statement) (r t : Reading) (super : List ℕ) → AllByRecursion IsApart ss → t.method ≡ None → Runs (before (named_super r super) part.Super) ss t → RestImplements (named_super r super) ss t
unfolding Suits is_repeated with_statement
super_said [] r t super all none runs = no_more (named_super r super) t part.Super runs
super_said (statement.Implements name ∷ ss) r t super all none runs =
    one_more name (named_super r super) ss t (implements_said ss (record (named_super r super) { interfaces = r.interfaces ++ name ∷ [] }) t all.1 none runs.1)
super_said (statement.Field f ∷ ss) r t super all none runs =
    members_at_once (named_super r super) (statement.Field f ∷ ss) t (inside_said (statement.Field f ∷ ss) (bare (named_super r super)) t None all none (record { here = refl; suits = runs.0.suits; once = runs.0.once }, runs.1))
super_said (statement.Method access name descriptor ∷ ss) r t super all none runs =
    members_at_once (named_super r super) (statement.Method access name descriptor ∷ ss) t (inside_said (statement.Method access name descriptor ∷ ss) (bare (named_super r super)) t None all none (record { here = refl; suits = runs.0.suits; once = runs.0.once }, runs.1))
super_said (statement.Superclass name ∷ ss) r t super all none runs = let again = runs.0.once in absurd cc
super_said (statement.TableLabel label ∷ ss) r t super all none runs = let e = runs.0.suits.1 in absurd cc
super_said (statement.Match m ∷ ss) r t super all none runs = let e = runs.0.suits.1 in absurd cc
super_said (statement.Default label ∷ ss) r t super all none runs = absurd (no_default runs.0.suits)
super_said (statement.Blank ∷ ss) r t super all none runs = absurd all.0
super_said (statement.LabelledInstruction label i ∷ ss) r t super all none runs = absurd all.0
super_said (s ∷ ss) r t super all none runs = let bad = runs.0.here in absurd cc

-- The statements make a superclass, and the parts after it.
record RestSuper (access : ℕ) (name : List ℕ) (ss : List Statement) (t : Reading) : Type 0 where
  pub super : List Statement
  pub behind : List Statement
  pub whole : ss ≡ super ++ (map (λ name. statement.Implements name) t.interfaces ++ behind)
  pub superclass : MakesSuper super (unwrap_or t.superclass (codes "java/lang/Object"))
  pub rest : RestMembers access [] [] behind t
  pub access_is : t.access ≡ access
  pub name_is : t.name ≡ Some name

abbrev pub class_of : Bool → Bool → ℕ → List ℕ → Reading
class_of bytecode source access name =
    record { part = part.Class; has_bytecode = bytecode; has_source = source; access = access; name = Some name; superclass = None; interfaces = []; fields = []; methods = []; method = None }

no_super : (bytecode source : Bool) (access : ℕ) (name : List ℕ) (ss : List Statement) (t : Reading) → RestImplements (class_of bytecode source access name) ss t → RestSuper access name ss t
no_super bytecode source access name ss t h =
    record {
      super = [];
      behind = h.behind;
      whole = h.whole ∙ ap (λ (ns : List (List ℕ)). map (λ n. statement.Implements n) ns ++ h.behind) (sym h.interfaces_are);
      superclass = inl (refl, ap (λ (o : Option (List ℕ)). unwrap_or o (codes "java/lang/Object")) h.superclass);
      rest = h.rest;
      access_is = h.access;
      name_is = h.name;
    }

some_super : (bytecode source : Bool) (access : ℕ) (name super : List ℕ) (ss : List Statement) (t : Reading) → RestImplements (named_super (class_of bytecode source access name) super) ss t → RestSuper access name (statement.Superclass super ∷ ss) t
some_super bytecode source access name super ss t h =
    record {
      super = statement.Superclass super ∷ [];
      behind = h.behind;
      whole = ap (λ (xs : List Statement). statement.Superclass super ∷ xs) (h.whole ∙ ap (λ (ns : List (List ℕ)). map (λ n. statement.Implements n) ns ++ h.behind) (sym h.interfaces_are));
      superclass = inr (ap (λ (o : Option (List ℕ)). statement.Superclass (unwrap_or o (codes "java/lang/Object")) ∷ []) (sym h.superclass));
      rest = h.rest;
      access_is = h.access;
      name_is = h.name;
    }

class_said : (ss : List Statement) (bytecode source : Bool) (access : ℕ) (name : List ℕ) (t : Reading) → AllByRecursion IsApart ss → t.method ≡ None → Runs (class_of bytecode source access name) ss t → RestSuper access name ss t
unfolding Suits is_repeated with_statement
class_said [] b f access name t all none runs = no_super b f access name [] t (no_more (class_of b f access name) t part.Class runs)
class_said (statement.Superclass super ∷ ss) b f access name t all none runs =
    some_super b f access name super ss t (super_said ss (class_of b f access name) t super all.1 none runs.1)
class_said (statement.Implements i ∷ ss) b f access name t all none runs =
    no_super b f access name (statement.Implements i ∷ ss) t (one_more i (class_of b f access name) ss t (implements_said ss (record (class_of b f access name) { interfaces = i ∷ [] }) t all.1 none runs.1))
class_said (statement.Field g ∷ ss) b f access name t all none runs =
    no_super b f access name (statement.Field g ∷ ss) t (members_at_once (class_of b f access name) (statement.Field g ∷ ss) t (inside_said (statement.Field g ∷ ss) (class_of b f access name) t None all none (record { here = refl; suits = runs.0.suits; once = runs.0.once }, runs.1)))
class_said (statement.Method a n d ∷ ss) b f access name t all none runs =
    no_super b f access name (statement.Method a n d ∷ ss) t (members_at_once (class_of b f access name) (statement.Method a n d ∷ ss) t (inside_said (statement.Method a n d ∷ ss) (class_of b f access name) t None all none (record { here = refl; suits = runs.0.suits; once = runs.0.once }, runs.1)))
class_said (statement.Class a n ∷ ss) b f access name t all none runs = let again = runs.0.once in absurd cc
class_said (statement.TableLabel label ∷ ss) b f access name t all none runs = let e = runs.0.suits.1 in absurd cc
class_said (statement.Match m ∷ ss) b f access name t all none runs = let e = runs.0.suits.1 in absurd cc
class_said (statement.Default label ∷ ss) b f access name t all none runs = absurd (no_default runs.0.suits)
class_said (statement.Blank ∷ ss) b f access name t all none runs = absurd all.0
class_said (statement.LabelledInstruction label i ∷ ss) b f access name t all none runs = absurd all.0
class_said (s ∷ ss) b f access name t all none runs = let bad = runs.0.here in absurd cc

-- ---- The beginning

-- The statements are those of a source's beginning that aren't there yet.
abbrev IsBeginningBehind : Bool → Bool → List Statement → Type 0
IsBeginningBehind true true ss = ss ≡ []
IsBeginningBehind true false ss = (ss ≡ []) ⊎ (ss ≡ statement.SourceFile ∷ [])
IsBeginningBehind false true ss = (ss ≡ []) ⊎ (ss ≡ statement.Bytecode ∷ [])
IsBeginningBehind false false ss = IsBeginning ss

record RestBeginning (bytecode source : Bool) (ss : List Statement) (t : Reading) : Type 0 where
  pub beginning : List Statement
  pub access : ℕ
  pub name : List ℕ
  pub behind : List Statement
  pub whole : ss ≡ beginning ++ statement.Class access name ∷ behind
  pub begins : IsBeginningBehind bytecode source beginning
  pub rest : RestSuper access name behind t

abbrev pub begun : Bool → Bool → Reading
begun bytecode source = record empty_reading { has_bytecode = bytecode; has_source = source }

nothing_first : (bytecode source : Bool) → IsBeginningBehind bytecode source []
nothing_first true true = refl
nothing_first true false = inl refl
nothing_first false true = inl refl
nothing_first false false = inl refl

bytecode_first : (source : Bool) (ss : List Statement) → IsBeginningBehind true source ss → IsBeginningBehind false source (statement.Bytecode ∷ ss)
bytecode_first true ss e = inr (ap (λ (xs : List Statement). statement.Bytecode ∷ xs) e)
bytecode_first false ss (inl e) = inr (inl (ap (λ (xs : List Statement). statement.Bytecode ∷ xs) e))
bytecode_first false ss (inr e) = inr (inr (inr (inl (ap (λ (xs : List Statement). statement.Bytecode ∷ xs) e))))

source_first : (bytecode : Bool) (ss : List Statement) → IsBeginningBehind bytecode true ss → IsBeginningBehind bytecode false (statement.SourceFile ∷ ss)
source_first true ss e = inr (ap (λ (xs : List Statement). statement.SourceFile ∷ xs) e)
source_first false ss (inl e) = inr (inr (inl (ap (λ (xs : List Statement). statement.SourceFile ∷ xs) e)))
source_first false ss (inr e) = inr (inr (inr (inr (ap (λ (xs : List Statement). statement.SourceFile ∷ xs) e))))

begun_said : (ss : List Statement) (bytecode source : Bool) (t : Reading) (name : List ℕ) → AllByRecursion IsApart ss → t.method ≡ None → t.name ≡ Some name → Runs (begun bytecode source) ss t → RestBeginning bytecode source ss t
unfolding Suits is_repeated with_statement
begun_said [] b f t name all none named runs = absurd (none-some name (ap (λ (q : Reading). q.name) runs ∙ named))
begun_said (statement.Bytecode ∷ ss) false f t name all none named runs =
    let h = begun_said ss true f t name all.1 none named runs.1 in
    record { beginning = statement.Bytecode ∷ h.beginning; access = h.access; name = h.name; behind = h.behind; whole = ap (λ (xs : List Statement). statement.Bytecode ∷ xs) h.whole; begins = bytecode_first f h.beginning h.begins; rest = h.rest }
begun_said (statement.Bytecode ∷ ss) true f t name all none named runs = let again = runs.0.once in absurd cc
begun_said (statement.SourceFile ∷ ss) b false t name all none named runs =
    let h = begun_said ss b true t name all.1 none named runs.1 in
    record { beginning = statement.SourceFile ∷ h.beginning; access = h.access; name = h.name; behind = h.behind; whole = ap (λ (xs : List Statement). statement.SourceFile ∷ xs) h.whole; begins = source_first b h.beginning h.begins; rest = h.rest }
begun_said (statement.SourceFile ∷ ss) b true t name all none named runs = let again = runs.0.once in absurd cc
begun_said (statement.Class access n ∷ ss) b f t name all none named runs =
    record { beginning = []; access = access; name = n; behind = ss; whole = refl; begins = nothing_first b f; rest = class_said ss b f access n t all.1 none runs.1 }
begun_said (statement.TableLabel label ∷ ss) b f t name all none named runs = let e = runs.0.suits.1 in absurd cc
begun_said (statement.Match m ∷ ss) b f t name all none named runs = let e = runs.0.suits.1 in absurd cc
begun_said (statement.Default label ∷ ss) b f t name all none named runs = absurd (no_default runs.0.suits)
begun_said (statement.Blank ∷ ss) b f t name all none named runs = absurd all.0
begun_said (statement.LabelledInstruction label i ∷ ss) b f t name all none named runs = absurd all.0
begun_said (s ∷ ss) b f t name all none named runs = let bad = runs.0.here in absurd cc

-- ---- The source

step : {A B E : Type 0} {G : Type 0} (r : Result A E) (f : A → Result B E) (y : B) → (r >>= f) ≡ Ok y → ((x : A) → r ≡ Ok x → f x ≡ Ok y → G) → G
step (Ok x) f y e next = next x refl e
step (Err d) f y e next = absurd cc

-- Returns the tree of a state after the last line.
abbrev pub tree_of : Reading → List ℕ → Source
tree_of t name =
    record { access = t.access; name = name; superclass = unwrap_or t.superclass (codes "java/lang/Object"); interfaces = t.interfaces; fields = t.fields; methods = t.methods }

record IsFinished (t : Reading) (s : Source) : Type 0 where
  pub name : List ℕ
  pub named : t.name ≡ Some name
  pub none : t.method ≡ None
  pub tree : tree_of t name ≡ s

finished_said : (last : ℕ) (t : Reading) (s : Source) (name : Option (List ℕ)) (method : Option OpenMethod) → source_of_reading last (record t { name = name; method = method }) ≡ Ok s → IsFinished (record t { name = name; method = method }) s
finished_said last t s (Some name) None e = record { name = name; named = refl; none = refl; tree = same_ok _ s e }
finished_said last t s (Some name) (Some m) e = absurd cc
finished_said last t s None method e = absurd cc

shape : (ss beginning behind rest : List Statement) (a b : ℕ) (n m : List ℕ) → ss ≡ beginning ++ statement.Class a n ∷ behind → a ≡ b → n ≡ m → behind ≡ rest → ss ≡ beginning ++ statement.Class b m ∷ rest
shape ss beginning behind rest a b n m e f g h = cc

made_source : (ss : List Statement) (t : Reading) (name : List ℕ) → IsFormed (tree_of t name) → t.name ≡ Some name → RestBeginning false false ss t → MakesSource ss (tree_of t name)
made_source ss t name formed named h =
    record {
      beginning = h.beginning;
      super = h.rest.super;
      behind = h.rest.behind;
      members = h.rest.rest.members;
      parts = shape ss h.beginning h.behind (h.rest.super ++ (map (λ i. statement.Implements i) t.interfaces ++ h.rest.behind)) h.access t.access h.name name h.whole (sym h.rest.access_is) (same_Some h.name name (sym h.rest.name_is ∙ named)) h.rest.whole;
      begins = h.begins;
      superclass = h.rest.superclass;
      body = subst (λ (a : ℕ). MakesMembers a h.rest.behind h.rest.rest.members) (sym h.rest.access_is) h.rest.rest.body;
      fields = h.rest.rest.fields_are;
      methods = h.rest.rest.methods_are;
      distinct_fields = formed.distinct_fields;
      distinct_methods = formed.distinct_methods;
    }

pub source_said : (text : List ℕ) (s : Source) → source_of text ≡ Ok s → Writes text s
unfolding source_of
source_said text s e =
    let formed = source_formed text s e in
    step (with_lines 0 empty_reading (lines text)) _ s e (λ t is last.
    let steps = lines_said (lines text) 0 empty_reading t is in
    let f = finished_said (last_line (lines text)) t s t.name t.method last in
    let rest = begun_said steps.ss false false t f.name steps.apart f.none f.named steps.runs in
    let made = made_source steps.ss t f.name (subst IsFormed (sym f.tree) formed) f.named rest in
    record { statements = steps.ss; lines_spell = steps.spelled; source = subst (MakesSource steps.ss) f.tree made })
