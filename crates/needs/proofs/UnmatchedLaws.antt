-- A pattern that names a class, in a program whose classes are each found by their names.
use Rattle.std.proofs.Common.{◌≡◌, ◌≢◌, ◌==◌, ℕ, suc, ◌+◌, ◌<◌, ◌≤◌, Bool, true, false, not, ◌&&◌, ◌||◌, cond, List, [], ◌∷◌, length, Some, None, nat_lt, refl, sym, ap, ◌∙◌, subst, arith}
use Rattle.std.specs.Prelude.{is_some, slice_get}
use Rattle.std.specs.List.{find, list_any, position, position_from}
use Rattle.std.proofs.lemmas.Bool.{cond_both, eqb-false, eqb-true, false≢true, lt-ltb}
use Rattle.std.proofs.lemmas.Iterator.Adapters.{position_from-zero}
use Rattle.std.proofs.lemmas.Option.{none-some, same_Some}
use Rattle.std.specs.Cmp.Lexicographic.{bytes_decides}
use Rattle.jvms_file.specs.Names.{same_text}
use Rattle.jvms_program.specs.declared.program.Class.{Class}
use Rattle.jvms_program.specs.declared.program.Method.{Method}
use Rattle.jvms_program.specs.BuiltIn.{is_built_in}
use Rattle.jvms_program.specs.Program.{class_named, class_number, declared_number, key_in}
use Rattle.jvms_machine.proofs.SearchLaws.{position_leads}
use Rattle.velodrome.specs.declared.specification.Pattern.{Pattern}
use Rattle.velodrome.specs.declared.specification.Pattern.TheVariants as pattern
use Rattle.velodrome.specs.Specification.{is_of}
use Rattle.needs.specs.Unmatched.{FindsEach, NamesClass, matches_in}

-- ---- The methods of a class

any_method : (ms : List Method) → nat_lt 0 (length ms) ≡ list_any (λ m. true) ms
any_method [] = refl
any_method (m ∷ ms) = lt-ltb 0 (length (m ∷ ms)) (omega arith)

-- A test of the class alone, and one of the method.
both : (b : Bool) (test : Method → Bool) (ms : List Method) → list_any (λ m. b && test m) ms ≡ b && list_any test ms
both true test ms = refl
both false test [] = refl
both false test (m ∷ ms) = both false test ms

none_of : (ms : List Method) → false ≡ list_any (λ m. false) ms
none_of [] = refl
none_of (m ∷ ms) = none_of ms

pub of_all : (p : Pattern) (class : Class) (n : ℕ) → p ≡ pattern.All → n ≡ length class.methods → nat_lt 0 n ≡ list_any (λ m. is_of p (key_in class m)) class.methods
of_all p class n is len = rw is (rw len (any_method class.methods))

pub of_class : (p : Pattern) (class : Class) (named : List ℕ) (n : ℕ) → p ≡ pattern.Class named → same_text class.name named ≡ true → n ≡ length class.methods → nat_lt 0 n ≡ list_any (λ m. is_of p (key_in class m)) class.methods
of_class p class named n is same len = rw is (rw same (rw len (any_method class.methods)))

pub of_other_class : (p : Pattern) (class : Class) (named : List ℕ) → p ≡ pattern.Class named → same_text class.name named ≡ false → false ≡ list_any (λ m. is_of p (key_in class m)) class.methods
of_other_class p class named is other = rw is (rw other (none_of class.methods))

pub named_of_other : (p : Pattern) (class : Class) (named name : List ℕ) → p ≡ pattern.Named named name → same_text class.name named ≡ false → false ≡ list_any (λ m. is_of p (key_in class m)) class.methods
named_of_other p class named name is other = rw is (rw other (none_of class.methods))

pub exactly_of_other : (p : Pattern) (class : Class) (named name descriptor : List ℕ) → p ≡ pattern.Exactly named name descriptor → same_text class.name named ≡ false → false ≡ list_any (λ m. is_of p (key_in class m)) class.methods
exactly_of_other p class named name descriptor is other = rw is (rw other (none_of class.methods))

found_from : (test : Method → Bool) (i : ℕ) (ms : List Method) → is_some (position_from test i ms) ≡ list_any test ms
found_from test i [] = refl
found_from test i (m ∷ ms) = by_first (test m) (found_from test (i + 1) ms)
  where
    by_first : (b : Bool) → is_some (position_from test (i + 1) ms) ≡ list_any test ms → is_some (cond b (Some i) (position_from test (i + 1) ms)) ≡ b || list_any test ms
    by_first true rest = refl
    by_first false rest = rest

found_any : (test : Method → Bool) (ms : List Method) → is_some (position test ms) ≡ list_any test ms
found_any test ms = ap is_some (position_from-zero test ms) ∙ found_from test 0 ms

pub of_exactly : (p : Pattern) (class : Class) (named name descriptor : List ℕ) (b : Bool) → p ≡ pattern.Exactly named name descriptor → same_text class.name named ≡ true → b ≡ is_some (declared_number class name descriptor) → b ≡ list_any (λ m. is_of p (key_in class m)) class.methods
of_exactly p class named name descriptor b is same found = rw is (rw same (found ∙ found_any (λ m. same_text m.name name && same_text m.descriptor descriptor) class.methods))

-- ---- The class of a name

-- A class passes if a test passes for one.
record Passes (test : Class → Bool) (cs : List Class) : Type 0 where
  number : ℕ
  class : Class
  there : slice_get cs number ≡ Some class
  passes : test class ≡ true

any_at : (test : Class → Bool) (cs : List Class) → list_any test cs ≡ true → Passes test cs
any_at test [] is = absurd (false≢true is)
any_at test (c ∷ cs) is = by_first (test c) refl is (any_at test cs)
  where
    by_first : (b : Bool) → test c ≡ b → b || list_any test cs ≡ true → (list_any test cs ≡ true → Passes test cs) → Passes test (c ∷ cs)
    by_first true passes is rest = record { number = 0; class = c; there = refl; passes = passes }
    by_first false fails is rest = let one = rest is in record { number = suc one.number; class = one.class; there = one.there; passes = one.passes }

found_passes : (sought test : Class → Bool) (cs : List Class) (c : Class) → find sought cs ≡ Some c → test c ≡ true → list_any test cs ≡ true
found_passes sought test [] c found passes = absurd (none-some c found)
found_passes sought test (d ∷ cs) c found passes = by_first (sought d) found (λ found. found_passes sought test cs c found passes)
  where
    or_true : (a b : Bool) → b ≡ true → a || b ≡ true
    or_true true b is = refl
    or_true false b is = is

    by_first : (b : Bool) → cond b (Some d) (find sought cs) ≡ Some c → (find sought cs ≡ Some c → list_any test cs ≡ true) → test d || list_any test cs ≡ true
    by_first true found rest = let same : test d ≡ true = ap test (same_Some d c found) ∙ passes in rw same refl
    by_first false found rest = or_true (test d) (list_any test cs) (rest found)

-- The test passes for classes of this name alone.
module _ (program : List Class) (each : FindsEach program) (name : List ℕ) (test : Class → Bool) (names : (c : Class) → test c ≡ true → c.name ≡ name) where
  passing : (n : ℕ) (c : Class) → slice_get program n ≡ Some c → test c ≡ true → Some c ≡ class_named program name
  passing n c there passes =
      let number : class_number program name ≡ Some n = subst (λ (l : List ℕ). class_number program l ≡ Some n) (names c passes) (each.found n c there) in
      sym there ∙ position_leads (λ c. same_text c.name name) program n number

  pub of_found : (c : Class) → Some c ≡ class_named program name → test c ≡ list_any test program
  of_found c found = by_any (list_any test program) refl (test c) refl
    where
      by_any : (b : Bool) → list_any test program ≡ b → (a : Bool) → test c ≡ a → a ≡ b
      by_any true any a is =
          let at = any_at test program any in
          let same : at.class ≡ c = same_Some at.class c (passing at.number at.class at.there at.passes ∙ sym found) in
          sym is ∙ ap test (sym same) ∙ at.passes
      by_any false any true is = absurd (false≢true (sym any ∙ found_passes (λ c. same_text c.name name) test program c (sym found) is))
      by_any false any false is = refl

  pub of_none : None ≡ class_named program name → false ≡ list_any test program
  of_none none = by_any (list_any test program) refl
    where
      by_any : (b : Bool) → list_any test program ≡ b → false ≡ b
      by_any true any = let at = any_at test program any in absurd (none-some at.class (none ∙ sym (passing at.number at.class at.there at.passes)))
      by_any false any = refl

-- ---- A pattern's class

any_true : (ms : List Method) (test : Method → Bool) → list_any test ms ≡ true → (m : Method) × (test m ≡ true)
any_true [] test is = absurd (false≢true is)
any_true (m ∷ ms) test is = by_first (test m) refl is (any_true ms test)
  where
    by_first : (b : Bool) → test m ≡ b → b || list_any test ms ≡ true → (list_any test ms ≡ true → (x : Method) × (test x ≡ true)) → (x : Method) × (test x ≡ true)
    by_first true passes is rest = (m, passes)
    by_first false fails is rest = rest is

second_true : (a b : Bool) → a && b ≡ true → b ≡ true
second_true true b is = is
second_true false b is = absurd (false≢true is)

first_true : (a b : Bool) → a && b ≡ true → a ≡ true
first_true true b is = refl
first_true false b is = absurd (false≢true is)

text_is : (a b : List ℕ) → same_text a b ≡ true → a ≡ b
text_is a b is = (bytes_decides a b).0 is

method_of : (p : Pattern) (name : List ℕ) (c : Class) (m : Method) → NamesClass p name → is_of p (key_in c m) ≡ true → c.name ≡ name
method_of pattern.All name c m none is = absurd none
method_of (pattern.Class d) name c m same is = text_is c.name d is ∙ sym same
method_of (pattern.Named d n) name c m same is = text_is c.name d (first_true (same_text c.name d) (same_text m.name n) is) ∙ sym same
method_of (pattern.Exactly d n e) name c m same is = text_is c.name d (first_true (same_text c.name d) (same_text m.name n) (first_true (same_text c.name d && same_text m.name n) (same_text m.descriptor e) is)) ∙ sym same

-- A class that a pattern matches has the name that the pattern names.
pub is_named : (p : Pattern) (name : List ℕ) → NamesClass p name → (c : Class) → matches_in p c ≡ true → c.name ≡ name
is_named p name names c is =
    let one = any_true c.methods (λ m. is_of p (key_in c m)) (second_true (not (is_built_in c.name)) _ is) in
    method_of p name c one.0 names one.1

-- ---- One class more

pub one_more : (program : List Class) (k : ℕ) → ((n : ℕ) (c : Class) → n < k → slice_get program n ≡ Some c → class_number program c.name ≡ Some n)
    → ((c : Class) → slice_get program k ≡ Some c → class_number program c.name ≡ Some k)
    → (n : ℕ) (c : Class) → n < k + 1 → slice_get program n ≡ Some c → class_number program c.name ≡ Some n
one_more program k before here n c within there =
    cond_both (n == k) true false (λ _. class_number program c.name ≡ Some n)
    (λ same. let at : n ≡ k = eqb-true n k same in here c (ap (slice_get program) (sym at) ∙ there) ∙ ap Some (sym at))
    (λ other. let apart = eqb-false n k other in before n c (below n k within apart) there)
  where
    below : (n k : ℕ) → n < k + 1 → n ≢ k → n < k
    below n k within apart = omega (arith, within, apart)

pub below : {items program : List Class} {n k : ℕ} → items ≡ program → length items ≤ k → n < length program → n < k
below {items} {program} {n} {k} same most within = let count : length items ≡ length program = ap length same in omega (arith, count, most, within)
