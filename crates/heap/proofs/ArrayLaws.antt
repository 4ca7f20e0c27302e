-- Arrays of arrays.
use Rattle.std.proofs.Common.{◌≡◌, ℕ, zero, suc, ◌+◌, ◌*◌, ◌<◌, ◌≤◌, ◌^◌, List, [], ◌∷◌, ◌++◌, length, drop, map, replicate, refl, sym, ap, subst, ◌∙◌, append_assoc, Vec, Global, arith}
use Rattle.std.specs.List.{AllByRecursion, range_with_len, flat_map}
use Rattle.std.proofs.lemmas.List.{length-map, map-append, append-nil}
use Rattle.std.proofs.lemmas.List.FromFn.{length-range_with_len, map-range_with_len_more}
use Rattle.std.proofs.lemmas.List.Concat.{flat_map-append}
use Rattle.std.proofs.Math.Nat.{mul-le-mul_right}
use Rattle.jvms_program.specs.declared.program.Class.{Class}
use Rattle.jvms_machine.specs.declared.value.Value.TheVariants as value
use Rattle.jvms_machine.specs.State.{Object, array}
use Rattle.jvms_machine.specs.Heap.{arrays_made, component_type, elements_made, part_references, new_arrays, first_element}
use Rattle.jvms_machine.proofs.ListLaws.{all_append}
use Rattle.heap.specs.declared.stored_object.StoredObject.{StoredObject}
use Rattle.heap.specs.declared.stored_object.StoredObject.TheVariants as stored
use Rattle.array_elements.specs.declared.elements.Elements.TheVariants as elements
use Rattle.array_elements.specs.declared.kind.Kind.TheVariants as kind
use Rattle.array_elements.specs.Elements.{reference_value}
use Rattle.array_elements.specs.Kinds.{kind_of}
use Rattle.heap.specs.Stored.{object_of, IsKept, IsPlain, AreStored}
use Rattle.heap.specs.Arrays.{IsArray, AppendsArrays}
use Rattle.heap.proofs.MakingLaws.{plain_added}

-- ---- Numbers of arrays and elements

once : (x y n : ℕ) → n ≡ suc x → y ≤ n * y
once x y n is = let e : n * y ≡ y + x * y = ap (λ k. k * y) is ∙ omega arith in omega arith

pub one_made : (n : ℕ) (rest : List ℕ) → length rest ≡ 0 → 1 ≡ arrays_made (n ∷ rest)
one_made n [] h = refl
one_made n (m ∷ ms) h = absurd (omega (arith, h))

pub none_made : (n : ℕ) (rest : List ℕ) → n ≡ 0 → 1 ≡ arrays_made (n ∷ rest)
none_made n [] h = refl
none_made n (m ∷ ms) h = sym (ap (λ k. 1 + k * arrays_made (m ∷ ms)) h ∙ omega arith)

pub many_made : (n : ℕ) (rest : List ℕ) → 0 < length rest → arrays_made (n ∷ rest) ≡ 1 + n * arrays_made rest
many_made n [] h = absurd (omega (arith, h))
many_made n (m ∷ ms) h = refl

pub part_fits_made : (n : ℕ) (rest : List ℕ) → 0 < n → 0 < length rest → arrays_made rest ≤ arrays_made (n ∷ rest)
part_fits_made zero rest over h = absurd (omega (arith, over))
part_fits_made (suc n) rest over h =
    let e = many_made (suc n) rest h in
    let more = once n (arrays_made rest) (suc n) refl in
    omega arith

pub some_made : (rest : List ℕ) → 0 < length rest → 0 < arrays_made rest
some_made [] h = absurd (omega (arith, h))
some_made (n ∷ []) h = omega arith
some_made (n ∷ m ∷ rest) h = omega arith

pub own_elements : (n : ℕ) (rest : List ℕ) → length rest ≡ 0 → n ≡ elements_made (n ∷ rest)
own_elements n [] h = refl
own_elements n (m ∷ ms) h = absurd (omega (arith, h))

pub no_elements : (n : ℕ) (rest : List ℕ) → n ≡ 0 → n ≡ elements_made (n ∷ rest)
no_elements n [] h = refl
no_elements n (m ∷ ms) h = h ∙ sym (ap (λ k. k + k * elements_made (m ∷ ms)) h ∙ omega arith)

pub many_elements : (n : ℕ) (rest : List ℕ) → 0 < length rest → elements_made (n ∷ rest) ≡ n + n * elements_made rest
many_elements n [] h = absurd (omega (arith, h))
many_elements n (m ∷ ms) h = refl

pub part_fits_elements : (n : ℕ) (rest : List ℕ) → 0 < n → 0 < length rest → elements_made rest ≤ elements_made (n ∷ rest)
part_fits_elements zero rest over h = absurd (omega (arith, over))
part_fits_elements (suc n) rest over h =
    let e = many_elements (suc n) rest h in
    let more = once n (elements_made rest) (suc n) refl in
    omega arith

-- ---- The references of parts

-- The first i parts have their references, and the next part has this one.
pub record HasParts (first size i next : ℕ) (references : List ℕ) : Type 0 where
  pub there : references ≡ part_references first size i
  pub next_is : next ≡ first + i * size

pub parts_start : (first size next : ℕ) → next ≡ first → HasParts first size 0 next []
parts_start first size next is = record { there = refl; next_is = is ∙ omega arith }

pub part_below : (first size count i next : ℕ) → next ≡ first + i * size → i < count → first + count * size ≤ 2 ^ 32 → next + size ≤ 2 ^ 32
part_below first size count i next is below room =
    let most : suc i * size ≤ count * size = mul-le-mul_right size (omega (arith, below)) in
    let e : suc i * size ≡ size + i * size = omega arith in
    omega arith

pub parts_push : (first size i : ℕ) → part_references first size (i + 1) ≡ part_references first size i ++ (first + i * size) ∷ []
parts_push first size i = map-range_with_len_more (λ k. first + k * size) 0 i i (omega arith)

pub parts_more : (first size i next after : ℕ) (references new : List ℕ) → HasParts first size i next references → new ≡ references ++ next ∷ [] → after ≡ next + size → HasParts first size (i + 1) after new
parts_more first size i next after references new has put is =
    record {
      there =
          put ∙ ap (λ l. l ++ next ∷ []) has.there ∙ ap (λ r. part_references first size i ++ r ∷ []) has.next_is
          ∙ sym (parts_push first size i);
      next_is = let e = has.next_is in let m : (i + 1) * size ≡ i * size + size = omega arith in omega arith;
    }

references_by : (first size n a : ℕ) → 0 < first → map reference_value (map (λ i. first + i * size) (range_with_len a n)) ≡ map value.Reference (map (λ i. first + i * size) (range_with_len a n))
references_by first size zero a over = refl
references_by first size (suc n) a over =
    ap (λ v. v ∷ map reference_value (map (λ i. first + i * size) (range_with_len (a + 1) n))) (there (first + a * size) (omega (arith, over)))
    ∙ ap (λ l. value.Reference (first + a * size) ∷ l) (references_by first size n (a + 1) over)
  where
    there : (r : ℕ) → 0 < r → reference_value r ≡ value.Reference r
    there zero over = absurd (omega (arith, over))
    there (suc r) over = refl

-- Stored references denote references.
pub references_shown : (first size n : ℕ) (references : List ℕ) → references ≡ part_references first size n → 0 < first → map reference_value references ≡ map value.Reference (part_references first size n)
references_shown first size n references is over = ap (map reference_value) is ∙ references_by first size n 0 over

-- An array of n parts, by their references.
pub parts_held : (first size n : ℕ) (t class : List ℕ) (references : Vec ℕ Global) → t ≡ class → references.items ≡ part_references first size n → 0 < first → n < 2 ^ 31 → kind_of (component_type class) ≡ kind.Reference
    → IsArray (stored.Array t (elements.References references)) (array class (map value.Reference (part_references first size n)))
parts_held first size n t class references same are over few of_references =
    let as_many = length-map references.items reference_value in
    let parts = ap length are ∙ length-map (range_with_len 0 n) (λ i. first + i * size) ∙ length-range_with_len 0 n in
    record {
      shows = λ program. ap (λ c. array c (map reference_value references.items)) same ∙ ap (array class) (references_shown first size n references.items are over);
      kept = λ program. (sym of_references ∙ ap (λ c. kind_of (component_type c)) (sym same), omega (arith, as_many, parts, few));
      plain = tt;
    }

-- ---- Created arrays

pub made_none : (before : List StoredObject) → AppendsArrays before before []
made_none before = record { new = []; put = sym (append-nil before); show = λ program. refl; kept = λ program. tt; plain = tt }

pub made_one : (before after : List StoredObject) (o : StoredObject) (x : Object) → after ≡ before ++ o ∷ [] → IsArray o x → AppendsArrays before after (x ∷ [])
made_one before after o x put is =
    record { new = o ∷ []; put = put; show = λ program. ap (λ y. y ∷ []) (is.shows program); kept = λ program. (is.kept program, tt); plain = (is.plain, tt) }

pub made_more : (a b c : List StoredObject) (xs ys : List Object) → AppendsArrays a b xs → AppendsArrays b c ys → AppendsArrays a c (xs ++ ys)
made_more a b c xs ys first second =
    record {
      new = first.new ++ second.new;
      put = second.put ∙ ap (λ l. l ++ second.new) first.put ∙ append_assoc a first.new second.new;
      show = λ program. map-append (object_of program) first.new second.new ∙ ap (λ l. l ++ map (object_of program) second.new) (first.show program) ∙ ap (λ l. xs ++ l) (second.show program);
      kept = λ program. all_append (IsKept program) first.new second.new (first.kept program) (second.kept program);
      plain = all_append IsPlain first.new second.new first.plain second.plain;
    }

-- The parts so far are created, and the next one has this reference.
pub record PartsMade (before after : List StoredObject) (class rest : List ℕ) (first size i next : ℕ) : Type 0 where
  pub made : AppendsArrays before after (flat_map (λ part. new_arrays part class rest) (part_references first size i))
  pub next_is : next ≡ first + i * size

pub parts_begun : (before : List StoredObject) (class rest : List ℕ) (first size next : ℕ) → next ≡ first → PartsMade before before class rest first size 0 next
parts_begun before class rest first size next is = record { made = made_none before; next_is = is ∙ omega arith }

pub part_made : (before during after : List StoredObject) (class rest : List ℕ) (first size i next more : ℕ) → PartsMade before during class rest first size i next → AppendsArrays during after (new_arrays next class rest) → more ≡ next + size
    → PartsMade before after class rest first size (i + 1) more
part_made before during after class rest first size i next more parts made is =
    let f : ℕ → List Object = λ part. new_arrays part class rest in
    let e = parts.next_is in
    let m : (i + 1) * size ≡ i * size + size = omega arith in
    let both = made_more before during after (flat_map f (part_references first size i)) (new_arrays next class rest) parts.made made in
    let same : flat_map f (part_references first size i) ++ new_arrays next class rest ≡ flat_map f (part_references first size (i + 1)) =
    ap (λ l. flat_map f (part_references first size i) ++ l) (ap f e ∙ sym (append-nil (f (first + i * size))))
    ∙ sym (flat_map-append f (part_references first size i) ((first + i * size) ∷ [])) ∙ ap (flat_map f) (sym (parts_push first size i)) in
    record { made = subst (AppendsArrays before after) same both; next_is = omega arith }

pub all_parts_made : (before during after : List StoredObject) (class rest : List ℕ) (r n next : ℕ) (x : Object) → AppendsArrays before during (x ∷ []) → PartsMade during after (drop 1 class) rest (r + 1) (arrays_made rest) n next
    → AppendsArrays before after (x ∷ flat_map (λ part. new_arrays part (drop 1 class) rest) (part_references (r + 1) (arrays_made rest) n))
all_parts_made before during after class rest r n next x one parts = made_more before during after (x ∷ []) _ one parts.made

-- ---- In a heap

pub all_added : (program : List Class) (objects new : List StoredObject) (texts classes : List (List ℕ × ℕ)) → AreStored program objects texts classes → AllByRecursion (IsKept program) new → AllByRecursion IsPlain new
    → AreStored program (objects ++ new) texts classes
all_added program objects [] texts classes are kept plain = subst (λ l. AreStored program l texts classes) (sym (append-nil objects)) are
all_added program objects (o ∷ new) texts classes are kept plain =
    subst (λ l. AreStored program l texts classes) (append_assoc objects (o ∷ []) new)
    (all_added program (objects ++ o ∷ []) new texts classes (plain_added program objects texts classes o are kept.0 plain.0) kept.1 plain.1)

-- ---- At the end of the lengths, and where there are no parts

pub leaf : (before after : List StoredObject) (o : StoredObject) (r n : ℕ) (class rest : List ℕ) → rest ≡ [] → after ≡ before ++ o ∷ [] → IsArray o (array class (replicate n (first_element class)))
    → AppendsArrays before after (new_arrays r class (n ∷ rest))
leaf before after o r n class rest none put is = rw none (made_one before after o _ put is)

pub no_parts : (before after : List StoredObject) (o : StoredObject) (r n m : ℕ) (class rest ms : List ℕ) → rest ≡ m ∷ ms → n ≡ 0 → after ≡ before ++ o ∷ [] → IsArray o (array class (replicate n (first_element class)))
    → AppendsArrays before after (new_arrays r class (n ∷ rest))
no_parts before after o r n m class rest ms some none put is =
    let it : IsArray o (array class []) = subst (λ k. IsArray o (array class (replicate k (first_element class)))) none is in
    rw (some, none) (made_one before after o (array class []) put it)

pub whole : (before during after : List StoredObject) (o : StoredObject) (r n m next size i : ℕ) (class component rest ms : List ℕ) → rest ≡ m ∷ ms → size ≡ arrays_made rest → i ≡ n → component ≡ drop 1 class → during ≡ before ++ o ∷ []
    → IsArray o (array class (map value.Reference (part_references (r + 1) size n))) → PartsMade during after component rest (r + 1) size i next → AppendsArrays before after (new_arrays r class (n ∷ rest))
whole before during after o r n m next size i class component rest ms some is end same put array_is parts =
    let x : Object = array class (map value.Reference (part_references (r + 1) size n)) in
    let e : x ∷ flat_map (λ part. new_arrays part component rest) (part_references (r + 1) size i) ≡ new_arrays r class (n ∷ rest) = rw (same, end, is, some) refl in
    subst (AppendsArrays before after) e (made_more before during after (x ∷ []) _ (made_one before during o x put array_is) parts.made)

pub none_of_none : (items : List StoredObject) (r : ℕ) (class lengths : List ℕ) → items ≡ [] → lengths ≡ [] → AppendsArrays [] items (new_arrays r class lengths)
none_of_none items r class lengths is none = rw (is, none) (made_none [])

pub made_of_some : (items after : List StoredObject) (r n : ℕ) (class lengths rest : List ℕ) → items ≡ [] → lengths ≡ n ∷ rest → AppendsArrays items after (new_arrays r class (n ∷ rest)) → AppendsArrays [] after (new_arrays r class lengths)
made_of_some items after r n class lengths rest is some made = subst (λ l. AppendsArrays [] after (new_arrays r class l)) (sym some) (subst (λ b. AppendsArrays b after (new_arrays r class (n ∷ rest))) is made)
