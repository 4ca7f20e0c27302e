-- One more member, among those that were seen.
use Rattle.std.proofs.Common.{◌≡◌, ℕ, Bool, true, false, cond, ◌&&◌, ◌||◌, ◌==◌, List, [], ◌∷◌, ◌++◌, Option, None, Some, Ordering, refl, sym, ap, ◌∙◌, arith}
use Rattle.std.proofs.lemmas.Bool.Decides.{nat_tests}
use Rattle.std.proofs.lemmas.List.Folds.{list_any-append}
use Rattle.std.proofs.lemmas.Option.{none-some, same_Some}
use Rattle.std.specs.BTreeSet as sorted
use Rattle.std.specs.List.{list_any}
use Rattle.std.specs.Ordering.{nat_cmp, ordering_then, is_eq}
use Rattle.std.specs.declared.cmp.Ordering.TheVariants.{Less, Equal, Greater}
use Rattle.jvms_file.specs.declared.class_file.Constant.{Constant}
use Rattle.jvms_file.specs.declared.class_file.FieldInfo.{FieldInfo}
use Rattle.jvms_file.specs.declared.class_file.MethodInfo.{MethodInfo}
use Rattle.jvms_file.specs.ConstantPool.{both}
use Rattle.jvms_file.specs.Members.{same_entry_text, is_same_field, is_same_method}
use Rattle.const_pool.specs.Texts.{canonical, is_one_number}
use Rattle.const_pool.proofs.FirstNumbers.{one_canonical}
use Rattle.class_file.specs.declared.seen.Seen.{Seen}
use Rattle.class_file.specs.Seen.{pair_cmp, has_pair, is_seen, AreFields, AreMethods}

-- ---- Pairs

both_equal : (o p : Ordering) → is_eq (ordering_then o p) ≡ (is_eq o && is_eq p)
both_equal Less p = refl
both_equal Equal p = refl
both_equal Greater p = refl

numbers_equal : (m n : ℕ) → is_eq (nat_cmp m n) ≡ (m == n)
numbers_equal m n = grind (arith, nat_tests)

one_pair : (x y a b : ℕ) → is_eq (pair_cmp (x, y) (a, b)) ≡ (x == a && y == b)
one_pair x y a b = both_equal (nat_cmp x a) (nat_cmp y b) ∙ rw (numbers_equal x a, numbers_equal y b) refl

cond-or : (a b : Bool) → cond a true b ≡ (a || b)
cond-or true b = refl
cond-or false b = refl

and-false : (a : Bool) → (a && false) ≡ false
and-false true = refl
and-false false = refl

or-alike : (a b c : Bool) → a ≡ false → b ≡ c → b ≡ (a || c)
or-alike a b c none is = rw none is

-- One more pair.
pub pair_put : (old new : Seen) (x y : Option ℕ) (k : ℕ × ℕ) → Some k ≡ both x y → ((q : ℕ × ℕ) → sorted.contains pair_cmp new.pairs q ≡ cond (is_eq (pair_cmp k q)) true (sorted.contains pair_cmp old.pairs q)) → (a b : Option ℕ) → has_pair new (both a b) ≡ ((is_one_number x a && is_one_number y b) || has_pair old (both a b))
pair_put old new None y k is u a b = absurd (none-some k (sym is))
pair_put old new (Some x) None k is u a b = absurd (none-some k (sym is))
pair_put old new (Some x) (Some y) k is u None b = refl
pair_put old new (Some x) (Some y) k is u (Some a) None = or-alike (x == a && false) false false (and-false (x == a)) refl
pair_put old new (Some x) (Some y) k is u (Some a) (Some b) =
    u (a, b) ∙ ap (λ j. cond (is_eq (pair_cmp j (a, b))) true (sorted.contains pair_cmp old.pairs (a, b))) (same_Some k (x, y) is)
    ∙ rw (one_pair x y a b) (cond-or (x == a && y == b) (sorted.contains pair_cmp old.pairs (a, b)))

-- ---- Names and descriptors

-- Names and descriptors are equal by their numbers exactly if their texts are.
pub by_texts : (pool : List Constant) (old new : Seen) (name descriptor m n : ℕ) → is_seen pool new m n ≡ ((is_one_number (canonical pool name) (canonical pool m) && is_one_number (canonical pool descriptor) (canonical pool n)) || is_seen pool old m n) → is_seen pool new m n ≡ ((same_entry_text pool name m && same_entry_text pool descriptor n) || is_seen pool old m n)
by_texts pool old new name descriptor m n h = rw (one_canonical pool name m, one_canonical pool descriptor n) at h

-- ---- Members

or-turned : (a b : Bool) → (a || b) ≡ (b || (a || false))
or-turned true true = refl
or-turned true false = refl
or-turned false true = refl
or-turned false false = refl

pub field_more : (pool : List Constant) (old new : Seen) (fields : List FieldInfo) (f : FieldInfo) → AreFields pool old fields → ((m n : ℕ) → is_seen pool new m n ≡ ((same_entry_text pool f.name m && same_entry_text pool f.descriptor n) || is_seen pool old m n)) → AreFields pool new (fields ++ f ∷ [])
field_more pool old new fields f are more = λ m n.
    more m n ∙ ap (λ b. (same_entry_text pool f.name m && same_entry_text pool f.descriptor n) || b) (are m n)
    ∙ or-turned (is_same_field pool m n f) (list_any (is_same_field pool m n) fields)
    ∙ sym (list_any-append (is_same_field pool m n) fields (f ∷ []))

pub method_more : (pool : List Constant) (old new : Seen) (methods : List MethodInfo) (f : MethodInfo) → AreMethods pool old methods → ((m n : ℕ) → is_seen pool new m n ≡ ((same_entry_text pool f.name m && same_entry_text pool f.descriptor n) || is_seen pool old m n)) → AreMethods pool new (methods ++ f ∷ [])
method_more pool old new methods f are more = λ m n.
    more m n ∙ ap (λ b. (same_entry_text pool f.name m && same_entry_text pool f.descriptor n) || b) (are m n)
    ∙ or-turned (is_same_method pool m n f) (list_any (is_same_method pool m n) methods)
    ∙ sym (list_any-append (is_same_method pool m n) methods (f ∷ []))
