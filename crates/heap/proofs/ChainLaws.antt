-- The first values of fields up the superclasses of a class.
use Rattle.std.proofs.Common.{◌≡◌, ℕ, zero, suc, ◌-◌, ◌<◌, ◌≤◌, Bool, true, false, not, cond, List, [], ◌∷◌, ◌++◌, length, drop, map, reverse, get_or, Some, None, refl, sym, ap, ◌∙◌, append_assoc, drop-cons, arith, flat_map}
use Rattle.std.specs.List.{filter}
use Rattle.std.proofs.lemmas.List.{reverse-append, reverse-reverse, map-append, drop_all, append-nil}
use Rattle.std.proofs.lemmas.List.Concat.{flat_map-append}
use Rattle.jvms_program.specs.declared.program.Class.{Class}
use Rattle.jvms_program.specs.declared.program.Field.{Field}
use Rattle.jvms_program.specs.declared.key.FieldKey.{FieldKey}
use Rattle.jvms_program.specs.Program.{class_named, field_key}
use Rattle.jvms_program.specs.Resolution.{chain, chain_within}
use Rattle.jvms_machine.specs.declared.value.Value.{Value}
use Rattle.jvms_machine.specs.State.{default_value, fields_where, instance_fields}
use Rattle.heap.specs.FirstValues.{own_values, values_down}
use Rattle.heap.specs.Stored.{name_at}

-- ---- Up the superclasses

nowhere : (most : ℕ) (program : List Class) (name : List ℕ) → most ≡ 0 → chain_within most program name ≡ []
unfolding chain_within
nowhere most program name h = rw h refl

missing : (most : ℕ) (program : List Class) (name : List ℕ) → None ≡ class_named program name → chain_within most program name ≡ []
unfolding chain_within
missing zero program name h = refl
missing (suc most) program name h = rw (← h) refl

topmost : (most : ℕ) (program : List Class) (name : List ℕ) (c : Class) → 0 < most → Some c ≡ class_named program name → None ≡ c.superclass → chain_within most program name ≡ c ∷ []
unfolding chain_within
topmost zero program name c h is none = absurd (omega (arith, h))
topmost (suc most) program name c h is none = rw (← is, ← none) refl

one_up : (most less : ℕ) (program : List Class) (name super : List ℕ) (c : Class) → 0 < most → less ≡ most - 1 → Some c ≡ class_named program name → Some super ≡ c.superclass
    → chain_within most program name ≡ c ∷ chain_within less program super
unfolding chain_within
one_up zero less program name super c h e is some = absurd (omega (arith, h))
one_up (suc most) less program name super c h e is some = let same : less ≡ most = omega (arith, e) in rw (same, ← is, ← some) refl

-- The values of the rest of the chain follow those that are there.
pub record Leaves (program : List Class) (all values : List Value) (most : ℕ) (name : List ℕ) : Type 0 where
  pub all_are : values ++ flat_map values_down (chain_within most program name) ≡ all

module _ (program : List Class) (all values : List Value) (most : ℕ) (name : List ℕ) (leaves : Leaves program all values most name) where
  rest_is : (cs : List Class) → chain_within most program name ≡ cs → values ++ flat_map values_down cs ≡ all
  rest_is cs is = ap (λ l. values ++ flat_map values_down l) (sym is) ∙ leaves.all_are

  pub left_at_end : most ≡ 0 → values ≡ all
  left_at_end h = sym (append-nil values) ∙ rest_is [] (nowhere most program name h)

  pub left_missing : None ≡ class_named program name → values ≡ all
  left_missing h = sym (append-nil values) ∙ rest_is [] (missing most program name h)

  pub left_topmost : (c : Class) (new : List Value) → new ≡ values ++ reverse (own_values c.fields) → 0 < most → Some c ≡ class_named program name → None ≡ c.superclass → new ≡ all
  left_topmost c new put h is none =
      put ∙ ap (λ l. values ++ l) (sym (append-nil (values_down c))) ∙ rest_is (c ∷ []) (topmost most program name c h is none)

  pub left_more : (less : ℕ) (super : List ℕ) (c : Class) (new : List Value) → new ≡ values ++ reverse (own_values c.fields) → 0 < most → less ≡ most - 1 → Some c ≡ class_named program name → Some super ≡ c.superclass
      → Leaves program all new less super
  left_more less super c new put h e is some =
      let rest = flat_map values_down (chain_within less program super) in
      record { all_are = ap (λ l. l ++ rest) put ∙ append_assoc values (values_down c) rest ∙ rest_is (c ∷ chain_within less program super) (one_up most less program name super c h e is some) }

-- ---- Up by numbers

-- The values of the rest of the chain of the class of a number follow those that are there.
pub record LeavesAt (program : List Class) (all values : List Value) (class : ℕ) : Type 0 where
  pub all_are : values ++ flat_map values_down (chain program (name_at program class)) ≡ all

-- ---- In one class

-- The values of the fields from a place on, in reverse order, follow those that were there.
pub record HasPut (fields : List Field) (before values : List Value) (left : ℕ) : Type 0 where
  pub within : left ≤ length fields
  pub put : values ≡ before ++ reverse (own_values (drop left fields))

pub none_put : (fields : List Field) (before : List Value) (left : ℕ) → left ≡ length fields → HasPut fields before before left
none_put fields before left h =
    record {
      within = omega (arith, h);
      put = sym (ap (λ l. before ++ reverse (own_values l)) (drop_all left fields (omega (arith, h))) ∙ append-nil before);
    }

own-cons : (f : Field) (fields : List Field) (static : Bool) → f.is_static ≡ static → own_values (f ∷ fields) ≡ cond static (own_values fields) (default_value f.field_type ∷ own_values fields)
own-cons f fields true is = rw is refl
own-cons f fields false is = rw is refl

at_place : (fields : List Field) (left less : ℕ) (f : Field) → 0 < left → left ≤ length fields → less ≡ left - 1 → f ≡ get_or fields less f → drop less fields ≡ f ∷ drop left fields
at_place fields left less f over within e is =
    let here : less < length fields = omega (arith, over, within, e) in
    let next : suc less ≡ left = omega (arith, over, e) in
    drop-cons fields less f here ∙ ap (λ x. x ∷ drop (suc less) fields) (sym is) ∙ ap (λ n. f ∷ drop n fields) next

module _ (fields : List Field) (before values : List Value) (left less : ℕ) (f : Field) (has : HasPut fields before values left) (over : 0 < left) (e : less ≡ left - 1) (is : f ≡ get_or fields less f) where
  own_here : (static : Bool) → f.is_static ≡ static → own_values (drop less fields) ≡ cond static (own_values (drop left fields)) (default_value f.field_type ∷ own_values (drop left fields))
  own_here static s = ap own_values (at_place fields left less f over has.within e is) ∙ own-cons f (drop left fields) static s

  pub static_passed : f.is_static ≡ true → HasPut fields before values less
  static_passed s =
      let within = has.within in
      record { within = omega (arith, e, within); put = has.put ∙ ap (λ l. before ++ reverse l) (sym (own_here true s)) }

  pub own_put : (new : List Value) → new ≡ values ++ default_value f.field_type ∷ [] → f.is_static ≡ false → HasPut fields before new less
  own_put new put s =
      let v = default_value f.field_type in
      let own = own_values (drop left fields) in
      let within = has.within in
      record {
        within = omega (arith, e, within);
        put =
            put ∙ ap (λ l. l ++ v ∷ []) has.put ∙ append_assoc before (reverse own) (v ∷ [])
            ∙ ap (λ l. before ++ l) (sym (reverse-append (v ∷ []) own)) ∙ ap (λ l. before ++ reverse l) (sym (own_here false s));
      }

pub all_put : (fields : List Field) (before values : List Value) (left : ℕ) → HasPut fields before values left → left ≤ 0 → values ≡ before ++ reverse (own_values fields)
all_put fields before values zero has h = has.put
all_put fields before values (suc left) has h = absurd (omega (arith, h))

-- ---- From the top down

of_fields : (c : Class) (fields : List Field) → map (λ (f : FieldKey × Value). f.1) (map (λ f. (field_key c f, default_value f.field_type)) fields ++ []) ≡ map (λ f. default_value f.field_type) fields
of_fields c [] = refl
of_fields c (f ∷ fields) = ap (λ l. default_value f.field_type ∷ l) (of_fields c fields)

abbrev own_fields : Class → List (FieldKey × Value)
own_fields c = fields_where (λ f. not f.is_static) c

turns : (cs : List Class) → reverse (flat_map values_down cs) ≡ map (λ (f : FieldKey × Value). f.1) (flat_map own_fields (reverse cs))
turns [] = refl
turns (c ∷ cs) =
    let second = λ (f : FieldKey × Value). f.1 in
    reverse-append (values_down c) (flat_map values_down cs) ∙ ap (λ l. reverse (flat_map values_down cs) ++ l) (reverse-reverse (own_values c.fields))
    ∙ ap (λ l. l ++ own_values c.fields) (turns cs)
    ∙ ap (λ l. map second (flat_map own_fields (reverse cs)) ++ l) (sym (of_fields c (filter (λ f. not f.is_static) c.fields)))
    ∙ sym (map-append second (flat_map own_fields (reverse cs)) (flat_map own_fields (c ∷ [])))
    ∙ ap (map second) (sym (flat_map-append own_fields (reverse cs) (c ∷ []))) ∙ ap (λ l. map second (flat_map own_fields l)) (sym (reverse-append (c ∷ []) cs))

pub turned : (program : List Class) (name : List ℕ) (none up values : List Value) → none ≡ [] → up ≡ none ++ flat_map values_down (chain program name) → values ≡ reverse up → values ≡ map (λ f. f.1) (instance_fields program name)
turned program name none up values empty are is =
    is ∙ ap reverse (are ∙ ap (λ l. l ++ flat_map values_down (chain program name)) empty) ∙ turns (chain program name)
