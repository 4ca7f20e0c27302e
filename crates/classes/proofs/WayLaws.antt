-- The way up to the first match passes only marked classes.
use Rattle.std.proofs.Common.{◌≡◌, ℕ, ◌<◌, true, ◌&&◌, ltb, List, ◌∷◌, length, Option, Some, None, refl, sym, ap, ◌∙◌}
use Rattle.std.specs.Prelude.{slice_get}
use Rattle.std.specs.List.{find, flat_map}
use Rattle.std.proofs.lemmas.Bool.{and_parts, ltb-true}
use Rattle.jvms_program.specs.declared.program.Class.{Class}
use Rattle.jvms_program.specs.Program.{class_named, class_number}
use Rattle.jvms_program.specs.Resolution.{ancestry, first_in, supers_of}
use Rattle.classes.specs.Hierarchy.{IsHierarchyOf, rank, super_numbers}
use Rattle.classes.specs.Marks.{is_marked}
use Rattle.classes.specs.Places.{class_place, match_with_number}
use Rattle.classes.specs.Searches.{AreUseful, IsClosed}
use Rattle.classes.proofs.HierarchyLaws.{all_both, lower, number_within, unfolds}
use Rattle.classes.proofs.PlaceLaws.{named_at, place_is}
use Rattle.classes.proofs.SearchLaws.{LeadsOn, found_passes, leads_on, none_found}

-- The first match above a class is the first above another.
pub record IsOnTheWay (program : List Class) (look : Class → Option (ℕ × ℕ)) (class at : ℕ) : Type 0 where
  pub goes : (name : List ℕ) → class_number program name ≡ Some class
      → (other : List ℕ) × (class_number program other ≡ Some at) × (first_in look (ancestry program name) ≡ first_in look (ancestry program other))

pub begun : (program : List Class) (look : Class → Option (ℕ × ℕ)) (class : ℕ) → IsOnTheWay program look class class
begun program look class = record { goes = λ name number. (name, number, refl) }

module _ (program : List Class) (rows : List (List ℕ)) (ranks order : List ℕ) (h : IsHierarchyOf program rows ranks order) (gives : ℕ → Class → Option (ℕ × ℕ)) where
  abbrev look : Class → Option (ℕ × ℕ)
  look = match_with_number program gives

  -- The match in the class of a number that is there by a name.
  given : (name : List ℕ) (at : ℕ) (c : Class) → class_number program name ≡ Some at → slice_get program at ≡ Some c → look c ≡ gives at c
  given name at c number there =
      let place : at ≡ class_place program c = place_is program name at c number (sym (named_at program name at number) ∙ there) in
      ap (λ n. gives n c) (sym place)

  first_here : (c : Class) (cs : List Class) (x : ℕ × ℕ) → look c ≡ Some x → first_in look (c ∷ cs) ≡ Some x
  first_here c cs x e = rw e refl

  first_later : (c : Class) (cs : List Class) → look c ≡ None → first_in look (c ∷ cs) ≡ first_in look cs
  first_later c cs e = rw e refl

  named_so : (name : List ℕ) (at : ℕ) (c : Class) → slice_get program at ≡ Some c → class_number program name ≡ Some at → class_named program name ≡ Some c
  named_so name at c there number = sym (named_at program name at number) ∙ there

  -- The match is in the class itself.
  pub found_here : (class at : ℕ) (c : Class) (x : ℕ × ℕ) → IsOnTheWay program look class at → slice_get program at ≡ Some c → gives at c ≡ Some x
      → (name : List ℕ) → class_number program name ≡ Some class → Some x ≡ first_in look (ancestry program name)
  found_here class at c x way there is name number =
      let o = way.goes name number in
      sym (o.2 ∙ ap (first_in look) (unfolds program rows ranks order h o.0 at c o.1 (named_so o.0 at c there o.1)) ∙ first_here c (flat_map (ancestry program) (supers_of c)) x (given o.0 at c o.1 there ∙ is))

  module _ (reached useful : List ℕ) (closed : IsClosed program reached) (are : AreUseful program look reached useful) where
    -- There is no match.
    pub found_nowhere : (class at : ℕ) (c : Class) → IsOnTheWay program look class at → slice_get program at ≡ Some c → is_marked reached at ≡ true → gives at c ≡ None
        → find (is_marked useful) (super_numbers program c) ≡ None → (name : List ℕ) → class_number program name ≡ Some class → None ≡ first_in look (ancestry program name)
    found_nowhere class at c way there marked not none name number =
        let o = way.goes name number in
        sym
        (o.2 ∙ ap (first_in look) (unfolds program rows ranks order h o.0 at c o.1 (named_so o.0 at c there o.1)) ∙ first_later c (flat_map (ancestry program) (supers_of c)) (given o.0 at c o.1 there ∙ not)
        ∙ none_found program look (is_marked useful) (is_marked reached) are.exact (supers_of c) (closed.closed at c there marked) none)

    -- The first useful class above a class is reached, and comes before it.
    pub next_is : (at next : ℕ) (c : Class) → slice_get program at ≡ Some c → is_marked reached at ≡ true → find (is_marked useful) (super_numbers program c) ≡ Some next
        → (is_marked reached next ≡ true) × (rank ranks next < rank ranks at)
    next_is at next c there marked found =
        let p = λ (n : ℕ). is_marked reached n && ltb (rank ranks n) (rank ranks at) in
        let all = all_both (is_marked reached) (λ n. ltb (rank ranks n) (rank ranks at)) (super_numbers program c) (closed.closed at c there marked) (lower program rows ranks order h at c there) in
        let passes = found_passes (is_marked useful) p (super_numbers program c) next all found in
        let parts = and_parts (is_marked reached next) (ltb (rank ranks next) (rank ranks at)) passes.1 in
        (parts.0, ltb-true (rank ranks next) (rank ranks at) parts.1)

    pub next_leads : (at next : ℕ) (c : Class) → slice_get program at ≡ Some c → is_marked reached at ≡ true → find (is_marked useful) (super_numbers program c) ≡ Some next
        → LeadsOn program look (is_marked useful) (is_marked reached) are.exact (supers_of c) next
    next_leads at next c there marked found =
        leads_on program look (is_marked useful) (is_marked reached) are.exact (supers_of c) next (closed.closed at c there marked) found

    pub next_within : (at next : ℕ) (c : Class) → slice_get program at ≡ Some c → is_marked reached at ≡ true → find (is_marked useful) (super_numbers program c) ≡ Some next → next < length program
    next_within at next c there marked found =
        let l = next_leads at next c there marked found in number_within program l.name next l.number

    -- The way continues with the first useful class above.
    pub next_way : (class at next : ℕ) (c : Class) → IsOnTheWay program look class at → slice_get program at ≡ Some c → is_marked reached at ≡ true → gives at c ≡ None
        → find (is_marked useful) (super_numbers program c) ≡ Some next → IsOnTheWay program look class next
    next_way class at next c way there marked not found =
        let l = next_leads at next c there marked found in
        record {
          goes = λ name number.
              let o = way.goes name number in
              (l.name, l.number, o.2 ∙ ap (first_in look) (unfolds program rows ranks order h o.0 at c o.1 (named_so o.0 at c there o.1)) ∙ first_later c (flat_map (ancestry program) (supers_of c)) (given o.0 at c o.1 there ∙ not) ∙ l.same);
        }
