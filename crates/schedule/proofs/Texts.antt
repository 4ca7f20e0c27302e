-- Values in texts, separated by commas.
use Rattle.std.proofs.Common.{◌≡◌, ◌≢◌, ℕ, ◌<◌, ◌⊎◌, false, List, [], ◌∷◌, ◌++◌, length, get_or, eqb, Option, None, Some, MatchOption, IfSome, IfOk, ok_or, refl, ◌∙◌, ap, sym, subst, arith}
use Rattle.std.specs.List.{AllZip, join_with_byte}
use Rattle.std.specs.Option.{option_map}
use Rattle.std.specs.Str.Parse.{IsNumeral}
use Rattle.std.proofs.lemmas.List.{append_assoc, length-append}
use Rattle.std.proofs.lemmas.List.Elements.{All-from_get_or}
use Rattle.std.proofs.lemmas.List.Splits.{join_with_byte-slice_split}
use Rattle.std.proofs.lemmas.Slice.Zip.{all_zipped_more}
use Rattle.std.proofs.lemmas.Bool.Decides.{nat_tests}
use Rattle.schedule.specs.Lists.{IsLastOf}
use Rattle.schedule.specs.Parts.{Lacks, first_part, numeral_lacks, one_part, parts_at}
use Rattle.schedule.specs.Schedules.{WritesList}

pub lacks : (byte : ℕ) (text : List ℕ) → ((i : ℕ) → i < length text → get_or text i 0 ≢ byte) → Lacks byte text
lacks byte text none = All-from_get_or (λ b. eqb b byte ≡ false) text 0 (λ i inside. let other = none i inside in grind (arith, nat_tests))

-- ---- Two numerals

tail_same : (a b : List ℕ) (ps qs : List (List ℕ)) → a ∷ ps ≡ b ∷ qs → ps ≡ qs
tail_same a b ps qs e = cc

head_same : (a b : List ℕ) (ps qs : List (List ℕ)) → a ∷ ps ≡ b ∷ qs → a ≡ b
head_same a b ps qs e = cc

-- A text is cut at the first occurrence of a byte in one way.
pub cut_once : (byte : ℕ) (text front back first second : List ℕ) → text ≡ front ++ byte ∷ back → Lacks byte front → text ≡ first ++ byte ∷ second → Lacks byte first
    → (front ≡ first) × (back ≡ second)
cut_once byte text front back first second e none f lacking =
    let cut : front ∷ parts_at byte back ≡ first ∷ parts_at byte second =
    sym (ap (parts_at byte) e ∙ first_part byte front back none) ∙ ap (parts_at byte) f ∙ first_part byte first second lacking in (
      head_same front first (parts_at byte back) (parts_at byte second) cut,
      sym (join_with_byte-slice_split byte back) ∙ ap (join_with_byte byte) (tail_same front first (parts_at byte back) (parts_at byte second) cut)
          ∙ join_with_byte-slice_split byte second,
    )

-- If a text of two numerals is cut at the first occurrence of the byte between them, its parts are the numerals.
pub numerals_are_cut : (byte : ℕ) (text front back first second : List ℕ) → (byte < 48) ⊎ (57 < byte) → text ≡ front ++ byte ∷ back → Lacks byte front
    → IsNumeral 10 first → IsNumeral 10 second → text ≡ first ++ byte ∷ second → (front ≡ first) × (back ≡ second)
numerals_are_cut byte text front back first second other e none one two f =
    cut_once byte text front back first second e none f (numeral_lacks byte first one other)

-- A text in which a byte doesn't occur isn't cut at it.
pub never_cut : (byte : ℕ) (text first second : List ℕ) → Lacks byte text → text ≡ first ++ byte ∷ second → Lacks byte first → ⊥
never_cut byte text first second none f lacking =
    let cut : text ∷ [] ≡ first ∷ parts_at byte second = sym (one_part byte text none) ∙ ap (parts_at byte) f ∙ first_part byte first second lacking in
    let no_parts : [] ≡ parts_at byte second = tail_same text first [] (parts_at byte second) cut in
    let empty : [] ≡ second = ap (join_with_byte byte) no_parts ∙ join_with_byte-slice_split byte second in
    let never : [] ≡ parts_at byte [] = no_parts ∙ ap (parts_at byte) (sym empty) in
    absurd (omega (arith, ap length never))

-- A text of two numerals has the byte between them.
pub numerals_have_byte : (byte : ℕ) (text first second : List ℕ) → (byte < 48) ⊎ (57 < byte) → Lacks byte text → IsNumeral 10 first → IsNumeral 10 second
    → text ≡ first ++ byte ∷ second → ⊥
numerals_have_byte byte text first second other none one two f = never_cut byte text first second none f (numeral_lacks byte first one other)

-- ---- Lists of values

module _ {X : Type 0} (Writes : List ℕ → X → Type 0) where
  pub list_of_parts : (text : List ℕ) (values : List X) → AllZip Writes (parts_at 44 text) values → WritesList Writes text values
  list_of_parts text values written = (parts_at 44 text, written, sym (join_with_byte-slice_split 44 text))

-- Values are written by texts without commas.
module _ {X : Type 0} (Writes : List ℕ → X → Type 0) (lacks_comma : (text : List ℕ) (value : X) → Writes text value → Lacks 44 text) where
  parts_of_joined : (part : List ℕ) (parts : List (List ℕ)) (values : List X) → AllZip Writes (part ∷ parts) values → parts_at 44 (join_with_byte 44 (part ∷ parts)) ≡ part ∷ parts
  parts_of_joined part parts [] written = absurd written
  parts_of_joined part [] (x ∷ xs) written = one_part 44 part (lacks_comma part x written.0)
  parts_of_joined part (next ∷ parts) (x ∷ xs) written =
      first_part 44 part (join_with_byte 44 (next ∷ parts)) (lacks_comma part x written.0)
      ∙ ap (λ ps. part ∷ ps) (parts_of_joined next parts xs written.1)

  pub parts_of_list : (text : List ℕ) (values : List X) → 0 < length text → WritesList Writes text values → AllZip Writes (parts_at 44 text) values
  parts_of_list text values some ([], written, e) = absurd (omega (arith, ap length e))
  parts_of_list text values some (part ∷ parts, written, e) =
      let P : List (List ℕ) → Type 0 = λ ps. AllZip Writes ps values in
      subst P (sym (ap (parts_at 44) e ∙ parts_of_joined part parts values written)) written

-- A text writes one value at most.
module _ {X : Type 0} (Writes : List ℕ → X → Type 0) (writes_one : (text : List ℕ) (a b : X) → Writes text a → Writes text b → a ≡ b) where
  pub same_values : (parts : List (List ℕ)) (xs ys : List X) → AllZip Writes parts xs → AllZip Writes parts ys → xs ≡ ys
  same_values [] [] [] first second = refl
  same_values [] [] (y ∷ ys) first second = absurd second
  same_values [] (x ∷ xs) ys first second = absurd first
  same_values (p ∷ ps) [] ys first second = absurd first
  same_values (p ∷ ps) (x ∷ xs) [] first second = absurd second
  same_values (p ∷ ps) (x ∷ xs) (y ∷ ys) first second =
      ap (λ z. z ∷ xs) (writes_one p x y first.0 second.0) ∙ ap (λ zs. y ∷ zs) (same_values ps xs ys first.1 second.1)

-- Values are written by texts that aren't empty, and have no commas.
module _ {X : Type 0} (Writes : List ℕ → X → Type 0) (some_text : (text : List ℕ) (value : X) → Writes text value → 0 < length text) where
  none_of_empty : (values : List X) → WritesList Writes [] values → values ≡ []
  none_of_empty [] written = refl
  none_of_empty (x ∷ xs) ([], written, e) = absurd written
  none_of_empty (x ∷ xs) (part ∷ [], written, e) = absurd (omega (arith, some_text part x written.0, ap length e))
  none_of_empty (x ∷ xs) (part ∷ next ∷ parts, written, e) =
      absurd (omega (arith, length-append part (44 ∷ join_with_byte 44 (next ∷ parts)), ap length e))

  -- A text writes one list at most.
  pub same_list : ((text : List ℕ) (value : X) → Writes text value → Lacks 44 text) → ((text : List ℕ) (a b : X) → Writes text a → Writes text b → a ≡ b)
      → (text : List ℕ) (xs ys : List X) → WritesList Writes text xs → WritesList Writes text ys → xs ≡ ys
  same_list lacks_comma writes_one [] xs ys first second = none_of_empty xs first ∙ sym (none_of_empty ys second)
  same_list lacks_comma writes_one (c ∷ cs) xs ys first second =
      same_values Writes writes_one (parts_at 44 (c ∷ cs)) xs ys
      (parts_of_list Writes lacks_comma (c ∷ cs) xs (omega arith) first) (parts_of_list Writes lacks_comma (c ∷ cs) ys (omega arith) second)

-- ---- Reading a list

-- The rest of a text is still to be read. The parts before it write values in order, which are kept unless memory ran out.
pub record IsRead {X : Type 0} (Writes : List ℕ → X → Type 0) (AreOrdered : List X → Type 0) (text rest : List ℕ) (last : Option X) (held : Option (List X)) : Type 0 where
  pub front : List (List ℕ)
  pub values : List X
  pub parts : parts_at 44 text ≡ front ++ parts_at 44 rest
  pub written : AllZip Writes front values
  pub ordered : AreOrdered values
  pub is_last : IsLastOf values last
  pub kept : IfSome held (λ v. v ≡ values)
  pub some : 0 < length text

-- The list after has one more value than the list before. Without memory there is no list after.
abbrev pub Adds : {X : Type 0} → Option (List X) → X → Option (List X) → Type 0
Adds before value after = IfSome after (λ a. MatchOption before ⊥ (λ b. a ≡ b ++ value ∷ []))

module _ {X : Type 0} where
  adds_kept : (before after : Option (List X)) (value : X) (values : List X) → Adds before value after → IfSome before (λ v. v ≡ values) → IfSome after (λ v. v ≡ values ++ value ∷ [])
  adds_kept before None value values adds kept = tt
  adds_kept None (Some a) value values adds kept = absurd adds
  adds_kept (Some b) (Some a) value values adds kept = adds ∙ ap (λ v. v ++ value ∷ []) kept

  pub adds_items : {V : Type 0} (items : V → List X) (before after : Option V) (value : X) → IfSome after (λ a. MatchOption before ⊥ (λ b. items a ≡ items b ++ value ∷ [])) → Adds (option_map items before) value (option_map items after)
  adds_items items before None value adds = tt
  adds_items items None (Some a) value adds = absurd adds
  adds_items items (Some b) (Some a) value adds = adds

module _ {X : Type 0} (Writes : List ℕ → X → Type 0) (AreOrdered : List X → Type 0) where
  pub nothing_read : (text : List ℕ) → 0 < length text → AreOrdered [] → IsRead Writes AreOrdered text text None (Some [])
  nothing_read text some none = record { front = []; values = []; parts = refl; written = tt; ordered = none; is_last = refl; kept = refl; some = some }

  pub more_read : (text rest part others : List ℕ) (value : X) (last : Option X) (before after : Option (List X)) (read : IsRead Writes AreOrdered text rest last before)
      → rest ≡ part ++ 44 ∷ others → Lacks 44 part → Writes part value × AreOrdered (read.values ++ value ∷ []) → Adds before value after
      → IsRead Writes AreOrdered text others (Some value) after
  more_read text rest part others value last before after read e none (written, ordered) adds =
      record {
        front = read.front ++ part ∷ [];
        values = read.values ++ value ∷ [];
        parts = read.parts ∙ ap (λ r. read.front ++ parts_at 44 r) e ∙ ap (λ ps. read.front ++ ps) (first_part 44 part others none) ∙ sym (append_assoc read.front (part ∷ []) (parts_at 44 others));
        written = all_zipped_more Writes read.front read.values part value read.written written;
        ordered = ordered;
        is_last = (read.values, refl);
        kept = adds_kept before after value read.values adds read.kept;
        some = read.some;
      }

  pub last_read : (text rest : List ℕ) (value : X) (last : Option X) (before after : Option (List X)) (read : IsRead Writes AreOrdered text rest last before)
      → Lacks 44 rest → Writes rest value × AreOrdered (read.values ++ value ∷ []) → Adds before value after
      → (values : List X) × (WritesList Writes text values × AreOrdered values) × IfSome after (λ v. v ≡ values)
  last_read text rest value last before after read none (written, ordered) adds =
      let e : parts_at 44 text ≡ read.front ++ rest ∷ [] = read.parts ∙ ap (λ ps. read.front ++ ps) (one_part 44 rest none) in
      let P : List (List ℕ) → Type 0 = λ ps. AllZip Writes ps (read.values ++ value ∷ []) in (
        read.values ++ value ∷ [],
        (list_of_parts Writes text (read.values ++ value ∷ []) (subst P (sym e) (all_zipped_more Writes read.front read.values rest value read.written written)), ordered),
        adds_kept before after value read.values adds read.kept,
      )

  pub held_values : {V E : Type 0} (items : V → List X) (text : List ℕ) (after : Option V) (fault : E)
      → (values : List X) × (WritesList Writes text values × AreOrdered values) × IfSome (option_map items after) (λ v. v ≡ values)
      → IfOk (ok_or after fault) (λ v. WritesList Writes text (items v) × AreOrdered (items v))
  held_values items text None fault found = tt
  held_values items text (Some v) fault (values, are, same) =
      let P : List X → Type 0 = λ xs. WritesList Writes text xs × AreOrdered xs in
      subst P (sym same) are

-- The values that parts write, of which one is in the midst.
record IsCut {X : Type 0} (Writes : List ℕ → X → Type 0) (front : List (List ℕ)) (part : List ℕ) (values : List X) : Type 0 where
  before : List X
  value : X
  after : List X
  written : AllZip Writes front before
  here : Writes part value
  whole : values ≡ before ++ value ∷ after

module _ {X : Type 0} (Writes : List ℕ → X → Type 0) where
  cut : (front : List (List ℕ)) (part : List ℕ) (more : List (List ℕ)) (values : List X) → AllZip Writes (front ++ part ∷ more) values → IsCut Writes front part values
  cut [] part more [] written = absurd written
  cut [] part more (x ∷ xs) written = record { before = []; value = x; after = xs; written = tt; here = written.0; whole = refl }
  cut (p ∷ ps) part more [] written = absurd written
  cut (p ∷ ps) part more (x ∷ xs) written =
      let rest = cut ps part more xs written.1 in
      record { before = x ∷ rest.before; value = rest.value; after = rest.after; written = (written.0, rest.written); here = rest.here; whole = ap (λ ys. x ∷ ys) rest.whole }

module _ {X : Type 0} (Writes : List ℕ → X → Type 0) (AreOrdered : List X → Type 0)
    (lacks_comma : (text : List ℕ) (value : X) → Writes text value → Lacks 44 text)
    (writes_one : (text : List ℕ) (a b : X) → Writes text a → Writes text b → a ≡ b)
    (fewer_are_ordered : (before after : List X) → AreOrdered (before ++ after) → AreOrdered before) where
  -- If a part writes no value that may be listed after those before it, the text writes no list.
  pub never_read : (text rest part : List ℕ) (more : List (List ℕ)) (last : Option X) (held : Option (List X)) (read : IsRead Writes AreOrdered text rest last held)
      → parts_at 44 rest ≡ part ∷ more → ((value : X) → Writes part value → ¬ (AreOrdered (read.values ++ value ∷ [])))
      → (values : List X) → ¬ (WritesList Writes text values × AreOrdered values)
  never_read text rest part more last held read e never values (written, ordered) =
      let whole : parts_at 44 text ≡ read.front ++ part ∷ more = read.parts ∙ ap (λ ps. read.front ++ ps) e in
      let P : List (List ℕ) → Type 0 = λ ps. AllZip Writes ps values in
      let is : IsCut Writes read.front part values = cut Writes read.front part more values (subst P whole (parts_of_list Writes lacks_comma text values read.some written)) in
      let same : is.before ≡ read.values = same_values Writes writes_one read.front is.before read.values is.written read.written in
      let all : values ≡ (read.values ++ is.value ∷ []) ++ is.after =
      is.whole ∙ ap (λ xs. xs ++ is.value ∷ is.after) same ∙ sym (append_assoc read.values (is.value ∷ []) is.after) in
      never is.value is.here (fewer_are_ordered (read.values ++ is.value ∷ []) is.after (subst AreOrdered all ordered))
