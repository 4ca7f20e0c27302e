-- The results of the items of a list, collected by a loop, and targets as places, looked up one after another.
use Rattle.std.proofs.Common.{◌≡◌, ℕ, ◌+◌, ◌≤◌, ◌<◌, List, [], ◌∷◌, ◌++◌, length, drop, get_or, Option, Some, None, Result, Ok, Err, refl, sym, ap, ◌∙◌, append_assoc, add-one, drop-cons}
use Rattle.std.specs.Option.{option_and_then, option_map}
use Rattle.std.proofs.Math.ListN.{drop_of_length-le}
use Rattle.std.proofs.lemmas.List.{append-nil}
use Rattle.jvms_file.specs.declared.fault.ClassFault.{ClassFault}
use Rattle.jvms_file.specs.declared.fault.ReadError.{ReadError}
use Rattle.jvms_file.specs.declared.fault.ReadError.TheVariants as error
use Rattle.jvms_file.specs.declared.insn.Insn.{Insn}
use Rattle.jvms_file.specs.declared.insn.Insn.TheVariants as insn
use Rattle.jvms_file.specs.declared.insn.SwitchCase.{SwitchCase}
use Rattle.jvms_file.specs.declared.insn.TableSwitch.{TableSwitch}
use Rattle.jvms_file.specs.declared.insn.LookupSwitch.{LookupSwitch}
use Rattle.jvms_file.specs.Results.{◌>>=◌, present, results_of}
use Rattle.jvms_file.specs.Reading.{Fails}
use Rattle.jvms_file.specs.Code.{place_of, places_of, case_places, table_places, lookup_places, with_places}
use Rattle.insn.specs.Places.{place_or_fault, case_or_fault, table_or_fault, lookup_or_fault, insn_or_fault}

-- The results before, followed by those of a reading.
abbrev pub with_items : {X : Type 0} → List X → Result (List X) ClassFault → Result (List X) ClassFault
with_items front read = read >>= λ xs. Ok (front ++ xs)

pub regroup : {X : Type 0} (front : List X) (x : X) (read : Result (List X) ClassFault) → with_items front (read >>= λ xs. Ok (x ∷ xs)) ≡ with_items (front ++ x ∷ []) read
regroup {X} front x (Ok xs) = ap (λ (ys : List X). Ok ys) (simp append_assoc)
regroup front x (Err f) = refl

pub items_start : {X : Type 0} (read : Result (List X) ClassFault) → with_items [] read ≡ read
items_start (Ok xs) = refl
items_start (Err f) = refl

pub items_go_on : {A X : Type 0} (f : A → Result X ClassFault) (front : List X) (all : List A) (a : A) (rest : List A) (x : X) (total : Result (List X) ClassFault) → all ≡ a ∷ rest → f a ≡ Ok x
    → with_items front (results_of f all) ≡ total → with_items (front ++ x ∷ []) (results_of f rest) ≡ total
items_go_on f front all a rest x total p h so_far =
    let one : with_items front (results_of f all) ≡ with_items (front ++ x ∷ []) (results_of f rest) = rw (p, h) (regroup front x (results_of f rest)) in
    sym one ∙ so_far

pub items_stop : {A X : Type 0} (e : ReadError) (f : A → Result X ClassFault) (front : List X) (all : List A) (a : A) (rest : List A) (total : Result (List X) ClassFault) → all ≡ a ∷ rest → Fails e (f a)
    → with_items front (results_of f all) ≡ total → Fails e total
items_stop error.Memory f front all a rest total p h so_far = tt
items_stop (error.Fault cut) f front all a rest total p h so_far =
    let one : with_items front (results_of f all) ≡ Err cut = rw (p, h) refl in
    sym so_far ∙ one

pub items_done : {A X : Type 0} (f : A → Result X ClassFault) (front : List X) (all : List A) (total : Result (List X) ClassFault) → all ≡ [] → with_items front (results_of f all) ≡ total → total ≡ Ok front
items_done {A} {X} f front all total p so_far =
    let one : with_items front (results_of f all) ≡ Ok front = rw p (ap (λ (ys : List X). Ok ys) (append-nil front)) in
    sym so_far ∙ one

pub drop_next : {A : Type 0} (xs : List A) (i : ℕ) (d : A) → i < length xs → drop i xs ≡ get_or xs i d ∷ drop (i + 1) xs
drop_next xs i d h = rw (add-one, drop-cons xs i d) refl

pub drop_none : {A : Type 0} (xs : List A) (i : ℕ) → length xs ≤ i → drop i xs ≡ []
drop_none xs i h = drop_of_length-le xs h

-- ---- Look-ups.

two_found : {X Y Z : Type 0} (cut : ClassFault) (o : Option X) (p : Option Y) (f : X → Y → Z) → (present o cut >>= λ x. (present p cut >>= λ y. Ok (f x y))) ≡ present (option_and_then (λ x. option_map (λ y. f x y) p) o) cut
two_found cut None p f = refl
two_found cut (Some x) None f = refl
two_found cut (Some x) (Some y) f = refl

made_found : {W X Y Z : Type 0} (cut : ClassFault) (o : Option W) (p : Option Y) (g : W → X) (f : X → Y → Z) → ((present o cut >>= λ w. Ok (g w)) >>= λ x. (present p cut >>= λ y. Ok (f x y))) ≡ present (option_and_then (λ w. option_map (λ y. f (g w) y) p) o) cut
made_found cut None p g f = refl
made_found cut (Some w) None g f = refl
made_found cut (Some w) (Some y) g f = refl

one_found : {X Y : Type 0} (cut : ClassFault) (o : Option X) (f : X → Y) → (present o cut >>= λ x. Ok (f x)) ≡ present (option_map f o) cut
one_found cut None f = refl
one_found cut (Some x) f = refl

places_found : (pcs : List ℕ) (cut : ClassFault) (ts : List ℕ) → results_of (place_or_fault pcs cut) ts ≡ present (places_of pcs ts) cut
places_found pcs cut [] = refl
places_found pcs cut (t ∷ ts) = rw (places_found pcs cut ts) (two_found cut (place_of pcs t) (places_of pcs ts) (λ p ps. p ∷ ps))

cases_found : (pcs : List ℕ) (cut : ClassFault) (cs : List SwitchCase) → results_of (case_or_fault pcs cut) cs ≡ present (case_places pcs cs) cut
cases_found pcs cut [] = refl
cases_found pcs cut (c ∷ cs) =
    let made : ℕ → SwitchCase = λ p. record { value = c.value; target = p } in
    rw (cases_found pcs cut cs) (made_found cut (place_of pcs c.target) (case_places pcs cs) made (λ x xs. x ∷ xs))

table_is : (pcs : List ℕ) (cut : ClassFault) (s : TableSwitch) → table_or_fault pcs cut s ≡ present (table_places pcs s) cut
table_is pcs cut s =
    let made : ℕ → List ℕ → TableSwitch = λ d ts. record { default = d; low = s.low; targets = ts } in
    rw (places_found pcs cut s.targets) (two_found cut (place_of pcs s.default) (places_of pcs s.targets) made)

lookup_is : (pcs : List ℕ) (cut : ClassFault) (s : LookupSwitch) → lookup_or_fault pcs cut s ≡ present (lookup_places pcs s) cut
lookup_is pcs cut s =
    let made : ℕ → List SwitchCase → LookupSwitch = λ d cs. record { default = d; cases = cs } in
    rw (cases_found pcs cut s.cases) (two_found cut (place_of pcs s.default) (case_places pcs s.cases) made)

-- The look-ups give the instruction with places for targets.
pub insn_is : (pcs : List ℕ) (cut : ClassFault) (i : Insn) → insn_or_fault pcs cut i ≡ present (with_places pcs i) cut
unfolding with_places
insn_is pcs cut (insn.Branch how target) = one_found cut (place_of pcs target) (λ p. insn.Branch how p)
insn_is pcs cut (insn.Table s) = rw (table_is pcs cut s) (one_found cut (table_places pcs s) (λ t. insn.Table t))
insn_is pcs cut (insn.Lookup s) = rw (lookup_is pcs cut s) (one_found cut (lookup_places pcs s) (λ t. insn.Lookup t))
insn_is pcs cut (insn.Simple s) = refl
insn_is pcs cut (insn.Constant n) = refl
insn_is pcs cut (insn.Field how n) = refl
insn_is pcs cut (insn.Invoke how n) = refl
insn_is pcs cut (insn.Class how n) = refl
insn_is pcs cut (insn.MultiNewArray n count) = refl
