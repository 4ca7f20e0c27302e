-- Bytes that end early. If a reading of all bytes gives a value, that of their front gives the same, or the front ends
-- before the value does.
use Rattle.std.proofs.Common.{◌≡◌, ℕ, zero, suc, ◌≤◌, Bool, true, false, cond, nat_lt, List, [], ◌∷◌, ◌++◌, ◌⊎◌, inl, inr, length, take, drop, Result, Ok, Err, refl, sym, ap, subst, ◌∙◌, arith}
use Rattle.std.proofs.lemmas.Bool.{le-ltb, ltb-false}
use Rattle.std.proofs.lemmas.List.{length-append, take-append-le, drop-append-le}
use Rattle.byteorder.specs.Numbers.{big_from-append}
use Rattle.jvms_file.specs.declared.fault.ClassFault.{ClassFault}
use Rattle.jvms_file.specs.Results.{◌>>=◌, want, part_list_onto}
use Rattle.jvms_file.specs.Bytes.{number, number_at, bytes_at}
use Rattle.classfile_laws.proofs.Steps.{step, answered}

-- ---- Readings of the front.

abbrev pub Ends : {A : Type 0} → ClassFault → List ℕ → Result (A × List ℕ) ClassFault → A → List ℕ → Type 0
Ends cut more short x rest = (short ≡ Err cut) ⊎ ((behind : List ℕ) × (short ≡ Ok (x, behind)) × (rest ≡ behind ++ more))

-- If all bytes give a value, the front gives it too, or ends.
pub record Cuts {A : Type 0} (cut : ClassFault) (more : List ℕ) (short long : Result (A × List ℕ) ClassFault) : Type 0 where
  pub either : (x : A) (rest : List ℕ) → long ≡ Ok (x, rest) → Ends cut more short x rest

-- A value that is read leaves the rest of the front.
pub given : {A : Type 0} (cut : ClassFault) (more : List ℕ) (x : A) (behind : List ℕ) → Cuts cut more (Ok (x, behind)) (Ok (x, behind ++ more))
given {A} cut more x behind =
    record { either = λ y rest e. let same = answered x y (behind ++ more) rest e in inr (behind, ap (λ (z : A). Ok (z, behind)) same.0, sym same.1) }

carried : {A B : Type 0} (cut : ClassFault) (more : List ℕ) (short : Result (A × List ℕ) ClassFault) (f g : A × List ℕ → Result (B × List ℕ) ClassFault) (x : A) (r : List ℕ) (y : B) (rest : List ℕ)
    → ((x : A) (behind : List ℕ) → Cuts cut more (f (x, behind)) (g (x, behind ++ more))) → g (x, r) ≡ Ok (y, rest) → Ends cut more short x r → Ends cut more (short >>= f) y rest
carried {A} {B} cut more short f g x r y rest next after (inl ends) = inl (ap (λ (s : Result (A × List ℕ) ClassFault). s >>= f) ends)
carried {A} {B} cut more short f g x r y rest next after (inr found) =
    let all : g (x, found.0 ++ more) ≡ Ok (y, rest) = subst (λ (bytes : List ℕ). g (x, bytes) ≡ Ok (y, rest)) found.2 after in
    let here : short >>= f ≡ f (x, found.0) = ap (λ (s : Result (A × List ℕ) ClassFault). s >>= f) found.1 in
    subst (λ (s : Result (B × List ℕ) ClassFault). Ends cut more s y rest) (sym here) ((next x found.0).either y rest all)

-- One reading, followed by another.
pub then : {A B : Type 0} (cut : ClassFault) (more : List ℕ) (short long : Result (A × List ℕ) ClassFault) (f g : A × List ℕ → Result (B × List ℕ) ClassFault)
    → Cuts cut more short long → ((x : A) (behind : List ℕ) → Cuts cut more (f (x, behind)) (g (x, behind ++ more))) → Cuts cut more (short >>= f) (long >>= g)
then cut more short long f g first next =
    record { either = λ y rest e. step long g (y, rest) e (λ p read after. carried cut more short f g p.0 p.1 y rest next after (first.either p.0 p.1 read)) }

-- A step that reads no bytes.
pub same_then : {U A : Type 0} (cut : ClassFault) (more : List ℕ) (r : Result U ClassFault) (f g : U → Result (A × List ℕ) ClassFault) → ((u : U) → Cuts cut more (f u) (g u)) → Cuts cut more (r >>= f) (r >>= g)
same_then cut more (Ok u) f g next = next u
same_then cut more (Err d) f g next = record { either = λ x rest e. absurd cc }

-- A test.
pub want_then : {A : Type 0} (cut : ClassFault) (more : List ℕ) (test : Bool) (d : ClassFault) (f g : Unit {0} → Result (A × List ℕ) ClassFault) → Cuts cut more (f tt) (g tt) → Cuts cut more (want test d >>= f) (want test d >>= g)
want_then cut more true d f g next = next
want_then cut more false d f g next = record { either = λ x rest e. absurd cc }

-- Either of two readings.
pub chosen : {A : Type 0} (cut : ClassFault) (more : List ℕ) (b : Bool) (s1 s2 l1 l2 : Result (A × List ℕ) ClassFault) → Cuts cut more s1 l1 → Cuts cut more s2 l2 → Cuts cut more (cond b s1 s2) (cond b l1 l2)
chosen cut more true s1 s2 l1 l2 met unmet = met
chosen cut more false s1 s2 l1 l2 met unmet = unmet

-- ---- Numbers and bytes.

-- A reading of n bytes.
sized : {A : Type 0} (cut cut' : ClassFault) (n : ℕ) (value : List ℕ → A) (first more : List ℕ) (b : Bool) → nat_lt (length first) n ≡ b → (n ≤ length first → value (first ++ more) ≡ value first)
    → Cuts cut more (cond b (Err cut) (Ok (value first, drop n first))) (cond (nat_lt (length (first ++ more)) n) (Err cut') (Ok (value (first ++ more), drop n (first ++ more))))
sized cut cut' n value first more true few same = record { either = λ x rest e. inl refl }
sized {A} cut cut' n value first more false few same =
    let enough : n ≤ length first = ltb-false (length first) n few in
    let test : nat_lt (length (first ++ more)) n ≡ false = le-ltb (length (first ++ more)) n (omega (arith, enough, length-append first more)) in
    rw (test, same enough, drop-append-le n first more enough) (given cut more (value first) (drop n first))

pub number_cut : (cut cut' : ClassFault) (n : ℕ) (first more : List ℕ) → Cuts cut more (number_at cut n first) (number_at cut' n (first ++ more))
unfolding number
number_cut cut cut' n first more = sized cut cut' n (number n) first more (nat_lt (length first) n) refl (λ enough. big_from-append n first more enough)

pub bytes_cut : (cut cut' : ClassFault) (n : ℕ) (first more : List ℕ) → Cuts cut more (bytes_at cut n first) (bytes_at cut' n (first ++ more))
bytes_cut cut cut' n first more = sized cut cut' n (take n) first more (nat_lt (length first) n) refl (λ enough. take-append-le n first more enough)

-- A number, followed by another reading.
pub number_then : {B : Type 0} (n : ℕ) (cut cut' : ClassFault) (first more : List ℕ) (f g : ℕ × List ℕ → Result (B × List ℕ) ClassFault)
    → ((x : ℕ) (behind : List ℕ) → Cuts cut more (f (x, behind)) (g (x, behind ++ more))) → Cuts cut more (number_at cut n first >>= f) (number_at cut' n (first ++ more) >>= g)
number_then n cut cut' first more f g next = then cut more (number_at cut n first) (number_at cut' n (first ++ more)) f g (number_cut cut cut' n first more) next

-- Bytes, followed by another reading.
pub bytes_then : {B : Type 0} (n : ℕ) (cut cut' : ClassFault) (first more : List ℕ) (f g : List ℕ × List ℕ → Result (B × List ℕ) ClassFault)
    → ((x : List ℕ) (behind : List ℕ) → Cuts cut more (f (x, behind)) (g (x, behind ++ more))) → Cuts cut more (bytes_at cut n first >>= f) (bytes_at cut' n (first ++ more) >>= g)
bytes_then n cut cut' first more f g next = then cut more (bytes_at cut n first) (bytes_at cut' n (first ++ more)) f g (bytes_cut cut cut' n first more) next

-- ---- Lists.

pub counted_onto_cut : {A : Type 0} (cut : ClassFault) (more : List ℕ) (thing thing' : List A → List ℕ → Result (A × List ℕ) ClassFault)
    → ((seen : List A) (first : List ℕ) → Cuts cut more (thing seen first) (thing' seen (first ++ more)))
    → (seen : List A) (count : ℕ) (first : List ℕ) → Cuts cut more (part_list_onto thing seen count first) (part_list_onto thing' seen count (first ++ more))
unfolding part_list_onto
counted_onto_cut cut more thing thing' each seen zero first = given cut more seen first
counted_onto_cut cut more thing thing' each seen (suc left) first =
    then cut more (thing seen first) (thing' seen (first ++ more)) _ _ (each seen first) (λ x behind. counted_onto_cut cut more thing thing' each (seen ++ x ∷ []) left behind)

-- ---- Readings that end before they are complete.

-- If all bytes give a value, the front ends.
pub record Stops {A : Type 0} (cut : ClassFault) (short long : Result A ClassFault) : Type 0 where
  pub stops : (y : A) → long ≡ Ok y → short ≡ Err cut

stopped : {A B : Type 0} (cut : ClassFault) (more : List ℕ) (short : Result (A × List ℕ) ClassFault) (f g : A × List ℕ → Result B ClassFault) (x : A) (r : List ℕ) (y : B)
    → ((x : A) (behind : List ℕ) → Stops cut (f (x, behind)) (g (x, behind ++ more))) → g (x, r) ≡ Ok y → Ends cut more short x r → short >>= f ≡ Err cut
stopped {A} cut more short f g x r y next after (inl ends) = ap (λ (s : Result (A × List ℕ) ClassFault). s >>= f) ends
stopped {A} cut more short f g x r y next after (inr found) =
    let all : g (x, found.0 ++ more) ≡ Ok y = subst (λ (bytes : List ℕ). g (x, bytes) ≡ Ok y) found.2 after in
    ap (λ (s : Result (A × List ℕ) ClassFault). s >>= f) found.1 ∙ (next x found.0).stops y all

-- A reading, followed by one that ends.
pub then_stops : {A B : Type 0} (cut : ClassFault) (more : List ℕ) (short long : Result (A × List ℕ) ClassFault) (f g : A × List ℕ → Result B ClassFault)
    → Cuts cut more short long → ((x : A) (behind : List ℕ) → Stops cut (f (x, behind)) (g (x, behind ++ more))) → Stops cut (short >>= f) (long >>= g)
then_stops cut more short long f g first next =
    record { stops = λ y e. step long g y e (λ p read after. stopped cut more short f g p.0 p.1 y next after (first.either p.0 p.1 read)) }

pub number_stops : {B : Type 0} (n : ℕ) (cut cut' : ClassFault) (first more : List ℕ) (f g : ℕ × List ℕ → Result B ClassFault)
    → ((x : ℕ) (behind : List ℕ) → Stops cut (f (x, behind)) (g (x, behind ++ more))) → Stops cut (number_at cut n first >>= f) (number_at cut' n (first ++ more) >>= g)
number_stops n cut cut' first more f g next = then_stops cut more (number_at cut n first) (number_at cut' n (first ++ more)) f g (number_cut cut cut' n first more) next

pub bytes_stops : {B : Type 0} (n : ℕ) (cut cut' : ClassFault) (first more : List ℕ) (f g : List ℕ × List ℕ → Result B ClassFault)
    → ((x : List ℕ) (behind : List ℕ) → Stops cut (f (x, behind)) (g (x, behind ++ more))) → Stops cut (bytes_at cut n first >>= f) (bytes_at cut' n (first ++ more) >>= g)
bytes_stops n cut cut' first more f g next = then_stops cut more (bytes_at cut n first) (bytes_at cut' n (first ++ more)) f g (bytes_cut cut cut' n first more) next

-- A step that reads no bytes, followed by a reading that ends.
pub same_stops : {U A : Type 0} (cut : ClassFault) (r : Result U ClassFault) (f g : U → Result A ClassFault) → ((u : U) → Stops cut (f u) (g u)) → Stops cut (r >>= f) (r >>= g)
same_stops cut (Ok u) f g next = next u
same_stops cut (Err d) f g next = record { stops = λ y e. absurd cc }

-- A reading that ends, followed by another.
pub stops_then : {A B : Type 0} (cut : ClassFault) (short long : Result A ClassFault) (f g : A → Result B ClassFault) → Stops cut short long → Stops cut (short >>= f) (long >>= g)
stops_then {A} cut short long f g first =
    record { stops = λ y e. step long g y e (λ x read after. ap (λ (s : Result A ClassFault). s >>= f) (first.stops x read)) }

-- A test, followed by a reading that ends.
pub want_stops : {A : Type 0} (cut : ClassFault) (test : Bool) (d : ClassFault) (f g : Unit {0} → Result A ClassFault) → Stops cut (f tt) (g tt) → Stops cut (want test d >>= f) (want test d >>= g)
want_stops cut true d f g next = next
want_stops cut false d f g next = record { stops = λ y e. absurd cc }
