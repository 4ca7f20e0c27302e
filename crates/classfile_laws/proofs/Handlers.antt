-- Exception handlers (JVMS 4.7.3). Spelled ones are read, and read ones are spelled so. They are read with bytes for
-- bounds, and then get the places of the instructions that start there.
use Rattle.std.proofs.Common.{◌≡◌, ℕ, zero, suc, ◌⊎◌, true, false, List, [], ◌∷◌, ◌++◌, length, Option, Some, None, Result, Ok, refl, sym, ap, subst, ◌∙◌, append_assoc, arith, inl, inr}
use Rattle.std.specs.Prelude.{◌==◌, ◌||◌, nat_lt, slice_get}
use Rattle.std.specs.Option.{option_and_then, option_map}
use Rattle.std.proofs.lemmas.Bool.{lt-ltb, ltb-true, eqb-true, eq-eqb, ne_eqb}
use Rattle.jvms_file.specs.declared.class_file.Constant.{Constant}
use Rattle.jvms_file.specs.declared.class_file.Handler.{Handler}
use Rattle.jvms_file.specs.declared.fault.ClassFault.{ClassFault}
use Rattle.jvms_file.specs.declared.fault.ClassFault.TheVariants as fault
use Rattle.jvms_file.specs.Results.{◌>>=◌, present}
use Rattle.jvms_file.specs.ConstantPool.{is_class}
use Rattle.jvms_file.specs.Code.{place_of, end_place_of, handler_places, handlers_of}
use Rattle.jvms_file.specs.Members.{handler_at}
use Rattle.jvms_file.specs.Spelling.{u2, IsU2, InOrder, SpellsHandler}
use Rattle.classfile_laws.proofs.Numbers.{IsBytes, u2_again}
use Rattle.classfile_laws.proofs.Steps.{Found, answered, choose, joined, step, want_step, u2_step}
use Rattle.classfile_laws.proofs.InsnStarts.{AreStarts, start_below, place_of_start, start_at_place}

-- ---- A handler with bytes for bounds.

-- The bytes of a handler whose bounds and target are bytes of the code.
abbrev pub SpellsBounds : List Constant → List ℕ → Handler → Type 0
SpellsBounds pool bytes h =
    IsU2 h.start × IsU2 h.end × IsU2 h.target × IsU2 h.catch_type × ((h.catch_type == 0 || is_class pool h.catch_type) ≡ true)
    × (bytes ≡ u2 h.start ++ (u2 h.end ++ (u2 h.target ++ u2 h.catch_type)))

-- A handler with bytes for bounds is read from its spelling.
pub bounds_again : (pool : List Constant) (cut : ClassFault) (bytes : List ℕ) (h : Handler) (rest : List ℕ) → SpellsBounds pool bytes h → handler_at pool cut (bytes ++ rest) ≡ Ok (h, rest)
bounds_again pool cut bytes h rest s =
    rw (
      s.5,
      append_assoc (u2 h.start) (u2 h.end ++ (u2 h.target ++ u2 h.catch_type)) rest,
      append_assoc (u2 h.end) (u2 h.target ++ u2 h.catch_type) rest,
      append_assoc (u2 h.target) (u2 h.catch_type) rest,
      u2_again cut h.start (u2 h.end ++ (u2 h.target ++ (u2 h.catch_type ++ rest))) s.0,
      u2_again cut h.end (u2 h.target ++ (u2 h.catch_type ++ rest)) s.1,
      u2_again cut h.target (u2 h.catch_type ++ rest) s.2,
      u2_again cut h.catch_type rest s.3,
      s.4,
    ) refl

-- A handler with bytes for bounds is spelled where it was read.
pub bounds_found : (pool : List Constant) (cut : ClassFault) (bytes : List ℕ) (h : Handler) (rest : List ℕ) → IsBytes bytes → handler_at pool cut bytes ≡ Ok (h, rest) → Found (SpellsBounds pool) bytes h rest
bounds_found pool cut bytes h rest are e =
    u2_step cut bytes _ _ are e (λ start r1 fits1 parts1 left1 e1.
    u2_step cut r1 _ _ left1 e1 (λ end r2 fits2 parts2 left2 e2.
    u2_step cut r2 _ _ left2 e2 (λ target r3 fits3 parts3 left3 e3.
    u2_step cut r3 _ _ left3 e3 (λ catch_type r4 fits4 parts4 left4 e4.
    want_step (catch_type == 0 || is_class pool catch_type) fault.Index _ _ e4 (λ catches last.
    let same = answered (record { start = start; end = end; target = target; catch_type = catch_type }) h r4 rest last in
    record {
      first = u2 start ++ (u2 end ++ (u2 target ++ u2 catch_type));
      parts = joined (u2 start) (u2 end ++ (u2 target ++ u2 catch_type)) rest bytes r1 rest parts1 (joined (u2 end) (u2 target ++ u2 catch_type) rest r1 r2 rest parts2 (joined (u2 target) (u2 catch_type) rest r2 r3 r4 parts3 parts4 same.1) refl) refl;
      spells = subst (SpellsBounds pool (u2 start ++ (u2 end ++ (u2 target ++ u2 catch_type)))) same.0 (fits1, fits2, fits3, fits4, catches, refl);
      left = subst IsBytes same.1 left4;
    })))))

-- ---- The end of a range.

-- A place of a list with one more is a place of the list, or the last.
place_or_last : (pcs : List ℕ) (n p x : ℕ) → slice_get (pcs ++ n ∷ []) p ≡ Some x → (slice_get pcs p ≡ Some x) ⊎ ((p ≡ length pcs) × (x ≡ n))
place_or_last [] n zero x e = inr (refl, cc)
place_or_last [] n (suc p) x e = absurd cc
place_or_last (q ∷ pcs) n zero x e = inl e
place_or_last (q ∷ pcs) n (suc p) x e = elim (place_or_last pcs n p x e) [
  | inl inner ↦ inl inner
  | inr last ↦ inr (ap suc last.0, last.1)
]

-- The last place of a list with one more.
last_place : (pcs : List ℕ) (n : ℕ) → slice_get (pcs ++ n ∷ []) (length pcs) ≡ Some n
last_place [] n = refl
last_place (q ∷ pcs) n = last_place pcs n

-- A place of a list is one of a longer list.
place_before : (pcs more : List ℕ) (p x : ℕ) → slice_get pcs p ≡ Some x → slice_get (pcs ++ more) p ≡ Some x
place_before [] more p x e = absurd cc
place_before (q ∷ pcs) more zero x e = e
place_before (q ∷ pcs) more (suc p) x e = place_before pcs more p x e

-- The place of a range's end is the end's.
end_again : (pcs : List ℕ) (n p end : ℕ) → AreStarts 0 n pcs → slice_get (pcs ++ n ∷ []) p ≡ Some end → end_place_of pcs n end ≡ Some p
end_again pcs n p end starts e = elim (place_or_last pcs n p end e) [
  | inl inner ↦
      let below = start_below 0 n pcs p end starts inner in
      let other : (end == n) ≡ false = ne_eqb end n (λ same. omega arith) in
      rw other (place_of_start 0 n pcs p end starts inner)
  | inr last ↦
      let same : (end == n) ≡ true = eq-eqb end n last.1 in
      rw (same, last.0) refl
]

-- The end of a range is at its place.
end_found : (pcs : List ℕ) (n p end : ℕ) → end_place_of pcs n end ≡ Some p → slice_get (pcs ++ n ∷ []) p ≡ Some end
end_found pcs n p end e =
    choose (end == n) _ _ _ e
    (λ last f.
    let place : length pcs ≡ p = cc in
    subst (λ (q : ℕ). slice_get (pcs ++ n ∷ []) q ≡ Some end) place (last_place pcs n ∙ ap (λ (m : ℕ). Some m) (sym (eqb-true end n last))))
    (λ _ f. place_before pcs (n ∷ []) p end (start_at_place pcs p end f))

-- ---- A handler's places.

-- A handler is spelled by bounds that have its places.
pub record Bounds (pool : List Constant) (pcs : List ℕ) (code_length : ℕ) (bytes : List ℕ) (h : Handler) : Type 0 where
  pub bounds : Handler
  pub spells : SpellsBounds pool bytes bounds
  pub places : handler_places pcs code_length bounds ≡ Some h

-- A handler that is spelled has such bounds.
pub handler_again : (pool : List Constant) (pcs : List ℕ) (n : ℕ) (bytes : List ℕ) (h : Handler) → AreStarts 0 n pcs → SpellsHandler pool pcs n bytes h → Bounds pool pcs n bytes h
handler_again pool pcs n bytes h starts s =
    let start = s.0 in
    let end = s.1 in
    let target = s.2 in
    let below : nat_lt start end ≡ true = lt-ltb start end s.7 in
    record {
      bounds = record { start = start; end = end; target = target; catch_type = h.catch_type };
      spells = (s.3, s.4, s.5, s.6, s.11, s.12);
      places = rw (below, place_of_start 0 n pcs h.start start starts s.8, end_again pcs n h.end end starts s.9, place_of_start 0 n pcs h.target target starts s.10) refl;
    }

-- A value that is there, followed by a step.
and_then_step : {A B G : Type 0} (o : Option A) (f : A → Option B) (y : B) → option_and_then f o ≡ Some y → ((x : A) → o ≡ Some x → f x ≡ Some y → G) → G
and_then_step None f y e next = absurd cc
and_then_step (Some x) f y e next = next x refl e

-- A value that is there, and its image.
map_step : {A B G : Type 0} (o : Option A) (f : A → B) (y : B) → option_map f o ≡ Some y → ((x : A) → o ≡ Some x → f x ≡ y → G) → G
map_step None f y e next = absurd cc
map_step (Some x) f y e next = next x refl cc

-- Bounds that have places spell the handler of those places.
pub handler_found : (pool : List Constant) (pcs : List ℕ) (n : ℕ) (bytes : List ℕ) (bounds h : Handler) → SpellsBounds pool bytes bounds → handler_places pcs n bounds ≡ Some h → SpellsHandler pool pcs n bytes h
handler_found pool pcs n bytes bounds h s e =
    choose (nat_lt bounds.start bounds.end) _ _ _ e
    (λ below f.
    and_then_step (place_of pcs bounds.start) _ _ f (λ start start_is f1.
    and_then_step (end_place_of pcs n bounds.end) _ _ f1 (λ end end_is f2.
    map_step (place_of pcs bounds.target) _ _ f2 (λ target target_is same.
    subst (SpellsHandler pool pcs n bytes) same (bounds.start, bounds.end, bounds.target, s.0, s.1, s.2, s.3, ltb-true bounds.start bounds.end below, start_at_place pcs start bounds.start start_is, end_found pcs n end bounds.end end_is, start_at_place pcs target bounds.target target_is, s.4, s.5)))))
    (λ _ f. absurd cc)

-- ---- A table of handlers.

-- Handlers are spelled by equally many bounds that have their places.
pub record AllBounds (pool : List Constant) (pcs : List ℕ) (code_length : ℕ) (bytes : List ℕ) (hs : List Handler) : Type 0 where
  pub bounds : List Handler
  pub count : length bounds ≡ length hs
  pub spells : InOrder (SpellsBounds pool) bytes bounds
  pub places : handlers_of pcs code_length bounds ≡ Ok hs

-- Handlers that are spelled have such bounds.
pub handlers_again : (pool : List Constant) (pcs : List ℕ) (n : ℕ) (bytes : List ℕ) (hs : List Handler) → AreStarts 0 n pcs → InOrder (SpellsHandler pool pcs n) bytes hs → AllBounds pool pcs n bytes hs
handlers_again pool pcs n bytes [] starts s = record { bounds = []; count = refl; spells = s; places = refl }
handlers_again pool pcs n bytes (h ∷ hs) starts s =
    let first = handler_again pool pcs n s.0 h starts s.3 in
    let others = handlers_again pool pcs n s.1 hs starts s.4 in
    record {
      bounds = first.bounds ∷ others.bounds;
      count = ap suc others.count;
      spells = (s.0, s.1, s.2, first.spells, others.spells);
      places = rw (first.places, others.places) refl;
    }

-- A value that is present, followed by a step.
present_step : {A B E G : Type 0} (o : Option A) (d : E) (f : A → Result B E) (y : B) → (present o d >>= f) ≡ Ok y → ((x : A) → o ≡ Some x → f x ≡ Ok y → G) → G
present_step None d f y e next = absurd cc
present_step (Some x) d f y e next = next x refl e

-- Handlers that bounds gave are equally many, and are spelled by their bytes.
pub record FoundHandlers (pool : List Constant) (pcs : List ℕ) (code_length : ℕ) (bytes : List ℕ) (count : ℕ) (hs : List Handler) : Type 0 where
  pub size : count ≡ length hs
  pub spells : InOrder (SpellsHandler pool pcs code_length) bytes hs

-- Bounds that have places spell the handlers of those places.
pub handlers_found : (pool : List Constant) (pcs : List ℕ) (n : ℕ) (bytes : List ℕ) (bounds hs : List Handler) → InOrder (SpellsBounds pool) bytes bounds → handlers_of pcs n bounds ≡ Ok hs → FoundHandlers pool pcs n bytes (length bounds) hs
handlers_found pool pcs n bytes [] hs s e =
    let same : [] ≡ hs = cc in
    subst (FoundHandlers pool pcs n bytes 0) same (record { size = refl; spells = s })
handlers_found pool pcs n bytes (b ∷ bounds) hs s e =
    present_step (handler_places pcs n b) fault.Handler _ _ e (λ h h_is e1.
    step (handlers_of pcs n bounds) _ _ e1 (λ others others_are last.
    let same : h ∷ others ≡ hs = cc in
    let found = handlers_found pool pcs n s.1 bounds others s.4 others_are in
    subst (FoundHandlers pool pcs n bytes (suc (length bounds))) same (record { size = ap suc found.size; spells = (s.0, s.1, s.2, handler_found pool pcs n s.0 b h s.3 h_is, found.spells) })))
