-- Attributes that are kept, and the frames of those that are parsed (JVMS 4.7). Spelled ones are read, and read ones
-- are spelled so.
use Rattle.std.proofs.Common.{◌≡◌, ℕ, Bool, true, false, List, [], ◌∷◌, ◌++◌, length, take, drop, nat_le, Option, Some, None, is_some, Result, Ok, refl, sym, ap, subst, ◌∙◌, append_assoc, arith}
use Rattle.std.proofs.lemmas.Bool.{le-leb, leb-true}
use Rattle.std.proofs.lemmas.List.{length-append, length-take-le, take-append-drop}
use Rattle.std.proofs.Math.Seq.{take-append_seam, drop-append_seam}
use Rattle.jvms_file.specs.declared.class_file.Constant.{Constant}
use Rattle.jvms_file.specs.declared.class_file.KeptAttribute.{KeptAttribute}
use Rattle.jvms_file.specs.declared.fault.ClassFault.{ClassFault}
use Rattle.jvms_file.specs.declared.fault.ClassFault.TheVariants as fault
use Rattle.jvms_file.specs.Results.{◌>>=◌}
use Rattle.jvms_file.specs.Names.{same_text}
use Rattle.jvms_file.specs.ConstantPool.{utf8_at, is_utf8, is_class}
use Rattle.jvms_file.specs.Members.{AttributeFrame, attribute_frame, frame_at, want_all, kept_content_at, kept_at, kept_attributes_at, is_named, is_text_with, class_number_at}
use Rattle.jvms_file.specs.Spelling.{u2, u4, IsU2, IsU4, Counted, SpellsKept, SpellsFramed, SpellsClassNumber}
use Rattle.classfile_laws.proofs.Numbers.{IsBytes, bytes_of_parts, u2_again, u4_again, bytes_again}
use Rattle.classfile_laws.proofs.Steps.{Found, answered, joined, step, want_step, u2_step, u4_step, bytes_step}
use Rattle.classfile_laws.proofs.Lists.{Any, counted_again, counted_found}

-- ---- A test of a text implies that it is there.

-- An entry that is the text of a name is a text.
pub named_is_utf8 : (pool : List Constant) (n : ℕ) (name : List ℕ) → is_named pool n name ≡ true → is_utf8 pool n ≡ true
named_is_utf8 pool n name = some (utf8_at pool n)
  where
    some : (o : Option (List ℕ)) → elim o as (λ _. Bool) [ None ↦ false | Some text ↦ same_text text name ] ≡ true → is_some o ≡ true
    some None e = e
    some (Some text) e = refl

-- An entry whose text passes a test is a text.
pub text_is_utf8 : (pool : List Constant) (n : ℕ) (test : List ℕ → Bool) → is_text_with test (utf8_at pool n) ≡ true → is_utf8 pool n ≡ true
text_is_utf8 pool n test = some (utf8_at pool n)
  where
    some : (o : Option (List ℕ)) → is_text_with test o ≡ true → is_some o ≡ true
    some None e = e
    some (Some text) e = refl

-- ---- Attributes that are kept.

-- The content after the name of a kept attribute is read.
pub kept_content_again : (cut : ClassFault) (a : KeptAttribute) (rest : List ℕ) → IsU4 (length a.bytes) → kept_content_at cut a.name (u4 (length a.bytes) ++ (a.bytes ++ rest)) ≡ Ok (a, rest)
kept_content_again cut a rest fits = rw (u4_again cut (length a.bytes) (a.bytes ++ rest) fits, bytes_again cut a.bytes rest) refl

-- A kept attribute is read from its spelling.
pub kept_again : (pool : List Constant) (cut : ClassFault) (bytes : List ℕ) (a : KeptAttribute) (rest : List ℕ) → SpellsKept pool bytes a → kept_at pool cut (bytes ++ rest) ≡ Ok (a, rest)
kept_again pool cut bytes a rest s =
    rw (s.3, append_assoc (u2 a.name) (u4 (length a.bytes) ++ a.bytes) rest, append_assoc (u4 (length a.bytes)) a.bytes rest, u2_again cut a.name (u4 (length a.bytes) ++ (a.bytes ++ rest)) s.0, s.1)
    (kept_content_again cut a rest s.2)

-- The bytes after the name of a kept attribute.
abbrev pub SpellsContent : ℕ → List ℕ → KeptAttribute → Type 0
SpellsContent name bytes a = (name ≡ a.name) × IsU4 (length a.bytes) × (bytes ≡ u4 (length a.bytes) ++ a.bytes)

-- The content that was read after the name of a kept attribute is spelled there.
pub kept_content_found : (cut : ClassFault) (name : ℕ) (bytes : List ℕ) (a : KeptAttribute) (rest : List ℕ) → IsBytes bytes → kept_content_at cut name bytes ≡ Ok (a, rest) → Found (SpellsContent name) bytes a rest
kept_content_found cut name bytes a rest are e =
    u4_step cut bytes _ _ are e (λ n middle fits parts left more.
    bytes_step cut n middle _ _ left more (λ content behind size parts2 texts left2 last.
    let same = answered (record { name = name; bytes = content }) a behind rest last in
    record {
      first = u4 n ++ content;
      parts = joined (u4 n) content rest bytes middle behind parts parts2 same.1;
      spells = subst (SpellsContent name (u4 n ++ content)) same.0 (refl, subst IsU4 (sym size) fits, ap (λ (k : ℕ). u4 k ++ content) (sym size));
      left = subst IsBytes same.1 left2;
    }))

-- A kept attribute is spelled by its name and the content after it.
pub kept_parts : (pool : List Constant) (name : ℕ) (first : List ℕ) (a : KeptAttribute) → IsU2 name → is_utf8 pool name ≡ true → SpellsContent name first a → SpellsKept pool (u2 name ++ first) a
kept_parts pool name first a fits is s =
    (subst IsU2 s.0 fits, subst (λ (n : ℕ). is_utf8 pool n ≡ true) s.0 is, s.1, ap (λ (w : List ℕ). u2 name ++ w) s.2 ∙ ap (λ (n : ℕ). u2 n ++ (u4 (length a.bytes) ++ a.bytes)) s.0)

-- A kept attribute is spelled where it was read.
pub kept_found : (pool : List Constant) (cut : ClassFault) (bytes : List ℕ) (a : KeptAttribute) (rest : List ℕ) → IsBytes bytes → kept_at pool cut bytes ≡ Ok (a, rest) → Found (SpellsKept pool) bytes a rest
kept_found pool cut bytes a rest are e =
    u2_step cut bytes _ _ are e (λ name behind fits parts left more.
    want_step (is_utf8 pool name) fault.Index _ _ more (λ is last.
    let found = kept_content_found cut name behind a rest left last in
    record {
      first = u2 name ++ found.first;
      parts = joined (u2 name) found.first rest bytes behind rest parts found.parts refl;
      spells = kept_parts pool name found.first a fits is found.spells;
      left = found.left;
    }))

-- Kept attributes are read from their spelling.
pub kept_attributes_again : (pool : List Constant) (cut : ClassFault) (attributes : List KeptAttribute) (bytes rest : List ℕ) → Counted (SpellsKept pool) bytes attributes → kept_attributes_at pool cut (bytes ++ rest) ≡ Ok (attributes, rest)
kept_attributes_again pool cut attributes bytes rest s =
    counted_again (SpellsKept pool) Any (λ seen. kept_at pool cut) (λ seen a after first behind good one. kept_again pool cut first a behind one) cut attributes bytes rest tt s

-- Kept attributes are spelled where they were read.
pub kept_attributes_found : (pool : List Constant) (cut : ClassFault) (attributes : List KeptAttribute) (bytes rest : List ℕ) → IsBytes bytes → kept_attributes_at pool cut bytes ≡ Ok (attributes, rest) → Found (Counted (SpellsKept pool)) bytes attributes rest
kept_attributes_found pool cut attributes bytes rest are e =
    (counted_found (SpellsKept pool) Any (λ seen. kept_at pool cut) (λ seen front a behind good these one. (kept_found pool cut front a behind these one, tt)) cut attributes bytes rest tt are e).0

-- ---- Frames.

-- The frame of an attribute that is complete.
abbrev pub whole_frame : List ℕ → List ℕ → AttributeFrame
whole_frame content behind = record { whole = true; cut = fault.AttributeLength; content = content; after = behind }

-- The length of a complete attribute frames its content.
pub frame_again : (cut : ClassFault) (content rest : List ℕ) → IsU4 (length content) → frame_at cut (u4 (length content) ++ (content ++ rest)) ≡ Ok (whole_frame content rest)
frame_again cut content rest fits =
    let whole : nat_le (length content) (length (content ++ rest)) ≡ true = le-leb (length content) (length (content ++ rest)) (omega (arith, length-append content rest)) in
    rw (u4_again cut (length content) (content ++ rest) fits, whole, take-append_seam content rest, drop-append_seam content rest) refl

-- The frame at the front of bytes, if it is complete.
pub record FoundFrame (bytes : List ℕ) (frame : AttributeFrame) : Type 0 where
  pub content : IsBytes frame.content
  pub left : IsBytes frame.after
  pub parts : frame.whole ≡ true → IsU4 (length frame.content) × (bytes ≡ u4 (length frame.content) ++ (frame.content ++ frame.after))

-- A length that was read frames the content that is there.
frame_of : (cut : ClassFault) (n : ℕ) (bytes rest : List ℕ) → IsU4 n → IsBytes rest → bytes ≡ u4 n ++ rest → FoundFrame bytes (attribute_frame cut n rest)
frame_of cut n bytes rest fits are parts =
    let halves = bytes_of_parts (take n rest) (drop n rest) (subst IsBytes (sym (take-append-drop n rest)) are) in
    record {
      content = halves.0;
      left = halves.1;
      parts = λ whole.
          let size = length-take-le n rest (leb-true n (length rest) whole) in
          (subst IsU4 (sym size) fits, parts ∙ ap (λ (w : List ℕ). u4 n ++ w) (sym (take-append-drop n rest)) ∙ ap (λ (k : ℕ). u4 k ++ (take n rest ++ drop n rest)) (sym size));
    }

-- A frame that was read.
pub frame_step : {B : Type 0} {G : Type 0} (cut : ClassFault) (bytes : List ℕ) (f : AttributeFrame → Result B ClassFault) (y : B) → IsBytes bytes → (frame_at cut bytes >>= f) ≡ Ok y
    → ((frame : AttributeFrame) → FoundFrame bytes frame → f frame ≡ Ok y → G) → G
frame_step cut bytes f y are e next =
    step (frame_at cut bytes) f y e (λ frame is more.
    u4_step cut bytes _ _ are is (λ n rest fits parts left last.
    let same : attribute_frame cut n rest ≡ frame = cc in
    next frame (subst (FoundFrame bytes) same (frame_of cut n bytes rest fits left parts)) more))

-- All of a frame's content was read.
pub want_all_step : {B : Type 0} {G : Type 0} (frame : AttributeFrame) (left : List ℕ) (f : Unit {0} → Result B ClassFault) (y : B) → (want_all frame left >>= f) ≡ Ok y
    → (left ≡ [] → frame.whole ≡ true → f tt ≡ Ok y → G) → G
want_all_step frame [] f y e next = want_step frame.whole frame.cut f y e (λ whole more. next refl whole more)
want_all_step frame (b ∷ left) f y e next = absurd cc

-- An attribute whose content was read in its frame is spelled there, with its name and its length.
pub framed_found : (pool : List Constant) (text : List ℕ) (name : ℕ) (bytes behind : List ℕ) (frame : AttributeFrame) (Content : List ℕ → Type 0) (rest : List ℕ)
    → IsU2 name → is_named pool name text ≡ true → bytes ≡ u2 name ++ behind → FoundFrame behind frame → frame.whole ≡ true → Content frame.content → frame.after ≡ rest
    → Found (λ first n. SpellsFramed pool text n first Content) bytes name rest
framed_found pool text name bytes behind frame Content rest fits named parts found whole spells same =
    let inner = found.parts whole in
    let size = length frame.content in
    record {
      first = u2 name ++ (u4 size ++ frame.content);
      parts = joined (u2 name) (u4 size ++ frame.content) rest bytes behind frame.after parts (inner.1 ∙ sym (append_assoc (u4 size) frame.content frame.after)) same;
      spells = (fits, named, frame.content, inner.0, spells, refl);
      left = subst IsBytes same found.left;
    }

-- ---- Numbers of classes.

-- The number of a class is read from its spelling.
pub class_number_again : (pool : List Constant) (cut : ClassFault) (bytes : List ℕ) (n : ℕ) (rest : List ℕ) → SpellsClassNumber pool bytes n → class_number_at pool cut (bytes ++ rest) ≡ Ok (n, rest)
class_number_again pool cut bytes n rest s = rw (s.2, u2_again cut n rest s.0, s.1) refl

-- The number of a class is spelled where it was read.
pub class_number_found : (pool : List Constant) (cut : ClassFault) (bytes : List ℕ) (n : ℕ) (rest : List ℕ) → IsBytes bytes → class_number_at pool cut bytes ≡ Ok (n, rest) → Found (SpellsClassNumber pool) bytes n rest
class_number_found pool cut bytes n rest are e =
    u2_step cut bytes _ _ are e (λ m behind fits parts left more.
    want_step (is_class pool m) fault.Index _ _ more (λ is last.
    let same = answered m n behind rest last in
    record { first = u2 m; parts = parts ∙ ap (λ (w : List ℕ). u2 m ++ w) same.1; spells = subst (SpellsClassNumber pool (u2 m)) same.0 (fits, is, refl); left = subst IsBytes same.1 left }))
