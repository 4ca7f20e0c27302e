-- Attributes, fields and methods (JVMS 4.5 to 4.7) that end early.
use Rattle.std.proofs.Common.{◌≡◌, ℕ, ◌==◌, ◌||◌, ◌≤◌, Bool, true, false, not, nat_le, List, [], ◌∷◌, ◌++◌, inl, zero, suc, length, take, drop, is_some, Result, Ok, Err, refl, ap, subst, arith}
use Rattle.std.proofs.lemmas.Bool.{le-leb, leb-true}
use Rattle.std.proofs.lemmas.List.{length-append, take-append-le, drop-append-le}
use Rattle.std.specs.Prelude.{codes}
use Rattle.std.specs.List.{list_any}
use Rattle.jvms_file.specs.declared.class_file.Constant.{Constant}
use Rattle.jvms_file.specs.declared.class_file.FieldAttribute.{FieldAttribute}
use Rattle.jvms_file.specs.declared.class_file.FieldAttribute.TheVariants as field_attribute
use Rattle.jvms_file.specs.declared.class_file.FieldInfo.{FieldInfo}
use Rattle.jvms_file.specs.declared.class_file.MethodAttribute.{MethodAttribute}
use Rattle.jvms_file.specs.declared.class_file.MethodAttribute.TheVariants as method_attribute
use Rattle.jvms_file.specs.declared.class_file.MethodInfo.{MethodInfo}
use Rattle.jvms_file.specs.declared.class_file.Handler.{Handler}
use Rattle.jvms_file.specs.declared.class_file.KeptAttribute.{KeptAttribute}
use Rattle.jvms_file.specs.declared.insn.Insn.{Insn}
use Rattle.jvms_file.specs.declared.fault.ClassFault.{ClassFault}
use Rattle.jvms_file.specs.declared.fault.ClassFault.TheVariants as fault
use Rattle.jvms_file.specs.Results.{◌>>=◌, part_list}
use Rattle.jvms_file.specs.Bytes.{u2_at, u4_at, bytes_at}
use Rattle.jvms_file.specs.Code.{insns_of, handlers_of, layout_of}
use Rattle.jvms_file.specs.ClassFile.{interface_at, interfaces_at}
use Rattle.jvms_file.specs.Names.{is_name, is_method_name}
use Rattle.jvms_file.specs.Descriptors.{field_type_of}
use Rattle.jvms_file.specs.ConstantPool.{entry, utf8_at, is_utf8, is_class}
use Rattle.jvms_file.specs.Members.{is_text_with, is_constant_of, is_same_field, is_same_method, is_code_length, is_interface, is_abstract, is_static, is_method_descriptor_for, AttributeFrame, attribute_frame, frame_at, want_all, kept_content_at, kept_at, kept_attributes_at, is_named, constant_value_at, is_constant_value, field_attribute_at, field_at, fields_at, handler_at, code_at, class_number_at, exceptions_at, is_code, is_exceptions, needs_code, is_initializer, method_attribute_at, method_at, methods_at}
use Rattle.classfile_laws.proofs.Attributes.{whole_frame}
use Rattle.classfile_laws.proofs.CutSteps.{Cuts, Stops, given, then, same_then, want_then, chosen, number_then, bytes_then, counted_onto_cut, then_stops, number_stops, bytes_stops, want_stops, stops_then}

-- ---- Kept attributes.

kept_content_cut : (cut cut' : ClassFault) (name : ℕ) (first more : List ℕ) → Cuts cut more (kept_content_at cut name first) (kept_content_at cut' name (first ++ more))
kept_content_cut cut cut' name first more =
    number_then 4 cut cut' first more _ _ (λ count b1. bytes_then count cut cut' b1 more _ _ (λ content b2. given cut more (record { name = name; bytes = content }) b2))

kept_cut : (pool : List Constant) (cut cut' : ClassFault) (first more : List ℕ) → Cuts cut more (kept_at pool cut first) (kept_at pool cut' (first ++ more))
kept_cut pool cut cut' first more =
    number_then 2 cut cut' first more _ _ (λ name b. same_then cut more _ _ _ (λ _. kept_content_cut cut cut' name b more))

pub kept_attributes_cut : (pool : List Constant) (cut cut' : ClassFault) (first more : List ℕ) → Cuts cut more (kept_attributes_at pool cut first) (kept_attributes_at pool cut' (first ++ more))
kept_attributes_cut pool cut cut' first more =
    number_then 2 cut cut' first more _ _
    (λ count b. counted_onto_cut cut more (λ seen. kept_at pool cut) (λ seen. kept_at pool cut') (λ seen bytes. kept_cut pool cut cut' bytes more) [] count b)

interface_cut : (pool : List Constant) (cut cut' : ClassFault) (first more : List ℕ) → Cuts cut more (interface_at pool cut first) (interface_at pool cut' (first ++ more))
interface_cut pool cut cut' first more =
    number_then 2 cut cut' first more _ _ (λ n b. same_then cut more _ _ _ (λ _. given cut more n b))

pub interfaces_cut : (pool : List Constant) (cut cut' : ClassFault) (first more : List ℕ) → Cuts cut more (interfaces_at pool cut first) (interfaces_at pool cut' (first ++ more))
interfaces_cut pool cut cut' first more =
    number_then 2 cut cut' first more _ _
    (λ count b. counted_onto_cut cut more (λ seen. interface_at pool cut) (λ seen. interface_at pool cut') (λ seen bytes. interface_cut pool cut cut' bytes more) [] count b)

-- ---- Contents of attributes.

took : (n : ℕ) (xs ys : List ℕ) → (m : List ℕ) × (take n (xs ++ ys) ≡ take n xs ++ m)
took zero xs ys = ([], refl)
took (suc n) [] ys = (take (suc n) ys, refl)
took (suc n) (x ∷ xs) ys = let others = took n xs ys in (others.0, ap (λ (r : List ℕ). x ∷ r) others.1)

-- A content that the input cuts.
abbrev cut_frame : ClassFault → List ℕ → List ℕ → AttributeFrame
cut_frame cut content behind = record { whole = false; cut = cut; content = content; after = behind }

-- Reading a complete content continues after the attribute. A content that the input cuts ends early.
pub record CutsFrame {A : Type 0} (f : AttributeFrame → Result (A × List ℕ) ClassFault) : Type 0 where
  pub same : (cut : ClassFault) (content behind more : List ℕ) → Cuts cut more (f (whole_frame content behind)) (f (whole_frame content (behind ++ more)))
  pub short : (cut : ClassFault) (content behind more : List ℕ) (w : Bool) (d : ClassFault) (end : List ℕ) → Stops cut (f (cut_frame cut content behind)) (f (record { whole = w; cut = d; content = content ++ more; after = end }))

from_stops : {A : Type 0} (cut : ClassFault) (more : List ℕ) (short long : Result (A × List ℕ) ClassFault) → Stops cut short long → Cuts cut more short long
from_stops cut more short long ends = record { either = λ x rest e. inl (ends.stops (x, rest) e) }

reassoc : {A : Type 0} (r : Result (ℕ × List ℕ) ClassFault) (h : ℕ × List ℕ → AttributeFrame) (f : AttributeFrame → Result (A × List ℕ) ClassFault) → (r >>= λ c. f (h c)) ≡ ((r >>= λ c. Ok (h c)) >>= f)
reassoc (Ok c) h f = refl
reassoc (Err e) h f = refl

framed_cut : {A : Type 0} (f : AttributeFrame → Result (A × List ℕ) ClassFault) (cut cut' : ClassFault) (n : ℕ) (b more : List ℕ) (t : Bool) → CutsFrame f → nat_le n (length b) ≡ t → Cuts cut more (f (attribute_frame cut n b)) (f (attribute_frame cut' n (b ++ more)))
framed_cut f cut cut' n b more true cuts there =
    let enough : n ≤ length b = leb-true n (length b) there in
    let there2 : nat_le n (length (b ++ more)) ≡ true = le-leb n (length (b ++ more)) (omega (arith, enough, length-append b more)) in
    rw (there, there2, take-append-le n b more enough, drop-append-le n b more enough) (cuts.same cut (take n b) (drop n b) more)
framed_cut f cut cut' n b more false cuts there =
    let all = took n b more in
    from_stops cut more _ _ (rw (there, all.1) (cuts.short cut (take n b) (drop n b) all.0 _ _ _))

pub frame_then : {A : Type 0} (f : AttributeFrame → Result (A × List ℕ) ClassFault) (cut cut' : ClassFault) (first more : List ℕ) → CutsFrame f → Cuts cut more (frame_at cut first >>= f) (frame_at cut' (first ++ more) >>= f)
frame_then {A} f cut cut' first more cuts =
    let base : Cuts cut more (u4_at cut first >>= λ c. f (attribute_frame cut c.0 c.1)) (u4_at cut' (first ++ more) >>= λ c. f (attribute_frame cut' c.0 c.1)) =
    number_then 4 cut cut' first more _ _ (λ n b. framed_cut f cut cut' n b more (nat_le n (length b)) cuts refl) in
    let half = subst (λ (s : Result (A × List ℕ) ClassFault). Cuts cut more s (u4_at cut' (first ++ more) >>= λ c. f (attribute_frame cut' c.0 c.1))) (reassoc (u4_at cut first) (λ c. attribute_frame cut c.0 c.1) f) base in
    subst (λ (l : Result (A × List ℕ) ClassFault). Cuts cut more (frame_at cut first >>= f) l) (reassoc (u4_at cut' (first ++ more)) (λ c. attribute_frame cut' c.0 c.1) f) half

-- A frame, followed by a conversion of its content.
made_frame : {A B : Type 0} (f : AttributeFrame → Result (A × List ℕ) ClassFault) (make : A → B) → CutsFrame f → CutsFrame (λ frame. f frame >>= λ x. Ok (make x.0, x.1))
made_frame f make cuts =
    record {
      same = λ cut content behind more. then cut more _ _ _ _ (cuts.same cut content behind more) (λ x b. given cut more (make x) b);
      short = λ cut content behind more w d end. stops_then cut _ _ _ _ (cuts.short cut content behind more w d end);
    }

early_end : (cut : ClassFault) (content behind rest : List ℕ) → want_all (cut_frame cut content behind) rest ≡ Err cut
early_end cut content behind [] = refl
early_end cut content behind (b ∷ rest) = refl

-- The rest of a content that the input cuts isn't all of it.
early : {A : Type 0} (cut : ClassFault) (content behind rest : List ℕ) (f : Unit {0} → Result A ClassFault) (long : Result A ClassFault) → Stops cut (want_all (cut_frame cut content behind) rest >>= f) long
early cut content behind rest f long = record { stops = λ y e. ap (λ (s : Result (Unit {0}) ClassFault). s >>= f) (early_end cut content behind rest) }

constant_value_frame : (pool : List Constant) (descriptor name : ℕ) → CutsFrame (constant_value_at pool descriptor name)
constant_value_frame pool descriptor name =
    record {
      same = λ cut content behind more.
          same_then {U = ℕ × List ℕ} cut more (u2_at fault.AttributeLength content) _ _ (λ value.
          want_then cut more (is_constant_of (utf8_at pool descriptor) (entry pool value.0)) fault.Index _ _
          (same_then {U = Unit {0}} cut more (want_all (whole_frame content behind) value.1) _ _ (λ _.
          given cut more (field_attribute.ConstantValue name value.0) behind)));
      short = λ cut content behind more w d end.
          number_stops 2 cut d content more _ _ (λ value b.
          want_stops cut (is_constant_of (utf8_at pool descriptor) (entry pool value)) fault.Index _ _ (early cut content behind b _ _));
    }

-- ---- Fields.

field_attribute_cut : (pool : List Constant) (cut cut' : ClassFault) (descriptor : ℕ) (seen : List FieldAttribute) (first more : List ℕ) → Cuts cut more (field_attribute_at pool cut descriptor seen first) (field_attribute_at pool cut' descriptor seen (first ++ more))
field_attribute_cut pool cut cut' descriptor seen first more =
    number_then 2 cut cut' first more _ _ (λ name b.
    want_then cut more (is_utf8 pool name) fault.Index _ _
    (chosen cut more (is_named pool name (codes "ConstantValue")) _ _ _ _
    (want_then cut more (not (list_any is_constant_value seen)) fault.RepeatedAttribute _ _
    (frame_then (constant_value_at pool descriptor name) cut cut' b more (constant_value_frame pool descriptor name)))
    (then cut more (kept_content_at cut name b) (kept_content_at cut' name (b ++ more)) _ _ (kept_content_cut cut cut' name b more) (λ k b2. given cut more (field_attribute.Kept k) b2))))

field_cut : (pool : List Constant) (cut cut' : ClassFault) (seen : List FieldInfo) (first more : List ℕ) → Cuts cut more (field_at pool cut seen first) (field_at pool cut' seen (first ++ more))
unfolding field_at
field_cut pool cut cut' seen first more =
    number_then 2 cut cut' first more _ _ (λ access b1.
    number_then 2 cut cut' b1 more _ _ (λ name b2.
    want_then cut more (is_utf8 pool name) fault.Index _ _
    (want_then cut more (is_text_with is_name (utf8_at pool name)) fault.Descriptor _ _
    (number_then 2 cut cut' b2 more _ _ (λ descriptor b3.
    want_then cut more (is_utf8 pool descriptor) fault.Index _ _
    (want_then cut more (is_text_with (λ text. is_some (field_type_of text)) (utf8_at pool descriptor)) fault.Descriptor _ _
    (want_then cut more (not (list_any (is_same_field pool name descriptor) seen)) fault.RepeatedMember _ _
    (number_then 2 cut cut' b3 more _ _ (λ count b4.
    then cut more _ _ _ _ (counted_onto_cut cut more (field_attribute_at pool cut descriptor) (field_attribute_at pool cut' descriptor) (λ before bytes. field_attribute_cut pool cut cut' descriptor before bytes more) [] count b4)
    (λ attributes b5. given cut more (record { access = access; name = name; descriptor = descriptor; attributes = attributes }) b5))))))))))

pub fields_cut : (pool : List Constant) (cut cut' : ClassFault) (first more : List ℕ) → Cuts cut more (fields_at pool cut first) (fields_at pool cut' (first ++ more))
fields_cut pool cut cut' first more =
    number_then 2 cut cut' first more _ _ (λ count b. counted_onto_cut cut more (field_at pool cut) (field_at pool cut') (λ seen bytes. field_cut pool cut cut' seen bytes more) [] count b)

-- ---- Methods.

handler_cut : (pool : List Constant) (cut cut' : ClassFault) (first more : List ℕ) → Cuts cut more (handler_at pool cut first) (handler_at pool cut' (first ++ more))
handler_cut pool cut cut' first more =
    number_then 2 cut cut' first more _ _ (λ start b1.
    number_then 2 cut cut' b1 more _ _ (λ end b2.
    number_then 2 cut cut' b2 more _ _ (λ target b3.
    number_then 2 cut cut' b3 more _ _ (λ catch_type b4.
    want_then cut more (catch_type == 0 || is_class pool catch_type) fault.Index _ _
    (given cut more (record { start = start; end = end; target = target; catch_type = catch_type }) b4)))))

class_number_cut : (pool : List Constant) (cut cut' : ClassFault) (first more : List ℕ) → Cuts cut more (class_number_at pool cut first) (class_number_at pool cut' (first ++ more))
class_number_cut pool cut cut' first more =
    number_then 2 cut cut' first more _ _ (λ n b. want_then cut more (is_class pool n) fault.Index _ _ (given cut more n b))

exceptions_frame : (pool : List Constant) → CutsFrame (exceptions_at pool)
exceptions_frame pool =
    record {
      same = λ cut content behind more.
          same_then {U = ℕ × List ℕ} cut more (u2_at fault.AttributeLength content) _ _ (λ count.
          same_then {U = List ℕ × List ℕ} cut more (part_list (class_number_at pool fault.AttributeLength) count.0 count.1) _ _ (λ classes.
          same_then {U = Unit {0}} cut more (want_all (whole_frame content behind) classes.1) _ _ (λ _. given cut more classes.0 behind)));
      short = λ cut content behind more w d end.
          number_stops 2 cut d content more _ _ (λ count b.
          then_stops cut more (part_list (class_number_at pool cut) count b) (part_list (class_number_at pool d) count (b ++ more)) _ _
          (counted_onto_cut cut more (λ seen. class_number_at pool cut) (λ seen. class_number_at pool d) (λ seen bytes. class_number_cut pool cut d bytes more) [] count b)
          (λ classes b2. early cut content behind b2 _ _));
    }

code_frame : (pool : List Constant) (major : ℕ) → CutsFrame (code_at pool major)
unfolding code_at
code_frame pool major =
    record {
      same = λ cut content behind more.
          let at = fault.AttributeLength in
          same_then {U = ℕ × List ℕ} cut more (u2_at at content) _ _ (λ max_stack.
          same_then {U = ℕ × List ℕ} cut more (u2_at at max_stack.1) _ _ (λ max_locals.
          same_then {U = ℕ × List ℕ} cut more (u4_at at max_locals.1) _ _ (λ code_length.
          want_then cut more (is_code_length code_length.0) fault.CodeLength _ _
          (same_then {U = List ℕ × List ℕ} cut more (bytes_at at code_length.0 code_length.1) _ _ (λ bytes.
          same_then {U = ℕ × List ℕ} cut more (u2_at at bytes.1) _ _ (λ count.
          same_then {U = List Handler × List ℕ} cut more (part_list (handler_at pool at) count.0 count.1) _ _ (λ table.
          same_then {U = List KeptAttribute × List ℕ} cut more (kept_attributes_at pool at table.1) _ _ (λ attributes.
          same_then {U = Unit {0}} cut more (want_all (whole_frame content behind) attributes.1) _ _ (λ _.
          same_then {U = List ℕ × List Insn} cut more (insns_of pool major bytes.0) _ _ (λ insns.
          same_then {U = List Handler} cut more (handlers_of insns.0 code_length.0 table.0) _ _ (λ handlers.
          given cut more (record { max_stack = max_stack.0; max_locals = max_locals.0; layout = layout_of insns.0 insns.1 bytes.0; insns = insns.1; handlers = handlers; attributes = attributes.0 }) behind)))))))))));
      short = λ cut content behind more w d end.
          number_stops 2 cut d content more _ _ (λ max_stack b1.
          number_stops 2 cut d b1 more _ _ (λ max_locals b2.
          number_stops 4 cut d b2 more _ _ (λ code_length b3.
          want_stops cut (is_code_length code_length) fault.CodeLength _ _
          (bytes_stops code_length cut d b3 more _ _ (λ bytes b4.
          number_stops 2 cut d b4 more _ _ (λ count b5.
          then_stops cut more (part_list (handler_at pool cut) count b5) (part_list (handler_at pool d) count (b5 ++ more)) _ _
          (counted_onto_cut cut more (λ seen. handler_at pool cut) (λ seen. handler_at pool d) (λ seen bytes. handler_cut pool cut d bytes more) [] count b5)
          (λ table b6.
          then_stops cut more (kept_attributes_at pool cut b6) (kept_attributes_at pool d (b6 ++ more)) _ _ (kept_attributes_cut pool cut d b6 more)
          (λ attributes b7. early cut content behind b7 _ _))))))));
    }

method_attribute_cut : (pool : List Constant) (major : ℕ) (cut cut' : ClassFault) (code : Bool) (seen : List MethodAttribute) (first more : List ℕ) → Cuts cut more (method_attribute_at pool major cut code seen first) (method_attribute_at pool major cut' code seen (first ++ more))
method_attribute_cut pool major cut cut' code seen first more =
    number_then 2 cut cut' first more _ _ (λ name b.
    want_then cut more (is_utf8 pool name) fault.Index _ _
    (chosen cut more (is_named pool name (codes "Code")) _ _ _ _
    (want_then cut more (not (list_any is_code seen)) fault.RepeatedAttribute _ _
    (want_then cut more code fault.CodePresence _ _
    (frame_then (λ frame. code_at pool major frame >>= λ c. Ok (method_attribute.Code name c.0, c.1)) cut cut' b more (made_frame (code_at pool major) (λ c. method_attribute.Code name c) (code_frame pool major)))))
    (chosen cut more (is_named pool name (codes "Exceptions")) _ _ _ _
    (want_then cut more (not (list_any is_exceptions seen)) fault.RepeatedAttribute _ _
    (frame_then (λ frame. exceptions_at pool frame >>= λ c. Ok (method_attribute.Exceptions name c.0, c.1)) cut cut' b more (made_frame (exceptions_at pool) (λ c. method_attribute.Exceptions name c) (exceptions_frame pool))))
    (then cut more (kept_content_at cut name b) (kept_content_at cut' name (b ++ more)) _ _ (kept_content_cut cut cut' name b more) (λ k b2. given cut more (method_attribute.Kept k) b2)))))

method_cut : (pool : List Constant) (major : ℕ) (cut cut' : ClassFault) (class_access : ℕ) (seen : List MethodInfo) (first more : List ℕ) → Cuts cut more (method_at pool major cut class_access seen first) (method_at pool major cut' class_access seen (first ++ more))
unfolding method_at
method_cut pool major cut cut' class_access seen first more =
    number_then 2 cut cut' first more _ _ (λ access b1.
    number_then 2 cut cut' b1 more _ _ (λ name b2.
    want_then cut more (is_utf8 pool name) fault.Index _ _
    (want_then cut more (is_text_with is_method_name (utf8_at pool name)) fault.Descriptor _ _
    (want_then cut more (not (is_interface class_access) || is_initializer pool name || is_abstract access) fault.CodePresence _ _
    (number_then 2 cut cut' b2 more _ _ (λ descriptor b3.
    want_then cut more (is_utf8 pool descriptor) fault.Index _ _
    (want_then cut more (is_text_with (is_method_descriptor_for (is_static access || is_initializer pool name)) (utf8_at pool descriptor)) fault.Descriptor _ _
    (want_then cut more (not (list_any (is_same_method pool name descriptor) seen)) fault.RepeatedMember _ _
    (number_then 2 cut cut' b3 more _ _ (λ count b4.
    let code = needs_code (is_initializer pool name) access in
    then cut more _ _ _ _ (counted_onto_cut cut more (method_attribute_at pool major cut code) (method_attribute_at pool major cut' code) (λ before bytes. method_attribute_cut pool major cut cut' code before bytes more) [] count b4)
    (λ attributes b5.
    want_then cut more (not code || list_any is_code attributes) fault.CodePresence _ _
    (given cut more (record { access = access; name = name; descriptor = descriptor; attributes = attributes }) b5))))))))))))

pub methods_cut : (pool : List Constant) (major : ℕ) (cut cut' : ClassFault) (class_access : ℕ) (first more : List ℕ) → Cuts cut more (methods_at pool major cut class_access first) (methods_at pool major cut' class_access (first ++ more))
methods_cut pool major cut cut' class_access first more =
    number_then 2 cut cut' first more _ _ (λ count b. counted_onto_cut cut more (method_at pool major cut class_access) (method_at pool major cut' class_access) (λ seen bytes. method_cut pool major cut cut' class_access seen bytes more) [] count b)
