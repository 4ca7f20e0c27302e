-- Proves how statements change the members of a class and the sets of their names.
use Rattle.std.proofs.Common.{◌≡◌, ℕ, Bool, true, false, ◌&&◌, ◌||◌, List, [], ◌∷◌, ◌++◌, Option, Some, None, Result, Ok, Err, refl, sym, ap, ◌∙◌}
use Rattle.std.specs.Prelude.{OnOk}
use Rattle.std.specs.List.{list_any}
use Rattle.std.specs.declared.alloc.AllocError.{AllocError}
use Rattle.std.proofs.lemmas.List.Folds.{list_any-append}
use Rattle.jvms_file.specs.Names.{same_text}
use Rattle.jasmin.specs.declared.reading.OpenMethod.{OpenMethod}
use Rattle.jasmin.specs.declared.reading.Reading.{Reading}
use Rattle.jasmin.specs.declared.source.FieldLine.{FieldLine}
use Rattle.jasmin.specs.declared.source.MethodLines.{MethodLines}
use Rattle.jasmin.specs.declared.statement.Statement.{Statement}
use Rattle.jasmin.specs.declared.statement.Statement.TheVariants as statement
use Rattle.jasmin.specs.Reading.{is_field_like, is_method_like, method_lines_of, with_method, with_statement}
use Rattle.jasmin_reader.specs.declared.members.Members.{Members}
use Rattle.jasmin_reader.specs.Members.{has_member, AreFields, AreMethods, FollowsFields, FollowsMethods}

-- The new set has one member more.
abbrev pub OneMore : Members → Members → List ℕ → List ℕ → Type 0
OneMore old new name descriptor =
    (m d : List ℕ) → has_member new m d ≡ ((same_text m name && same_text d descriptor) || has_member old m d)

or-turned : (a b : Bool) → (a || b) ≡ (b || (a || false))
or-turned true true = refl
or-turned true false = refl
or-turned false true = refl
or-turned false false = refl

-- ---- Fields

field_more : (old new : Members) (fields : List FieldLine) (f : FieldLine) → AreFields old fields → OneMore old new f.name f.descriptor → AreFields new (fields ++ f ∷ [])
field_more old new fields f are more = λ m d.
    more m d ∙ ap (λ b. (same_text m f.name && same_text d f.descriptor) || b) (are m d)
    ∙ or-turned (is_field_like m d f) (list_any (is_field_like m d) fields)
    ∙ sym (list_any-append (is_field_like m d) fields (f ∷ []))

field_follows : (old new : Members) (f : FieldLine) → OneMore old new f.name f.descriptor → FollowsFields old new (statement.Field f)
unfolding with_statement
field_follows old new f more = λ r are. field_more old new r.fields f are more

-- A field is added to the set.
pub field_noted : (result : Result (Unit {0}) AllocError) (old new : Members) (f : FieldLine) (s : Statement) → s ≡ statement.Field f → OnOk result (OneMore old new f.name f.descriptor) → OnOk result (FollowsFields old new s)
field_noted (Ok done) old new f s is more = rw is (field_follows old new f more)
field_noted (Err e) old new f s is more = tt

end_keeps_fields : (names : Members) (o : Option OpenMethod) (r : Reading) → AreFields names r.fields → AreFields names (with_method o r).fields
end_keeps_fields names None r are = are
end_keeps_fields names (Some m) r are = are

-- Any other statement adds no field.
pub no_field : (names : Members) (s : Statement) → ((f : FieldLine) → s ≡ statement.Field f → ⊥) → FollowsFields names names s
unfolding with_statement
no_field names statement.Blank other = λ r are. are
no_field names statement.Bytecode other = λ r are. are
no_field names statement.SourceFile other = λ r are. are
no_field names (statement.Class access name) other = λ r are. are
no_field names (statement.Superclass name) other = λ r are. are
no_field names (statement.Implements name) other = λ r are. are
no_field names (statement.Field f) other = absurd (other f refl)
no_field names (statement.Method access name descriptor) other = λ r are. are
no_field names statement.EndMethod other = λ r are. end_keeps_fields names r.method r are
no_field names (statement.MaxStack n) other = λ r are. are
no_field names (statement.MaxLocals n) other = λ r are. are
no_field names (statement.Catch c) other = λ r are. are
no_field names (statement.Throws name) other = λ r are. are
no_field names statement.Dropped other = λ r are. are
no_field names (statement.TableLabel label) other = λ r are. are
no_field names (statement.Match line) other = λ r are. are
no_field names (statement.Default label) other = λ r are. are
no_field names (statement.Label label) other = λ r are. are
no_field names (statement.Instruction i) other = λ r are. are
no_field names (statement.LabelledInstruction label i) other = λ r are. are

-- ---- Methods

method_more : (old new : Members) (methods : List MethodLines) (m : MethodLines) → AreMethods old methods → OneMore old new m.name m.descriptor → AreMethods new (methods ++ m ∷ [])
method_more old new methods m are more = λ n d.
    more n d ∙ ap (λ b. (same_text n m.name && same_text d m.descriptor) || b) (are n d)
    ∙ or-turned (is_method_like n d m) (list_any (is_method_like n d) methods)
    ∙ sym (list_any-append (is_method_like n d) methods (m ∷ []))

method_ends : (old new : Members) (m : OpenMethod) (r : Reading) → OneMore old new m.name m.descriptor → AreMethods old r.methods → AreMethods new (with_method (Some m) r).methods
method_ends old new m r more are = method_more old new r.methods (method_lines_of m) are more

method_follows : (old new : Members) (m : OpenMethod) → OneMore old new m.name m.descriptor → FollowsMethods old new (Some m) statement.EndMethod
unfolding with_statement
method_follows old new m more = λ r is are. rw is (method_ends old new m r more are)

-- A method is added to the set when it ends.
pub method_noted : (result : Result (Unit {0}) AllocError) (old new : Members) (m : OpenMethod) (o : Option OpenMethod) (s : Statement) → s ≡ statement.EndMethod → o ≡ Some m → OnOk result (OneMore old new m.name m.descriptor) → OnOk result (FollowsMethods old new o s)
method_noted (Ok done) old new m o s ends is more = rw (ends, is) (method_follows old new m more)
method_noted (Err e) old new m o s ends is more = tt

nothing_follows : (names : Members) → FollowsMethods names names None statement.EndMethod
unfolding with_statement
nothing_follows names = λ r is are. rw is are

-- No method is open that could end.
pub nothing_ended : (names : Members) (o : Option OpenMethod) (s : Statement) → s ≡ statement.EndMethod → o ≡ None → FollowsMethods names names o s
nothing_ended names o s ends is = rw (ends, is) (nothing_follows names)

-- Any other statement adds no method.
pub no_method : (names : Members) (o : Option OpenMethod) (s : Statement) → (s ≡ statement.EndMethod → ⊥) → FollowsMethods names names o s
unfolding with_statement
no_method names o statement.Blank other = λ r is are. are
no_method names o statement.Bytecode other = λ r is are. are
no_method names o statement.SourceFile other = λ r is are. are
no_method names o (statement.Class access name) other = λ r is are. are
no_method names o (statement.Superclass name) other = λ r is are. are
no_method names o (statement.Implements name) other = λ r is are. are
no_method names o (statement.Field f) other = λ r is are. are
no_method names o (statement.Method access name descriptor) other = λ r is are. are
no_method names o statement.EndMethod other = absurd (other refl)
no_method names o (statement.MaxStack n) other = λ r is are. are
no_method names o (statement.MaxLocals n) other = λ r is are. are
no_method names o (statement.Catch c) other = λ r is are. are
no_method names o (statement.Throws name) other = λ r is are. are
no_method names o statement.Dropped other = λ r is are. are
no_method names o (statement.TableLabel label) other = λ r is are. are
no_method names o (statement.Match line) other = λ r is are. are
no_method names o (statement.Default label) other = λ r is are. are
no_method names o (statement.Label label) other = λ r is are. are
no_method names o (statement.Instruction i) other = λ r is are. are
no_method names o (statement.LabelledInstruction label i) other = λ r is are. are
