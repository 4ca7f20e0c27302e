-- Defines marks of the places that are referred to, set one at a time.
use Rattle.std.specs.Prelude.{ℕ, suc, Bool, true, false, nat_lt, if◌then◌else◌, List, [], ◌∷◌, length, replicate, slice_set}
use Rattle.jvms_file.specs.declared.class_file.Handler.{Handler}
use Rattle.jvms_file.specs.declared.class_file.Code.{Code}
use Rattle.jvms_file.specs.declared.insn.Insn.{Insn}
use Rattle.listing_spec.specs.TreeOf.{targets_of}

-- Marks one more place. A place without a mark is ignored.
abbrev pub with_mark : ℕ → List Bool → List Bool
with_mark place marks = if nat_lt place (length marks) then slice_set marks place true else marks

abbrev pub with_marks : List ℕ → List Bool → List Bool
with_marks [] marks = marks
with_marks (place ∷ places) marks = with_marks places (with_mark place marks)

abbrev pub with_insn_marks : List Insn → List Bool → List Bool
with_insn_marks [] marks = marks
with_insn_marks (i ∷ is) marks = with_insn_marks is (with_marks (targets_of i) marks)

abbrev pub with_bound_marks : Handler → List Bool → List Bool
with_bound_marks h marks = with_mark h.target (with_mark h.end (with_mark h.start marks))

abbrev pub with_handler_marks : List Handler → List Bool → List Bool
with_handler_marks [] marks = marks
with_handler_marks (h ∷ hs) marks = with_handler_marks hs (with_bound_marks h marks)

-- Returns the marks of code.
unfoldable pub marks_of : Code → List Bool
marks_of c = with_handler_marks c.handlers (with_insn_marks c.insns (replicate (suc (length c.insns)) false))
