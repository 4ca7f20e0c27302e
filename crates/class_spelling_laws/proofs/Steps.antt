-- Derives facts about each step of a sequence that may fail, from a result without a fault.
use Rattle.std.proofs.Common.{◌≡◌, Bool, true, false, Result, Ok, Err, refl, ap}
use Rattle.std.proofs.lemmas.Bool.{false≢true}
use Rattle.jvms_file.specs.Results.{◌>>=◌, want}
use Rattle.pool_entries.specs.declared.fault.EntryFault.{EntryFault}
use Rattle.assembly.specs.declared.fault.AsmFault.{AsmFault}
use Rattle.assembly.specs.Faults.{fault_of, with_source_fault}

-- Equal results without a fault have equal values.
pub same_Ok : {A E : Type 0} (x y : A) → ◌≡◌ {A = Result A E} (Ok x) (Ok y) → x ≡ y
same_Ok x y e = cc

-- A fault isn't a value.
pub no_answer : {A E : Type 0} {G : Type 0} (d : E) (x : A) → ◌≡◌ {A = Result A E} (Err d) (Ok x) → G
no_answer d x e = absurd cc

-- A sequence whose first step adds entries has a value only if that step has one.
pub numbered_step : {A B : Type 0} {G : Type 0} (r : Result A EntryFault) (f : A → Result B AsmFault) (y : B) → (with_source_fault r >>= f) ≡ Ok y → ((x : A) → r ≡ Ok x → f x ≡ Ok y → G) → G
numbered_step (Ok x) f y e next = next x refl e
numbered_step (Err d) f y e next = no_answer (fault_of d) y e

-- A last test holds if it has a value.
pub want_held : {E : Type 0} (b : Bool) (d : E) → want b d ≡ Ok tt → b ≡ true
want_held true d e = refl
want_held false d e = absurd cc

-- Tests that hold have a value.
pub wanted : {E : Type 0} (b : Bool) (d : E) → b ≡ true → want b d ≡ Ok tt
wanted b d is = ap (λ t. want t d) is

pub both_wanted : {E : Type 0} (b c : Bool) (d e : E) → b ≡ true → c ≡ true → (want b d >>= λ _. want c e) ≡ Ok tt
both_wanted true c d e is more = wanted c e more
both_wanted false c d e is more = absurd (false≢true is)
