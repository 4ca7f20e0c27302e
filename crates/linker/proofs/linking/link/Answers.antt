use Rattle.std.proofs.Common.{◌≡◌, ◌++◌, List, Result, Ok, Err, IfOk, map, sym, subst, arith}
use Rattle.std.specs.Prelude.{MatchResult}
use Rattle.std.proofs.lemmas.Grind.{common_steps}
use Rattle.jvms_program.specs.declared.program.Class.{Class}
use Rattle.jvms_program.specs.BuiltIn.{built_in_classes}
use Rattle.jvms_program.specs.Meaning.{meaning}
use Rattle.linker.specs.declared.fault.LinkFault.{LinkFault}
use Rattle.linker.specs.declared.fault.LinkFault.TheVariants as fault
use Rattle.linker.specs.Linking.{HaveDistinctNames}
use Rattle.linker.proofs.DistinctNames.{distinct_names}
use Rattle.linker.proofs.Refused.{linked_too, refused_too}
use Rattle.linker.proofs.linking.link.Goals as goal

distinct_of : (r : Result (List Class) LinkFault) (list : List Class) → MatchResult r (λ p. p ≡ list) (λ e. e ≡ fault.Memory) → HaveDistinctNames list → IfOk r (λ p. HaveDistinctNames p)
distinct_of (Ok p) list is apart = subst HaveDistinctNames (sym is) apart
distinct_of (Err e) list is apart = tt

pub returns-in-Ok-clause-distinct : goal.returns-in-Ok-clause-distinct
returns-in-Ok-clause-distinct c =
    let whole : c.in_ok-list.list ≡ built_in_classes ++ c.last_classes.result.now = grind (arith, common_steps) in
    distinct_of c.program_of.result c.in_ok-list.list c.program_of.ensures (rw whole (distinct_names c.last_classes.result.now c.in-Ok.ensures))

pub returns-in-Ok-clause-exact : goal.returns-in-Ok-clause-exact
returns-in-Ok-clause-exact c =
    let whole : c.in_ok-list.list ≡ built_in_classes ++ c.last_classes.result.now = grind (arith, common_steps) in
    let same : c.last_classes.result.now ≡ map meaning c.args.files.items = grind (arith, common_steps) in
    linked_too c.last_classes.result.now c.args.files.items same c.program_of.result c.in_ok-list.list whole c.in-Ok.ensures c.program_of.ensures

pub returns-in-Err-clause-exact : goal.returns-in-Err-clause-exact
returns-in-Err-clause-exact c =
    let same : c.last_classes.result.now ≡ map meaning c.args.files.items = grind (arith, common_steps) in
    refused_too c.last_classes.result.now c.args.files.items same c.in-Err.fault c.in-Err.ensures
