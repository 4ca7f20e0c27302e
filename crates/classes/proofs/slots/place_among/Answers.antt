use Rattle.std.proofs.Common.{ap}
use Rattle.jvms_program.specs.declared.key.FieldKey.{FieldKey}
use Rattle.classes.proofs.SlotLaws.{none_among, some_among, some_within}
use Rattle.classes.proofs.slots.place_among.Goals as goal

pub returns-then-not-same_text-clause-exact : goal.returns-then-not-same_text-clause-exact
returns-then-not-same_text-clause-exact c =
    none_among c.args.is_static c.args.class.now c.args.field.now _ _ _ c.as_slice.ensures (ap (λ (k : FieldKey). k.class) c.field.view_is) c.same_text.ensures c.if-not-same_text.true

pub returns-clause-exact : goal.returns-clause-exact
returns-clause-exact c =
    some_among c.args.is_static c.args.class.now c.args.field.now _ _ _ c.as_slice.ensures (ap (λ (k : FieldKey). k.class) c.field.view_is) c.same_text.ensures c.if-not-same_text.false
    _ _ _ _ (ap (λ (k : FieldKey). k.name) c.field.view_is) (ap (λ (k : FieldKey). k.descriptor) c.field.view_is) c.as_slice-2.ensures c.place_of.ensures

pub returns-clause-within : goal.returns-clause-within
returns-clause-within c = some_within c.args.is_static _ _ _ _ c.as_slice-2.ensures c.place_of.ensures
