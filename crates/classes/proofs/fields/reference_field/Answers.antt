use Rattle.classes.proofs.DeclarationLaws.{missing_field}
use Rattle.classes.proofs.PlaceLaws.{found_field_located}
use Rattle.classes.proofs.fields.reference_field.Goals as goal

pub returns-then-not-may_declare_field : goal.returns-then-not-may_declare_field
returns-then-not-may_declare_field c =
    missing_field c.args.program.now c.args.r.now
    (rw (c.as_slice-name.ensures, c.as_slice-descriptor.ensures) at (c.may_declare_field.ensures c.if-not-may_declare_field.true))

pub returns : goal.returns
returns c =
    found_field_located c.args.program.now c.args.r.now _ _ _ _ _ _ c.as_slice-name.ensures c.as_slice-descriptor.ensures c.as_slice.ensures c.members_class.ensures c.first_in_ancestry.ensures c.field_number_at.ensures
