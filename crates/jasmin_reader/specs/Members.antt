-- Defines sets of the names and descriptors of a class's members.
use Rattle.std.specs.Prelude.{◌≡◌, ℕ, Bool, List, Option}
use Rattle.std.specs.BTreeSet as sorted
use Rattle.std.specs.Cmp.Lexicographic.{slice_cmp}
use Rattle.std.specs.List.{list_any}
use Rattle.std.specs.Ordering.{nat_cmp, on, then_cmp}
use Rattle.std.specs.declared.cmp.Ordering.{Ordering}
use Rattle.jasmin.specs.declared.reading.OpenMethod.{OpenMethod}
use Rattle.jasmin.specs.declared.reading.Reading.{Reading}
use Rattle.jasmin.specs.declared.source.FieldLine.{FieldLine}
use Rattle.jasmin.specs.declared.source.MethodLines.{MethodLines}
use Rattle.jasmin.specs.declared.statement.Statement.{Statement}
use Rattle.jasmin.specs.Reading.{is_field_like, is_method_like, with_statement}
use Rattle.jasmin_reader.specs.declared.member.Member.{Member}
use Rattle.jasmin_reader.specs.declared.members.Members.{Members}

-- Compares members by name, then by descriptor.
abbrev pub member_cmp : Member → Member → Ordering
member_cmp = then_cmp (on (λ m. m.name) (slice_cmp nat_cmp)) (on (λ m. m.descriptor) (slice_cmp nat_cmp))

-- Decides whether a name with a descriptor is in the set.
abbrev pub has_member : Members → List ℕ → List ℕ → Bool
has_member s name descriptor = sorted.contains member_cmp s.pairs (record { name = name; descriptor = descriptor })

-- The set has the names and descriptors of the fields.
abbrev pub AreFields : Members → List FieldLine → Type 0
AreFields names fields =
    (name descriptor : List ℕ) → has_member names name descriptor ≡ list_any (is_field_like name descriptor) fields

-- The set has the names and descriptors of the methods.
abbrev pub AreMethods : Members → List MethodLines → Type 0
AreMethods names methods =
    (name descriptor : List ℕ) → has_member names name descriptor ≡ list_any (is_method_like name descriptor) methods

-- If the first set is that of the fields before a statement, the second is that of the fields after it.
abbrev pub FollowsFields : Members → Members → Statement → Type 0
FollowsFields old new s = (r : Reading) → AreFields old r.fields → AreFields new (with_statement r s).fields

-- With this open method or none, if the first set is that of the methods before a statement, the second is that after
-- it.
abbrev pub FollowsMethods : Members → Members → Option OpenMethod → Statement → Type 0
FollowsMethods old new open_method s =
    (r : Reading) → r.method ≡ open_method → AreMethods old r.methods → AreMethods new (with_statement r s).methods
