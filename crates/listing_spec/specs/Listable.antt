-- Defines properties of a class file's tree beside its form. Access words can spell its flags, and its labels are those
-- of places. Its texts have UTF-16 code units. A method without code has nothing that isn't written.
use Rattle.std.specs.Prelude.{◌≡◌, ℕ, Bool, true, false, List, [], ◌∷◌, Option, Some, None, IsTrue}
use Rattle.std.specs.List.{AllByRecursion}
use Rattle.jvms_file.specs.Texts.{IsText}
use Rattle.jasmin.specs.declared.source.LoadedConstant.{LoadedConstant}
use Rattle.jasmin.specs.declared.source.LoadedConstant.TheVariants as loaded
use Rattle.jasmin.specs.declared.source.MatchLine.{MatchLine}
use Rattle.jasmin.specs.declared.source.Operation.{Operation}
use Rattle.jasmin.specs.declared.source.Operation.TheVariants as operation
use Rattle.jasmin.specs.declared.source.CodeItem.{CodeItem}
use Rattle.jasmin.specs.declared.source.CodeItem.TheVariants as item
use Rattle.jasmin.specs.declared.source.CatchLine.{CatchLine}
use Rattle.jasmin.specs.declared.source.FieldConstant.{FieldConstant}
use Rattle.jasmin.specs.declared.source.FieldConstant.TheVariants as constant
use Rattle.jasmin.specs.declared.source.FieldLine.{FieldLine}
use Rattle.jasmin.specs.declared.source.MethodLines.{MethodLines}
use Rattle.jasmin.specs.declared.source.Source.{Source}
use Rattle.jasmin.specs.Denote.{has_code}
use Rattle.listing_spec.specs.TreeOf.{label_of, class_flags, field_flags, method_flags}

-- A label is that of a place.
abbrev pub IsPlaceLabel : List ℕ → Type 0
IsPlaceLabel label = (place : ℕ) × (label ≡ label_of place)

abbrev pub IsListableLoad : LoadedConstant → Type 0
IsListableLoad (loaded.String text) = IsText text
IsListableLoad _ = Unit {0}

unfoldable pub IsListableOperation : Operation → Type 0
IsListableOperation (operation.Constant width c) = IsListableLoad c
IsListableOperation (operation.Branch width how label) = IsPlaceLabel label
IsListableOperation (operation.Table lines) = IsPlaceLabel lines.default × AllByRecursion IsPlaceLabel lines.labels
IsListableOperation (operation.Lookup lines) =
    IsPlaceLabel lines.default × AllByRecursion (λ (m : MatchLine). IsPlaceLabel m.label) lines.matches
IsListableOperation _ = Unit {0}

abbrev pub IsListableItem : CodeItem → Type 0
IsListableItem (item.Label name) = IsPlaceLabel name
IsListableItem (item.Operation o) = IsListableOperation o

abbrev pub IsListableCatch : CatchLine → Type 0
IsListableCatch c = IsPlaceLabel c.from × IsPlaceLabel c.to × IsPlaceLabel c.using

abbrev pub IsListableValue : Option FieldConstant → Type 0
IsListableValue (Some (constant.String text)) = IsText text
IsListableValue _ = Unit {0}

pub record IsListableField (f : FieldLine) : Type 0 where
  pub access : f.access ≡ field_flags f.access
  pub value : IsListableValue f.constant

-- A method without code has no catches and no items, and its limits are 1. None of them is written.
abbrev pub IsBare : MethodLines → Type 0
IsBare m = (m.max_stack ≡ 1) × (m.max_locals ≡ 1) × (m.catches ≡ []) × (m.code ≡ [])

pub record IsListableMethod (m : MethodLines) : Type 0 where
  pub access : m.access ≡ method_flags m.access
  pub bare : has_code m.name m.access ≡ false → IsBare m
  pub catches : AllByRecursion IsListableCatch m.catches
  pub code : AllByRecursion IsListableItem m.code

pub record IsListable (s : Source) : Type 0 where
  pub access : s.access ≡ class_flags s.access
  pub fields : AllByRecursion IsListableField s.fields
  pub methods : AllByRecursion IsListableMethod s.methods
