-- Proves that their bytes spell switches, with zeros as padding (JVMS 6.5 tableswitch, lookupswitch).
use Rattle.std.proofs.Common.{◌≡◌, ℕ, ◌+◌, ◌-◌, ◌^◌, ◌<◌, true, List, [], ◌∷◌, ◌++◌, length, Option, Some, None, ℤ, refl, sym, ap, ◌∙◌, arith}
use Rattle.std.specs.Prelude.{map, pos, ◌+ℤ◌, ◌-ℤ◌, int_le, unsigned_abs}
use Rattle.std.specs.List.{flat_map, AllByRecursion}
use Rattle.std.specs.Int.{w32, cast_unsigned}
use Rattle.std.proofs.lemmas.List.{length-map}
use Rattle.jvms_file.specs.Bytes.{signed}
use Rattle.jvms_file.specs.Spelling.{u4, InOrder, SpellsTarget, SpellsCase, SpellsTable, SpellsLookup, IsRising}
use Rattle.jasmin.specs.declared.source.MatchLine.{MatchLine}
use Rattle.jasmin.specs.declared.source.TableLines.{TableLines}
use Rattle.jasmin.specs.declared.source.LookupLines.{LookupLines}
use Rattle.jasmin.specs.declared.source.CodeItem.{CodeItem}
use Rattle.jasmin.specs.Denote.{target, switch_case}
use Rattle.source_form_laws.specs.Formed.{IsFormedTable, IsFormedLookup}
use Rattle.assembly.specs.Sizes.{offset}
use Rattle.assembly.specs.Bytes.{s4, pads, table_bytes, lookup_bytes}
use Rattle.code_spelling_laws.proofs.Numbers.{bits32, bits32_above, not_below, gap_is}
use Rattle.code_spelling_laws.proofs.Sizes.{pads_size}
use Rattle.code_spelling_laws.proofs.Labels.{Leads}
use Rattle.code_spelling_laws.proofs.Branches.{leads_to}

-- ---- tableswitch

targets_are_spelled : (starts : List ℕ) (items : List CodeItem) (pc : ℕ) → pc < 65536 → (labels : List (List ℕ)) → AllByRecursion (Leads starts items) labels → InOrder (SpellsTarget starts pc) (flat_map (λ label. s4 (offset starts items pc label)) labels) (map (target items) labels)
targets_are_spelled starts items pc near [] to = refl
targets_are_spelled starts items pc near (label ∷ labels) to =
    let bits = cast_unsigned w32 (offset starts items pc label) in
    (u4 bits, flat_map (λ l. s4 (offset starts items pc l)) labels, refl, (bits, leads_to starts items pc label near to.0, refl), targets_are_spelled starts items pc near labels to.1)

-- There is one target for each value from low to high.
table_count : (items : List CodeItem) (low high : ℤ) (labels : List (List ℕ)) → 0 < length labels → high ≡ low +ℤ pos (length labels - 1) → length (map (target items) labels) ≡ unsigned_abs (high -ℤ low) + 1
table_count items low high labels some is =
    let count : length (map (target items) labels) ≡ length labels = length-map labels (target items) in
    let gap : unsigned_abs (high -ℤ low) ≡ length labels - 1 = ap (λ (z : ℤ). unsigned_abs (z -ℤ low)) is ∙ gap_is low (length labels - 1) in
    omega arith

pub table_is_spelled : (starts : List ℕ) (items : List CodeItem) (pc : ℕ) (lines : TableLines) → pc < 65536 → AllByRecursion (Leads starts items) (lines.default ∷ lines.labels) → IsFormedTable lines
    → SpellsTable starts pc (table_bytes starts items pc lines) (record { default = target items lines.default; low = lines.low; targets = map (target items) lines.labels })
unfolding table_bytes
table_is_spelled starts items pc lines near to formed =
    let k = length lines.labels - 1 in
    let low = bits32 lines.low formed.0 in
    let high = bits32_above lines.low k formed.0 formed.2 in
    let order : int_le lines.low (signed w32 (cast_unsigned w32 (lines.low +ℤ pos k))) ≡ true = ap (λ (z : ℤ). int_le lines.low z) (sym high.again) ∙ not_below lines.low k in (
      170,
      refl,
      pads pc,
      pads_size pc,
      cast_unsigned w32 (offset starts items pc lines.default),
      leads_to starts items pc lines.default near to.0,
      cast_unsigned w32 lines.low,
      low.below,
      low.again,
      cast_unsigned w32 (lines.low +ℤ pos k),
      high.below,
      order,
      table_count items lines.low (signed w32 (cast_unsigned w32 (lines.low +ℤ pos k))) lines.labels formed.1 (sym high.again),
      flat_map (λ label. s4 (offset starts items pc label)) lines.labels,
      targets_are_spelled starts items pc near lines.labels to.1,
      refl,
    )

-- ---- lookupswitch

cases_are_spelled : (starts : List ℕ) (items : List CodeItem) (pc : ℕ) → pc < 65536 → (last : Option ℤ) (matches : List MatchLine) → AllByRecursion (Leads starts items) (map (λ (m : MatchLine). m.label) matches) → IsFormedLookup last matches
    → InOrder (SpellsCase starts pc) (flat_map (λ (m : MatchLine). s4 m.value ++ s4 (offset starts items pc m.label)) matches) (map (switch_case items) matches)
cases_are_spelled starts items pc near last [] to formed = refl
cases_are_spelled starts items pc near last (m ∷ matches) to formed =
    let value = cast_unsigned w32 m.value in
    let bits = cast_unsigned w32 (offset starts items pc m.label) in
    let fits = bits32 m.value formed.0 in (
      u4 value ++ u4 bits,
      flat_map (λ (l : MatchLine). s4 l.value ++ s4 (offset starts items pc l.label)) matches,
      refl,
      (value, fits.below, fits.again, bits, leads_to starts items pc m.label near to.0, refl),
      cases_are_spelled starts items pc near (Some m.value) matches to.1 formed.2,
    )

cases_rise : (items : List CodeItem) (last : Option ℤ) (matches : List MatchLine) → IsFormedLookup last matches → IsRising last (map (switch_case items) matches)
cases_rise items last [] formed = tt
cases_rise items last (m ∷ matches) formed = (formed.1, cases_rise items (Some m.value) matches formed.2)

-- Their bytes spell lookupswitches with less than 2^31 matches.
pub lookup_is_spelled : (starts : List ℕ) (items : List CodeItem) (pc : ℕ) (lines : LookupLines) → pc < 65536 → length lines.matches < 2 ^ 31 → AllByRecursion (Leads starts items) (lines.default ∷ map (λ (m : MatchLine). m.label) lines.matches) → IsFormedLookup None lines.matches
    → SpellsLookup starts pc (lookup_bytes starts items pc lines) (record { default = target items lines.default; cases = map (switch_case items) lines.matches })
unfolding lookup_bytes
lookup_is_spelled starts items pc lines near few to formed =
    let count : length (map (switch_case items) lines.matches) ≡ length lines.matches = length-map lines.matches (switch_case items) in
    let default = cast_unsigned w32 (offset starts items pc lines.default) in
    let rest = flat_map (λ (m : MatchLine). s4 m.value ++ s4 (offset starts items pc m.label)) lines.matches in (
      171,
      refl,
      pads pc,
      pads_size pc,
      default,
      leads_to starts items pc lines.default near to.0,
      omega arith,
      cases_rise items None lines.matches formed,
      rest,
      cases_are_spelled starts items pc near None lines.matches to.1 formed,
      ap (λ (n : ℕ). 171 ∷ pads pc ++ (u4 default ++ (u4 n ++ rest))) (sym count),
    )
