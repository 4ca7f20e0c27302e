-- Texts that are removed from an index.
use Rattle.std.proofs.Common.{◌≡◌, ℕ, Bool, true, false, cond, List, [], ◌∷◌, Some, None, Vec, Global, refl, sym, ap, ◌∙◌}
use Rattle.std.specs.Map.{lookup, remove_entry}
use Rattle.std.specs.Ordering.{is_eq, nat_cmp}
use Rattle.std.specs.Cmp.Lexicographic.{slice_cmp}
use Rattle.std.proofs.lemmas.Map.Text.{is_eq-slice_cmp}
use Rattle.jvms_file.specs.Names.{same_text}
use Rattle.text_index.specs.Lookup.{indexed_reference}
use Rattle.text_index.proofs.IndexLaws.{Entries, seen, found_among, same_turned, same_is}

abbrev pub asks : List ℕ → Vec ℕ Global → Bool
asks units k = is_eq (slice_cmp nat_cmp units k.items)

-- A text that differs from the one that is looked up isn't at its entry.
asked_apart : (units q k : List ℕ) → is_eq (slice_cmp nat_cmp units k) ≡ true → same_text units q ≡ false → is_eq (slice_cmp nat_cmp q k) ≡ false
asked_apart units q k is other =
    let same : units ≡ k = same_is units k (sym (is_eq-slice_cmp units k) ∙ is) in
    is_eq-slice_cmp q k ∙ same_turned q k ∙ ap (λ l. same_text l q) (sym same) ∙ other

module _ (units q : List ℕ) (other : same_text units q ≡ false) where
  kept_by : (b : Bool) (e : Vec ℕ Global × ℕ) (entries : Entries) → asks units e.0 ≡ b → indexed_reference (seen (remove_entry (asks units) entries)) q ≡ indexed_reference (seen entries) q
      → indexed_reference (seen (cond b entries (e ∷ remove_entry (asks units) entries))) q ≡ indexed_reference (seen (e ∷ entries)) q
  kept_by true e entries is more = sym (ap (λ b. cond b (Some e.1) (indexed_reference (seen entries) q)) (asked_apart units q e.0.items is other))
  kept_by false e entries is more = ap (λ o. cond (is_eq (slice_cmp nat_cmp q e.0.items)) (Some e.1) o) more

  -- The other texts are found as before.
  still_found : (entries : Entries) → indexed_reference (seen (remove_entry (asks units) entries)) q ≡ indexed_reference (seen entries) q
  still_found [] = refl
  still_found (e ∷ entries) = kept_by (asks units e.0) e entries refl (still_found entries)

pub found_removed : (old new : Entries) (units : List ℕ) (before : List (List ℕ × ℕ)) → new ≡ remove_entry (asks units) old → lookup (asks units) new ≡ None → seen old ≡ before
    → (q : List ℕ) → indexed_reference (seen new) q ≡ cond (same_text units q) None (indexed_reference before q)
found_removed old new units before removed none was q = by (same_text units q) refl
  where
    by : (b : Bool) → same_text units q ≡ b → indexed_reference (seen new) q ≡ cond b None (indexed_reference before q)
    by true same = ap (indexed_reference (seen new)) (sym (same_is units q same)) ∙ sym (found_among new units) ∙ none
    by false other = ap (λ l. indexed_reference (seen l) q) removed ∙ still_found units q other old ∙ ap (λ l. indexed_reference l q) was
