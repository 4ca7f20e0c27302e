-- Proves how a set of members changes with one more.
use Rattle.std.proofs.Common.{◌≡◌, ℕ, Bool, true, false, cond, ◌&&◌, ◌||◌, List, Ordering, refl, sym, ap, ◌∙◌}
use Rattle.std.specs.BTreeSet as sorted
use Rattle.std.specs.Cmp.Lexicographic.{slice_cmp, texts_ties, nat_list_eq_equiv}
use Rattle.std.specs.Ordering.{nat_cmp, ordering_then, is_eq}
use Rattle.std.specs.declared.cmp.Ordering.TheVariants.{Less, Equal, Greater}
use Rattle.jvms_file.specs.Names.{same_text}
use Rattle.jasmin_reader.specs.declared.member.Member.{Member}
use Rattle.jasmin_reader.specs.declared.members.Members.{Members}
use Rattle.jasmin_reader.specs.Members.{member_cmp, has_member}

both_equal : (o p : Ordering) → is_eq (ordering_then o p) ≡ (is_eq o && is_eq p)
both_equal Less p = refl
both_equal Equal p = refl
both_equal Greater p = refl

texts_equal : (a b : List ℕ) → is_eq (slice_cmp nat_cmp a b) ≡ same_text b a
texts_equal a b = sym (texts_ties a b) ∙ nat_list_eq_equiv.symm a b

abbrev member : List ℕ → List ℕ → Member
member name descriptor = record { name = name; descriptor = descriptor }

members_equal : (a b m d : List ℕ) → is_eq (member_cmp (member a b) (member m d)) ≡ (same_text m a && same_text d b)
members_equal a b m d =
    both_equal (slice_cmp nat_cmp a m) (slice_cmp nat_cmp b d) ∙ rw (texts_equal a m, texts_equal b d) refl

cond-or : (a b : Bool) → cond a true b ≡ (a || b)
cond-or true b = refl
cond-or false b = refl

pub member_put : (old new : Members) (k : Member) (a b : List ℕ) → k ≡ member a b → ((q : Member) → sorted.contains member_cmp new.pairs q ≡ cond (is_eq (member_cmp k q)) true (sorted.contains member_cmp old.pairs q)) → (m d : List ℕ) → has_member new m d ≡ ((same_text m a && same_text d b) || has_member old m d)
member_put old new k a b is updates m d =
    updates (member m d) ∙ ap (λ (x : Member). cond (is_eq (member_cmp x (member m d))) true (has_member old m d)) is
    ∙ rw (members_equal a b m d) (cond-or (same_text m a && same_text d b) (has_member old m d))
