-- The lines of a specification, and the texts that are none.
use Rattle.std.proofs.Common.{◌≡◌, ◌≢◌, ℕ, Bool, true, false, List, [], ◌∷◌, ◌++◌, refl, sym, ap, ◌∙◌}
use Rattle.escapes.specs.Cuts.{has}
use Rattle.escapes.proofs.Cutting.{one_cut, no_first}
use Rattle.velodrome.specs.declared.specification.Pattern.{Pattern}
use Rattle.velodrome.specs.declared.specification.SpecificationLine.{SpecificationLine}
use Rattle.atom_spec.specs.Lines.{IsPattern, IsLine, pattern_text, word_text, line_text}
use Rattle.atom_spec.specs.Parts.{IsWord}

pub word_clear : (b : Bool) → has 32 (word_text b) ≡ false
word_clear true = refl
word_clear false = refl

-- The first space cuts a line's text into its word and its pattern.
pub cut_line : (text word rest : List ℕ) (l : SpecificationLine) → text ≡ word ++ 32 ∷ rest → has 32 word ≡ false → text ≡ line_text l → (word ≡ word_text l.is_atomic) × (rest ≡ pattern_text l.pattern)
cut_line text word rest l split clear e =
    one_cut 32 word rest (word_text l.is_atomic) (pattern_text l.pattern) clear (word_clear l.is_atomic) (sym split ∙ e)

pub no_space : (text : List ℕ) → has 32 text ≡ false → (l : SpecificationLine) → IsLine l → text ≢ line_text l
no_space text none l is e = no_first 32 text (word_text l.is_atomic) (pattern_text l.pattern) none e

pub no_word : (text word rest : List ℕ) → text ≡ word ++ 32 ∷ rest → has 32 word ≡ false → ((b : Bool) → IsWord b → word ≢ word_text b) → (l : SpecificationLine) → IsLine l → text ≢ line_text l
no_word text word rest split clear none l is e = none l.is_atomic tt (cut_line text word rest l split clear e).0

pub no_pattern : (text word rest : List ℕ) → text ≡ word ++ 32 ∷ rest → has 32 word ≡ false → ((p : Pattern) → IsPattern p → rest ≢ pattern_text p) → (l : SpecificationLine) → IsLine l → text ≢ line_text l
no_pattern text word rest split clear none l is e = none l.pattern is (cut_line text word rest l split clear e).1
