-- Consecutive parts, and one more.
use Rattle.std.proofs.Common.{◌≡◌, ℕ, zero, suc, ◌+◌, ◌<◌, inl, inr, List, [], ◌∷◌, ◌++◌, length, take, get_or, refl, sym, ap, ◌∙◌, subst, arith, append-nil}
use Rattle.std.specs.List.{flat_map}
use Rattle.std.specs.Prelude.{slice_index_or}
use Rattle.std.proofs.lemmas.Grind.{flat_map-append}
use Rattle.std.proofs.lemmas.List.{length-append, take_more}
use Rattle.velodrome.specs.Cycles.{IsIn}
use Rattle.campaign_jobs.specs.declared.result.JobResult.{JobResult}
use Rattle.campaign_text.specs.declared.part.Part.{Part}
use Rattle.campaign_text.specs.Joined.{AreChained, AreConsecutive, count_of, results_of}

-- The element at a place of a list is in the list.
pub index_in : (parts : List Part) (i : ℕ) (part d : Part) → i < length parts → part ≡ slice_index_or parts i d → IsIn part parts
index_in [] i part d within is = absurd (omega (arith, within))
index_in (p ∷ parts) zero part d within is = inl is
index_in (p ∷ parts) (suc i) part d within is = inr (index_in parts i part d (omega (arith, within)) is)

consecutive_more : (first : ℕ) (chain : List Part) (p : Part) → AreConsecutive first chain → p.first ≡ first + length (flat_map results_of chain) → AreConsecutive first (chain ++ p ∷ [])
consecutive_more first [] p are next = (omega (arith, next), tt)
consecutive_more first (q ∷ chain) p are next =
    let count : length (flat_map results_of (q ∷ chain)) ≡ length (results_of q) + length (flat_map results_of chain) = length-append (results_of q) (flat_map results_of chain) in
    (are.0, consecutive_more (first + length (results_of q)) chain p are.1 (omega (arith, next, count)))

among_more : (parts chain : List Part) (p : Part) → ((q : Part) → IsIn q chain → IsIn q parts) → IsIn p parts → (q : Part) → IsIn q (chain ++ p ∷ []) → IsIn q parts
among_more parts [] p among is q (inl same) = subst (λ x. IsIn x parts) (sym same) is
among_more parts [] p among is q (inr none) = absurd none
among_more parts (c ∷ chain) p among is q (inl same) = among q (inl same)
among_more parts (c ∷ chain) p among is q (inr more) = among_more parts chain p (λ x h. among x (inr h)) is q more

pub none_chained : (parts : List Part) (results : List JobResult) → results ≡ [] → AreChained parts results
none_chained parts results none = record { chain = []; among = λ p h. absurd h; consecutive = tt; are = none }

pub one_more : (parts : List Part) (results longer : List JobResult) (p : Part) → AreChained parts results → IsIn p parts → p.first ≡ length results → longer ≡ results ++ results_of p → AreChained parts longer
one_more parts results longer p so is next longer_is =
    let count : length results ≡ length (flat_map results_of so.chain) = ap length so.are in
    let first : p.first ≡ 0 + length (flat_map results_of so.chain) = omega (arith, next, count) in
    record {
      chain = so.chain ++ p ∷ [];
      among = among_more parts so.chain p so.among is;
      consecutive = consecutive_more 0 so.chain p so.consecutive first;
      are =
          longer_is ∙ ap (λ l. l ++ results_of p) so.are
          ∙ sym (flat_map-append results_of so.chain (p ∷ []) ∙ ap (λ l. flat_map results_of so.chain ++ l) (append-nil (results_of p)));
    }

count_append : (xs ys : List Part) → count_of (xs ++ ys) ≡ count_of xs + count_of ys
count_append [] ys = omega arith
count_append (x ∷ xs) ys = let rest = count_append xs ys in omega (arith, rest)

pub count_more : (parts : List Part) (k : ℕ) (p : Part) → k < length parts → p ≡ get_or parts k p → count_of (take (k + 1) parts) ≡ count_of (take k parts) + length (results_of p)
count_more parts k p within here =
    let one : count_of (p ∷ []) ≡ length (results_of p) = omega arith in
    ap count_of (take_more parts k p within ∙ ap (λ x. take k parts ++ x ∷ []) (sym here)) ∙ count_append (take k parts) (p ∷ []) ∙ ap (λ n. count_of (take k parts) + n) one
