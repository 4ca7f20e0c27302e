use Rattle.std.proofs.Common.{◌≡◌, ◌+◌, [], ◌∷◌, ◌++◌, Some, take, length, ap, sym, ◌∙◌, refl, arith, rules}
use Rattle.std.proofs.lemmas.List.{map-append, take_more, length-take-le, length-map}
use Rattle.std.proofs.lemmas.Option.{slice_get_read}
use Rattle.std.specs.Option.{unwrap_or}
use Rattle.std.specs.Prelude.{slice_get}
use Rattle.const_pool.specs.Firsts.{number_at}
use Rattle.const_pool.specs.Texts.{text_of, text_with, first_number, known_after}
use Rattle.const_pool.proofs.FirstNumbers.{first_more, placed_text}
use Rattle.const_pool.proofs.scanned.texts_of.Goals as goal

pub loop-entry-preserved : goal.loop-entry-preserved
loop-entry-preserved c =
    let pool = c.args.entries.now in
    let i = c.loop-entry.entry-index in
    let e = c.entry-item.result in
    let here : slice_get pool i ≡ Some e = slice_get_read pool (length pool) i e refl c.loop-entry-test.true c.entry-item.is in
    let more : take (i + 1) pool ≡ take i pool ++ e ∷ [] = search (rules, take_more) in
    let front : length (take i pool) ≡ i = search (rules, length-take-le) in
    let done : length c.loop-entry.texts.items ≡ i = ap length c.loop-entry.invariant.done ∙ length-map (take i pool) (text_of pool) ∙ front in
    let count : c.len.result ≡ length c.loop-entry.texts.items = search rules in
    let number : c.len.result + 1 ≡ i + 1 = omega arith in
    let next : c.len.result + 1 ≡ 1 + length (take i pool) = omega arith in
    let text : c.in_ok-text.text ≡ text_of pool e =
    c.in_ok-text.ensures.exact ∙ ap (λ n. text_with (λ t. unwrap_or (number_at c.loop-entry.firsts t) n) e) number
    ∙ placed_text pool i e (number_at c.loop-entry.firsts) here c.loop-entry.invariant.known in
    record {
      done = c.in_ok-push.ensures.items ∙ rw (c.loop-entry.invariant.done, text, more) (sym (map-append (text_of pool) (take i pool) (e ∷ [])));
      known = λ t. c.in_ok-text.ensures.kept t ∙ ap (λ r. known_after r (c.len.result + 1) t e) (c.loop-entry.invariant.known t) ∙ ap (λ n. known_after (first_number (take i pool) t) n t e) next
          ∙ sym (first_more 1 (take i pool) e t) ∙ ap (λ cs. first_number cs t) (sym more);
    }
