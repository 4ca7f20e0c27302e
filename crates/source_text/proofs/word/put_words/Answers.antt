-- There is no word, or the first is followed by the others.
use Rattle.std.proofs.Common.{sym}
use Rattle.std.proofs.lemmas.List.{append-nil}
use Rattle.source_text.proofs.Joined.{no_words, some_words}
use Rattle.source_text.proofs.Appending.{behind}
use Rattle.source_text.proofs.word.put_words.Goals as goal

pub returns-in-empty : goal.returns-in-empty
returns-in-empty c = rw (no_words c.args.words.now c.in-empty.len_below) (sym (append-nil c.args.out.now.items))

pub returns-in_ok-put_word-in-len1-up : goal.returns-in_ok-put_word-in-len1-up
returns-in_ok-put_word-in-len1-up c =
    behind c.put_others.result c.put_others.new.out.items c.put_word.new.out.items c.args.out.now.items _ _ _
    (some_words c.args.words.now _ c.in-len1-up.len_at_least) c.in_ok-put_word-in-len1-up.ensures c.put_others.ensures
