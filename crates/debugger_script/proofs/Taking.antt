-- Bytes that are processed, one after another.
use Rattle.std.proofs.Common.{◌≡◌, ℕ, List, [], ◌∷◌, ◌++◌, Option, refl, sym, ap, ◌∙◌, subst, append_assoc, take, drop, length, get_or, ◌+◌, ◌<◌, take-append-drop, inl, inr}
use Rattle.std.specs.Io.KnownBytes.{Appends}
use Rattle.std.proofs.lemmas.List.{take_more}
use Rattle.std.proofs.KnownBytes.{Appends-nil, Appends-trans}
use Rattle.trace.specs.Bytes.{AppendsBeginning}
use Rattle.debugger_commands.specs.Sessions.{Session}
use Rattle.debugger.specs.Sessions.{Debugger}
use Rattle.debugger.specs.States.{Setting}
use Rattle.debugger_script.specs.Answers.{AreAnswers, IsAnswer}
use Rattle.debugger_script.specs.Carried.{IsLineUnanswered}
use Rattle.debugger_script.specs.Scripts.{HasNoEnd, IsPartial, refused, begun}
use Rattle.debugger_script.specs.Taken.{EndsNow, HasAnswered, HasTaken, IsCutWithin, IsLineCut}
use Rattle.debugger_script.proofs.Lines.{answers-append, lines-append, no_answers, no_lines, one_answer, one_line}

-- ---- One line

-- Memory ran out for the answer.
pub unanswered : (line : List ℕ) (w : Option (List ℕ)) (old new : Debugger) → new.setting ≡ old.setting → IsLineUnanswered old line new → IsLineCut (Unit {0}) line w w old new
unanswered line w old new setting (inl same) = record {
  shown = [];
  setting = setting;
  partial = refused tt (ap (λ (d : Debugger). d.session) same) refl;
  written_is = Appends-nil w;
}
unanswered line w old new setting (inr text_is) = record {
  shown = [];
  setting = setting;
  partial = begun tt text_is.0 0 text_is.1 refl;
  written_is = Appends-nil w;
}

-- A prefix of the answer was written.
pub unwritten : (line text : List ℕ) (w v : Option (List ℕ)) (old new : Debugger) → new.setting ≡ old.setting → IsAnswer old.setting old.session line text new.session → AppendsBeginning w v text → IsLineCut ⊥ line w v old new
unwritten line text w v old new setting answer written = record {
  shown = take written.0 text;
  setting = setting;
  partial = begun tt text written.0 answer refl;
  written_is = written.1;
}

-- ---- Processed bytes

pub taken_none : (start : List ℕ) (w : Option (List ℕ)) (d : Debugger) → HasNoEnd start → HasTaken start [] start w w d d
taken_none start w d is_open = record {
  lines = [];
  text = [];
  setting = refl;
  lines_are = no_lines start is_open;
  answers = no_answers d.setting d.session;
  shown = Appends-nil w;
}

pub taken_line : (start : List ℕ) (w v : Option (List ℕ)) (old new : Debugger) → HasNoEnd start → HasAnswered start w v old new → HasTaken start (10 ∷ []) [] w v old new
taken_line start w v old new is_open did = record {
  lines = start ∷ [];
  text = did.text;
  setting = did.setting;
  lines_are = one_line start is_open;
  answers = one_answer old.setting old.session new.session start did.text did.answer;
  shown = did.shown;
}

-- Some bytes were processed, and then more.
pub taken_both : (start a mid b rest : List ℕ) (w v u : Option (List ℕ)) (old next new : Debugger) → HasTaken start a mid w v old next → HasTaken mid b rest v u next new → HasTaken start (a ++ b) rest w u old new
taken_both start a mid b rest w v u old next new p q = record {
  lines = p.lines ++ q.lines;
  text = p.text ++ q.text;
  setting = q.setting ∙ p.setting;
  lines_are = lines-append start a b mid rest p.lines q.lines p.lines_are q.lines_are;
  answers = answers-append old.setting old.session next.session new.session p.lines q.lines p.text q.text p.answers (subst (λ (g : Setting). AreAnswers g next.session q.lines q.text new.session) p.setting q.answers);
  shown = Appends-trans w v u p.text q.text p.shown q.shown;
}

-- ---- A line that was not wholly answered

-- Only the setting of the session matters.
pub partial_since : (can whole later : Type 0) (old next : Debugger) (x : Session) (line shown : List ℕ) (new : Session) → (whole → later) → next.setting ≡ old.setting → IsPartial can whole next x line shown new → IsPartial can later old x line shown new
partial_since can whole later old next x line shown new f setting (refused may same none) = refused may same none
partial_since can whole later old next x line shown new f setting (begun is_whole text n answer is) = begun (f is_whole) text n (subst (λ (g : Setting). IsAnswer g x line text new) setting answer) is

-- Memory ran out for a byte of the line.
pub cut_at_byte : (start : List ℕ) (b : ℕ) (w : Option (List ℕ)) (d : Debugger) → HasNoEnd start → IsCutWithin (Unit {0}) start (b ∷ []) w w d d
cut_at_byte start b w d is_open = record {
  taken = [];
  more = b ∷ [];
  lines = [];
  line = start;
  text = [];
  shown = [];
  next = d.session;
  setting = refl;
  bytes_are = refl;
  lines_are = no_lines start is_open;
  answers = no_answers d.setting d.session;
  partial = refused tt refl refl;
  written_is = Appends-nil w;
}

pub cut_at_line : (can : Type 0) (start : List ℕ) (b : ℕ) (w v : Option (List ℕ)) (old new : Debugger) → HasNoEnd start → b ≡ 10 → IsLineCut can start w v old new → IsCutWithin can start (b ∷ []) w v old new
cut_at_line can start b w v old new is_open ends did = record {
  taken = [];
  more = b ∷ [];
  lines = [];
  line = start;
  text = [];
  shown = did.shown;
  next = old.session;
  setting = did.setting;
  bytes_are = refl;
  lines_are = no_lines start is_open;
  answers = no_answers old.setting old.session;
  partial = partial_since can (Unit {0}) (b ≡ 10) old old old.session start did.shown new.session (λ _. ends) refl did.partial;
  written_is = did.written_is;
}

-- Some bytes were processed, and a line was cut within those that follow.
pub cut_after : (can : Type 0) (start a mid b : List ℕ) (w v u : Option (List ℕ)) (old next new : Debugger) → HasTaken start a mid w v old next → IsCutWithin can mid b v u next new → IsCutWithin can start (a ++ b) w u old new
cut_after can start a mid b w v u old next new p q = record {
  taken = a ++ q.taken;
  more = q.more;
  lines = p.lines ++ q.lines;
  line = q.line;
  text = p.text ++ q.text;
  shown = q.shown;
  next = q.next;
  setting = q.setting ∙ p.setting;
  bytes_are = ap (λ l. a ++ l) q.bytes_are ∙ sym (append_assoc a q.taken q.more);
  lines_are = lines-append start a q.taken mid q.line p.lines q.lines p.lines_are q.lines_are;
  answers = answers-append old.setting old.session next.session q.next p.lines q.lines p.text q.text p.answers (subst (λ (g : Setting). AreAnswers g next.session q.lines q.text q.next) p.setting q.answers);
  partial = partial_since can (EndsNow q.more) (EndsNow q.more) old next q.next q.line q.shown new.session (λ is. is) p.setting q.partial;
  written_is = subst (Appends w u) (sym (append_assoc p.text q.text q.shown)) (Appends-trans w v u p.text (q.text ++ q.shown) p.shown q.written_is);
}

-- Bytes that begin with an LF still do if more bytes follow.
ends_before : (bytes more : List ℕ) → EndsNow bytes → EndsNow (bytes ++ more)
ends_before [] more ends = absurd ends
ends_before (b ∷ bytes) more ends = ends

-- More bytes follow.
pub cut_before : (can : Type 0) (start a more : List ℕ) (w v : Option (List ℕ)) (old new : Debugger) → IsCutWithin can start a w v old new → IsCutWithin can start (a ++ more) w v old new
cut_before can start a more w v old new p = record {
  taken = p.taken;
  more = p.more ++ more;
  lines = p.lines;
  line = p.line;
  text = p.text;
  shown = p.shown;
  next = p.next;
  setting = p.setting;
  bytes_are = ap (λ l. l ++ more) p.bytes_are ∙ append_assoc p.taken p.more more;
  lines_are = p.lines_are;
  answers = p.answers;
  partial = partial_since can (EndsNow p.more) (EndsNow (p.more ++ more)) old old p.next p.line p.shown new.session (ends_before p.more more) refl p.partial;
  written_is = p.written_is;
}

-- ---- One of many bytes

pub taken_next : (start bytes mid rest : List ℕ) (i : ℕ) (w v u : Option (List ℕ)) (old next new : Debugger) → i < length bytes → HasTaken start (take i bytes) mid w v old next → HasTaken mid (get_or bytes i 0 ∷ []) rest v u next new → HasTaken start (take (i + 1) bytes) rest w u old new
taken_next start bytes mid rest i w v u old next new within p q =
    subst (λ (bs : List ℕ). HasTaken start bs rest w u old new) (sym (take_more bytes i 0 within)) (taken_both start (take i bytes) mid (get_or bytes i 0 ∷ []) rest w v u old next new p q)

pub cut_at_next : (can : Type 0) (start bytes mid : List ℕ) (i : ℕ) (w v u : Option (List ℕ)) (old next new : Debugger) → i < length bytes → HasTaken start (take i bytes) mid w v old next → IsCutWithin can mid (get_or bytes i 0 ∷ []) v u next new → IsCutWithin can start bytes w u old new
cut_at_next can start bytes mid i w v u old next new within p q =
    let cut = cut_after can start (take i bytes) mid (get_or bytes i 0 ∷ []) w v u old next new p q in
    let all : (take i bytes ++ get_or bytes i 0 ∷ []) ++ drop (i + 1) bytes ≡ bytes =
    ap (λ bs. bs ++ drop (i + 1) bytes) (sym (take_more bytes i 0 within)) ∙ take-append-drop (i + 1) bytes in
    subst (λ (bs : List ℕ). IsCutWithin can start bs w u old new) all (cut_before can start (take i bytes ++ get_or bytes i 0 ∷ []) (drop (i + 1) bytes) w u old new cut)
