-- Bytes that are read and processed, up to the end of a script.
use Rattle.std.proofs.Common.{◌≢◌, ℕ, List, [], ◌∷◌, ◌++◌, Option, refl, sym, ◌∙◌, subst, append-nil}
use Rattle.std.specs.Io.KnownBytes.{Appends, Consumes, IsAtEnd}
use Rattle.std.proofs.KnownBytes.{Appends-trans, Consumes-trans}
use Rattle.debugger.specs.Sessions.{Debugger}
use Rattle.debugger.specs.States.{Setting}
use Rattle.debugger_script.specs.Answers.{AreAnswers, IsAnswer}
use Rattle.debugger_script.specs.Scripts.{HasRun, IsCutShort, IsWhole, refused}
use Rattle.debugger_script.specs.Taken.{EndsNow, HasAnswered, HasTaken, IsCutWithin, IsLineCut, IsUnderWay}
use Rattle.debugger_script.proofs.Lines.{answers-append, one_answer, rest_is_line}
use Rattle.debugger_script.proofs.Taking.{cut_after, partial_since, taken_both}

pub more_read : (l k j : Option (List ℕ)) (mid bytes rest : List ℕ) (w v u : Option (List ℕ)) (old next new : Debugger) → IsUnderWay l k mid w v old next → Consumes k j bytes → HasTaken mid bytes rest v u next new → IsUnderWay l j rest w u old new
more_read l k j mid bytes rest w v u old next new p read q = record {
  bytes = p.bytes ++ bytes;
  read = Consumes-trans l k j p.bytes bytes p.read read;
  taken = taken_both [] p.bytes mid bytes rest w v u old next new p.taken q;
}

-- ---- Ways to stop

-- A line before an LF is whole.
whole_line : (line more : List ℕ) (left : Option (List ℕ)) → EndsNow more → IsWhole line more left
whole_line line [] left ends = absurd ends
whole_line line (b ∷ more) left ends = ends

pub cut_within : (can : Type 0) (l k j : Option (List ℕ)) (mid bytes : List ℕ) (w v u : Option (List ℕ)) (old next new : Debugger) → IsUnderWay l k mid w v old next → Consumes k j bytes → IsCutWithin can mid bytes v u next new → IsCutShort can l j w u old new
cut_within can l k j mid bytes w v u old next new p read q =
    let c = cut_after can [] p.bytes mid bytes w v u old next new p.taken q in
    record {
      bytes = c.taken;
      more = c.more;
      lines = c.lines;
      line = c.line;
      text = c.text;
      shown = c.shown;
      next = c.next;
      setting = c.setting;
      read = subst (Consumes l j) c.bytes_are (Consumes-trans l k j p.bytes bytes p.read read);
      lines_are = c.lines_are;
      answers = c.answers;
      partial = partial_since can (EndsNow c.more) (IsWhole c.line c.more j) old old c.next c.line c.shown new.session (whole_line c.line c.more j) refl c.partial;
      written_is = c.written_is;
    }

-- The last line was not wholly answered.
pub cut_at_rest : (can : Type 0) (l k : Option (List ℕ)) (rest : List ℕ) (w v u : Option (List ℕ)) (old next new : Debugger) → IsUnderWay l k rest w v old next → IsAtEnd k → rest ≢ [] → IsLineCut can rest v u next new → IsCutShort can l k w u old new
cut_at_rest can l k rest w v u old next new p end some q = record {
  bytes = p.bytes;
  more = [];
  lines = p.taken.lines;
  line = rest;
  text = p.taken.text;
  shown = q.shown;
  next = next.session;
  setting = q.setting ∙ p.taken.setting;
  read = subst (Consumes l k) (sym (append-nil p.bytes)) p.read;
  lines_are = p.taken.lines_are;
  answers = p.taken.answers;
  partial = partial_since can (Unit {0}) (IsWhole rest [] k) old next next.session rest q.shown new.session (λ _. (end, some)) p.taken.setting q.partial;
  written_is = Appends-trans w v u p.taken.text q.shown p.taken.shown q.written_is;
}

-- The last line's command was not executed.
pub cut_before_rest : (l k : Option (List ℕ)) (rest : List ℕ) (w v : Option (List ℕ)) (old new : Debugger) → IsUnderWay l k rest w v old new → IsCutShort (Unit {0}) l k w v old new
cut_before_rest l k rest w v old new p = record {
  bytes = p.bytes;
  more = [];
  lines = p.taken.lines;
  line = rest;
  text = p.taken.text;
  shown = [];
  next = new.session;
  setting = p.taken.setting;
  read = subst (Consumes l k) (sym (append-nil p.bytes)) p.read;
  lines_are = p.taken.lines_are;
  answers = p.taken.answers;
  partial = refused tt refl refl;
  written_is = subst (Appends w v) (sym (append-nil p.taken.text)) p.taken.shown;
}

-- ---- The end

pub run_with_rest : (l k : Option (List ℕ)) (rest : List ℕ) (w v u : Option (List ℕ)) (old next new : Debugger) → IsUnderWay l k rest w v old next → IsAtEnd k → rest ≢ [] → HasAnswered rest v u next new → HasRun l k w u old new
run_with_rest l k rest w v u old next new p end some q =
    let last = one_answer old.setting next.session new.session rest q.text (subst (λ (g : Setting). IsAnswer g next.session rest q.text new.session) p.taken.setting q.answer) in
    let all = answers-append old.setting old.session next.session new.session p.taken.lines (rest ∷ []) p.taken.text q.text p.taken.answers last in
    record {
      bytes = p.bytes;
      lines = p.taken.lines;
      rest = rest;
      text = p.taken.text ++ q.text;
      setting = q.setting ∙ p.taken.setting;
      read = p.read;
      end = end;
      lines_are = p.taken.lines_are;
      answers = subst (λ ls. AreAnswers old.setting old.session ls (p.taken.text ++ q.text) new.session) (sym (rest_is_line p.taken.lines rest some)) all;
      shown = Appends-trans w v u p.taken.text q.text p.taken.shown q.shown;
    }
