-- The next hit and the nearest one before, found position by position.
use Rattle.std.proofs.Common.{◌≡◌, ℕ, zero, suc, ◌+◌, ◌-◌, ◌<◌, ◌&&◌, ◌||◌, Bool, true, false, not, List, [], ◌∷◌, Option, Some, None, is_some, length, ◌==◌, slice_get, cond, refl, ap, sym, ◌∙◌, arith, add-one}
use Rattle.std.proofs.lemmas.Bool.{eqb-true}
use Rattle.std.specs.List.{list_any}
use Rattle.std.specs.Option.{IfSome, option_and_then}
use Rattle.jvms_machine.specs.State.{Frame, Thread, State}
use Rattle.debugger_commands.specs.declared.breakpoint.Breakpoint.{Breakpoint}
use Rattle.debugger_commands.specs.Sessions.{Session, is_frame_at, is_hit, is_hit_by, is_thread_at, next_hit, hit_before, state_after}
use Rattle.debugger.specs.Hits.{hits}
use Rattle.debugger.specs.States.{Setting}

next_hit_more : (test : ℕ → Bool) (n many : ℕ) → n < many → next_hit test n (many - n) ≡ cond (test (n + 1)) (n + 1) (next_hit test (n + 1) (many - (n + 1)))
unfolding next_hit
next_hit_more test n many h =
    let left : many - n ≡ suc (many - (n + 1)) = omega arith in
    ap (next_hit test n) left

pub next_hit_here : (test : ℕ → Bool) (n many : ℕ) → n < many → test (n + 1) ≡ true → next_hit test n (many - n) ≡ n + 1
next_hit_here test n many h is = next_hit_more test n many h ∙ ap (λ b. cond b (n + 1) (next_hit test (n + 1) (many - (n + 1)))) is

pub next_hit_later : (test : ℕ → Bool) (n many : ℕ) → n < many → test (n + 1) ≡ false → next_hit test n (many - n) ≡ next_hit test (n + 1) (many - (n + 1))
next_hit_later test n many h is = next_hit_more test n many h ∙ ap (λ b. cond b (n + 1) (next_hit test (n + 1) (many - (n + 1)))) is

pub next_hit_none : (test : ℕ → Bool) (n : ℕ) → next_hit test n (n - n) ≡ n
unfolding next_hit
next_hit_none test n =
    let none : n - n ≡ 0 = omega arith in
    ap (next_hit test n) none

pub hit_before_none : (test : ℕ → Bool) → hit_before test 0 ≡ 0
unfolding hit_before
hit_before_none test = refl

hit_before_more : (test : ℕ → Bool) (n : ℕ) → hit_before test (n + 1) ≡ cond (test n) n (hit_before test n)
unfolding hit_before
hit_before_more test n = ap (hit_before test) (add-one n)

pub hit_before_here : (test : ℕ → Bool) (n : ℕ) → test n ≡ true → hit_before test (n + 1) ≡ n
hit_before_here test n is = hit_before_more test n ∙ ap (λ b. cond b n (hit_before test n)) is

pub hit_before_earlier : (test : ℕ → Bool) (n : ℕ) → test n ≡ false → hit_before test (n + 1) ≡ hit_before test n
hit_before_earlier test n is = hit_before_more test n ∙ ap (λ b. cond b n (hit_before test n)) is

-- ---- Without a hit

pub next_hit_never : (test : ℕ → Bool) (p left : ℕ) → ((n : ℕ) → test n ≡ false) → next_hit test p left ≡ p + left
unfolding next_hit
next_hit_never test p zero never = omega arith
next_hit_never test p (suc left) never =
    ap (λ b. cond b (p + 1) (next_hit test (p + 1) left)) (never (p + 1)) ∙ next_hit_never test (p + 1) left never ∙ omega arith

pub hit_before_never : (test : ℕ → Bool) (p : ℕ) → ((n : ℕ) → test n ≡ false) → hit_before test p ≡ 0
unfolding hit_before
hit_before_never test zero never = refl
hit_before_never test (suc p) never = ap (λ b. cond b p (hit_before test p)) (never p) ∙ hit_before_never test p never

both_false : (b : Bool) → b && false ≡ false
both_false true = refl
both_false false = refl

none_at : (thread : Option Thread) → is_thread_at [] thread ≡ false
none_at None = refl
none_at (Some thread) = both_false (not (is_some thread.pending))

none_by : (s : State) (t : Option ℕ) → is_hit_by [] s t ≡ false
none_by s None = refl
none_by s (Some t) = none_at (slice_get s.threads t)

empty : (breakpoints : List Breakpoint) → true ≡ (length breakpoints == 0) → breakpoints ≡ []
empty [] none = refl
empty (b ∷ bs) none =
    let is : length (b ∷ bs) ≡ 0 = eqb-true (length (b ∷ bs)) 0 (sym none) in
    let no : ⊥ = omega arith in
    absurd no

-- Without a breakpoint there is no hit.
pub no_hits : (g : Setting) (choices : List ℕ) (breakpoints : List Breakpoint) (n : ℕ) → true ≡ (length breakpoints == 0) → hits g choices breakpoints n ≡ false
unfolding is_hit
no_hits g choices breakpoints n none = ap (λ bs. hits g choices bs n) (empty breakpoints none) ∙ none_by (state_after g.program g.limits g.start choices n) (slice_get choices n)

-- The hits of a session are those of its choices and breakpoints.
pub same_hits : (g : Setting) (x : Session) → hits g x.choices x.breakpoints ≡ is_hit g.program g.limits g.start x
unfolding is_hit
same_hits g x = refl

-- A frame that is no call is at no breakpoint.
pub none_at_any : (breakpoints : List Breakpoint) (at : Breakpoint → Bool) → ((b : Breakpoint) → at b ≡ false) → list_any at breakpoints ≡ false
none_at_any [] at none = refl
none_at_any (b ∷ bs) at none = ap (λ x. x || list_any at bs) (none b) ∙ none_at_any bs at none

at_none_by : (breakpoints : List Breakpoint) (thread : Thread) (f : Option Frame) → slice_get thread.frames 0 ≡ f → ((b : Breakpoint) → is_frame_at f b ≡ false) → is_thread_at breakpoints (Some thread) ≡ false
at_none_by breakpoints thread f is none =
    ap (λ x. not (is_some thread.pending) && list_any (is_frame_at x) breakpoints) is ∙ ap (λ b. not (is_some thread.pending) && b) (none_at_any breakpoints (is_frame_at f) none) ∙ both_false (not (is_some thread.pending))

-- A thread with such a frame on top, or with none, is at no breakpoint.
pub at_none : (breakpoints : List Breakpoint) (thread : Option Thread) (f : Option Frame) → option_and_then (λ x. slice_get x.frames 0) thread ≡ f → ((b : Breakpoint) → is_frame_at f b ≡ false) → is_thread_at breakpoints thread ≡ false
at_none breakpoints None f is none = refl
at_none breakpoints (Some thread) f is none = at_none_by breakpoints thread f is none

-- Whether a position is a hit depends on the thread of the next choice.
pub hit_of_choice : (g : Setting) (choices : List ℕ) (breakpoints : List Breakpoint) (n : ℕ) (t : Option ℕ) → slice_get choices n ≡ t → hits g choices breakpoints n ≡ is_hit_by breakpoints (state_after g.program g.limits g.start choices n) t
unfolding is_hit
hit_of_choice g choices breakpoints n t is = ap (is_hit_by breakpoints (state_after g.program g.limits g.start choices n)) is

-- A hit before a position is before every later position.
pub within_more : (h : Option ℕ) (n : ℕ) → IfSome h (λ p. p < n) → IfSome h (λ p. p < n + 1)
within_more None n within = tt
within_more (Some p) n within = omega (arith, within)
