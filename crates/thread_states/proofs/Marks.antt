-- Methods that are marked by the specification agree with it.
use Rattle.std.proofs.Common.{◌≡◌, ℕ, Bool, true, false, cond, ◌||◌, List, [], ◌∷◌, drop, Some, refl, ap, subst, ◌∙◌}
use Rattle.std.specs.Map.{lookup, set_value}
use Rattle.std.specs.BTreeMap.{insert_entry}
use Rattle.std.specs.Ordering.{match_ordering}
use Rattle.std.specs.declared.cmp.Ordering.{Ordering}
use Rattle.std.specs.declared.cmp.Ordering.TheVariants.{Less, Equal, Greater}
use Rattle.velodrome.specs.Specification.{Specification, is_atomic}
use Rattle.velodrome.specs.Transactions.{has_atomic}
use Rattle.thread_states.specs.declared.open.OpenMethod.{OpenMethod}
use Rattle.thread_states.specs.Open.{Open, any_atomic, keys_of}
use Rattle.thread_states.specs.Seen.{IsMarked, AreMarked}

pub any_is : (lines : Specification) (methods : List OpenMethod) → IsMarked lines methods → any_atomic methods ≡ has_atomic lines (keys_of methods)
any_is lines [] marked = refl
any_is lines (o ∷ methods) marked =
    ap (λ b. b || any_atomic methods) marked.0 ∙ ap (λ b. is_atomic lines o.method || b) (any_is lines methods marked.1)

pub any_left_is : (lines : Specification) (methods : List OpenMethod) → IsMarked lines methods
    → any_atomic (drop 1 methods) ≡ has_atomic lines (drop 1 (keys_of methods))
any_left_is lines [] marked = refl
any_left_is lines (o ∷ methods) marked = any_is lines methods marked.1

pub left_marked : (lines : Specification) (methods : List OpenMethod) → IsMarked lines methods → IsMarked lines (drop 1 methods)
left_marked lines [] marked = tt
left_marked lines (o ∷ methods) marked = marked.1

-- ---- Of all threads

found_at : (b : Bool) (lines : Specification) (test : ℕ → Bool) (e : ℕ × Open) (threads : List (ℕ × Open)) (o : Open) → AreMarked lines (e ∷ threads)
    → (Some o ≡ lookup test threads → IsMarked lines o.methods) → Some o ≡ cond b (Some e.1) (lookup test threads) → IsMarked lines o.methods
found_at true lines test e threads o all more found =
    let same : e.1 ≡ o = cc in subst (λ (p : Open). IsMarked lines p.methods) same all.0
found_at false lines test e threads o all more found = more found

pub found_marked : (lines : Specification) (test : ℕ → Bool) (threads : List (ℕ × Open)) (o : Open) → AreMarked lines threads
    → Some o ≡ lookup test threads → IsMarked lines o.methods
found_marked lines test [] o all found = cc
found_marked lines test (e ∷ threads) o all found = found_at (test e.0) lines test e threads o all (found_marked lines test threads o all.1) found

written_at : (b : Bool) (lines : Specification) (e : ℕ × Open) (threads left : List (ℕ × Open)) (o : Open) → IsMarked lines o.methods
    → AreMarked lines (e ∷ threads) → AreMarked lines left → AreMarked lines (cond b ((e.0, o) ∷ threads) (e ∷ left))
written_at true lines e threads left o marked all more = (marked, all.1)
written_at false lines e threads left o marked all more = (all.0, more)

pub written_marked : (lines : Specification) (test : ℕ → Bool) (threads : List (ℕ × Open)) (o : Open) → IsMarked lines o.methods
    → AreMarked lines threads → AreMarked lines (set_value test threads o)
written_marked lines test [] o marked all = tt
written_marked lines test (e ∷ threads) o marked all =
    written_at (test e.0) lines e threads (set_value test threads o) o marked all (written_marked lines test threads o marked all.1)

chosen : (ord : Ordering) (lines : Specification) (before here behind : List (ℕ × Open)) → AreMarked lines before → AreMarked lines here
    → AreMarked lines behind → AreMarked lines (match_ordering ord before here behind)
chosen Less lines before here behind p q r = p
chosen Equal lines before here behind p q r = q
chosen Greater lines before here behind p q r = r

pub inserted_marked : (cmp : ℕ → ℕ → Ordering) (lines : Specification) (threads : List (ℕ × Open)) (t : ℕ) (o : Open) → IsMarked lines o.methods
    → AreMarked lines threads → AreMarked lines (insert_entry cmp threads t o)
inserted_marked cmp lines [] t o marked all = (marked, tt)
inserted_marked cmp lines (e ∷ threads) t o marked all =
    chosen (cmp t e.0) lines ((t, o) ∷ e ∷ threads) ((e.0, o) ∷ threads) (e ∷ insert_entry cmp threads t o) (marked, all) (marked, all.1)
    (all.0, inserted_marked cmp lines threads t o marked all.1)
