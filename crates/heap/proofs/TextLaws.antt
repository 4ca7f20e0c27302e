-- Strings that are created together, or removed again.
use Rattle.std.proofs.Common.{◌≡◌, ℕ, ◌+◌, ◌-◌, ◌<◌, ◌≤◌, ◌^◌, List, [], ◌∷◌, ◌++◌, length, take, map, get_or, slice_get, Some, sym, ap, ◌∙◌, append_assoc, arith}
use Rattle.std.proofs.lemmas.List.{length-append, length-map, length-take, map-append, append-nil}
use Rattle.std.proofs.lemmas.Option.{slice_get-get_or}
use Rattle.jvms_machine.specs.State.{text}
use Rattle.heap.specs.Objects.{Heap, with_new}
use Rattle.heap.proofs.Ends.{some_at, take_more, take_whole}

-- Strings are created one after another.
one_by_one : (before : Heap) (texts : List (List ℕ)) (i : ℕ) (units : List ℕ) → slice_get texts i ≡ Some units
    → with_new (map text (take (i + 1) texts)) before ≡ with_new (text units ∷ []) (with_new (map text (take i texts)) before)
one_by_one before texts i units is =
    let objects : before.objects ++ map text (take (i + 1) texts) ≡ before.objects ++ map text (take i texts) ++ text units ∷ [] =
    ap (λ l. before.objects ++ map text l) (take_more texts i units is) ∙ ap (λ l. before.objects ++ l) (map-append text (take i texts) (units ∷ []))
    ∙ sym (append_assoc before.objects (map text (take i texts)) (text units ∷ [])) in
    ap (λ l. record before { objects = l }) objects

no_new : (before : Heap) → with_new [] before ≡ before
no_new before = ap (λ l. record before { objects = l }) (append-nil before.objects)

-- ---- Removed again

-- A number of the last strings of a heap are left.
pub record AreLeft (heap now : Heap) (left count : ℕ) : Type 0 where
  pub within : left ≤ count
  pub show : (before : Heap) (texts : List (List ℕ)) → length texts ≡ count → heap ≡ with_new (map text texts) before → now ≡ with_new (map text (take left texts)) before

pub all_left : (heap : Heap) (count : ℕ) → AreLeft heap heap count count
all_left heap count =
    record {
      within = omega arith;
      show = λ before texts many is. is ∙ ap (λ l. with_new (map text l) before) (sym (take_whole texts count (omega (arith, many))));
    }

pub one_less_left : (heap now after : Heap) (left less count : ℕ) → AreLeft heap now left count → 0 < left → less ≡ left - 1
    → ((before : Heap) (units : List ℕ) → now ≡ with_new (text units ∷ []) before → after ≡ before) → AreLeft heap after less count
one_less_left heap now after left less count are some is removes =
    record {
      within = let most = are.within in omega (arith, most, some, is);
      show = λ before texts many ends.
          let most = are.within in
          let last = some_at texts less (omega (arith, most, some, is, many)) in
          let same : left ≡ less + 1 = omega (arith, some, is) in
          removes (with_new (map text (take less texts)) before) last.0
          (are.show before texts many ends ∙ ap (λ n. with_new (map text (take n texts)) before) same ∙ one_by_one before texts less last.0 last.1);
    }

pub none_left : (heap now : Heap) (left count : ℕ) → AreLeft heap now left count → left ≡ 0
    → (before : Heap) (texts : List (List ℕ)) → length texts ≡ count → heap ≡ with_new (map text texts) before → now ≡ before
none_left heap now left count are none before texts many ends = are.show before texts many ends ∙ ap (λ n. with_new (map text (take n texts)) before) none ∙ no_new before

-- ---- Created together

-- The first i strings are created.
pub record AreMade (heap now : Heap) (texts : List (List ℕ)) (i : ℕ) : Type 0 where
  pub within : i ≤ length texts
  pub show : now ≡ with_new (map text (take i texts)) heap

pub none_made : (heap : Heap) (texts : List (List ℕ)) → AreMade heap heap texts 0
none_made heap texts = record { within = omega arith; show = sym (no_new heap) }

pub one_more_made : (heap now after : Heap) (texts : List (List ℕ)) (i : ℕ) (units : List ℕ) → AreMade heap now texts i → i < length texts → units ≡ get_or texts i units
    → after ≡ with_new (text units ∷ []) now → AreMade heap after texts (i + 1)
one_more_made heap now after texts i units are below is new =
    let there : slice_get texts i ≡ Some units = slice_get-get_or texts i units below ∙ ap (λ l. Some l) (sym is) in
    record { within = omega (arith, below); show = new ∙ ap (with_new (text units ∷ [])) are.show ∙ sym (one_by_one heap texts i units there) }

pub all_made : (heap now : Heap) (texts : List (List ℕ)) (i : ℕ) → AreMade heap now texts i → length texts ≤ i → now ≡ with_new (map text texts) heap
all_made heap now texts i are all = are.show ∙ ap (λ l. with_new (map text l) heap) (take_whole texts i all)

pub room_for_one : (heap now : Heap) (texts : List (List ℕ)) (i : ℕ) → AreMade heap now texts i → i < length texts → length heap.objects + length texts < 2 ^ 32 → length now.objects + 1 < 2 ^ 32
room_for_one heap now texts i are below room =
    let many : length now.objects ≡ length heap.objects + length (map text (take i texts)) = ap (λ (h : Heap). length h.objects) are.show ∙ length-append heap.objects (map text (take i texts)) in
    let as_many = length-map (take i texts) text in
    let few = length-take i texts in
    omega arith

-- The created strings are removed again.
pub made_removed : (heap now after : Heap) (texts : List (List ℕ)) (i : ℕ) → AreMade heap now texts i
    → ((before : Heap) (units : List (List ℕ)) → length units ≡ i → now ≡ with_new (map text units) before → after ≡ before) → after ≡ heap
made_removed heap now after texts i are removes = let within = are.within in let few = length-take i texts in removes heap (take i texts) (omega arith) are.show
