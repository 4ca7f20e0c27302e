-- What the innermost method decides.
use Rattle.std.proofs.Common.{◌≡◌, false, ◌||◌, List, [], ◌∷◌, drop, Some, None, refl, ap, ◌∙◌}
use Rattle.std.specs.Prelude.{slice_get}
use Rattle.jvms_program.specs.declared.key.MethodKey.{MethodKey}
use Rattle.velodrome.specs.Transactions.{same_method, is_innermost}
use Rattle.thread_states.specs.declared.open.OpenMethod.{OpenMethod}
use Rattle.thread_states.specs.Open.{any_atomic, keys_of, AreInner}

pub innermost_is : (m : MethodKey) (o : OpenMethod) (methods : List OpenMethod) → Some o ≡ slice_get methods 0
    → same_method m o.method ≡ is_innermost m (keys_of methods)
innermost_is m o [] top = cc
innermost_is m o (p ∷ methods) top =
    let same : o ≡ p = cc in ap (λ (q : OpenMethod). same_method m q.method) same

pub stays_in : (o : OpenMethod) (methods : List OpenMethod) → Some o ≡ slice_get methods 0 → AreInner methods
    → o.is_inner ≡ any_atomic (drop 1 methods)
stays_in o [] top inner = cc
stays_in o (p ∷ methods) top inner =
    let same : o ≡ p = cc in ap (λ (q : OpenMethod). q.is_inner) same ∙ inner.0

pub is_in : (o : OpenMethod) (methods : List OpenMethod) → Some o ≡ slice_get methods 0 → AreInner methods
    → (o.is_atomic || o.is_inner) ≡ any_atomic methods
is_in o [] top inner = cc
is_in o (p ∷ methods) top inner =
    let same : o ≡ p = cc in
    ap (λ (q : OpenMethod). q.is_atomic || q.is_inner) same ∙ ap (λ b. p.is_atomic || b) inner.0

pub none_is_in : (methods : List OpenMethod) → None ≡ slice_get methods 0 → false ≡ any_atomic methods
none_is_in [] top = refl
none_is_in (p ∷ methods) top = cc
