use Rattle.std.proofs.Common.{◌≡◌, Bool, Bor, List, Some, None, reverse, map, take, refl, sym, ap, ◌∙◌}
use Rattle.std.proofs.lemmas.List.{reverse-reverse}
use Rattle.std.specs.Prelude.{Option, slice_get}
use Rattle.std.specs.List.{find}
use Rattle.std.specs.Option.{option_map, option_or}
use Rattle.jvms_program.specs.declared.key.MethodKey.{MethodKey}
use Rattle.velodrome.specs.Specification.{is_atomic}
use Rattle.report.specs.CycleTexts.{open_methods}
use Rattle.report.proofs.actor.naming_method.Goals as goal

mapped_or : {X Y : Type 0} (f : X → Y) (a b : Option X) → option_map f (option_or a b) ≡ option_or (option_map f a) (option_map f b)
mapped_or f (Some x) b = refl
mapped_or f None b = refl

-- The first that passes a test, or else the last.
first_or_last : {X : Type 0} (test : X → Bool) (methods xs : List X) (a b : Option X) → reverse xs ≡ methods → a ≡ find test xs → b ≡ slice_get (reverse xs) 0
    → option_or a b ≡ option_or (find test (reverse methods)) (slice_get methods 0)
first_or_last test methods xs a b turned first last =
    let back : reverse methods ≡ xs = ap reverse (sym turned) ∙ reverse-reverse xs in
    ap (λ o. option_or o b) (first ∙ ap (find test) (sym back))
    ∙ ap (λ o. option_or (find test (reverse methods)) o) (last ∙ ap (λ l. slice_get l 0) turned)

pub returns : goal.returns
returns c =
    let lines = c.args.checker.now.lines in
    let methods = map (λ (m : Bor MethodKey). m.now) c.in_ok-methods.methods.items in
    let before = c.first.ensures ∙ ap (take c.args.place) c.items.ensures in
    let turned = c.in_ok-methods.ensures lines ∙ ap (λ items. open_methods lines items c.args.thread) before in
    let atomic = c.first_atomic-atomic.ensures ∙ ap (λ ms. find (is_atomic lines) (map (λ (m : Bor MethodKey). m.now) ms)) c.as_slice.ensures.value in
    ap (option_map (λ (m : Bor MethodKey). m.now)) c.or.ensures
    ∙ mapped_or (λ (m : Bor MethodKey). m.now) c.first_atomic-atomic.result c.innermost.result
    ∙ first_or_last (is_atomic lines) _ methods _ _ turned atomic c.innermost.ensures
