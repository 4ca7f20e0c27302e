use Rattle.std.proofs.Common.{[], ◌∷◌, ◌++◌, take, flat_map, sym, ap, ◌∙◌}
use Rattle.std.proofs.lemmas.List.{flat_map_more, take_more}
use Rattle.std.specs.String.{string_bytes}
use Rattle.needs.specs.Supers.{line_of_super}
use Rattle.needs.proofs.supers.put_interfaces.Goals as goal

pub loop-name-preserved : goal.loop-name-preserved
loop-name-preserved c =
    let f = line_of_super c.args.list.now c.args.class.now.name in
    let k = c.loop-name.name-index in
    let xs = c.args.names.now in
    let x = c.name-item.result in
    let start = string_bytes c.args.out.now in
    c.in_ok-put_interface.ensures
    ∙ ap (λ b. b ++ f x) c.loop-name.invariant
    ∙ flat_map_more f start (take k xs) x
    ∙ ap (λ y. start ++ flat_map f (take k xs ++ y ∷ [])) c.name-item.is
    ∙ ap (λ ys. start ++ flat_map f ys) (sym (take_more xs k x c.loop-name-test.true))
