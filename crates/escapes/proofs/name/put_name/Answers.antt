-- The units so far follow the text.
use Rattle.std.proofs.Common.{rules, take, ◌∙◌, refl}
use Rattle.std.specs.String.{string_bytes}
use Rattle.escapes.specs.Escapes.{name_text}
use Rattle.escapes.proofs.Behind.{spelled_ascii, nothing_behind, more_behind, may_be_shortened}
use Rattle.escapes.proofs.name.put_name.Goals as goal

pub truncate-requires : goal.truncate-requires
truncate-requires c within =
    may_be_shortened (string_bytes c.args.out.now) (string_bytes c.put_unit.new.out) c.len-before.result (search rules)
    (more_behind (string_bytes c.args.out.now) (string_bytes c.args.out.now) (string_bytes c.put_unit.new.out) (name_text (take c.loop-unit.unit-index c.args.name.now))
    (nothing_behind (string_bytes c.args.out.now) (string_bytes c.args.out.now) refl) (spelled_ascii (take c.loop-unit.unit-index c.args.name.now)) (c.in-Err.ensures.kept ∙ c.loop-unit.invariant))
