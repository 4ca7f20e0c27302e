use Rattle.std.proofs.Common.{rules, [], Some, None, vec_items, ap, ◌∙◌, lit<}
use Rattle.std.specs.Option.{option_map}
use Rattle.std.proofs.lemmas.Str.Pattern.{split_parts}
use Rattle.schedule.specs.declared.fault.ScheduleFault.TheVariants.{Memory}
use Rattle.schedule.specs.Parts.{first_part, one_part, parts_at}
use Rattle.schedule.proofs.Texts.{adds_items, held_values, lacks, last_read, more_read, never_read}
use Rattle.schedule.proofs.written.listed.Goals as goal

pub returns-in_default-read_after-clause-syntax : goal.returns-in_default-read_after-clause-syntax
returns-in_default-read_after-clause-syntax g c =
    let parts = split_parts 44 c.loop-part.rest.now (Some (c.in-Some.part, c.in-Some.others)) c.in-Some.ensures.cases (lit< tt) in
    let read = c.loop-part.invariant.1 in
    λ _. never_read g.T.Written.writes g.T.Written.are_ordered g.met.T.Written.lacks_comma g.met.T.Written.writes_one g.met.T.Written.fewer_are_ordered
    c.args.text.now c.loop-part.rest.now c.in-Some.part.now (parts_at 44 c.in-Some.others.now) c.loop-part.last (option_map vec_items c.loop-part.values) read
    (ap (parts_at 44) parts.0 ∙ first_part 44 c.in-Some.part.now c.in-Some.others.now (lacks 44 c.in-Some.part.now parts.1))
    (c.in_default-read_after.ensures read.values read.ordered read.is_last)

pub loop-part-preserved : goal.loop-part-preserved
loop-part-preserved g c =
    let parts = split_parts 44 c.loop-part.rest.now (Some (c.in-Some.part, c.in-Some.others)) c.in-Some.ensures.cases (lit< tt) in
    let read = c.loop-part.invariant.1 in (
      search rules,
      more_read g.T.Written.writes g.T.Written.are_ordered c.args.text.now c.loop-part.rest.now c.in-Some.part.now c.in-Some.others.now c.in-Some-read_after.value
          c.loop-part.last (option_map vec_items c.loop-part.values) (option_map vec_items c.with_value-values.result) read
          parts.0 (lacks 44 c.in-Some.part.now parts.1) (c.in-Some-read_after.ensures read.values read.ordered read.is_last)
          (adds_items vec_items c.loop-part.values c.with_value-values.result c.in-Some-read_after.value c.with_value-values.ensures),
    )

pub returns-in_default-read_after-2-clause-syntax : goal.returns-in_default-read_after-2-clause-syntax
returns-in_default-read_after-2-clause-syntax g c =
    let read = c.loop-part.invariant.1 in
    λ _. never_read g.T.Written.writes g.T.Written.are_ordered g.met.T.Written.lacks_comma g.met.T.Written.writes_one g.met.T.Written.fewer_are_ordered
    c.args.text.now c.loop-part.rest.now c.loop-part.rest.now [] c.loop-part.last (option_map vec_items c.loop-part.values) read
    (one_part 44 c.loop-part.rest.now (lacks 44 c.loop-part.rest.now (split_parts 44 c.loop-part.rest.now None c.in_default.ensures.cases (lit< tt))))
    (c.in_default-read_after-2.ensures read.values read.ordered read.is_last)

pub returns-clause-values : goal.returns-clause-values
returns-clause-values g c =
    let read = c.loop-part.invariant.1 in
    let whole = last_read g.T.Written.writes g.T.Written.are_ordered c.args.text.now c.loop-part.rest.now c.in-Some-read_after-2.value
    c.loop-part.last (option_map vec_items c.loop-part.values) (option_map vec_items c.with_value.result) read
    (lacks 44 c.loop-part.rest.now (split_parts 44 c.loop-part.rest.now None c.in_default.ensures.cases (lit< tt)))
    (c.in-Some-read_after-2.ensures read.values read.ordered read.is_last)
    (adds_items vec_items c.loop-part.values c.with_value.result c.in-Some-read_after-2.value c.with_value.ensures) in
    rw c.ok_or.ensures.value (held_values g.T.Written.writes g.T.Written.are_ordered vec_items c.args.text.now c.with_value.result Memory whole)

pub returns-clause-memory : goal.returns-clause-memory
returns-clause-memory g c =
    let read = c.loop-part.invariant.1 in
    let whole = last_read g.T.Written.writes g.T.Written.are_ordered c.args.text.now c.loop-part.rest.now c.in-Some-read_after-2.value
    c.loop-part.last (option_map vec_items c.loop-part.values) (option_map vec_items c.with_value.result) read
    (lacks 44 c.loop-part.rest.now (split_parts 44 c.loop-part.rest.now None c.in_default.ensures.cases (lit< tt)))
    (c.in-Some-read_after-2.ensures read.values read.ordered read.is_last)
    (adds_items vec_items c.loop-part.values c.with_value.result c.in-Some-read_after-2.value c.with_value.ensures) in
    λ _. (whole.0, whole.1.0, whole.1.1)
