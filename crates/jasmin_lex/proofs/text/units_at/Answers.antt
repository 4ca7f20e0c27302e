-- Each iteration reads the next unit of the definition.
use Rattle.std.proofs.Common.{◌≡◌, ◌+◌, ◌<◌, [], ◌∷◌, ◌++◌, length, sym, arith}
use Rattle.std.proofs.lemmas.List.{length-append}
use Rattle.jasmin.specs.Lexing.{units_from}
use Rattle.jasmin.proofs.Texts.{shorter_behind}
use Rattle.jasmin_lex.proofs.Loops.{unit_more, units_done}
use Rattle.jasmin_lex.proofs.text.units_at.Goals as goal

pub loop-unit-smaller : goal.loop-unit-smaller
loop-unit-smaller c = shorter_behind c.loop-unit.rest.now c.in-Some.unit c.in-Some.behind.now (sym c.in-Some.ensures)

pub loop-unit-preserved : goal.loop-unit-preserved
loop-unit-preserved c =
    let units = c.args.units.now in
    let text = c.loop-unit.text in
    let rest = c.loop-unit.rest.now in
    let unit = c.in-Some.unit in
    let behind = c.in-Some.behind.now in
    let less : length behind < length rest = shorter_behind rest unit behind (sym c.in-Some.ensures) in
    let longer : length (text ++ unit ∷ []) ≡ length text + 1 = length-append text (unit ∷ []) in
    rw c.in_ok-push.ensures.ok record {
      completes = unit_more (length units) text rest unit behind (units_from (length units) units) c.loop-unit.invariant.fits (sym c.in-Some.ensures) c.loop-unit.invariant.completes;
      fits = omega arith;
    }

pub returns : goal.returns
returns c = units_done (length c.args.units.now) c.loop-unit.text c.loop-unit.rest.now (units_from (length c.args.units.now) c.args.units.now) (sym c.in_default.ensures) c.loop-unit.invariant.completes
