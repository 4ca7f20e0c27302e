-- Each iteration decodes the unit that the definition decodes there.
use Rattle.std.proofs.Common.{◌+◌, ◌<◌, ◌≡◌, [], ◌++◌, ◌∷◌, length, sym, arith}
use Rattle.std.proofs.lemmas.Bool.{eqb-true, eqb-false}
use Rattle.std.proofs.lemmas.List.{length-append, nil_from_length}
use Rattle.jvms_file.specs.Texts.{text_of_bytes}
use Rattle.jvms_file.proofs.TextLaws.{shorter_behind}
use Rattle.mutf8.proofs.Loop.{goes_on, ends_badly, ends_well}
use Rattle.mutf8.proofs.decoding.all_units.Goals as goal

pub returns-in_default : goal.returns-in_default
returns-in_default c =
    let bytes = c.args.bytes.now in
    let rest = c.loop-rest.rest.now in
    let not_empty = eqb-false (length rest) 0 (sym c.loop-rest-test.ensures) in
    ends_badly (length bytes) c.loop-rest.units rest (text_of_bytes bytes) (omega arith) (sym c.in_default.ensures) c.loop-rest.invariant.completes

pub loop-rest-smaller : goal.loop-rest-smaller
loop-rest-smaller c = shorter_behind c.loop-rest.rest.now (c.in-Some.unit, c.in-Some.behind.now) (sym c.in-Some.ensures)

pub loop-rest-preserved : goal.loop-rest-preserved
loop-rest-preserved c =
    let bytes = c.args.bytes.now in
    let units = c.loop-rest.units in
    let rest = c.loop-rest.rest.now in
    let unit = c.in-Some.unit in
    let behind = c.in-Some.behind.now in
    let less : length behind < length rest = shorter_behind rest (unit, behind) (sym c.in-Some.ensures) in
    let longer : length (units ++ unit ∷ []) ≡ length units + 1 = length-append units (unit ∷ []) in
    rw c.in_ok-push.ensures.ok record {
      completes = goes_on (length bytes) units rest unit behind (text_of_bytes bytes) c.loop-rest.invariant.fits (sym c.in-Some.ensures) c.loop-rest.invariant.completes;
      fits = omega arith;
    }

pub returns : goal.returns
returns c =
    let bytes = c.args.bytes.now in
    let rest = c.loop-rest.rest.now in
    let empty = nil_from_length rest (eqb-true (length rest) 0 (sym c.loop-rest-test.ensures)) in
    ends_well (length bytes) c.loop-rest.units rest (text_of_bytes bytes) empty c.loop-rest.invariant.completes
