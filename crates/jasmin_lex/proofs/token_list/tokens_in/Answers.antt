-- Each iteration reads the next token of the definition.
use Rattle.std.proofs.Common.{Vec, Global, Bor, true, ℕ, List, ◌≡◌, ◌+◌, ◌<◌, ◌≤◌, false, [], ◌∷◌, ◌++◌, length, sym, ap, arith}
use Rattle.std.proofs.lemmas.Bool.{eqb-true, eqb-false}
use Rattle.std.proofs.lemmas.List.{length-append, nil_from_length}
use Rattle.jasmin.specs.declared.token.Token.{Token}
use Rattle.jasmin.specs.Lexing.{begin_from, tokens_of}
use Rattle.jasmin.proofs.Tokens.{begin_apart, begin_shorter, token_shorter}
use Rattle.jasmin_lex.proofs.Loops.{token_more, token_failed, tokens_done, all_still}
use Rattle.jasmin_lex.proofs.token_list.tokens_in.Goals as goal

pub loop-rest-init : goal.loop-rest-init
loop-rest-init c =
    rw (c.new-tokens.ensures.items, c.begin-rest.ensures)
    (record {
      completes = all_still (length c.args.line.now) (begin_from _ c.args.line.now);
      fits = omega (arith, begin_shorter true c.args.line.now);
      apart = begin_apart _ c.args.line.now;
    })

pub returns-in-Err : goal.returns-in-Err
returns-in-Err c =
    let rest = c.loop-rest.rest.now in
    let some = eqb-false (length rest) 0 (sym c.loop-rest-test.ensures) in
    token_failed {X = Token × Bor (List ℕ)} {Y = Vec Token Global} (λ x. (x.0, x.1.now)) (λ v. v.items) c.in-Err.fault (length c.args.line.now) c.loop-rest.tokens.items rest (tokens_of c.args.line.now) (omega arith) c.in-Err.ensures c.loop-rest.invariant.completes

pub loop-rest-smaller : goal.loop-rest-smaller
loop-rest-smaller c =
    let less = token_shorter (length c.args.line.now) c.loop-rest.rest.now c.in-Ok.read.0 c.in-Ok.read.1.now c.loop-rest.invariant.apart c.in-Ok.ensures in
    let few = begin_shorter false c.in-Ok.read.1.now in
    let left : length c.begin-rest-in-loop-rest.result.now ≡ length (begin_from false c.in-Ok.read.1.now) = ap length c.begin-rest-in-loop-rest.ensures in
    omega arith

pub loop-rest-preserved : goal.loop-rest-preserved
loop-rest-preserved c =
    let line = c.args.line.now in
    let tokens = c.loop-rest.tokens.items in
    let rest = c.loop-rest.rest.now in
    let token = c.in-Ok.read.0 in
    let behind = c.in-Ok.read.1.now in
    let some = eqb-false (length rest) 0 (sym c.loop-rest-test.ensures) in
    let less : length behind < length rest = token_shorter (length line) rest token behind c.loop-rest.invariant.apart c.in-Ok.ensures in
    let few : length (begin_from false behind) ≤ length behind = begin_shorter false behind in
    let longer : length (tokens ++ token ∷ []) ≡ length tokens + 1 = length-append tokens (token ∷ []) in
    rw (c.in_ok-push.ensures.items, c.begin-rest-in-loop-rest.ensures) record {
      completes = token_more (length line) tokens rest token behind (tokens_of line) c.loop-rest.invariant.fits (omega arith) c.in-Ok.ensures c.loop-rest.invariant.completes;
      fits = omega arith;
      apart = begin_apart false behind;
    }

pub returns : goal.returns
returns c =
    let rest = c.loop-rest.rest.now in
    let empty = nil_from_length rest (eqb-true (length rest) 0 (sym c.loop-rest-test.ensures)) in
    tokens_done (length c.args.line.now) c.loop-rest.tokens.items rest (tokens_of c.args.line.now) empty c.loop-rest.invariant.completes
