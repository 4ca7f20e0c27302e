use Rattle.std.proofs.Common.{rules, ◌≡◌, ◌<◌, ◌++◌, ◌∷◌, [], None, Ok, ◌∙◌, refl, sym, ap}
use Rattle.indexmap.specs.IndexMap.{get}
use Rattle.indexmap.proofs.CallerLemmas.{insert_entry-new}
use Rattle.std.specs.Map.{keys_of}
use Rattle.jvms_file.specs.ConstantPool.{entry as entry_at}
use Rattle.const_pool.specs.Interning.{pool_of}
use Rattle.const_pool.proofs.Interned.{same, width-some, found_number, keys_of-push, one_more, interned-known, interned-full, interned-new, interned-next, next_names, names_kept}
use Rattle.const_pool.proofs.builder.PoolBuilder.intern.Goals as goal

pub returns-in-Some : goal.returns-in-Some
returns-in-Some c = record {
  exact = interned-known c.args.self.now c.args.entry c.in-Some.number c.in-Some.ensures.exact;
  names = c.in-Some.ensures.names;
  kept = λ n k is. is;
}

pub returns-then-width-number : goal.returns-then-width-number
returns-then-width-number c = record {
  exact = (interned-full c.args.self.now _ c.args.entry c.self.inside.next c.width-width.result c.self.view_is c.self.invariant.next_is c.width-width.ensures c.if-width-number.true c.in_default.ensures.exact, refl);
  names = tt;
  kept = λ n k is. is;
}

pub returns-in_err-insert-clause-exact : goal.returns-in_err-insert-clause-exact
returns-in_err-insert-clause-exact c =
    let some : 0 < c.width-width.result = rw c.width-width.ensures (width-some c.args.entry) in
    let made = interned-next c.args.self.now _ c.args.entry c.self.inside.next c.width-width.result c.self.view_is c.self.invariant.next_is c.width-width.ensures c.if-width-number.false some c.in_default.ensures.exact in
    search (rules, made)

pub invariant_of-self-2 : goal.invariant_of-self-2
invariant_of-self-2 c =
    let absent : get same c.self.inside.numbers c.args.entry ≡ None = found_number c.self.inside.numbers.entries c.args.self.now c.args.entry c.self.invariant.in_order c.self.view_is ∙ sym c.in_default.ensures.exact in
    let made = c.in_ok-insert.ensures.entries ∙ insert_entry-new same c.self.inside.numbers c.args.entry c.self.inside.next absent in
    one_more c.self.inside.numbers.entries c.insert.new.self.entries c.args.entry c.self.inside.next c.width-width.result c.self.invariant c.width-width.ensures c.if-width-number.false made

pub returns : goal.returns
returns c =
    let absent : get same c.self.inside.numbers c.args.entry ≡ None = found_number c.self.inside.numbers.entries c.args.self.now c.args.entry c.self.invariant.in_order c.self.view_is ∙ sym c.in_default.ensures.exact in
    let made = c.in_ok-insert.ensures.entries ∙ insert_entry-new same c.self.inside.numbers c.args.entry c.self.inside.next absent in
    let keys = ap keys_of made ∙ keys_of-push c.self.inside.numbers.entries c.args.entry c.self.inside.next ∙ ap (λ es. es ++ c.args.entry ∷ []) c.self.view_is in
    let some : 0 < c.width-width.result = rw c.width-width.ensures (width-some c.args.entry) in
    record {
      exact = interned-new c.args.self.now _ c.args.entry c.self.inside.next c.width-width.result c.self.view_is c.self.invariant.next_is c.width-width.ensures c.if-width-number.false some c.in_default.ensures.exact ∙ ap (λ es. Ok (c.self.inside.next, es)) (sym keys);
      names = ap (λ es. entry_at (pool_of es) c.self.inside.next) keys ∙ next_names c.args.self.now _ c.args.entry c.self.inside.next c.self.view_is c.self.invariant.next_is;
      kept = λ n k is. ap (λ es. entry_at (pool_of es) n) keys ∙ names_kept c.args.self.now c.args.entry n k is;
    }
