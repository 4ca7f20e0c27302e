use Rattle.std.proofs.Common.{ℕ, rules}
use Rattle.std.proofs.lemmas.Fn.{always_returns_same}
use Rattle.std.specs.Cmp.Lexicographic.{slice_cmp}
use Rattle.std.specs.Ordering.{nat_cmp}
use Rattle.jvms_program.specs.MemberOrders.{names_at}
use Rattle.jvms_program.proofs.MemberOrderLaws.{name_absent, name_found, name_searchable}
use Rattle.jvms_program.proofs.members.is_name_in.Goals as goal

-- The closure compares the name of the member of a number with the sought one.
pub returns-in-Ok : goal.returns-in-Ok
returns-in-Ok g c =
    let names = g.T.Member.names in
    let holds = c.in-Ok.ensures.position (λ (n : ℕ). slice_cmp nat_cmp (names_at names c.args.items.now n).0 c.args.name.now) (always_returns_same _ _ _ (λ a r f called. search rules)) in
    name_found names c.args.items.now c.args.order.now c.requires.rising c.requires.numbers c.args.name.now c.in-Ok.field-0 c.in-Ok.ensures.bound (holds 0)

pub returns-in-Err : goal.returns-in-Err
returns-in-Err g c =
    let names = g.T.Member.names in
    let parted = c.in-Err.ensures.position (λ (n : ℕ). slice_cmp nat_cmp (names_at names c.args.items.now n).0 c.args.name.now) (always_returns_same _ _ _ (λ a r f called. search rules)) in
    name_absent names c.args.items.now c.args.order.now c.requires.rising c.requires.numbers c.args.name.now c.in-Err.field-0 (parted (name_searchable names c.args.items.now c.args.order.now c.requires.rising c.args.name.now))
