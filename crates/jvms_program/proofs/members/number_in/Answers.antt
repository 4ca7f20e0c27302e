use Rattle.std.proofs.Common.{ℕ, rules}
use Rattle.std.proofs.lemmas.Fn.{always_returns_same}
use Rattle.jvms_program.specs.MemberOrders.{Names, names_at, names_cmp}
use Rattle.jvms_program.proofs.MemberOrderLaws.{absent, found, searchable}
use Rattle.jvms_program.proofs.members.number_in.Goals as goal

-- The closure compares the names of the member of a number with the sought ones.
pub returns-in-Ok : goal.returns-in-Ok
returns-in-Ok g c =
    let names = g.T.Member.names in
    let sought : Names = (c.args.name.now, c.args.descriptor.now) in
    let holds = c.in-Ok.ensures.position (λ (n : ℕ). names_cmp (names_at names c.args.items.now n) sought) (always_returns_same _ _ _ (λ a r f called. search rules)) in
    found names c.args.items.now c.args.order.now c.requires.rising c.requires.numbers c.args.name.now c.args.descriptor.now c.in-Ok.place c.in-Ok.ensures.bound (holds 0)

pub returns-in-Err : goal.returns-in-Err
returns-in-Err g c =
    let names = g.T.Member.names in
    let sought : Names = (c.args.name.now, c.args.descriptor.now) in
    let parted = c.in-Err.ensures.position (λ (n : ℕ). names_cmp (names_at names c.args.items.now n) sought) (always_returns_same _ _ _ (λ a r f called. search rules)) in
    absent names c.args.items.now c.args.order.now c.requires.rising c.requires.numbers c.args.name.now c.args.descriptor.now c.in-Err.field-0 (parted (searchable names c.args.items.now c.args.order.now c.requires.rising sought))
