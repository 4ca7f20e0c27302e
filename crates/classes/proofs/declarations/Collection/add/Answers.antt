use Rattle.std.proofs.Common.{List, [], ◌∷◌, ◌++◌, sym, ◌∙◌, subst}
use Rattle.classes.specs.declared.declarations.DeclaredNames.{DeclaredNames}
use Rattle.classes.specs.Declarations.{Adds, AreSeen}
use Rattle.classes.proofs.DeclarationLaws.{one_seen, there}
use Rattle.classes.proofs.declarations.Collection.add.Goals as goal

pub returns-then-contains : goal.returns-then-contains
returns-then-contains c =
    let declared = c.self.inside.declared.items in
    let is = there declared c.self.inside.seen (c.as_slice.result, c.as_slice-2.result) c.self.invariant (sym c.contains.ensures ∙ c.if-contains.true) in
    subst (λ (l : List DeclaredNames). Adds l (record { name = c.args.name.now; descriptor = c.args.descriptor.now } ∷ []) l) c.self.view_is
    (rw (c.as_slice.ensures, c.as_slice-2.ensures) at is)

pub invariant_of-self-2 : goal.invariant_of-self-2
invariant_of-self-2 c =
    let declared = c.self.inside.declared.items in
    let name = c.in_ok-share.ensures ∙ sym c.as_slice.ensures in
    let descriptor = c.in_ok-share-2.ensures ∙ sym c.as_slice-2.ensures in
    subst (λ (l : List DeclaredNames). AreSeen l c.insert.new.self)
    (sym (c.in_ok-push.ensures.items ∙ (λ i. declared ++ (record { name = name i; descriptor = descriptor i } ∷ []))))
    (one_seen declared (c.as_slice.result, c.as_slice-2.result) c.self.inside.seen c.insert.new.self c.in_ok-insert.ensures.updates.0 c.self.invariant)
