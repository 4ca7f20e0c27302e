use Rattle.std.proofs.Common.{ap, sym, ◌∙◌}
use Rattle.listing_spec.specs.TreeOf.{tree_of}
use Rattle.listing.proofs.Meaning.{is_listable}
use Rattle.listing.proofs.listing.list.Goals as goal

-- The tree is that of a class that bytes spell.
pub text_of-requires-clause-listable : goal.text_of-requires-clause-listable
text_of-requires-clause-listable c =
    is_listable c.args.class.now c.in_ok-tree.tree c.class.ensures.spelled (ap tree_of (sym c.class.ensures.same) ∙ c.in_ok-tree.ensures.exact)
