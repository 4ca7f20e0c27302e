use Rattle.code_bytes.proofs.Begun.{starts_answered, few_answered, counted_answered, many_answered}
use Rattle.code_bytes.proofs.starts.starts_of.Goals as goal

pub returns : goal.returns
returns c = record {
  exact = starts_answered _ c.args.operands.now c.args.items.now c.collected_starts.ensures;
  few = few_answered _ c.args.operands.now c.args.items.now c.requires c.collected_starts.ensures;
  counted = counted_answered _ c.args.operands.now c.args.items.now c.requires c.collected_starts.ensures;
  many = many_answered _ c.args.operands.now c.args.items.now c.requires c.collected_starts.ensures;
}
