use Rattle.const_pool.specs.Texts.{canonical}
use Rattle.class_file.proofs.SeenMembers.{pair_put, by_texts}
use Rattle.class_file.proofs.seen.Seen.put.Goals as goal

pub returns-in_ok-insert : goal.returns-in_ok-insert
returns-in_ok-insert c = λ m n.
    let pool = c.args.pool.now in
    by_texts pool c.args.self.now (record { pairs = c.insert.new.self }) c.args.name c.args.descriptor m n
    (pair_put c.args.self.now (record { pairs = c.insert.new.self }) (canonical pool c.args.name) (canonical pool c.args.descriptor) c.in-Some.pair c.in-Some.ensures c.in_ok-insert.ensures.updates.0 (canonical pool m) (canonical pool n))
