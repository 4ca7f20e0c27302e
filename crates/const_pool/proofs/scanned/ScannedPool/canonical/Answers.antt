use Rattle.std.proofs.Common.{ap, ◌∙◌, rules}
use Rattle.const_pool.specs.Texts.{canonical, is_one_number}
use Rattle.const_pool.proofs.FirstNumbers.{one_canonical}
use Rattle.const_pool.proofs.scanned.ScannedPool.canonical.Goals as goal

pub returns-clause-exact : goal.returns-clause-exact
returns-clause-exact c = search rules

pub returns-clause-same : goal.returns-clause-same
returns-clause-same c = λ other.
    ap (λ n. is_one_number n (canonical c.args.self.now other)) (returns-clause-exact c) ∙ one_canonical c.args.self.now c.args.number other
