use Rattle.std.proofs.Common.{Some, cond, ap, ◌∙◌}
use Rattle.std.specs.Cmp.Lexicographic.{slice_cmp}
use Rattle.std.specs.Ordering.{nat_cmp, ordering_then, is_eq}
use Rattle.const_pool.specs.Firsts.{number_at, fingerprint_of}
use Rattle.const_pool.proofs.FirstNumbers.{one_key}
use Rattle.const_pool.proofs.firsts.Firsts.number.Goals as goal

pub returns-clause-kept : goal.returns-clause-kept
returns-clause-kept c = λ other.
    c.in_ok-insert.ensures.updates.0 (fingerprint_of other, record { ref_ptr = (0, 0); now = other })
    ∙ ap (λ f. cond (is_eq (ordering_then (nat_cmp f (fingerprint_of other)) (slice_cmp nat_cmp c.args.text.now other))) (Some c.args.number) (number_at c.args.self.now other)) c.fingerprint.ensures
    ∙ ap (λ b. cond b (Some c.args.number) (number_at c.args.self.now other)) (one_key fingerprint_of c.args.text.now other)
