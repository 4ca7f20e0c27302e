use Rattle.std.proofs.Common.{rules, ◌≡◌, ◌<◌, ◌-◌, ◌∙◌, arith, map}
use Rattle.std.specs.Prelude.{slice_get}
use Rattle.const_pool.specs.Texts.{text_of}
use Rattle.const_pool.proofs.FirstNumbers.{text_known}
use Rattle.const_pool.proofs.scanned.ScannedPool.text.Goals as goal

pub returns : goal.returns
returns c =
    let some : 0 < c.args.number = search (rules, arith) in
    let got : c.copied.result ≡ slice_get c.self.inside.texts.items (c.args.number - 1) = search rules in
    let are : c.self.inside.texts.items ≡ map (text_of c.args.self.now) c.args.self.now = search rules in
    c.flatten.ensures ∙ text_known c.args.self.now c.self.inside.texts.items c.args.number c.copied.result some are got
