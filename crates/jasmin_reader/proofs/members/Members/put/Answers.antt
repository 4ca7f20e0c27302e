use Rattle.jasmin_reader.proofs.MemberNames.{member_put}
use Rattle.jasmin_reader.proofs.members.Members.put.Goals as goal

pub returns : goal.returns
returns c =
    member_put c.args.self.now (record { pairs = c.insert.new.self }) c.in_ok-member.member c.args.name.now c.args.descriptor.now c.in_ok-member.ensures c.in_ok-insert.ensures.updates.0
