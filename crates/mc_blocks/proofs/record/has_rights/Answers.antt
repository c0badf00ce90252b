use Rattle.std.proofs.Common.{rules}
use Rattle.mc_blocks.proofs.Records.{allowed_end}
use Rattle.mc_blocks.proofs.record.has_rights.Goals as goal

pub returns-then-deny-le15 : goal.returns-then-deny-le15
returns-then-deny-le15 c =
    allowed_end c.args.entry.now c.number_of-session.result c.number_of-deny.result c.are_zero.result (search rules) c.number_of-session.ensures c.number_of-deny.ensures c.if-deny-le15.true c.are_zero.ensures
