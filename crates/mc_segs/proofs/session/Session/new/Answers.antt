use Rattle.std.proofs.lemmas.List.{take-replicate}
use Rattle.mc_segs.proofs.FrameLemmas.{keeps_zeros}
use Rattle.mc_segs.proofs.session.Session.new.Goals as goal

pub invariant_of-result : goal.invariant_of-result
invariant_of-result c = keeps_zeros c.args.len c.requires

pub returns : goal.returns
returns c = take-replicate c.args.len 256 0 c.requires
