use Rattle.mc_segs.proofs.FrameLemmas.{keeps_padded}
use Rattle.mc_segs.proofs.session.Session.set.Goals as goal

pub invariant_of-self : goal.invariant_of-self
invariant_of-self c = keeps_padded c.write.new.into c.args.bytes.now c.requires c.write.ensures
