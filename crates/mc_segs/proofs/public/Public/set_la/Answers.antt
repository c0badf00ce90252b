use Rattle.mc_segs.proofs.PublicLemmas.{spliced_word}
use Rattle.mc_segs.proofs.public.Public.set_la.Goals as goal

pub returns : goal.returns
returns c = spliced_word c.write.new.into c.self.inside.bytes c.args.self.now c.bytes_of.result 1037 c.args.la c.write.ensures c.bytes_of.ensures c.self.view_is
