use Rattle.std.proofs.Common.{refl, sym, ◌∙◌}
use Rattle.mc_filter.proofs.Statuses.{puts_by}
use Rattle.mellab.specs.Jobs.{request_of, usage}
use Rattle.mc_filter.specs.Outside.{outside, Outside}
use Rattle.mellab.proofs.StatusLemmas.{says_no_form}
use Rattle.mellab.proofs.running.run_words.Goals as goal

pub returns-in_default : goal.returns-in_default
returns-in_default g c =
    let a : Outside = outside g.S.Source g.T.Sink c.args.input.now c.args.input.now c.args.out.now c.put_all.new.sink in
    let said = c.put_all.ensures in
    let put = puts_by a.out_old a.out usage usage c.put_all.result refl said.bytes said.fault said.part said.quiet in
    says_no_form (request_of c.args.words.now) a c.put_all.result c.ended.result (sym c.request_of.ensures ∙ c.in_default.is) c.ended.ensures refl put
