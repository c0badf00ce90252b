use Rattle.std.proofs.Common.{◌≡◌, refl, sym, ◌∙◌}
use Rattle.mc_filter.proofs.Statuses.{puts_by}
use Rattle.melcard.specs.Jobs.{job_of, usage}
use Rattle.mc_script.specs.Benches.{BenchMembers}
use Rattle.melcard.specs.Statuses.{CardOutside}
use Rattle.melcard.proofs.StatusLemmas.{around, says_no_form}
use Rattle.melcard.proofs.running.run_words.Goals as goal

pub returns-in_default : goal.returns-in_default
returns-in_default g c =
    let members : BenchMembers _ = record { state = g.N.Nvm.state; wrote = g.N.Nvm.wrote; same = g.N.Nvm.same; bench = g.N.Bench.bench } in
    let a : CardOutside = around g.S.Source g.T.Sink members c.args.input.now c.args.input.now c.args.out.now c.put_all.new.sink c.args.dev.now c.args.dev.now c.args.steps.now c.args.steps.now in
    let said = c.put_all.ensures in
    let put = puts_by a.streams.out_old a.streams.out usage usage c.put_all.result refl said.bytes said.fault said.part said.quiet in
    says_no_form (c.args.dev.now ≡ c.args.dev.now) (job_of c.args.words.now) a c.put_all.result c.ended.result (sym c.job_of.ensures.job ∙ c.in_default.is) c.ended.ensures refl refl put
