use Rattle.std.proofs.Common.{◌≡◌, ap, refl, sym, ◌∙◌}
use Rattle.std.specs.Prelude.{option_map}
use Rattle.mc_filter.proofs.Statuses.{puts_by}
use Rattle.meldesk.specs.Jobs.{job_of, job_value, usage}
use Rattle.mc_script.specs.Benches.{BenchMembers}
use Rattle.meldesk.specs.Statuses.{desk_outside, DeskOutside}
use Rattle.meldesk.proofs.Completeness.{says_no_form}
use Rattle.meldesk.proofs.running.run_words.Goals as goal

pub returns-in_default : goal.returns-in_default
returns-in_default g c =
    let members : BenchMembers _ = record { state = g.N.Nvm.state; wrote = g.N.Nvm.wrote; same = g.N.Nvm.same; bench = g.N.Bench.bench } in
    let a : DeskOutside = desk_outside g.S.Source g.T.Sink g.E.Sink members c.args.input.now c.args.input.now c.args.out.now c.put_all.new.sink c.args.err.now c.args.err.now c.args.dev.now c.args.dev.now in
    let said = c.put_all.ensures in
    let put = puts_by a.streams.out_old a.streams.out usage usage c.put_all.result refl said.bytes said.fault said.part said.quiet in
    says_no_form (c.args.dev.now ≡ c.args.dev.now) (job_of c.args.words.now) a c.put_all.result c.ended.result (sym c.job_of.ensures ∙ ap (option_map job_value) c.in_default.is) c.ended.ensures refl refl refl put
