use Rattle.std.proofs.Common.{◌≡◌, refl}
use Rattle.mc_deck.specs.model_play.specs.Generator.{deck_of_number}
use Rattle.melcard.specs.declared.job.Job.TheVariants as job
use Rattle.mc_filter.specs.declared.status.Status.{Status}
use Rattle.melcard.specs.Running.{PlaysInput, WritesInput}
use Rattle.mc_script.specs.Benches.{BenchMembers}
use Rattle.melcard.specs.Statuses.{CardOutside, IsSummed}
use Rattle.melcard.proofs.StatusLemmas.{around, err_always, memory_only, ok_is, rejected_at, says_at, says_played, says_summed, says_written}
use Rattle.melcard.proofs.running.run.Goals as goal
use Rattle.melcard.proofs.running.run.Goals.{in-Play, in-Generate, in-Write}

pub returns-in-Ok : goal.returns-in-Ok
returns-in-Ok g c =
    let source = g.S.Source in
    let sink = g.T.Sink in
    let members : BenchMembers _ = record { state = g.N.Nvm.state; wrote = g.N.Nvm.wrote; same = g.N.Nvm.same; bench = g.N.Bench.bench } in
    let input = c.args.input.now in
    let out = c.args.out.now in
    let dev = c.args.dev.now in
    let steps = c.args.steps.now in
    let all = c.match-job in
    let s = c.in-Ok.status in
    elim c.match-job.branch [
      | in-Play w ↦
          let t = w.in-Play.reporting in
          let did = w.report-done in
          let a : CardOutside = around source sink members input did.new.input out did.new.out dev did.new.dev steps did.new.steps in
          let played = ok_is all.done did.result s (λ (s : Status). PlaysInput t s a) c.in-Ok.is w.done-is did.ensures.done in
          says_at source sink members input all.input did.new.input out all.out did.new.out dev all.dev did.new.dev steps all.steps did.new.steps c.args.job (job.Play t) s w.input-is w.out-is w.dev-is w.steps-is w.in-Play.is
          (says_played (did.new.dev ≡ dev) t s a played)
      | in-Generate w ↦
          let n = w.in-Generate.number in
          let did = w.sum-done in
          let a : CardOutside = around source sink members input input out did.new.out dev did.new.dev steps did.new.steps in
          let summed = ok_is all.done did.result s (λ (s : Status). IsSummed (deck_of_number n) s a.dev_old a.streams.out_old a.dev a.streams.out a.steps_old a.steps) c.in-Ok.is w.done-is did.ensures.done in
          says_at source sink members input all.input input out all.out did.new.out dev all.dev did.new.dev steps all.steps did.new.steps c.args.job (job.Generate n) s w.input-is w.out-is w.dev-is w.steps-is w.in-Generate.is
          (says_summed (did.new.dev ≡ dev) n s a refl summed)
      | in-Write w ↦
          let f = w.in-Write.form in
          let did = w.write-done in
          let a : CardOutside = around source sink members input did.new.input out did.new.out dev dev steps steps in
          let written = ok_is all.done did.result s (λ (s : Status). WritesInput f s a.streams) c.in-Ok.is w.done-is did.ensures.done in
          says_at source sink members input all.input did.new.input out all.out did.new.out dev all.dev dev steps all.steps steps c.args.job (job.Write f) s w.input-is w.out-is w.dev-is w.steps-is w.in-Write.is
          (says_written (dev ≡ dev) f s a refl written)
    ]

pub returns-in-Err : goal.returns-in-Err
returns-in-Err g c =
    let source = g.S.Source in
    let sink = g.T.Sink in
    let members : BenchMembers _ = record { state = g.N.Nvm.state; wrote = g.N.Nvm.wrote; same = g.N.Nvm.same; bench = g.N.Bench.bench } in
    let input = c.args.input.now in
    let out = c.args.out.now in
    let dev = c.args.dev.now in
    let steps = c.args.steps.now in
    let all = c.match-job in
    let why = c.in-Err.rejection in
    let end = c.reject in
    elim c.match-job.branch [
      | in-Play w ↦
          let did = w.report-done in
          rejected_at source sink members input all.input did.new.input out all.out did.new.out end.new.out dev all.dev did.new.dev steps all.steps did.new.steps c.args.job (job.Play w.in-Play.reporting) all.done did.result why end.result
          c.in-Err.is w.input-is w.out-is w.dev-is w.steps-is w.done-is w.in-Play.is did.ensures.rejected did.ensures.out did.ensures.device end.ensures
      | in-Generate w ↦
          let did = w.sum-done in
          let work = job.Generate w.in-Generate.number in
          let a : CardOutside = around source sink members input input out did.new.out dev did.new.dev steps did.new.steps in
          rejected_at source sink members input all.input input out all.out did.new.out end.new.out dev all.dev did.new.dev steps all.steps did.new.steps c.args.job work all.done did.result why end.result
          c.in-Err.is w.input-is w.out-is w.dev-is w.steps-is w.done-is w.in-Generate.is (memory_only work a.streams did.result refl refl did.ensures.rejected) did.ensures.out did.ensures.device end.ensures
      | in-Write w ↦
          let did = w.write-done in
          let kept = err_always {P = dev ≡ dev} did.result refl in
          rejected_at source sink members input all.input did.new.input out all.out did.new.out end.new.out dev all.dev dev steps all.steps steps c.args.job (job.Write w.in-Write.form) all.done did.result why end.result
          c.in-Err.is w.input-is w.out-is w.dev-is w.steps-is w.done-is w.in-Write.is did.ensures.rejected did.ensures.out kept end.ensures
    ]
