use Rattle.std.proofs.Common.{◌≡◌}
use Rattle.mc_filter.specs.declared.status.Status.{Status}
use Rattle.mc_filter.specs.declared.status.Status.TheVariants.{Done, Failed, NoForm, NoMemory, ReadFault, WriteFault}
use Rattle.mc_filter.specs.Statuses.{IsNumberOf}
use Rattle.mc_filter.proofs.Statuses.{at_most_five, at_number}
use Rattle.melcard.specs.Jobs.{job_of}
use Rattle.mc_script.specs.Benches.{BenchMembers}
use Rattle.melcard.specs.Statuses.{CardOutside, MelcardSays}
use Rattle.melcard.proofs.StatusLemmas.{around, no_part}
use Rattle.melcard.proofs.Completeness.{complete_at}
use Rattle.melcard.proofs.running.melcard.Goals as goal

pub returns : goal.returns
returns g c =
    let members : BenchMembers _ = record { state = g.N.Nvm.state; wrote = g.N.Nvm.wrote; same = g.N.Nvm.same; bench = g.N.Bench.bench } in
    let a : CardOutside = around g.S.Source g.T.Sink members c.args.input.now c.run_words.new.input c.args.out.now c.run_words.new.out c.args.dev.now c.run_words.new.dev c.args.steps.now c.run_words.new.steps in
    let said : IsNumberOf (λ (s : Status). MelcardSays (c.run_words.new.dev ≡ c.args.dev.now) s (job_of c.args.words.now) a) c.number.result = (c.run_words.result, c.number.ensures, c.run_words.ensures) in
    record {
      done = λ is. at_number (λ (s : Status). MelcardSays (c.run_words.new.dev ≡ c.args.dev.now) s (job_of c.args.words.now) a) Done c.number.result said is;
      refused = λ is. at_number (λ (s : Status). MelcardSays (c.run_words.new.dev ≡ c.args.dev.now) s (job_of c.args.words.now) a) Failed c.number.result said is;
      no_job = λ is. at_number (λ (s : Status). MelcardSays (c.run_words.new.dev ≡ c.args.dev.now) s (job_of c.args.words.now) a) NoForm c.number.result said is;
      read_fault = λ is. at_number (λ (s : Status). MelcardSays (c.run_words.new.dev ≡ c.args.dev.now) s (job_of c.args.words.now) a) ReadFault c.number.result said is;
      write_fault = λ is. at_number (λ (s : Status). MelcardSays (c.run_words.new.dev ≡ c.args.dev.now) s (job_of c.args.words.now) a) WriteFault c.number.result said is;
      memory = λ is. at_number (λ (s : Status). MelcardSays (c.run_words.new.dev ≡ c.args.dev.now) s (job_of c.args.words.now) a) NoMemory c.number.result said is;
      statuses = at_most_five (λ (s : Status). MelcardSays (c.run_words.new.dev ≡ c.args.dev.now) s (job_of c.args.words.now) a) c.number.result (no_part (c.run_words.new.dev ≡ c.args.dev.now) (job_of c.args.words.now) a) said;
      complete = λ s is. complete_at (c.run_words.new.dev ≡ c.args.dev.now) (job_of c.args.words.now) c.run_words.result s a c.number.result c.number.ensures is c.run_words.ensures;
    }
