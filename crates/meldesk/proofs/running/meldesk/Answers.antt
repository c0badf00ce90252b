use Rattle.std.proofs.Common.{◌≡◌}
use Rattle.mc_filter.specs.declared.status.Status.{Status}
use Rattle.mc_filter.specs.declared.status.Status.TheVariants.{Done, Failed, NoForm, NoMemory, ReadFault, WriteFault}
use Rattle.mc_filter.specs.Statuses.{IsNumberOf}
use Rattle.mc_filter.proofs.Statuses.{at_most_five, at_number}
use Rattle.meldesk.specs.Jobs.{job_of}
use Rattle.mc_script.specs.Benches.{BenchMembers}
use Rattle.meldesk.specs.Statuses.{desk_outside, DeskOutside, MeldeskSays}
use Rattle.meldesk.proofs.Completeness.{complete_at, no_part}
use Rattle.meldesk.proofs.running.meldesk.Goals as goal

pub returns : goal.returns
returns g c =
    let members : BenchMembers _ = record { state = g.N.Nvm.state; wrote = g.N.Nvm.wrote; same = g.N.Nvm.same; bench = g.N.Bench.bench } in
    let new = c.run_words.new in
    let a : DeskOutside = desk_outside g.S.Source g.T.Sink g.E.Sink members c.args.input.now new.input c.args.out.now new.out c.args.err.now new.err c.args.dev.now new.dev in
    let n = c.number.result in
    let Kept : Type 0 = c.run_words.new.dev ≡ c.args.dev.now in
    let work = job_of c.args.words.now in
    let Says : Status → Type 0 = λ s. MeldeskSays Kept s work a in
    let said : IsNumberOf Says n = (c.run_words.result, c.number.ensures, c.run_words.ensures) in
    record {
      done = λ is. at_number Says Done n said is;
      refused = λ is. at_number Says Failed n said is;
      no_job = λ is. at_number Says NoForm n said is;
      read_fault = λ is. at_number Says ReadFault n said is;
      write_fault = λ is. at_number Says WriteFault n said is;
      memory = λ is. at_number Says NoMemory n said is;
      statuses = at_most_five Says n (no_part Kept work a) said;
      complete = λ s is. complete_at Kept work c.run_words.result s a n c.number.ensures is c.run_words.ensures;
    }
