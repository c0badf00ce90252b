use Rattle.std.proofs.Common.{◌≡◌, inl, inr, refl}
use Rattle.mc_filter.specs.Statuses.{IsNumberOf}
use Rattle.mc_filter.specs.declared.status.Status.{Status}
use Rattle.mc_filter.specs.declared.status.Status.TheVariants.{NoMemory}
use Rattle.mc_filter.proofs.Statuses.{some_number}
use Rattle.meldesk.specs.Jobs.{job_of}
use Rattle.meldesk.specs.Programs.{on_device, streams}
use Rattle.meldesk.specs.Statuses.{DeskOutside, MeldeskSays}
use Rattle.meldesk.proofs.program.on_blank.Goals as goal

pub returns-in-Ok : goal.returns-in-Ok
returns-in-Ok g c =
    let h = c.meldesk.ensures in
    let a : DeskOutside = on_device (streams g.S.Source g.T.Sink g.E.Sink c.args.input.now c.meldesk.new.input c.args.out.now c.meldesk.new.out c.args.err.now c.meldesk.new.err) c.in-Ok.device c.meldesk.new.dev in
    let said : IsNumberOf (λ (s : Status). MeldeskSays (c.meldesk.new.dev ≡ c.in-Ok.device) s (job_of c.args.words.now) a) c.meldesk.result =
    some_number (λ (s : Status). MeldeskSays (c.meldesk.new.dev ≡ c.in-Ok.device) s (job_of c.args.words.now) a) c.meldesk.result h.statuses h.done h.refused h.no_job h.read_fault h.write_fault h.memory in (
      said.0,
      said.1,
      inl (record {
        dev_old = c.in-Ok.device;
        dev = c.meldesk.new.dev;
        blank = c.in-Ok.ensures;
        says = said.2;
        completes = h.complete said.0 said.1;
      }),
    )

pub returns-in-Err : goal.returns-in-Err
returns-in-Err g c = (NoMemory, c.number.ensures, inr (record { is = refl; still = record { input = refl; out = refl } }, refl))
