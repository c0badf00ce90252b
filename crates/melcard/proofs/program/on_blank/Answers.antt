use Rattle.std.proofs.Common.{◌≡◌, inl, inr, refl}
use Rattle.mc_filter.specs.Outside.{outside}
use Rattle.mc_filter.specs.Statuses.{IsNumberOf}
use Rattle.mc_filter.specs.declared.status.Status.{Status}
use Rattle.mc_filter.specs.declared.status.Status.TheVariants.{NoMemory}
use Rattle.mc_filter.proofs.Statuses.{some_number}
use Rattle.melcard.specs.Jobs.{job_of}
use Rattle.melcard.specs.Programs.{on_device}
use Rattle.melcard.specs.Statuses.{CardOutside, MelcardSays}
use Rattle.melcard.proofs.program.on_blank.Goals as goal

pub returns-in-Ok : goal.returns-in-Ok
returns-in-Ok g c =
    let h = c.melcard.ensures in
    let a : CardOutside = on_device (outside g.S.Source g.T.Sink c.args.input.now c.melcard.new.input c.args.out.now c.melcard.new.out) c.in-Ok.device c.melcard.new.dev c.args.steps.now c.melcard.new.steps in
    let said : IsNumberOf (λ (s : Status). MelcardSays (c.melcard.new.dev ≡ c.in-Ok.device) s (job_of c.args.words.now) a) c.melcard.result =
    some_number (λ (s : Status). MelcardSays (c.melcard.new.dev ≡ c.in-Ok.device) s (job_of c.args.words.now) a) c.melcard.result h.statuses h.done h.refused h.no_job h.read_fault h.write_fault h.memory in (
      said.0,
      said.1,
      inl (record {
        dev_old = c.in-Ok.device;
        dev = c.melcard.new.dev;
        blank = c.in-Ok.ensures;
        steps = c.melcard.new.steps;
        says = said.2;
        completes = h.complete said.0 said.1;
      }),
    )

pub returns-in-Err : goal.returns-in-Err
returns-in-Err g c = (NoMemory, c.number.ensures, inr (record { is = refl; still = record { input = refl; out = refl } }))
