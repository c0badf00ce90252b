use Rattle.std.proofs.Common.{List, ℕ, length, take, drop, Some, sym, ap, ◌∙◌}
use Rattle.mc_apdu.specs.model_machine.specs.Frame as model
use Rattle.mc_segs.specs.HeldFrames.{Held, frame_on_bank}
use Rattle.mc_segs.proofs.AccessLemmas.{bytes_read, no_bytes}
use Rattle.mc_words.specs.model_device.proofs.ListLemmas.{some_bytes}
use Rattle.mc_segs.proofs.access.load.Goals as goal

pub returns-then-is_empty-clause-bytes : goal.returns-then-is_empty-clause-bytes
returns-then-is_empty-clause-bytes g c =
    no_bytes (frame_on_bank g.B.Bank c.args.bank.now c.args.frame.now) c.args.public.now c.args.at c.args.into.now (sym c.is_empty.ensures ∙ c.if-is_empty.true)

pub returns-in-Some-Static-clause-bytes : goal.returns-in-Some-Static-clause-bytes
returns-in-Some-Static-clause-bytes g c =
    c.read_static.ensures
    ∙ bytes_read (g.B.Bank.state c.args.bank.now) (g.B.Bank.named c.args.bank.now) c.args.frame.now c.args.public.now c.args.at (length c.args.into.now) (Some (model.Static c.in-Some-Static.i)) c.requires.runs.fits
    (some_bytes c.args.into.now (sym c.is_empty.ensures ∙ c.if-is_empty.false)) (rw c.in-Some-Static.field-0-is at c.in-Some-Static.ensures)

pub returns-in-Some-Dynamic-clause-bytes : goal.returns-in-Some-Dynamic-clause-bytes
returns-in-Some-Dynamic-clause-bytes g c =
    c.read.ensures
    ∙ ap (λ (h : Held). take (length c.args.into.now) (drop c.in-Some-Dynamic.i h.frame.dyn)) c.frame.view_is
    ∙ bytes_read (g.B.Bank.state c.args.bank.now) (g.B.Bank.named c.args.bank.now) c.args.frame.now c.args.public.now c.args.at (length c.args.into.now) (Some (model.Dynamic c.in-Some-Dynamic.i)) c.requires.runs.fits
    (some_bytes c.args.into.now (sym c.is_empty.ensures ∙ c.if-is_empty.false)) (rw c.in-Some-Dynamic.field-0-is at c.in-Some-Dynamic.ensures)

pub returns-in-Some-Public-clause-bytes : goal.returns-in-Some-Public-clause-bytes
returns-in-Some-Public-clause-bytes g c =
    c.read-in-Some-Public.ensures
    ∙ ap (λ (p : List ℕ). take (length c.args.into.now) (drop c.in-Some-Public.i p)) c.public.view_is
    ∙ bytes_read (g.B.Bank.state c.args.bank.now) (g.B.Bank.named c.args.bank.now) c.args.frame.now c.args.public.now c.args.at (length c.args.into.now) (Some (model.Public c.in-Some-Public.i)) c.requires.runs.fits
    (some_bytes c.args.into.now (sym c.is_empty.ensures ∙ c.if-is_empty.false)) (rw c.in-Some-Public.field-0-is at c.in-Some-Public.ensures)
