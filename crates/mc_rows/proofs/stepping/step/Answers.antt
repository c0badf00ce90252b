-- A row that depends on its frame alone acts as defined on the bank.
use Rattle.std.proofs.Common.{Ok, Err}
use Rattle.mc_rows.proofs.FrameLemmas.{frame_acts}
use Rattle.mc_rows.proofs.stepping.step.Goals as goal

pub returns-in-Ok : goal.returns-in-Ok
returns-in-Ok g c =
    frame_acts g.B.Bank c.args.ins.now c.args.bank.now c.args.frame.now c.step_frame.new.frame c.args.public.now (Ok tt) c.requires.runs.going c.requires.runs.fits c.in-Ok.ensures

pub returns-in-Err : goal.returns-in-Err
returns-in-Err g c =
    frame_acts g.B.Bank c.args.ins.now c.args.bank.now c.args.frame.now c.step_frame.new.frame c.args.public.now (Err c.in-Err.abend) c.requires.runs.going c.requires.runs.fits c.in-Err.ensures
