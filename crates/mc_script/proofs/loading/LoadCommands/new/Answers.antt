use Rattle.mc_unit.specs.Parts.{parts_of}
use Rattle.mc_script.proofs.SendLemmas.{load_managed}
use Rattle.mc_script.proofs.StepLemmas.{load_opens}
use Rattle.mc_script.proofs.loading.LoadCommands.new.Goals as goal

pub returns-clause-managed : goal.returns-clause-managed
returns-clause-managed c = rw (c.open_command.ensures, c.new.ensures, c.new-2.ensures, c.new-3.ensures, c.new-4.ensures) (load_managed (parts_of c.args.unit.now) c.args.fixed c.args.session)

pub returns-clause-opens : goal.returns-clause-opens
returns-clause-opens c = rw (c.new.ensures, c.new-2.ensures, c.new-3.ensures, c.new-4.ensures) (load_opens (parts_of c.args.unit.now) c.args.fixed c.args.session)
