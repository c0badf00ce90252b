use Rattle.std.proofs.Common.{refl, ap}
use Rattle.mc_apdu.specs.Command.{parts_of}
use Rattle.mc_manager.specs.ManagerState.{ManagerState, view_of}
use Rattle.mc_manager.proofs.EndsLemmas.{ends_selected}
use Rattle.mc_manager.proofs.manager.Manager.select.Goals as goal

pub returns : goal.returns
returns g c =
    let v = view_of g.B.Bank c.args.bank.now in
    ends_selected g.B.Bank.did v c.args.self.now c.in-Ok.selection (parts_of c.args.apdu.now) c.args.bank.now c.say_selected.new.reply _ c.in-Ok.ensures.selected c.requires.fits c.requires.going c.say_selected.ensures
    refl (ap (λ (m : ManagerState). m.load) c.self.view_is)
