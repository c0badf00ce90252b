use Rattle.std.proofs.Common.{refl, ap}
use Rattle.mc_apdu.specs.Command.{parts_of}
use Rattle.mc_manager.specs.ManagerState.{ManagerState, view_of}
use Rattle.mc_manager.proofs.EndsLemmas.{ends_deleted}
use Rattle.mc_manager.proofs.manager.Manager.delete.Goals as goal

pub returns : goal.returns
returns g c =
    let v = view_of g.B.Bank c.args.bank.now in
    let w = view_of g.B.Bank c.delete.new.self in
    let selected = ap (λ (m : ManagerState). m.selected) c.self.view_is in
    ends_deleted g.B.Bank.did v c.args.self.now c.self.inside.selected (parts_of c.args.apdu.now) c.in-Ok.slot c.args.bank.now c.say-2.new.reply w _ c.delete.new.self selected c.in-Ok.ensures.deleted c.requires.fits
    c.in_ok-delete.ensures.items c.in_ok-delete.ensures.apps c.in_ok-delete.ensures.slots c.say-2.ensures selected refl
