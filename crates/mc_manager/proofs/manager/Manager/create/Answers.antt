use Rattle.std.proofs.Common.{refl, sym, ◌∙◌, ap}
use Rattle.std.proofs.lemmas.Result.{err_from_is_err_and}
use Rattle.mc_apdu.specs.Command.{parts_of}
use Rattle.mc_manager.specs.ManagerState.{ManagerState, view_of}
use Rattle.mc_manager.proofs.EndsLemmas.{can_enter, ends_created, ends_create_stopped}
use Rattle.mc_manager.proofs.manager.Manager.create.Goals as goal

pub creation-requires-clause-fits : goal.creation-requires-clause-fits
creation-requires-clause-fits g c =
    let load = ap (λ (m : ManagerState). m.load) c.self.view_is in
    λ l is. c.requires.fits.load l (sym load ∙ is)

pub returns-in_err-create : goal.returns-in_err-create
returns-in_err-create g c =
    let v = view_of g.B.Bank c.args.bank.now in
    let w = view_of g.B.Bank c.create.new.self in
    let can = can_enter v c.args.self.now c.self.inside.load c.in-Some.load c.in-Ok.aid (parts_of c.args.apdu.now) (ap (λ (m : ManagerState). m.load) c.self.view_is) c.in-Some.is c.requires.fits c.in-Ok.ensures.created in
    let p = err_from_is_err_and c.from_residual.result c.from_residual.ensures.1 in
    rw (p.1, p.2) (ends_create_stopped g.B.Bank.did v c.args.self.now c.in-Some.load c.in-Ok.aid (parts_of c.args.apdu.now) c.args.bank.now c.in_err-create.field-0.0 w c.args.self.now c.create.new.self c.site.result.now c.site.ensures can
    c.in_err-create.ensures.items c.in_err-create.ensures.apps)

pub returns : goal.returns
returns g c =
    let v = view_of g.B.Bank c.args.bank.now in
    let w = view_of g.B.Bank c.create.new.self in
    let can = can_enter v c.args.self.now c.self.inside.load c.in-Some.load c.in-Ok.aid (parts_of c.args.apdu.now) (ap (λ (m : ManagerState). m.load) c.self.view_is) c.in-Some.is c.requires.fits c.in-Ok.ensures.created in
    ends_created g.B.Bank.did v c.args.self.now c.in-Some.load c.in-Ok.aid (parts_of c.args.apdu.now) c.args.bank.now c.say-2.new.reply w _ c.create.new.self c.site.result.now c.site.ensures can c.requires.fits
    c.in_ok-create.ensures.items c.in_ok-create.ensures.apps c.in_ok-create.ensures.slots c.say-2.ensures (ap (λ (m : ManagerState). m.selected) c.self.view_is) refl
