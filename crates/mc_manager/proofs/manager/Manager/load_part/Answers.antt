use Rattle.std.proofs.Common.{Option, refl, sym, ◌∙◌, ap}
use Rattle.std.specs.Prelude.{option_map}
use Rattle.std.proofs.lemmas.Result.{err_from_is_err_and}
use Rattle.model_card.specs.Manager.{first_status, load_refusals}
use Rattle.mc_apdu.specs.Command.{parts_of}
use Rattle.mc_manager.specs.Status.{word_of}
use Rattle.mc_manager.specs.ManagerState.{ManagerState, Loaded, view_of, open_of}
use Rattle.mc_manager.proofs.EndsLemmas.{load_refused, ends_refused, can_load, load_is_open, has_room, ends_loaded, ends_load_stopped}
use Rattle.mc_manager.proofs.manager.Manager.load_part.Goals as goal

pub returns-in-Some : goal.returns-in-Some
returns-in-Some g c =
    let v = view_of g.B.Bank c.args.bank.now in
    let load = ap (λ (m : ManagerState). m.load) c.self.view_is in
    ends_refused g.B.Bank.did _ v c.args.self.now c.args.bank.now c.say.new.reply (word_of c.in-Some.refusal)
    (load_refused v c.args.self.now c.self.inside.load c.args.part _ (word_of c.in-Some.refusal) load
    (c.load_refusal.ensures v (λ l is. c.requires.fits.load l (sym load ∙ is)) ∙ ap (option_map word_of) c.in-Some.is))
    c.say.ensures c.requires.going c.requires.fits

pub returns-in_default-load : goal.returns-in_default-load
returns-in_default-load g c =
    let v = view_of g.B.Bank c.args.bank.now in
    let load = ap (λ (m : ManagerState). m.load) c.self.view_is in
    absurd (load_is_open c.args.part (parts_of c.args.apdu.now)
    (ap (λ (x : Option Loaded). first_status (load_refusals (option_map (open_of v.site_bytes) x) c.args.part (parts_of c.args.apdu.now))) (sym c.in_default-load.is)
    ∙ c.load_refusal.ensures v (λ l is. c.requires.fits.load l (sym load ∙ is))
    ∙ ap (option_map word_of) c.in_default.is))

pub fill-requires-clause-fits : goal.fill-requires-clause-fits
fill-requires-clause-fits g c =
    let load = ap (λ (m : ManagerState). m.load) c.self.view_is in
    c.requires.fits.load c.in-Some-load.load (sym load ∙ c.in-Some-load.is)

pub fill-requires-clause-room : goal.fill-requires-clause-room
fill-requires-clause-room g c =
    let v = view_of g.B.Bank c.args.bank.now in
    let can = can_load v c.args.self.now c.self.inside.load c.in-Some-load.load c.args.part (parts_of c.args.apdu.now) (ap (λ (m : ManagerState). m.load) c.self.view_is) c.in-Some-load.is c.requires.fits
    (λ fits. c.load_refusal.ensures v fits ∙ ap (option_map word_of) c.in_default.is) in
    has_room v c.in-Some-load.load c.args.part (parts_of c.args.apdu.now) can.fits can.clear

pub returns-in_err-fill : goal.returns-in_err-fill
returns-in_err-fill g c =
    let v = view_of g.B.Bank c.args.bank.now in
    let w = view_of g.B.Bank c.fill.new.bank in
    let can = can_load v c.args.self.now c.self.inside.load c.in-Some-load.load c.args.part (parts_of c.args.apdu.now) (ap (λ (m : ManagerState). m.load) c.self.view_is) c.in-Some-load.is c.requires.fits
    (λ fits. c.load_refusal.ensures v fits ∙ ap (option_map word_of) c.in_default.is) in
    let p = err_from_is_err_and c.from_residual.result c.from_residual.ensures.1 in
    rw (p.1, p.2) (ends_load_stopped g.B.Bank.did v c.args.self.now c.in-Some-load.load c.args.part (parts_of c.args.apdu.now) c.args.bank.now c.in_err-fill.field-0.0 w _ c.fill.new.bank can
    c.in_err-fill.ensures.items c.in_err-fill.ensures.apps)

pub returns : goal.returns
returns g c =
    let v = view_of g.B.Bank c.args.bank.now in
    let w = view_of g.B.Bank c.fill.new.bank in
    let can = can_load v c.args.self.now c.self.inside.load c.in-Some-load.load c.args.part (parts_of c.args.apdu.now) (ap (λ (m : ManagerState). m.load) c.self.view_is) c.in-Some-load.is c.requires.fits
    (λ fits. c.load_refusal.ensures v fits ∙ ap (option_map word_of) c.in_default.is) in
    let filled = c.in_ok-fill.ensures in
    ends_loaded g.B.Bank.did v c.args.self.now c.in-Some-load.load c.args.part (parts_of c.args.apdu.now) c.args.bank.now c.say-2.new.reply w c.fill.new.load _ c.fill.new.bank can c.requires.fits
    filled.items filled.apps filled.slots filled.open filled.fits c.say-2.ensures (ap (λ (m : ManagerState). m.selected) c.self.view_is) refl
