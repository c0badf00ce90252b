use Rattle.mc_bank.proofs.Commits.{slots_in_order, sites_in_order}
use Rattle.mc_manager.specs.ManagerState.{view_of}
use Rattle.mc_manager.proofs.CommitLemmas.{KeepsSlotsAndSites, fits_kept, session_state_kept}
use Rattle.mc_manager.proofs.laws.fits_through_commits.Goals as goal

pub returns-clause-fits : goal.returns-clause-fits
returns-clause-fits g c m cs b a e h fits =
    let v = view_of g.B.Bank b in
    let w = view_of g.B.Bank e in
    let keeps : KeepsSlotsAndSites v w =
    record {
      slots = slots_in_order g.B.Bank.did g.B.Bank.named g.met.B.Bank.keeps cs b a e h;
      sites = sites_in_order g.B.Bank.did g.B.Bank.state g.B.Bank.room g.B.Bank.site_bytes g.met.B.Bank.spares g.met.B.Bank.leaves cs b a e h;
    } in
    fits_kept v w m keeps fits

pub returns-clause-session_state : goal.returns-clause-session_state
returns-clause-session_state g c m cs b a e h fits s =
    let v = view_of g.B.Bank b in
    let w = view_of g.B.Bank e in
    let keeps : KeepsSlotsAndSites v w =
    record {
      slots = slots_in_order g.B.Bank.did g.B.Bank.named g.met.B.Bank.keeps cs b a e h;
      sites = sites_in_order g.B.Bank.did g.B.Bank.state g.B.Bank.room g.B.Bank.site_bytes g.met.B.Bank.spares g.met.B.Bank.leaves cs b a e h;
    } in
    session_state_kept v w m keeps fits s
