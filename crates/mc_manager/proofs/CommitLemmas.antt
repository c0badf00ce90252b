-- A manager that fits a bank fits it after commits.
use Rattle.std.proofs.Common.{◌≡◌, ℕ, List, length, take, Option, Some, None, refl, ap, ◌∙◌}
use Rattle.std.specs.Prelude.{option_map}
use Rattle.std.specs.Option.{ForSome}
use Rattle.model_card.specs.declared.card.Part.{Part}
use Rattle.model_card.specs.declared.card.Part.TheVariants.{Code, Data, Dir, Fci}
use Rattle.model_card.specs.Items.{Site}
use Rattle.model_card.specs.Manager.{Open}
use Rattle.mc_bank.specs.Bank.{IsGoodSite}
use Rattle.mc_manager.specs.ManagerState.{BankView, Loaded, ManagerState, open_of, session_state_of, FitsLoad, ManagerFits}

-- every slot keeps its name, and every good site is good and keeps its bytes
pub record KeepsSlotsAndSites (v w : BankView) : Type 0 where
  pub slots : (k : ℕ) (n : List ℕ) → v.named k ≡ Some n → w.named k ≡ Some n
  pub sites : (s : Site) → IsGoodSite v.state.apps v.room s → IsGoodSite w.state.apps w.room s × ((p : Part) → w.site_bytes s p ≡ v.site_bytes s p)

load_kept : (v w : BankView) (l : Loaded) → KeepsSlotsAndSites v w → FitsLoad v l → FitsLoad w l
load_kept v w l h fits =
    let site = h.sites l.site fits.good in
    record {
      good = site.0;
      parts = λ p. ap length (site.1 p) ∙ fits.parts p;
      within = fits.within;
      dir = ap (take (length l.dir)) (site.1 Dir) ∙ fits.dir;
    }

pub fits_kept : (v w : BankView) (m : ManagerState) → KeepsSlotsAndSites v w → ManagerFits v m → ManagerFits w m
fits_kept v w m h fits = record { selected = λ s is. h.slots s.slot s.aid (fits.selected s is); load = λ l is. load_kept v w l h (fits.load l is) }

open_kept : (v w : BankView) (l : Loaded) → KeepsSlotsAndSites v w → FitsLoad v l → open_of w.site_bytes l ≡ open_of v.site_bytes l
open_kept v w l h fits =
    let site = h.sites l.site fits.good in
    let code = site.1 Code in
    let init = site.1 Data in
    let dir = site.1 Dir in
    let fci = site.1 Fci in
    cc

pub session_state_kept : (v w : BankView) (m : ManagerState) → KeepsSlotsAndSites v w → ManagerFits v m → (s : List ℕ) → session_state_of w.site_bytes s m ≡ session_state_of v.site_bytes s m
session_state_kept v w m h fits s = ap (λ (x : Option Open). record (session_state_of v.site_bytes s m) { load = x }) (by_load m.load fits.load)
  where
    by_load : (x : Option Loaded) → ForSome x (FitsLoad v) → option_map (open_of w.site_bytes) x ≡ option_map (open_of v.site_bytes) x
    by_load None f = refl
    by_load (Some l) f = ap (λ (o : Open). Some o) (open_kept v w l h (f l refl))
