-- What a section of an open load has received is the front of its place in the words.
use Rattle.std.proofs.Common.{◌≡◌, ℕ, ◌+◌, ◌≤◌, List, length, take, None, refl, sym, ◌∙◌, ap, subst, arith}
use Rattle.law_explore.specs.model_card.specs.declared.card.Part.{Part}
use Rattle.law_explore.specs.model_card.specs.declared.card.Part.TheVariants.{Code, Data, Dir, Fci}
use Rattle.law_explore.specs.model_device.specs.Bytes.{up}
use Rattle.law_explore.specs.model_device.specs.Card.{App, means, section}
use Rattle.law_explore.specs.model_device.specs.Device.{IsSized}
use Rattle.law_explore.specs.model_device.specs.Layout.{fault, gaps, first_fitting}
use Rattle.law_explore.specs.model_device.proofs.LayoutLemmas.{closed_fault}
use Rattle.law_explore.specs.model_card.specs.Items.{Site}
use Rattle.mc_bank.specs.Bank.{part_len, IsGoodSite}
use Rattle.mc_blocks.proofs.Sections.{section_front}
use Rattle.mc_store.specs.Store.{part_from, part_in, store_site_bytes, words_of_sizes, IsGoodIn}
use Rattle.mc_store.specs.GoingLaws.{closed_settled, laid_apps}
use Rattle.mc_store.specs.CreationLaws.{AtSite, at_site}
use Rattle.mc_manager.specs.ManagerState.{Loaded, FitsLoad, got_len, got_at}
use Rattle.mc_card.specs.Saved.{view_of_words, device_with}
use Rattle.lab_key.specs.Sessions.{IsCard}

-- a section ends within its site
part_ends : (p : Part) (s : Site) (end : ℕ) → s.sizes.init ≤ s.sizes.fixed → s.place + words_of_sizes s.sizes ≤ end → part_from p s.sizes s.place + up (part_len p s.sizes) 8 ≤ end
part_ends Code s end few h = omega (arith, h)
part_ends Data s end few h = omega (arith, h, few)
part_ends Dir s end few h = omega (arith, h)
part_ends Fci s end few h = omega (arith, h)

-- the bytes that a section has received
pub record ReadsPart (m : List (List ℕ)) (l : Loaded) (p : Part) : Type 0 where
  pub ends : part_from p l.site.sizes l.site.place + up (got_len p l) 8 ≤ length m
  pub bytes : section m (part_from p l.site.sizes l.site.place) (got_len p l) ≡ got_at (store_site_bytes (device_with m)) l p

section_in : (m : List (List ℕ)) (s : Site) (p : Part) → part_in m s p ≡ section m (part_from p s.sizes s.place) (part_len p s.sizes)
unfolding part_in
section_in m s p = refl

pub reads_part : (m : List (List ℕ)) (l : Loaded) (p : Part) → IsSized m → IsCard m → FitsLoad (view_of_words m) l → ReadsPart m l p
reads_part m l p image card fits =
    let s = l.site in
    let q = part_from p s.sizes s.place in
    let well : fault m ≡ None = closed_fault m card.closed ∙ card.laid in
    let good : IsGoodIn m s = subst (λ (es : List (List ℕ × App)). IsGoodSite es (λ z. first_fitting (words_of_sizes z) (gaps (means m))) s) (laid_apps m well) fits.good in
    let site : AtSite m s = at_site m s image card.closed well good in
    let all : q + up (part_len p s.sizes) 8 ≤ length m = part_ends p s (length m) good.limits.init site.ends in
    let few : got_len p l ≤ part_len p s.sizes = fits.within p in
    record {
      ends = omega (arith, all, few);
      bytes = sym (section_front m q (got_len p l) (part_len p s.sizes) image few all)
          ∙ ap (λ (b : List ℕ). take (got_len p l) b) (sym (ap (λ (n : List (List ℕ)). part_in n s p) (closed_settled m card.closed) ∙ section_in m s p));
    }
