-- What ran on a card goes on as well on another one with its roster, on which the same runs.
use Rattle.std.proofs.Common.{◌≡◌, ℕ, ◌≤◌, Bool, true, false, List, [], ◌∷◌, length, take, Option, Some, None, refl, sym, ◌∙◌, ap, subst, option_map, cond}
use Rattle.std.specs.Prelude.{◌==◌, bytes_eq, unwrap_or}
use Rattle.std.specs.Option.{ForSome}
use Rattle.std.proofs.lemmas.List.{length-take-le}
use Rattle.law_explore.specs.model_device.specs.Bytes.{lookup}
use Rattle.law_explore.specs.model_device.specs.Card.{App, Card, means}
use Rattle.law_explore.specs.model_device.specs.PowerUp.{Base, OnCard, AtFault, base_of}
use Rattle.law_explore.specs.model_device.specs.Layout.{fault}
use Rattle.law_explore.specs.model_device.specs.declared.cause.Cause.{Cause}
use Rattle.law_explore.specs.model_card.specs.declared.card.Part.{Part}
use Rattle.law_explore.specs.model_card.specs.declared.card.Part.TheVariants.{Code, Data, Dir, Fci}
use Rattle.law_explore.specs.model_card.specs.declared.card.Sizes.{Sizes}
use Rattle.law_explore.specs.model_card.specs.Items.{Site}
use Rattle.law_explore.specs.model_card.specs.Manager.{Selected, Open, SessionState}
use Rattle.law_explore.specs.model_play.specs.Play as play
use Rattle.law_explore.specs.model_play.specs.Play.{Running, Unpowered, Muted}
use Rattle.mc_bank.specs.Bank.{app_of, no_app, sizes_of, part_len}
use Rattle.mc_bank.specs.Slots.{slot_place, name_of_slot}
use Rattle.mc_bank.specs.SlotLaws.{slot_stays}
use Rattle.mc_store.specs.Store.{apps_in, name_of_place, store_named, store_site_bytes}
use Rattle.mc_store.specs.GoingLaws.{laid_apps}
use Rattle.mc_store.specs.Power.{base_of_words}
use Rattle.mc_manager.specs.ManagerState.{Loaded, ManagerState, FitsLoad, got_at, got_len, load_of, open_of, selected_of}
use Rattle.mc_card.specs.Saved.{SavedState, FitsWords, device_with, session_state_on, view_of_words}
use Rattle.mc_script.specs.declared.live.Live.{Live}
use Rattle.mc_script.specs.declared.live.Live.TheVariants as live
use Rattle.mc_script.specs.Lives.{LiveShows}
use Rattle.lab_branch.specs.Rosters.{ResidentValue, resident_of, roster_of}
use Rattle.lab_key.specs.Shown.{IsShown, IsKeptBase}
use Rattle.lab_key.specs.KeyOf.{apps_of_base}

-- ---- applications with one roster

heads : (x y : ResidentValue) (xs ys : List ResidentValue) → x ∷ xs ≡ y ∷ ys → (x ≡ y) × (xs ≡ ys)
heads x y xs ys h = (cc, cc)

-- they have the same names at the same places
places_alike : (es fs : List (List ℕ × App)) (k : ℕ) → roster_of es ≡ roster_of fs → name_of_place es k ≡ name_of_place fs k
places_alike [] [] k h = refl
places_alike [] (f ∷ fs) k h = absurd (cc h)
places_alike (e ∷ es) [] k h = absurd (cc h)
places_alike (e ∷ es) (f ∷ fs) k h =
    let p = heads (resident_of e) (resident_of f) (roster_of es) (roster_of fs) h in
    let one : resident_of e ≡ resident_of f = p.0 in
    let rest : name_of_place es k ≡ name_of_place fs k = places_alike es fs k p.1 in
    λ i. cond ((one i).place == k) (Some (one i).name) (rest i)

-- an application as a resident with a name
abbrev named_so : List ℕ → Option App → ResidentValue
named_so n o = resident_of (n, unwrap_or o no_app)

-- under each name they have the same application, but for its static bytes
apps_alike : (es fs : List (List ℕ × App)) (n : List ℕ) → roster_of es ≡ roster_of fs → named_so n (lookup es n) ≡ named_so n (lookup fs n)
apps_alike [] [] n h = refl
apps_alike [] (f ∷ fs) n h = absurd (cc h)
apps_alike (e ∷ es) [] n h = absurd (cc h)
apps_alike (e ∷ es) (f ∷ fs) n h =
    let p = heads (resident_of e) (resident_of f) (roster_of es) (roster_of fs) h in
    let name : e.0 ≡ f.0 = ap (λ (r : ResidentValue). r.name) p.0 in
    by (bytes_eq e.0 n) p.0 (apps_alike es fs n p.1) ∙ ap (λ (x : List ℕ). named_so n (cond (bytes_eq x n) (Some f.1) (lookup fs n))) name
  where
    by : (t : Bool) → resident_of e ≡ resident_of f → named_so n (lookup es n) ≡ named_so n (lookup fs n)
        → named_so n (cond t (Some e.1) (lookup es n)) ≡ named_so n (cond t (Some f.1) (lookup fs n))
    by true one rest =
        λ i. record { name = n; place = (one i).place; session = (one i).session; deny = (one i).deny; code = (one i).code; fixed = (one i).fixed; dir = (one i).dir; fci = (one i).fci }
    by false one rest = rest

sizes_alike : (es fs : List (List ℕ × App)) (n : List ℕ) → roster_of es ≡ roster_of fs → sizes_of (app_of es (Some n)) ≡ sizes_of (app_of fs (Some n))
sizes_alike es fs n h =
    let one : named_so n (lookup es n) ≡ named_so n (lookup fs n) = apps_alike es fs n h in
    λ i. record { code = length (one i).code; fixed = (one i).fixed; init = (one i).fixed; session = (one i).session; dir = length (one i).dir; fci = length (one i).fci; deny = (one i).deny }

-- ---- words that hold a card

card_is : (c d : Card) → OnCard c ≡ OnCard d → c ≡ d
card_is c d h = cc

-- they hold its applications
pub record HoldsApps (m : List (List ℕ)) (c : Card) : Type 0 where
  pub means_are : (means m).apps ≡ c.apps
  pub in_are : apps_in m ≡ c.apps

holds_by : (m : List (List ℕ)) (c : Card) (o : Option (Cause × ℕ)) → fault m ≡ o → base_of o m ≡ OnCard c → HoldsApps m c
holds_by m c None none is =
    let apps : (means m).apps ≡ c.apps = ap (λ (d : Card). d.apps) (card_is (means m) c is) in
    record { means_are = apps; in_are = laid_apps m none ∙ apps }
holds_by m c (Some f) none is = absurd (cc is)

-- ---- open loads

one_open : (a b : Open) → Some a ≡ Some b → a ≡ b
one_open a b h = cc

module _ (m n : List (List ℕ)) where
  -- what a section has received has its number of bytes
  got_length : (w : List (List ℕ)) (l : Loaded) (p : Part) → FitsLoad (view_of_words w) l → length (got_at (store_site_bytes (device_with w)) l p) ≡ got_len p l
  got_length w l p fits =
      let all : length (store_site_bytes (device_with w) l.site p) ≡ part_len p l.site.sizes = fits.parts p in
      length-take-le (got_len p l) (store_site_bytes (device_with w) l.site p) (subst (λ (k : ℕ). got_len p l ≤ k) (sym all) (fits.within p))

  -- open loads that are one are saved as one
  one_load : (l k : Loaded) → FitsLoad (view_of_words m) l → FitsLoad (view_of_words n) k → open_of (store_site_bytes (device_with m)) l ≡ open_of (store_site_bytes (device_with n)) k → l ≡ k
  one_load l k a b h =
      let site : l.site ≡ k.site = ap (λ (o : Open). o.site) h in
      let code : l.code ≡ k.code = sym (got_length m l Code a) ∙ ap (λ (o : Open). length (o.got).code) h ∙ got_length n k Code b in
      let init : l.init ≡ k.init = sym (got_length m l Data a) ∙ ap (λ (o : Open). length (o.got).init) h ∙ got_length n k Data b in
      let fci : l.fci ≡ k.fci = sym (got_length m l Fci a) ∙ ap (λ (o : Open). length (o.got).fci) h ∙ got_length n k Fci b in
      let dir : l.dir ≡ k.dir = sym a.dir ∙ ap (λ (o : Open). (o.got).dir) h ∙ b.dir in
      λ i. record { site = site i; code = code i; init = init i; dir = dir i; fci = fci i }

  loads_alike : (o q : Option Loaded) → ForSome o (FitsLoad (view_of_words m)) → ForSome q (FitsLoad (view_of_words n))
      → option_map (open_of (store_site_bytes (device_with m))) o ≡ option_map (open_of (store_site_bytes (device_with n))) q → o ≡ q
  loads_alike None None a b h = refl
  loads_alike None (Some k) a b h = absurd (cc h)
  loads_alike (Some l) None a b h = absurd (cc h)
  loads_alike (Some l) (Some k) a b h =
      let same = one_open (open_of (store_site_bytes (device_with m)) l) (open_of (store_site_bytes (device_with n)) k) h in
      ap (λ (x : Loaded). Some x) (one_load l k (a l refl) (b k refl) same)

-- ---- session states

-- a session state that was saved fits words that hold a card with its roster, and on them it is the same one
pub record GoesOn (n : List (List ℕ)) (s : SavedState) (v : SessionState) : Type 0 where
  pub fits : FitsWords n s
  pub is : session_state_on n s ≡ v

module _ (m n : List (List ℕ)) (c d : Card) (s t : SavedState) (v : SessionState) where
  goes_on : HoldsApps m c → HoldsApps n d → roster_of c.apps ≡ roster_of d.apps → FitsWords m s → FitsWords n t → session_state_on m s ≡ v → session_state_on n t ≡ v → GoesOn n s v
  goes_on here there roster a b first second =
      let loads : s.manager.load ≡ t.manager.load =
      loads_alike m n s.manager.load t.manager.load a.manager.load b.manager.load (ap (λ (x : SessionState). x.load) (first ∙ sym second)) in
      let selected : selected_of s.session s.manager ≡ v.selected = ap (λ (x : SessionState). x.selected) first in
      let load : load_of (store_site_bytes (device_with n)) s.manager ≡ v.load =
      ap (λ (o : Option Loaded). option_map (open_of (store_site_bytes (device_with n))) o) loads ∙ ap (λ (x : SessionState). x.load) second in
      let in_apps : roster_of (apps_in m) ≡ roster_of (apps_in n) = ap roster_of here.in_are ∙ roster ∙ sym (ap roster_of there.in_are) in
      let names : (k : ℕ) → store_named (device_with n) k ≡ store_named (device_with m) k =
      λ k. slot_stays (apps_in m) (apps_in n) k (name_of_place (apps_in n) (slot_place k)) (λ x. sym (sizes_alike (apps_in m) (apps_in n) x in_apps))
      ∙ ap (λ (o : Option (List ℕ)). name_of_slot (apps_in m) k o) (sym (places_alike (apps_in m) (apps_in n) (slot_place k) in_apps)) in
      let means_apps : roster_of (means m).apps ≡ roster_of (means n).apps = ap roster_of here.means_are ∙ roster ∙ sym (ap roster_of there.means_are) in
      record {
        fits = record {
          manager = record {
            selected = λ x there_is. names x.slot ∙ a.manager.selected x there_is;
            load = λ x there_is. b.manager.load x (sym loads ∙ there_is);
          };
          session = λ x there_is. a.session x there_is ∙ ap (λ (r : ResidentValue). r.session) (apps_alike (means m).apps (means n).apps x.aid means_apps);
        };
        is = λ i. record { selected = selected i; load = load i };
      }

-- ---- what runs

not_running : (x : SessionState) (l : play.Live) → l ≡ Running x → l ≡ Unpowered → ⊥
not_running x l h k = absurd (cc (sym h ∙ k))

not_muted : (x : SessionState) (l : play.Live) → l ≡ Running x → l ≡ Muted → ⊥
not_muted x l h k = absurd (cc (sym h ∙ k))

one_running : (x y : SessionState) → Running x ≡ Running y → x ≡ y
one_running x y h = cc

module _ (m n : List (List ℕ)) where
  running_shared : (s t : SavedState) (b c : Base) (l : play.Live) (x : SessionState) → l ≡ Running x → IsShown m (live.Running s) b l → IsShown n (live.Running t) c l
      → IsKeptBase (Running x) b → IsKeptBase (Running x) c → roster_of (apps_of_base b) ≡ roster_of (apps_of_base c) → LiveShows n (live.Running s) l
  running_shared s t (OnCard c) (OnCard d) l x is h k kb kc roster =
      let first : session_state_on m s ≡ x = one_running _ _ (sym h.live.runs ∙ is) in
      let second : session_state_on n t ≡ x = one_running _ _ (sym k.live.runs ∙ is) in
      let on = goes_on m n c d s t x (holds_by m c (fault m) refl h.holds.base) (holds_by n d (fault n) refl k.holds.base) roster h.live.fits k.live.fits first second in
      record { fits = on.fits; runs = is ∙ ap (λ (v : SessionState). Running v) (sym on.is) }
  running_shared s t (AtFault cause place) c l x is h k kb kc roster = absurd kb
  running_shared s t (OnCard c) (AtFault cause place) l x is h k kb kc roster = absurd kc

  -- what was saved of the first runs on the second
  pub live_shared : (s t : Live) (b c : Base) (l : play.Live) → IsShown m s b l → IsShown n t c l → roster_of (apps_of_base b) ≡ roster_of (apps_of_base c) → LiveShows n s l
  live_shared live.Unpowered t b c l h k roster = h.live
  live_shared live.Muted t b c l h k roster = h.live
  live_shared (live.Running s) (live.Running t) b c l h k roster =
      let is = h.live.runs in
      running_shared s t b c l (session_state_on m s) is h k (subst (λ (v : play.Live). IsKeptBase v b) is h.base) (subst (λ (v : play.Live). IsKeptBase v c) is k.base) roster
  live_shared (live.Running s) live.Unpowered b c l h k roster = absurd (not_running (session_state_on m s) l h.live.runs k.live)
  live_shared (live.Running s) live.Muted b c l h k roster = absurd (not_muted (session_state_on m s) l h.live.runs k.live)
