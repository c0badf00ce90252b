-- What words show can be read from them, and a key that shows it is the key of the base.
use Rattle.std.proofs.Common.{◌≡◌, ℕ, ◌+◌, List, length, Option, Some, None, refl, sym, ◌∙◌, ap, subst, arith}
use Rattle.std.specs.List.{IsDistinct}
use Rattle.law_explore.specs.model_device.specs.Image.{Look, Refused, Closed, Pending, look, debt}
use Rattle.law_explore.specs.model_device.specs.Card.{App, Card, means}
use Rattle.law_explore.specs.model_device.specs.PowerUp.{Base, OnCard, AtFault, base_of}
use Rattle.law_explore.specs.model_device.specs.Layout.{fault, fault_of, words_fault}
use Rattle.law_explore.specs.model_device.specs.declared.cause.Cause.{Cause}
use Rattle.law_explore.specs.model_device.proofs.LayoutLemmas.{closed_fault, closed_means}
use Rattle.law_explore.specs.model_play.specs.Play as play
use Rattle.law_explore.specs.model_play.specs.Play.{Running, Unpowered, Muted}
use Rattle.mc_store.specs.Power.{base_of_words}
use Rattle.lab_branch.specs.declared.roster.Roster.{Roster}
use Rattle.lab_branch.specs.Rosters.{roster_eq}
use Rattle.mc_script.specs.declared.live.Live.{Live}
use Rattle.mc_script.specs.declared.live.Live.TheVariants as live
use Rattle.mc_script.specs.Lives.{LiveShows}
use Rattle.lab_key.specs.declared.key.CardKey.{CardKey}
use Rattle.lab_key.specs.Sessions.{IsCard}
use Rattle.lab_key.specs.Shown.{IsShown, IsKeptBase, ShowsSome}
use Rattle.lab_key.specs.Keys.{IsReadable, apps_on, live_on, KeyShows}
use Rattle.lab_key.specs.KeyOf.{KeyOf, apps_of_base}

live_shown : (m : List (List ℕ)) (s : Live) (l : play.Live) → LiveShows m s l → live_on m s ≡ l
live_shown m live.Unpowered l h = sym h
live_shown m live.Muted l h = sym h
live_shown m (live.Running s) l h = sym h.runs

card_is : (c d : Card) → OnCard c ≡ OnCard d → c ≡ d
card_is c d h = cc

apps_by : (m : List (List ℕ)) (s : Live) (b : Base) → IsReadable m s → base_of_words m ≡ b → IsKeptBase (live_on m s) b → apps_on m s ≡ apps_of_base b
apps_by m live.Unpowered (AtFault cause place) r h k = refl
apps_by m live.Unpowered (OnCard c) r h k = absurd k
apps_by m live.Muted (AtFault cause place) r h k = refl
apps_by m live.Muted (OnCard c) r h k = absurd k
apps_by m (live.Running s) (AtFault cause place) r h k = absurd k
apps_by m (live.Running s) (OnCard c) r h k =
    let none : fault m ≡ None = closed_fault m r.0.closed ∙ r.0.laid in
    let base : OnCard (means m) ≡ OnCard c = sym (ap (λ (o : Option (Cause × ℕ)). base_of o m) none) ∙ h in
    ap (λ (d : Card). d.apps) (sym (closed_means m r.0.closed) ∙ card_is (means m) c base)

pub key_of_shown : (rs : List Roster) (k : CardKey) (m : List (List ℕ)) (s : Live) (b : Base) (l : play.Live) → IsReadable m s → IsShown m s b l → IsDistinct roster_eq rs → KeyShows rs k (apps_on m s) (live_on m s) → KeyOf rs k b l
key_of_shown rs k m s b l readable shown distinct shows =
    let runs : live_on m s ≡ l = live_shown m s l shown.live in
    let kept : IsKeptBase (live_on m s) b = subst (λ (v : play.Live). IsKeptBase v b) (sym runs) shown.base in
    let apps : apps_on m s ≡ apps_of_base b = apps_by m s b readable shown.holds.base kept in
    record {
      shows = subst (λ (es : List (List ℕ × App)). KeyShows rs k es l) apps (subst (λ (v : play.Live). KeyShows rs k (apps_on m s) v) runs shows);
      base = shown.base;
      distinct = distinct;
    }

-- ---- what can be read

module _ (m : List (List ℕ)) where
  closed_by : (l : Look) → look m ≡ l → (c : Card) → base_of (fault_of l m) m ≡ OnCard c → debt l ≡ 0 → look m ≡ Closed
  closed_by (Refused p) h c is owed = absurd (cc is)
  closed_by Closed h c is owed = h
  closed_by (Pending j ps) h c is owed = let more : length ps + 1 ≡ 0 = owed in absurd (omega (arith, more))

  laid_by : (o : Option (Cause × ℕ)) → words_fault m ≡ o → (c : Card) → base_of o m ≡ OnCard c → words_fault m ≡ None
  laid_by None h c is = h
  laid_by (Some f) h c is = absurd (cc is)

  -- words that hold a card, without writes that recovery still has to make
  card_there : (c : Card) → base_of_words m ≡ OnCard c → debt (look m) ≡ 0 → IsCard m
  card_there c is owed =
      let closed : look m ≡ Closed = closed_by (look m) refl c is owed in
      let faults : fault m ≡ words_fault m = closed_fault m closed in
      record { closed = closed; laid = laid_by (words_fault m) refl c (ap (λ (o : Option (Cause × ℕ)). base_of o m) (sym faults) ∙ is) }

  readable_by : (s : Live) (b : Base) → base_of_words m ≡ b → debt (look m) ≡ 0 → IsKeptBase (live_on m s) b → (l : play.Live) → LiveShows m s l → IsReadable m s
  readable_by live.Unpowered b is owed k l h = tt
  readable_by live.Muted b is owed k l h = tt
  readable_by (live.Running s) (OnCard c) is owed k l h = (card_there c is owed, h.fits)
  readable_by (live.Running s) (AtFault cause place) is owed k l h = absurd k

  pub readable : (s : Live) → ShowsSome m s → IsReadable m s
  readable s shows =
      let h : IsShown m s shows.0 shows.1 = shows.2 in
      readable_by s shows.0 h.holds.base h.holds.owed (subst (λ (v : play.Live). IsKeptBase v shows.0) (sym (live_shown m s shows.1 h.live)) h.base) shows.1 h.live
