-- Two keys are equal, by the test of the code, exactly if they are those of one state.
use Rattle.std.proofs.Common.{◌≡◌, ℕ, Bool, true, false, ◌&&◌, List, [], Some, refl, sym, ◌∙◌, ap, subst, slice_get}
use Rattle.std.specs.Prelude.{◌==◌, bytes_eq}
use Rattle.std.proofs.lemmas.Bool.{and_parts, eqb-true, eq-eqb}
use Rattle.law_explore.specs.model_device.specs.Card.{App}
use Rattle.law_explore.specs.model_device.specs.PowerUp.{Base, OnCard, AtFault}
use Rattle.law_explore.specs.model_card.specs.Manager.{SessionState}
use Rattle.law_explore.specs.model_play.specs.Play as play
use Rattle.law_explore.specs.model_play.specs.Play.{Running, Unpowered, Muted}
use Rattle.law_explore.specs.States as state
use Rattle.law_explore.specs.States.{is_same_base, is_same_live, is_same_state}
use Rattle.law_explore.proofs.SameStates.{state_is}
use Rattle.lab_branch.specs.declared.roster.Roster.{Roster}
use Rattle.lab_branch.specs.Rosters.{roster_value, roster_of, statics_of}
use Rattle.lab_branch.proofs.SameRosters.{one_number}
use Rattle.lab_branch.proofs.SameCards.{one_card}
use Rattle.lab_key.specs.declared.key.LiveKey.{LiveKey}
use Rattle.lab_key.specs.declared.key.LiveKey.TheVariants as key
use Rattle.lab_key.specs.declared.key.CardKey.{CardKey}
use Rattle.lab_key.specs.contracts.key.LiveKeyPartialEq.TheImpl as live_key
use Rattle.lab_key.specs.Sessions.{session_value}
use Rattle.lab_key.specs.Keys.{live_value, KeyShows}
use Rattle.lab_key.specs.Shown.{IsKeptBase}
use Rattle.lab_key.specs.KeyOf.{KeyOf, AreOfOneDevice, apps_of_base, card_key_eq}
use Rattle.lab_key.proofs.SameSessions.{both, same_bytes, equal_bytes, session_same, session_equal}
use Rattle.lab_key.proofs.Reflexive.{base_self, live_self}

-- ---- what runs

-- whether what runs is equal, by the test of the code
abbrev pub live_eq : LiveKey → LiveKey → Bool
live_eq = (live_key.ghosts).eq

pub live_same : (a b : LiveKey) → live_eq a b ≡ true → live_value a ≡ live_value b
live_same key.Unpowered key.Unpowered h = refl
live_same key.Muted key.Muted h = refl
live_same (key.Running s) (key.Running t) h = ap (λ (x : SessionState). Running x) (session_same s t h)
live_same key.Unpowered key.Muted h = absurd (cc h)
live_same key.Unpowered (key.Running t) h = absurd (cc h)
live_same key.Muted key.Unpowered h = absurd (cc h)
live_same key.Muted (key.Running t) h = absurd (cc h)
live_same (key.Running s) key.Unpowered h = absurd (cc h)
live_same (key.Running s) key.Muted h = absurd (cc h)

one_session : (s t : SessionState) → Running s ≡ Running t → s ≡ t
one_session s t h = cc

pub live_equal : (a b : LiveKey) → live_value a ≡ live_value b → live_eq a b ≡ true
live_equal key.Unpowered key.Unpowered h = refl
live_equal key.Muted key.Muted h = refl
live_equal (key.Running s) (key.Running t) h = session_equal s t (one_session (session_value s) (session_value t) h)
live_equal key.Unpowered key.Muted h = absurd (cc h)
live_equal key.Unpowered (key.Running t) h = absurd (cc h)
live_equal key.Muted key.Unpowered h = absurd (cc h)
live_equal key.Muted (key.Running t) h = absurd (cc h)
live_equal (key.Running s) key.Unpowered h = absurd (cc h)
live_equal (key.Running s) key.Muted h = absurd (cc h)

-- ---- bases

-- bases of one device with the same applications, on which the same runs, are one
one_base : (l : play.Live) (b c : Base) → IsKeptBase l b → IsKeptBase l c → AreOfOneDevice b c → apps_of_base b ≡ apps_of_base c → b ≡ c
one_base l (AtFault cause place) (AtFault other at) h k alike apps = alike
one_base (Running s) (OnCard c) (OnCard d) h k alike apps =
    let layout : c.layout ≡ d.layout = h ∙ sym k in
    let size : c.size ≡ d.size = alike in
    let all : c.apps ≡ d.apps = apps in
    λ i. OnCard (record { size = size i; layout = layout i; apps = all i })
one_base (Running s) (OnCard c) (AtFault cause place) h k alike apps = absurd k
one_base (Running s) (AtFault cause place) (OnCard d) h k alike apps = absurd h
one_base Unpowered (OnCard c) d h k alike apps = absurd h
one_base Muted (OnCard c) d h k alike apps = absurd h
one_base Unpowered (AtFault cause place) (OnCard d) h k alike apps = absurd k
one_base Muted (AtFault cause place) (OnCard d) h k alike apps = absurd k

-- ---- keys

some_is : (a b : Roster) → Some a ≡ Some b → a ≡ b
some_is a b h = cc

-- equal keys are of the same applications, and the same runs
module _ (rs : List Roster) (k j : CardKey) (xs ys : List (List ℕ × App)) (l m : play.Live) (p : KeyShows rs k xs l) (q : KeyShows rs j ys m) where
  shows_same : card_key_eq k j ≡ true → (xs ≡ ys) × (l ≡ m)
  shows_same h =
      let rest = bytes_eq k.statics.items j.statics.items && live_eq k.live j.live in
      let first = and_parts (k.roster == j.roster) rest h in
      let second = and_parts (bytes_eq k.statics.items j.statics.items) (live_eq k.live j.live) first.1 in
      let number : k.roster ≡ j.roster = eqb-true k.roster j.roster first.0 in
      let roster : p.roster ≡ q.roster = some_is p.roster q.roster (sym p.found ∙ ap (λ (n : ℕ). slice_get rs n) number ∙ q.found) in
      let value : roster_of xs ≡ roster_of ys = sym p.value ∙ ap (λ (r : Roster). roster_value r) roster ∙ q.value in
      let statics : statics_of xs ≡ statics_of ys = sym p.statics ∙ same_bytes k.statics.items j.statics.items second.0 ∙ q.statics in
      (one_card xs ys value statics, sym p.live ∙ live_same k.live j.live second.1 ∙ q.live)

-- ---- states

-- a state without allowances
abbrev bare : Base → play.Live → state.CardState
bare b l = record { base = b; live = l; budget = 0; allowances = [] }

bare_same : (b c : Base) (l m : play.Live) → (is_same_base b c && is_same_live l m) ≡ true → is_same_state (bare b l) (bare c m) ≡ true
unfolding is_same_state
bare_same b c l m h =
    let p = and_parts (is_same_base b c) (is_same_live l m) h in
    both _ _ (both _ _ p.1 refl) p.0

pub same_truth : (x y : Bool) → (x ≡ true → y ≡ true) → (y ≡ true → x ≡ true) → x ≡ y
same_truth true y f g = sym (f refl)
same_truth false true f g = g refl
same_truth false false f g = refl

-- bases and what runs that are the same by the test are equal
pub same_both : (b c : Base) (l m : play.Live) → (is_same_base b c && is_same_live l m) ≡ true → (b ≡ c) × (l ≡ m)
same_both b c l m h =
    let one : bare b l ≡ bare c m = state_is (bare b l) (bare c m) (bare_same b c l m h) in
    (ap (λ (s : state.CardState). s.base) one, ap (λ (s : state.CardState). s.live) one)

-- a key that is equal to that of a card is the key of the card, too
pub key_alike : (rs : List Roster) (k j : CardKey) (b : Base) (l : play.Live) → KeyOf rs k b l → card_key_eq k j ≡ true → KeyOf rs j b l
key_alike rs k j b l h e =
    let rest = bytes_eq k.statics.items j.statics.items && live_eq k.live j.live in
    let first = and_parts (k.roster == j.roster) rest e in
    let second = and_parts (bytes_eq k.statics.items j.statics.items) (live_eq k.live j.live) first.1 in
    record {
      shows = record {
        roster = h.shows.roster;
        found = ap (λ (n : ℕ). slice_get rs n) (sym (eqb-true k.roster j.roster first.0)) ∙ h.shows.found;
        value = h.shows.value;
        statics = sym (same_bytes k.statics.items j.statics.items second.0) ∙ h.shows.statics;
        live = sym (live_same k.live j.live second.1) ∙ h.shows.live;
      };
      base = h.base;
      distinct = h.distinct;
    }

pub key_same : (rs : List Roster) (k j : CardKey) (b c : Base) (l m : play.Live) → KeyOf rs k b l → KeyOf rs j c m → AreOfOneDevice b c → card_key_eq k j ≡ (is_same_base b c && is_same_live l m)
key_same rs k j b c l m p q alike = same_truth (card_key_eq k j) (is_same_base b c && is_same_live l m) there back
  where
    there : card_key_eq k j ≡ true → (is_same_base b c && is_same_live l m) ≡ true
    there h =
        let same = shows_same rs k j (apps_of_base b) (apps_of_base c) l m p.shows q.shows h in
        let live : l ≡ m = same.1 in
        let base : b ≡ c = one_base m b c (subst (λ (v : play.Live). IsKeptBase v b) live p.base) q.base alike same.0 in
        both _ _ (subst (λ (d : Base). is_same_base b d ≡ true) base (base_self b)) (subst (λ (v : play.Live). is_same_live l v ≡ true) live (live_self l))

    back : (is_same_base b c && is_same_live l m) ≡ true → card_key_eq k j ≡ true
    back h =
        let one = same_both b c l m h in
        let base : b ≡ c = one.0 in
        let live : l ≡ m = one.1 in
        let apps : apps_of_base b ≡ apps_of_base c = ap apps_of_base base in
        let value : roster_value p.shows.roster ≡ roster_value q.shows.roster = p.shows.value ∙ ap roster_of apps ∙ sym q.shows.value in
        let number : k.roster ≡ j.roster = one_number rs k.roster j.roster p.shows.roster q.shows.roster p.distinct p.shows.found q.shows.found value in
        let statics : k.statics.items ≡ j.statics.items = p.shows.statics ∙ ap statics_of apps ∙ sym q.shows.statics in
        both _ _ (eq-eqb k.roster j.roster number)
        (both _ _ (equal_bytes k.statics.items j.statics.items statics) (live_equal k.live j.live (p.shows.live ∙ live ∙ sym q.shows.live)))
