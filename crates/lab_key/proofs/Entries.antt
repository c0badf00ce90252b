-- Cards that are kept: the entries of a new one, and what they leave of the others.
use Rattle.std.proofs.Common.{◌≡◌, ℕ, Bool, true, false, ◌&&◌, List, Vec, Option, Some, refl, sym, ◌∙◌, ap, subst, inl, inr, slice_get}
use Rattle.std.proofs.lemmas.Bool.{and_parts, eqb-true, eq-eqb}
use Rattle.std.specs.Prelude.{◌==◌, bytes_eq}
use Rattle.std.specs.declared.alloc.Global.{Global}
use Rattle.std.specs.List.{IsDistinct, position_or_len}
use Rattle.std.specs.Map.{keys_of}
use Rattle.indexmap.specs.IndexMap.{insert_entry}
use Rattle.law_explore.specs.model_device.specs.Image.{image_with}
use Rattle.law_explore.specs.model_device.specs.PowerUp.{Base, OnCard, AtFault}
use Rattle.law_explore.specs.model_play.specs.Play as play
use Rattle.law_explore.specs.States.{is_same_base, is_same_live}
use Rattle.lab_branch.specs.declared.roster.Roster.{Roster}
use Rattle.lab_branch.specs.Rosters.{roster_value, roster_of}
use Rattle.mc_script.specs.declared.live.Live.{Live}
use Rattle.lab_key.specs.declared.key.CardKey.{CardKey}
use Rattle.lab_key.specs.declared.key.PlaceKey.{PlaceKey}
use Rattle.lab_key.specs.declared.key.Stage.{Stage}
use Rattle.lab_key.specs.declared.kept.Rosters.{Rosters}
use Rattle.lab_key.specs.Shown.{IsShown}
use Rattle.lab_key.specs.KeyOf.{KeyOf, AreOfOneDevice, apps_of_base, card_key_eq}
use Rattle.lab_key.specs.Kept.{IsKeptCard, IsOfDevice, key_with, place_key_eq, stage_eq}
use Rattle.lab_key.proofs.SameKeys.{key_same, same_both, same_truth, key_alike, live_eq, live_same, live_equal}
use Rattle.lab_key.proofs.Reflexive.{base_self, live_self, bytes_self, self}
use Rattle.lab_key.proofs.SameSessions.{both}
use Rattle.lab_key.proofs.SharedLives.{live_shared}
use Rattle.lab_key.proofs.Tables.{PutsEntry, name_is, value_is, new_entry, old_entry, one_place}

-- the words that put a card back, each with its place
abbrev pub Words : Type 0
Words = Vec (ℕ × List ℕ) Global

-- keys that were read are those of their cards among other rosters, too
abbrev pub KeepsKeys : List Roster → List Roster → Type 0
KeepsKeys old new = (k : CardKey) (b : Base) (l : play.Live) → KeyOf old k b l → KeyOf new k b l

-- ---- keys in two parts

-- two keys of cards on equal stages have the same number and the same static bytes, if they are equal
pub record AreParts (s t : Stage) (k j : PlaceKey) : Type 0 where
  pub stages : stage_eq s t ≡ true
  pub statics : bytes_eq k.statics.items j.statics.items ≡ true

stage_parts : (s t : Stage) → stage_eq s t ≡ true → (s.roster ≡ t.roster) × (live_eq s.live t.live ≡ true)
stage_parts s t h =
    let p = and_parts (s.roster == t.roster) (live_eq s.live t.live) h in
    (eqb-true s.roster t.roster p.0, p.1)

place_parts : (k j : PlaceKey) → place_key_eq k j ≡ true → (k.stage ≡ j.stage) × (bytes_eq k.statics.items j.statics.items ≡ true)
place_parts k j h =
    let p = and_parts (k.stage == j.stage) (bytes_eq k.statics.items j.statics.items) h in
    (eqb-true k.stage j.stage p.0, p.1)

whole : (s t : Stage) (k j : PlaceKey) → AreParts s t k j → card_key_eq (key_with s k) (key_with t j) ≡ true
whole s t k j h =
    let p = and_parts (s.roster == t.roster) (live_eq s.live t.live) h.stages in
    both _ _ p.0 (both _ _ h.statics p.1)

parts : (s t : Stage) (k j : PlaceKey) → card_key_eq (key_with s k) (key_with t j) ≡ true → AreParts s t k j
parts s t k j h =
    let rest = bytes_eq k.statics.items j.statics.items && live_eq s.live t.live in
    let p = and_parts (s.roster == t.roster) rest h in
    let q = and_parts (bytes_eq k.statics.items j.statics.items) (live_eq s.live t.live) p.1 in
    record { stages = both _ _ p.0 q.1; statics = q.0 }

stage_self : (s : Stage) → stage_eq s s ≡ true
stage_self s = both _ _ (self s.roster) (live_equal s.live s.live refl)

place_self : (k : PlaceKey) → place_key_eq k k ≡ true
place_self k = both _ _ (self k.stage) (bytes_self k.statics.items)

some_is : (a b : Roster) → Some a ≡ Some b → a ≡ b
some_is a b h = cc

-- keys of equal stages are of cards with one roster, on which the same runs
one_stage : (rs : List Roster) (s t : Stage) (k j : PlaceKey) (b c : Base) (l m : play.Live) → KeyOf rs (key_with s k) b l → KeyOf rs (key_with t j) c m → stage_eq s t ≡ true
    → (roster_of (apps_of_base b) ≡ roster_of (apps_of_base c)) × (l ≡ m)
one_stage rs s t k j b c l m p q h =
    let e = stage_parts s t h in
    let x = p.shows in
    let y = q.shows in
    let roster : x.roster ≡ y.roster = some_is x.roster y.roster (sym x.found ∙ ap (λ (n : ℕ). slice_get rs n) e.0 ∙ y.found) in
    (sym x.value ∙ ap (λ (r : Roster). roster_value r) roster ∙ y.value, sym x.live ∙ live_same s.live t.live e.1 ∙ y.live)

-- ---- cards

pub one_device : (root : List (List ℕ)) (b c : Base) → IsOfDevice root b → IsOfDevice root c → AreOfOneDevice b c
one_device root (OnCard c) (OnCard d) h k = h ∙ sym k
one_device root (AtFault cause place) (AtFault other at) h k = h ∙ sym k
one_device root (OnCard c) (AtFault other at) h k = tt
one_device root (AtFault cause place) (OnCard d) h k = tt

-- a key is equal to itself
self_equal : (root : List (List ℕ)) (rs : List Roster) (k : CardKey) (b : Base) (l : play.Live) → KeyOf rs k b l → IsOfDevice root b → card_key_eq k k ≡ true
self_equal root rs k b l h d = key_same rs k k b b l l h h (one_device root b b d d) ∙ both _ _ (base_self b) (live_self l)

-- a card stays kept if rosters were found
pub keeps_beside : (root : List (List ℕ)) (old new : Rosters) (n : ℕ) (c : Base) (m : play.Live) → KeepsKeys old.rosters.keys new.rosters.keys → new.cards.entries ≡ old.cards.entries → new.stages.entries ≡ old.stages.entries
    → IsKeptCard root old n c m → IsKeptCard root new n c m
keeps_beside root old new n c m grows same stages h =
    record {
      stage = h.stage;
      live = h.live;
      key = h.key;
      words = h.words;
      entry = ap (λ (es : List (PlaceKey × Words)). slice_get es n) same ∙ h.entry;
      staged = ap (λ (es : List (Stage × Live)). slice_get es h.key.stage) stages ∙ h.staged;
      is_key = grows (key_with h.stage h.key) c m h.is_key;
      shows = h.shows;
      device = h.device;
      distinct = subst (λ (es : List (PlaceKey × Words)). IsDistinct place_key_eq (keys_of es)) (sym same) h.distinct;
      distinct_stages = subst (λ (es : List (Stage × Live)). IsDistinct stage_eq (keys_of es)) (sym stages) h.distinct_stages;
    }

-- ---- a new stage

-- what runs on a device is put among stages, with the key of its card
pub record Stages (old new : Rosters) (s : Stage) (k : PlaceKey) (live : Live) (m : List (List ℕ)) (b : Base) (l : play.Live) : Type 0 where
  pub is_key : KeyOf new.rosters.keys (key_with s k) b l
  pub shows : IsShown m live b l
  pub entries : new.stages.entries ≡ insert_entry stage_eq old.stages.entries s live
  pub distinct : IsDistinct stage_eq (keys_of new.stages.entries)

-- a card that was kept stays kept, with what ran there last
pub keeps_staged : (root : List (List ℕ)) (old new : Rosters) (s : Stage) (k : PlaceKey) (live : Live) (m : List (List ℕ)) (b : Base) (l : play.Live) → Stages old new s k live m b l
    → (n : ℕ) (c : Base) (v : play.Live) → KeepsKeys old.rosters.keys new.rosters.keys → new.cards.entries ≡ old.cards.entries → IsKeptCard root old n c v → IsKeptCard root new n c v
keeps_staged root old new s k live m b l put n c v grows same h =
    elim (old_entry stage_eq s live old.stages.entries h.key.stage h.stage h.live h.staged) [
      | inl stays ↦ record {
        stage = h.stage;
        live = h.live;
        key = h.key;
        words = h.words;
        entry = ap (λ (es : List (PlaceKey × Words)). slice_get es n) same ∙ h.entry;
        staged = ap (λ (es : List (Stage × Live)). slice_get es h.key.stage) put.entries ∙ stays;
        is_key = known;
        shows = h.shows;
        device = h.device;
        distinct = distinct;
        distinct_stages = put.distinct;
      }
      | inr again ↦
          let one = one_stage new.rosters.keys s h.stage k h.key b c l v put.is_key known again.1 in
          let here : IsShown m live b v = subst (λ (x : play.Live). IsShown m live b x) one.1 put.shows in
          record {
            stage = h.stage;
            live = live;
            key = h.key;
            words = h.words;
            entry = ap (λ (es : List (PlaceKey × Words)). slice_get es n) same ∙ h.entry;
            staged = ap (λ (es : List (Stage × Live)). slice_get es h.key.stage) put.entries ∙ again.0;
            is_key = known;
            shows = record {
              holds = h.shows.holds;
              live = live_shared m (image_with root h.words.items) live h.live b c v here h.shows one.0;
              base = h.shows.base;
            };
            device = h.device;
            distinct = distinct;
            distinct_stages = put.distinct;
          }
    ]
  where
    known : KeyOf new.rosters.keys (key_with h.stage h.key) c v
    known = grows (key_with h.stage h.key) c v h.is_key

    distinct : IsDistinct place_key_eq (keys_of new.cards.entries)
    distinct = subst (λ (es : List (PlaceKey × Words)). IsDistinct place_key_eq (keys_of es)) (sym same) h.distinct

-- the stage that was put has this number, with what runs there
pub staged_new : (old new : Rosters) (s : Stage) (k : PlaceKey) (live : Live) (m : List (List ℕ)) (b : Base) (l : play.Live) → Stages old new s k live m b l
    → (n : ℕ) → n ≡ position_or_len (stage_eq s) (keys_of old.stages.entries) → (t : Stage) × (slice_get new.stages.entries n ≡ Some (t, live)) × (stage_eq s t ≡ true)
staged_new old new s k live m b l put n place =
    let p : PutsEntry stage_eq old.stages.entries s live n = subst (λ (i : ℕ). PutsEntry stage_eq old.stages.entries s live i) (sym place) (new_entry stage_eq s live (stage_self s) old.stages.entries) in
    (p.key, ap (λ (es : List (Stage × Live)). slice_get es n) put.entries ∙ p.entry, p.same)

-- ---- a new card

-- a card on a stage is put among cards
pub record Cards (root : List (List ℕ)) (old new : Rosters) (t : Stage) (k : PlaceKey) (live : Live) (w : Words) (b : Base) (l : play.Live) : Type 0 where
  pub staged : slice_get new.stages.entries k.stage ≡ Some (t, live)
  pub is_key : KeyOf new.rosters.keys (key_with t k) b l
  pub shows : IsShown (image_with root w.items) live b l
  pub device : IsOfDevice root b
  pub rosters : new.rosters.keys ≡ old.rosters.keys
  pub stages : new.stages.entries ≡ old.stages.entries
  pub entries : new.cards.entries ≡ insert_entry place_key_eq old.cards.entries k w
  pub distinct : IsDistinct place_key_eq (keys_of new.cards.entries)
  pub distinct_stages : IsDistinct stage_eq (keys_of new.stages.entries)

module _ (root : List (List ℕ)) (old new : Rosters) (t : Stage) (k : PlaceKey) (live : Live) (w : Words) (b : Base) (l : play.Live) (put : Cards root old new t k live w b l) where
  pub keeps_new : (n : ℕ) → n ≡ position_or_len (place_key_eq k) (keys_of old.cards.entries) → IsKeptCard root new n b l
  keeps_new n place =
      let p : PutsEntry place_key_eq old.cards.entries k w n = subst (λ (i : ℕ). PutsEntry place_key_eq old.cards.entries k w i) (sym place) (new_entry place_key_eq k w (place_self k) old.cards.entries) in
      let same = place_parts k p.key p.same in
      record {
        stage = t;
        live = live;
        key = p.key;
        words = w;
        entry = ap (λ (es : List (PlaceKey × Words)). slice_get es n) put.entries ∙ p.entry;
        staged = ap (λ (i : ℕ). slice_get new.stages.entries i) (sym same.0) ∙ put.staged;
        is_key = key_alike new.rosters.keys (key_with t k) (key_with t p.key) b l put.is_key (whole t t k p.key (record { stages = stage_self t; statics = same.1 }));
        shows = put.shows;
        device = put.device;
        distinct = put.distinct;
        distinct_stages = put.distinct_stages;
      }

  -- a card that was kept is kept with the words that were saved last
  pub keeps_old : (n : ℕ) (c : Base) (m : play.Live) → IsKeptCard root old n c m → IsKeptCard root new n c m
  keeps_old n c m h =
      elim (old_entry place_key_eq k w old.cards.entries n h.key h.words h.entry) [
        | inl stays ↦ record {
          stage = h.stage;
          live = h.live;
          key = h.key;
          words = h.words;
          entry = ap (λ (es : List (PlaceKey × Words)). slice_get es n) put.entries ∙ stays;
          staged = staged;
          is_key = known;
          shows = h.shows;
          device = h.device;
          distinct = put.distinct;
          distinct_stages = put.distinct_stages;
        }
        | inr again ↦
            let same = place_parts k h.key again.1 in
            let at = sym put.staged ∙ ap (λ (i : ℕ). slice_get new.stages.entries i) same.0 ∙ staged in
            let stage : t ≡ h.stage = name_is (t, live) (h.stage, h.live) at in
            let ran : live ≡ h.live = value_is (t, live) (h.stage, h.live) at in
            let equal : card_key_eq (key_with t k) (key_with h.stage h.key) ≡ true =
            whole t h.stage k h.key (record { stages = subst (λ (x : Stage). stage_eq t x ≡ true) stage (stage_self t); statics = same.1 }) in
            let one = same_both b c l m (sym (key_same new.rosters.keys (key_with t k) (key_with h.stage h.key) b c l m put.is_key known (one_device root b c put.device h.device)) ∙ equal) in
            let shows : IsShown (image_with root w.items) h.live b l = subst (λ (x : Live). IsShown (image_with root w.items) x b l) ran put.shows in
            record {
              stage = h.stage;
              live = h.live;
              key = h.key;
              words = w;
              entry = ap (λ (es : List (PlaceKey × Words)). slice_get es n) put.entries ∙ again.0;
              staged = staged;
              is_key = known;
              shows = subst (λ (d : Base). IsShown (image_with root w.items) h.live d m) one.0 (subst (λ (x : play.Live). IsShown (image_with root w.items) h.live b x) one.1 shows);
              device = h.device;
              distinct = put.distinct;
              distinct_stages = put.distinct_stages;
            }
      ]
    where
      known : KeyOf new.rosters.keys (key_with h.stage h.key) c m
      known = subst (λ (rs : List Roster). KeyOf rs (key_with h.stage h.key) c m) (sym put.rosters) h.is_key

      staged : slice_get new.stages.entries h.key.stage ≡ Some (h.stage, h.live)
      staged = ap (λ (es : List (Stage × Live)). slice_get es h.key.stage) put.stages ∙ h.staged

-- ---- a new stage and a new card

-- what runs on a device and its card are put among others
pub record Puts (root : List (List ℕ)) (old new : Rosters) (s : Stage) (k : PlaceKey) (live : Live) (m : List (List ℕ)) (w : Words) (b : Base) (l : play.Live) : Type 0 where
  pub is_key : KeyOf new.rosters.keys (key_with s k) b l
  pub shows : IsShown m live b l
  pub laid : image_with root w.items ≡ m
  pub device : IsOfDevice root b
  pub number : k.stage ≡ position_or_len (stage_eq s) (keys_of old.stages.entries)
  pub stages : new.stages.entries ≡ insert_entry stage_eq old.stages.entries s live
  pub distinct_stages : IsDistinct stage_eq (keys_of new.stages.entries)
  pub entries : new.cards.entries ≡ insert_entry place_key_eq old.cards.entries k w
  pub distinct : IsDistinct place_key_eq (keys_of new.cards.entries)

module _ (root : List (List ℕ)) (old new : Rosters) (s : Stage) (k : PlaceKey) (live : Live) (m : List (List ℕ)) (w : Words) (b : Base) (l : play.Live) (put : Puts root old new s k live m w b l) where
  -- the rosters once the stage is there, and the card is not
  abbrev between : Rosters
  between = record { rosters = new.rosters; stages = new.stages; cards = old.cards }

  put_stage : Stages old between s k live m b l
  put_stage = record { is_key = put.is_key; shows = put.shows; entries = put.stages; distinct = put.distinct_stages }

  place : (t : Stage) × (slice_get new.stages.entries k.stage ≡ Some (t, live)) × (stage_eq s t ≡ true)
  place = staged_new old between s k live m b l put_stage k.stage put.number

  put_card : Cards root between new place.0 k live w b l
  put_card =
      record {
        staged = place.1;
        is_key = key_alike new.rosters.keys (key_with s k) (key_with place.0 k) b l put.is_key (whole s place.0 k k (record { stages = place.2; statics = bytes_self k.statics.items }));
        shows = subst (λ (x : List (List ℕ)). IsShown x live b l) (sym put.laid) put.shows;
        device = put.device;
        rosters = refl;
        stages = refl;
        entries = put.entries;
        distinct = put.distinct;
        distinct_stages = put.distinct_stages;
      }

  pub kept_new : (n : ℕ) → n ≡ position_or_len (place_key_eq k) (keys_of old.cards.entries) → IsKeptCard root new n b l
  kept_new n number = keeps_new root between new place.0 k live w b l put_card n number

  pub kept_old : (n : ℕ) (c : Base) (v : play.Live) → KeepsKeys old.rosters.keys new.rosters.keys → IsKeptCard root old n c v → IsKeptCard root new n c v
  kept_old n c v grows h = keeps_old root between new place.0 k live w b l put_card n c v (keeps_staged root old between s k live m b l put_stage n c v grows refl h)

-- ---- numbers

-- two cards that are kept have one number exactly if they are one card
pub one_card_number : (root : List (List ℕ)) (r : Rosters) (n i : ℕ) (b c : Base) (l m : play.Live) → IsKeptCard root r n b l → IsKeptCard root r i c m → (n == i) ≡ (is_same_base b c && is_same_live l m)
one_card_number root r n i b c l m h k = same_truth (n == i) (is_same_base b c && is_same_live l m) there back
  where
    first : CardKey
    first = key_with h.stage h.key

    second : CardKey
    second = key_with k.stage k.key

    there : (n == i) ≡ true → (is_same_base b c && is_same_live l m) ≡ true
    there e =
        let number : n ≡ i = eqb-true n i e in
        let key : h.key ≡ k.key = name_is (h.key, h.words) (k.key, k.words) (sym h.entry ∙ ap (λ (p : ℕ). slice_get r.cards.entries p) number ∙ k.entry) in
        let stage : h.stage ≡ k.stage =
        name_is (h.stage, h.live) (k.stage, k.live) (sym h.staged ∙ ap (λ (p : PlaceKey). slice_get r.stages.entries p.stage) key ∙ k.staged) in
        let whole_key : first ≡ second = λ j. key_with (stage j) (key j) in
        sym (key_same r.rosters.keys first second b c l m h.is_key k.is_key (one_device root b c h.device k.device))
        ∙ subst (λ (j : CardKey). card_key_eq first j ≡ true) whole_key (self_equal root r.rosters.keys first b l h.is_key h.device)

    back : (is_same_base b c && is_same_live l m) ≡ true → (n == i) ≡ true
    back e =
        let one = same_both b c l m e in
        let there_is : card_key_eq first second ≡ true = key_same r.rosters.keys first second b c l m h.is_key k.is_key (one_device root b c h.device k.device) ∙ e in
        let other : (is_same_base c b && is_same_live m l) ≡ true =
        subst (λ (d : Base). (is_same_base d b && is_same_live m l) ≡ true) one.0 (subst (λ (v : play.Live). (is_same_base b b && is_same_live v l) ≡ true) one.1 (both _ _ (base_self b) (live_self l))) in
        let back_is : card_key_eq second first ≡ true = key_same r.rosters.keys second first c b m l k.is_key h.is_key (one_device root c b k.device h.device) ∙ other in
        let p = parts h.stage k.stage h.key k.key there_is in
        let q = parts k.stage h.stage k.key h.key back_is in
        let stage : h.key.stage ≡ k.key.stage =
        one_place stage_eq r.stages.entries h.key.stage k.key.stage h.stage k.stage h.live k.live h.distinct_stages h.staged k.staged p.stages q.stages in
        let forth : place_key_eq h.key k.key ≡ true = both _ _ (eq-eqb h.key.stage k.key.stage stage) p.statics in
        let again : place_key_eq k.key h.key ≡ true = both _ _ (eq-eqb k.key.stage h.key.stage (sym stage)) q.statics in
        eq-eqb n i (one_place place_key_eq r.cards.entries n i h.key k.key h.words k.words h.distinct h.entry k.entry forth again)
