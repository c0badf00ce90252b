-- What the items of a load and of a creation do to a store as a bank, one after another.
use Rattle.std.proofs.Common.{◌≡◌, ◌≢◌, ℕ, zero, suc, ◌+◌, ◌-◌, ◌%◌, drop, ◌≤◌, Bool, true, false, not, List, [], ◌∷◌, ◌++◌, length, map, Some, None, Ok, Err, refl, sym, ◌∙◌, ap, subst, inl, inr, arith, append_assoc}
use Rattle.std.specs.Prelude.{IsSome, OnOk, slice_set}
use Rattle.std.specs.List.{AllByRecursion}
use Rattle.std.proofs.lemmas.List.{length-replicate}
use Rattle.mc_bank.specs.model_card.specs.declared.card.Part.{Part}
use Rattle.mc_words.specs.model_device.specs.declared.device.Stop.{Stop}
use Rattle.mc_words.specs.model_device.specs.declared.device.Stop.TheVariants.{Off, Worn}
use Rattle.mc_words.specs.model_device.specs.Counts.{Rose}
use Rattle.mc_words.specs.model_device.specs.Orders.{Answer, InOrder}
use Rattle.mc_words.specs.model_device.specs.Bytes.{zeros, splice, lookup, insert}
use Rattle.mc_words.specs.model_device.specs.Pieces.{laid_pieces}
use Rattle.mc_bank.specs.model_card.specs.Manager.{in_words, word_parts, create_items}
use Rattle.mc_words.specs.model_device.specs.Device.{DeviceState, Wrote, Makes}
use Rattle.mc_words.specs.model_device.specs.Card.{App, Card, means, card_of}
use Rattle.mc_bank.specs.model_card.specs.Items.{Site, BankItem, Piece, Blank, Note, Commit, Enter, Remove}
use Rattle.mc_words.specs.model_device.proofs.ImageLemmas.{all_map}
use Rattle.mc_bank.specs.Bank.{BankState, IsGoodSite, StayGood, app_of_site, item_done, part_len, IsChanged, IsStopped, StopRose, Changes}
use Rattle.mc_store.specs.declared.store.Store.{Store}
use Rattle.mc_bank.specs.Slots.{slot_place, name_of_slot}
use Rattle.mc_store.specs.Store.{apps_in, is_going, store_state, store_named, store_room, store_site_bytes, name_of_place, part_in, words_of_sizes, IsGoodIn, IsInWord, item_writes}
use Rattle.mc_store.specs.GoingLaws.{Going, going_is, closed_settled, closed_apps, laid_apps}
use Rattle.mc_store.specs.GapLaws.{just_one}
use Rattle.mc_store.specs.CreationLaws.{at_site}
use Rattle.mc_store.specs.TurnLaws.{ChangesCard, site_bytes_of, turns}
use Rattle.mc_store.specs.Laws.{store_obeys, store_keeps}
use Rattle.mc_store.specs.StoreItems.{store_did}
use Rattle.mc_store.proofs.SiteLemmas.{piece_part, piece_other, blank_part, note_part, laid_parts, part_length}
use Rattle.mc_store.proofs.ItemLemmas.{IsPlain}
use Rattle.mc_words.specs.model_device.proofs.LayoutLemmas.{closed_means}
use Rattle.mc_words.specs.model_device.proofs.ListLemmas.{splice_none}
use Rattle.mc_words.specs.model_device.proofs.BoolLemmas.{some_is}

-- ---- changes one after another

-- the counts of stops that rose from a later state rose from one before it with the same counts
rose_from : (t : Stop) (b m e : BankState) → m.cuts ≡ b.cuts → m.faults ≡ b.faults → StopRose t m e → StopRose t b e
rose_from Off b m e cuts faults r = (subst (λ (n : ℕ). Rose n e.cuts) cuts r.0, subst (λ (n : ℕ). n ≤ e.cuts) cuts r.1, r.2 ∙ faults)
rose_from Worn b m e cuts faults r = (subst (λ (n : ℕ). Rose n e.faults) faults r.0, subst (λ (n : ℕ). n ≤ e.faults) faults r.1, r.2 ∙ cuts)

-- a change after one that kept the applications
pub change_after : (b m e : BankState) (after : List (List ℕ × App)) (a : Answer) → IsChanged b b.apps m → Changes m after a e → Changes b after a e
change_after b m e after (Ok tt) first then = record { apps = then.apps; cuts = then.cuts ∙ first.cuts; faults = then.faults ∙ first.faults; going = then.going }
change_after b m e after (Err t) first then =
    record { apps = elim then.apps [ inl old ↦ inl (old ∙ first.apps) | inr new ↦ inr new ]; rose = rose_from t b m e first.cuts first.faults then.rose }

stopped_changes : (b e : BankState) (t : Stop) (after : List (List ℕ × App)) → IsStopped b b.apps t e → IsStopped b after t e
stopped_changes b e t after h = record { apps = elim h.apps [ inl old ↦ inl old | inr new ↦ inl new ]; rose = h.rose }

plain_done : (site_bytes : Site → Part → List ℕ) (i : BankItem) (apps : List (List ℕ × App)) → IsPlain i → item_done site_bytes i apps ≡ apps
plain_done site_bytes (Piece s p at b) apps h = refl
plain_done site_bytes (Blank s at n) apps h = refl
plain_done site_bytes (Note s n i) apps h = refl
plain_done site_bytes (Commit n ws) apps h = absurd h
plain_done site_bytes (Enter s n) apps h = absurd h
plain_done site_bytes (Remove n) apps h = absurd h

-- an item before a creation at a site: zeros after the data, or a word of the record
abbrev pub IsQuiet : Site → BankItem → Type 0
IsQuiet t (Piece s p at b) = ⊥
IsQuiet t (Blank s at n) = (s ≡ t) × (t.sizes.init ≤ at)
IsQuiet t (Note s n i) = s ≡ t
IsQuiet t (Commit n ws) = ⊥
IsQuiet t (Enter s n) = ⊥
IsQuiet t (Remove n) = ⊥

pub quiet_plain : (t : Site) (i : BankItem) → IsQuiet t i → IsPlain i
quiet_plain t (Piece s p at b) h = absurd h
quiet_plain t (Blank s at n) h = tt
quiet_plain t (Note s n i) h = tt
quiet_plain t (Commit n ws) h = absurd h
quiet_plain t (Enter s n) h = absurd h
quiet_plain t (Remove n) h = absurd h

pub same_entered : (s : Site) (f g : Part → List ℕ) → ((p : Part) → f p ≡ g p) → app_of_site s f ≡ app_of_site s g
same_entered s f g h = grind arith

module _ {N : Type 0} (state : N → DeviceState) (wrote : N → ℕ → List ℕ → Answer → N → Type 0)
    (obeys : (d : N) (at : ℕ) (w : List ℕ) (a : Answer) (e : N) → (state d).on ≡ true → wrote d at w a e → Wrote (state d) at w a (state e)) where
  abbrev pub st : Store N → BankState
  st s = store_state (state s.device) s.count

  -- ---- one item

  -- the card and the applications are unchanged
  pub record CardKept (s e : Store N) : Type 0 where
    pub card : means (state e.device).words ≡ means (state s.device).words
    pub apps : apps_in (state e.device).words ≡ apps_in (state s.device).words

  kept_by : (s e : Store N) (a : Answer) (apps : List (List ℕ × App)) → Going (state s.device) s.count → apps ≡ apps_in (state s.device).words → ChangesCard (state s.device) apps a (state e.device) e.count → CardKept s e
  kept_by s e (Ok tt) apps g is t =
      let m = (state s.device).words in
      let w = (state e.device).words in
      let own : (apps ≡ (card_of m).apps) = is ∙ closed_apps m g.closed g.laid in
      let same : card_of w ≡ card_of m = t.card ∙ ap (λ (es : List (List ℕ × App)). record (card_of m) { apps = es }) own in
      record {
        card = closed_means w t.closed ∙ same ∙ sym (closed_means m g.closed);
        apps = closed_apps w t.closed t.good ∙ ap (λ (x : Card). x.apps) same ∙ sym (closed_apps m g.closed g.laid);
      }
  kept_by s e (Err x) apps g is t =
      let m = (state s.device).words in
      let w = (state e.device).words in
      let own : (apps ≡ (card_of m).apps) = is ∙ closed_apps m g.closed g.laid in
      let same : means w ≡ card_of m = elim t.card [ inl old ↦ old | inr new ↦ new ∙ ap (λ (es : List (List ℕ × App)). record (card_of m) { apps = es }) own ] in
      record {
        card = same ∙ sym (closed_means m g.closed);
        apps = laid_apps w t.good ∙ ap (λ (x : Card). x.apps) same ∙ sym (closed_apps m g.closed g.laid);
      }

  plain_kept : (s e : Store N) (i : BankItem) (a : Answer) → IsPlain i → store_did state wrote s i a e → CardKept s e
  plain_kept s e i a plain did =
      kept_by s e a (item_done (store_site_bytes (state s.device)) i (apps_in (state s.device).words)) (going_is (state s.device) s.count did.going) (plain_done (store_site_bytes (state s.device)) i (apps_in (state s.device).words) plain)
      (turns state wrote obeys i s.device e.device s.count e.count a did)

  plain_changes : (s e : Store N) (i : BankItem) (a : Answer) → IsPlain i → store_did state wrote s i a e → Changes (st s) (apps_in (state s.device).words) a (st e)
  plain_changes s e i a plain did =
      subst (λ (es : List (List ℕ × App)). Changes (st s) es a (st e)) (plain_done (store_site_bytes (state s.device)) i (apps_in (state s.device).words) plain)
      (store_obeys state wrote obeys s.device e.device s.count e.count i a did)

  -- ---- plain items in order

  pub all_kept : (is : List BankItem) (s e : Store N) (a : Answer) → AllByRecursion IsPlain is → InOrder (store_did state wrote) s is a e → CardKept s e
  all_kept [] s e (Ok u) plain h = subst (λ (x : Store N). CardKept s x) (sym h) (record { card = refl; apps = refl })
  all_kept [] s e (Err x) plain h = absurd h
  all_kept (i ∷ is) s e a plain h =
      elim h [
        | inl done ↦
            let first : CardKept s done.0 = plain_kept s done.0 i (Ok tt) plain.0 done.1 in
            let rest : CardKept done.0 e = all_kept is done.0 e a plain.1 done.2 in
            record { card = rest.card ∙ first.card; apps = rest.apps ∙ first.apps }
        | inr stop ↦ plain_kept s e i (Err stop.0) plain.0 stop.1
      ]

  pub all_changes : (is : List BankItem) (s e : Store N) (a : Answer) → AllByRecursion IsPlain is → not (is_going (state s.device) s.count) ≡ false → InOrder (store_did state wrote) s is a e → Changes (st s) (apps_in (state s.device).words) a (st e)
  all_changes [] s e (Ok tt) plain going h =
      subst (λ (x : Store N). Changes (st s) (apps_in (state s.device).words) (Ok tt) (st x)) (sym h) (record { apps = refl; cuts = refl; faults = refl; going = going })
  all_changes [] s e (Err x) plain going h = absurd h
  all_changes (i ∷ is) s e a plain going h =
      elim h [
        | inl done ↦
            let m = done.0 in
            let first : IsChanged (st s) (apps_in (state s.device).words) (st m) = plain_changes s m i (Ok tt) plain.0 done.1 in
            change_after (st s) (st m) (st e) (apps_in (state s.device).words) a first
            (subst (λ (es : List (List ℕ × App)). Changes (st m) es a (st e)) first.apps (all_changes is m e a plain.1 first.going done.2))
        | inr stop ↦ subst (λ (x : Answer). Changes (st s) (apps_in (state s.device).words) x (st e)) (sym stop.2) (plain_changes s e i (Err stop.0) plain.0 stop.1)
      ]

  pub kept_good : (s e : Store N) → CardKept s e → StayGood (apps_in (state s.device).words) (store_room (state s.device)) (apps_in (state e.device).words) (store_room (state e.device))
  kept_good s e k t good = grind arith

  pub kept_slots : (s e : Store N) → CardKept s e → (k : ℕ) → store_named (state e.device) k ≡ store_named (state s.device) k
  kept_slots s e k q = ap (λ (es : List (List ℕ × App)). name_of_slot es q (name_of_place es (slot_place q))) k.apps

  -- ---- the bytes at a site

  one_written : (s m : Store N) (i : BankItem) (w : ℕ × List ℕ) → store_did state wrote s i (Ok tt) m → item_writes (state s.device).words i ≡ w ∷ [] → (state m.device).words ≡ slice_set (state s.device).words w.0 w.1
  one_written s m i w did is =
      grind (arith, subst (λ (l : List (ℕ × List ℕ)). Makes wrote s.device l (Ok tt) m.device) is did.makes, obeys s.device w.0 w.1 (Ok tt) m.device (going_is (state s.device) s.count did.going).on (just_one wrote s.device m.device w.0 w.1 (Ok tt) (subst (λ (l : List (ℕ × List ℕ)). Makes wrote s.device l (Ok tt) m.device) is did.makes)))

  -- the bytes at a site of a store that runs are in its words
  pub stands_now : (s : Store N) (t : Site) (p : Part) → is_going (state s.device) s.count ≡ true → store_site_bytes (state s.device) t p ≡ part_in (state s.device).words t p
  stands_now s t p h = ap (λ (x : List (List ℕ)). part_in x t p) (closed_settled (state s.device).words (going_is (state s.device) s.count h).closed)

  still_going : (s m : Store N) (i : BankItem) → store_did state wrote s i (Ok tt) m → is_going (state m.device) m.count ≡ true
  still_going s m i did = by_test (is_going (state m.device) m.count) (store_obeys state wrote obeys s.device m.device s.count m.count i (Ok tt) did).going
    where
      by_test : (t : Bool) → not t ≡ false → t ≡ true
      by_test true h = refl
      by_test false h = absurd (cc h)

  pub site_ends : (s m : Store N) (i : BankItem) (a : Answer) (t : Site) → store_did state wrote s i a m → IsGoodIn (state s.device).words t → t.place + words_of_sizes t.sizes ≤ length (state s.device).words
  site_ends s m i a t did good =
      let g : Going (state s.device) s.count = going_is (state s.device) s.count did.going in
      (at_site (state s.device).words t did.image g.closed (site_bytes_of (state s.device) s.count g).well good).ends

  -- a write keeps or changes a section
  stands_after : (s m : Store N) (i : BankItem) (w : ℕ × List ℕ) (t : Site) (p : Part) (l : List ℕ) → store_did state wrote s i (Ok tt) m → item_writes (state s.device).words i ≡ w ∷ []
      → part_in (slice_set (state s.device).words w.0 w.1) t p ≡ l → store_site_bytes (state m.device) t p ≡ l
  stands_after s m i w t p l did is after = stands_now m t p (still_going s m i did) ∙ ap (λ (x : List (List ℕ)). part_in x t p) (one_written s m i w did is) ∙ after

  piece_stands : (s m : Store N) (t : Site) (p : Part) (at : ℕ) (b : List ℕ) → store_did state wrote s (Piece t p at b) (Ok tt) m → store_site_bytes (state m.device) t p ≡ splice (store_site_bytes (state s.device) t p) at b
  piece_stands s m t p at b did =
      stands_after s m (Piece t p at b) _ t p _ did refl
      (piece_part (state s.device).words did.image t did.allowed.0.limits (site_ends s m (Piece t p at b) (Ok tt) t did did.allowed.0) p at b did.allowed.1)
      ∙ sym (ap (λ (l : List ℕ). splice l at b) (stands_now s t p did.going))

  piece_beside : (s m : Store N) (t : Site) (p o : Part) (at : ℕ) (b : List ℕ) → o ≢ p → store_did state wrote s (Piece t p at b) (Ok tt) m → store_site_bytes (state m.device) t o ≡ store_site_bytes (state s.device) t o
  piece_beside s m t p o at b ne did =
      stands_after s m (Piece t p at b) _ t o _ did refl
      (piece_other (state s.device).words did.image t did.allowed.0.limits (site_ends s m (Piece t p at b) (Ok tt) t did did.allowed.0) p o at b did.allowed.1 ne)
      ∙ sym (stands_now s t o did.going)

  blank_stands : (s m : Store N) (t : Site) (at n : ℕ) (o : Part) → t.sizes.init ≤ at → store_did state wrote s (Blank t at n) (Ok tt) m → store_site_bytes (state m.device) t o ≡ store_site_bytes (state s.device) t o
  blank_stands s m t at n o low did =
      stands_after s m (Blank t at n) _ t o _ did refl
      (blank_part (state s.device).words did.image t did.allowed.0.limits (site_ends s m (Blank t at n) (Ok tt) t did did.allowed.0) o at (zeros n) low
      (subst (λ (k : ℕ). IsInWord t.sizes.fixed at k) (sym (length-replicate n 0)) did.allowed.1))
      ∙ sym (stands_now s t o did.going)

  note_stands : (s m : Store N) (t : Site) (n : List ℕ) (i : ℕ) (o : Part) → store_did state wrote s (Note t n i) (Ok tt) m → store_site_bytes (state m.device) t o ≡ store_site_bytes (state s.device) t o
  note_stands s m t n i o did =
      stands_after s m (Note t n i) _ t o _ did refl
      (note_part (state s.device).words did.image t did.allowed.0.limits (site_ends s m (Note t n i) (Ok tt) t did did.allowed.0) o i _ did.allowed.2)
      ∙ sym (stands_now s t o did.going)

  -- ---- a load

  -- the bytes of a section after its pieces, and those of the others
  pub record Filled (s e : Store N) (t : Site) (p : Part) (l : List ℕ) : Type 0 where
    pub piece : store_site_bytes (state e.device) t p ≡ l
    pub others : (o : Part) → o ≢ p → store_site_bytes (state e.device) t o ≡ store_site_bytes (state s.device) t o

  pub all_pieces : (cs : List (ℕ × List ℕ)) (s e : Store N) (t : Site) (p : Part) → InOrder (store_did state wrote) s (map (λ c. Piece t p c.0 c.1) cs) (Ok tt) e
      → Filled s e t p (laid_pieces (store_site_bytes (state s.device) t p) cs)
  all_pieces [] s e t p h = subst (λ (x : Store N). Filled s x t p (store_site_bytes (state s.device) t p)) (sym h) (record { piece = refl; others = λ o ne. refl })
  all_pieces (c ∷ cs) s e t p h =
      elim h [
        | inl done ↦
            let m = done.0 in
            let rest : Filled m e t p (laid_pieces (store_site_bytes (state m.device) t p) cs) = all_pieces cs m e t p done.2 in
            record {
              piece = rest.piece ∙ ap (λ (l : List ℕ). laid_pieces l cs) (piece_stands s m t p c.0 c.1 done.1);
              others = λ o ne. rest.others o ne ∙ piece_beside s m t p o c.0 c.1 ne done.1;
            }
        | inr stop ↦ absurd (cc stop.2)
      ]

  pub pieces_plain : (t : Site) (p : Part) (cs : List (ℕ × List ℕ)) → AllByRecursion IsPlain (map (λ c. Piece t p c.0 c.1) cs)
  pieces_plain t p [] = tt
  pieces_plain t p (c ∷ cs) = (tt, pieces_plain t p cs)

  -- ---- a creation

  pub quiet_stands : (s m : Store N) (i : BankItem) (t : Site) (o : Part) → IsQuiet t i → store_did state wrote s i (Ok tt) m → store_site_bytes (state m.device) t o ≡ store_site_bytes (state s.device) t o
  quiet_stands s m (Piece u p at b) t o h did = absurd h
  quiet_stands s m (Blank u at n) t o h did = blank_stands s m t at n o h.1 (subst (λ (v : Site). store_did state wrote s (Blank v at n) (Ok tt) m) h.0 did)
  quiet_stands s m (Note u n i) t o h did = note_stands s m t n i o (subst (λ (v : Site). store_did state wrote s (Note v n i) (Ok tt) m) h did)
  quiet_stands s m (Commit n ws) t o h did = absurd h
  quiet_stands s m (Enter u n) t o h did = absurd h
  quiet_stands s m (Remove n) t o h did = absurd h

  -- the bytes at a site after items before its creation
  pub all_stand : (is : List BankItem) (s m : Store N) (t : Site) (o : Part) → AllByRecursion (IsQuiet t) is → InOrder (store_did state wrote) s is (Ok tt) m → store_site_bytes (state m.device) t o ≡ store_site_bytes (state s.device) t o
  all_stand [] s m t o quiet h = ap (λ (x : Store N). store_site_bytes (state x.device) t o) h
  all_stand (i ∷ is) s m t o quiet h =
      elim h [
        | inl done ↦ all_stand is done.0 m t o quiet.1 done.2 ∙ quiet_stands s done.0 i t o quiet.0 done.1
        | inr stop ↦ absurd (cc stop.2)
      ]

  -- the application is there or not, and all others keep their slots
  pub record ApplicationCreated (s e : Store N) (t : Site) (n : List ℕ) (a : Answer) : Type 0 where
    pub apps : Changes (st s) (insert (apps_in (state s.device).words) n (app_of_site t (store_site_bytes (state s.device) t))) a (st e)
    pub slots : (k : ℕ) (l : List ℕ) → store_named (state s.device) k ≡ Some l → store_named (state e.device) k ≡ Some l

  enter_created : (s e : Store N) (t : Site) (n : List ℕ) (a : Answer) → InOrder (store_did state wrote) s (Enter t n ∷ []) a e → ApplicationCreated s e t n a
  enter_created s e t n a h =
      elim h [
        | inl done ↦ enter_done done.0 a done.1 done.2
        | inr stop ↦ subst (λ (x : Answer). ApplicationCreated s e t n x) (sym stop.2) (entered_by e (Err stop.0) stop.1)
      ]
    where
      entered_by : (m : Store N) (b : Answer) → store_did state wrote s (Enter t n) b m → ApplicationCreated s m t n b
      entered_by m b did =
          record {
            apps = store_obeys state wrote obeys s.device m.device s.count m.count (Enter t n) b did;
            slots = λ k l is. store_keeps state wrote obeys s.device m.device s.count m.count (Enter t n) b did k l is tt;
          }

      enter_done : (m : Store N) (b : Answer) → store_did state wrote s (Enter t n) (Ok tt) m → InOrder (store_did state wrote) m [] b e → ApplicationCreated s e t n b
      enter_done m (Ok tt) did same = subst (λ (x : Store N). ApplicationCreated s x t n (Ok tt)) (sym same) (entered_by m (Ok tt) did)
      enter_done m (Err x) did same = absurd same

  pub all_created : (is : List BankItem) (s e : Store N) (t : Site) (n : List ℕ) (a : Answer) → AllByRecursion (IsQuiet t) is → InOrder (store_did state wrote) s (is ++ Enter t n ∷ []) a e → ApplicationCreated s e t n a
  all_created [] s e t n a quiet h = enter_created s e t n a h
  all_created (i ∷ is) s e t n a quiet h =
      elim h [
        | inl done ↦
            let m = done.0 in
            let plain : IsPlain i = quiet_plain t i quiet.0 in
            let first : IsChanged (st s) (apps_in (state s.device).words) (st m) = plain_changes s m i (Ok tt) plain done.1 in
            let kept : CardKept s m = plain_kept s m i (Ok tt) plain done.1 in
            let rest : ApplicationCreated m e t n a = all_created is m e t n a quiet.1 done.2 in
            let same : app_of_site t (store_site_bytes (state m.device) t) ≡ app_of_site t (store_site_bytes (state s.device) t) =
            same_entered t (store_site_bytes (state m.device) t) (store_site_bytes (state s.device) t) (λ o. quiet_stands s m i t o quiet.0 done.1) in
            record {
              apps = change_after (st s) (st m) (st e) (insert (apps_in (state s.device).words) n (app_of_site t (store_site_bytes (state s.device) t))) a first
                  (subst (λ (x : App). Changes (st m) (insert (apps_in (state s.device).words) n x) a (st e)) same
                  (subst (λ (es : List (List ℕ × App)). Changes (st m) (insert es n (app_of_site t (store_site_bytes (state m.device) t))) a (st e)) kept.apps rest.apps));
              slots = λ k l is. rest.slots k l (kept_slots s m kept k ∙ is);
            }
        | inr stop ↦
            let plain : IsPlain i = quiet_plain t i quiet.0 in
            let kept : CardKept s e = plain_kept s e i (Err stop.0) plain stop.1 in
            subst (λ (x : Answer). ApplicationCreated s e t n x) (sym stop.2)
            (record {
              apps = stopped_changes (st s) (st e) stop.0 (insert (apps_in (state s.device).words) n (app_of_site t (store_site_bytes (state s.device) t))) (plain_changes s e i (Err stop.0) plain stop.1);
              slots = λ k l is. kept_slots s e kept k ∙ is;
            })
      ]

-- ---- the items of a creation

words_from : (n at : ℕ) (b : List ℕ) → AllByRecursion (λ c. at ≤ c.0) (in_words n at b)
words_from zero at b = tt
words_from (suc n) at [] = tt
words_from (suc n) at (x ∷ xs) = (omega arith, all_map (λ c. at + (8 - at % 8) ≤ c.0) (λ c. at ≤ c.0) (λ c h. omega (arith, h)) (in_words n (at + (8 - at % 8)) (drop (8 - at % 8) (x ∷ xs))) (words_from n (at + (8 - at % 8)) (drop (8 - at % 8) (x ∷ xs))))

blanks_quiet : (t : Site) (cs : List (ℕ × List ℕ)) (n : List ℕ) → AllByRecursion (λ c. t.sizes.init ≤ c.0) cs
    → AllByRecursion (IsQuiet t) (map (λ c. Blank t c.0 (length c.1)) cs ++ Note t n 0 ∷ Note t n 1 ∷ Note t n 2 ∷ Note t n 3 ∷ [])
blanks_quiet t [] n h = (refl, (refl, (refl, (refl, tt))))
blanks_quiet t (c ∷ cs) n h = ((refl, h.0), blanks_quiet t cs n h.1)

-- the items before the atomic write
abbrev pub before_enter : Site → List ℕ → List BankItem
before_enter t n =
    map (λ c. Blank t c.0 (length c.1)) (word_parts t.sizes.init (zeros (t.sizes.fixed - t.sizes.init))) ++ Note t n 0 ∷ Note t n 1 ∷ Note t n 2 ∷ Note t n 3 ∷ []

pub creation_is : (t : Site) (n : List ℕ) → create_items t n ≡ before_enter t n ++ Enter t n ∷ []
creation_is t n = sym (append_assoc (map (λ c. Blank t c.0 (length c.1)) (word_parts t.sizes.init (zeros (t.sizes.fixed - t.sizes.init)))) (Note t n 0 ∷ Note t n 1 ∷ Note t n 2 ∷ Note t n 3 ∷ []) (Enter t n ∷ []))

pub creation_quiet : (t : Site) (n : List ℕ) → AllByRecursion (IsQuiet t) (before_enter t n)
creation_quiet t n = blanks_quiet t (word_parts t.sizes.init (zeros (t.sizes.fixed - t.sizes.init))) n (words_from (length (zeros (t.sizes.fixed - t.sizes.init))) t.sizes.init (zeros (t.sizes.fixed - t.sizes.init)))

-- ---- the clauses

module _ {N : Type 0} (state : N → DeviceState) (wrote : N → ℕ → List ℕ → Answer → N → Type 0)
    (obeys : (d : N) (at : ℕ) (w : List ℕ) (a : Answer) (e : N) → (state d).on ≡ true → wrote d at w a e → Wrote (state d) at w a (state e)) where
  pub create_ends : (s e : Store N) (t : Site) (n : List ℕ) (a : Answer) → InOrder (store_did state wrote) s (create_items t n) a e → ApplicationCreated state wrote obeys s e t n a
  create_ends s e t n a h =
      all_created state wrote obeys (before_enter t n) s e t n a (creation_quiet t n) (subst (λ (is : List BankItem). InOrder (store_did state wrote) s is a e) (creation_is t n) h)

  pub create_slots : (s e : Store N) (t : Site) (n : List ℕ) (a : Answer) → ApplicationCreated state wrote obeys s e t n a → (k : ℕ) → IsSome (store_named (state s.device) k) → store_named (state e.device) k ≡ store_named (state s.device) k
  create_slots s e t n a c k some = let x = some_is (store_named (state s.device) k) some in c.slots k x.0 x.1 ∙ sym x.1

  -- a piece of a section, in its words
  piece_laid : (s e : Store N) (t : Site) (p : Part) (at : ℕ) (b : List ℕ) → at + length b ≤ part_len p t.sizes → InOrder (store_did state wrote) s (map (λ c. Piece t p c.0 c.1) (word_parts at b)) (Ok tt) e
      → laid_pieces (store_site_bytes (state s.device) t p) (word_parts at b) ≡ splice (store_site_bytes (state s.device) t p) at b
  piece_laid s e t p at [] range h = sym (splice_none (store_site_bytes (state s.device) t p) at)
  piece_laid s e t p at (x ∷ xs) range h =
      elim h [
        | inl done ↦
            let size : length (store_site_bytes (state s.device) t p) ≡ part_len p t.sizes = site_size s done.0 t p at _ (Ok tt) done.1 in
            laid_parts (store_site_bytes (state s.device) t p) at (x ∷ xs) (omega (arith, size, range))
        | inr stop ↦ absurd (cc stop.2)
      ]
    where
      site_size : (u m : Store N) (q : Site) (o : Part) (i : ℕ) (c : List ℕ) (a : Answer) → store_did state wrote u (Piece q o i c) a m → length (store_site_bytes (state u.device) q o) ≡ part_len o q.sizes
      site_size u m q o i c a did =
          ap length (stands_now state wrote obeys u q o did.going)
          ∙ part_length (state u.device).words did.image q did.allowed.0.limits (site_ends state wrote obeys u m (Piece q o i c) a q did did.allowed.0) o

  pub filled : (s e : Store N) (t : Site) (p : Part) (at : ℕ) (b : List ℕ) → at + length b ≤ part_len p t.sizes → InOrder (store_did state wrote) s (map (λ c. Piece t p c.0 c.1) (word_parts at b)) (Ok tt) e
      → Filled state wrote obeys s e t p (splice (store_site_bytes (state s.device) t p) at b)
  filled s e t p at b range h =
      subst (λ (l : List ℕ). Filled state wrote obeys s e t p l) (piece_laid s e t p at b range h) (all_pieces state wrote obeys (word_parts at b) s e t p h)

  pub fill_piece : (s e : Store N) (t : Site) (p : Part) (at : ℕ) (b : List ℕ) (a : Answer) → at + length b ≤ part_len p t.sizes → InOrder (store_did state wrote) s (map (λ c. Piece t p c.0 c.1) (word_parts at b)) a e
      → OnOk a (store_site_bytes (state e.device) t p ≡ splice (store_site_bytes (state s.device) t p) at b)
  fill_piece s e t p at b (Ok tt) range h = (filled s e t p at b range h).piece
  fill_piece s e t p at b (Err x) range h = tt

  pub fill_others : (s e : Store N) (t : Site) (p : Part) (at : ℕ) (b : List ℕ) (a : Answer) → at + length b ≤ part_len p t.sizes → InOrder (store_did state wrote) s (map (λ c. Piece t p c.0 c.1) (word_parts at b)) a e
      → OnOk a ((o : Part) → o ≢ p → store_site_bytes (state e.device) t o ≡ store_site_bytes (state s.device) t o)
  fill_others s e t p at b (Ok tt) range h = (filled s e t p at b range h).others
  fill_others s e t p at b (Err x) range h = tt

-- ---- good sites

-- a site that is good by the bank is good in the words
pub good_in : (d : DeviceState) (c : ℕ) (t : Site) → is_going d c ≡ true → IsGoodSite (apps_in d.words) (store_room d) t → IsGoodIn d.words t
good_in d c t going good = grind (arith, site_bytes_of d c (going_is d c going))

pub fresh_in : (d : DeviceState) (c : ℕ) (n : List ℕ) → is_going d c ≡ true → lookup (apps_in d.words) n ≡ None → lookup (means d.words).apps n ≡ None
fresh_in d c n going h = grind (arith, site_bytes_of d c (going_is d c going))
