-- A stop at any device write of an item of a store, whatever word it leaves.
use Rattle.std.proofs.Common.{◌≡◌, ℕ, ◌+◌, ◌<◌, ◌≤◌, Bool, true, false, List, [], ◌∷◌, length, Option, Some, None, refl, sym, ◌∙◌, ap, subst, arith, cond}
use Rattle.std.specs.Prelude.{bytes_eq, slice_set, unwrap_or}
use Rattle.std.proofs.lemmas.List.{length-map}
use Rattle.mc_words.specs.model_device.specs.Bytes.{up, lookup, insert}
use Rattle.mc_words.specs.model_device.specs.Device.{IsSized}
use Rattle.mc_words.specs.model_device.specs.Image.{One, Two, opening, look, Closed, image_with, debt}
use Rattle.mc_words.specs.model_device.specs.Stopped.{writes, cost, stands, owes, image_after_stop, image_if_written, IsAtomic, LeavesOwing}
use Rattle.mc_words.specs.model_device.specs.Card.{App, Card, card_of, means}
use Rattle.mc_words.specs.model_device.specs.Layout.{words_fault, gaps, step_of, IsWellLaid}
use Rattle.mc_words.specs.model_device.specs.PowerUp.{Base, OnCard}
use Rattle.mc_bank.specs.model_card.specs.Items.{Site, BankItem, Piece, Blank, Note, Commit, Enter, Remove}
use Rattle.mc_words.specs.model_device.proofs.ImageLemmas.{length_laid}
use Rattle.mc_words.specs.model_device.proofs.CallLemmas.{length_writes}
use Rattle.mc_words.specs.model_device.proofs.StoppedLemmas.{torn_other, tear}
use Rattle.mc_bank.specs.Bank.{no_app, app_of, CanCommit, with_words}
use Rattle.mc_blocks.specs.Plans.{has_room}
use Rattle.mc_store.specs.Store.{words_of_sizes, static_writes, card_with, card_without, item_writes, IsGoodIn, Allows}
use Rattle.mc_store.specs.Power.{HoldsBase}
use Rattle.mc_store.specs.Stops.{card_after, IsStoppedAt}
use Rattle.mc_store.specs.AlikeLaws.{alike_self}
use Rattle.mc_store.specs.AtomicLaws.{writes_apart}
use Rattle.mc_store.specs.GapLaws.{KeepsCard, keeps_gap, besides_set}
use Rattle.mc_store.specs.CommitLaws.{CommittedCard, commits}
use Rattle.mc_store.specs.CreationLaws.{Creates, creates_plan, creates_card}
use Rattle.mc_store.specs.DeletionLaws.{Deletes, deletes_plan, deletes_card}
use Rattle.mc_store.specs.TurnLaws.{parted, blanked}
use Rattle.mc_store.proofs.JournalLemmas.{NoneOpen, none_open, raw, found_after, same_raw, stays}
use Rattle.mc_store.proofs.PowerLemmas.{raw_card, closed_words}
use Rattle.mc_words.specs.model_device.proofs.LookLemmas.{outside_two}
use Rattle.mc_words.specs.model_device.proofs.LayoutLemmas.{closed_fault, closed_means}
use Rattle.mc_blocks.proofs.Plans.{first_room}
use Rattle.mc_words.specs.model_device.proofs.BoolLemmas.{some_is}

module _ (m : List (List ℕ)) (image : IsSized m) (closed : look m ≡ Closed) (good : words_fault m ≡ None) where
  well : IsWellLaid m
  well = closed_fault m closed ∙ good

  own_card : card_of m ≡ means m
  own_card = sym (closed_means m closed)

  -- ---- an atomic write

  stood_card : (list : List (ℕ × List ℕ)) (c : Card) (b : Bool) → words_fault (image_with m list) ≡ None → card_of (image_with m list) ≡ c → raw (image_if_written b m list) ≡ OnCard (cond b c (means m))
  stood_card list c true f e = raw_card (image_with m list) c f e
  stood_card list c false f e = raw_card m (means m) good own_card

  stood_size : (list : List (ℕ × List ℕ)) (b : Bool) → length (image_if_written b m list) ≡ length m
  stood_size list true = length_laid m list
  stood_size list false = refl

  atomic_stops : (list : List (ℕ × List ℕ)) (c : Card) (k : ℕ) (x : List ℕ) → IsAtomic (length m) list → words_fault (image_with m list) ≡ None → card_of (image_with m list) ≡ c → 1 ≤ k → k ≤ length (writes Two list)
      → HoldsBase (OnCard (cond (stands Two (length list) k x) c (means m))) (owes Two (length list) k x) Two (image_after_stop m (writes Two list) k x)
  atomic_stops list c k x atomic f card first last =
      let gates : NoneOpen m = none_open m closed in
      let e = image_after_stop m (writes Two list) k x in
      let few : k ≤ cost Two (length list) = subst (λ (n : ℕ). k ≤ n) (length_writes Two (length m) list image.high atomic) last in
      let t = stands Two (length list) k x in
      let l : LeavesOwing Two e (owes Two (length list) k x) (image_if_written t m list) = tear Two m list image.low image.high atomic gates.two k x first few in
      let size : length l.after ≡ length (image_if_written t m list) = l.same.size in
      let long : length (image_if_written t m list) ≡ length m = stood_size list t in
      let low : 256 ≤ length m = image.low in
      subst (λ (b : Base). HoldsBase b (owes Two (length list) k x) Two e) (stood_card list c t f card)
      (stays Two e l.after (image_if_written t m list) (owes Two (length list) k x)
      (ap (λ (y : List ℕ). bytes_eq y (opening One)) (torn_other m (writes Two list) k x 1 (writes_apart (length m) list image.high atomic)) ∙ gates.one)
      l.owed l.is
      (same_raw l.after (image_if_written t m list) size (omega (arith, size, long, low)) (λ i h. l.same.words i (outside_two i h))))

  -- ---- a write into a hole

  torn_one : (w : ℕ × List ℕ) (k : ℕ) (x : List ℕ) → 1 ≤ k → k ≤ 1 → image_after_stop m (w ∷ []) k x ≡ slice_set m w.0 x
  torn_one w k x first last = let one : k ≡ 1 = omega arith in ap (λ (n : ℕ). image_after_stop m (w ∷ []) n x) one

  plain_stops : (s : Site) (w : ℕ × List ℕ) (k : ℕ) (x : List ℕ) → IsGoodIn m s → s.place < w.0 → w.0 < s.place + words_of_sizes s.sizes → 1 ≤ k → k ≤ 1 → HoldsBase (OnCard (means m)) 0 Two (image_after_stop m (w ∷ []) k x)
  plain_stops s w k x site low high first last =
      let room : has_room s.place (words_of_sizes s.sizes) (gaps (card_of m)) ≡ true =
      subst (λ (c : Card). has_room s.place (words_of_sizes s.sizes) (gaps c) ≡ true) (sym own_card) (first_room (words_of_sizes s.sizes) s.place (gaps (means m)) site.place) in
      let n = slice_set m w.0 x in
      let kept : KeepsCard m n = keeps_gap m n s.place (words_of_sizes s.sizes) w.0 image closed good room low high (besides_set m w.0 x) in
      subst (λ (e : List (List ℕ)). HoldsBase (OnCard (means m)) 0 Two e) (sym (torn_one w k x first last))
      (record {
        base = found_after n n (closed_words n kept.closed) ∙ raw_card n (means m) kept.good (kept.card ∙ own_card);
        owed = ap debt kept.closed;
        by = λ ne. absurd (ne refl);
      })

  -- ---- an item

  by_atomic : (list ps : List (ℕ × List ℕ)) (w : ℕ) (b : Base) (c : Card) (k : ℕ) (x : List ℕ) → list ≡ ps → w ≡ length ps
      → HoldsBase (OnCard (cond (stands Two (length list) k x) c (means m))) (owes Two (length list) k x) Two (image_after_stop m (writes Two list) k x)
      → HoldsBase (OnCard (cond (stands Two w k x) c (means m))) (owes Two w k x) Two (image_after_stop m (writes Two ps) k x)
  by_atomic list ps w b c k x e n h = grind arith

  pub item_stops : (i : BankItem) (k : ℕ) (x : List ℕ) → Allows m i → 1 ≤ k → k ≤ length (item_writes m i) → IsStoppedAt m i k x (image_after_stop m (item_writes m i) k x)
  item_stops (Piece s p at b) k x allowed first last =
      let inside = parted p s.sizes s.place at (length b) allowed.0.limits allowed.1 in
      plain_stops s _ k x allowed.0 inside.0 inside.1 first last
  item_stops (Blank s at n) k x allowed first last =
      let inside = blanked s.sizes s.place at n allowed.1 in
      plain_stops s _ k x allowed.0 inside.0 inside.1 first last
  item_stops (Note s n i) k x allowed first last =
      let few : i < 4 = allowed.2 in
      plain_stops s _ k x allowed.0 (omega arith) (omega arith) first last
  item_stops (Commit n ws) k x allowed first last =
      let found = some_is (lookup (means m).apps n) allowed.0 in
      let a = found.0 in
      let app : app_of (means m).apps (Some n) ≡ a = ap (λ (o : Option App). unwrap_or o no_app) found.1 in
      let there : lookup (card_of m).apps n ≡ Some a = ap (λ (c : Card). lookup c.apps n) own_card ∙ found.1 in
      let t : CommittedCard m n a ws = commits m n a ws image good there (subst (λ (y : App). CanCommit y.fixed ws) app allowed.1) in
      let list : static_writes a ws ≡ static_writes (app_of (means m).apps (Some n)) ws = ap (λ (y : App). static_writes y ws) (sym app) in
      let card : card_of (image_with m (static_writes a ws)) ≡ card_after m (Commit n ws) =
      t.card ∙ ap (λ (c : Card). record c { apps = insert c.apps n (with_words ws a) }) own_card
      ∙ ap (λ (y : App). record (means m) { apps = insert (means m).apps n (with_words ws y) }) (sym app) in
      let few : k ≤ length (writes Two (static_writes a ws)) = subst (λ (l : List (ℕ × List ℕ)). k ≤ length (writes Two l)) (sym list) last in
      by_atomic (static_writes a ws) (static_writes (app_of (means m).apps (Some n)) ws) (length ws) (OnCard (means m)) (card_after m (Commit n ws)) k x list (sym (length-map ws (λ w. ((app_of (means m).apps (Some n)).place + 5 + up (length (app_of (means m).apps (Some n)).code) 8 + w.0, w.1))))
      (atomic_stops (static_writes a ws) (card_after m (Commit n ws)) k x t.atomic t.good card first few)
  item_stops (Enter s n) k x ready first last =
      let p : Creates m s n = creates_plan m s n image closed well ready.good ready.fresh in
      let list = step_of (means m) (card_with m s n) in
      let l = creates_card m (image_with m list) s n image closed well ready (alike_self (image_with m list)) in
      atomic_stops list (card_after m (Enter s n)) k x p.atomic l.laid l.card first last
  item_stops (Remove n) k x there first last =
      let found = some_is (lookup (means m).apps n) there in
      let p : Deletes m n found.0 = deletes_plan m n found.0 image closed well found.1 in
      let list = step_of (means m) (card_without m n) in
      let l = deletes_card m (image_with m list) n found.0 image closed well found.1 (alike_self (image_with m list)) in
      atomic_stops list (card_after m (Remove n)) k x p.atomic l.laid l.card first last
