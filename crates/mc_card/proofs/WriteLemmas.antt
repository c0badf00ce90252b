-- The atomic writes of a chain on a store, as items of the definition and as commits of a bank.
use Rattle.std.proofs.Common.{◌≡◌, ℕ, ◌+◌, ◌≤◌, true, List, [], ◌∷◌, length, Some, Ok, Err, refl, sym, ◌∙◌, ap, subst, inl, inr, arith}
use Rattle.std.proofs.lemmas.List.{length-map}
use Rattle.mc_words.specs.model_device.specs.Orders.{Answer, InOrder}
use Rattle.mc_words.specs.model_device.specs.Bytes.{lookup, splice}
use Rattle.mc_words.specs.model_device.specs.Pieces.{laid_pieces, laid_words, with_words, with_touched, touched_words, HoldPieces, LieIn}
use Rattle.mc_words.specs.model_device.specs.Device.{DeviceState, Wrote as DeviceWrote}
use Rattle.mc_words.specs.model_device.specs.Card.{App, Card, means}
use Rattle.mc_apdu.specs.model_machine.specs.Chain.{Write, map_changed}
use Rattle.mc_bank.specs.model_card.specs.Items.{Fixed, Item, Atomic, card_done, BankItem, Commit, write_items}
use Rattle.mc_trans.proofs.Holding.{words_laid}
use Rattle.mc_bank.specs.Bank.{BankState, app_of, apps_after_commit, item_done, Changes}
use Rattle.mc_bank.proofs.Commits.{Words, commits}
use Rattle.mc_store.specs.declared.store.Store.{Store}
use Rattle.mc_store.specs.Store.{apps_in, is_going, store_state, store_site_bytes}
use Rattle.mc_store.specs.Laws.{store_obeys}
use Rattle.mc_store.specs.StoreItems.{store_did}
use Rattle.mc_store.specs.GoingLaws.{Going, going_is}
use Rattle.mc_card.proofs.StaticLemmas.{going_apps}
use Rattle.mc_card.specs.ItemWrites.{ItemsMade}
use Rattle.mc_machine.specs.law_rows.specs.Keeping.{PiecesWithin}
use Rattle.mc_machine.specs.Chains.{ChainWrote}
use Rattle.mc_machine.proofs.SoundChains.{IsSoundWrite, AreSound}
use Rattle.mc_card.proofs.MadeLemmas.{card_found, closed_base, made_none, made_stopped, made_append, IsAtomicAs, made_one}
use Rattle.mc_words.specs.model_device.proofs.LayoutLemmas.{closed_means}
use Rattle.mc_words.specs.model_device.proofs.PieceLemmas.{held_same}
use Rattle.mc_words.specs.model_device.proofs.ListLemmas.{splice_none}
use Rattle.std.proofs.lemmas.Bool.{not-false}
use Rattle.mc_words.specs.model_device.proofs.BoolLemmas.{some_is}
use Rattle.mc_card.proofs.StoreBank.{store_bank}
use Rattle.mc_bank.specs.declared.bank.Bank.{Ghosts}

-- ---- words that hold pieces

-- one piece before a list of pieces, left out if it has no bytes
abbrev put_solid : ℕ → List ℕ → List (ℕ × List ℕ) → List (ℕ × List ℕ)
put_solid at [] ps = ps
put_solid at (b ∷ bs) ps = (at, b ∷ bs) ∷ ps

abbrev solid : List (ℕ × List ℕ) → List (ℕ × List ℕ)
solid [] = []
solid (p ∷ ps) = put_solid p.0 p.1 (solid ps)

laid_one : (l : List ℕ) (at : ℕ) (b : List ℕ) (ps : List (ℕ × List ℕ)) → laid_pieces l (put_solid at b ps) ≡ laid_pieces (splice l at b) ps
laid_one l at [] ps = ap (λ (x : List ℕ). laid_pieces x ps) (sym (splice_none l at))
laid_one l at (b ∷ bs) ps = refl

laid_solid : (l : List ℕ) (ps : List (ℕ × List ℕ)) → laid_pieces l (solid ps) ≡ laid_pieces l ps
laid_solid l [] = refl
laid_solid l (p ∷ ps) = laid_one l p.0 p.1 (solid ps) ∙ laid_solid (splice l p.0 p.1) ps

touched_one : (ns : List ℕ) (at : ℕ) (b : List ℕ) (ps : List (ℕ × List ℕ)) → with_touched ns (put_solid at b ps) ≡ with_touched (with_words at b ns) ps
touched_one ns at [] ps = refl
touched_one ns at (b ∷ bs) ps = refl

touched_solid : (ns : List ℕ) (ps : List (ℕ × List ℕ)) → with_touched ns (solid ps) ≡ with_touched ns ps
touched_solid ns [] = refl
touched_solid ns (p ∷ ps) = touched_one ns p.0 p.1 (solid ps) ∙ touched_solid (with_words p.0 p.1 ns) ps

same_touched : (ps : List (ℕ × List ℕ)) → touched_words ps ≡ touched_words (solid ps)
unfolding touched_words
same_touched ps = sym (touched_solid [] ps)

lie_one : (n at : ℕ) (b : List ℕ) (ps : List (ℕ × List ℕ)) → at + length b ≤ n → LieIn n ps → LieIn n (put_solid at b ps)
lie_one n at [] ps fits lie = lie
lie_one n at (b ∷ bs) ps fits lie = ((omega arith, fits), lie)

lie_solid : (n : ℕ) (ps : List (ℕ × List ℕ)) → PiecesWithin n ps → LieIn n (solid ps)
lie_solid n [] within = tt
lie_solid n (p ∷ ps) within = lie_one n p.0 p.1 (solid ps) within.0 (lie_solid n ps within.1)

laid_held : (l : List ℕ) (ps ws : List (ℕ × List ℕ)) → PiecesWithin (length l) ps → HoldPieces l ps ws → laid_words l ws ≡ laid_pieces l ps
laid_held l ps ws within held = words_laid l (solid ps) ws (lie_solid (length l) ps within) (held_same l ps (solid ps) ws (same_touched ps) (sym (laid_solid l ps)) held) ∙ laid_solid l ps

-- there are as many words as their pieces touch
as_many : (l : List ℕ) (ps ws : List (ℕ × List ℕ)) → HoldPieces l ps ws → length ws ≡ length (touched_words ps)
as_many l ps ws held = sym (length-map ws (λ w. w.0)) ∙ ap length held.touched_words

-- a commit of words that hold pieces changes the applications as the pieces do
committed_is : (apps : List (List ℕ × App)) (n : List ℕ) (ps ws : List (ℕ × List ℕ)) (a : App) → lookup apps n ≡ Some a → PiecesWithin (length (app_of apps (Some n)).fixed) ps → HoldPieces (app_of apps (Some n)).fixed ps ws → map_changed apps n (Some ps) ≡ apps_after_commit apps n ws
committed_is apps n ps ws a there within held = grind (arith, laid_held)

-- ---- writes as commits

module _ {B : Type 0} (ghosts : Ghosts B) where
  -- the writes of a chain, as commits of these words
  pub record AsCommits (b : B) (a : Answer) (e : B) : Type 0 where
    pub words : List Words
    pub commits : InOrder ghosts.did b (commits words) a e

  pub as_commits : (ws : List Write) (b e : B) (a : Answer) → InOrder (ChainWrote ghosts) b ws a e → AsCommits b a e
  as_commits [] b e (Ok u) h = record { words = []; commits = h }
  as_commits [] b e (Err s) h = absurd h
  as_commits (w ∷ ws) b e a h =
      elim h [
        | inl done ↦
            let rest = as_commits ws done.0 e a done.2 in
            record { words = record { name = w.name; words = (done.1).0 } ∷ rest.words; commits = inl (done.0, (done.1).2, rest.commits) }
        | inr stop ↦ record { words = record { name = w.name; words = (stop.1).0 } ∷ []; commits = inr (stop.0, (stop.1).2, stop.2) }
      ]

-- ---- one write

-- an atomic write of a chain as an item
abbrev item_of : Write → Item
item_of w = Atomic w.words (Fixed w.name w.pieces)

module _ {N : Type 0} (state : N → DeviceState) (wrote : N → ℕ → List ℕ → Answer → N → Type 0)
    (obeys : (d : N) (at : ℕ) (w : List ℕ) (a : Answer) (e : N) → (state d).on ≡ true → wrote d at w a e → DeviceWrote (state d) at w a (state e)) where
  -- the store as a bank
  abbrev bank_state : Store N → BankState
  bank_state s = store_state (state s.device) s.count

  abbrev did : Store N → BankItem → Answer → Store N → Type 0
  did s i a e = store_did state wrote s i a e

  abbrev words_of : Store N → List (List ℕ)
  words_of s = (state s.device).words

  -- the commit of a write is the item of the write
  write_as : (s e : Store N) (w : Write) (ws : List (ℕ × List ℕ)) (a : Answer) → IsSoundWrite (means (words_of s)).apps w → HoldPieces (app_of (bank_state s).apps (Some w.name)).fixed w.pieces ws → did s (Commit w.name ws) a e
      → IsAtomicAs (words_of s) (Commit w.name ws) (length ws) (item_of w)
  write_as s e w ws a sound held done =
      let m = words_of s in
      let same : apps_in m ≡ (means m).apps = going_apps (state s.device) s.count done.going in
      let here : HoldPieces (app_of (means m).apps (Some w.name)).fixed w.pieces ws = subst (λ (apps : List (List ℕ × App)). HoldPieces (app_of apps (Some w.name)).fixed w.pieces ws) same held in
      let there = some_is (lookup (means m).apps w.name) done.allowed.0 in
      record {
        change = Fixed w.name w.pieces;
        is = ap (λ (n : ℕ). Atomic n (Fixed w.name w.pieces)) (sound.words ∙ sym (as_many _ w.pieces ws here));
        apps = committed_is (means m).apps w.name w.pieces ws there.0 there.1 sound.within here;
      }

  pub write_made : (s e : Store N) (w : Write) (a : Answer) → IsSoundWrite (means (words_of s)).apps w → ChainWrote (store_bank state wrote) s w a e → ItemsMade state wrote (means (words_of s)) (item_of w ∷ []) s.device a e.device
  write_made s e w a sound h = made_one state wrote obeys s.device e.device s.count e.count (Commit w.name h.0) (item_of w) a (write_as s e w h.0 a sound h.1 h.2) h.2

  -- a store that made a write has not stopped
  pub goes_on : (s e : Store N) (w : Write) → ChainWrote (store_bank state wrote) s w (Ok tt) e → Going (state e.device) e.count
  goes_on s e w h =
      let t : Changes (bank_state s) (item_done (store_site_bytes (state s.device)) (Commit w.name h.0) (bank_state s).apps) (Ok tt) (bank_state e) =
      store_obeys state wrote obeys s.device e.device s.count e.count (Commit w.name h.0) (Ok tt) h.2 in
      going_is (state e.device) e.count (not-false (is_going (state e.device) e.count) t.going)

  -- ---- writes in sequence

  -- the writes of a chain on a store that has not stopped
  pub writes_made : (ws : List Write) (s e : Store N) (a : Answer) → Going (state s.device) s.count → AreSound (means (words_of s)).apps ws → InOrder (ChainWrote (store_bank state wrote)) s ws a e
      → ItemsMade state wrote (means (words_of s)) (write_items ws) s.device a e.device
  writes_made [] s e (Ok u) g sound h =
      let m = words_of s in
      subst (λ (t : Store N). ItemsMade state wrote (means m) [] s.device (Ok tt) t.device) (sym h) (made_none state wrote obeys (means m) s.device (closed_base m (means m) g.closed g.laid (sym (closed_means m g.closed))))
  writes_made [] s e (Err x) g sound h = absurd h
  writes_made (w ∷ ws) s e a g sound h =
      let c = means (words_of s) in
      let i = item_of w ∷ [] in
      elim h [
        | inl done ↦
            let m = done.0 in
            let first : ItemsMade state wrote c i s.device (Ok tt) m.device = write_made s m w (Ok tt) sound.0 done.1 in
            let now : card_done c i ≡ means (words_of m) = card_found (card_done c i) 0 (words_of m) first.done in
            let rest : ItemsMade state wrote (means (words_of m)) (write_items ws) m.device a e.device =
            writes_made ws m e a (goes_on s m w done.1) (subst (λ (k : Card). AreSound k.apps ws) now sound.1) done.2 in
            made_append state wrote obeys c i (write_items ws) s.device m.device e.device a g.on first (subst (λ (k : Card). ItemsMade state wrote k (write_items ws) m.device a e.device) (sym now) rest)
        | inr stop ↦ subst (λ (b : Answer). ItemsMade state wrote c (write_items (w ∷ ws)) s.device b e.device) (sym stop.2)
            (made_stopped state wrote obeys c i (write_items ws) s.device e.device stop.0 (write_made s e w (Err stop.0) sound.0 stop.1))
      ]
