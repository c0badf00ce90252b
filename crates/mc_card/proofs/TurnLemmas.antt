-- A card after a turn of a chain.
use Rattle.std.proofs.Common.{◌≡◌, ℕ, ◌+◌, ◌-◌, true, false, List, length, Option, Some, None, Result, Ok, Err, refl, sym, ◌∙◌, ap, subst, arith}
use Rattle.std.specs.Prelude.{option_map, is_some}
use Rattle.mc_words.specs.model_device.specs.declared.device.Stop.{Stop}
use Rattle.mc_words.specs.model_device.specs.Orders.{Answer, answer_of, InOrder}
use Rattle.mc_words.specs.model_device.specs.Device.{DeviceState, IsSized, Wrote as DeviceWrote}
use Rattle.mc_words.specs.model_device.specs.Card.{App}
use Rattle.mc_bank.specs.model_card.specs.Items.{BankItem, apps_after_items, write_items}
use Rattle.mc_apdu.specs.model_machine.specs.Chain.{Chain, Turn as ModelTurn, Outcome as ModelOutcome, Acted, Follows, Continues, Ends, chain_session, end_of, turn_of}
use Rattle.mc_bank.specs.Bank.{BankState, AreApps, app_of}
use Rattle.mc_store.specs.declared.store.Store.{Store}
use Rattle.mc_store.specs.Store.{store_state, store_named}
use Rattle.mc_store.specs.StoreItems.{store_did}
use Rattle.mc_manager.specs.declared.selection.Selection.{Selection}
use Rattle.mc_manager.specs.ManagerState.{ManagerState}
use Rattle.mc_card.specs.declared.card.Card.{Card}
use Rattle.mc_machine.specs.declared.outcome.Outcome.{Outcome}
use Rattle.mc_machine.specs.declared.outcome.Turn.{Turn}
use Rattle.mc_machine.specs.Chains.{Chained, RunsAs, ChainWrote, session_in}
use Rattle.mc_machine.specs.Places.{Runs, TurnsTo}
use Rattle.mc_machine.specs.Turns.{Follow, TurnActs, TurnDone, WritesFew, outcome_value}
use Rattle.mc_card.specs.Ends.{TurnGoesOn, ChainTurned}
use Rattle.mc_card.specs.ItemWrites.{ItemsMade}
use Rattle.mc_card.specs.Parts.{card_in, session_state_in, with_session, RunsChain}
use Rattle.mc_machine.proofs.SoundChains.{AreSound, TurnSound, FollowsSound, first_in, session_size, turn_sound}
use Rattle.mc_machine.proofs.SoundRuns.{turn_end}
use Rattle.mc_card.proofs.StaticLemmas.{going_apps}
use Rattle.mc_card.proofs.FewLemmas.{going_entries}
use Rattle.mc_card.proofs.AfterLemmas.{card_made, still_up, same_session_state, session_state_after}
use Rattle.std.proofs.lemmas.Option.{same_Some}
use Rattle.mc_card.proofs.StoreBank.{store_bank}

-- the card with these parts
abbrev pub card_of : {N : Type 0} → Store N → ManagerState → List ℕ → Option Chained → Card N
card_of store manager session chain = record { store = store; manager = manager; session = session; chain = chain }

-- the card whose chain has ended, by the place of the chain and the session bytes that are written
pub end_card : {N : Type 0} (store : Store N) (manager : ManagerState) (o : Option Chained) (d : Chained) (p : Option Chained) (session : List ℕ) → o ≡ Some d → p ≡ None → Runs o (λ k. session ≡ session_in k)
    → card_of store manager session p ≡ card_of store manager (session_in d) None
end_card store manager o d p session is none ends = grind arith

module _ {N : Type 0} (state : N → DeviceState) (wrote : N → ℕ → List ℕ → Answer → N → Type 0)
    (obeys : (d : N) (at : ℕ) (w : List ℕ) (a : Answer) (e : N) → (state d).on ≡ true → wrote d at w a e → DeviceWrote (state d) at w a (state e)) where
  abbrev bank_state : Store N → BankState
  bank_state s = store_state (state s.device) s.count

  abbrev did : Store N → BankItem → Answer → Store N → Type 0
  did s i a e = store_did state wrote s i a e

  abbrev named : Store N → ℕ → Option (List ℕ)
  named s k = store_named (state s.device) k

  module _ (c : Card N) (ch : Chain) (left : ℕ) (r : RunsChain state c ch left) where
    abbrev t : Acted
    t = turn_of left ch

    abbrev apps : List (List ℕ × App)
    apps = (card_in state c).apps

    -- the chain has the applications of the card
    own_map : ch.map ≡ apps
    own_map = r.runs.map ∙ going_apps (state c.store.device) c.store.count r.up.going

    sound : TurnSound ch t
    sound = turn_sound left ch r.sound

    writes_sound : AreSound apps t.writes
    writes_sound = subst (λ (m : List (List ℕ × App)). AreSound m t.writes) own_map sound.writes

    -- the turn's writes, as items of the definition
    pub turn_made : (e : Store N) (a : Answer) → InOrder (ChainWrote (store_bank state wrote)) c.store t.writes a e → ItemsMade state wrote (card_in state c) (write_items t.writes) c.store.device a e.device
    turn_made = card_made state wrote obeys c r.up t.writes writes_sound

    -- the first frame has as many session bytes as the selected application
    first_size : (s : Selection) → c.manager.selected ≡ Some s → length (chain_session ch) ≡ (app_of apps (Some s.aid)).session
    first_size s is = grind (arith, first_in, same_Some, session_size, own_map)

    module _ (e : Store N) (d : Chained) (acts : TurnActs (store_bank state wrote) c.store e r.chained d ch t) where
      -- the chain continues
      goes : (next : Chain) → t.follows ≡ Continues next → TurnGoesOn state wrote c ch (left - t.count) (Continues next) (record { store = e; manager = c.manager; session = c.session; chain = Some d })
      goes next is =
          let s = subst (λ (f : Follows). FollowsSound ch (apps_after_items ch.map (write_items t.writes)) f) is sound.follows in
          let all = acts.left in
          let old = r.left in (
            record {
              up = still_up state wrote obeys c r.up t.writes writes_sound e acts.writes c.session (Some d) acts.going r.up.session;
              chained = d;
              is = refl;
              runs = subst (λ (f : Follows). Follow (bank_state e) (store_named (state e.device)) d ch f) is acts.follows;
              left = omega (arith, all, old);
              own = r.own ∙ ap (λ (n : List ℕ). Some n) (sym s.first);
              sound = s.sound;
            },
            same_session_state state wrote obeys c r.up t.writes writes_sound e acts.writes,
          )

      -- the chain has ended
      ends : (o : ModelOutcome) → t.follows ≡ Ends o → TurnGoesOn state wrote c ch (left - t.count) (Ends o) (record { store = e; manager = c.manager; session = session_in d; chain = None })
      ends o is =
          let bytes : session_in d ≡ chain_session ch = subst (λ (f : Follows). Follow (bank_state e) (store_named (state e.device)) d ch f) is acts.follows in (
            record { up = still_up state wrote obeys c r.up t.writes writes_sound e acts.writes (session_in d) None acts.going (λ s sel. ap length bytes ∙ first_size s sel); idle = refl },
            session_state_after state wrote obeys c r.up t.writes writes_sound e acts.writes (session_in d) ∙ ap (λ (b : List ℕ). with_session b (session_state_in state c)) bytes,
          )

      goes_by : (f : Follows) → t.follows ≡ f → end_of f ≡ None → TurnGoesOn state wrote c ch (left - t.count) f (record { store = e; manager = c.manager; session = c.session; chain = Some d })
      goes_by (Continues next) is none = goes next is
      goes_by (Ends o) is none = absurd (cc none)

      ends_by : (f : Follows) (o : ModelOutcome) → t.follows ≡ f → end_of f ≡ Some o → TurnGoesOn state wrote c ch (left - t.count) f (record { store = e; manager = c.manager; session = session_in d; chain = None })
      ends_by (Continues next) o is some = absurd (cc some)
      ends_by (Ends p) o is some = ends p is

      -- a turn after which the command continues
      pub turn_goes : t.turn.end ≡ None → TurnGoesOn state wrote c ch (left - t.count) t.follows (record { store = e; manager = c.manager; session = c.session; chain = Some d })
      turn_goes none = goes_by t.follows refl (sym (turn_end left ch) ∙ none)

      -- a turn that ends the command
      pub turn_ends : (o : ModelOutcome) → t.turn.end ≡ Some o → TurnGoesOn state wrote c ch (left - t.count) t.follows (record { store = e; manager = c.manager; session = session_in d; chain = None })
      turn_ends o some = ends_by t.follows o refl (sym (turn_end left ch) ∙ some)

  -- ---- the turn of the code

  -- a turn of the chain that runs on a card, by its result and the number of steps before and after it
  pub record PlaceTurned (c : Card N) (o : Option Chained) (e : Store N) (result : Result Turn Stop) (old new : ℕ) : Type 0 where
    pub before : Chained
    pub was : c.chain ≡ Some before
    pub after : Chained
    pub is : o ≡ Some after
    pub turns : TurnsTo (store_bank state wrote) c.store e result old new before after

  pub place_turned : (c : Card N) (o : Option Chained) (e : Store N) (result : Result Turn Stop) (old new : ℕ) → Runs c.chain (λ k. Runs o (TurnsTo (store_bank state wrote) c.store e result old new k)) → PlaceTurned c o e result old new
  place_turned c o e result old new turned = split c.chain o refl refl turned
    where
      split : (x y : Option Chained) → c.chain ≡ x → o ≡ y → Runs x (λ k. Runs y (TurnsTo (store_bank state wrote) c.store e result old new k)) → PlaceTurned c o e result old new
      split None y was is turned = absurd turned
      split (Some k) None was is turned = absurd turned
      split (Some k) (Some d) was is turned = record { before = k; was = was; after = d; is = is; turns = turned }

  module _ (c : Card N) (k : Chained) (is : c.chain ≡ Some k) (e : Store N) (d : Chained) where
    -- the card whose chain continues, and the card whose chain has ended
    abbrev card_on : Card N
    card_on = card_of e c.manager c.session (Some d)

    abbrev card_off : Card N
    card_off = card_of e c.manager (session_in d) None

    -- the clauses of the turn of the machine
    abbrev Does : Result Turn Stop → Type 0
    Does result = (ch : Chain) → RunsAs (bank_state c.store) (named c.store) k ch → TurnDone (store_bank state wrote) c.store e k d ch (turn_of k.left ch) result

    own_chain : (ch : Chain) (left : ℕ) (r : RunsChain state c ch left) → r.chained ≡ k
    own_chain ch left r = same_Some r.chained k (sym r.is ∙ is)

    -- the chain of the code represents the chain of the definition
    pub runs_own : (ch : Chain) (left : ℕ) → RunsChain state c ch left → RunsAs (bank_state c.store) (named c.store) k ch
    runs_own ch left r = subst (λ (x : Chained). RunsAs (bank_state c.store) (named c.store) x ch) (own_chain ch left r) r.runs

    pub left_own : (ch : Chain) (left : ℕ) → RunsChain state c ch left → k.left ≡ left
    left_own ch left r = ap (λ (x : Chained). x.left) (sym (own_chain ch left r)) ∙ r.left

    done_own : (result : Result Turn Stop) → Does result → (ch : Chain) (left : ℕ) (r : RunsChain state c ch left) → TurnDone (store_bank state wrote) c.store e r.chained d ch (turn_of left ch) result
    done_own result does ch left r =
        subst (λ (x : Chained). TurnDone (store_bank state wrote) c.store e x d ch (turn_of left ch) result) (sym (own_chain ch left r))
        (subst (λ (n : ℕ). TurnDone (store_bank state wrote) c.store e k d ch (turn_of n ch) result) (left_own ch left r) (does ch (runs_own ch left r)))

    -- the device writes that were tried, with a stop or without
    pub done_made : (result : Result Turn Stop) → Does result → (ch : Chain) (left : ℕ) → RunsChain state c ch left → ItemsMade state wrote (card_in state c) (write_items (turn_of left ch).writes) c.store.device (answer_of result) e.device
    done_made result does ch left r = made_by result (done_own result does ch left r)
      where
        made_by : (result : Result Turn Stop) → TurnDone (store_bank state wrote) c.store e r.chained d ch (turn_of left ch) result → ItemsMade state wrote (card_in state c) (write_items (turn_of left ch).writes) c.store.device (answer_of result) e.device
        made_by (Ok reported) own = turn_made c ch left r e (Ok tt) own.0.writes
        made_by (Err s) own = turn_made c ch left r e (Err s) own

    -- a turn that stopped
    pub turned_stop : (s : Stop) → Does (Err s) → (ch : Chain) (left : ℕ) → RunsChain state c ch left → ChainTurned state wrote c ch left (turn_of left ch) (Err s) card_on
    turned_stop s does ch left r = record { made = done_made (Err s) does ch left r; turn = tt; follows = tt }

    -- a turn of the code after which the command continues
    pub turned_on : (reported : Turn) → is_some reported.end ≡ false → Does (Ok reported) → (ch : Chain) (left : ℕ) → RunsChain state c ch left → ChainTurned state wrote c ch left (turn_of left ch) (Ok reported) card_on
    turned_on reported none does ch left r =
        let own = done_own (Ok reported) does ch left r in
        record {
          made = done_made (Ok reported) does ch left r;
          turn = own.1;
          follows = turn_goes c ch left r e d own.0 (ap (λ (t : ModelTurn). t.end) own.1 ∙ no_end reported.end none);
        }
      where
        no_end : (o : Option Outcome) → is_some o ≡ false → option_map outcome_value o ≡ None
        no_end None h = refl
        no_end (Some x) h = absurd (cc h)

    -- a turn of the code that ends the command
    pub turned_off : (reported : Turn) → is_some reported.end ≡ true → Does (Ok reported) → (ch : Chain) (left : ℕ) → RunsChain state c ch left → ChainTurned state wrote c ch left (turn_of left ch) (Ok reported) card_off
    turned_off reported some does ch left r =
        let own = done_own (Ok reported) does ch left r in
        let end = some_end reported.end some in
        record {
          made = done_made (Ok reported) does ch left r;
          turn = own.1;
          follows = turn_ends c ch left r e d own.0 end.0 (ap (λ (t : ModelTurn). t.end) own.1 ∙ end.1);
        }
      where
        some_end : (o : Option Outcome) → is_some o ≡ true → (x : ModelOutcome) × (option_map outcome_value o ≡ Some x)
        some_end None h = absurd (cc h)
        some_end (Some x) h = (outcome_value x, refl)

    -- the number of its device writes
    pub turned_few : ((ch : Chain) → RunsAs (bank_state c.store) (named c.store) k ch → AreApps (bank_state c.store).apps → WritesFew (turn_of k.left ch)) → IsSized (state c.store.device).words
        → (ch : Chain) (left : ℕ) → RunsChain state c ch left → WritesFew (turn_of left ch)
    turned_few few image ch left r =
        subst (λ (n : ℕ). WritesFew (turn_of n ch)) (left_own ch left r) (few ch (runs_own ch left r) (going_entries (state c.store.device) c.store.count image r.up.going))

    -- the number of its steps
    pub turned_steps : (old new : ℕ) → ((ch : Chain) → RunsAs (bank_state c.store) (named c.store) k ch → new ≡ old + (turn_of k.left ch).count) → (ch : Chain) (left : ℕ) → RunsChain state c ch left → new ≡ old + (turn_of left ch).count
    turned_steps old new ticks ch left r = ticks ch (runs_own ch left r) ∙ ap (λ (n : ℕ). old + (turn_of n ch).count) (left_own ch left r)
