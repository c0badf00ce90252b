-- Each application of a play has at most the most session bytes, and so each command of a play has the sizes of the law.
use Rattle.std.proofs.Common.{◌≡◌, ℕ, ◌+◌, ◌-◌, ◌≤◌, Bool, true, false, cond, not, List, [], ◌∷◌, ◌++◌, take, drop, length, Option, Some, None, refl, sym, subst, inl}
use Rattle.std.specs.Prelude.{⊤, ◌==◌, ◌&&◌, nat_lt, nat_le, bytes_eq, slice_index}
use Rattle.std.proofs.lemmas.Bool.{and_parts, leb-true}
use Rattle.law_family.specs.model_device.specs.declared.cause.Cause.{Cause}
use Rattle.law_family.specs.model_device.specs.declared.device.Stop.{Stop}
use Rattle.law_family.specs.model_device.specs.declared.device.Stop.TheVariants as stop
use Rattle.law_family.specs.model_device.specs.Bytes.{lookup, insert, remove, zeros, be2, has_name}
use Rattle.law_family.specs.model_device.specs.Card.{App, Card, Block, words_of_lengths, record_at, name_in, name_at, app_at, apps_of, blocks, words_after, means}
use Rattle.law_family.specs.model_device.specs.Image.{Two, look, after}
use Rattle.law_family.specs.model_device.specs.Layout.{is_record, bad_record, fault}
use Rattle.law_family.specs.model_device.specs.Limits.{most_static, most_code, most_session, most_record}
use Rattle.law_family.specs.model_device.specs.PowerUp.{Base, OnCard, AtFault, base_after_migration, base_of}
use Rattle.law_family.specs.model_device.specs.Stopped.{cost, stands}
use Rattle.law_family.specs.model_device.proofs.LayoutLemmas.{sound_after}
use Rattle.law_family.specs.model_device.proofs.MapLemmas.{same_name, lookup_inserted_lem, lookup_beside, lookup_removed_lem, lookup_left}
use Rattle.law_family.specs.model_machine.specs.Apdu.{ApduParts}
use Rattle.law_family.specs.model_machine.specs.Chain.{Chain, Write, changed_app, run, with_pieces, start as first_chain}
use Rattle.law_family.specs.model_card.specs.declared.card.Sizes.{Sizes}
use Rattle.law_family.specs.model_card.specs.Commands.{Command, atomic_of, manager_command, application_command, by_route, command}
use Rattle.law_family.specs.model_card.specs.Items.{Change, Fixed, Created, Deleted, Item, Plain, Atomic, Stopped, apps_after_change, apps_after_items, at_stop, card_done, in_flight, moves, StopAt, with_item, write_items}
use Rattle.law_family.specs.model_card.specs.Manager.{Selected, Open, SessionState, Route, WrongLength, WrongClass, ToSelect, ToManager, ToApplication, fits_limits, fresh, manage, p1p2, room_on, route, select, sizes_in, word_parts}
use Rattle.law_family.specs.model_play.specs.DeckGrammar.{DeckLine}
use Rattle.law_family.specs.model_play.specs.DeckGrammar as line
use Rattle.law_family.specs.model_play.specs.Laws.{bytes_of}
use Rattle.law_family.specs.model_play.specs.Play.{Armed, Live, Running, Unpowered, Muted, Warm, State, BeforePower, AfterPower, Step, FailedWrite, command_with_rest, delete_bytes, first_failure, hit_of, is_done, line_after, line_command, live_after, load_commands, play_at_power, plays, power_after, power_live, select_bytes, send, start, step, stopped_power}
use Rattle.law_family.specs.model_play.proofs.LineKinds.{past_power, IsUnheard, StepKind, Early, Quiet, Powers, Sends, by_kind, unheard_bytes}
use Rattle.law_family.specs.law_manager.specs.Answers.{IsQuiet}
use Rattle.law_family.specs.law_manager.specs.Answers as quiet
use Rattle.law_family.specs.law_manager.specs.OnCard.{IsCommand, IsSelect, blank_words, plains}
use Rattle.law_family.specs.law_manager.specs.OnCard as made
use Rattle.law_family.specs.law_manager.specs.Orders.{Order, order_of}
use Rattle.law_family.specs.law_manager.proofs.OnCard.{command_made, selects_law}
use Rattle.law_family.specs.law_manager.proofs.Plains.{plains_are}
use Rattle.law_family.specs.Begins.{BehindDone, OnEachRun, OnLine, OnPassed, OnRouted, OnSent, OnTaken, HoldsWherever}
use Rattle.law_family.proofs.EachRun.{each_run}
use Rattle.law_family.proofs.PlaySizes.{good_records}
use Rattle.law_steps.specs.Laws.{HaveFewSessionBytes, PlaysReplayLaw}
use Rattle.law_steps.specs.Replays.{HoldsAlong, frame_line, memory_after, no_memory}
use Rattle.law_steps.proofs.ChainSizes.{sizes_law}
use Rattle.law_steps.proofs.Replaying.{replay}

-- ---- applications

abbrev Few : Option App → Type 0
Few None = ⊤
Few (Some a) = a.session ≤ most_session

abbrev AllFew : List (List ℕ × App) → Type 0
AllFew m = (n : List ℕ) → Few (lookup m n)

few_are : (m : List (List ℕ × App)) → AllFew m → HaveFewSessionBytes m
few_are m h n a e = subst Few e (h n)

few_inserted : (m : List (List ℕ × App)) (n : List ℕ) (a : App) → AllFew m → a.session ≤ most_session → AllFew (insert m n a)
few_inserted m n a h small k = by (bytes_eq n k) refl
  where
    by : (b : Bool) → bytes_eq n k ≡ b → Few (lookup (insert m n a) k)
    by true is = subst (λ (j : List ℕ). Few (lookup (insert m n a) j)) (same_name n k is) (subst Few (sym (lookup_inserted_lem m n a)) small)
    by false is = subst Few (sym (lookup_beside m n a k is)) (h k)

few_removed : (m : List (List ℕ × App)) (n : List ℕ) → AllFew m → AllFew (remove m n)
few_removed m n h k = by (bytes_eq n k) refl
  where
    by : (b : Bool) → bytes_eq n k ≡ b → Few (lookup (remove m n) k)
    by true is = subst (λ (j : List ℕ). Few (lookup (remove m n) j)) (same_name n k is) (subst Few (sym (lookup_removed_lem m n)) tt)
    by false is = subst Few (sym (lookup_left m n k is)) (h k)

few_fixed : (m : List (List ℕ × App)) (n : List ℕ) (ps : List (ℕ × List ℕ)) (o : Option App) → lookup m n ≡ o → AllFew m → AllFew (changed_app m n ps o)
few_fixed m n ps None e h = h
few_fixed m n ps (Some a) e h = few_inserted m n (with_pieces ps a) h (subst Few e (h n))

-- ---- items

abbrev FewChange : Change → Type 0
FewChange (Fixed n ps) = ⊤
FewChange (Created n a) = a.session ≤ most_session
FewChange (Deleted n) = ⊤

abbrev FewItems : List Item → Type 0
FewItems [] = ⊤
FewItems (Plain ∷ is) = FewItems is
FewItems (Atomic w c ∷ is) = FewChange c × FewItems is

few_changed : (m : List (List ℕ × App)) (c : Change) → AllFew m → FewChange c → AllFew (apps_after_change c m)
few_changed m (Fixed n ps) h f = few_fixed m n ps (lookup m n) refl h
few_changed m (Created n a) h f = few_inserted m n a h f
few_changed m (Deleted n) h f = few_removed m n h

few_done : (is : List Item) (m : List (List ℕ × App)) → AllFew m → FewItems is → AllFew (apps_after_items m is)
few_done [] m h f = h
few_done (Plain ∷ is) m h f = few_done is m h f
few_done (Atomic w c ∷ is) m h f = few_done is (apps_after_change c m) (few_changed m c h f.0) f.1

few_cond : (b : Bool) (s t : Stopped) → FewItems s.whole → FewItems t.whole → FewItems (cond b s t).whole
few_cond true s t h k = h
few_cond false s t h k = k

few_flight : (w : ℕ) (c : Change) (b : Bool) → FewChange c → FewItems (cond b (Atomic w c ∷ []) [])
few_flight w c true h = (h, tt)
few_flight w c false h = tt

few_whole : (is : List Item) (k : ℕ) (x : List ℕ) → FewItems is → FewItems (at_stop is k x).whole
few_whole [] k x f = tt
few_whole (Plain ∷ is) k x f = few_cond (k == 1) (record { whole = []; owed = 0 }) (with_item Plain (at_stop is (k - 1) x)) tt (few_whole is (k - 1) x f)
few_whole (Atomic w c ∷ is) k x f =
    few_cond (nat_le k (cost Two w)) (in_flight w c k x) (with_item (Atomic w c) (at_stop is (k - cost Two w) x)) (few_flight w c (stands Two w k x) f.0) (f.0, few_whole is (k - cost Two w) x f.1)

few_append : (is js : List Item) → FewItems is → FewItems js → FewItems (is ++ js)
few_append [] js f g = g
few_append (Plain ∷ is) js f g = few_append is js f g
few_append (Atomic w c ∷ is) js f g = (f.0, few_append is js f.1 g)

few_plains : (n : ℕ) (is : List Item) → FewItems is → FewItems (plains n is)
few_plains n is h = plains_are FewItems (λ js k. k) n is h

few_writes : (ws : List Write) → FewItems (write_items ws)
few_writes [] = tt
few_writes (w ∷ ws) = (tt, few_writes ws)

-- ---- commands

abbrev FewLoad : Option Open → Type 0
FewLoad None = ⊤
FewLoad (Some o) = o.site.sizes.session ≤ most_session

record FewAfter (r : Command) : Type 0 where
  items : FewItems r.items
  load : FewLoad r.session_state.load

few_sizes : (s : Sizes) → fits_limits s ≡ true → s.session ≤ most_session
few_sizes s h =
    let a : Bool = nat_le 1 s.code && nat_le s.code most_code in
    let b : Bool = a && nat_le s.fixed most_static in
    let d : Bool = b && nat_le s.init s.fixed in
    let e : Bool = d && nat_le s.session most_session in
    let f : Bool = e && nat_le s.dir most_record in
    let to-f = and_parts f (nat_le s.fci most_record) h in
    let to-e = and_parts e (nat_le s.dir most_record) to-f.0 in
    leb-true s.session most_session (and_parts d (nat_le s.session most_session) to-e.0).1

module _ (c : Card) (session_state : SessionState) (fits : FewLoad session_state.load) where
  few_selected : (a : ApduParts) (r : Command) → IsSelect c session_state a r → FewAfter r
  few_selected a _ (made.unselected sw h) = record { items = tt; load = fits }
  few_selected a _ (made.selected app h) = record { items = tt; load = fits }

  few_quiet : (a : ApduParts) (o : Order) (body : List ℕ) (load : Option Open) → IsQuiet (room_on c) c.apps session_state a o body load → FewLoad load
  few_quiet a _ _ _ (quiet.answers o first rest) = fits
  few_quiet a _ _ _ (quiet.opens h) = few_sizes (sizes_in a) h.limits

  few_made : (a : ApduParts) (o : Order) (r : Command) → IsCommand c session_state a o r → FewAfter r
  few_made a _ _ (made.refused o sw h) = record { items = tt; load = fits }
  few_made a _ _ (made.quiet o body load h) = record { items = tt; load = few_quiet a o body load h }
  few_made a _ _ (made.loaded p l h) = record { items = few_plains (length (word_parts (p1p2 a) a.body)) [] tt; load = subst FewLoad h.is fits }
  few_made a _ _ (made.created l n h) =
      let items = plains 4 (atomic_of c (Some (Created n (fresh l))) ∷ []) in
      record { items = few_plains (blank_words l.site) items (few_plains 4 (atomic_of c (Some (Created n (fresh l))) ∷ []) (subst FewLoad h.is fits, tt)); load = tt }
  few_made a _ _ (made.deleted h) = record { items = (tt, tt); load = tt }

few_passed : (c : Card) (session_state : SessionState) (o : Option Selected) (a : ApduParts) (budget : ℕ) → FewLoad session_state.load → FewAfter (application_command c session_state o a budget)
few_passed c session_state None a budget h = record { items = tt; load = h }
few_passed c session_state (Some s) a budget h = record { items = few_writes (run c.apps s.name s.session a budget).writes; load = h }

few_routed : (c : Card) (session_state : SessionState) (budget : ℕ) (r : Route) → FewLoad session_state.load → FewAfter (by_route c session_state budget r)
few_routed c session_state budget WrongLength h = record { items = tt; load = h }
few_routed c session_state budget WrongClass h = record { items = tt; load = h }
few_routed c session_state budget (ToSelect a) h = few_selected c session_state h a (manager_command c session_state (select c.apps session_state a)) (selects_law c session_state a)
few_routed c session_state budget (ToManager a) h = few_made c session_state h a (order_of a.ins) (manager_command c session_state (manage (room_on c) c.apps session_state a)) (command_made c session_state a)
few_routed c session_state budget (ToApplication a) h = few_passed c session_state session_state.selected a budget h

few_command : (c : Card) (session_state : SessionState) (b : List ℕ) (budget : ℕ) → FewLoad session_state.load → FewAfter (command c session_state b budget)
unfolding command
few_command c session_state b budget h = few_routed c session_state budget (route b) h

-- ---- the commands of a line

few_sent_on : (b : Bool) (r rest : Command) → FewAfter r → FewAfter rest → FewAfter (command_with_rest b r rest)
few_sent_on true r rest h k = record { items = few_append r.items rest.items h.items k.items; load = k.load }
few_sent_on false r rest h k = h

few_send : (c : Card) (session_state : SessionState) (budget : ℕ) (bs : List (List ℕ)) → FewLoad session_state.load → FewAfter (send c session_state budget bs)
unfolding send
few_send c session_state budget [] h = record { items = tt; load = h }
few_send c session_state budget (b ∷ bs) h =
    let r = command c session_state b budget in
    let k : FewAfter r = few_command c session_state b budget h in
    few_sent_on (is_done r.outcome) r (send (card_done c r.items) r.session_state budget bs) k (few_send (card_done c r.items) r.session_state budget bs k.load)

few_line : (c : Card) (session_state : SessionState) (budget : ℕ) (l : DeckLine) → FewLoad session_state.load → FewAfter (line_command c session_state budget l)
few_line c session_state budget (line.Sent (line.Select n)) h = few_command c session_state (select_bytes n) budget h
few_line c session_state budget (line.Sent (line.Delete n)) h = few_command c session_state (delete_bytes n) budget h
few_line c session_state budget (line.Sent (line.Apdu b)) h = few_command c session_state b budget h
few_line c session_state budget (line.Sent (line.Load u fixed session)) h = few_send c session_state budget (load_commands u fixed session) h
few_line c session_state budget l h = record { items = tt; load = h }

-- ---- the runs of a line

-- a run begins on applications that have few session bytes
abbrev BeginsFew : ℕ → Chain → Type 0
BeginsFew n ch = HaveFewSessionBytes ch.map

passed_few : (m : List (List ℕ × App)) (budget : ℕ) (o : Option Selected) (a : ApduParts) → AllFew m → OnPassed BeginsFew m budget o a
passed_few m budget None a h = tt
passed_few m budget (Some s) a h = few_are m h

routed_few : (m : List (List ℕ × App)) (session_state : SessionState) (budget : ℕ) (r : Route) → AllFew m → OnRouted BeginsFew m session_state budget r
routed_few m session_state budget (ToApplication a) h = passed_few m budget session_state.selected a h
routed_few m session_state budget WrongLength h = tt
routed_few m session_state budget WrongClass h = tt
routed_few m session_state budget (ToSelect a) h = tt
routed_few m session_state budget (ToManager a) h = tt

behind : (b : Bool) (later : Type 0) → later → BehindDone b later
behind true later h = h
behind false later h = tt

sent_few : (c : Card) (session_state : SessionState) (budget : ℕ) (bs : List (List ℕ)) → AllFew c.apps → FewLoad session_state.load → OnSent BeginsFew c session_state budget bs
sent_few c session_state budget [] l h = tt
sent_few c session_state budget (b ∷ bs) l h =
    let r = command c session_state b budget in
    let d = card_done c r.items in
    let k : FewAfter r = few_command c session_state b budget h in
    (routed_few c.apps session_state budget (route b) l, behind (is_done r.outcome) (OnSent BeginsFew d r.session_state budget bs) (sent_few d r.session_state budget bs (few_done r.items c.apps l k.items) k.load))

-- ---- the card that the first power line finds

record_few : (r : List ℕ) (words : ℕ) → is_record r words ≡ true → be2 r 24 ≤ most_session
record_few r words h =
    let n : ℕ = slice_index r 16 in
    let a : Bool = nat_le 5 n && nat_le n 16 && bytes_eq (take (16 - n) (drop n r)) (zeros (16 - n))
    && nat_le (slice_index r 17) 128 && nat_le (slice_index r 18) 128 && slice_index r 19 == 0 && nat_le 1 (be2 r 20) && nat_le (be2 r 20) 8192 in
    let b : Bool = a && nat_le (be2 r 22) 4096 in
    let d : Bool = b && nat_le (be2 r 24) 256 in
    let e : Bool = d && nat_le (be2 r 26) 15 in
    let f : Bool = e && bytes_eq (drop 28 r) (zeros 4) in
    let to-f = and_parts f (words == words_of_lengths (be2 r 20) (be2 r 22) (slice_index r 17) (slice_index r 18)) h in
    let to-e = and_parts e (bytes_eq (drop 28 r) (zeros 4)) to-f.0 in
    let to-d = and_parts d (nat_le (be2 r 26) 15) to-e.0 in
    leb-true (be2 r 24) 256 (and_parts b (nat_le (be2 r 24) 256) to-d.0).1

few_blocks : (m : List (List ℕ)) (bs : List Block) (names : List (List ℕ)) (used : ℕ) → bad_record m bs names used ≡ None → AllFew (apps_of m bs)
unfolding bad_record apps_of
few_blocks m [] names used h = λ n. tt
few_blocks m (b ∷ bs) names used h =
    by b.used (is_record (record_at m b.place) b.words && not (has_name (name_in (record_at m b.place)) names) && nat_lt used 32) refl h
    (λ e. few_blocks m bs (name_in (record_at m b.place) ∷ names) (used + 1) e) (λ e. few_blocks m bs names used e)
  where
    by : (u g : Bool) → (is_record (record_at m b.place) b.words && not (has_name (name_in (record_at m b.place)) names) && nat_lt used 32) ≡ g
        → cond u (cond g (bad_record m bs (name_in (record_at m b.place) ∷ names) (used + 1)) (Some b.place)) (bad_record m bs names used) ≡ None
        → (bad_record m bs (name_in (record_at m b.place) ∷ names) (used + 1) ≡ None → AllFew (apps_of m bs)) → (bad_record m bs names used ≡ None → AllFew (apps_of m bs))
        → AllFew (cond u (insert (apps_of m bs) (name_at m b.place) (app_at m b.place)) (apps_of m bs))
    by true true is e next other =
        let r = record_at m b.place in
        let front = and_parts (is_record r b.words && not (has_name (name_in r) names)) (nat_lt used 32) is in
        let good = and_parts (is_record r b.words) (not (has_name (name_in r) names)) front.0 in
        few_inserted (apps_of m bs) (name_at m b.place) (app_at m b.place) (next e) (record_few r b.words good.0)
    by true false is e next other = absurd (cc e)
    by false g is e next other = other e

few_means : (m : List (List ℕ)) → fault m ≡ None → AllFew (means m).apps
few_means m h =
    let w = words_after (after m) m in
    few_blocks w (blocks w) [] 0 (good_records w (sound_after m (look m) refl h))

-- ---- lines

abbrev FewLive : Live → Type 0
FewLive (Running session_state) = FewLoad session_state.load
FewLive Unpowered = ⊤
FewLive Muted = ⊤

abbrev FewBase : Base → Live → Type 0
FewBase (OnCard c) v = AllFew c.apps × FewLive v
FewBase (AtFault cause p) v = ⊤

abbrev FewState : State → Type 0
FewState (BeforePower m b a) = ⊤
FewState (AfterPower s) = FewBase s.base s.live

record FewStep (u : Step) : Type 0 where
  runs : OnLine BeginsFew u.before (bytes_of u.line)
  next : FewState u.after

few_stop : (k : Stop) → FewLive (live_after k)
few_stop stop.Off = tt
few_stop stop.Worn = tt

base_unpowered : (b : Base) (v : Live) → FewBase b v → FewBase b Unpowered
base_unpowered (OnCard c) v h = (h.0, tt)
base_unpowered (AtFault cause p) v h = tt

base_live : (b : Base) (v : Live) → FewBase b Unpowered → FewLive v → FewBase b v
base_live (OnCard c) v h k = (h.0, k)
base_live (AtFault cause p) v h k = tt

base_powered : (b : Base) → FewBase b Unpowered → FewBase (base_after_migration b) (power_live b)
base_powered (OnCard c) h = (h.0, tt)
base_powered (AtFault cause p) h = tt

base_cond : (t : Bool) (b : Base) (v : Live) → FewBase b v → FewBase (cond t (base_after_migration b) b) v
base_cond true (OnCard c) v h = h
base_cond true (AtFault cause p) v h = tt
base_cond false b v h = h

stopped_few : (s : Warm) (t : StopAt) (b : Bool) → FewBase s.base Unpowered → FewState (AfterPower (stopped_power s t b))
stopped_few s t true h = base_live s.base (live_after t.kind) h (few_stop t.kind)
stopped_few s t false h = base_cond _ s.base (live_after t.kind) (base_live s.base (live_after t.kind) h (few_stop t.kind))

power_few : (s : Warm) (t : Option StopAt) → FewBase s.base Unpowered → FewState (AfterPower (power_after s t))
power_few s None h = base_powered s.base h
power_few s (Some t) h = stopped_few s t (nat_le t.at s.owed) h

after_few : (s : Warm) (c : Card) (r : Command) (t : Option StopAt) → AllFew c.apps → FewAfter r → FewState (AfterPower (line_after s c r t))
after_few s c r None l k = (few_done r.items c.apps l k.items, k.load)
after_few s c r (Some t) l k = (few_done (at_stop r.items t.at t.left).whole c.apps l (few_whole r.items t.at t.left k.items), few_stop t.kind)

none_sent : (v : Live) (b : Base) (g : ℕ) (l : DeckLine) → IsUnheard l v b → OnTaken BeginsFew v b g (bytes_of l)
none_sent (Running session_state) (OnCard c) g l h = subst (OnSent BeginsFew c session_state g) (sym (unheard_bytes l c session_state h)) tt
none_sent (Running session_state) (AtFault cause p) g l h = tt
none_sent Unpowered b g l h = tt
none_sent Muted b g l h = tt

few_found : (m : List (List ℕ)) (f : Option (Cause × ℕ)) → fault m ≡ f → FewBase (base_of f m) Unpowered
few_found m None h = (few_means m h, tt)
few_found m (Some f) h = tt

few_warmed : (m : List (List ℕ)) (b : ℕ) (a : Armed) → FewBase (play_at_power m b a).base Unpowered
unfolding play_at_power
few_warmed m b a = few_found m (fault m) refl

kind_few : {w : Option FailedWrite} {z : State} {n : ℕ} {l : DeckLine} {u : Step} → StepKind w z n l u → FewState z → FewStep u
kind_few (Early p) h = record { runs = tt; next = tt }
kind_few (Quiet {l = l} {s = s} p q) h = record { runs = none_sent s.live s.base s.budget l q; next = h }
kind_few (Powers (BeforePower m b a)) h = record { runs = tt; next = power_few (play_at_power m b a) _ (few_warmed m b a) }
kind_few (Powers (AfterPower s)) h = record { runs = none_sent s.live s.base s.budget line.Power (inl refl); next = power_few s _ (base_unpowered s.base s.live h) }
kind_few {w} (Sends {o = o} {g = g} {j = j} {a = a} k c session_state) h =
    let r = line_command c session_state g (line.Sent k) in
    let s = past_power (OnCard c) o j (Running session_state) g a in
    record { runs = sent_few c session_state g (bytes_of (line.Sent k)) h.0 h.1; next = after_few s c r (hit_of a (moves r.items) w) h.0 (few_line c session_state g (line.Sent k) h.1) }

few_from : (z : State) (ls : List (ℕ × DeckLine)) (ws : List (Option FailedWrite)) → FewState z → OnEachRun BeginsFew (plays z ls ws)
unfolding plays
few_from z [] ws h = tt
few_from z (l ∷ ls) ws h =
    let u : Step = step z l (first_failure ws) in
    let k : FewStep u = kind_few (by_kind z l (first_failure ws)) h in
    (k.runs, few_from u.after ls (drop 1 ws) k.next)

-- ---- what holds of runs, from what holds of them besides

module _ (A B : ℕ → Chain → Type 0) where
  abbrev Given : ℕ → Chain → Type 0
  Given n ch = A n ch → B n ch

  passed_both : (m : List (List ℕ × App)) (budget : ℕ) (o : Option Selected) (a : ApduParts) → OnPassed Given m budget o a → OnPassed A m budget o a → OnPassed B m budget o a
  passed_both m budget None a f h = tt
  passed_both m budget (Some s) a f h = f h

  routed_both : (m : List (List ℕ × App)) (session_state : SessionState) (budget : ℕ) (r : Route) → OnRouted Given m session_state budget r → OnRouted A m session_state budget r → OnRouted B m session_state budget r
  routed_both m session_state budget (ToApplication a) f h = passed_both m budget session_state.selected a f h
  routed_both m session_state budget WrongLength f h = tt
  routed_both m session_state budget WrongClass f h = tt
  routed_both m session_state budget (ToSelect a) f h = tt
  routed_both m session_state budget (ToManager a) f h = tt

  behind_both : (b : Bool) (F X Y : Type 0) → (F → X → Y) → BehindDone b F → BehindDone b X → BehindDone b Y
  behind_both true F X Y step f h = step f h
  behind_both false F X Y step f h = tt

  sent_both : (c : Card) (session_state : SessionState) (budget : ℕ) (bs : List (List ℕ)) → OnSent Given c session_state budget bs → OnSent A c session_state budget bs → OnSent B c session_state budget bs
  sent_both c session_state budget [] f h = tt
  sent_both c session_state budget (b ∷ bs) f h =
      let r = command c session_state b budget in
      let d = card_done c r.items in
      (routed_both c.apps session_state budget (route b) f.0 h.0, behind_both (is_done r.outcome) (OnSent Given d r.session_state budget bs) (OnSent A d r.session_state budget bs) (OnSent B d r.session_state budget bs) (λ g k. sent_both d r.session_state budget bs g k) f.1 h.1)

  taken_both : (v : Live) (b : Base) (budget : ℕ) (bs : List (List ℕ)) → OnTaken Given v b budget bs → OnTaken A v b budget bs → OnTaken B v b budget bs
  taken_both (Running session_state) (OnCard c) budget bs f h = sent_both c session_state budget bs f h
  taken_both (Running session_state) (AtFault cause p) budget bs f h = tt
  taken_both Unpowered b budget bs f h = tt
  taken_both Muted b budget bs f h = tt

  line_both : (z : State) (bs : List (List ℕ)) → OnLine Given z bs → OnLine A z bs → OnLine B z bs
  line_both (BeforePower m b a) bs f h = tt
  line_both (AfterPower s) bs f h = taken_both s.live s.base s.budget bs f h

  each_both : (ts : List Step) → OnEachRun Given ts → OnEachRun A ts → OnEachRun B ts
  each_both [] f h = tt
  each_both (t ∷ ts) f h = (line_both t.before (bytes_of t.line) f.0 h.0, each_both ts f.1 h.1)

-- ---- the law

-- the bytes of a run are known from its lines
abbrev IsReplayed : ℕ → Chain → Type 0
IsReplayed n ch = HoldsAlong (memory_after no_memory (frame_line ch)) n ch

replayed : HoldsWherever (λ n ch. BeginsFew n ch → IsReplayed n ch)
replayed m first session apdu budget are size few = replay budget (first_chain m first session apdu) refl (sizes_law m first session apdu budget are few size)

-- each byte of each frame of a play is known from its lines alone
pub plays_replay : PlaysReplayLaw
plays_replay ls m ws = each_both BeginsFew IsReplayed (plays (start m) ls ws) (each_run (λ n ch. BeginsFew n ch → IsReplayed n ch) replayed ls m ws) (few_from (start m) ls ws tt)
