-- Every application of a play is limited, and each run begins with as many session bytes as its application has.
use Rattle.std.proofs.Common.{◌≡◌, ℕ, ◌+◌, ◌≤◌, Bool, true, false, cond, not, List, [], ◌∷◌, drop, length, Option, Some, None, refl, sym, ap, subst, ◌∙◌, arith, inl}
use Rattle.std.specs.Prelude.{⊤, ◌&&◌, nat_lt, nat_le, bytes_eq}
use Rattle.std.specs.List.{AllByRecursion}
use Rattle.std.proofs.lemmas.Bool.{and_parts, leb-true, eqb-true}
use Rattle.std.proofs.lemmas.List.{length-append, length-take, length-replicate}
use Rattle.model_play.specs.model_device.specs.declared.cause.Cause.{Cause}
use Rattle.model_play.specs.model_card.specs.declared.card.Sizes.{Sizes}
use Rattle.model_play.specs.model_device.specs.declared.device.Stop.{Stop}
use Rattle.model_play.specs.model_device.specs.declared.device.Stop.TheVariants as stop
use Rattle.model_play.specs.model_device.specs.Bytes.{lookup, insert, remove, zeros, be2, has_name}
use Rattle.model_play.specs.model_machine.specs.Apdu.{ApduParts}
use Rattle.model_play.specs.model_device.specs.Card.{App, Card, Block, record_at, name_in, name_at, app_at, apps_of, blocks, means}
use Rattle.model_play.specs.model_device.specs.Layout.{is_record, bad_record, words_fault, fault}
use Rattle.model_play.specs.model_machine.specs.Chain.{Write, run}
use Rattle.model_play.specs.model_card.specs.Items.{Fixed, Created, Item, moves, apps_after_change, apps_after_items, card_done, StopAt, at_stop, write_items}
use Rattle.model_play.specs.model_device.specs.Limits.{most_static}
use Rattle.model_play.specs.model_card.specs.Manager.{Selected, Open, SessionState, Route, WrongLength, WrongClass, ToSelect, ToManager, ToApplication, route, p1p2, select, sizes_in, fits_limits, word_parts, with_got, is_complete, fresh, is_selected, manage, room_on}
use Rattle.model_play.specs.Play.{Armed, Live, Running, Unpowered, Muted, Warm, State, BeforePower, AfterPower, Step, is_done, command_with_rest, send, line_command, hit_of, FailedWrite, live_after, power_live, power_after, stopped_power, line_after, step, play_at_power, plays, first_failure, start, select_bytes, delete_bytes, load_commands}
use Rattle.model_play.specs.model_device.specs.PowerUp.{Base, OnCard, AtFault, base_after_migration, base_of}
use Rattle.model_play.specs.model_card.specs.Commands.{Command, atomic_of, manager_command, application_command, by_route, command}
use Rattle.law_manager.specs.Orders.{Order, order_of}
use Rattle.law_manager.specs.Answers.{IsQuiet}
use Rattle.law_manager.specs.Answers as quiet
use Rattle.law_manager.specs.OnCard.{IsCommand, IsSelect, plains, blank_words}
use Rattle.law_manager.specs.OnCard as made
use Rattle.law_manager.proofs.OnCard.{command_made, selects_law}
use Rattle.law_manager.proofs.Plains.{plains_are, plains_done}
use Rattle.model_play.specs.Laws.{bytes_of}
use Rattle.model_play.specs.DeckGrammar.{DeckLine}
use Rattle.model_play.specs.DeckGrammar as line
use Rattle.law_machine.specs.Limited.{session_in}
use Rattle.law_family.specs.Begins.{PassedWell, RoutedWell, BehindDone, SentWell, TakenWell, LineWell, BeginWell, BeginsLaw}
use Rattle.law_machine.proofs.AppSizes.{size_of, size_in, SameSizes, changed_sizes, WriteFits, moved_writes, Limited, are_limited, limited_inserted, ItemsFit, limited_done, fit_whole, fit_append}
use Rattle.law_machine.proofs.RunSizes.{RanFits, run_fits}
use Rattle.model_play.specs.model_device.proofs.MapLemmas.{same_name, name_is_itself, lookup_beside, lookup_left}
use Rattle.model_play.specs.model_card.proofs.ItemLemmas.{done_append}
use Rattle.model_play.specs.model_device.proofs.BoolLemmas.{or_else_none}
use Rattle.model_play.specs.model_device.proofs.LayoutLemmas.{cause_none, sound_after}
use Rattle.model_play.proofs.LineKinds.{past_power, IsUnheard, StepKind, Early, Quiet, Powers, Sends, by_kind, unheard_bytes}

-- ---- a running card

-- a selection has as many session bytes as its application, which is there
abbrev pub AsManySession : Option (ℕ × ℕ) → ℕ → Type 0
AsManySession None n = ⊥
AsManySession (Some s) n = n ≡ s.1

abbrev pub SelectedFits : List (List ℕ × App) → Option Selected → Type 0
SelectedFits m None = ⊤
SelectedFits m (Some s) = AsManySession (size_in m s.name) (length s.session)

-- an open load keeps to the limits of static bytes
abbrev pub LoadFits : Option Open → Type 0
LoadFits None = ⊤
LoadFits (Some o) = (o.site.sizes.fixed ≤ most_static) × (o.site.sizes.init ≤ o.site.sizes.fixed)

pub record SessionStateFits (m : List (List ℕ × App)) (session_state : SessionState) : Type 0 where
  pub selected : SelectedFits m session_state.selected
  pub load : LoadFits session_state.load

-- what a command leaves
pub record CommandFits (m : List (List ℕ × App)) (r : Command) : Type 0 where
  pub items : ItemsFit m r.items
  pub session_state : SessionStateFits (apps_after_items m r.items) r.session_state

-- the selection, if the application under its name is as before
same_selected : (m d : List (List ℕ × App)) (s : Selected) → size_in d s.name ≡ size_in m s.name → SelectedFits m (Some s) → SelectedFits d (Some s)
same_selected m d s e h = subst (λ (z : Option (ℕ × ℕ)). AsManySession z (length s.session)) (sym e) h

-- ---- items without contents

plains_fit : (m : List (List ℕ × App)) (n : ℕ) (is : List Item) → ItemsFit m is → ItemsFit m (plains n is)
plains_fit m = plains_are (ItemsFit m) (λ is h. h)

-- ---- the manager

module _ (c : Card) (session_state : SessionState) (fits : SessionStateFits c.apps session_state) where
  selected_fits : (a : ApduParts) (r : Command) → IsSelect c session_state a r → CommandFits c.apps r
  selected_fits a _ (made.unselected sw h) = record { items = tt; session_state = fits }
  selected_fits a _ (made.selected app h) =
      let size : length (zeros app.session) ≡ app.session = length-replicate {A = ℕ} app.session 0 in
      record { items = tt; session_state = record { selected = subst (λ (o : Option App). AsManySession (size_of o) (length (zeros app.session))) (sym h) size; load = fits.load } }

  -- ---- OPEN

  limits_are : (s : Sizes) → fits_limits s ≡ true → (s.fixed ≤ most_static) × (s.init ≤ s.fixed)
  limits_are s h = grind (arith, and_parts, leb-true)

  quiet_fits : (a : ApduParts) (o : Order) (body : List ℕ) (load : Option Open) → IsQuiet (room_on c) c.apps session_state a o body load → LoadFits load
  quiet_fits a _ _ _ (quiet.answers o first rest) = fits.load
  quiet_fits a _ _ _ (quiet.opens h) = limits_are (sizes_in a) h.limits

  -- ---- CREATE

  fresh_small : (o : Open) → is_complete o ≡ true → LoadFits (Some o) → length (fresh o).fixed ≤ most_static
  fresh_small o h few = grind (arith, and_parts, eqb-true, length-append, length-replicate)

  -- a selection beside a new name
  beside_selected : (o : Option Selected) (n : List ℕ) (a : App) → lookup c.apps n ≡ None → SelectedFits c.apps o → SelectedFits (insert c.apps n a) o
  beside_selected o n a e h = grind (arith, size_in, same_name, size_of, same_selected, lookup_beside)

  -- ---- DELETE

  unselected : (o : Option Selected) (n : List ℕ) → is_selected o n ≡ false → SelectedFits c.apps o → SelectedFits (remove c.apps n) o
  unselected None n e h = tt
  unselected (Some s) n e h = by (bytes_eq n s.name) refl
    where
      by : (b : Bool) → bytes_eq n s.name ≡ b → SelectedFits (remove c.apps n) (Some s)
      by true is =
          let same : bytes_eq s.name n ≡ true = subst (λ (k : List ℕ). bytes_eq k n ≡ true) (same_name n s.name is) (name_is_itself n) in
          absurd (cc (sym same ∙ e))
      by false is = same_selected c.apps (remove c.apps n) s (ap size_of (lookup_left c.apps n s.name is)) h

  -- ---- the manager's commands

  made_fits : (a : ApduParts) (o : Order) (r : Command) → IsCommand c session_state a o r → CommandFits c.apps r
  made_fits a _ _ (made.refused o sw h) = record { items = tt; session_state = fits }
  made_fits a _ _ (made.quiet o body load h) = record { items = tt; session_state = record { selected = fits.selected; load = quiet_fits a o body load h } }
  made_fits a _ _ (made.loaded p l h) =
      let k = length (word_parts (p1p2 a) a.body) in
      let next = record session_state { load = Some (record l { got = with_got p a.body l.got }) } in
      record {
        items = plains_fit c.apps k [] tt;
        session_state = subst (λ (m : List (List ℕ × App)). SessionStateFits m next) (sym (plains_done c.apps k [])) (record { selected = fits.selected; load = subst LoadFits h.is fits.load });
      }
  made_fits a _ _ (made.created l n h) =
      let items = plains 4 (atomic_of c (Some (Created n (fresh l))) ∷ []) in
      record {
        items = plains_fit c.apps (blank_words l.site) items (fresh_small l h.complete (subst LoadFits h.is fits.load), tt);
        session_state = subst (λ (m : List (List ℕ × App)). SessionStateFits m (record session_state { load = None })) (sym (plains_done c.apps (blank_words l.site) items))
            (record { selected = beside_selected session_state.selected n (fresh l) h.free fits.selected; load = tt });
      }
  made_fits a _ _ (made.deleted h) = record { items = (tt, tt); session_state = record { selected = unselected session_state.selected a.body h.other fits.selected; load = tt } }

-- ---- a run

writes_fit : (ws : List Write) (m : List (List ℕ × App)) → AllByRecursion (WriteFits m) ws → ItemsFit m (write_items ws)
writes_fit [] m a = tt
writes_fit (w ∷ ws) m a =
    let d = apps_after_change (Fixed w.name w.pieces) m in
    (a.0, writes_fit ws d (moved_writes m d ws (changed_sizes m w.name w.pieces a.0) a.1))

writes_same : (ws : List Write) (m : List (List ℕ × App)) → AllByRecursion (WriteFits m) ws → SameSizes m (apps_after_items m (write_items ws))
writes_same [] m a = λ n. refl
writes_same (w ∷ ws) m a =
    let d = apps_after_change (Fixed w.name w.pieces) m in
    let one : SameSizes m d = changed_sizes m w.name w.pieces a.0 in
    let rest : SameSizes d (apps_after_items d (write_items ws)) = writes_same ws d (moved_writes m d ws one a.1) in
    λ n. rest n ∙ one n

passed_fits : (c : Card) (session_state : SessionState) (o : Option Selected) (a : ApduParts) (budget : ℕ) → session_state.selected ≡ o → SessionStateFits c.apps session_state → CommandFits c.apps (application_command c session_state o a budget)
passed_fits c session_state None a budget e h = record { items = tt; session_state = h }
passed_fits c session_state (Some s) a budget e h =
    let r = run c.apps s.name s.session a budget in
    let k : RanFits c.apps (length s.session) r = run_fits c.apps s.name s.session a budget in
    let same : SameSizes c.apps (apps_after_items c.apps (write_items r.writes)) = writes_same r.writes c.apps k.writes in
    let mine : SelectedFits c.apps (Some s) = subst (SelectedFits c.apps) e h.selected in
    let after : AsManySession (size_in (apps_after_items c.apps (write_items r.writes)) s.name) (length s.session) = subst (λ (z : Option (ℕ × ℕ)). AsManySession z (length s.session)) (sym (same s.name)) mine in
    record {
      items = writes_fit r.writes c.apps k.writes;
      session_state = record { selected = subst (AsManySession (size_in (apps_after_items c.apps (write_items r.writes)) s.name)) (sym k.session) after; load = h.load };
    }

-- ---- a command

routed_fits : (c : Card) (session_state : SessionState) (budget : ℕ) (r : Route) → SessionStateFits c.apps session_state → CommandFits c.apps (by_route c session_state budget r)
routed_fits c session_state budget WrongLength h = record { items = tt; session_state = h }
routed_fits c session_state budget WrongClass h = record { items = tt; session_state = h }
routed_fits c session_state budget (ToSelect a) h = selected_fits c session_state h a (manager_command c session_state (select c.apps session_state a)) (selects_law c session_state a)
routed_fits c session_state budget (ToManager a) h = made_fits c session_state h a (order_of a.ins) (manager_command c session_state (manage (room_on c) c.apps session_state a)) (command_made c session_state a)
routed_fits c session_state budget (ToApplication a) h = passed_fits c session_state session_state.selected a budget refl h

pub command_fits : (c : Card) (session_state : SessionState) (b : List ℕ) (budget : ℕ) → SessionStateFits c.apps session_state → CommandFits c.apps (command c session_state b budget)
unfolding command
command_fits c session_state b budget h = routed_fits c session_state budget (route b) h

session_by : (o : Option App) (n : ℕ) → AsManySession (size_of o) n → n ≡ session_in o
session_by None n h = absurd h
session_by (Some a) n h = h

selected_well : (m : List (List ℕ × App)) (o : Option Selected) → Limited m → SelectedFits m o → PassedWell m o
selected_well m None l h = tt
selected_well m (Some s) l h = record { limited = are_limited m l; session = session_by (lookup m s.name) (length s.session) h }

route_well : (m : List (List ℕ × App)) (session_state : SessionState) (r : Route) → Limited m → SessionStateFits m session_state → RoutedWell m session_state r
route_well m session_state r l h = grind (arith, selected_well)

behind : (b : Bool) (later : Type 0) → later → BehindDone b later
behind true later h = h
behind false later h = tt

pub sent_well : (c : Card) (session_state : SessionState) (budget : ℕ) (bs : List (List ℕ)) → Limited c.apps → SessionStateFits c.apps session_state → SentWell c session_state budget bs
sent_well c session_state budget [] l h = tt
sent_well c session_state budget (b ∷ bs) l h =
    let r = command c session_state b budget in
    let k : CommandFits c.apps r = command_fits c session_state b budget h in
    (route_well c.apps session_state (route b) l h, behind (is_done r.outcome) (SentWell (card_done c r.items) r.session_state budget bs) (sent_well (card_done c r.items) r.session_state budget bs (limited_done r.items c.apps l k.items) k.session_state))

-- ---- the commands of a line

sent_on_fits : (m : List (List ℕ × App)) (b : Bool) (r rest : Command) → CommandFits m r → CommandFits (apps_after_items m r.items) rest → CommandFits m (command_with_rest b r rest)
sent_on_fits m true r rest h k =
    record {
      items = fit_append r.items rest.items m h.items k.items;
      session_state = subst (λ (d : List (List ℕ × App)). SessionStateFits d rest.session_state) (sym (done_append r.items rest.items m)) k.session_state;
    }
sent_on_fits m false r rest h k = h

send_fits : (c : Card) (session_state : SessionState) (budget : ℕ) (bs : List (List ℕ)) → SessionStateFits c.apps session_state → CommandFits c.apps (send c session_state budget bs)
unfolding send
send_fits c session_state budget [] h = record { items = tt; session_state = h }
send_fits c session_state budget (b ∷ bs) h =
    let r = command c session_state b budget in
    let k : CommandFits c.apps r = command_fits c session_state b budget h in
    sent_on_fits c.apps (is_done r.outcome) r (send (card_done c r.items) r.session_state budget bs) k (send_fits (card_done c r.items) r.session_state budget bs k.session_state)

line_fits : (c : Card) (session_state : SessionState) (budget : ℕ) (l : DeckLine) → SessionStateFits c.apps session_state → CommandFits c.apps (line_command c session_state budget l)
line_fits c session_state budget (line.Sent (line.Select n)) h = command_fits c session_state (select_bytes n) budget h
line_fits c session_state budget (line.Sent (line.Delete n)) h = command_fits c session_state (delete_bytes n) budget h
line_fits c session_state budget (line.Sent (line.Apdu b)) h = command_fits c session_state b budget h
line_fits c session_state budget (line.Sent (line.Load u fixed session)) h = send_fits c session_state budget (load_commands u fixed session) h
line_fits c session_state budget l h = record { items = tt; session_state = h }

-- ---- the card that the first power line finds

pub good_records : (w : List (List ℕ)) → words_fault w ≡ None → bad_record w (blocks w) [] 0 ≡ None
good_records w h = grind (arith, or_else_none, cause_none)

record_small : (r : List ℕ) (words : ℕ) → is_record r words ≡ true → be2 r 22 ≤ 4096
record_small r words h = grind (arith, and_parts, leb-true)

app_small : (m : List (List ℕ)) (p : ℕ) → be2 (record_at m p) 22 ≤ 4096 → length (app_at m p).fixed ≤ most_static
app_small m p h = grind (arith, length-take)

limited_none : Limited []
limited_none n = tt

limited_blocks : (m : List (List ℕ)) (bs : List Block) (names : List (List ℕ)) (used : ℕ) → bad_record m bs names used ≡ None → Limited (apps_of m bs)
unfolding bad_record apps_of
limited_blocks m [] names used h = limited_none
limited_blocks m (b ∷ bs) names used h =
    by b.used (is_record (record_at m b.place) b.words && not (has_name (name_in (record_at m b.place)) names) && nat_lt used 32) refl h
    (λ e. limited_blocks m bs (name_in (record_at m b.place) ∷ names) (used + 1) e) (λ e. limited_blocks m bs names used e)
  where
    by : (u g : Bool) → (is_record (record_at m b.place) b.words && not (has_name (name_in (record_at m b.place)) names) && nat_lt used 32) ≡ g
        → cond u (cond g (bad_record m bs (name_in (record_at m b.place) ∷ names) (used + 1)) (Some b.place)) (bad_record m bs names used) ≡ None
        → (bad_record m bs (name_in (record_at m b.place) ∷ names) (used + 1) ≡ None → Limited (apps_of m bs)) → (bad_record m bs names used ≡ None → Limited (apps_of m bs))
        → Limited (cond u (insert (apps_of m bs) (name_at m b.place) (app_at m b.place)) (apps_of m bs))
    by true true is e next other =
        let r = record_at m b.place in
        let front = and_parts (is_record r b.words && not (has_name (name_in r) names)) (nat_lt used 32) is in
        let good = and_parts (is_record r b.words) (not (has_name (name_in r) names)) front.0 in
        limited_inserted (apps_of m bs) (name_at m b.place) (app_at m b.place) (next e) (app_small m b.place (record_small r b.words good.0))
    by true false is e next other = absurd (cc e)
    by false g is e next other = other e

means_limited : (m : List (List ℕ)) → fault m ≡ None → Limited (means m).apps
means_limited m h = grind (arith, limited_blocks, good_records, sound_after)

-- ---- lines

abbrev pub LiveFits : List (List ℕ × App) → Live → Type 0
LiveFits m (Running session_state) = SessionStateFits m session_state
LiveFits m Unpowered = ⊤
LiveFits m Muted = ⊤

abbrev pub BaseFits : Base → Live → Type 0
BaseFits (OnCard c) v = Limited c.apps × LiveFits c.apps v
BaseFits (AtFault cause p) v = ⊤

abbrev pub StateFits : State → Type 0
StateFits (BeforePower m b a) = ⊤
StateFits (AfterPower s) = BaseFits s.base s.live

pub record LineFits (u : Step) : Type 0 where
  pub well : LineWell u.before (bytes_of u.line)
  pub next : StateFits u.after

after_stop : (m : List (List ℕ × App)) (k : Stop) → LiveFits m (live_after k)
after_stop m stop.Off = tt
after_stop m stop.Worn = tt

-- power lines
base_limited : (b : Base) (v : Live) → BaseFits b v → BaseFits b Unpowered
base_limited (OnCard c) v h = (h.0, tt)
base_limited (AtFault cause p) v h = tt

base_stopped : (b : Base) (k : Stop) → BaseFits b Unpowered → BaseFits b (live_after k)
base_stopped (OnCard c) k h = (h.0, after_stop c.apps k)
base_stopped (AtFault cause p) k h = tt

base_powered : (b : Base) → BaseFits b Unpowered → BaseFits (base_after_migration b) (power_live b)
base_powered (OnCard c) h = (h.0, record { selected = tt; load = tt })
base_powered (AtFault cause p) h = tt

base_migrated : (b : Base) (v : Live) → BaseFits b v → BaseFits (base_after_migration b) v
base_migrated (OnCard c) v h = h
base_migrated (AtFault cause p) v h = h

base_cond : (t : Bool) (b : Base) (v : Live) → BaseFits b v → BaseFits (cond t (base_after_migration b) b) v
base_cond true b v h = base_migrated b v h
base_cond false b v h = h

stopped_fits : (s : Warm) (t : StopAt) (b : Bool) → BaseFits s.base Unpowered → StateFits (AfterPower (stopped_power s t b))
stopped_fits s t true h = base_stopped s.base t.kind h
stopped_fits s t false h = base_cond _ s.base (live_after t.kind) (base_stopped s.base t.kind h)

power_fits : (s : Warm) (t : Option StopAt) → BaseFits s.base Unpowered → StateFits (AfterPower (power_after s t))
power_fits s None h = base_powered s.base h
power_fits s (Some t) h = stopped_fits s t (nat_le t.at s.owed) h

-- lines of a running card
after_fits : (s : Warm) (c : Card) (r : Command) (t : Option StopAt) → Limited c.apps → CommandFits c.apps r → StateFits (AfterPower (line_after s c r t))
after_fits s c r None l k = (limited_done r.items c.apps l k.items, k.session_state)
after_fits s c r (Some t) l k = (limited_done (at_stop r.items t.at t.left).whole c.apps l (fit_whole r.items c.apps t.at t.left k.items), after_stop _ t.kind)

-- a line that no card hears has no commands for one
none_taken : (v : Live) (b : Base) (g : ℕ) (l : DeckLine) → IsUnheard l v b → TakenWell v b g (bytes_of l)
none_taken (Running session_state) (OnCard c) g l h = subst (SentWell c session_state g) (sym (unheard_bytes l c session_state h)) tt
none_taken (Running session_state) (AtFault cause p) g l h = tt
none_taken Unpowered b g l h = tt
none_taken Muted b g l h = tt

found_fits : (m : List (List ℕ)) (f : Option (Cause × ℕ)) → fault m ≡ f → BaseFits (base_of f m) Unpowered
found_fits m None h = (means_limited m h, tt)
found_fits m (Some f) h = tt

warmed_fits : (m : List (List ℕ)) (b : ℕ) (a : Armed) → BaseFits (play_at_power m b a).base Unpowered
unfolding play_at_power
warmed_fits m b a = found_fits m (fault m) refl

-- every line
kind_fits : {w : Option FailedWrite} {z : State} {n : ℕ} {l : DeckLine} {u : Step} → StepKind w z n l u → StateFits z → LineFits u
kind_fits (Early p) h = record { well = tt; next = tt }
kind_fits (Quiet {l = l} {s = s} p q) h = record { well = none_taken s.live s.base s.budget l q; next = h }
kind_fits (Powers (BeforePower m b a)) h = record { well = tt; next = power_fits (play_at_power m b a) _ (warmed_fits m b a) }
kind_fits (Powers (AfterPower s)) h = record { well = none_taken s.live s.base s.budget line.Power (inl refl); next = power_fits s _ (base_limited s.base s.live h) }
kind_fits {w} (Sends {o = o} {g = g} {j = j} {a = a} k c session_state) h =
    let r = line_command c session_state g (line.Sent k) in
    let s = past_power (OnCard c) o j (Running session_state) g a in
    record { well = sent_well c session_state g (bytes_of (line.Sent k)) h.0 h.1; next = after_fits s c r (hit_of a (moves r.items) w) h.0 (line_fits c session_state g (line.Sent k) h.1) }

pub step_fits : (z : State) (l : ℕ × DeckLine) (w : Option FailedWrite) → StateFits z → LineFits (step z l w)
step_fits z l w h = kind_fits (by_kind z l w) h

begin_from : (z : State) (ls : List (ℕ × DeckLine)) (ws : List (Option FailedWrite)) → StateFits z → BeginWell (plays z ls ws)
unfolding plays
begin_from z [] ws h = tt
begin_from z (l ∷ ls) ws h =
    let u : Step = step z l (first_failure ws) in
    let k : LineFits u = step_fits z l (first_failure ws) h in
    (k.well, begin_from u.after ls (drop 1 ws) k.next)

-- the law of every play
pub begins_law : BeginsLaw
begins_law ls m ws = begin_from (start m) ls ws tt
