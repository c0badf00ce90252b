-- Power and abends while frames of a chain wait, and delegations and exits in it: each leads to what holds of the next
-- chain, or to the end of the command.
use Rattle.std.proofs.Common.{◌≡◌, ℕ, ◌≤◌, Bool, true, false, List, [], ◌∷◌, length, Option, Some, None, refl, sym, subst, ◌∙◌, arith}
use Rattle.std.specs.Prelude.{⊤, ◌||◌, bytes_eq, nat_le}
use Rattle.std.proofs.lemmas.Bool.{or_parts, leb-false}
use Rattle.model_events.specs.model_machine.specs.declared.instruction.Ins.{Ins}
use Rattle.model_events.specs.model_machine.specs.declared.machine.Abend.{Abend}
use Rattle.model_events.specs.model_machine.specs.declared.machine.Abend.TheVariants.{A07}
use Rattle.model_events.specs.model_device.specs.Bytes.{lookup, zeros, bytes2}
use Rattle.model_events.specs.model_device.specs.Card.{App}
use Rattle.model_events.specs.model_device.proofs.ListLemmas.{splice_longer}
use Rattle.model_events.specs.model_machine.specs.Frame.{Frame, new_frame, session_of, with_sw}
use Rattle.model_events.specs.model_machine.specs.Chain.{Outcome, Abended, Write, Chain, Acted, Follows, Continues, Ends, map_changed, write_of, is_active, depth_of, called_app, chain_after_call, abends_at, first_frame, chain_session}
use Rattle.law_bytes.specs.model_card.specs.Items.{apps_after_items, write_items}
use Rattle.law_bytes.specs.OfChains.{IsByteChain}
use Rattle.law_promise.specs.History.{with_event, is_first}
use Rattle.law_promise.specs.Outline.{ByDelegation, is_direct, public_size}
use Rattle.law_promise.specs.Domain.{Domain, IsSegment, IsSound, EndCovered, StopCovered, IsRowCause, AbendCovered, first_frame_in}
use Rattle.law_promise.specs.Kept.{IsLike}
use Rattle.law_promise.proofs.Chains.{NoneOf, inactive, first_none, Asked, entry_over, WaitsIf, AllWait, RunsIf, none_idle, resumed, others_run, own_runs, others_wait, ThereKept, FoundKept, ChainKept, EndIf, AnswerIf, StopIf, EndKept}
use Rattle.model_events.specs.model_device.proofs.MapLemmas.{same_name}

-- ---- what a turn leads to

-- at most one write
abbrev pub IsSingle : List Write → Type 0
IsSingle [] = ⊤
IsSingle (w ∷ []) = ⊤
IsSingle (w ∷ v ∷ vs) = ⊥

-- what follows a turn: the end of the command, or a chain on the map that the turn left, with the first frame of the
-- same name
abbrev pub FollowsKept : {E : Type 0} → Bool → Domain E → Asked E → List E → List (List ℕ × App) → List ℕ → Follows → Type 0
FollowsKept b o q k m session (Ends outcome) = EndKept b o q k (lookup m o.watch.name) session outcome
FollowsKept b o q k m session (Continues c) =
    ChainKept o q k c × (c.map ≡ m) × (bytes_eq (first_frame c.frame c.below).name o.watch.name ≡ b)

-- a stop in the write of a turn: before it, or after it with its event
abbrev pub WritesStop : {E : Type 0} → Bool → Domain E → List E → List E → List (List ℕ × App) → List Write → Type 0
WritesStop b o h k m [] = ⊤
WritesStop b o h k m (w ∷ ws) = StopIf b o h (lookup m o.watch.name) × StopIf b o k (lookup (apps_after_items m (write_items (w ∷ ws))) o.watch.name)

-- what a turn keeps of a domain: its stops and what follows it
pub record TurnKept {E : Type 0} (b : Bool) (o : Domain E) (q : Asked E) (h : List E) (ch : Chain) (t : Acted) (event : Option E) : Type 0 where
  pub single : IsSingle t.writes
  pub stops : WritesStop b o h (with_event event h) ch.map t.writes
  pub next : FollowsKept b o q (with_event event h) (apps_after_items ch.map (write_items t.writes)) (chain_session ch) t.follows

-- ---- frames that wait

-- what the frames below leave, where the application is there or not
pub record BelowKept {E : Type 0} (o : Domain E) (q : Asked E) (h : List E) (a : App) (fs : List Frame) : Type 0 where
  pub like : IsLike o.app a
  pub waits : AllWait o q h a.fixed fs

-- what the frames below leave, if the application is on the card or gone
abbrev pub FoundBelow : {E : Type 0} → Domain E → Asked E → List E → Option App → List Frame → Type 0
FoundBelow o q h None fs = NoneOf o.watch.name fs × o.gone h
FoundBelow o q h (Some a) fs = BelowKept o q h a fs

-- the first frame of a chain has the same name under a top frame of the same name
pub first_name : (f g : Frame) (fs : List Frame) → f.name ≡ g.name → (first_frame f fs).name ≡ (first_frame g fs).name
first_name f g [] e = e
first_name f g (h ∷ fs) e = refl

-- a change of static bytes is at most one write
pub single_write : (n : List ℕ) (c : Option (List (ℕ × List ℕ))) → IsSingle (write_of n c)
single_write n None = tt
single_write n (Some ps) = tt

-- the items of a write change the applications as the write does
pub done_write : (m : List (List ℕ × App)) (n : List ℕ) (c : Option (List (ℕ × List ℕ))) → map_changed m n c ≡ apps_after_items m (write_items (write_of n c))
done_write m n None = refl
done_write m n (Some ps) = refl

-- a frame begins by a selection if no frame lies below it
pub direct_is : {E : Type 0} (q : Asked E) (fs : List Frame) → is_direct (entry_over q fs) ≡ is_first fs
direct_is q [] = refl
direct_is q (f ∷ fs) = refl

-- an abend has no answer to cover
pub no_answer : {E : Type 0} (b : Bool) (o : Domain E) (q : Asked E) (k : List E) (cause : Abend) → AnswerIf b o q k (Abended cause)
no_answer true o q k cause = tt
no_answer false o q k cause = tt

module _ {E : Type 0} (o : Domain E) (shown : IsSound o) (q : Asked E) where
  -- ---- the first frame

  -- a frame of the application began by the selection just where the first frame is its own
  pub first_direct : (b : Bool) (f : Frame) (fs : List Frame) → bytes_eq f.name o.watch.name ≡ true → NoneOf o.watch.name fs → bytes_eq (first_frame f fs).name o.watch.name ≡ b → is_direct (entry_over q fs) ≡ b
  first_direct b f [] own none e = sym own ∙ e
  first_direct b f (g ∷ gs) own none e = sym (first_none o.watch.name g gs none) ∙ e

  -- so its end is that of the command, or a moment at which the application is idle
  pub end_if : (b : Bool) (k : List E) (fixed : List ℕ) (f : Frame) (fs : List Frame) (outcome : Outcome) → bytes_eq f.name o.watch.name ≡ true → NoneOf o.watch.name fs → bytes_eq (first_frame f fs).name o.watch.name ≡ b
      → EndCovered o (entry_over q fs) k fixed (session_of f) outcome → EndIf b o q k fixed (session_of (first_frame f fs)) outcome
  end_if b k fixed f fs outcome own none e x = grind (arith, EndIf, first_none)

  -- and a stop ends its session, or another's
  pub stop_if : (b : Bool) (k : List E) (fixed : List ℕ) (f : Frame) (fs : List Frame) → bytes_eq f.name o.watch.name ≡ true → NoneOf o.watch.name fs → bytes_eq (first_frame f fs).name o.watch.name ≡ b
      → StopCovered o (entry_over q fs) k fixed → o.idle (with_event (o.watch.of_end b) k) fixed
  stop_if b k fixed f fs own none e x = subst (λ (y : Bool). o.idle (with_event (o.watch.of_end y) k) fixed) (first_direct b f fs own none e) x

  gone_stop : (b : Bool) (k : List E) → b ≡ false → o.gone k → o.gone (with_event (o.watch.of_end b) k)
  gone_stop b k e x = subst (λ (y : Bool). o.gone (with_event (o.watch.of_end y) k)) (sym e) (shown.gone_on k x)

  idle_stop : (b : Bool) (k : List E) (fixed : List ℕ) → b ≡ false → o.idle k fixed → o.idle (with_event (o.watch.of_end b) k) fixed
  idle_stop b k fixed e i = subst (λ (y : Bool). o.idle (with_event (o.watch.of_end y) k) fixed) (sym e) (shown.idle_on k fixed i)

  -- ---- frames that wait, if power goes or a delegate abends

  waits_stop : (b : Bool) (h : List E) (fixed : List ℕ) (fs : List Frame) (f : Frame) → AllWait o q h fixed (f ∷ fs) → bytes_eq (first_frame f fs).name o.watch.name ≡ b → o.idle (with_event (o.watch.of_end b) h) fixed
  waits_stop b h fixed [] f w e = by (bytes_eq f.name o.watch.name) refl w
    where
      by : (x : Bool) → bytes_eq f.name o.watch.name ≡ x → WaitsIf x o q h fixed f [] (o.idle h fixed) → o.idle (with_event (o.watch.of_end b) h) fixed
      by true is w = stop_if b h fixed f [] is w.none e w.stops
      by false is i = idle_stop b h fixed (sym e ∙ is) i
  waits_stop b h fixed (g ∷ gs) f w e = by (bytes_eq f.name o.watch.name) refl (λ v. waits_stop b h fixed gs g v e) w
    where
      by : (x : Bool) → bytes_eq f.name o.watch.name ≡ x → (AllWait o q h fixed (g ∷ gs) → o.idle (with_event (o.watch.of_end b) h) fixed) → WaitsIf x o q h fixed f (g ∷ gs) (AllWait o q h fixed (g ∷ gs))
          → o.idle (with_event (o.watch.of_end b) h) fixed
      by true is again w = stop_if b h fixed f (g ∷ gs) is w.none e w.stops
      by false is again v = again v

  waits_end : (b : Bool) (h : List E) (fixed : List ℕ) (cause : Abend) → IsRowCause cause → (fs : List Frame) (f : Frame) → AllWait o q h fixed (f ∷ fs) → bytes_eq (first_frame f fs).name o.watch.name ≡ b
      → EndIf b o q h fixed (session_of (first_frame f fs)) (Abended cause)
  waits_end b h fixed cause ok [] f w e = by (bytes_eq f.name o.watch.name) refl w
    where
      by : (x : Bool) → bytes_eq f.name o.watch.name ≡ x → WaitsIf x o q h fixed f [] (o.idle h fixed) → EndIf b o q h fixed (session_of f) (Abended cause)
      by true is w = end_if b h fixed f [] (Abended cause) is w.none e (w.ends cause ok)
      by false is i = subst (λ (y : Bool). EndIf y o q h fixed (session_of f) (Abended cause)) (sym is ∙ e) i
  waits_end b h fixed cause ok (g ∷ gs) f w e = by (bytes_eq f.name o.watch.name) refl (λ v. waits_end b h fixed cause ok gs g v e) w
    where
      by : (x : Bool) → bytes_eq f.name o.watch.name ≡ x → (AllWait o q h fixed (g ∷ gs) → EndIf b o q h fixed (session_of (first_frame g gs)) (Abended cause))
          → WaitsIf x o q h fixed f (g ∷ gs) (AllWait o q h fixed (g ∷ gs)) → EndIf b o q h fixed (session_of (first_frame g gs)) (Abended cause)
      by true is again w = end_if b h fixed f (g ∷ gs) (Abended cause) is w.none e (w.ends cause ok)
      by false is again v = again v

  -- power goes while another's frame runs
  pub below_stop : (b : Bool) (h : List E) (found : Option App) (f : Frame) (fs : List Frame) → bytes_eq f.name o.watch.name ≡ false → bytes_eq (first_frame f fs).name o.watch.name ≡ b → FoundBelow o q h found fs → StopIf b o h found
  below_stop b h None f fs n e w = gone_stop b h (sym e ∙ first_none o.watch.name f fs (n, w.0)) w.1
  below_stop b h (Some a) f fs n e w = (w.like, waits_stop b h a.fixed fs f (others_wait o q h a.fixed f fs n w.waits) e)

  -- it abends
  pub below_end : (b : Bool) (h : List E) (cause : Abend) → IsRowCause cause → (found : Option App) (f : Frame) (fs : List Frame) → bytes_eq f.name o.watch.name ≡ false → bytes_eq (first_frame f fs).name o.watch.name ≡ b → FoundBelow o q h found fs
      → EndKept b o q h found (session_of (first_frame f fs)) (Abended cause)
  below_end b h cause ok None f fs n e w = (sym e ∙ first_none o.watch.name f fs (n, w.0), w.1)
  below_end b h cause ok (Some a) f fs n e w =
      let all : AllWait o q h a.fixed (f ∷ fs) = others_wait o q h a.fixed f fs n w.waits in
      record { like = w.like; ended = waits_end b h a.fixed cause ok fs f all e; answer = no_answer b o q h cause; stops = λ any. waits_stop b h a.fixed fs f all e }

  -- ---- the end of the budget

  spent_by : (b x : Bool) (h : List E) (a : App) (f : Frame) (fs : List Frame) (p : List ℕ) → bytes_eq f.name o.watch.name ≡ x → IsLike o.app a → RunsIf x o q h a.fixed f fs p (AllWait o q h a.fixed fs) → bytes_eq (first_frame f fs).name o.watch.name ≡ b
      → EndKept b o q h (Some a) (session_of (first_frame f fs)) (Abended A07)
  spent_by b true h a f fs p is like r e =
      let ends : EndCovered o (entry_over q fs) h a.fixed (session_of f) (Abended A07) = grind (arith, entry_over) in
      record {
        like = like;
        ended = end_if b h a.fixed f fs (Abended A07) is r.none e ends;
        answer = no_answer b o q h A07;
        stops = λ any. stop_if b h a.fixed f fs is r.none e (subst (λ (z : List ℕ). StopCovered o (entry_over q fs) h z) r.same (shown.place_stops any (entry_over q fs) h f p r.at));
      }
  spent_by b false h a f fs p is like w e = below_end b h A07 tt (Some a) f fs is e (record { like = like; waits = w })

  found_spent : (b : Bool) (h : List E) (found : Option App) (f : Frame) (fs : List Frame) (p : List ℕ) → bytes_eq (first_frame f fs).name o.watch.name ≡ b → FoundKept o q h found f fs p
      → EndKept b o q h found (session_of (first_frame f fs)) (Abended A07)
  found_spent b h None f fs p e k = (sym e ∙ first_none o.watch.name f fs k.0, k.1)
  found_spent b h (Some a) f fs p e k = spent_by b (bytes_eq f.name o.watch.name) h a f fs p refl k.like k.stack e

  -- if the budget ends, what the end of the command covers is kept
  pub chain_spent : (b : Bool) (h : List E) (ch : Chain) → bytes_eq (first_frame ch.frame ch.below).name o.watch.name ≡ b → ChainKept o q h ch
      → EndKept b o q h (lookup ch.map o.watch.name) (chain_session ch) (Abended A07)
  chain_spent b h ch e c = found_spent b h (lookup ch.map o.watch.name) ch.frame ch.below ch.public e c.kept

  -- where a command ended, a stop may come if stops are covered anywhere
  pub end_stops : (b : Bool) (k : List E) (found : Option App) (session : List ℕ) (outcome : Outcome) → o.anywhere → EndKept b o q k found session outcome → StopIf b o k found
  end_stops b k None session outcome any x = gone_stop b k x.0 x.1
  end_stops b k (Some a) session outcome any x = (x.like, x.stops any)

  -- ---- abends

  -- of another's frame
  pub other_abended : (b : Bool) (h : List E) (ch : Chain) (i : Option Ins) (n : ℕ) (cause : Abend) → IsRowCause cause → bytes_eq ch.frame.name o.watch.name ≡ false → bytes_eq (first_frame ch.frame ch.below).name o.watch.name ≡ b
      → FoundBelow o q h (lookup ch.map o.watch.name) ch.below → TurnKept b o q h ch (abends_at ch i n cause) None
  other_abended b h ch i n cause ok other e w = record { single = tt; stops = tt; next = below_end b h cause ok (lookup ch.map o.watch.name) ch.frame ch.below other e w }

  -- of its own
  pub own_abended : (b : Bool) (h : List E) (ev : Option E) (a : App) (ch : Chain) (i : Option Ins) (n : ℕ) (cause : Abend) → lookup ch.map o.watch.name ≡ Some a → IsLike o.app a → ch.frame.fixed ≡ a.fixed → NoneOf o.watch.name ch.below
      → bytes_eq ch.frame.name o.watch.name ≡ true → bytes_eq (first_frame ch.frame ch.below).name o.watch.name ≡ b
      → AbendCovered o (entry_over q ch.below) (with_event ev h) ch.frame cause → TurnKept b o q h ch (abends_at ch i n cause) ev
  own_abended b h ev a ch i n cause is like same none own e x =
      let k = with_event ev h in
      let f = ch.frame in
      let fs = ch.below in
      let ends : EndCovered o (entry_over q fs) k a.fixed (session_of f) (Abended cause) = subst (λ (z : List ℕ). EndCovered o (entry_over q fs) k z (session_of f) (Abended cause)) same x.ends in
      let end : EndKept b o q k (Some a) (chain_session ch) (Abended cause) =
      record {
        like = like;
        ended = end_if b k a.fixed f fs (Abended cause) own none e ends;
        answer = no_answer b o q k cause;
        stops = λ any. stop_if b k a.fixed f fs own none e (subst (λ (z : List ℕ). StopCovered o (entry_over q fs) k z) same (x.stops any));
      }
      in
      record { single = tt; stops = tt; next = subst (λ (z : Option App). EndKept b o q k z (chain_session ch) (Abended cause)) (sym is) end }

  -- ---- what follows in a settled chain

  resume_found : (h : List E) (found : Option App) (f : Frame) (fs : List Frame) (p : List ℕ) → IsSegment o p → FoundBelow o q h found (f ∷ fs) → FoundKept o q h found f fs p
  resume_found h None f fs p l n = n
  resume_found h (Some a) f fs p l w = record { like = w.like; stack = resumed o q h a.fixed f fs p l w.waits }

  -- an exit to the frame below
  pub exited_chain : (b : Bool) (h : List E) (s : Chain) (session : List ℕ) (f : Frame) (fs : List Frame) → s.apdu ≡ q.apdu → public_size ≤ length s.public → length (f ∷ fs) ≤ 3 → (o.of_bytes → IsByteChain (record s { frame = f; below = fs })) → FoundBelow o q h (lookup s.map o.watch.name) (f ∷ fs)
      → bytes_eq (first_frame f fs).name o.watch.name ≡ b
      → FollowsKept b o q h s.map session (Continues (record s { frame = f; below = fs }))
  exited_chain b h s session f fs command l few bytes w e =
      (record { kept = resume_found h (lookup s.map o.watch.name) f fs s.public (l, λ t. (bytes t).public) w; command = command; whole = l; shallow = omega (arith, few); bytes = bytes }, refl, e)

  frame_like : (a : App) (n fixed : List ℕ) → IsLike o.app a → n ≡ o.watch.name → first_frame_in o fixed (zeros o.app.session) ≡ new_frame n (length a.code) a.deny fixed (zeros a.session)
  frame_like a n fixed like same = grind arith

  -- another application is entered
  entered_other : (h : List E) (found : Option App) (g f : Frame) (fs : List Frame) (p : List ℕ) → bytes_eq g.name o.watch.name ≡ false → FoundBelow o q h found (f ∷ fs)
      → FoundKept o q h found g (f ∷ fs) p
  entered_other h None g f fs p e n = ((e, n.0), n.1)
  entered_other h (Some a) g f fs p e w = record { like = w.like; stack = others_run o q h a.fixed g (f ∷ fs) p e w.waits }

  -- the application is entered
  entered_own : (h : List E) (a : App) (n : List ℕ) (f : Frame) (fs : List Frame) (p : List ℕ) → IsSegment o p → bytes_eq n o.watch.name ≡ true → NoneOf o.watch.name (f ∷ fs) → BelowKept o q h a (f ∷ fs)
      → ThereKept o q h a (new_frame n (length a.code) a.deny a.fixed (zeros a.session)) (f ∷ fs) p
  entered_own h a n f fs p l e none w =
      let g = new_frame n (length a.code) a.deny a.fixed (zeros a.session) in
      let idle : o.idle h a.fixed = none_idle o q h a.fixed (f ∷ fs) none w.waits in
      let at : o.at ByDelegation h g p = subst (λ (z : Frame). o.at ByDelegation h z p) (frame_like a n a.fixed w.like (same_name n o.watch.name e)) (shown.entered h a.fixed p idle l) in
      record { like = w.like; stack = own_runs o q h a.fixed g (f ∷ fs) p e (record { same = refl; at = at; none = none }) }

  entered_by : (h : List E) (s : Chain) (n : List ℕ) (a : App) (b : Bool) → bytes_eq n o.watch.name ≡ b → lookup s.map n ≡ Some a → is_active n s.frame s.below ≡ false → IsSegment o s.public
      → FoundBelow o q h (lookup s.map o.watch.name) (s.frame ∷ s.below)
      → FoundKept o q h (lookup s.map o.watch.name) (new_frame n (length a.code) a.deny a.fixed (zeros a.session)) (s.frame ∷ s.below) s.public
  entered_by h s n a false e is active l w = entered_other h (lookup s.map o.watch.name) _ s.frame s.below s.public e w
  entered_by h s n a true e is active l w =
      let same : n ≡ o.watch.name = same_name n o.watch.name e in
      let there : lookup s.map o.watch.name ≡ Some a = subst (λ (k : List ℕ). lookup s.map k ≡ Some a) same is in
      let none : NoneOf o.watch.name (s.frame ∷ s.below) = subst (λ (k : List ℕ). NoneOf k (s.frame ∷ s.below)) same (inactive n s.frame s.below active) in
      let below : BelowKept o q h a (s.frame ∷ s.below) = subst (λ (z : Option App). FoundBelow o q h z (s.frame ∷ s.below)) there w in
      subst (λ (z : Option App). FoundKept o q h z (new_frame n (length a.code) a.deny a.fixed (zeros a.session)) (s.frame ∷ s.below) s.public) (sym there)
      (entered_own h a n s.frame s.below s.public l e none below)

  with_status : (h : List E) (s : Chain) (sw : ℕ) → s.apdu ≡ q.apdu → public_size ≤ length s.public → length s.below ≤ 3 → (o.of_bytes → IsByteChain (record s { public = with_sw s.public sw })) → FoundBelow o q h (lookup s.map o.watch.name) (s.frame ∷ s.below)
      → ChainKept o q h (record s { public = with_sw s.public sw })
  with_status h s sw command l few bytes w =
      let longer : length s.public ≤ length (with_sw s.public sw) = splice_longer s.public 1039 (bytes2 sw) in
      record { kept = resume_found h (lookup s.map o.watch.name) s.frame s.below (with_sw s.public sw) (omega arith, λ t. (bytes t).public) w; command = command; whole = omega arith; shallow = few; bytes = bytes }

  called_app_kept : (b : Bool) (h : List E) (s : Chain) (session : List ℕ) (n : List ℕ) (a : App) (e : Bool) → s.apdu ≡ q.apdu → public_size ≤ length s.public → length s.below ≤ 3 → lookup s.map n ≡ Some a → (is_active n s.frame s.below || nat_le 4 (depth_of s)) ≡ e → (o.of_bytes → IsByteChain (called_app e s n a))
      → bytes_eq (first_frame s.frame s.below).name o.watch.name ≡ b
      → FoundBelow o q h (lookup s.map o.watch.name) (s.frame ∷ s.below) → FollowsKept b o q h s.map session (Continues (called_app e s n a))
  called_app_kept b h s session n a true command l few is t bytes first w = (with_status h s 0x6985 command l few bytes w, refl, first)
  called_app_kept b h s session n a false command l few is t bytes first w = grind (arith, or_parts, leb-false, entered_by)

  -- a delegation
  pub called_chain : (b : Bool) (h : List E) (s : Chain) (session : List ℕ) (n : List ℕ) (found : Option App) → s.apdu ≡ q.apdu → public_size ≤ length s.public → length s.below ≤ 3 → lookup s.map n ≡ found → (o.of_bytes → IsByteChain (chain_after_call s n found))
      → bytes_eq (first_frame s.frame s.below).name o.watch.name ≡ b
      → FoundBelow o q h (lookup s.map o.watch.name) (s.frame ∷ s.below) → FollowsKept b o q h s.map session (Continues (chain_after_call s n found))
  called_chain b h s session n None command l few is bytes first w = (with_status h s 0x6A82 command l few bytes w, refl, first)
  called_chain b h s session n (Some a) command l few is bytes first w = called_app_kept b h s session n a (is_active n s.frame s.below || nat_le 4 (depth_of s)) command l few is refl bytes first w
