-- A turn in a frame of another application, by what it cannot touch.
use Rattle.std.proofs.Common.{◌≡◌, ℕ, ◌≤◌, Bool, true, false, cond, List, [], ◌∷◌, length, Option, Some, None, Result, Ok, Err, refl, sym, ap, subst, ◌∙◌, arith}
use Rattle.std.specs.Prelude.{bytes_eq, nat_lt}
use Rattle.model_events.specs.model_machine.specs.declared.instruction.Ins.{Ins}
use Rattle.model_events.specs.model_machine.specs.declared.instruction.DecodeFault.{DecodeFault}
use Rattle.model_events.specs.model_machine.specs.declared.instruction.DecodeFault.TheVariants.{Undefined, Past}
use Rattle.model_events.specs.model_machine.specs.declared.machine.Abend.TheVariants.{A01, A02, A09}
use Rattle.model_events.specs.model_device.specs.Bytes.{lookup}
use Rattle.model_events.specs.model_device.specs.Card.{App}
use Rattle.model_events.specs.model_machine.specs.Frame.{Frame, la_of}
use Rattle.model_events.specs.model_machine.specs.Primitives.{Then, Goes, Exits, Delegates, Done}
use Rattle.model_events.specs.model_machine.specs.Row.{RowEnd, Abends, Does, row}
use Rattle.model_events.specs.model_machine.specs.Chain.{Outcome, Abended, Chain, Ends, write_of, chain_after_effect, reply_of, after_exit, follows, row_turn, turn_of_fetch, frame_at, around, first_frame, chain_session}
use Rattle.law_bytes.specs.model_card.specs.Items.{apps_after_items, write_items}
use Rattle.law_bytes.specs.OfChains.{IsByteChain, OnGoing}
use Rattle.law_promise.specs.Outline.{public_size}
use Rattle.law_promise.specs.Domain.{Domain, IsSound, IsRowCause}
use Rattle.law_bytes.specs.law_rows.specs.Keeping.{Keeps, OnDone}
use Rattle.law_bytes.specs.law_rows.proofs.Keeping.{row_keeps}
use Rattle.law_promise.proofs.Causes.{OnAbend, row_cause}
use Rattle.law_promise.proofs.Chains.{Asked, others_run, others_wait, others_wait_below, FoundKept, ChainKept, StopIf, EndKept, beside_changed}
use Rattle.law_promise.proofs.Turns.{FollowsKept, WritesStop, TurnKept, FoundBelow, first_name, single_write, done_write, below_stop, other_abended, exited_chain, called_chain}

module _ {E : Type 0} (o : Domain E) (shown : IsSound o) (q : Asked E) where
  other_below : (h : List E) (found : Option App) (f : Frame) (fs : List Frame) (p : List ℕ) → bytes_eq f.name o.watch.name ≡ false → FoundKept o q h found f fs p → FoundBelow o q h found fs
  other_below h None f fs p e n = (n.0.1, n.1)
  other_below h (Some a) f fs p e t = record { like = t.like; waits = others_wait_below o q h a.fixed f fs p e t.stack }

  other_waits : (h : List E) (found : Option App) (f : Frame) (fs : List Frame) → bytes_eq f.name o.watch.name ≡ false → FoundBelow o q h found fs → FoundBelow o q h found (f ∷ fs)
  other_waits h None f fs e n = ((e, n.0), n.1)
  other_waits h (Some a) f fs e w = record { like = w.like; waits = others_wait o q h a.fixed f fs e w.waits }

  other_goes : (h : List E) (found : Option App) (f : Frame) (fs : List Frame) (p : List ℕ) → bytes_eq f.name o.watch.name ≡ false → FoundBelow o q h found fs → FoundKept o q h found f fs p
  other_goes h None f fs p e n = ((e, n.0), n.1)
  other_goes h (Some a) f fs p e w = record { like = w.like; stack = others_run o q h a.fixed f fs p e w.waits }

  -- the first frame is another's, and exits
  other_end : (b : Bool) (h : List E) (found : Option App) (session : List ℕ) (x : Outcome) → b ≡ false → FoundBelow o q h found [] → EndKept b o q h found session x
  other_end b h None session x e w = (e, w.1)
  other_end true h (Some a) session x e w = absurd (cc e)
  other_end false h (Some a) session x e w = record { like = w.like; ended = w.waits; answer = tt; stops = λ any. shown.idle_on h a.fixed w.waits }

  other_ends : (b : Bool) (h : List E) (session : List ℕ) (t : Bool) (x y : Outcome) → b ≡ false → (m : List (List ℕ × App)) → FoundBelow o q h (lookup m o.watch.name) []
      → FollowsKept b o q h m session (cond t (Ends x) (Ends y))
  other_ends b h session true x y e m w = other_end b h (lookup m o.watch.name) session x e w
  other_ends b h session false x y e m w = other_end b h (lookup m o.watch.name) session y e w

  -- the exit of another's frame
  other_exits : (b : Bool) (h : List E) (s : Chain) (session : List ℕ) (fs : List Frame) → s.apdu ≡ q.apdu → public_size ≤ length s.public → length fs ≤ 3 → (o.of_bytes → OnGoing (after_exit s fs) IsByteChain) → bytes_eq s.frame.name o.watch.name ≡ false
      → bytes_eq (first_frame s.frame fs).name o.watch.name ≡ b → FoundBelow o q h (lookup s.map o.watch.name) fs
      → FollowsKept b o q h s.map session (after_exit s fs)
  other_exits b h s session [] command l few g e first w = other_ends b h session (nat_lt 1024 (la_of s.public)) (Abended A09) (reply_of s) (sym first ∙ e) s.map w
  other_exits b h s session (f ∷ fs) command l few g e first w = exited_chain o shown q b h s session f fs command l few g w first

  other_follows : (b : Bool) (h : List E) (s : Chain) (session : List ℕ) (next : Then) → s.apdu ≡ q.apdu → public_size ≤ length s.public → length s.below ≤ 3 → (o.of_bytes → OnGoing (follows s next) IsByteChain) → bytes_eq s.frame.name o.watch.name ≡ false
      → bytes_eq (first_frame s.frame s.below).name o.watch.name ≡ b → FoundBelow o q h (lookup s.map o.watch.name) s.below
      → FollowsKept b o q h s.map session (follows s next)
  other_follows b h s session Goes command l few g e first w =
      (record { kept = other_goes h (lookup s.map o.watch.name) s.frame s.below s.public e w; command = command; whole = l; shallow = few; bytes = g }, refl, first)
  other_follows b h s session Exits command l few g e first w = other_exits b h s session s.below command l few g e first w
  other_follows b h s session (Delegates n) command l few g e first w =
      called_chain o shown q b h s session n (lookup s.map n) command l few refl g first (other_waits h (lookup s.map o.watch.name) s.frame s.below e w)

  -- a write of another's changes nothing of the application
  other_stops : (b : Bool) (h : List E) (m : List (List ℕ × App)) (n : List ℕ) (c : Option (List (ℕ × List ℕ))) → bytes_eq n o.watch.name ≡ false → StopIf b o h (lookup m o.watch.name) → WritesStop b o h h m (write_of n c)
  other_stops b h m n None e x = tt
  other_stops b h m n (Some ps) e x = (x, subst (StopIf b o h) (sym (beside_changed m n o.watch.name (Some ps) e)) x)

  other_done : (b : Bool) (h : List E) (ch : Chain) (i : Ins) (d : Done) → bytes_eq ch.frame.name o.watch.name ≡ false → bytes_eq (first_frame ch.frame ch.below).name o.watch.name ≡ b
      → ChainKept o q h ch → Keeps ch.frame ch.public d.effect → (o.of_bytes → OnGoing (row_turn ch i (Does d)).follows IsByteChain) → TurnKept b o q h ch (row_turn ch i (Does d)) None
  other_done b h ch i d e first c t g =
      let n = ch.frame.name in
      let s : Chain = chain_after_effect ch d.effect in
      let beside : lookup ch.map o.watch.name ≡ lookup s.map o.watch.name = sym (beside_changed ch.map n o.watch.name d.effect.changes e) in
      let old : FoundBelow o q h (lookup ch.map o.watch.name) ch.below = other_below h (lookup ch.map o.watch.name) ch.frame ch.below ch.public e c.kept in
      let w : FoundBelow o q h (lookup s.map o.watch.name) ch.below = subst (λ (z : Option App). FoundBelow o q h z ch.below) beside old in
      let name : bytes_eq d.effect.frame.name o.watch.name ≡ false = ap (λ (k : List ℕ). bytes_eq k o.watch.name) t.name ∙ e in
      let head : bytes_eq (first_frame d.effect.frame ch.below).name o.watch.name ≡ b = ap (λ (k : List ℕ). bytes_eq k o.watch.name) (first_name d.effect.frame ch.frame ch.below t.name) ∙ first in
      let longer : length ch.public ≤ length d.effect.public = t.public in
      let whole : public_size ≤ length ch.public = c.whole in
      let written : s.map ≡ apps_after_items ch.map (write_items (write_of n d.effect.changes)) = done_write ch.map n d.effect.changes in
      record {
        single = single_write n d.effect.changes;
        stops = other_stops b h ch.map n d.effect.changes e (below_stop o shown q b h (lookup ch.map o.watch.name) ch.frame ch.below e first old);
        next =
            subst (λ (m : List (List ℕ × App)). FollowsKept b o q h m (chain_session ch) (follows s d.next)) written
            (other_follows b h s (chain_session ch) d.next c.command (omega arith) c.shallow g name head w);
      }

  other_row : (b : Bool) (h : List E) (ch : Chain) (i : Ins) (r : RowEnd) → bytes_eq ch.frame.name o.watch.name ≡ false → bytes_eq (first_frame ch.frame ch.below).name o.watch.name ≡ b
      → ChainKept o q h ch → OnDone r (λ d. Keeps ch.frame ch.public d.effect) → OnAbend r IsRowCause → (o.of_bytes → OnGoing (row_turn ch i r).follows IsByteChain) → TurnKept b o q h ch (row_turn ch i r) None
  other_row b h ch i (Abends cause) e first c t ok g =
      other_abended o shown q b h ch (Some i) 1 cause ok e first (other_below h (lookup ch.map o.watch.name) ch.frame ch.below ch.public e c.kept)
  other_row b h ch i (Does d) e first c t ok g = other_done b h ch i d e first c t g

  -- a turn in a frame of another application keeps what the domain covers
  pub other_fetched : (b : Bool) (h : List E) (ch : Chain) (r : Result (Ins × ℕ) DecodeFault) → bytes_eq ch.frame.name o.watch.name ≡ false → bytes_eq (first_frame ch.frame ch.below).name o.watch.name ≡ b
      → ChainKept o q h ch → (o.of_bytes → OnGoing (turn_of_fetch ch r).follows IsByteChain) → TurnKept b o q h ch (turn_of_fetch ch r) None
  other_fetched b h ch (Err Undefined) e first c g = other_abended o shown q b h ch None 0 A01 tt e first (other_below h (lookup ch.map o.watch.name) ch.frame ch.below ch.public e c.kept)
  other_fetched b h ch (Err Past) e first c g = other_abended o shown q b h ch None 0 A02 tt e first (other_below h (lookup ch.map o.watch.name) ch.frame ch.below ch.public e c.kept)
  other_fetched b h ch (Ok i) e first c g =
      other_row b h ch i.0 (row i.0 (frame_at ch.frame i.1) ch.public (around ch)) e first c (row_keeps i.0 (frame_at ch.frame i.1) ch.public (around ch)) (row_cause i.0 (frame_at ch.frame i.1) ch.public (around ch)) g
