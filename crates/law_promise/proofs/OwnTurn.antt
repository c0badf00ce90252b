-- A turn in the application's own frame leads where its domain says; and so each turn of a chain keeps what the domain
-- covers.
use Rattle.std.proofs.Common.{◌≡◌, ℕ, ◌+◌, ◌≤◌, Bool, true, false, cond, List, [], ◌∷◌, length, Option, Some, None, Result, Ok, Err, refl, sym, ap, subst, ◌∙◌, arith}
use Rattle.std.specs.Prelude.{bytes_eq}
use Rattle.model_events.specs.model_machine.specs.declared.instruction.Ins.{Ins}
use Rattle.model_events.specs.model_machine.specs.declared.instruction.DecodeFault.{DecodeFault}
use Rattle.model_events.specs.model_machine.specs.declared.instruction.DecodeFault.TheVariants.{Undefined, Past}
use Rattle.model_events.specs.model_machine.specs.declared.machine.Abend.TheVariants.{A01, A02, A09}
use Rattle.model_events.specs.model_device.specs.Bytes.{lookup}
use Rattle.model_events.specs.model_device.specs.Card.{App}
use Rattle.model_events.specs.model_machine.specs.Apdu.{apdu_case}
use Rattle.model_events.specs.model_machine.specs.Code.{instruction_at}
use Rattle.model_events.specs.model_machine.specs.Frame.{Frame, session_of}
use Rattle.model_events.specs.model_machine.specs.Primitives.{Then, Goes, Exits, Delegates, Done}
use Rattle.model_events.specs.model_machine.specs.Row.{RowEnd, Abends, Does, row}
use Rattle.model_events.specs.model_machine.specs.Chain.{Outcome, Abended, Chain, Ends, code_in, map_changed, write_of, chain_after_effect, depth_of, after_exit, follows, row_turn, turn_of_fetch, frame_at, around, turn_of_chain, delegator_in, first_frame, chain_session}
use Rattle.law_bytes.specs.model_card.specs.Items.{apps_after_items, write_items}
use Rattle.std.specs.List.{AllByRecursion}
use Rattle.law_bytes.specs.OfChains.{IsNamedFrame, IsByteChain, OnGoing}
use Rattle.law_bytes.proofs.ChainBytes.{turn_bytes}
use Rattle.model_events.specs.Deeds.{Deed}
use Rattle.law_promise.specs.History.{with_event, is_too_long, done_event, row_event, fetched_event, event_if, turn_event}
use Rattle.law_promise.specs.Outline.{FitsEntry, public_size}
use Rattle.law_promise.specs.Domain.{Domain, IsSound, IsDelegator, AnswerCovered, EndCovered, StopCovered, ExitCovered, NextCovered, WriteCovered, DeedCovered, RowCovered, FetchCovered, FitsDepth}
use Rattle.law_bytes.specs.law_rows.specs.Keeping.{after_change, Keeps, OnDone}
use Rattle.law_bytes.specs.law_rows.proofs.Keeping.{row_keeps}
use Rattle.law_promise.specs.Kept.{IsLike}
use Rattle.law_promise.proofs.Chains.{NoneOf, Asked, entry_of, entry_over, Runs, none_waits, own_runs, own_waits, own_run, ThereKept, FoundKept, ChainKept, StopIf, EndKept, with_change, own_changed}
use Rattle.law_promise.proofs.Turns.{FollowsKept, WritesStop, TurnKept, BelowKept, FoundBelow, first_name, single_write, done_write, direct_is, stop_if, own_abended, exited_chain, called_chain}
use Rattle.law_promise.proofs.EachTurn.{other_fetched}
use Rattle.model_events.specs.model_device.proofs.MapLemmas.{same_name}

module _ {E : Type 0} (o : Domain E) (shown : IsSound o) (q : Asked E) where
  -- ---- an exit

  exit_kept : (b : Bool) (k : List E) (a : App) (session : List ℕ) (x : Outcome) (found : Option App) → found ≡ Some a → b ≡ true → IsLike o.app a → EndCovered o (entry_of q) k a.fixed session x → AnswerCovered o q.bytes q.apdu q.before k x
      → (o.anywhere → StopCovered o (entry_of q) k a.fixed) → EndKept b o q k found session x
  exit_kept b k a session x found is e like ends answer stops = grind (arith, EndKept)

  exits_by : (b t : Bool) (k : List E) (a : App) (session : List ℕ) (y : Outcome) (m : List (List ℕ × App)) → lookup m o.watch.name ≡ Some a → b ≡ true → IsLike o.app a → EndCovered o (entry_of q) k a.fixed session (cond t (Abended A09) y)
      → AnswerCovered o q.bytes q.apdu q.before k (cond t (Abended A09) y) → (o.anywhere → StopCovered o (entry_of q) k a.fixed) → FollowsKept b o q k m session (cond t (Ends (Abended A09)) (Ends y))
  exits_by b true k a session y m is e like ends answer stops = exit_kept b k a session (Abended A09) (lookup m o.watch.name) is e like ends answer stops
  exits_by b false k a session y m is e like ends answer stops = exit_kept b k a session y (lookup m o.watch.name) is e like ends answer stops

  own_exits : (b : Bool) (k : List E) (a : App) (f : Frame) (s : Chain) (d : Done) (fs : List Frame) → s.apdu ≡ q.apdu → s.public ≡ d.effect.public → public_size ≤ length s.public → length fs ≤ 3 → (o.of_bytes → OnGoing (after_exit s fs) IsByteChain) → lookup s.map o.watch.name ≡ Some a → IsLike o.app a
      → d.effect.frame.fixed ≡ a.fixed → NoneOf o.watch.name fs → bytes_eq f.name o.watch.name ≡ true → bytes_eq (first_frame f fs).name o.watch.name ≡ b → ExitCovered o (entry_over q fs) k f d
      → FollowsKept b o q k s.map (session_of (first_frame f fs)) (after_exit s fs)
  own_exits b k a f s d [] command public l few g is like same none own first x = grind (arith, entry_of, FollowsKept, exits_by)
  own_exits b k a f s d (g ∷ gs) command public l few bytes is like same none own first x = grind (arith, FoundBelow, none_waits, exited_chain)

  -- ---- what follows

  own_follows : (b : Bool) (k : List E) (a : App) (ch : Chain) (d : Done) (next : Then) → ch.apdu ≡ q.apdu → public_size ≤ length d.effect.public → length ch.below ≤ 3 → (o.of_bytes → OnGoing (follows (chain_after_effect ch d.effect) next) IsByteChain) → lookup (chain_after_effect ch d.effect).map o.watch.name ≡ Some a → IsLike o.app a
      → d.effect.frame.fixed ≡ a.fixed → NoneOf o.watch.name ch.below → bytes_eq ch.frame.name o.watch.name ≡ true → d.effect.frame.name ≡ ch.frame.name → bytes_eq (first_frame ch.frame ch.below).name o.watch.name ≡ b
      → NextCovered o (entry_over q ch.below) k ch.frame d next
      → FollowsKept b o q k (chain_after_effect ch d.effect).map (chain_session ch) (follows (chain_after_effect ch d.effect) next)
  own_follows b k a ch d Goes command l few g is like same none own name first x = grind (arith, first_name, ThereKept, own_runs, FoundKept)
  own_follows b k a ch d Exits command l few g is like same none own name first x =
      own_exits b k a ch.frame (chain_after_effect ch d.effect) d ch.below command refl l few g is like same none own first x
  own_follows b k a ch d (Delegates n) command l few g is like same none own name first x =
      let s : Chain = chain_after_effect ch d.effect in
      let e = entry_over q ch.below in
      let its : bytes_eq s.frame.name o.watch.name ≡ true = ap (λ (z : List ℕ). bytes_eq z o.watch.name) name ∙ own in
      let head : bytes_eq (first_frame s.frame ch.below).name o.watch.name ≡ b = ap (λ (z : List ℕ). bytes_eq z o.watch.name) (first_name s.frame ch.frame ch.below name) ∙ first in
      let w : BelowKept o q k a (s.frame ∷ s.below) = grind (arith, own_waits) in
      called_chain o shown q b k s (chain_session ch) n (lookup s.map n) command l few refl g head (subst (λ (z : Option App). FoundBelow o q k z (s.frame ∷ s.below)) (sym is) w)

  -- ---- a write

  own_stops : (b : Bool) (h k : List E) (a z : App) (ch : Chain) (d : Done) (c : Option (List (ℕ × List ℕ))) → lookup ch.map o.watch.name ≡ Some a → lookup (map_changed ch.map ch.frame.name c) o.watch.name ≡ Some z → IsLike o.app a → IsLike o.app z
      → ch.frame.fixed ≡ a.fixed → d.effect.frame.fixed ≡ z.fixed → NoneOf o.watch.name ch.below → bytes_eq ch.frame.name o.watch.name ≡ true → bytes_eq (first_frame ch.frame ch.below).name o.watch.name ≡ b
      → WriteCovered o (entry_over q ch.below) h k ch.frame d c → WritesStop b o h k ch.map (write_of ch.frame.name c)
  own_stops b h k a z ch d None is there like alike old new none own first x = tt
  own_stops b h k a z ch d (Some ps) is there like alike old new none own first x = grind (arith, StopIf, stop_if, entry_over)

  -- ---- rows

  own_done : (b : Bool) (h : List E) (ev : Option E) (a : App) (ch : Chain) (i : Ins) (d : Done) → lookup ch.map o.watch.name ≡ Some a → IsLike o.app a → Runs o q h a.fixed ch.frame ch.below ch.public
      → bytes_eq ch.frame.name o.watch.name ≡ true → bytes_eq (first_frame ch.frame ch.below).name o.watch.name ≡ b → ChainKept o q h ch
      → Keeps ch.frame ch.public d.effect → (o.of_bytes → OnGoing (row_turn ch i (Does d)).follows IsByteChain) → DeedCovered o (entry_over q ch.below) h (with_event ev h) ch.frame d
      → TurnKept b o q h ch (row_turn ch i (Does d)) ev
  own_done b h ev a ch i d is like r own first c t g x =
      let n = ch.frame.name in
      let k : List E = with_event ev h in
      let s : Chain = chain_after_effect ch d.effect in
      let z : App = with_change a d.effect.changes in
      let same : n ≡ o.watch.name = same_name n o.watch.name own in
      let there : lookup s.map o.watch.name ≡ Some z = subst (λ (y : List ℕ). lookup (map_changed ch.map y d.effect.changes) o.watch.name ≡ Some z) (sym same) (own_changed ch.map o.watch.name a d.effect.changes is) in
      let fixed : d.effect.frame.fixed ≡ z.fixed = t.fixed ∙ ap (λ (y : List ℕ). after_change y d.effect.changes) r.same in
      let alike : IsLike o.app z = record { code = like.code; session = like.session; deny = like.deny } in
      let longer : length ch.public ≤ length d.effect.public = t.public in
      let whole : public_size ≤ length ch.public = c.whole in
      let written : s.map ≡ apps_after_items ch.map (write_items (write_of n d.effect.changes)) = done_write ch.map n d.effect.changes in
      let next : FollowsKept b o q k s.map (chain_session ch) (follows s d.next) = own_follows b k z ch d d.next c.command (omega arith) c.shallow g there alike fixed r.none own t.name first x.next in
      record {
        single = single_write n d.effect.changes;
        stops = own_stops b h k a z ch d d.effect.changes is there like alike r.same fixed r.none own first x.write;
        next = subst (λ (m : List (List ℕ × App)). FollowsKept b o q k m (chain_session ch) (follows s d.next)) written next;
      }

  own_row : (b : Bool) (h : List E) (a : App) (ch : Chain) (i : Ins) (r : RowEnd) → lookup ch.map o.watch.name ≡ Some a → IsLike o.app a → Runs o q h a.fixed ch.frame ch.below ch.public
      → bytes_eq ch.frame.name o.watch.name ≡ true → bytes_eq (first_frame ch.frame ch.below).name o.watch.name ≡ b → ChainKept o q h ch
      → OnDone r (λ d. Keeps ch.frame ch.public d.effect) → (o.of_bytes → OnGoing (row_turn ch i r).follows IsByteChain) → RowCovered o (entry_over q ch.below) h ch.frame ch.public (depth_of ch) i r
      → TurnKept b o q h ch (row_turn ch i r) (row_event o.watch ch i r)
  own_row b h a ch i (Abends cause) is like r own first c t g x =
      own_abended o shown q b h (o.watch.of_abend ch.frame.at cause) a ch (Some i) 1 cause is like r.same r.none own first x
  own_row b h a ch i (Does d) is like r own first c t g x =
      let deed : Bool → Deed = λ p. record { frame = ch.frame; public = ch.public; direct = p; depth = depth_of ch; ins = i; effect = d.effect } in
      own_done b h (row_event o.watch ch i (Does d)) a ch i d is like r own first c t g
      (subst (λ (p : Bool). DeedCovered o (entry_over q ch.below) h (with_event (done_event (is_too_long p d.next d.effect.public) o.watch (deed p)) h) ch.frame d) (direct_is q ch.below) x)

  own_fetched : (b : Bool) (h : List E) (a : App) (ch : Chain) (r : Result (Ins × ℕ) DecodeFault) → lookup ch.map o.watch.name ≡ Some a → IsLike o.app a → Runs o q h a.fixed ch.frame ch.below ch.public
      → bytes_eq ch.frame.name o.watch.name ≡ true → bytes_eq (first_frame ch.frame ch.below).name o.watch.name ≡ b → ChainKept o q h ch → (o.of_bytes → OnGoing (turn_of_fetch ch r).follows IsByteChain)
      → FetchCovered o (entry_over q ch.below) h ch.frame ch.public (depth_of ch) (around ch) r
      → TurnKept b o q h ch (turn_of_fetch ch r) (fetched_event o.watch ch r)
  own_fetched b h a ch (Err Undefined) is like r own first c g x = own_abended o shown q b h (o.watch.of_abend ch.frame.at A01) a ch None 0 A01 is like r.same r.none own first x
  own_fetched b h a ch (Err Past) is like r own first c g x = own_abended o shown q b h (o.watch.of_abend ch.frame.at A02) a ch None 0 A02 is like r.same r.none own first x
  own_fetched b h a ch (Ok i) is like r own first c g x =
      own_row b h a ch i.0 (row i.0 (frame_at ch.frame i.1) ch.public (around ch)) is like r own first c (row_keeps i.0 (frame_at ch.frame i.1) ch.public (around ch)) g x

  -- what is known around the frame, and the number of frames
  fits_over : (case : ℕ) (fs : List Frame) → case ≡ apdu_case q.apdu → FitsEntry (entry_over q fs) (record { case = case; delegator = delegator_in fs })
  fits_over case [] e = (e, refl)
  fits_over case (f ∷ fs) e = refl

  depth_over : (fs : List Frame) → length fs ≤ 3 → FitsDepth (entry_over q fs) (length fs + 1)
  depth_over [] few = refl
  depth_over (f ∷ fs) few = (omega (arith, few), omega (arith, few))

  -- the delegator's name
  delegator_named : (fs : List Frame) → AllByRecursion IsNamedFrame fs → IsDelegator (delegator_in fs)
  delegator_named [] h = tt
  delegator_named (f ∷ fs) h = (h.0).name

  -- ---- a turn

  own_turn : (b : Bool) (h : List E) (ch : Chain) (found : Option App) → lookup ch.map o.watch.name ≡ found → FoundKept o q h found ch.frame ch.below ch.public
      → bytes_eq ch.frame.name o.watch.name ≡ true → bytes_eq (first_frame ch.frame ch.below).name o.watch.name ≡ b → ChainKept o q h ch
      → TurnKept b o q h ch (turn_of_chain ch) (event_if true o.watch ch)
  unfolding turn_of_chain
  own_turn b h ch None is f own first c = absurd (cc (sym own ∙ f.0.0))
  own_turn b h ch (Some a) is f own first c =
      let r : Runs o q h a.fixed ch.frame ch.below ch.public = own_run o q h a.fixed ch.frame ch.below ch.public own f.stack in
      let same : ch.frame.name ≡ o.watch.name = same_name ch.frame.name o.watch.name own in
      let code : code_in (lookup ch.map ch.frame.name) ≡ o.app.code = ap (λ (n : List ℕ). code_in (lookup ch.map n)) same ∙ (ap code_in is ∙ f.like.code) in
      let x : FetchCovered o (entry_over q ch.below) h ch.frame ch.public (depth_of ch) (around ch) (instruction_at o.app.code ch.frame.at) =
      shown.turn (entry_over q ch.below) h ch.frame ch.public (depth_of ch) (around ch) r.at (fits_over (apdu_case ch.apdu) ch.below (ap apdu_case c.command)) (depth_over ch.below c.shallow) (λ t. delegator_named ch.below (c.bytes t).below) (c.whole, λ t. (c.bytes t).public)
      in
      own_fetched b h a ch (instruction_at (code_in (lookup ch.map ch.frame.name)) ch.frame.at) is f.like r own first c (λ t. (turn_bytes ch (c.bytes t)).goes)
      (subst (λ (z : List ℕ). FetchCovered o (entry_over q ch.below) h ch.frame ch.public (depth_of ch) (around ch) (instruction_at z ch.frame.at)) (sym code) x)

  other_turn : (b : Bool) (h : List E) (ch : Chain) → bytes_eq ch.frame.name o.watch.name ≡ false → bytes_eq (first_frame ch.frame ch.below).name o.watch.name ≡ b → ChainKept o q h ch
      → TurnKept b o q h ch (turn_of_chain ch) None
  unfolding turn_of_chain
  other_turn b h ch e first c = other_fetched o shown q b h ch (instruction_at (code_in (lookup ch.map ch.frame.name)) ch.frame.at) e first c (λ t. (turn_bytes ch (c.bytes t)).goes)

  turn_by : (b x : Bool) (h : List E) (ch : Chain) → bytes_eq ch.frame.name o.watch.name ≡ x → bytes_eq (first_frame ch.frame ch.below).name o.watch.name ≡ b → ChainKept o q h ch
      → TurnKept b o q h ch (turn_of_chain ch) (event_if x o.watch ch)
  turn_by b true h ch e first c = own_turn b h ch (lookup ch.map o.watch.name) refl c.kept e first c
  turn_by b false h ch e first c = other_turn b h ch e first c

  -- each turn keeps what the domain covers
  pub turn_kept : (b : Bool) (h : List E) (ch : Chain) → bytes_eq (first_frame ch.frame ch.below).name o.watch.name ≡ b → ChainKept o q h ch
      → TurnKept b o q h ch (turn_of_chain ch) (turn_event o.watch ch)
  turn_kept b h ch first c = turn_by b (bytes_eq ch.frame.name o.watch.name) h ch refl first c
