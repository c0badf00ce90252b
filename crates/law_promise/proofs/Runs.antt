-- A run keeps what the domain covers, whole or cut in any device write, with the history that was counted up to there.
use Rattle.std.proofs.Common.{◌≡◌, ℕ, zero, suc, ◌+◌, ◌-◌, ◌<◌, ◌≤◌, Bool, true, false, cond, List, [], ◌∷◌, ◌++◌, Option, Some, None, refl, sym, ap, subst, ◌∙◌, arith, inl, inr}
use Rattle.std.specs.Prelude.{◌⊎◌, bytes_eq, nat_le}
use Rattle.std.proofs.lemmas.Bool.{leb-false}
use Rattle.model_events.specs.model_device.specs.Bytes.{lookup}
use Rattle.model_events.specs.model_device.specs.Image.{Two}
use Rattle.model_events.specs.model_device.specs.Stopped.{cost, stands}
use Rattle.model_events.specs.model_device.specs.Card.{App}
use Rattle.model_events.specs.model_machine.specs.Chain.{Abended, Write, Chain, Ran, Acted, Follows, Continues, Ends, turn_of_chain, run_after_turn, run_of_chain, first_frame, chain_session}
use Rattle.law_bytes.specs.model_card.specs.Items.{Fixed, Atomic, moves, apps_after_change, apps_after_items, with_item, in_flight, at_stop, write_items}
use Rattle.model_events.specs.model_machine.specs.declared.machine.Abend.TheVariants.{A07}
use Rattle.law_promise.specs.History.{CutAt, with_event, cut_after, last_turn, cut_turn, after_writes, after_follows, turn_event, after_run}
use Rattle.law_promise.specs.Domain.{Domain, IsSound}
use Rattle.law_promise.proofs.Chains.{Asked, ChainKept, StopIf, EndKept}
use Rattle.law_promise.proofs.Turns.{IsSingle, FollowsKept, WritesStop, TurnKept, chain_spent, end_stops}
use Rattle.law_promise.proofs.OwnTurn.{turn_kept}

-- ---- writes in order

done_writes : (a b : List Write) (m : List (List ℕ × App)) → apps_after_items m (write_items (a ++ b)) ≡ apps_after_items (apps_after_items m (write_items a)) (write_items b)
done_writes [] b m = refl
done_writes (w ∷ a) b m = done_writes a b (apps_after_change (Fixed w.name w.pieces) m)

append_none : (a : List Write) → a ++ [] ≡ a
append_none [] = refl
append_none (w ∷ a) = ap (λ (z : List Write). w ∷ z) (append_none a)

-- the writes of what follows a turn
abbrev pub more : Follows → (Chain → Ran) → List Write
more (Ends outcome) rest = []
more (Continues c) rest = (rest c).writes

ran_writes : (t : Acted) (session : List ℕ) (f : Follows) (rest : Chain → Ran) → t.writes ++ more f rest ≡ (run_after_turn t session f rest).writes
ran_writes t session (Ends outcome) rest = append_none t.writes
ran_writes t session (Continues c) rest = refl

-- without a cut each turn counts
none_writes : {E : Type 0} (ws : List Write) (e : Option E) (h : List E) (rest : Option CutAt → List E → List E) → rest None (with_event e h) ≡ after_writes ws None e h rest
none_writes [] e h rest = refl
none_writes (w ∷ ws) e h rest = refl

-- ---- where a cut falls

-- a cut is at one of the device writes of some atomic writes, or may be anywhere
abbrev pub Hits : Type 0 → List Write → CutAt → Type 0
Hits anywhere ws c = anywhere ⊎ ((1 ≤ c.at) × (c.at ≤ moves (write_items ws)))

behind : (n at m : ℕ) → n < at → at ≤ n + m → (1 ≤ at - n) × (at - n ≤ m)
behind n at m low high = (omega (arith, low), omega (arith, high))

-- a cut that comes after an atomic write is at one of those after it
hits_after : (anywhere : Type 0) (w : Write) (ws : List Write) (c : CutAt) → nat_le c.at (cost Two w.words) ≡ false → Hits anywhere (w ∷ ws) c → Hits anywhere ws (cut_after w.words c)
hits_after anywhere w ws c e (inl any) = inl any
hits_after anywhere w ws c e (inr p) = inr (behind (cost Two w.words) c.at (moves (write_items ws)) (leb-false c.at (cost Two w.words) e) p.1)

-- what a whole run leaves
pub record RunKept {E : Type 0} (b : Bool) (o : Domain E) (q : Asked E) (m : List (List ℕ × App)) (r : Ran) (k : List E) : Type 0 where
  pub ended : EndKept b o q k (lookup (apps_after_items m (write_items r.writes)) o.watch.name) r.session r.outcome

module _ {E : Type 0} (b : Bool) (o : Domain E) (shown : IsSound o) (q : Asked E) (rest : Chain → Ran) (then : Chain → Option CutAt → List E → List E) where
  -- ---- a turn and what follows, where no stop comes

  run_on : (k : List E) (m : List (List ℕ × App)) (t : Acted) (session : List ℕ) (f : Follows)
      → FollowsKept b o q k (apps_after_items m (write_items t.writes)) session f
      → ((p : List E) (c : Chain) → bytes_eq (first_frame c.frame c.below).name o.watch.name ≡ b → ChainKept o q p c → RunKept b o q c.map (rest c) (then c None p))
      → RunKept b o q m (run_after_turn t session f rest) (after_follows f then None k)
  run_on k m t session (Ends outcome) next again = record { ended = next }
  run_on k m t session (Continues c) next again =
      grind (arith, again k c next.2 next.0, ap (λ (z : List (List ℕ × App)). apps_after_items z (write_items (rest c).writes)) next.1 ∙ sym (done_writes t.writes (rest c).writes m))

  -- ---- a turn and what follows, where a stop comes

  CutKept : List E → List (List ℕ × App) → List Write → CutAt → Type 0
  CutKept p m ws c = StopIf b o p (lookup (apps_after_items m (at_stop (write_items ws) c.at c.left).whole) o.watch.name)

  next_cut : (k : List E) (m : List (List ℕ × App)) (session : List ℕ) (f : Follows) (cut : CutAt) → Hits o.anywhere (more f rest) cut → FollowsKept b o q k m session f
      → ((p : List E) (c : Chain) (x : CutAt) → Hits o.anywhere (rest c).writes x → bytes_eq (first_frame c.frame c.below).name o.watch.name ≡ b → ChainKept o q p c → CutKept (then c (Some x) p) c.map (rest c).writes x)
      → CutKept (after_follows f then (Some cut) k) m (more f rest) cut
  unfolding CutKept
  next_cut k m session (Ends outcome) cut (inl any) next again = end_stops o shown q b k (lookup m o.watch.name) session outcome any next
  next_cut k m session (Ends outcome) cut (inr p) next again = let low = p.0 in let high = p.1 in absurd (omega (arith, low, high))
  next_cut k m session (Continues c) cut hits next again =
      subst (λ (z : List (List ℕ × App)). StopIf b o (then c (Some cut) k) (lookup (apps_after_items z (at_stop (write_items (rest c).writes) cut.at cut.left).whole) o.watch.name)) next.1 (again k c cut hits next.2 next.0)

  -- a cut in the write of the turn
  cut_there : (s : Bool) (h : List E) (ev : Option E) (m : List (List ℕ × App)) (w : Write) → StopIf b o h (lookup m o.watch.name) → StopIf b o (with_event ev h) (lookup (apps_after_items m (write_items (w ∷ []))) o.watch.name)
      → StopIf b o (last_turn s ev h) (lookup (apps_after_items m (cond s (Atomic w.words (Fixed w.name w.pieces) ∷ []) [])) o.watch.name)
  cut_there true h ev m w old new = new
  cut_there false h ev m w old new = old

  cut_by : (x : Bool) (h : List E) (ev : Option E) (m : List (List ℕ × App)) (w : Write) (ws : List Write) (c : CutAt) (g : Option CutAt → List E → List E) → nat_le c.at (cost Two w.words) ≡ x → StopIf b o h (lookup m o.watch.name)
      → StopIf b o (with_event ev h) (lookup (apps_after_items m (write_items (w ∷ []))) o.watch.name)
      → (nat_le c.at (cost Two w.words) ≡ false → CutKept (g (Some (cut_after w.words c)) (with_event ev h)) (apps_after_items m (write_items (w ∷ []))) ws (cut_after w.words c))
      → let i = Atomic w.words (Fixed w.name w.pieces) in
      StopIf b o (cut_turn x w c ev h g)
      (lookup (apps_after_items m (cond x (in_flight w.words (Fixed w.name w.pieces) c.at c.left) (with_item i (at_stop (write_items ws) (c.at - cost Two w.words) c.left))).whole) o.watch.name)
  unfolding CutKept
  cut_by true h ev m w ws c g e old new later = cut_there (stands Two w.words c.at c.left) h ev m w old new
  cut_by false h ev m w ws c g e old new later = later e

  cut_on : (ws : List Write) (h : List E) (ev : Option E) (m : List (List ℕ × App)) (session : List ℕ) (f : Follows) (cut : CutAt) → IsSingle ws → Hits o.anywhere (ws ++ more f rest) cut
      → WritesStop b o h (with_event ev h) m ws → FollowsKept b o q (with_event ev h) (apps_after_items m (write_items ws)) session f
      → ((p : List E) (c : Chain) (x : CutAt) → Hits o.anywhere (rest c).writes x → bytes_eq (first_frame c.frame c.below).name o.watch.name ≡ b → ChainKept o q p c → CutKept (then c (Some x) p) c.map (rest c).writes x)
      → CutKept (after_writes ws (Some cut) ev h (λ c p. after_follows f then c p)) m (ws ++ more f rest) cut
  unfolding CutKept
  cut_on [] h ev m session f cut single hits stops next again = next_cut (with_event ev h) m session f cut hits next again
  cut_on (w ∷ []) h ev m session f cut single hits stops next again =
      cut_by (nat_le cut.at (cost Two w.words)) h ev m w (more f rest) cut (λ c p. after_follows f then c p) refl stops.0 stops.1
      (λ e. next_cut (with_event ev h) (apps_after_items m (write_items (w ∷ []))) session f (cut_after w.words cut) (hits_after o.anywhere w (more f rest) cut e hits) next again)
  cut_on (w ∷ v ∷ vs) h ev m session f cut single hits stops next again = absurd single

module _ {E : Type 0} (o : Domain E) (shown : IsSound o) (q : Asked E) where
  -- a run that no stop hits
  pub run_kept : (b : Bool) (n : ℕ) (h : List E) (ch : Chain) → bytes_eq (first_frame ch.frame ch.below).name o.watch.name ≡ b → ChainKept o q h ch
      → RunKept b o q ch.map (run_of_chain n ch) (after_run o.watch n ch None h)
  unfolding run_of_chain after_run
  run_kept b zero h ch first c = record { ended = chain_spent o shown q b h ch first c }
  run_kept b (suc n) h ch first c =
      let t : TurnKept b o q h ch (turn_of_chain ch) (turn_event o.watch ch) = turn_kept o shown q b h ch first c in
      let k : List E = with_event (turn_event o.watch ch) h in
      let rest : Chain → Ran = λ z. run_of_chain n z in
      let then : Chain → Option CutAt → List E → List E = λ z x p. after_run o.watch n z x p in
      let r : RunKept b o q ch.map (run_after_turn (turn_of_chain ch) (chain_session ch) (turn_of_chain ch).follows rest) (after_follows (turn_of_chain ch).follows then None k) =
      run_on b o shown q rest then k ch.map (turn_of_chain ch) (chain_session ch) (turn_of_chain ch).follows t.next (λ p z first kept. run_kept b n p z first kept)
      in
      subst (λ (p : List E). RunKept b o q ch.map (run_after_turn (turn_of_chain ch) (chain_session ch) (turn_of_chain ch).follows rest) p)
      (none_writes (turn_of_chain ch).writes (turn_event o.watch ch) h (λ x p. after_follows (turn_of_chain ch).follows then x p)) r

  cut_spent : (b : Bool) (h : List E) (ch : Chain) (cut : CutAt) → Hits o.anywhere [] cut → bytes_eq (first_frame ch.frame ch.below).name o.watch.name ≡ b → ChainKept o q h ch → StopIf b o h (lookup ch.map o.watch.name)
  cut_spent b h ch cut (inl any) first c = end_stops o shown q b h (lookup ch.map o.watch.name) (chain_session ch) (Abended A07) any (chain_spent o shown q b h ch first c)
  cut_spent b h ch cut (inr p) first c = let low = p.0 in let high = p.1 in absurd (omega (arith, low, high))

  -- a run that a stop hits
  pub cut_kept : (b : Bool) (n : ℕ) (h : List E) (ch : Chain) (cut : CutAt) → Hits o.anywhere (run_of_chain n ch).writes cut → bytes_eq (first_frame ch.frame ch.below).name o.watch.name ≡ b → ChainKept o q h ch
      → StopIf b o (after_run o.watch n ch (Some cut) h) (lookup (apps_after_items ch.map (at_stop (write_items (run_of_chain n ch).writes) cut.at cut.left).whole) o.watch.name)
  unfolding run_of_chain after_run CutKept
  cut_kept b zero h ch cut hits first c = cut_spent b h ch cut hits first c
  cut_kept b (suc n) h ch cut hits first c =
      let t : TurnKept b o q h ch (turn_of_chain ch) (turn_event o.watch ch) = turn_kept o shown q b h ch first c in
      let rest : Chain → Ran = λ z. run_of_chain n z in
      let then : Chain → Option CutAt → List E → List E = λ z x p. after_run o.watch n z x p in
      let f = (turn_of_chain ch).follows in
      let p : List E = after_writes (turn_of_chain ch).writes (Some cut) (turn_event o.watch ch) h (λ x p. after_follows f then x p) in
      let there : Hits o.anywhere ((turn_of_chain ch).writes ++ more f rest) cut =
      subst (λ (ws : List Write). Hits o.anywhere ws cut) (sym (ran_writes (turn_of_chain ch) (chain_session ch) f rest)) hits
      in
      let r : CutKept b o shown q rest then p ch.map ((turn_of_chain ch).writes ++ more f rest) cut =
      cut_on b o shown q rest then (turn_of_chain ch).writes h (turn_event o.watch ch) ch.map (chain_session ch) f cut t.single there t.stops t.next (λ p z x hit first kept. cut_kept b n p z x hit first kept)
      in
      subst (λ (ws : List Write). StopIf b o p (lookup (apps_after_items ch.map (at_stop (write_items ws) cut.at cut.left).whole) o.watch.name)) (ran_writes (turn_of_chain ch) (chain_session ch) f rest) r
