-- What is known of the application that runs goes on from turn to turn: no turn changes code.
use Rattle.std.proofs.Common.{◌≡◌, ℕ, zero, suc, Bool, true, false, cond, ◌||◌, List, [], ◌∷◌, Option, Some, None, Ok, Err, Result, refl, sym, ap, subst, ◌∙◌}
use Rattle.std.specs.Prelude.{bytes_eq, nat_le, nat_lt, IfSome, length, ◌≤◌}
use Rattle.mc_words.specs.model_device.specs.Bytes.{lookup, insert}
use Rattle.mc_words.specs.model_device.specs.Card.{App}
use Rattle.mc_words.specs.model_device.specs.Device.{DeviceState}
use Rattle.mc_words.specs.model_device.specs.Limits.{most_code}
use Rattle.mc_words.specs.model_device.specs.Orders.{Answer}
use Rattle.mc_words.specs.model_device.proofs.MapLemmas.{same_name, lookup_inserted_lem, lookup_beside}
use Rattle.mc_arith.specs.model_machine.specs.declared.instruction.Ins.{Ins}
use Rattle.mc_arith.specs.model_machine.specs.declared.instruction.DecodeFault.{DecodeFault}
use Rattle.mc_arith.specs.model_machine.specs.declared.instruction.DecodeFault.TheVariants.{Undefined, Past}
use Rattle.mc_arith.specs.model_machine.specs.Code.{instruction_at}
use Rattle.mc_arith.specs.model_machine.specs.Frame.{Frame, la_of}
use Rattle.mc_arith.specs.model_machine.specs.Primitives.{Delegates, Exits, Goes, Then}
use Rattle.mc_arith.specs.model_machine.specs.Row.{RowEnd, Abends, Does, row}
use Rattle.mc_arith.specs.model_machine.specs.Chain.{Chain, Follows, Continues, Ends, Outcome, after_exit, around, called_app, chain_after_call, chain_after_effect, changed_app, code_in, depth_of, follows, frame_at, is_active, last_exit, map_changed, row_turn, turn_of, turn_of_chain, turn_of_fetch, with_pieces}
use Rattle.desk_draft.specs.FullTurns.{running_code}
use Rattle.desk_draft.specs.Listings.{Source}
use Rattle.mc_machine.specs.declared.outcome.Turn.{Turn}
use Rattle.mc_segs.specs.HeldFrames.{Held}
use Rattle.mc_machine.specs.Chains.{Chained}
use Rattle.mc_card.specs.declared.card.Card.{Card}
use Rattle.mc_card.specs.Ends.{ChainTurned, TurnGoesOn}
use Rattle.mc_card.specs.Parts.{RunsChain}
use Rattle.desk_cover.specs.declared.known.Known.{Known}
use Rattle.desk_cover.specs.Known.{FitsKnown, IsKnownAfter, IsSameKnown, KnownBy, Knows}
use Rattle.desk_cover.specs.Looking.{section_at}
use Rattle.desk_cover.specs.Sections.{index_of}
use Rattle.desk_cover.specs.Watching.{code_on, name_in}
use Rattle.desk_cover.proofs.FullTurnLemmas.{chained_code, chained_name, same_chain}

-- ---- code

-- the code of each application stays
abbrev SameCode : List (List ℕ × App) → List (List ℕ × App) → Type 0
SameCode m d = (n : List ℕ) → code_in (lookup d n) ≡ code_in (lookup m n)

code_changed : (o : Option App) (m : List (List ℕ × App)) (n : List ℕ) (ps : List (ℕ × List ℕ)) → lookup m n ≡ o → SameCode m (changed_app m n ps o)
code_changed None m n ps e k = refl
code_changed (Some a) m n ps e k = by (bytes_eq n k) refl
  where
    by : (b : Bool) → bytes_eq n k ≡ b → code_in (lookup (insert m n (with_pieces ps a)) k) ≡ code_in (lookup m k)
    by true is =
        subst (λ (j : List ℕ). code_in (lookup (insert m n (with_pieces ps a)) j) ≡ code_in (lookup m j)) (same_name n k is)
        (ap code_in (lookup_inserted_lem m n (with_pieces ps a)) ∙ sym (ap code_in e))
    by false is = ap code_in (lookup_beside m n (with_pieces ps a) k is)

code_kept : (m : List (List ℕ × App)) (n : List ℕ) (o : Option (List (ℕ × List ℕ))) → SameCode m (map_changed m n o)
code_kept m n None = λ k. refl
code_kept m n (Some ps) = code_changed (lookup m n) m n ps refl

-- ---- turns

-- what follows a turn has the code of these applications
abbrev GoesCoded : List (List ℕ × App) → Follows → Type 0
GoesCoded m (Continues ch) = SameCode m ch.map
GoesCoded m (Ends o) = Unit {0}

last_coded : (m : List (List ℕ × App)) (ch : Chain) → GoesCoded m (last_exit ch)
last_coded m ch = by_bool (nat_lt 1024 (la_of ch.public)) _ _
  where
    by_bool : (b : Bool) (o p : Outcome) → GoesCoded m (cond b (Ends o) (Ends p))
    by_bool true o p = tt
    by_bool false o p = tt

exit_coded : (m : List (List ℕ × App)) (ch : Chain) (fs : List Frame) → SameCode m ch.map → GoesCoded m (after_exit ch fs)
exit_coded m ch [] h = last_coded m ch
exit_coded m ch (f ∷ fs) h = h

called_coded : (m : List (List ℕ × App)) (b : Bool) (ch : Chain) (n : List ℕ) (a : App) → SameCode m ch.map → SameCode m (called_app b ch n a).map
called_coded m true ch n a h = h
called_coded m false ch n a h = h

call_coded : (m : List (List ℕ × App)) (ch : Chain) (n : List ℕ) (o : Option App) → SameCode m ch.map → SameCode m (chain_after_call ch n o).map
call_coded m ch n None h = h
call_coded m ch n (Some a) h = called_coded m (is_active n ch.frame ch.below || nat_le 4 (depth_of ch)) ch n a h

follows_coded : (m : List (List ℕ × App)) (ch : Chain) (t : Then) → SameCode m ch.map → GoesCoded m (follows ch t)
follows_coded m ch Goes h = h
follows_coded m ch Exits h = exit_coded m ch ch.below h
follows_coded m ch (Delegates n) h = call_coded m ch n (lookup ch.map n) h

row_coded : (ch : Chain) (i : Ins) (r : RowEnd) → GoesCoded ch.map (row_turn ch i r).follows
row_coded ch i (Abends c) = tt
row_coded ch i (Does d) = follows_coded ch.map (chain_after_effect ch d.effect) d.next (code_kept ch.map ch.frame.name d.effect.changes)

fetch_coded : (ch : Chain) (r : Result (Ins × ℕ) DecodeFault) → GoesCoded ch.map (turn_of_fetch ch r).follows
fetch_coded ch (Err Undefined) = tt
fetch_coded ch (Err Past) = tt
fetch_coded ch (Ok i) = row_coded ch i.0 (row i.0 (frame_at ch.frame i.1) ch.public (around ch))

turn_coded : (n : ℕ) (ch : Chain) → GoesCoded ch.map (turn_of n ch).follows
unfolding turn_of_chain
turn_coded zero ch = tt
turn_coded (suc n) ch = fetch_coded ch (instruction_at (running_code ch) ch.frame.at)

-- ---- what is known

-- the same application: the same is known
known_kept : (ss : List Source) (ch next : Chain) (j k : Known) → SameCode ch.map next.map → FitsKnown ss ch.frame.name (running_code ch) j → IsSameKnown j k → next.frame.name ≡ j.name.items → FitsKnown ss next.frame.name (running_code next) k
known_kept ss ch next j k same fits kept e =
    let name : ch.frame.name ≡ next.frame.name = sym (e ∙ fits.name) in
    let code : running_code ch ≡ running_code next = ap (λ (n : List ℕ). code_in (lookup ch.map n)) name ∙ sym (same next.frame.name) in
    record {
      name = kept.name ∙ sym e;
      section = kept.section ∙ fits.section ∙ ap (λ (n : List ℕ). index_of 0 ss n (running_code ch)) name ∙ ap (λ (c : List ℕ). index_of 0 ss next.frame.name c) code;
      short = subst (λ (o : Option ℕ). IfSome (section_at ss o) (λ s. length s.code ≤ most_code)) (sym kept.section) fits.short;
    }

known_by : (b : Bool) (ss : List Source) (ch next : Chain) (j k : Known) → bytes_eq next.frame.name j.name.items ≡ b → SameCode ch.map next.map → FitsKnown ss ch.frame.name (running_code ch) j → KnownBy b ss next.frame.name (running_code next) j k
    → FitsKnown ss next.frame.name (running_code next) k
known_by true ss ch next j k e same fits kept = known_kept ss ch next j k same fits kept (same_name next.frame.name j.name.items e)
known_by false ss ch next j k e same fits found = found

module _ {N : Type 0} (state : N → DeviceState) where
  -- the code of the running frame of a card
  code_of_frame : (c : Card N) (ch : Chain) (left : ℕ) (h : Chained) → RunsChain state c ch left → Some h ≡ c.chain → code_on state c h.running ≡ running_code ch
  code_of_frame c ch left h r e = ap (λ (x : Chained). code_on state c x.running) (sym (same_chain state c ch left h r e)) ∙ chained_code state c ch left r

  name_of_frame : (c : Card N) (ch : Chain) (left : ℕ) (h : Chained) → RunsChain state c ch left → Some h ≡ c.chain → name_in state c h.running ≡ ch.frame.name
  name_of_frame c ch left h r e = ap (λ (x : Chained). name_in state c x.running) (sym (same_chain state c ch left h r e)) ∙ chained_name state c ch left r

  -- what fits the running frame of a card fits the chain that runs on it
  pub known_found : (c : Card N) (ss : List Source) (k : Known) (h : Chained) (f : Held) → Some h ≡ c.chain → f ≡ h.running → FitsKnown ss (name_in state c f) (code_on state c f) k → Knows state c ss k
  known_found c ss k h f e same fits ch left r =
      let running = subst (λ (x : Held). FitsKnown ss (name_in state c x) (code_on state c x) k) same fits in
      subst (λ (n : List ℕ). FitsKnown ss n (running_code ch) k) (name_of_frame c ch left h r e)
      (subst (λ (x : List ℕ). FitsKnown ss (name_in state c h.running) x k) (code_of_frame c ch left h r e) running)

  -- what is known of the application that runs is known of its frame
  pub known_followed : (c : Card N) (ss : List Source) (j k : Known) (h : Chained) (f : Held) → Some h ≡ c.chain → f ≡ h.running → IsKnownAfter ss (name_in state c f) (code_on state c f) j k → (ch : Chain) (left : ℕ) → RunsChain state c ch left
      → IsKnownAfter ss ch.frame.name (running_code ch) j k
  known_followed c ss j k h f e same after ch left r =
      let running = subst (λ (x : Held). IsKnownAfter ss (name_in state c x) (code_on state c x) j k) same after in
      subst (λ (n : List ℕ). IsKnownAfter ss n (running_code ch) j k) (name_of_frame c ch left h r e)
      (subst (λ (x : List ℕ). IsKnownAfter ss (name_in state c h.running) x j k) (code_of_frame c ch left h r e) running)

  module _ (wrote : N → ℕ → List ℕ → Answer → N → Type 0) where
    goes_coded : (c d : Card N) (ch : Chain) (left : ℕ) (f : Follows) → TurnGoesOn state wrote c ch left f d → GoesCoded ch.map f → (next : Chain) (n : ℕ) → RunsChain state d next n → SameCode ch.map next.map
    goes_coded c d ch left (Continues k) h coded next n r = subst (λ (m : List (List ℕ × App)). SameCode ch.map m) (h.0.runs.map ∙ sym r.runs.map) coded
    goes_coded c d ch left (Ends o) h coded next n r = absurd (cc (sym h.0.idle ∙ r.is))

    -- what is known after a turn
    pub known_on : (ss : List Source) (c d : Card N) (ch : Chain) (left : ℕ) (turn : Turn) (j k : Known) → RunsChain state c ch left → Knows state c ss j → ChainTurned state wrote c ch left (turn_of left ch) (Ok turn) d
        → ((next : Chain) (n : ℕ) → RunsChain state d next n → IsKnownAfter ss next.frame.name (running_code next) j k) → Knows state d ss k
    known_on ss c d ch left turn j k runs knows turned after next n r =
        known_by (bytes_eq next.frame.name j.name.items) ss ch next j k refl (goes_coded c d ch _ (turn_of left ch).follows turned.follows (turn_coded left ch) next n r) (knows ch left runs) (after next n r)
