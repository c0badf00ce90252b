-- A run makes at most 78 device writes for each instruction: a commit of more is paid by the instructions before it,
-- which wrote nothing.
use Rattle.std.proofs.Common.{◌≡◌, ℕ, zero, suc, ◌+◌, ◌*◌, ◌≤◌, Bool, true, false, cond, List, [], ◌∷◌, length, Option, Some, None, Result, Ok, Err, refl, ap, arith, inl, inr}
use Rattle.std.specs.Prelude.{◌||◌, nat_lt, nat_le}
use Rattle.law_family.specs.model_machine.specs.declared.instruction.Ins.{Ins}
use Rattle.law_family.specs.model_machine.specs.declared.instruction.DecodeFault.{DecodeFault}
use Rattle.law_family.specs.model_machine.specs.declared.instruction.DecodeFault.TheVariants.{Undefined, Past}
use Rattle.law_family.specs.model_machine.specs.declared.machine.Abend.{Abend}
use Rattle.law_family.specs.model_device.specs.Bytes.{lookup}
use Rattle.law_family.specs.model_machine.specs.Apdu.{ApduParts}
use Rattle.law_family.specs.model_machine.specs.Code.{Shaped, instruction_at}
use Rattle.law_family.specs.model_device.specs.Card.{App}
use Rattle.law_family.specs.model_machine.specs.Frame.{Frame, la_of}
use Rattle.law_family.specs.model_machine.specs.Primitives.{Then}
use Rattle.law_family.specs.model_machine.specs.Row.{Does, causes, effect, first_cause, row_end, row}
use Rattle.law_family.specs.model_machine.specs.Chain.{Outcome, Write, Chain, Ran, Acted, Follows, Continues, Ends, code_in, write_of, chain_after_effect, is_active, depth_of, called_app, chain_after_call, after_exit, follows, row_turn, turn_of_fetch, frame_at, around, turn_of_chain, run_after_turn, run_of_chain, start}
use Rattle.law_family.specs.law_machine.specs.FewWords.{words_in, most_words}
use Rattle.law_family.specs.law_machine.specs.FewRuns.{AreCoded}
use Rattle.law_family.specs.law_machine.proofs.RowWords.{none_holds, DoneRowFacts, row_few, reported_any, most_64}
use Rattle.law_family.specs.law_machine.proofs.FewRuns.{FewChain, FewNext, reported_by, acted_few, start_few}
use Rattle.law_family.specs.law_machine.proofs.RunSizes.{ChainFits, NextFits, acted_fits, start_fits}
use Rattle.std.specs.Prelude.{is_some, ◌++◌}
use Rattle.law_family.specs.model_machine.specs.Frame.{Effect}
use Rattle.law_family.specs.model_machine.specs.Chain.{Turn, run}
use Rattle.law_family.specs.model_card.specs.Items.{moves, write_items}
use Rattle.law_wear.specs.Laws.{atomic_writes, instructions}
use Rattle.law_wear.proofs.Pays.{Pays, effect_pays}
use Rattle.law_family.proofs.DefinitionLemmas.{turn_count}

-- ---- what a run has paid for

-- a frame with pending pieces has paid for the writes of their commit beyond those of one instruction
abbrev paid : List (ℕ × List ℕ) → ℕ
paid [] = 0
paid (p ∷ ps) = 69

abbrev paid_all : List Frame → ℕ
paid_all [] = 0
paid_all (f ∷ fs) = paid f.pieces + paid_all fs

abbrev paid_next : Follows → ℕ
paid_next (Ends o) = 0
paid_next (Continues c) = paid c.frame.pieces + paid_all c.below

-- the device writes of atomic writes
abbrev pub written : List Write → ℕ
written ws = moves (write_items ws)

written_append : (vs ws : List Write) → written (vs ++ ws) ≡ written vs + written ws
written_append [] ws = omega arith
written_append (v ∷ vs) ws = let rest = written_append vs ws in omega (arith, rest)

-- the number of atomic writes
abbrev pub atomic : List Write → ℕ
atomic ws = atomic_writes (write_items ws)

atomic_append : (vs ws : List Write) → atomic (vs ++ ws) ≡ atomic vs + atomic ws
atomic_append [] ws = omega arith
atomic_append (v ∷ vs) ws = let rest = atomic_append vs ws in omega (arith, rest)

one_written : (n : List ℕ) (o : Option (List (ℕ × List ℕ))) → atomic (write_of n o) ≤ 1
one_written n None = omega arith
one_written n (Some ps) = omega arith

-- 1 for an instruction, 0 for a fetch that abends
abbrev counts : Turn → ℕ
counts t = cond (is_some t.ins) 1 0

instructions_first : (t : Turn) (ts : List Turn) → instructions (t ∷ ts) ≡ counts t + instructions ts
instructions_first t ts = grind arith

paid_most : (ps : List (ℕ × List ℕ)) → paid ps ≤ 69
paid_most [] = omega arith
paid_most (p ∷ ps) = omega arith

-- a turn pays for the writes of its instruction, and leaves what frames have paid to them
record ActPays (ch : Chain) (t : Acted) : Type 0 where
  paid : written t.writes + paid_next t.follows ≤ paid_next (Continues ch) + 78 * t.count
  one : atomic t.writes ≤ t.count
  same : counts t.turn ≡ t.count

-- ---- what follows an instruction has paid no more

cond_pays : (s : Chain) (b : Bool) (o p : Outcome) → paid_next (cond b (Ends o) (Ends p)) ≤ paid_next (Continues s)
cond_pays s true o p = omega arith
cond_pays s false o p = omega arith

exited_pays : (s : Chain) (fs : List Frame) → s.below ≡ fs → paid_next (after_exit s fs) ≤ paid_next (Continues s)
exited_pays s [] e = cond_pays s (nat_lt 1024 (la_of s.public)) _ _
exited_pays s (f ∷ fs) e = let same : paid_all s.below ≡ paid f.pieces + paid_all fs = ap paid_all e in omega (arith, same)

called_by : (s : Chain) (n : List ℕ) (b : Bool) (a : App) → paid_next (Continues (called_app b s n a)) ≤ paid_next (Continues s)
called_by s n true a = omega arith
called_by s n false a = omega arith

called_pays : (s : Chain) (n : List ℕ) (o : Option App) → paid_next (Continues (chain_after_call s n o)) ≤ paid_next (Continues s)
called_pays s n None = omega arith
called_pays s n (Some a) = called_by s n (is_active n s.frame s.below || nat_le 4 (depth_of s)) a

follows_pays : (s : Chain) (t : Then) → paid_next (follows s t) ≤ paid_next (Continues s)
follows_pays s t = grind (arith, exited_pays, called_pays)

-- ---- turns

none_written : (n : List ℕ) (o : Option (List (ℕ × List ℕ))) → o ≡ None → written (write_of n o) ≡ 0
none_written n o e = ap (λ (p : Option (List (ℕ × List ℕ))). written (write_of n p)) e

few_written : (n : List ℕ) (o : Option (List (ℕ × List ℕ))) → words_in o ≤ 33 → written (write_of n o) ≤ 78
few_written n None h = omega arith
few_written n (Some ps) h = omega (arith, h)

most_written : (n : List ℕ) (o : Option (List (ℕ × List ℕ))) → words_in o ≤ 64 → written (write_of n o) ≤ 147
most_written n None h = omega arith
most_written n (Some ps) h = omega (arith, h)

committed : (n : List ℕ) (ps : List (ℕ × List ℕ)) (o : Option (List (ℕ × List ℕ))) → words_in o ≤ 64 → (ps ≡ [] → o ≡ None) → written (write_of n o) ≤ paid ps + 78
committed n [] o h none = let zero-writes : written (write_of n o) ≡ 0 = none_written n o (none refl) in omega (arith, zero-writes)
committed n (p ∷ ps) o h none = let most : written (write_of n o) ≤ 147 = most_written n o h in omega (arith, most)

pays : (n : List ℕ) (most : ℕ) (pieces : List (ℕ × List ℕ)) (e : Effect) → most ≤ 64 → words_in e.changes ≤ most → Pays most pieces e → written (write_of n e.changes) + paid e.frame.pieces ≤ paid pieces + 78
pays n most pieces e high words (inl same) = grind (arith, few_written, paid)
pays n most pieces e high words (inr (inl none)) = grind (arith, none_written, paid, paid_most)
pays n most pieces e high words (inr (inr commit)) = grind (arith, paid, committed)

done_pays : (ch : Chain) (i : Ins) (at : ℕ) → FewChain ch → (let f = frame_at ch.frame at in DoneRowFacts i f ch.public (around ch)) → ActPays ch (row_turn ch i (Does (effect i (frame_at ch.frame at) ch.public (around ch))))
done_pays ch i at h p =
    let f = frame_at ch.frame at in
    let x = around ch in
    let d = effect i f ch.public x in
    let words : words_in d.effect.changes ≤ most_words i = (row_few i f ch.public x p).words (λ e. h.frame.held.few) in
    let less : paid_next (follows (chain_after_effect ch d.effect) d.next) ≤ paid d.effect.frame.pieces + paid_all ch.below = follows_pays (chain_after_effect ch d.effect) d.next in
    let one = pays ch.frame.name (most_words i) ch.frame.pieces d.effect (most_64 i) words (effect_pays i f ch.public x) in
    record { paid = omega (arith, less, one); one = one_written ch.frame.name d.effect.changes; same = refl }

judged_pays : (ch : Chain) (i : Ins) (at : ℕ) (o : Option Abend) → first_cause (causes i (frame_at ch.frame at) ch.public (around ch)) ≡ o → FewChain ch → Shaped i
    → ActPays ch (row_turn ch i (row_end o (effect i (frame_at ch.frame at) ch.public (around ch))))
judged_pays ch i at (Some a) e h shaped = record { paid = omega arith; one = omega arith; same = refl }
judged_pays ch i at None e h shaped = grind (arith, done_pays, reported_any, reported_by, none_holds)

row_pays : (ch : Chain) (i : Ins) (at : ℕ) → FewChain ch → Shaped i → ActPays ch (row_turn ch i (row i (frame_at ch.frame at) ch.public (around ch)))
unfolding row
row_pays ch i at h shaped = judged_pays ch i at (first_cause (causes i (frame_at ch.frame at) ch.public (around ch))) refl h shaped

fetched_pays : (ch : Chain) (r : Result (Ins × ℕ) DecodeFault) → instruction_at (code_in (lookup ch.map ch.frame.name)) ch.frame.at ≡ r → FewChain ch → ActPays ch (turn_of_fetch ch r)
fetched_pays ch (Err Undefined) e h = record { paid = omega arith; one = omega arith; same = refl }
fetched_pays ch (Err Past) e h = record { paid = omega arith; one = omega arith; same = refl }
fetched_pays ch (Ok i) e h = row_pays ch i.0 i.1 h (h.coded ch.frame.name ch.frame.at i.0 i.1 e)

acted_pays : (ch : Chain) → FewChain ch → ActPays ch (turn_of_chain ch)
unfolding turn_of_chain
acted_pays ch h = fetched_pays ch (instruction_at (code_in (lookup ch.map ch.frame.name)) ch.frame.at) refl h

-- ---- runs

-- a run makes at most 78 device writes and one atomic write an instruction, beside `least`
pub record RanFew (budget least : ℕ) (r : Ran) : Type 0 where
  pub writes : written r.writes ≤ least + 78 * instructions r.turns
  pub atomic : atomic r.writes ≤ instructions r.turns
  pub count : instructions r.turns ≤ budget

ran_on_few : (n : ℕ) (ch : Chain) (t : Acted) (session : List ℕ) (f : Follows) (rest : Chain → Ran) → t.count ≤ 1 → written t.writes + paid_next f ≤ paid_next (Continues ch) + 78 * t.count → atomic t.writes ≤ t.count → counts t.turn ≡ t.count
    → NextFits ch f → FewNext f → ((c : Chain) → ChainFits c → FewChain c → RanFew n (paid_next (Continues c)) (rest c)) → RanFew (suc n) (paid_next (Continues ch)) (run_after_turn t session f rest)
ran_on_few n ch t session (Ends o) rest one paid each same next few more = grind (arith, instructions_first t.turn [])
ran_on_few n ch t session (Continues c) rest one paid each same next few more =
    let r : RanFew n (paid_next (Continues c)) (rest c) = more c next.1 few in
    let first : instructions (t.turn ∷ (rest c).turns) ≡ counts t.turn + instructions (rest c).turns = instructions_first t.turn (rest c).turns in
    let all : written (t.writes ++ (rest c).writes) ≡ written t.writes + written (rest c).writes = written_append t.writes (rest c).writes in
    let later = r.writes in
    let both : atomic (t.writes ++ (rest c).writes) ≡ atomic t.writes + atomic (rest c).writes = atomic_append t.writes (rest c).writes in
    let others = r.atomic in
    let within = r.count in
    record { writes = omega (arith, first, all, paid, same, later); atomic = omega (arith, first, same, each, both, others); count = omega (arith, first, same, one, within) }

ran_few : (n : ℕ) (ch : Chain) → ChainFits ch → FewChain ch → RanFew n (paid_next (Continues ch)) (run_of_chain n ch)
unfolding run_of_chain
ran_few zero ch fits h = record { writes = omega arith; atomic = omega arith; count = omega arith }
ran_few (suc n) ch fits h =
    let t : ActPays ch (turn_of_chain ch) = acted_pays ch h in
    ran_on_few n ch (turn_of_chain ch) _ (turn_of_chain ch).follows (λ c. run_of_chain n c) (turn_count ch) t.paid t.one t.same (acted_fits ch fits).next (acted_few ch fits h).next (λ c k l. ran_few n c k l)

-- the device writes of a command to an application, and the instructions that it runs
pub run_few : (m : List (List ℕ × App)) (first session : List ℕ) (apdu : ApduParts) (budget : ℕ) → AreCoded m → length first ≤ 16 → RanFew budget 0 (run m first session apdu budget)
run_few m first session apdu budget good short =
    ran_few budget (start m first session apdu) (start_fits m first session apdu (lookup m first) refl) (start_few m first session apdu (lookup m first) refl good short)
