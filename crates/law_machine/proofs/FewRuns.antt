-- Each atomic write of a run touches at most 64 words.
use Rattle.std.proofs.Common.{◌≡◌, ℕ, zero, suc, ◌≤◌, Bool, true, false, cond, List, [], ◌∷◌, length, Option, Some, None, Result, Ok, Err, refl, sym, ap, subst, ◌∙◌, arith}
use Rattle.std.specs.Prelude.{⊤, ◌||◌, nat_lt, nat_le, bytes_eq, unwrap_or, IfSome}
use Rattle.std.specs.List.{AllByRecursion}
use Rattle.model_card.specs.model_machine.specs.declared.instruction.Ins.{Ins}
use Rattle.model_card.specs.model_machine.specs.declared.instruction.DecodeFault.{DecodeFault}
use Rattle.model_card.specs.model_machine.specs.declared.instruction.DecodeFault.TheVariants.{Undefined, Past}
use Rattle.model_card.specs.model_machine.specs.declared.machine.Abend.{Abend}
use Rattle.model_card.specs.model_device.specs.Bytes.{lookup, insert, zeros}
use Rattle.model_card.specs.model_machine.specs.Apdu.{ApduParts}
use Rattle.model_card.specs.model_machine.specs.Code.{Shaped, instruction_at}
use Rattle.model_card.specs.model_device.specs.Card.{App}
use Rattle.model_card.specs.model_machine.specs.Frame.{Frame, new_frame, la_of}
use Rattle.model_card.specs.model_machine.specs.Primitives.{Then, Delegates}
use Rattle.model_card.specs.model_machine.specs.Row.{Does, causes, effect, first_cause, row_end, row}
use Rattle.model_card.specs.model_machine.specs.Chain.{Outcome, Write, Chain, Ran, Acted, Follows, Continues, Ends, code_in, with_pieces, changed_app, map_changed, write_of, chain_after_effect, is_active, depth_of, called_app, chain_after_call, after_exit, follows, delegator_in, row_turn, turn_of_fetch, frame_at, around, turn_of_chain, run_after_turn, run_of_chain, start_app, start, no_app}
use Rattle.model_card.specs.model_device.proofs.ImageLemmas.{all_append}
use Rattle.law_machine.specs.FewWords.{HoldsFew, words_in, most_words}
use Rattle.law_machine.specs.FewRuns.{AreCoded, FewRunsLaw}
use Rattle.law_rows.proofs.Keeping.{effect_keeps}
use Rattle.law_machine.proofs.RowWords.{none_holds, DoneRowFacts, row_few, held_after, reported_any, delegates_short, most_64}
use Rattle.law_machine.proofs.AppSizes.{SameSizes, Limited, limited_from, are_limited, limited_same}
use Rattle.law_machine.proofs.RunSizes.{ChainFits, changed_by, NextFits, acted_fits, start_fits}
use Rattle.model_card.specs.model_device.proofs.MapLemmas.{same_name, lookup_inserted_lem, lookup_beside}
use Rattle.model_card.specs.model_device.proofs.PieceLemmas.{none_touched}

-- ---- code

-- the code of each application stays
abbrev SameCode : List (List ℕ × App) → List (List ℕ × App) → Type 0
SameCode m d = (n : List ℕ) → code_in (lookup d n) ≡ code_in (lookup m n)

code_changed : (o : Option App) (m : List (List ℕ × App)) (n : List ℕ) (ps : List (ℕ × List ℕ)) → lookup m n ≡ o → SameCode m (changed_app m n ps o)
code_changed None m n ps e k = refl
code_changed (Some a) m n ps e k = by (bytes_eq n k) refl
  where
    by : (b : Bool) → bytes_eq n k ≡ b → code_in (lookup (insert m n (with_pieces ps a)) k) ≡ code_in (lookup m k)
    by true is =
        subst (λ (j : List ℕ). code_in (lookup (insert m n (with_pieces ps a)) j) ≡ code_in (lookup m j)) (same_name n k is)
        (ap code_in (lookup_inserted_lem m n (with_pieces ps a)) ∙ sym (ap code_in e))
    by false is = ap code_in (lookup_beside m n (with_pieces ps a) k is)

code_kept : (m : List (List ℕ × App)) (n : List ℕ) (o : Option (List (ℕ × List ℕ))) → SameCode m (map_changed m n o)
code_kept m n None = λ k. refl
code_kept m n (Some ps) = code_changed (lookup m n) m n ps refl

-- ---- chains

-- a frame within the limits, whose name has at most 16 bytes
pub record FewFrame (f : Frame) : Type 0 where
  pub held : HoldsFew f
  pub name : length f.name ≤ 16

-- each frame is within the limits, with a name of at most 16 bytes
abbrev pub AllFew : List Frame → Type 0
AllFew [] = ⊤
AllFew (f ∷ fs) = FewFrame f × AllFew fs

-- each instruction of an application's code is within its ranges
abbrev pub Coded : List (List ℕ × App) → Type 0
Coded m = (n : List ℕ) (at : ℕ) (i : Ins) (next : ℕ) → instruction_at (code_in (lookup m n)) at ≡ Ok (i, next) → Shaped i

-- a chain of such frames, over applications within the limits whose code is bytes
pub record FewChain (ch : Chain) : Type 0 where
  pub frame : FewFrame ch.frame
  pub below : AllFew ch.below
  pub limited : Limited ch.map
  pub coded : Coded ch.map

coded_moved : (m d : List (List ℕ × App)) → SameCode m d → Coded m → Coded d
coded_moved m d same h n at i next e = h n at i next (subst (λ (c : List ℕ). instruction_at c at ≡ Ok (i, next)) (same n) e)

-- a write touches at most 64 words
abbrev pub FewOfWrite : Write → Type 0
FewOfWrite w = w.words ≤ 64

-- what follows a turn is within the limits, if the run goes on
abbrev pub FewNext : Follows → Type 0
FewNext (Ends o) = ⊤
FewNext (Continues c) = FewChain c

-- a turn writes few words at a time, and what follows it is within the limits
pub record ActFew (t : Acted) : Type 0 where
  pub writes : AllByRecursion FewOfWrite t.writes
  pub next : FewNext t.follows

new_few : (n : List ℕ) (a : App) (session : List ℕ) → length n ≤ 16 → length a.fixed ≤ 4096 → FewFrame (new_frame n (length a.code) a.deny a.fixed session)
new_few n a session short small = record { held = record { fixed = small; inside = tt; few = none_touched }; name = short }

cond_ends : (b : Bool) (o p : Outcome) → FewNext (cond b (Ends o) (Ends p))
cond_ends true o p = tt
cond_ends false o p = tt

exited_few : (s : Chain) (fs : List Frame) → FewChain s → AllFew fs → FewNext (after_exit s fs)
exited_few s [] h a = cond_ends (nat_lt 1024 (la_of s.public)) _ _
exited_few s (f ∷ fs) h a = record { frame = a.0; below = a.1; limited = h.limited; coded = h.coded }

reported_few : (s : Chain) (public : List ℕ) → FewChain s → FewChain (record s { public = public })
reported_few s public h = record { frame = h.frame; below = h.below; limited = h.limited; coded = h.coded }

called_by : (s : Chain) (n : List ℕ) (b : Bool) (a : App) → lookup s.map n ≡ Some a → length n ≤ 16 → FewChain s → FewChain (called_app b s n a)
called_by s n true a e short h = reported_few s _ h
called_by s n false a e short h =
    record { frame = new_few n a (zeros a.session) short (are_limited s.map h.limited n a e); below = (h.frame, h.below); limited = h.limited; coded = h.coded }

called_few : (s : Chain) (n : List ℕ) (o : Option App) → lookup s.map n ≡ o → length n ≤ 16 → FewChain s → FewChain (chain_after_call s n o)
called_few s n None e short h = reported_few s _ h
called_few s n (Some a) e short h = called_by s n (is_active n s.frame s.below || nat_le 4 (depth_of s)) a e short h

follows_few : (s : Chain) (t : Then) → ((n : List ℕ) → t ≡ Delegates n → length n ≤ 16) → FewChain s → FewNext (follows s t)
follows_few s t short h = grind (arith, exited_few, called_few)

-- ---- turns

-- the name of the frame that delegated has at most 16 bytes
pub reported_by : (fs : List Frame) → AllFew fs → IfSome (delegator_in fs) (λ n. length n ≤ 16)
reported_by [] a = tt
reported_by (f ∷ fs) a = a.0.name

written_few : (n : List ℕ) (o : Option (List (ℕ × List ℕ))) → words_in o ≤ 64 → AllByRecursion FewOfWrite (write_of n o)
written_few n None h = tt
written_few n (Some ps) h = (h, tt)

done_few : (ch : Chain) (i : Ins) (at : ℕ) → ChainFits ch → FewChain ch → (let f = frame_at ch.frame at in DoneRowFacts i f ch.public (around ch)) → ActFew (row_turn ch i (Does (effect i (frame_at ch.frame at) ch.public (around ch))))
done_few ch i at fits h p =
    let f = frame_at ch.frame at in
    let x = around ch in
    let d = effect i f ch.public x in
    let k = effect_keeps i f ch.public x in
    let held : HoldsFew f = record { fixed = h.frame.held.fixed; inside = h.frame.held.inside; few = h.frame.held.few } in
    let m : List (List ℕ × App) = map_changed ch.map ch.frame.name d.effect.changes in
    let same : SameSizes ch.map m = changed_by ch.map ch.frame.name (length ch.frame.fixed) d.effect.changes fits.frame.fixed (k.changes held.inside) in
    let s : FewChain (chain_after_effect ch d.effect) =
    record {
      frame = record { held = held_after i f ch.public x p held; name = subst (λ (n : List ℕ). length n ≤ 16) (sym k.name) h.frame.name };
      below = h.below;
      limited = limited_same ch.map m same h.limited;
      coded = coded_moved ch.map m (code_kept ch.map ch.frame.name d.effect.changes) h.coded;
    }
    in
    let most : most_words i ≤ 64 = most_64 i in
    let words : words_in d.effect.changes ≤ most_words i = (row_few i f ch.public x p).words (λ e. held.few) in
    record {
      writes = written_few ch.frame.name d.effect.changes (omega arith);
      next = follows_few (chain_after_effect ch d.effect) d.next (λ n e. delegates_short i f ch.public x p.none n e) s;
    }

judged_few : (ch : Chain) (i : Ins) (at : ℕ) (o : Option Abend) → first_cause (causes i (frame_at ch.frame at) ch.public (around ch)) ≡ o → ChainFits ch → FewChain ch → Shaped i
    → ActFew (row_turn ch i (row_end o (effect i (frame_at ch.frame at) ch.public (around ch))))
judged_few ch i at (Some a) e fits h shaped = record { writes = tt; next = tt }
judged_few ch i at None e fits h shaped =
    let f = frame_at ch.frame at in
    done_few ch i at fits h
    (record {
      shaped = shaped;
      reported = reported_any i (around ch).delegator (reported_by ch.below h.below);
      none = none_holds (causes i f ch.public (around ch)) e;
    })

row_turn_few : (ch : Chain) (i : Ins) (at : ℕ) → ChainFits ch → FewChain ch → Shaped i → ActFew (row_turn ch i (row i (frame_at ch.frame at) ch.public (around ch)))
unfolding row
row_turn_few ch i at fits h shaped = judged_few ch i at (first_cause (causes i (frame_at ch.frame at) ch.public (around ch))) refl fits h shaped

fetched_few : (ch : Chain) (r : Result (Ins × ℕ) DecodeFault) → instruction_at (code_in (lookup ch.map ch.frame.name)) ch.frame.at ≡ r → ChainFits ch → FewChain ch → ActFew (turn_of_fetch ch r)
fetched_few ch (Err Undefined) e fits h = record { writes = tt; next = tt }
fetched_few ch (Err Past) e fits h = record { writes = tt; next = tt }
fetched_few ch (Ok i) e fits h = row_turn_few ch i.0 i.1 fits h (h.coded ch.frame.name ch.frame.at i.0 i.1 e)

-- a turn of a chain within the limits writes few words, and what follows it is within them
pub acted_few : (ch : Chain) → ChainFits ch → FewChain ch → ActFew (turn_of_chain ch)
unfolding turn_of_chain
acted_few ch fits h = fetched_few ch (instruction_at (code_in (lookup ch.map ch.frame.name)) ch.frame.at) refl fits h

-- ---- runs

ran_on_few : (ch : Chain) (t : Acted) (session : List ℕ) (f : Follows) (rest : Chain → Ran) → AllByRecursion FewOfWrite t.writes → NextFits ch f → FewNext f
    → ((c : Chain) → ChainFits c → FewChain c → AllByRecursion FewOfWrite (rest c).writes) → AllByRecursion FewOfWrite (run_after_turn t session f rest).writes
ran_on_few ch t session (Ends o) rest writes next few more = writes
ran_on_few ch t session (Continues c) rest writes next few more = all_append FewOfWrite t.writes (rest c).writes writes (more c next.1 few)

ran_few : (n : ℕ) (ch : Chain) → ChainFits ch → FewChain ch → AllByRecursion FewOfWrite (run_of_chain n ch).writes
unfolding run_of_chain
ran_few zero ch fits h = tt
ran_few (suc n) ch fits h =
    let t : ActFew (turn_of_chain ch) = acted_few ch fits h in
    ran_on_few ch (turn_of_chain ch) _ (turn_of_chain ch).follows (λ c. run_of_chain n c) t.writes (acted_fits ch fits).next t.next (λ c k l. ran_few n c k l)

-- a run of an application within the limits begins within them
pub start_few : (m : List (List ℕ × App)) (first session : List ℕ) (apdu : ApduParts) (o : Option App) → lookup m first ≡ o → AreCoded m → length first ≤ 16 → FewChain (start_app m first session apdu (unwrap_or o no_app))
start_few m first session apdu None e good short = record { frame = new_few first no_app session short (omega arith); below = tt; limited = limited_from m good.limited; coded = good.shaped }
start_few m first session apdu (Some a) e good short = record { frame = new_few first a session short (good.limited first a e); below = tt; limited = limited_from m good.limited; coded = good.shaped }

-- each atomic write of a run touches at most 64 words
pub few_runs_law : FewRunsLaw
few_runs_law m first session apdu budget good short =
    ran_few budget (start m first session apdu) (start_fits m first session apdu (lookup m first) refl) (start_few m first session apdu (lookup m first) refl good short)
