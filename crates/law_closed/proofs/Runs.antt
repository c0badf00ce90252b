-- Each delegation of a run comes from an application that was on the card when the run began, and that can delegate.
use Rattle.std.proofs.Common.{◌≡◌, ℕ, zero, suc, Bool, true, false, cond, List, [], ◌∷◌, ◌++◌, Option, Some, None, Result, Ok, Err, refl, sym, ap, subst, ◌∙◌, arith}
use Rattle.std.specs.Prelude.{⊤, ◌||◌, nat_lt, nat_le, bytes_eq, unwrap_or}
use Rattle.std.specs.List.{AllByRecursion}
use Rattle.law_family.specs.model_device.specs.Bytes.{lookup, insert}
use Rattle.law_family.specs.model_device.specs.Card.{App}
use Rattle.law_family.specs.model_device.proofs.ImageLemmas.{all_append}
use Rattle.law_family.specs.model_device.proofs.MapLemmas.{same_name, lookup_inserted_lem, lookup_beside}
use Rattle.law_family.specs.model_machine.specs.declared.instruction.DecodeFault.{DecodeFault}
use Rattle.law_family.specs.model_machine.specs.declared.instruction.DecodeFault.TheVariants.{Undefined, Past}
use Rattle.law_family.specs.model_machine.specs.declared.instruction.Ins.{Ins}
use Rattle.law_family.specs.model_machine.specs.declared.machine.Abend.{Abend}
use Rattle.law_family.specs.model_machine.specs.Apdu.{ApduParts}
use Rattle.law_family.specs.model_machine.specs.Code.{instruction_at}
use Rattle.law_family.specs.model_machine.specs.Frame.{Frame, la_of}
use Rattle.law_family.specs.model_machine.specs.Primitives.{Then, Delegates, DelegateTo, Done, is_denied}
use Rattle.law_family.specs.model_machine.specs.Row.{Does, causes, effect, first_cause, row_end, row}
use Rattle.law_family.specs.model_machine.specs.Chain.{Outcome, Chain, Ran, Acted, Follows, Continues, Ends, code_in, with_pieces, changed_app, map_changed, chain_after_effect, chain_session, is_active, depth_of, called_app, chain_after_call, after_exit, follows, pair_of, row_turn, turn_of_fetch, frame_at, around, turn_of_chain, run_after_turn, run_of_chain, start_app, start, no_app, run}
use Rattle.law_family.specs.law_rows.specs.Keeping.{Keeps}
use Rattle.law_family.specs.law_rows.proofs.Keeping.{effect_keeps}
use Rattle.law_family.specs.law_machine.proofs.RowWords.{none_holds}
use Rattle.law_closed.specs.Delegations.{is_decoded_delegation, can_delegate, has_delegation, CanCall}
use Rattle.law_closed.specs.Laws.{DelegatesByCode}
use Rattle.law_closed.proofs.Places.{has_from_place, can_by_place}
use Rattle.law_closed.proofs.OneRow.{row_delegates}

-- ---- what a run leaves of an application

-- the code and the access list of an application
abbrev Facts : Type 0
Facts = Option (List ℕ × ℕ)

abbrev facts : Option App → Option (List ℕ × ℕ)
facts None = None
facts (Some a) = Some (a.code, a.deny)

abbrev SameFacts : List (List ℕ × App) → List (List ℕ × App) → Type 0
SameFacts m d = (n : List ℕ) → facts (lookup d n) ≡ facts (lookup m n)

facts_changed : (o : Option App) (m : List (List ℕ × App)) (n : List ℕ) (ps : List (ℕ × List ℕ)) → lookup m n ≡ o → SameFacts m (changed_app m n ps o)
facts_changed None m n ps e k = refl
facts_changed (Some a) m n ps e k = by (bytes_eq n k) refl
  where
    by : (b : Bool) → bytes_eq n k ≡ b → facts (lookup (insert m n (with_pieces ps a)) k) ≡ facts (lookup m k)
    by true is =
        subst (λ (j : List ℕ). facts (lookup (insert m n (with_pieces ps a)) j) ≡ facts (lookup m j)) (same_name n k is)
        (ap facts (lookup_inserted_lem m n (with_pieces ps a)) ∙ sym (ap facts e))
    by false is = ap facts (lookup_beside m n (with_pieces ps a) k is)

facts_kept : (m : List (List ℕ × App)) (n : List ℕ) (o : Option (List (ℕ × List ℕ))) → SameFacts m (map_changed m n o)
facts_kept m n None = λ k. refl
facts_kept m n (Some ps) = facts_changed (lookup m n) m n ps refl

-- the code of an application, by its facts
abbrev code_by : Option (List ℕ × ℕ) → List ℕ
code_by None = []
code_by (Some s) = s.0

code_facts : (o : Option App) → code_in o ≡ code_by (facts o)
code_facts None = refl
code_facts (Some a) = refl

-- ---- chains

-- the access list of an application, if it is there
abbrev DeniedAs : Option (List ℕ × ℕ) → ℕ → Type 0
DeniedAs None deny = ⊤
DeniedAs (Some s) deny = s.1 ≡ deny

abbrev FrameFits : List (List ℕ × App) → Frame → Type 0
FrameFits m f = DeniedAs (facts (lookup m f.name)) f.deny

abbrev FramesFit : List (List ℕ × App) → List Frame → Type 0
FramesFit m [] = ⊤
FramesFit m (f ∷ fs) = FrameFits m f × FramesFit m fs

-- a chain of a run that began with these applications
record ChainFits (m : List (List ℕ × App)) (ch : Chain) : Type 0 where
  same : SameFacts m ch.map
  frame : FrameFits m ch.frame
  below : FramesFit m ch.below

-- an application that delegates
can_by_facts : (a : App) (deny : ℕ) (code : List ℕ) (at : ℕ) → a.deny ≡ deny → a.code ≡ code → is_decoded_delegation (instruction_at code at) ≡ true → is_denied deny DelegateTo ≡ false → can_delegate a ≡ true
can_by_facts a deny code at d c has free =
    can_by_place a at (subst (λ (z : List ℕ). is_decoded_delegation (instruction_at z at) ≡ true) (sym c) has) (subst (λ (z : ℕ). is_denied z DelegateTo ≡ false) (sym d) free)

calls_by : (m : List (List ℕ × App)) (n : List ℕ) (o : Option App) (deny : ℕ) (code : List ℕ) (at : ℕ) → lookup m n ≡ o → DeniedAs (facts o) deny → code_by (facts o) ≡ code → is_decoded_delegation (instruction_at code at) ≡ true → is_denied deny DelegateTo ≡ false → CanCall m n
calls_by m n None deny code at e d c has free =
    absurd (cc (ap has_delegation c ∙ has_from_place code at has))
calls_by m n (Some a) deny code at e d c has free = record { app = a; found = e; can = can_by_facts a deny code at d c has free }

calls : (m : List (List ℕ × App)) (ch : Chain) → ChainFits m ch → is_decoded_delegation (instruction_at (code_in (lookup ch.map ch.frame.name)) ch.frame.at) ≡ true → is_denied ch.frame.deny DelegateTo ≡ false → CanCall m ch.frame.name
calls m ch h has free = grind (arith, code_facts, calls_by)

-- ---- what follows a turn

abbrev NextFits : List (List ℕ × App) → Follows → Type 0
NextFits m (Ends o) = ⊤
NextFits m (Continues c) = ChainFits m c

cond_ends : (m : List (List ℕ × App)) (b : Bool) (o p : Outcome) → NextFits m (cond b (Ends o) (Ends p))
cond_ends m true o p = tt
cond_ends m false o p = tt

exited_fits : (m : List (List ℕ × App)) (s : Chain) (fs : List Frame) → SameFacts m s.map → FramesFit m fs → NextFits m (after_exit s fs)
exited_fits m s [] same h = cond_ends m (nat_lt 1024 (la_of s.public)) _ _
exited_fits m s (f ∷ fs) same h = record { same = same; frame = h.0; below = h.1 }

called_by : (m : List (List ℕ × App)) (s : Chain) (n : List ℕ) (b : Bool) (a : App) → lookup s.map n ≡ Some a → ChainFits m s → ChainFits m (called_app b s n a)
called_by m s n true a e h = record { same = h.same; frame = h.frame; below = h.below }
called_by m s n false a e h = grind (arith, sym (ap facts e) ∙ h.same n)

called_fits : (m : List (List ℕ × App)) (s : Chain) (n : List ℕ) (o : Option App) → lookup s.map n ≡ o → ChainFits m s → ChainFits m (chain_after_call s n o)
called_fits m s n None e h = record { same = h.same; frame = h.frame; below = h.below }
called_fits m s n (Some a) e h = called_by m s n (is_active n s.frame s.below || nat_le 4 (depth_of s)) a e h

follows_fits : (m : List (List ℕ × App)) (s : Chain) (t : Then) → ChainFits m s → NextFits m (follows s t)
follows_fits m s t h = grind (arith, exited_fits, called_fits)

-- what follows in the first frame, if it does not delegate, is in the first frame
abbrev NextFirst : List ℕ → Follows → Type 0
NextFirst n (Ends o) = ⊤
NextFirst n (Continues c) = (c.below ≡ []) × (c.frame.name ≡ n)

cond_first : (n : List ℕ) (b : Bool) (o p : Outcome) → NextFirst n (cond b (Ends o) (Ends p))
cond_first n true o p = tt
cond_first n false o p = tt

exited_first : (s : Chain) (n : List ℕ) (fs : List Frame) → fs ≡ [] → NextFirst n (after_exit s fs)
exited_first s n [] e = cond_first n (nat_lt 1024 (la_of s.public)) _ _
exited_first s n (f ∷ fs) e = absurd (cc e)

follows_first : (s : Chain) (n : List ℕ) (t : Then) → ((k : List ℕ) → t ≡ Delegates k → ⊥) → s.below ≡ [] → s.frame.name ≡ n → NextFirst n (follows s t)
follows_first s n t never alone is = grind (arith, exited_first)

pairs_none : (n : List ℕ) (t : Then) → ((k : List ℕ) → t ≡ Delegates k → ⊥) → pair_of n t ≡ []
pairs_none n t never = grind arith

pairs_call : (m : List (List ℕ × App)) (n : List ℕ) (t : Then) → ((k : List ℕ) → t ≡ Delegates k → CanCall m n) → AllByRecursion (λ p. CanCall m p.0) (pair_of n t)
pairs_call m n t call = grind arith

-- ---- turns

-- what a turn of the first frame does, if its application cannot delegate
record StaysFirst (n : List ℕ) (t : Acted) : Type 0 where
  none : t.pairs ≡ []
  next : NextFirst n t.follows

record ActCalls (m : List (List ℕ × App)) (ch : Chain) (t : Acted) : Type 0 where
  callers : AllByRecursion (λ p. CanCall m p.0) t.pairs
  next : NextFits m t.follows
  first : ch.below ≡ [] → (CanCall m ch.frame.name → ⊥) → StaysFirst ch.frame.name t

done_calls : (m : List (List ℕ × App)) (ch : Chain) (i : Ins) (d : Done) → ChainFits m ch → d.effect.frame.name ≡ ch.frame.name → d.effect.frame.deny ≡ ch.frame.deny
    → ((k : List ℕ) → d.next ≡ Delegates k → CanCall m ch.frame.name) → ActCalls m ch (row_turn ch i (Does d))
done_calls m ch i d h name deny call =
    let n = ch.frame.name in
    let s : Chain = chain_after_effect ch d.effect in
    let fits : ChainFits m s =
    record {
      same = λ k. facts_kept ch.map n d.effect.changes k ∙ h.same k;
      frame = subst (λ (z : List ℕ). DeniedAs (facts (lookup m z)) d.effect.frame.deny) (sym name) (subst (λ (z : ℕ). DeniedAs (facts (lookup m n)) z) (sym deny) h.frame);
      below = h.below;
    }
    in
    record {
      callers = pairs_call m n d.next call;
      next = follows_fits m s d.next fits;
      first = λ alone cannot. record {
        none = pairs_none n d.next (λ k e. cannot (call k e));
        next = follows_first s n d.next (λ k e. cannot (call k e)) alone name;
      };
    }

judged_calls : (m : List (List ℕ × App)) (ch : Chain) (i : Ins) (at : ℕ) (o : Option Abend) → first_cause (causes i (frame_at ch.frame at) ch.public (around ch)) ≡ o → ChainFits m ch
    → instruction_at (code_in (lookup ch.map ch.frame.name)) ch.frame.at ≡ Ok (i, at)
    → ActCalls m ch (row_turn ch i (row_end o (effect i (frame_at ch.frame at) ch.public (around ch))))
judged_calls m ch i at (Some a) e h is = record { callers = tt; next = tt; first = λ alone cannot. record { none = refl; next = tt } }
judged_calls m ch i at None e h is =
    let f = frame_at ch.frame at in
    let x = around ch in
    let none = none_holds (causes i f ch.public x) e in
    let keeps : Keeps f ch.public (effect i f ch.public x).effect = effect_keeps i f ch.public x in
    done_calls m ch i (effect i f ch.public x) h keeps.name keeps.deny
    (λ k to.
    let d = row_delegates i f ch.public x none k to in
    calls m ch h (ap is_decoded_delegation is ∙ d.0) d.1)

row_calls : (m : List (List ℕ × App)) (ch : Chain) (i : Ins) (at : ℕ) → ChainFits m ch → instruction_at (code_in (lookup ch.map ch.frame.name)) ch.frame.at ≡ Ok (i, at)
    → ActCalls m ch (row_turn ch i (row i (frame_at ch.frame at) ch.public (around ch)))
unfolding row
row_calls m ch i at h is = judged_calls m ch i at (first_cause (causes i (frame_at ch.frame at) ch.public (around ch))) refl h is

fetched_calls : (m : List (List ℕ × App)) (ch : Chain) (r : Result (Ins × ℕ) DecodeFault) → instruction_at (code_in (lookup ch.map ch.frame.name)) ch.frame.at ≡ r → ChainFits m ch → ActCalls m ch (turn_of_fetch ch r)
fetched_calls m ch (Err Undefined) is h = record { callers = tt; next = tt; first = λ alone cannot. record { none = refl; next = tt } }
fetched_calls m ch (Err Past) is h = record { callers = tt; next = tt; first = λ alone cannot. record { none = refl; next = tt } }
fetched_calls m ch (Ok i) is h = row_calls m ch i.0 i.1 h is

acted_calls : (m : List (List ℕ × App)) (ch : Chain) → ChainFits m ch → ActCalls m ch (turn_of_chain ch)
unfolding turn_of_chain
acted_calls m ch h = fetched_calls m ch (instruction_at (code_in (lookup ch.map ch.frame.name)) ch.frame.at) refl h

-- ---- runs

ran_on : (m : List (List ℕ × App)) (t : Acted) (session : List ℕ) (f : Follows) (rest : Chain → Ran) → AllByRecursion (λ p. CanCall m p.0) t.pairs → NextFits m f
    → ((c : Chain) → ChainFits m c → AllByRecursion (λ p. CanCall m p.0) (rest c).pairs) → AllByRecursion (λ p. CanCall m p.0) (run_after_turn t session f rest).pairs
ran_on m t session (Ends o) rest callers next more = callers
ran_on m t session (Continues c) rest callers next more = all_append (λ p. CanCall m p.0) t.pairs (rest c).pairs callers (more c next)

ran_calls : (m : List (List ℕ × App)) (n : ℕ) (ch : Chain) → ChainFits m ch → AllByRecursion (λ p. CanCall m p.0) (run_of_chain n ch).pairs
unfolding run_of_chain
ran_calls m zero ch h = tt
ran_calls m (suc n) ch h =
    let t : ActCalls m ch (turn_of_chain ch) = acted_calls m ch h in
    ran_on m (turn_of_chain ch) (chain_session ch) (turn_of_chain ch).follows (λ c. run_of_chain n c) t.callers t.next (λ c k. ran_calls m n c k)

ran_on_none : (m : List (List ℕ × App)) (first : List ℕ) (t : Acted) (session : List ℕ) (f : Follows) (rest : Chain → Ran) → t.pairs ≡ [] → NextFits m f → NextFirst first f
    → ((c : Chain) → ChainFits m c → c.below ≡ [] → c.frame.name ≡ first → (rest c).pairs ≡ []) → (run_after_turn t session f rest).pairs ≡ []
ran_on_none m first t session (Ends o) rest none next stays more = none
ran_on_none m first t session (Continues c) rest none next stays more = ap (λ (z : List (List ℕ × List ℕ)). z ++ (rest c).pairs) none ∙ more c next stays.0 stays.1

ran_none : (m : List (List ℕ × App)) (first : List ℕ) → (CanCall m first → ⊥) → (n : ℕ) (ch : Chain) → ChainFits m ch → ch.below ≡ [] → ch.frame.name ≡ first → (run_of_chain n ch).pairs ≡ []
unfolding run_of_chain
ran_none m first cannot zero ch h alone is = refl
ran_none m first cannot (suc n) ch h alone is =
    let t : ActCalls m ch (turn_of_chain ch) = acted_calls m ch h in
    let s : StaysFirst ch.frame.name (turn_of_chain ch) = t.first alone (λ k. cannot (subst (CanCall m) is k)) in
    ran_on_none m first (turn_of_chain ch) (chain_session ch) (turn_of_chain ch).follows (λ c. run_of_chain n c) s.none t.next
    (subst (λ (z : List ℕ). NextFirst z (turn_of_chain ch).follows) is s.next) (λ c k a e. ran_none m first cannot n c k a e)

start_fits : (m : List (List ℕ × App)) (first session : List ℕ) (apdu : ApduParts) (o : Option App) → lookup m first ≡ o → ChainFits m (start_app m first session apdu (unwrap_or o no_app))
start_fits m first session apdu None e = record { same = λ n. refl; frame = subst (λ (z : Option App). DeniedAs (facts z) 0) (sym e) tt; below = tt }
start_fits m first session apdu (Some a) e = record { same = λ n. refl; frame = subst (λ (z : Option App). DeniedAs (facts z) a.deny) (sym e) refl; below = tt }

-- each delegation of a run comes from an application that was on the card and can delegate
pub runs_law : (m : List (List ℕ × App)) (first session : List ℕ) (apdu : ApduParts) (budget : ℕ) → DelegatesByCode m first (run m first session apdu budget).pairs
runs_law m first session apdu budget =
    let h : ChainFits m (start m first session apdu) = start_fits m first session apdu (lookup m first) refl in
    record {
      callers = ran_calls m budget (start m first session apdu) h;
      none = λ cannot. ran_none m first cannot budget (start m first session apdu) h refl refl;
    }
