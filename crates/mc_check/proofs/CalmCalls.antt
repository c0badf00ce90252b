-- Calls of accepted code: the frame goes on at the routine, with the call among its open ones, or after a call that is
-- not taken.
use Rattle.std.proofs.Common.{◌≡◌, ℕ, ◌+◌, Bool, true, false, cond, List, take, drop, Option, Some, None, refl, ap, subst, ◌∙◌, inl, inr, arith}
use Rattle.std.specs.Prelude.{◌⊎◌, ◌==◌, not}
use Rattle.std.proofs.lemmas.Bool.{false_from_ne_true, eqb-true}
use Rattle.law_family.specs.model_machine.specs.declared.instruction.Ins.{Ins}
use Rattle.law_family.specs.model_machine.specs.declared.instruction.Ins.TheVariants as ins
use Rattle.law_family.specs.model_machine.specs.declared.machine.Abend.{Abend}
use Rattle.law_family.specs.model_device.specs.Bytes.{bytes2, num}
use Rattle.law_family.specs.model_machine.specs.Frame.{Frame, dynamic_base, top, frame_after_pop, frame_after_entry}
use Rattle.law_family.specs.model_machine.specs.Primitives.{Around, Done, Goes, effect_and_next, frame_effect}
use Rattle.law_family.specs.model_machine.specs.Row.{causes, effect, first_cause, row_end, row, Abends, Does, holds}
use Rattle.law_family.specs.model_machine.specs.Row as rows
use Rattle.law_family.specs.model_machine.specs.Chain.{frame_at}
use Rattle.model_stack.specs.StackRows.{call_target, is_conditional}
use Rattle.model_stack.specs.StackShape.{Routine, At, fact, Reached, calls, passes, Depth, called, Accepts, Gives}
use Rattle.mc_check.specs.Standing.{OpenCalls, call}
use Rattle.mc_check.proofs.AcceptedFacts.{GoodAt, HasStackRoom, HasBases, room_at, gives_at}
use Rattle.mc_check.proofs.OpenCalls.{IsAtFact, open_front, open_depth, spliced_above, spliced_words}
use Rattle.law_family.specs.model_device.proofs.ListLemmas.{length_splice}

-- ---- the end of a row

-- the cause of a row that abends, and the effect of one that is done
judged_cause : (o : Option Abend) (d : Done) (c : Abend) → row_end o d ≡ Abends c → o ≡ Some c
judged_cause (Some a) d c e = let same : a ≡ c = cc e in ap (λ (b : Abend). Some b) same
judged_cause None d c e = absurd (cc e)

judged_done : (o : Option Abend) (d done : Done) → row_end o d ≡ Does done → d ≡ done
judged_done (Some a) d done e = absurd (cc e)
judged_done None d done e = cc e

pub row_cause : (i : Ins) (f : Frame) (public : List ℕ) (x : Around) (c : Abend) → row i f public x ≡ Abends c → first_cause (causes i f public x) ≡ Some c
unfolding row
row_cause i f public x c e = judged_cause (first_cause (causes i f public x)) (effect i f public x) c e

pub row_done : (i : Ins) (f : Frame) (public : List ℕ) (x : Around) (d : Done) → row i f public x ≡ Does d → effect i f public x ≡ d
unfolding row
row_done i f public x d e = judged_done (first_cause (causes i f public x)) (effect i f public x) d e

-- ---- what a call leaves

-- the frame has entered the routine, or it goes on after a call under a condition
pub record CallEnd (i : Ins) (q : ℕ) (f : Frame) (d : Done) : Type 0 where
  pub frame : (d.effect.frame ≡ frame_after_entry f q) ⊎ ((d.effect.frame ≡ f) × (is_conditional i ≡ true))
  pub next : d.next ≡ Goes

-- a condition that does not hold is not ALL
not_always : (k : ℕ) (f : Frame) → holds k f ≡ false → not (k == 7) ≡ true
not_always k f h = ap not (false_from_ne_true (k == 7) (λ e. let same : holds 7 f ≡ false = subst (λ (n : ℕ). holds n f ≡ false) (eqb-true k 7 e) h in absurd (cc same)))

called_end : (k to q : ℕ) (f : Frame) (public : List ℕ) (on_stack taken : Bool) → holds k f ≡ taken → cond on_stack None (Some to) ≡ Some q
    → CallEnd (ins.Call k to) q f (effect_and_next (frame_effect (rows.frame_after_call taken (cond on_stack (frame_after_pop f 2) f) (cond on_stack (num (top f 2)) to)) public))
called_end k to q f public true taken h e = absurd (cc e)
called_end k to q f public false true h e = let same : to ≡ q = cc e in record { frame = inl (ap (λ (n : ℕ). frame_after_entry f n) same); next = refl }
called_end k to q f public false false h e = record { frame = inr (refl, not_always k f h); next = refl }

effect_end : (i : Ins) (q : ℕ) (f : Frame) (public : List ℕ) (x : Around) → call_target i ≡ Some q → CallEnd i q f (effect i f public x)
unfolding effect
effect_end (ins.Call k to) q f public x e = called_end k to q f public (k == 0) (holds k f) refl e
effect_end i q f public x e = absurd (cc e)

pub call_end : (i : Ins) (q : ℕ) (f : Frame) (public : List ℕ) (x : Around) (d : Done) → call_target i ≡ Some q → row i f public x ≡ Does d → CallEnd i q f d
call_end i q f public x d e done = subst (λ (t : Done). CallEnd i q f t) (row_done i f public x d done) (effect_end i q f public x e)

-- ---- frames after calls

module _ (code : List ℕ) (session most : ℕ) (accepts : Accepts code session most) (bases : HasBases code) where
  module _ (r : Routine) (b h : ℕ) (f : Frame) (here : IsAtFact code session r b h f) (i : Ins) (next q : ℕ) (good : GoodAt code (fact r f.at h) i next) (target : call_target i ≡ Some q) where
    depth : Depth code r b
    depth = open_depth here.opened

    gives : Gives code (fact r f.at h) i next
    gives = gives_at code session most accepts bases (fact r f.at h) b i next here.reached depth good

    -- the call opens in the bytes that it pushed
    pub call_opened : (bytes : List ℕ) → take b (drop session f.dyn) ≡ take b bytes → take 2 (drop (b + h) bytes) ≡ bytes2 f.lb → take 2 (drop (b + h + 2) bytes) ≡ bytes2 next → OpenCalls code session bytes (At q) (b + h + 4)
    call_opened bytes same lb at =
        let where_lb : f.lb ≡ dynamic_base + session + b = here.stands.lb in
        call i next (open_front bytes here.opened same) here.reached gives target (lb ∙ ap bytes2 where_lb) at

    pub routine_reached : Reached code (fact (At q) q 0)
    routine_reached = calls i next q here.reached gives target

    -- room for the LB and the return address of the call
    pub call_room : HasStackRoom session most (b + h + 4) 0
    call_room =
        let begins : Depth code (At q) (b + h + 4) = called depth (record { place = f.at; reached = here.reached; call = i; stands = (next, good.decoded); target = target }) in
        room_at code session most accepts bases (fact (At q) q 0) (b + h + 4) routine_reached begins

    -- the frame in the routine
    pub entered_at : IsAtFact code session (At q) (b + h + 4) 0 (frame_after_entry (frame_at f next) q)
    entered_at = grind (arith, call_room, next, spliced_above, spliced_words, length_splice, call_opened, routine_reached)

    -- the frame after a call that is not taken
    pub passed_at : is_conditional i ≡ true → IsAtFact code session r b h (frame_at f next)
    passed_at conditional =
        let s = here.stands in
        record {
          stands = record { session = s.session; code_len = s.code_len; dyn = s.dyn; fixed = s.fixed; lb = s.lb; dt = s.dt; room = s.room };
          opened = here.opened;
          reached = passes i next q here.reached gives target conditional;
        }
