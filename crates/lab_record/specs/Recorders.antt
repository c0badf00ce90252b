-- What a recorder holds, and that it recorded instructions.
use Rattle.std.specs.Prelude.{◌≡◌, ℕ, Bool, true, false, not, nat_eq, List, [], ◌∷◌, ◌++◌, length, is_some, bytes_eq, refl}
use Rattle.std.proofs.Common.{◌∙◌, ap, sym}
use Rattle.mc_apdu.specs.model_machine.specs.Chain.{turn_of}
use Rattle.mc_machine.specs.declared.outcome.Turn.{Turn}
use Rattle.mc_machine.specs.Turns.{turn_value}
use Rattle.lab_app_rules.specs.declared.rules.Rules.{Rules}
use Rattle.lab_record.specs.declared.recorder.Recorder.{Recorder}
use Rattle.lab_record.specs.Logs.{Log, LogRules, Marks, Sight, log_turns, public_seen, values_of}

-- the rules as a log needs them
abbrev pub log_rules : Rules → LogRules
log_rules r = record { ons = r.ons.items; sums = not (nat_eq (length r.sums.items) 0); never = is_some r.never }

-- the log of a recorder
abbrev pub log_of : Recorder → Log
log_of r = record { turns = r.turns; deeds = values_of r.deeds.items }

-- its marks
abbrev pub marks_of : Recorder → Marks
marks_of r = record { opens = r.opens; log = log_of r }

-- a recorder has the same application, the same public segment and the same protection, and it is short of memory or not
-- as before
pub record Stays (q r : Recorder) : Type 0 where
  pub rules : r.rules ≡ q.rules
  pub aid : r.aid ≡ q.aid
  pub public : r.public ≡ q.public
  pub opens : r.opens ≡ q.opens
  pub is_short : r.is_short ≡ q.is_short

-- A recorder recorded what is seen of some instructions, unless it is out of memory.
pub record Recorded (q : Recorder) (xs : List Sight) (r : Recorder) : Type 0 where
  pub rules : r.rules ≡ q.rules
  pub aid : r.aid ≡ q.aid
  pub had : r.is_short ≡ false → q.is_short ≡ false
  pub marks : r.is_short ≡ false → marks_of r ≡ log_turns (log_rules q.rules.now) q.aid.now xs (marks_of q)

-- a recorder looked at the public segment before an instruction, if it is one of its application, unless it is out of memory
pub record LooksAt (q : Recorder) (own : Bool) (public : List ℕ) (r : Recorder) : Type 0 where
  pub rules : r.rules ≡ q.rules
  pub aid : r.aid ≡ q.aid
  pub had : r.is_short ≡ false → q.is_short ≡ false
  pub marks : marks_of r ≡ marks_of q
  pub seen : own ≡ true → r.is_short ≡ false → r.public.items ≡ public_seen (log_rules q.rules.now) public

-- what is seen is an instruction of a recorder, by whether it is one of its application
pub record IsSight (q : Recorder) (turn : Turn) (own : Bool) (x : Sight) : Type 0 where
  pub is : (let t = (turn_of x.left x.chain).turn in t ≡ turn_value turn t.wrote)
  pub named : own ≡ bytes_eq x.chain.frame.name q.aid.now
  pub public : own ≡ true → q.is_short ≡ false → q.public.items ≡ public_seen (log_rules q.rules.now) x.chain.public

-- ---- their laws

-- instructions after instructions
pub logged_on : (r : LogRules) (name : List ℕ) (xs ys : List Sight) (m : Marks) → log_turns r name (xs ++ ys) m ≡ log_turns r name ys (log_turns r name xs m)
logged_on r name [] ys m = refl
logged_on r name (x ∷ xs) ys m = logged_on r name xs ys _

-- a recorder that recorded nothing
pub recorded_none : (q : Recorder) → Recorded q [] q
recorded_none q = record { rules = refl; aid = refl; had = λ e. e; marks = λ e. refl }

-- instructions are recorded after others
pub recorded_on : (q r s : Recorder) (xs ys : List Sight) → Recorded q xs r → Recorded r ys s → Recorded q (xs ++ ys) s
recorded_on q r s xs ys first rest =
    record {
      rules = rest.rules ∙ first.rules;
      aid = rest.aid ∙ first.aid;
      had = λ e. first.had (rest.had e);
      marks = λ e.
          rest.marks e
          ∙ ap (λ u. log_turns (log_rules u.now) r.aid.now ys (marks_of r)) first.rules
          ∙ ap (λ a. log_turns (log_rules q.rules.now) a.now ys (marks_of r)) first.aid
          ∙ ap (log_turns (log_rules q.rules.now) q.aid.now ys) (first.marks (rest.had e))
          ∙ sym (logged_on (log_rules q.rules.now) q.aid.now xs ys (marks_of q));
    }
