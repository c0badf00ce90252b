-- Plays on a device that refuses writes: of two images that mean the same, and of two that mean one card.
use Rattle.std.proofs.Common.{◌≡◌, ℕ, zero, suc, ◌+◌, ◌-◌, ◌≤◌, Bool, true, false, cond, List, [], ◌∷◌, ◌++◌, Option, Some, None, refl, ap, ◌∙◌, arith}
use Rattle.std.specs.Prelude.{⊤, nat_le, ◌&&◌}
use Rattle.model_play.specs.model_device.specs.Bytes.{zeros}
use Rattle.std.proofs.lemmas.Bool.{leb-true, lt-leb}
use Rattle.std.proofs.lemmas.Bool.Decides.{nat_tests}
use Rattle.model_play.specs.model_device.specs.declared.device.Stop.TheVariants as stop
use Rattle.model_play.specs.model_device.specs.Image.{Journal, which}
use Rattle.model_play.specs.model_device.specs.Layout.{fault}
use Rattle.model_play.specs.model_device.specs.PowerUp.{Base, OnCard, AtFault, base_after_migration, base_of, migration, pending_journal}
use Rattle.model_play.specs.model_device.specs.Card.{Card}
use Rattle.model_play.specs.model_card.specs.Items.{moves, StopAt}
use Rattle.model_play.specs.model_card.specs.Manager.{SessionState}
use Rattle.model_play.specs.DeckGrammar.{DeckCommand, DeckLine}
use Rattle.model_play.specs.DeckGrammar as line
use Rattle.model_play.specs.Play.{plays, play_at_power, armed_stop_in, hit_of, is_card_line, line_after, line_command, moves_of, power_after, power_live, power_moves, start, steady_at, step, after_power_step, Armed, Unarmed, ArmedCut, ArmedFail, BeforePower, AfterPower, FailedWrite, Live, Running, Unpowered, Muted, State, Step, Warm}
use Rattle.model_play.specs.Transcript.{texts, plain_text}
use Rattle.model_play.specs.TraceText.{traced_text}
use Rattle.model_play.proofs.LineKinds.{past_power}
use Rattle.law_residual.specs.Refusals.{Refusals, count_before_armed, failure_among, failure_on, failure_or, failures_on, first_refused, refused_or, refuses_after}
use Rattle.law_residual.specs.Laws.{counts_from_one, first_text, first_writes, play_after_power, CountFromOne, MeanAlike, NoneWritesWords, ShowAlikeAfter, ShowAlikeOn}
use Rattle.law_residual.proofs.Alike.{found_alike, residual, step_alike, NotYet, Same, SeenAlike}

-- the failed writes of some lines, with that of the first
abbrev with_first : Refusals → ℕ → State → ℕ × DeckLine → List (ℕ × DeckLine) → Option FailedWrite → List (Option FailedWrite)
with_first r d s l ls w = w ∷ failures_on r (d + (step s l w).moves) (step s l w).after ls

-- ---- images that mean the same

before_writes : (n : ℕ) (l : DeckLine) (m k : List (List ℕ)) (b : ℕ) (a : Armed) → MeanAlike m k → moves_of (BeforePower m b a) (n, l) ≡ moves_of (BeforePower k b a) (n, l)
unfolding moves_of step
before_writes n line.Power m k b a alike = ap (λ (s : Warm). power_moves s + moves []) (found_alike m k b a alike)
before_writes n line.Format m k b a alike = refl
before_writes n _ m k b a alike = refl

before_failure : (r : Refusals) (d : ℕ) (s z : State) (l : ℕ × DeckLine) → SeenAlike s z → failure_on r d s l ≡ failure_on r d z l
before_failure r d _ _ l (NotYet m k b a alike) = ap (λ (n : ℕ). failure_among r d a l.1 n) (before_writes l.0 l.1 m k b a alike)
before_failure r d _ _ l (Same s) = refl

same_failures : (ls : List (ℕ × DeckLine)) (r : Refusals) (d : ℕ) (s z : State) → SeenAlike s z → NoneWritesWords ls → failures_on r d s ls ≡ failures_on r d z ls
unfolding failures_on
same_failures [] r d s z alike none = refl
same_failures (l ∷ ls) r d s z alike none =
    let w = failure_on r d s l in
    let one = step_alike s z l w alike none.0 in
    ap (λ (n : ℕ). w ∷ failures_on r (d + n) (step s l w).after ls) one.writes
    ∙ ap (λ (ws : List (Option FailedWrite)). w ∷ ws) (same_failures ls r (d + (step z l w).moves) (step s l w).after (step z l w).after one.after none.1)
    ∙ ap (λ (v : Option FailedWrite). with_first r d z l ls v) (before_failure r d s z l alike)

-- two images that mean the same show the same on a device that refuses writes
pub device_law : (m k : List (List ℕ)) → MeanAlike m k → (ls : List (ℕ × DeckLine)) → NoneWritesWords ls → (r : Refusals) → ShowAlikeOn r m k ls
device_law m k alike ls none r =
    grind (arith, same_failures ls r 0 (start m) (start k) (NotYet m k _ _ alike) none, residual m k alike ls none (failures_on r 0 (start m) ls))

-- ---- stops that are counted from 1

-- a stop that is armed is counted from 1
abbrev pub ArmedFromOne : Armed → Type 0
ArmedFromOne Unarmed = ⊤
ArmedFromOne (ArmedCut k x) = 1 ≤ k
ArmedFromOne (ArmedFail k) = 1 ≤ k

-- a failed write is counted from 1
abbrev pub FailsFromOne : Option FailedWrite → Type 0
FailsFromOne None = ⊤
FailsFromOne (Some w) = 1 ≤ w.at

abbrev HitsFromOne : Option StopAt → Type 0
HitsFromOne None = ⊤
HitsFromOne (Some t) = 1 ≤ t.at

cut_from_one : (k : ℕ) (x : List ℕ) (b : Bool) → 1 ≤ k → HitsFromOne (cond b (Some (record { kind = stop.Off; at = k; left = x })) None)
cut_from_one k x true low = low
cut_from_one k x false low = tt

hit_from_one : (a : Armed) (m : ℕ) (w : Option FailedWrite) → ArmedFromOne a → FailsFromOne w → HitsFromOne (hit_of a m w)
hit_from_one a m (Some w) f g = g
hit_from_one (ArmedCut k x) m None f g = cut_from_one k x (nat_le k m) f
hit_from_one Unarmed m None f g = tt
hit_from_one (ArmedFail k) m None f g = tt

refused_from_one : (r : Refusals) (d k n : ℕ) → FailsFromOne (first_refused r d k n)
refused_from_one r d k zero = tt
refused_from_one r d k (suc n) = by (r (d + (k + 1))) (refused_from_one r d (k + 1) n)
  where
    by : (o : Option (List ℕ)) → FailsFromOne (first_refused r d (k + 1) n) → FailsFromOne (refused_or (k + 1) o (first_refused r d (k + 1) n))
    by None later = later
    by (Some x) later = omega arith

asked_from_one : (a : Armed) (l : DeckLine) (m : ℕ) → ArmedFromOne a → FailsFromOne (steady_at a l m)
asked_from_one Unarmed l m f = tt
asked_from_one (ArmedCut k x) l m f = tt
asked_from_one (ArmedFail k) l m f = by (asked k l m)
  where
    asked : ℕ → DeckLine → ℕ → Bool
    asked k l m = is_card_line l && nat_le k m

    by : (b : Bool) → FailsFromOne (cond b (Some (record { at = k; left = zeros 8 })) None)
    by true = f
    by false = tt

either_from_one : (v w : Option FailedWrite) → FailsFromOne v → FailsFromOne w → FailsFromOne (failure_or v w)
either_from_one None w f g = g
either_from_one (Some v) w f g = f

fails_from_one : (r : Refusals) (d : ℕ) (s : State) (l : ℕ × DeckLine) → ArmedFromOne (armed_stop_in s) → FailsFromOne (failure_on r d s l)
fails_from_one r d s l f = grind (arith, either_from_one, refused_from_one, asked_from_one)

-- ---- images of one card

-- two states after a power line: they differ at most in the journal of a recovery that has nothing left
data SettledAlike : State → State → Type 0 where
  Journals : (b : Base) (i j : Journal) (v : Live) (g : ℕ) (a : Armed) → ArmedFromOne a → SettledAlike (AfterPower (past_power b 0 i v g a)) (AfterPower (past_power b 0 j v g a))
  One : (s : State) → SettledAlike s s

-- two steps that write the same text, make as many writes, and leave states alike
record Alike (t u : Step) : Type 0 where
  text : plain_text t ≡ plain_text u
  traced : traced_text t ≡ traced_text u
  writes : t.moves ≡ u.moves
  after : SettledAlike t.after u.after

settled_power : (b : Base) (i j : Journal) (v : Live) (g : ℕ) (a : Armed) (o : Option StopAt) → HitsFromOne o
    → SettledAlike (AfterPower (power_after (past_power b 0 i v g a) o)) (AfterPower (power_after (past_power b 0 j v g a) o))
settled_power b i j v g a None low = Journals (base_after_migration b) i j (power_live b) g Unarmed tt
settled_power b i j v g a (Some t) low = grind (arith, lt-leb, past_power, One)

settled_line : (c : Card) (q : SessionState) (i j : Journal) (g : ℕ) (a : Armed) (l : DeckLine) (o : Option StopAt)
    → SettledAlike (AfterPower (line_after (past_power (OnCard c) 0 i (Running q) g a) c (line_command c q g l) o)) (AfterPower (line_after (past_power (OnCard c) 0 j (Running q) g a) c (line_command c q g l) o))
settled_line c q i j g a l None = Journals _ i j _ g Unarmed tt
settled_line c q i j g a l (Some t) = One _

settled_sent : (n : ℕ) (k : DeckCommand) (b : Base) (i j : Journal) (v : Live) (g : ℕ) (a : Armed) (w : Option FailedWrite)
    → Alike (after_power_step n (line.Sent k) (past_power b 0 i v g a) w) (after_power_step n (line.Sent k) (past_power b 0 j v g a) w)
settled_sent n k (OnCard c) i j (Running q) g a w = record { text = refl; traced = refl; writes = refl; after = settled_line c q i j g a (line.Sent k) (hit_of a (moves (line_command c q g (line.Sent k)).items) w) }
settled_sent n k (AtFault cause p) i j (Running q) g a w = record { text = refl; traced = refl; writes = refl; after = Journals _ i j _ g Unarmed tt }
settled_sent n k b i j Unpowered g a w = record { text = refl; traced = refl; writes = refl; after = Journals b i j Unpowered g Unarmed tt }
settled_sent n k b i j Muted g a w = record { text = refl; traced = refl; writes = refl; after = Journals b i j Muted g Unarmed tt }

settled_step : (n : ℕ) (l : DeckLine) (b : Base) (i j : Journal) (v : Live) (g : ℕ) (a : Armed) (w : Option FailedWrite) → ArmedFromOne a → FailsFromOne w → counts_from_one l ≡ true
    → Alike (after_power_step n l (past_power b 0 i v g a) w) (after_power_step n l (past_power b 0 j v g a) w)
settled_step n line.Power b i j v g a w f low counts =
    record { text = refl; traced = refl; writes = refl; after = settled_power b i j v g a (hit_of a (0 + migration b) w) (hit_from_one a (0 + migration b) w f low) }
settled_step n (line.Sent k) b i j v g a w f low counts = settled_sent n k b i j v g a w
settled_step n (line.Budget c) b i j v g a w f low counts = record { text = refl; traced = refl; writes = refl; after = Journals b i j v c a f }
settled_step n (line.Cut k x) b i j v g a w f low counts = record { text = refl; traced = refl; writes = refl; after = Journals b i j v g (ArmedCut k x) (leb-true 1 k counts) }
settled_step n (line.Fail k) b i j v g a w f low counts = record { text = refl; traced = refl; writes = refl; after = Journals b i j v g (ArmedFail k) (leb-true 1 k counts) }
settled_step n _ b i j v g a w f low counts = record { text = refl; traced = refl; writes = refl; after = Journals b i j v g a f }

settled_writes : (n : ℕ) (l : DeckLine) (b : Base) (i j : Journal) (v : Live) (g : ℕ) (a : Armed) → moves_of (AfterPower (past_power b 0 i v g a)) (n, l) ≡ moves_of (AfterPower (past_power b 0 j v g a)) (n, l)
unfolding moves_of step
settled_writes n line.Power b i j v g a = refl
settled_writes n (line.Sent k) (OnCard c) i j (Running q) g a = refl
settled_writes n (line.Sent k) (AtFault cause p) i j (Running q) g a = refl
settled_writes n (line.Sent k) b i j Unpowered g a = refl
settled_writes n (line.Sent k) b i j Muted g a = refl
settled_writes n _ b i j v g a = refl

-- the plays of some lines from two states, with the failed write of the first
record FromHere (r : Refusals) (d : ℕ) (s z : State) (ls : List (ℕ × DeckLine)) : Type 0 where
  plain : texts plain_text (plays s ls (failures_on r d s ls)) ≡ texts plain_text (plays z ls (failures_on r d z ls))
  traced : texts traced_text (plays s ls (failures_on r d s ls)) ≡ texts traced_text (plays z ls (failures_on r d z ls))

-- the texts of some lines, with the failed write of the first
abbrev text_from : (Step → List ℕ) → Refusals → ℕ → State → ℕ × DeckLine → List (ℕ × DeckLine) → Option FailedWrite → List ℕ
text_from f r d s l ls w = f (step s l w) ++ texts f (plays (step s l w).after ls (failures_on r (d + (step s l w).moves) (step s l w).after ls))

settled_plays : (ls : List (ℕ × DeckLine)) (r : Refusals) (d : ℕ) (s z : State) → SettledAlike s z → CountFromOne ls → FromHere r d s z ls
unfolding plays failures_on step
settled_plays ls r d _ _ (One s) counts = record { plain = refl; traced = refl }
settled_plays [] r d _ _ (Journals b i j v g a f) counts = record { plain = refl; traced = refl }
settled_plays (l ∷ ls) r d _ _ (Journals b i j v g a f) counts =
    let s = AfterPower (past_power b 0 i v g a) in
    let z = AfterPower (past_power b 0 j v g a) in
    let w = failure_on r d s l in
    let same : w ≡ failure_on r d z l = ap (λ (n : ℕ). failure_among r d a l.1 n) (settled_writes l.0 l.1 b i j v g a) in
    let one : Alike (step s l w) (step z l w) = stepped w (fails_from_one r d s l f) in
    let rest = settled_plays ls r (d + (step z l w).moves) (step s l w).after (step z l w).after one.after counts.1 in
    record {
      plain = ap (λ (n : ℕ). plain_text (step s l w) ++ texts plain_text (plays (step s l w).after ls (failures_on r (d + n) (step s l w).after ls))) one.writes
          ∙ ap (λ (x : List ℕ). x ++ texts plain_text (plays (step s l w).after ls (failures_on r (d + (step z l w).moves) (step s l w).after ls))) one.text
          ∙ ap (λ (y : List ℕ). plain_text (step z l w) ++ y) rest.plain
          ∙ ap (λ (v : Option FailedWrite). text_from plain_text r d z l ls v) same;
      traced = ap (λ (n : ℕ). traced_text (step s l w) ++ texts traced_text (plays (step s l w).after ls (failures_on r (d + n) (step s l w).after ls))) one.writes
          ∙ ap (λ (x : List ℕ). x ++ texts traced_text (plays (step s l w).after ls (failures_on r (d + (step z l w).moves) (step s l w).after ls))) one.traced
          ∙ ap (λ (y : List ℕ). traced_text (step z l w) ++ y) rest.traced
          ∙ ap (λ (v : Option FailedWrite). text_from traced_text r d z l ls v) same;
    }
  where
    stepped : (w : Option FailedWrite) → FailsFromOne w → Alike (step (AfterPower (past_power b 0 i v g a)) l w) (step (AfterPower (past_power b 0 j v g a)) l w)
    stepped w low = settled_step l.0 l.1 b i j v g a w f low counts.0

-- ---- the first power line

none_refused : (r : Refusals) (d k n : ℕ) → k + n ≤ d → first_refused (refuses_after d r) 0 k n ≡ None
none_refused r d k zero h = refl
none_refused r d k (suc n) h =
    let early : nat_le (0 + (k + 1)) d ≡ true = grind (arith, nat_tests, h) in
    ap (λ (b : Bool). refused_or (k + 1) (cond b None (r (0 + (k + 1) - d))) (first_refused (refuses_after d r) 0 (k + 1) n)) early
    ∙ none_refused r d (k + 1) n (omega (arith, h))

later_refused : (r : Refusals) (d e k n : ℕ) → first_refused (refuses_after d r) (d + e) k n ≡ first_refused r e k n
later_refused r d e k zero = refl
later_refused r d e k (suc n) = grind (arith, lt-leb, later_refused r d e (k + 1) n)

later_failures : (ls : List (ℕ × DeckLine)) (r : Refusals) (d e : ℕ) (s : State) → failures_on (refuses_after d r) (d + e) s ls ≡ failures_on r e s ls
unfolding failures_on
later_failures [] r d e s = refl
later_failures (l ∷ ls) r d e s =
    let a = armed_stop_in s in
    let m = moves_of s l in
    let w = failure_on r e s l in
    let same : failure_on (refuses_after d r) (d + e) s l ≡ w = ap (λ (v : Option FailedWrite). failure_or v (steady_at a l.1 m)) (later_refused r d e 0 (count_before_armed a m)) in
    let t : ℕ = (step s l w).moves in
    let sum : d + e + (step s l w).moves ≡ d + (e + (step s l w).moves) = omega arith in
    ap (λ (v : Option FailedWrite). with_first (refuses_after d r) (d + e) s l ls v) same
    ∙ ap (λ (i : ℕ). w ∷ failures_on (refuses_after d r) i (step s l w).after ls) sum
    ∙ ap (λ (ws : List (Option FailedWrite)). w ∷ ws) (later_failures ls r d (e + (step s l w).moves) (step s l w).after)

-- the play after a whole first power line
abbrev recovered : List (List ℕ) → State
recovered m = let b = base_of (fault m) m in AfterPower (past_power (base_after_migration b) 0 (pending_journal (which m)) (power_live b) 10000 Unarmed)

settled : (m k : List (List ℕ)) → base_of (fault m) m ≡ base_of (fault k) k → SettledAlike (recovered m) (recovered k)
settled m k same = grind (arith, past_power, Journals)

first_failure_is : (r : Refusals) (m : List (List ℕ)) (n : ℕ) → failure_on (refuses_after (first_writes m) r) 0 (start m) (n, line.Power) ≡ None
unfolding moves_of step play_at_power
first_failure_is r m n =
    let count = moves_of (start m) (n, line.Power) in
    let few : 0 + moves_of (start m) (n, line.Power) ≤ first_writes m = omega arith in
    ap (λ (v : Option FailedWrite). failure_or v None) (none_refused r (first_writes m) 0 (moves_of (start m) (n, line.Power)) few)

first_after : (m : List (List ℕ)) (n : ℕ) → (step (start m) (n, line.Power) None).after ≡ recovered m
unfolding step play_at_power
first_after m n = refl

first_moves : (m : List (List ℕ)) (n : ℕ) → (step (start m) (n, line.Power) None).moves ≡ first_writes m
unfolding step play_at_power
first_moves m n = refl

first_plain : (m : List (List ℕ)) (n : ℕ) → plain_text (step (start m) (n, line.Power) None) ≡ first_text n m
unfolding step play_at_power
first_plain m n = refl

first_traced : (m : List (List ℕ)) (n : ℕ) → traced_text (step (start m) (n, line.Power) None) ≡ first_text n m
unfolding step play_at_power
first_traced m n = refl

-- the texts after the first power line
abbrev text_after : (Step → List ℕ) → Refusals → State → List (ℕ × DeckLine) → List ℕ
text_after f r s ls = texts f (plays s ls (failures_on r 0 s ls))

from_power : (f : Step → List ℕ) (r : Refusals) (m : List (List ℕ)) (n : ℕ) (ls : List (ℕ × DeckLine)) → f (step (start m) (n, line.Power) None) ≡ first_text n m
    → texts f (play_after_power r m n ls) ≡ first_text n m ++ text_after f r (recovered m) ls
unfolding plays failures_on
from_power f r m n ls text =
    let d = first_writes m in
    let q = refuses_after (first_writes m) r in
    let t = step (start m) (n, line.Power) None in
    let sum : 0 + (step (start m) (n, line.Power) None).moves ≡ first_writes m + 0 = let is = first_moves m n in omega (arith, is) in
    ap (λ (v : Option FailedWrite). text_from f q 0 (start m) (n, line.Power) ls v) (first_failure_is r m n)
    ∙ ap (λ (i : ℕ). f t ++ texts f (plays t.after ls (failures_on q i t.after ls))) sum
    ∙ ap (λ (ws : List (Option FailedWrite)). f t ++ texts f (plays t.after ls ws)) (later_failures ls r d 0 t.after)
    ∙ ap (λ (s : State). f t ++ text_after f r s ls) (first_after m n)
    ∙ ap (λ (x : List ℕ). x ++ text_after f r (recovered m) ls) text

-- two images of one card show the same after a whole power line
pub recovered_law : (m k : List (List ℕ)) → base_of (fault m) m ≡ base_of (fault k) k → (n : ℕ) (ls : List (ℕ × DeckLine)) → CountFromOne ls → (r : Refusals) → ShowAlikeAfter r m k n ls
recovered_law m k same n ls counts r =
    let both = settled_plays ls r 0 (recovered m) (recovered k) (settled m k same) counts in
    record {
      rest = text_after plain_text r (recovered k) ls;
      one = from_power plain_text r m n ls (first_plain m n) ∙ ap (λ (x : List ℕ). first_text n m ++ x) both.plain;
      other = from_power plain_text r k n ls (first_plain k n);
      traced = text_after traced_text r (recovered k) ls;
      trace_of_one = from_power traced_text r m n ls (first_traced m n) ∙ ap (λ (x : List ℕ). first_text n m ++ x) both.traced;
      trace_of_other = from_power traced_text r k n ls (first_traced k n);
    }
