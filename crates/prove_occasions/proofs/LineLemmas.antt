-- What lines do to amounts, in the code and in the definition.
use Rattle.std.proofs.Common.{◌≡◌, ℕ, ◌-◌, List, [], ◌∷◌, length, Bool, true, false, cond, ◌&&◌, Option, Some, None, Result, Ok, refl, sym, ap, subst, ◌∙◌, Bor}
use Rattle.std.proofs.Math.ListN.{length-set}
use Rattle.std.specs.Prelude.{nat_le, option_and_then, slice_get, slice_set, unwrap_or}
use Rattle.std.proofs.lemmas.Option.{option_and_then_some, same_Some}
use Rattle.model_text.specs.Text.{◌>>=◌}
use Rattle.lab_app_rules.specs.model_events.specs.Matching.{fits}
use Rattle.lab_app_rules.specs.model_events.specs.Amounts.{amount_of, with_amount}
use Rattle.prove_facts.specs.model_rules.specs.Rules.{Trigger, AtTurn, AtCommand, AtAnswer, AtSession, Action, Allows, Spends, Needs, OnLine}
use Rattle.prove_facts.specs.model_rules.specs.Keeping.{Amounts, Break, OnTurn, OnSession, applies, if_enough, after_action, after_line, after_lines, after_occasion}
use Rattle.prove_facts.specs.model_prove.specs.Arrivals.{after_pick, after_picks}
use Rattle.lab_app_rules.specs.declared.rules.Event.{Event}
use Rattle.lab_app_rules.specs.declared.rules.Effect.{Effect}
use Rattle.lab_app_rules.specs.declared.rules.Effect.TheVariants as effect
use Rattle.lab_app_rules.specs.declared.rules.On.{On}
use Rattle.lab_app_rules.specs.Rules.{AreLines, AreDistinct, FirstLine, IsLine, IsTrigger, deed_of}
use Rattle.prove_keys.specs.Keys.{amounts_of}
use Rattle.prove_occasions.specs.declared.amounts.Occasion.TheVariants as occasion
use Rattle.prove_occasions.specs.Amounts.{after_marked, after_tested, amount_after, amounts_after, amounts_by, first_mark, is_due, is_of_allowance, is_session, is_turn, marks_after, with_amount_at, AreAfter, AreLinesOver}
use Rattle.prove_occasions.proofs.AmountLemmas.{fits_plain, lookup_at, set_same, with_at}

-- ---- one line

-- amounts that are kept
abbrev kept : Amounts → Result Amounts Break
kept a = Ok a

spend_by : (b : Bool) (names : List (List ℕ)) (a c : List ℕ) (n k number : ℕ) (name : List ℕ) → AreDistinct names → slice_get names n ≡ Some name
    → with_amount_at n a (cond b (Some k) None) ≡ Some c → if_enough b number (with_amount name k (amounts_of names a)) ≡ kept (amounts_of names c)
spend_by true names a c n k number name d e w = ap kept (with_at names a n name k d e ∙ ap (amounts_of names) (same_Some (slice_set a n k) c w))
spend_by false names a c n k number name d e w = absurd (cc w)

need_by : (b : Bool) (names : List (List ℕ)) (a c : List ℕ) (n k number : ℕ) → slice_get a n ≡ Some k
    → with_amount_at n a (cond b (Some k) None) ≡ Some c → if_enough b number (amounts_of names a) ≡ kept (amounts_of names c)
need_by true names a c n k number g w = ap kept (ap (amounts_of names) (sym (set_same a n k g) ∙ same_Some (slice_set a n k) c w))
need_by false names a c n k number g w = absurd (cc w)

-- what an effect does is the action of its line
act : (e : Effect) (deed : Action × ℕ) (l : OnLine) (names : List (List ℕ)) (a c : List ℕ) (n k : ℕ) → deed_of e ≡ Some deed → l.action ≡ deed.0 → l.amount ≡ deed.1
    → slice_get names n ≡ Some l.name → slice_get a n ≡ Some k → AreDistinct names → with_amount_at n a (amount_after e k) ≡ Some c
    → after_action l.action l (amounts_of names a) ≡ kept (amounts_of names c)
act (effect.Allow j) deed l names a c n k d x y m g t w =
    let p : (Allows, j) ≡ deed = same_Some (Allows, j) deed d in
    ap (λ (z : Action). after_action z l (amounts_of names a)) (x ∙ sym (ap (λ (q : Action × ℕ). q.0) p))
    ∙ ap (λ (i : ℕ). kept (with_amount l.name i (amounts_of names a))) (y ∙ sym (ap (λ (q : Action × ℕ). q.1) p))
    ∙ ap kept (with_at names a n l.name j t m ∙ ap (amounts_of names) (same_Some (slice_set a n j) c w))
act (effect.Spend j) deed l names a c n k d x y m g t w =
    let p : (Spends, j) ≡ deed = same_Some (Spends, j) deed d in
    let left : amount_of (amounts_of names a) l.name ≡ k = ap (λ (o : Option ℕ). unwrap_or o 0) (lookup_at names a n l.name k t m g) in
    ap (λ (z : Action). after_action z l (amounts_of names a)) (x ∙ sym (ap (λ (q : Action × ℕ). q.0) p))
    ∙ ap (λ (i : ℕ). if_enough (nat_le i (amount_of (amounts_of names a) l.name)) l.number (with_amount l.name (amount_of (amounts_of names a) l.name - i) (amounts_of names a)))
    (y ∙ sym (ap (λ (q : Action × ℕ). q.1) p))
    ∙ ap (λ (i : ℕ). if_enough (nat_le j i) l.number (with_amount l.name (i - j) (amounts_of names a))) left
    ∙ spend_by (nat_le j k) names a c n (k - j) l.number l.name t m w
act (effect.Need j) deed l names a c n k d x y m g t w =
    let p : (Needs, j) ≡ deed = same_Some (Needs, j) deed d in
    let left : amount_of (amounts_of names a) l.name ≡ k = ap (λ (o : Option ℕ). unwrap_or o 0) (lookup_at names a n l.name k t m g) in
    ap (λ (z : Action). after_action z l (amounts_of names a)) (x ∙ sym (ap (λ (q : Action × ℕ). q.0) p))
    ∙ ap (λ (i : ℕ). if_enough (nat_le i (amount_of (amounts_of names a) l.name)) l.number (amounts_of names a)) (y ∙ sym (ap (λ (q : Action × ℕ). q.1) p))
    ∙ ap (λ (i : ℕ). if_enough (nat_le j i) l.number (amounts_of names a)) left
    ∙ need_by (nat_le j k) names a c n k l.number g w
act (effect.Add by) deed l names a c n k d x y m g t w = absurd (cc d)
act (effect.Take by) deed l names a c n k d x y m g t w = absurd (cc d)

act_by : (o : Option ℕ) (deed : Action × ℕ) (l : OnLine) (on : On) (names : List (List ℕ)) (a c : List ℕ) → slice_get a on.name ≡ o → deed_of on.effect ≡ Some deed → IsLine names deed l on
    → AreDistinct names → amounts_by o on a ≡ Some c → after_action l.action l (amounts_of names a) ≡ kept (amounts_of names c)
act_by None deed l on names a c g d i t w = absurd (cc w)
act_by (Some k) deed l on names a c g d i t w = act on.effect deed l names a c on.name k d i.action i.amount i.name g t w

-- what a line does is what that of the definition does
line_step : (b : Bool) (deed : Action × ℕ) (l : OnLine) (on : On) (names : List (List ℕ)) (a c : List ℕ) → deed_of on.effect ≡ Some deed → IsLine names deed l on
    → AreDistinct names → amounts_after b on a ≡ Some c → after_line b l (amounts_of names a) ≡ kept (amounts_of names c)
line_step true deed l on names a c d i t w = act_by (slice_get a on.name) deed l on names a c refl d i t w
line_step false deed l on names a c d i t w = ap kept (ap (amounts_of names) (same_Some a c w))

size_at : (o : Option ℕ) (n : ℕ) (a c : List ℕ) → with_amount_at n a o ≡ Some c → length c ≡ length a
size_at None n a c w = absurd (cc w)
size_at (Some k) n a c w = subst (λ (x : List ℕ). length x ≡ length a) (same_Some (slice_set a n k) c w) (length-set a n k)

size_by : (o : Option ℕ) (on : On) (a c : List ℕ) → amounts_by o on a ≡ Some c → length c ≡ length a
size_by None on a c w = absurd (cc w)
size_by (Some k) on a c w = size_at (amount_after on.effect k) on.name a c w

-- it leaves as many amounts
line_size : (b : Bool) (on : On) (a c : List ℕ) → amounts_after b on a ≡ Some c → length c ≡ length a
line_size true on a c w = size_by (slice_get a on.name) on a c w
line_size false on a c w = ap (λ (x : List ℕ). length x) (sym (same_Some a c w))

-- ---- lines in turn

-- the first of some lines
pub are_first : (names : List (List ℕ)) (ls : List OnLine) (on : On) (ons : List On) → AreLines names ls (on ∷ ons)
    → FirstLine (deed_of on.effect) names ls on (λ more. AreLines names more ons)
are_first names [] on ons h = h
are_first names (l ∷ ls) on ons h = h

of_allowance_by : (e : Effect) (deed : Action × ℕ) → deed_of e ≡ Some deed → is_of_allowance e ≡ true
of_allowance_by (effect.Allow k) deed h = refl
of_allowance_by (effect.Spend k) deed h = refl
of_allowance_by (effect.Need k) deed h = refl
of_allowance_by (effect.Add by) deed h = absurd (cc h)
of_allowance_by (effect.Take by) deed h = absurd (cc h)

-- a line that does something to an allowance
pub of_allowance : (on : On) (deed : Action × ℕ) → deed_of on.effect ≡ Some deed → is_of_allowance on.effect ≡ true
of_allowance on deed h = of_allowance_by on.effect deed h

of_sum_by : (e : Effect) → deed_of e ≡ None → is_of_allowance e ≡ false
of_sum_by (effect.Allow k) h = absurd (cc h)
of_sum_by (effect.Spend k) h = absurd (cc h)
of_sum_by (effect.Need k) h = absurd (cc h)
of_sum_by (effect.Add by) h = refl
of_sum_by (effect.Take by) h = refl

-- a line about a sum
pub of_sum : (on : On) → deed_of on.effect ≡ None → is_of_allowance on.effect ≡ false
of_sum on h = of_sum_by on.effect h

-- a test of lines of the code is one of lines of the definition
record Tells (names : List (List ℕ)) (test : On → Bool) (o : OnLine → Bool) : Type 0 where
  line : (on : On) (l : OnLine) (deed : Action × ℕ) → deed_of on.effect ≡ Some deed → IsLine names deed l on → test on ≡ o l
  sum : (on : On) → deed_of on.effect ≡ None → test on ≡ false

tested_by : (d : Option (Action × ℕ)) (names : List (List ℕ)) (ls : List OnLine) (on : On) (ons : List On) (test : On → Bool) (o : OnLine → Bool) (a c : List ℕ) → Tells names test o
    → AreDistinct names → length a ≡ length names → deed_of on.effect ≡ d → FirstLine d names ls on (λ more. AreLines names more ons)
    → ((more : List OnLine) (b : List ℕ) → AreLines names more ons → length b ≡ length names → after_tested test ons b ≡ Some c → AreAfter names (after_lines o more (amounts_of names b)) c)
    → option_and_then (after_tested test ons) (amounts_after (test on) on a) ≡ Some c → AreAfter names (after_lines o ls (amounts_of names a)) c
tested_by None names ls on ons test o a c tells t size d first ih h =
    ih ls a first size (subst (λ (b : Bool). option_and_then (after_tested test ons) (amounts_after b on a) ≡ Some c) (tells.sum on d) h)
tested_by (Some deed) names [] on ons test o a c tells t size d first ih h = absurd first
tested_by (Some deed) names (l ∷ ls) on ons test o a c tells t size d first ih h =
    option_and_then_some (after_tested test ons) (amounts_after (test on) on a) c h
    (λ (b : List ℕ) (e : amounts_after (test on) on a ≡ Some b) (f : after_tested test ons b ≡ Some c).
    let g : amounts_after (o l) on a ≡ Some b = subst (λ (x : Bool). amounts_after x on a ≡ Some b) (tells.line on l deed d first.0) e in
    let rest = ih ls b first.1 (line_size (o l) on a b g ∙ size) f in
    (ap (λ (r : Result Amounts Break). r >>= λ x. after_lines o ls x) (line_step (o l) deed l on names a b d first.0 t g) ∙ rest.0, rest.1))

-- the lines that a test picks
tested_lines : (names : List (List ℕ)) (ls : List OnLine) (ons : List On) (test : On → Bool) (o : OnLine → Bool) (a c : List ℕ) → Tells names test o
    → AreDistinct names → length a ≡ length names → AreLines names ls ons → after_tested test ons a ≡ Some c → AreAfter names (after_lines o ls (amounts_of names a)) c
tested_lines names [] [] test o a c tells t size lines h = (ap kept (ap (amounts_of names) (same_Some a c h)), subst (λ (x : List ℕ). length x ≡ length names) (same_Some a c h) size)
tested_lines names (l ∷ ls) [] test o a c tells t size lines h = absurd lines
tested_lines names ls (on ∷ ons) test o a c tells t size lines h =
    tested_by (deed_of on.effect) names ls on ons test o a c tells t size refl (are_first names ls on ons lines)
    (λ (more : List OnLine) (b : List ℕ) (m : AreLines names more ons) (s : length b ≡ length names) (f : after_tested test ons b ≡ Some c).
    tested_lines names more ons test o b c tells t s m f) h

-- ---- occasions

turn_at : (t : Trigger) (on : On) (text : List ℕ) → IsTrigger t on → (is_turn on.event && fits on.pattern.items text) ≡ applies t (OnTurn text)
turn_at (AtTurn p) on text h =
    ap (λ (e : Event). is_turn e && fits on.pattern.items text) h.0 ∙ ap (λ (x : List ℕ). fits x text) h.1 ∙ fits_plain p text
turn_at (AtCommand p) on text h = ap (λ (e : Event). is_turn e && fits on.pattern.items text) h.0
turn_at (AtAnswer p q) on text h = ap (λ (e : Event). is_turn e && fits on.pattern.items text) h.0
turn_at AtSession on text h = ap (λ (e : Event). is_turn e && fits on.pattern.items text) h

session_at : (t : Trigger) (on : On) → IsTrigger t on → is_session on.event ≡ applies t OnSession
session_at (AtTurn p) on h = ap is_session h.0
session_at (AtCommand p) on h = ap is_session h.0
session_at (AtAnswer p q) on h = ap is_session h.0
session_at AtSession on h = ap is_session h

turn_tells : (names : List (List ℕ)) (text : Bor (List ℕ)) → Tells names (is_due (occasion.Turn text)) (λ l. applies l.trigger (OnTurn text.now))
turn_tells names text = record {
  line = λ on l deed d i. ap (λ (b : Bool). b && (is_turn on.event && fits on.pattern.items text.now)) (of_allowance on deed d) ∙ turn_at l.trigger on text.now i.trigger;
  sum = λ on d. ap (λ (b : Bool). b && (is_turn on.event && fits on.pattern.items text.now)) (of_sum on d);
}

session_tells : (names : List (List ℕ)) → Tells names (is_due occasion.Session) (λ l. applies l.trigger OnSession)
session_tells names = record {
  line = λ on l deed d i. ap (λ (b : Bool). b && is_session on.event) (of_allowance on deed d) ∙ session_at l.trigger on i.trigger;
  sum = λ on d. ap (λ (b : Bool). b && is_session on.event) (of_sum on d);
}

-- the amounts after an instruction with this line
pub turn_lines : (names : List (List ℕ)) (ls : List OnLine) (ons : List On) (text : Bor (List ℕ)) (line a c : List ℕ) → AreLinesOver names ls ons a → text.now ≡ line
    → after_tested (is_due (occasion.Turn text)) ons a ≡ Some c → AreAfter names (after_occasion ls (OnTurn line) (amounts_of names a)) c
turn_lines names ls ons text line a c are e h =
    subst (λ (x : List ℕ). AreAfter names (after_occasion ls (OnTurn x) (amounts_of names a)) c) e
    (tested_lines names ls ons (is_due (occasion.Turn text)) (λ l. applies l.trigger (OnTurn text.now)) a c (turn_tells names text) are.distinct are.size are.lines h)

-- the amounts after a session begins or ends
pub session_lines : (names : List (List ℕ)) (ls : List OnLine) (ons : List On) (a c : List ℕ) → AreLinesOver names ls ons a
    → after_tested (is_due occasion.Session) ons a ≡ Some c → AreAfter names (after_occasion ls OnSession (amounts_of names a)) c
session_lines names ls ons a c are h =
    tested_lines names ls ons (is_due occasion.Session) (λ l. applies l.trigger OnSession) a c (session_tells names) are.distinct are.size are.lines h

-- ---- lines with a mark

marked_by : (d : Option (Action × ℕ)) (marks : List Bool) (names : List (List ℕ)) (ls : List OnLine) (on : On) (ons : List On) (a c : List ℕ)
    → AreDistinct names → length a ≡ length names → deed_of on.effect ≡ d → FirstLine d names ls on (λ more. AreLines names more ons)
    → ((bs : List Bool) (more : List OnLine) (b : List ℕ) → AreLines names more ons → length b ≡ length names → after_marked bs ons b ≡ Some c
    → AreAfter names (after_picks bs more (amounts_of names b)) c)
    → option_and_then (after_marked (marks_after (is_of_allowance on.effect) marks) ons) (amounts_after (is_of_allowance on.effect && first_mark marks) on a) ≡ Some c
    → AreAfter names (after_picks marks ls (amounts_of names a)) c
marked_by None marks names ls on ons a c t size d first ih h =
    ih marks ls a first size
    (subst (λ (b : Bool). option_and_then (after_marked (marks_after b marks) ons) (amounts_after (b && first_mark marks) on a) ≡ Some c) (of_sum on d) h)
marked_by (Some deed) marks names [] on ons a c t size d first ih h = absurd first
marked_by (Some deed) [] names (l ∷ ls) on ons a c t size d first ih h =
    ih [] ls a first.1 size
    (subst (λ (b : Bool). option_and_then (after_marked (marks_after b []) ons) (amounts_after (b && false) on a) ≡ Some c) (of_allowance on deed d) h)
marked_by (Some deed) (m ∷ marks) names (l ∷ ls) on ons a c t size d first ih h =
    let k : option_and_then (after_marked marks ons) (amounts_after m on a) ≡ Some c =
    subst (λ (b : Bool). option_and_then (after_marked (marks_after b (m ∷ marks)) ons) (amounts_after (b && m) on a) ≡ Some c) (of_allowance on deed d) h in
    option_and_then_some (after_marked marks ons) (amounts_after m on a) c k
    (λ (b : List ℕ) (e : amounts_after m on a ≡ Some b) (f : after_marked marks ons b ≡ Some c).
    let rest = ih marks ls b first.1 (line_size m on a b e ∙ size) f in
    (ap (λ (r : Result Amounts Break). after_pick r (λ x. after_picks marks ls x)) (line_step m deed l on names a b d first.0 t e) ∙ rest.0, rest.1))

-- the amounts after no line
picks_none : (marks : List Bool) (a : Amounts) → after_picks marks [] a ≡ kept a
picks_none [] a = refl
picks_none (m ∷ marks) a = refl

marked_lines : (marks : List Bool) (names : List (List ℕ)) (ls : List OnLine) (ons : List On) (a c : List ℕ) → AreDistinct names → length a ≡ length names → AreLines names ls ons
    → after_marked marks ons a ≡ Some c → AreAfter names (after_picks marks ls (amounts_of names a)) c
marked_lines marks names [] [] a c t size lines h =
    (picks_none marks (amounts_of names a) ∙ ap kept (ap (amounts_of names) (same_Some a c h)), subst (λ (x : List ℕ). length x ≡ length names) (same_Some a c h) size)
marked_lines marks names (l ∷ ls) [] a c t size lines h = absurd lines
marked_lines marks names ls (on ∷ ons) a c t size lines h =
    marked_by (deed_of on.effect) marks names ls on ons a c t size refl (are_first names ls on ons lines)
    (λ (bs : List Bool) (more : List OnLine) (b : List ℕ) (m : AreLines names more ons) (s : length b ≡ length names) (f : after_marked bs ons b ≡ Some c).
    marked_lines bs names more ons b c t s m f) h

-- the amounts after the lines with these marks
pub marked : (marks picks : List Bool) (names : List (List ℕ)) (ls : List OnLine) (ons : List On) (a c : List ℕ) → AreLinesOver names ls ons a → marks ≡ picks
    → after_marked marks ons a ≡ Some c → AreAfter names (after_picks picks ls (amounts_of names a)) c
marked marks picks names ls ons a c are e h =
    subst (λ (x : List Bool). AreAfter names (after_picks x ls (amounts_of names a)) c) e (marked_lines marks names ls ons a c are.distinct are.size are.lines h)
