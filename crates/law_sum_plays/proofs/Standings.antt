-- What stands after a history is one; events that are no instructions leave the sums; and no event takes a sum away.
use Rattle.std.specs.Prelude.{◌≡◌, ℕ, Bool, true, false, cond, ◌||◌, ◌==◌, List, [], ◌∷◌, bytes_eq, Option, Some, None, Result, Ok, Err, refl}
use Rattle.std.specs.List.{AllByRecursion}
use Rattle.std.proofs.Common.{arith, ap, sym, subst, ◌∙◌}
use Rattle.std.proofs.lemmas.Bool.{and_parts}
use Rattle.law_prove_closed.specs.model_text.specs.Text.{◌>>=◌}
use Rattle.law_prove_closed.specs.model_text.specs.Listing.{hex_text}
use Rattle.law_prove_closed.specs.model_text.specs.TurnText.{outcome_text}
use Rattle.law_prove_closed.specs.model_rules.specs.model_events.specs.Deeds.{Deed}
use Rattle.law_prove_closed.specs.model_rules.specs.model_events.specs.Matching.{fits}
use Rattle.law_prove_closed.specs.model_rules.specs.Rules.{SumLine, AppRules}
use Rattle.law_prove_closed.specs.model_rules.specs.Happenings.{Event, Did, Failed, Commanded, Answers, Session, History}
use Rattle.law_prove_closed.specs.model_rules.specs.Keeping.{Amounts, Break, Sum, Standing, OnTurn, OnCommand, OnAnswer, OnSession, after_occasion, line_of_deed, moved_sum, after_sum_line, after_moves, mode_of, first_sums, first_standing, protected_sums, after_deed, with_allowances, after_abend, after_event, standing_after}
use Rattle.law_sums.specs.model_sums.specs.Says.{read_sums}
use Rattle.law_sums.specs.model_sums.specs.Closed.{all_pass, is_sum}
use Rattle.law_sums.specs.EventLaws.{has_sum}
use Rattle.law_sum_plays.specs.Laws.{IsQuiet, QuietLaw, AreNamed, NameLaw}
use Rattle.law_sums.proofs.EventLemmas.{names_stay}

-- ---- one

-- a history has at most one standing
pub one_standing : (r : AppRules) (h : History) (x y : Standing) → standing_after r h ≡ Ok x → standing_after r h ≡ Ok y → x ≡ y
one_standing r h x y one other = let same : Ok x ≡ Ok y = sym one ∙ other in cc same

-- what an event leads to from what stands before it
pub then_event : (r : AppRules) (e : Event) (h : History) (x y : Standing) → standing_after r h ≡ Ok x → standing_after r (e ∷ h) ≡ Ok y → after_event r e x ≡ Ok y
then_event r e h x y before after = sym (ap (λ (z : Result Standing Break). z >>= after_event r e) before) ∙ after

-- ---- allowances

-- what stands with the allowances that an occasion leaves
pub record IsAllowed (z : Result Amounts Break) (x y : Standing) : Type 0 where
  pub allowances : Amounts
  pub is : z ≡ Ok allowances
  pub stands : y ≡ record x { allowances = allowances }

-- a standing with new allowances differs from the one before in its allowances alone
pub allowed : (z : Result Amounts Break) (x y : Standing) → (z >>= with_allowances x) ≡ Ok y → IsAllowed z x y
allowed (Err b) x y e = absurd (cc e)
allowed (Ok a) x y e = let same : record x { allowances = a } ≡ y = cc e in record { allowances = a; is = refl; stands = sym same }

-- ---- events that are no instructions

allowed_kept : (z : Result Amounts Break) (x y : Standing) → (z >>= with_allowances x) ≡ Ok y → y.kept ≡ x.kept
allowed_kept z x y e = ap (λ (w : Standing). w.kept) (allowed z x y e).stands

failed_kept : (o : Option ℕ) (x y : Standing) → after_abend o x ≡ Ok y → y.kept ≡ x.kept
failed_kept None x y e = let same : x ≡ y = cc e in ap (λ (w : Standing). w.kept) (sym same)
failed_kept (Some n) x y e = absurd (cc e)

event_kept : (r : AppRules) (e : Event) (x y : Standing) → IsQuiet e → after_event r e x ≡ Ok y → y.kept ≡ x.kept
event_kept r e x y q e5 = grind (arith, failed_kept, allowed_kept)

-- they leave the sums as power would leave them
pub quiet_kept : QuietLaw
quiet_kept r e h x y q before after = event_kept r e x y q (then_event r e h x y before after)

-- ---- instructions that were done

-- what stands after an instruction that was done
pub record IsDone (r : AppRules) (d : Deed) (x y : Standing) : Type 0 where
  pub allowances : Amounts
  pub is : after_occasion r.ons (OnTurn (line_of_deed d)) x.allowances ≡ Ok allowances
  pub stands : y ≡ record (after_deed r d.frame.protected d x) { allowances = allowances }

-- the standing after an instruction that was done has its allowances and its sums
pub done_stands : (r : AppRules) (d : Deed) (h : History) (x y : Standing) → standing_after r h ≡ Ok x → standing_after r (Did d ∷ h) ≡ Ok y → IsDone r d x y
done_stands r d h x y before after =
    let z : Result Amounts Break = after_occasion r.ons (OnTurn (line_of_deed d)) x.allowances in
    let a : IsAllowed z (after_deed r d.frame.protected d x) y = allowed z (after_deed r d.frame.protected d x) y (then_event r (Did d) h x y before after) in
    record { allowances = a.allowances; is = a.is; stands = a.stands }

-- ---- names

first_named : (sums : Amounts) (name : List ℕ) → has_sum (first_sums sums) name ≡ is_sum sums name
first_named [] name = refl
first_named (s ∷ sums) name = ap (λ (b : Bool). bytes_eq s.0 name || b) (first_named sums name)

moved_name : (picked adds : Bool) (k : ℕ) (s : Sum) → (cond picked (moved_sum adds k s) s).name ≡ s.name
moved_name picked adds k s = grind arith

picked_named : (picked : Bool) (l : SumLine) (public : List ℕ) (sums : List Sum) (name : List ℕ) → has_sum (cond picked (after_sum_line l public sums) sums) name ≡ has_sum sums name
picked_named true l public sums name = names_stay l public sums name
picked_named false l public sums name = refl

moves_named : (ls : List SumLine) (line public : List ℕ) (sums : List Sum) (name : List ℕ) → has_sum (after_moves ls line public sums) name ≡ has_sum sums name
moves_named [] line public sums name = refl
moves_named (l ∷ ls) line public sums name =
    moves_named ls line public (cond (fits l.line line) (after_sum_line l public sums) sums) name ∙ picked_named (fits l.line line) l public sums name

-- those that stand have the names of the rules' sums
pub record IsNamed (r : AppRules) (x : Standing) : Type 0 where
  pub kept : AreNamed r x.kept
  pub waiting : AreNamed r x.waiting

moved_named : (r : AppRules) (line public : List ℕ) (sums : List Sum) → AreNamed r sums → AreNamed r (after_moves r.moves line public sums)
moved_named r line public sums h = λ name. moves_named r.moves line public sums name ∙ h name

mode_named : (b : Bool) (r : AppRules) (sums : List Sum) (x : Standing) → AreNamed r sums → IsNamed r x → IsNamed r (cond b (record x { kept = sums; waiting = sums }) (record x { waiting = x.kept }))
mode_named true r sums x h n = record { kept = h; waiting = h }
mode_named false r sums x h n = record { kept = n.kept; waiting = n.kept }

protected_named : (mode : Option ℕ) (r : AppRules) (sums : List Sum) (x : Standing) → AreNamed r sums → IsNamed r x → IsNamed r (protected_sums mode sums x)
protected_named None r sums x h n = record { kept = n.kept; waiting = h }
protected_named (Some mode) r sums x h n = mode_named (mode == 1 || mode == 3) r sums x h n

deed_named : (b : Bool) (r : AppRules) (d : Deed) (x : Standing) → IsNamed r x → IsNamed r (after_deed r b d x)
deed_named false r d x n =
    let h = moved_named r (line_of_deed d) d.public x.kept n.kept in
    record { kept = h; waiting = h }
deed_named true r d x n = protected_named (mode_of d.ins) r (after_moves r.moves (line_of_deed d) d.public x.waiting) x (moved_named r (line_of_deed d) d.public x.waiting n.waiting) n

allowed_named : (r : AppRules) (z : Result Amounts Break) (x y : Standing) → (z >>= with_allowances x) ≡ Ok y → IsNamed r x → IsNamed r y
allowed_named r z x y e n = subst (IsNamed r) (sym (allowed z x y e).stands) (record { kept = n.kept; waiting = n.waiting })

failed_named : (r : AppRules) (o : Option ℕ) (x y : Standing) → after_abend o x ≡ Ok y → IsNamed r x → IsNamed r y
failed_named r None x y e n = subst (IsNamed r) (cc e) n
failed_named r (Some number) x y e n = absurd (cc e)

event_named : (r : AppRules) (e : Event) (x y : Standing) → after_event r e x ≡ Ok y → IsNamed r x → IsNamed r y
event_named r (Did d) x y e n = allowed_named r (after_occasion r.ons (OnTurn (line_of_deed d)) x.allowances) (after_deed r d.frame.protected d x) y e (deed_named d.frame.protected r d x n)
event_named r (Failed at cause) x y e n = failed_named r r.abends x y e n
event_named r (Commanded bytes) x y e n = allowed_named r (after_occasion r.ons (OnCommand (hex_text bytes)) x.allowances) x y e n
event_named r (Answers bytes o) x y e n = allowed_named r (after_occasion r.ons (OnAnswer (hex_text bytes) (outcome_text o)) x.allowances) x y e n
event_named r Session x y e n = allowed_named r (after_occasion r.ons OnSession x.allowances) x y e n

bound_named : (r : AppRules) (e : Event) (z : Result Standing Break) (y : Standing) → ((x : Standing) → z ≡ Ok x → IsNamed r x) → (z >>= after_event r e) ≡ Ok y → IsNamed r y
bound_named r e (Err b) y before is = absurd (cc is)
bound_named r e (Ok x) y before is = event_named r e x y is (before x refl)

-- the sums after a history that breaks nothing have the names of the rules
pub named_after : (r : AppRules) (h : History) (x : Standing) → standing_after r h ≡ Ok x → IsNamed r x
named_after r [] x e =
    let same : first_standing r ≡ x = cc e in
    subst (IsNamed r) same (record { kept = first_named r.sums; waiting = first_named r.sums })
named_after r (e ∷ h) x is = bound_named r e (standing_after r h) x (λ y before. named_after r h y before) is

-- the sums of a standing have the names that the rules give them
pub name_law : NameLaw
name_law r h x is = let named : IsNamed r x = named_after r h x is in (named.kept, named.waiting)

-- ---- the sums that lines move

lines_name : (r : AppRules) (sums : List Sum) (ls : List SumLine) → AreNamed r sums → all_pass (λ l. is_sum r.sums l.name) ls ≡ true → AllByRecursion (λ l. has_sum sums l.name ≡ true) ls
lines_name r sums [] h e = tt
lines_name r sums (l ∷ ls) h e =
    let p = and_parts (is_sum r.sums l.name) (all_pass (λ l. is_sum r.sums l.name) ls) e in
    (h l.name ∙ p.0, lines_name r sums ls h p.1)

read_named : (r : AppRules) (b : Bool) (x : Standing) → IsNamed r x → AreNamed r (read_sums b x)
read_named r true x n = n.waiting
read_named r false x n = n.kept

-- are there, if the rules have them
pub moves_have_sums : (r : AppRules) (h : History) (x : Standing) (b : Bool) → standing_after r h ≡ Ok x → all_pass (λ l. is_sum r.sums l.name) r.moves ≡ true
    → AllByRecursion (λ l. has_sum (read_sums b x) l.name ≡ true) r.moves
moves_have_sums r h x b is e = lines_name r (read_sums b x) r.moves (read_named r b x (named_after r h x is)) e
