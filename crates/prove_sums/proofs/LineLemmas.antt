-- Lines about sums, and what they do to totals.
use Rattle.std.proofs.Common.{◌≡◌, ◌∙◌, ℕ, ◌+◌, ◌<◌, ◌≤◌, List, [], ◌∷◌, length, drop, get_or, Bool, true, false, cond, Option, Some, None, refl, sym, ap, subst}
use Rattle.std.proofs.lemmas.List.{drop_more, drop_all}
use Rattle.std.proofs.lemmas.Option.{same_Some}
use Rattle.lab_app_rules.specs.model_events.specs.Matching.{fits}
use Rattle.prove_facts.specs.model_rules.specs.Rules.{SumLine, Total}
use Rattle.prove_forms.specs.model_sums.specs.Events.{form_of_amount, off_after_line, offs_after_event, offs_after_line}
use Rattle.prove_forms.specs.model_sums.specs.Origins.{Origins}
use Rattle.lab_app_rules.specs.declared.rules.Amount.{Amount}
use Rattle.lab_app_rules.specs.declared.rules.On.{On}
use Rattle.lab_app_rules.specs.declared.rules.SignedSum.{SignedSum}
use Rattle.prove_forms.specs.declared.forms.Form.{Form}
use Rattle.prove_forms.specs.Forms.{OptionalIs, OptionalsAre}
use Rattle.prove_occasions.proofs.AmountLemmas.{fits_plain}
use Rattle.lab_app_rules.specs.Sums.{amount_value}
use Rattle.lab_app_rules.specs.Sums.{AreSumLines, AreTerms, FirstSumLine, IsSumRule, move_of}
use Rattle.prove_sums.specs.Lines.{IsLineOf, IsTerm, off_by, offs_by}
use Rattle.prove_sums.proofs.WalkLemmas.{Off, Offs}

-- ---- terms

-- the terms of a line: whether each is subtracted, and the name of its sum
abbrev pub Terms : Type 0
Terms = List (Bool × List ℕ)

record FirstTerm (names : List (List ℕ)) (left : Terms) (s : SignedSum) (ss : List SignedSum) : Type 0 where
  pub term : Bool × List ℕ
  pub is : IsTerm names term s
  pub more : Terms
  pub are : AreTerms names more ss
  pub same : left ≡ term ∷ more

first_by : (names : List (List ℕ)) (left : Terms) (s : SignedSum) (ss : List SignedSum) → AreTerms names left (s ∷ ss) → FirstTerm names left s ss
first_by names [] s ss are = absurd are
first_by names (t ∷ ts) s ss are = record { term = t; is = record { adds = are.0; name = are.1 }; more = ts; are = are.2; same = refl }

no_term : (names : List (List ℕ)) (left : Terms) (ss : List SignedSum) (i : ℕ) → length ss ≤ i → AreTerms names left (drop i ss) → left ≡ []
no_term names [] ss i l are = refl
no_term names (t ∷ left) ss i l are = absurd (subst (λ (x : List SignedSum). AreTerms names (t ∷ left) x) (drop_all i ss l) are)

-- the terms that are left do from here what all do from the start
pub record Fold (names : List (List ℕ)) (n : ℕ) (l : SumLine) (g : Off) (ts : Terms) (f : Off) (ss : List SignedSum) (p : Option Form) : Type 0 where
  pub left : Terms
  pub are : AreTerms names left ss
  pub off : Off
  pub is : OptionalIs p off
  pub same : off_after_line n l g left off ≡ off_after_line n l g ts f

-- a term that moves a total leaves those after it to move it further
pub fold_next : (names : List (List ℕ)) (n : ℕ) (l : SumLine) (g : Off) (ts : Terms) (f : Off) (ss : List SignedSum) (i : ℕ) (s : SignedSum) (p q : Option Form) → s ≡ get_or ss i s
    → i < length ss → ((t : Bool × List ℕ) (o : Off) → IsTerm names t s → OptionalIs p o → OptionalIs q (off_by n l g t o))
    → Fold names n l g ts f (drop i ss) p → Fold names n l g ts f (drop (i + 1) ss) q
fold_next names n l g ts f ss i s p q e less one w =
    let t =
    first_by names w.left s (drop (i + 1) ss)
    (subst (λ (x : List SignedSum). AreTerms names w.left x) (drop_more ss i s less ∙ ap (λ (x : SignedSum). x ∷ drop (i + 1) ss) (sym e)) w.are) in
    record {
      left = t.more;
      are = t.are;
      off = off_by n l g t.term w.off;
      is = one t.term w.off t.is w.is;
      same = sym (ap (λ (x : Terms). off_after_line n l g x w.off) t.same) ∙ w.same;
    }

-- if no term is left, the total is moved by all of them
pub fold_end : (names : List (List ℕ)) (n : ℕ) (l : SumLine) (g : Off) (ts : Terms) (f : Off) (ss : List SignedSum) (i : ℕ) (p : Option Form) → length ss ≤ i
    → Fold names n l g ts f (drop i ss) p → OptionalIs p (off_after_line n l g ts f)
fold_end names n l g ts f ss i p less w =
    subst (λ (x : Off). OptionalIs p x) (sym (ap (λ (x : Terms). off_after_line n l g x w.off) (no_term names w.left ss i less w.are)) ∙ w.same) w.is

-- ---- lines

-- the first line that is left, if it is about a sum, and those after it
record FirstLine (names : List (List ℕ)) (ls : List SumLine) (on : On) (ons : List On) : Type 0 where
  pub line : Option SumLine
  pub is : IsLineOf names line on
  pub more : List SumLine
  pub are : AreSumLines names more ons
  pub same : (ts : List Total) (text : List ℕ) (o : Origins) (fs : Offs) → offs_after_event ts ls text o fs ≡ offs_after_event ts more text o (offs_by ts line text o fs)

line_by : (m : Option (Bool × Amount)) (names : List (List ℕ)) (ls : List SumLine) (on : On) (ons : List On) → move_of on.effect ≡ m
    → FirstSumLine m names ls on (λ more. AreSumLines names more ons) → FirstLine names ls on ons
line_by None names ls on ons e first = record { line = None; is = e; more = ls; are = first; same = λ ts text o fs. refl }
line_by (Some m) names [] on ons e first = absurd first
line_by (Some m) names (l ∷ ls) on ons e first =
    record { line = Some l; is = (m, e, first.0); more = ls; are = first.1; same = λ ts text o fs. refl }

are_first : (names : List (List ℕ)) (ls : List SumLine) (on : On) (ons : List On) → AreSumLines names ls (on ∷ ons)
    → FirstSumLine (move_of on.effect) names ls on (λ more. AreSumLines names more ons)
are_first names [] on ons h = h
are_first names (l ∷ ls) on ons h = h

no_line : (names : List (List ℕ)) (ls : List SumLine) (ons : List On) (i : ℕ) → length ons ≤ i → AreSumLines names ls (drop i ons) → ls ≡ []
no_line names [] ons i l are = refl
no_line names (k ∷ ls) ons i l are = absurd (subst (λ (x : List On). AreSumLines names (k ∷ ls) x) (drop_all i ons l) are)

-- the lines that are left do from here what all do from the start
pub record Lines (names : List (List ℕ)) (ts : List Total) (ls : List SumLine) (text : List ℕ) (o : Origins) (fs : Offs) (ons : List On) (ps : List (Option Form)) : Type 0 where
  pub left : List SumLine
  pub are : AreSumLines names left ons
  pub offs : Offs
  pub is : OptionalsAre ps offs
  pub same : offs_after_event ts left text o offs ≡ offs_after_event ts ls text o fs

-- a line that moves the totals leaves those after it to move them further
pub lines_next : (names : List (List ℕ)) (ts : List Total) (ls : List SumLine) (text : List ℕ) (o : Origins) (fs : Offs) (ons : List On) (i : ℕ) (on : On) (ps qs : List (Option Form))
    → on ≡ get_or ons i on → i < length ons
    → ((l : Option SumLine) (gs : Offs) → IsLineOf names l on → OptionalsAre ps gs → OptionalsAre qs (offs_by ts l text o gs))
    → Lines names ts ls text o fs (drop i ons) ps → Lines names ts ls text o fs (drop (i + 1) ons) qs
lines_next names ts ls text o fs ons i on ps qs e less one w =
    let rest = drop (i + 1) ons in
    let f = line_by (move_of on.effect) names w.left on rest refl (are_first names w.left on rest (subst (λ (x : List On). AreSumLines names w.left x) (drop_more ons i on less ∙ ap (λ (x : On). x ∷ rest) (sym e)) w.are)) in
    record {
      left = f.more;
      are = f.are;
      offs = offs_by ts f.line text o w.offs;
      is = one f.line w.offs f.is w.is;
      same = sym (f.same ts text o w.offs) ∙ w.same;
    }

-- if no line is left, the totals are moved by all of them
pub lines_end : (names : List (List ℕ)) (ts : List Total) (ls : List SumLine) (text : List ℕ) (o : Origins) (fs : Offs) (ons : List On) (i : ℕ) (ps : List (Option Form)) → length ons ≤ i
    → Lines names ts ls text o fs (drop i ons) ps → OptionalsAre ps (offs_after_event ts ls text o fs)
lines_end names ts ls text o fs ons i ps less w =
    subst (λ (x : Offs). OptionalsAre ps x) (sym (ap (λ (x : List SumLine). offs_after_event ts x text o w.offs) (no_line names w.left ons i less w.are)) ∙ w.same) w.is

-- ---- one line

-- a line about an allowance does nothing
pub none_by : (names : List (List ℕ)) (ts : List Total) (l : Option SumLine) (on : On) (text : List ℕ) (o : Origins) (fs : Offs) (ps : List (Option Form)) → move_of on.effect ≡ None
    → IsLineOf names l on → OptionalsAre ps fs → OptionalsAre ps (offs_by ts l text o fs)
none_by names ts None on text o fs ps e is are = are
none_by names ts (Some l) on text o fs ps e is are = absurd (cc (e, is.1))

-- a line about a sum that fits the line of an instruction, or does not
pub fits_by : (names : List (List ℕ)) (m : Bool × Amount) (l : SumLine) (on : On) (text : List ℕ) → IsSumRule names m l on → fits on.pattern.items text ≡ fits l.line text
fits_by names m l on text is = ap (λ (x : List ℕ). fits x text) is.pattern ∙ fits_plain l.line text

apart_by : (b : Bool) (fs gs : Offs) (ps : List (Option Form)) → b ≡ false → OptionalsAre ps gs → OptionalsAre ps (cond b fs gs)
apart_by true fs gs ps e are = absurd (cc e)
apart_by false fs gs ps e are = are

-- a line that applies leaves by how much totals are off as it moves them
pub fitting_by : (b : Bool) (fs gs : Offs) (ps : List (Option Form)) → b ≡ true → OptionalsAre ps fs → OptionalsAre ps (cond b fs gs)
fitting_by true fs gs ps e are = are
fitting_by false fs gs ps e are = absurd (cc e)

-- one that does not fit does nothing
pub unfit_by : (names : List (List ℕ)) (ts : List Total) (l : Option SumLine) (on : On) (m : Bool × Amount) (text : List ℕ) (o : Origins) (fs : Offs) (ps : List (Option Form))
    → move_of on.effect ≡ Some m → fits on.pattern.items text ≡ false → IsLineOf names l on → OptionalsAre ps fs → OptionalsAre ps (offs_by ts l text o fs)
unfit_by names ts None on m text o fs ps e f is are = absurd (cc (e, is))
unfit_by names ts (Some l) on m text o fs ps e f is are =
    apart_by (fits l.line text) (offs_after_line l (form_of_amount o l.amount) ts fs) fs ps (sym (fits_by names is.0 l on text is.2) ∙ f) are

-- the move of a line is that of its effect
pub same_move : (names : List (List ℕ)) (m k : Bool × Amount) (l : SumLine) (on : On) → move_of on.effect ≡ Some m → move_of on.effect ≡ Some k → IsSumRule names k l on → IsSumRule names m l on
same_move names m k l on e f is = subst (λ (x : Bool × Amount). IsSumRule names x l on) (same_Some k m (sym f ∙ e)) is

-- one that fits does what it does with its own amount
pub fit_by : (names : List (List ℕ)) (ts : List Total) (l : Option SumLine) (on : On) (m : Bool × Amount) (text : List ℕ) (o : Origins) (fs : Offs) (ps : List (Option Form))
    → move_of on.effect ≡ Some m → fits on.pattern.items text ≡ true → IsLineOf names l on
    → ((k : SumLine) → IsSumRule names m k on → OptionalsAre ps (offs_after_line k (form_of_amount o (amount_value m.1)) ts fs))
    → OptionalsAre ps (offs_by ts l text o fs)
fit_by names ts None on m text o fs ps e f is one = absurd (cc (e, is))
fit_by names ts (Some l) on m text o fs ps e f is one =
    let r = same_move names m is.0 l on e is.1 is.2 in
    fitting_by (fits l.line text) (offs_after_line l (form_of_amount o l.amount) ts fs) fs ps (sym (fits_by names is.0 l on text is.2) ∙ f)
    (subst (λ (x : Off). OptionalsAre ps (offs_after_line l x ts fs)) (ap (λ a. form_of_amount o a) (sym r.amount)) (one l r))
