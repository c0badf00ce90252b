-- What is known after an event, held against what the table has.
use Rattle.std.specs.Prelude.{◌≡◌, ℕ, Bool, true, false, not, ◌||◌, List, [], ◌∷◌, length, bytes_eq, Option, Some, Result, Ok}
use Rattle.std.proofs.Common.{ap, sym, subst, refl, ◌∙◌, arith}
use Rattle.std.proofs.lemmas.Slice.Eq.{bytes_eq-Decides}
use Rattle.mc_isa.specs.model_machine.specs.Primitives.{Then, Goes, Exits, Delegates}
use Rattle.prove_facts.specs.model_rules.specs.Keeping.{Amounts, Break, OnTurn, after_occasion}
use Rattle.prove_facts.specs.model_rules.specs.Rules.{AppRules, OnLine, Total}
use Rattle.prove_occasions.specs.Amounts.{AreAfter}
use Rattle.prove_facts.specs.model_prove.specs.Keys.{same_amounts}
use Rattle.prove_sums.specs.model_sums.specs.Closed.{event_leads_to, has_sums}
use Rattle.prove_sums.specs.model_sums.specs.Events.{counted, drops}
use Rattle.prove_sums.specs.model_sums.specs.Moves.{after_next}
use Rattle.prove_sums.specs.model_sums.specs.Origins.{Origins}
use Rattle.prove_sums.specs.model_sums.specs.Sums.{Sums, sums_follow}
use Rattle.prove_sums.specs.model_sums.specs.Writes.{delegated}
use Rattle.prove_keys.specs.Keys.{amounts_of}
use Rattle.prove_keys.proofs.SameLemmas.{amounts_are}
use Rattle.prove_scenes.specs.declared.shapes.Next.{Next}
use Rattle.prove_scenes.specs.declared.shapes.Next.TheVariants as next
use Rattle.prove_scenes.specs.Outlines.{outlined_next}
use Rattle.prove_scenes.specs.ShapeValues.{next_value}
use Rattle.prove_sums.specs.declared.values.Sums as code
use Rattle.prove_sums.specs.Values.{SumsAre}

-- what is counted, unless the event is dropped
pub counted_is : (a : AppRules) (p q : Bool) (m k : Option ℕ) (d : Bool) (line : List ℕ) (o : Origins) (v : Sums) (after : code.Sums)
    → d ≡ drops p m → p ≡ q → m ≡ k
    → SumsAre after (counted d a.totals a.moves line o v) → SumsAre after (counted (drops q k) a.totals a.moves line o v)
counted_is a p q m k d line o v after e f g so =
    subst (λ (d : Bool). SumsAre after (counted d a.totals a.moves line o v))
    (e ∙ ap (λ (p : Bool). drops p m) f ∙ ap (λ (m : Option ℕ). drops q m) g) so

pub evened : (b even : Bool) → even ≡ true → (not b || even) ≡ true
evened true even e = e
evened false even e = refl

-- what a place has follows
pub sums_there : (ts : List Total) (v w : Sums) (o : Option Sums) → o ≡ Some w → sums_follow ts v w ≡ true → has_sums ts v o ≡ true
sums_there ts v w o e so = subst (λ (o : Option Sums). has_sums ts v o ≡ true) (sym e) so

-- what is known where the frame goes on
goes_on : (n : Then) (v : Sums) → outlined_next n ≡ Goes → after_next n v ≡ v
goes_on Goes v e = refl
goes_on Exits v e = refl
goes_on (Delegates name) v e = absurd (cc e)

ends : (n : Then) (v : Sums) → outlined_next n ≡ Exits → after_next n v ≡ v
ends Goes v e = refl
ends Exits v e = refl
ends (Delegates name) v e = absurd (cc e)

after_delegation : (n : Then) (v : Sums) → outlined_next n ≡ Delegates [] → after_next n v ≡ delegated v
after_delegation Goes v e = absurd (cc e)
after_delegation Exits v e = absurd (cc e)
after_delegation (Delegates name) v e = refl

module _ (ts : List Total) (n : Then) (v w : Sums) (x : Next) (o : Option Sums) (e : outlined_next n ≡ next_value x) (there : o ≡ Some w) where
  pub there_delegated : x ≡ next.Delegates → sums_follow ts (delegated v) w ≡ true → has_sums ts (after_next n v) o ≡ true
  there_delegated is so =
      sums_there ts (after_next n v) w o there
      (subst (λ (y : Sums). sums_follow ts y w ≡ true) (sym (after_delegation n v (subst (λ (x : Next). outlined_next n ≡ next_value x) is e))) so)

  pub there_going : x ≡ next.Goes → sums_follow ts v w ≡ true → has_sums ts (after_next n v) o ≡ true
  there_going is so =
      sums_there ts (after_next n v) w o there
      (subst (λ (y : Sums). sums_follow ts y w ≡ true) (sym (goes_on n v (subst (λ (x : Next). outlined_next n ≡ next_value x) is e))) so)

  pub there_ending : x ≡ next.Exits → sums_follow ts v w ≡ true → has_sums ts (after_next n v) o ≡ true
  there_ending is so =
      sums_there ts (after_next n v) w o there
      (subst (λ (y : Sums). sums_follow ts y w ≡ true) (sym (ends n v (subst (λ (x : Next). outlined_next n ≡ next_value x) is e))) so)

-- ---- where an event leads

heads : {A : Type 0} (a b : A) (s t : List A) → a ∷ s ≡ b ∷ t → (a ≡ b) × (s ≡ t)
heads a b s t e = (cc, cc)

-- as many amounts as there are names are those that their names have
amounts_one : (names : List (List ℕ)) (ks js : List ℕ) → length ks ≡ length names → length js ≡ length names → amounts_of names ks ≡ amounts_of names js → ks ≡ js
amounts_one [] [] [] p q e = refl
amounts_one [] (k ∷ ks) js p q e = absurd (omega arith)
amounts_one [] [] (j ∷ js) p q e = absurd (omega arith)
amounts_one (n ∷ ns) [] js p q e = absurd (omega arith)
amounts_one (n ∷ ns) (k ∷ ks) [] p q e = absurd (omega arith)
amounts_one (n ∷ ns) (k ∷ ks) (j ∷ js) p q e =
    let parts = heads (n, k) (n, j) (amounts_of ns ks) (amounts_of ns js) e in
    let rest : ks ≡ js = amounts_one ns ks js (omega arith) (omega arith) parts.1 in
    let here : k ≡ j = ap (λ (x : List ℕ × ℕ). x.1) parts.0 in
    λ i. here i ∷ rest i

apart : (b : Bool) → (b ≡ true → ⊥) → b ≡ false
apart true h = absurd (h refl)
apart false h = refl

-- an event that leads to other amounts does not lead to those of a place
pub leads_elsewhere : (o : Result Amounts Break) (names : List (List ℕ)) (a b : List ℕ) (rest : Bool) → o ≡ Ok (amounts_of names a) → length a ≡ length names
    → length b ≡ length names → bytes_eq a b ≡ false → (not (event_leads_to o (amounts_of names b)) || rest) ≡ true
leads_elsewhere o names a b rest e p q differ =
    let no : same_amounts (amounts_of names a) (amounts_of names b) ≡ false =
    apart (same_amounts (amounts_of names a) (amounts_of names b))
    (λ h. cc (sym differ ∙ (bytes_eq-Decides a b).1 (amounts_one names a b p q (amounts_are (amounts_of names a) (amounts_of names b) h))))
    in
    subst (λ (o : Result Amounts Break). (not (event_leads_to o (amounts_of names b)) || rest) ≡ true) (sym e)
    (subst (λ (b : Bool). (not b || rest) ≡ true) (sym no) refl)

-- an event at its line
pub elsewhere : (ons : List OnLine) (l m : List ℕ) (names : List (List ℕ)) (old left a b : List ℕ) (rest : Bool) → l ≡ m
    → AreAfter names (after_occasion ons (OnTurn l) (amounts_of names old)) left → a ≡ left → length b ≡ length names → bytes_eq a b ≡ false
    → (not (event_leads_to (after_occasion ons (OnTurn m) (amounts_of names old)) (amounts_of names b)) || rest) ≡ true
elsewhere ons l m names old left a b rest same after is size differ =
    subst (λ (m : List ℕ). (not (event_leads_to (after_occasion ons (OnTurn m) (amounts_of names old)) (amounts_of names b)) || rest) ≡ true) same
    (leads_elsewhere (after_occasion ons (OnTurn l) (amounts_of names old)) names left b rest after.0 after.1 size (ap (λ (x : List ℕ). bytes_eq x b) (sym is) ∙ differ))
