-- Two states that are kept are equal, by the test of the code, exactly if they are one by definition.
use Rattle.std.proofs.Common.{◌≡◌, ℕ, Bool, true, false, ◌&&◌, List, [], ◌∷◌, map, refl, sym, ◌∙◌, ap, subst}
use Rattle.std.specs.Prelude.{◌==◌, bytes_eq}
use Rattle.std.proofs.lemmas.Bool.{and_parts, eq-eqb}
use Rattle.std.proofs.Math.Bool.{beq}
use Rattle.law_explore.specs.model_play.specs.Family.{is_running}
use Rattle.law_explore.specs.States as model
use Rattle.law_explore.specs.States.{is_same_base, is_same_live, is_same_state, are_same_allowances}
use Rattle.law_explore.proofs.SameStates.{state_is}
use Rattle.lab_key.specs.declared.kept.Rosters.{Rosters}
use Rattle.lab_key.specs.declared.state.CardState.{CardState}
use Rattle.lab_key.specs.KeptStates.{IsKeptState, card_state_eq}
use Rattle.lab_key.proofs.SameSessions.{both, same_bytes, equal_bytes}
use Rattle.lab_key.proofs.Reflexive.{base_self, live_self}
use Rattle.lab_key.proofs.SameKeys.{same_truth}
use Rattle.lab_key.proofs.Entries.{one_card_number}

names_heads : (x y : List ℕ) (xs ys : List (List ℕ)) → x ∷ xs ≡ y ∷ ys → (x ≡ y) × (xs ≡ ys)
names_heads x y xs ys h = (cc, cc)

amount_heads : (x y : ℕ) (xs ys : List ℕ) → x ∷ xs ≡ y ∷ ys → (x ≡ y) × (xs ≡ ys)
amount_heads x y xs ys h = (cc, cc)

-- allowances with the same names and amounts are the same
same_allowances : (xs ys : List (List ℕ × ℕ)) → map (λ a. a.0) xs ≡ map (λ a. a.0) ys → map (λ a. a.1) xs ≡ map (λ a. a.1) ys → are_same_allowances xs ys ≡ true
same_allowances [] [] h k = refl
same_allowances [] (y ∷ ys) h k = absurd (cc h)
same_allowances (x ∷ xs) [] h k = absurd (cc h)
same_allowances (x ∷ xs) (y ∷ ys) h k =
    let p = names_heads x.0 y.0 (map (λ (a : List ℕ × ℕ). a.0) xs) (map (λ (a : List ℕ × ℕ). a.0) ys) h in
    let q = amount_heads x.1 y.1 (map (λ (a : List ℕ × ℕ). a.1) xs) (map (λ (a : List ℕ × ℕ). a.1) ys) k in
    both _ _ (both _ _ (equal_bytes x.0 y.0 p.0) (eq-eqb x.1 y.1 q.0)) (same_allowances xs ys p.1 q.1)

runs_equal : (x y : Bool) → x ≡ y → beq x y ≡ true
runs_equal true true h = refl
runs_equal false false h = refl
runs_equal true false h = absurd (cc h)
runs_equal false true h = absurd (cc h)

pub state_same : (root : List (List ℕ)) (budget : ℕ) (names : List (List ℕ)) (r : Rosters) (s t : CardState) (c d : model.CardState)
    → IsKeptState root budget names r s c → IsKeptState root budget names r t d → card_state_eq s t ≡ is_same_state c d
unfolding is_same_state
state_same root budget names r s t c d h k = same_truth (card_state_eq s t) (is_same_state c d) there back
  where
    number : (s.card == t.card) ≡ (is_same_base c.base d.base && is_same_live c.live d.live)
    number = one_card_number root r s.card t.card c.base d.base c.live d.live h.card k.card

    there : card_state_eq s t ≡ true → is_same_state c d ≡ true
    there e =
        let rest = beq s.runs t.runs && bytes_eq s.allowances.items t.allowances.items in
        let first = and_parts (s.card == t.card) rest e in
        let second = and_parts (beq s.runs t.runs) (bytes_eq s.allowances.items t.allowances.items) first.1 in
        let card = and_parts (is_same_base c.base d.base) (is_same_live c.live d.live) (sym number ∙ first.0) in
        let amounts : map (λ (a : List ℕ × ℕ). a.1) c.allowances ≡ map (λ (a : List ℕ × ℕ). a.1) d.allowances =
        sym h.amounts ∙ same_bytes s.allowances.items t.allowances.items second.1 ∙ k.amounts in
        both _ _ (both _ _ (both _ _ (same_allowances c.allowances d.allowances (h.names_are ∙ sym k.names_are) amounts) card.1) (eq-eqb c.budget d.budget (h.budget_is ∙ sym k.budget_is))) card.0

    back : is_same_state c d ≡ true → card_state_eq s t ≡ true
    back e =
        let one : c ≡ d = state_is c d e in
        let base : is_same_base c.base d.base ≡ true = subst (λ (x : model.CardState). is_same_base c.base x.base ≡ true) one (base_self c.base) in
        let live : is_same_live c.live d.live ≡ true = subst (λ (x : model.CardState). is_same_live c.live x.live ≡ true) one (live_self c.live) in
        let runs : s.runs ≡ t.runs = h.runs ∙ ap (λ (x : model.CardState). is_running x.live) one ∙ sym k.runs in
        let amounts : s.allowances.items ≡ t.allowances.items = h.amounts ∙ ap (λ (x : model.CardState). map (λ (a : List ℕ × ℕ). a.1) x.allowances) one ∙ sym k.amounts in
        both _ _ (number ∙ both _ _ base live) (both _ _ (runs_equal s.runs t.runs runs) (equal_bytes s.allowances.items t.allowances.items amounts))
