use Rattle.std.proofs.Common.{◌∙◌, ◌≡◌, ℕ, sym, ap, arith, refl, List, [], ◌∷◌, get_or, Some}
use Rattle.prove_facts.proofs.LeastLemmas.{least_at, least_none, first_word, first_two, first_three}
use Rattle.prove_facts.proofs.values.least_of.Goals as goal

pub returns-then-a-ne0 : goal.returns-then-a-ne0
returns-then-a-ne0 c =
    let ws : List ℕ = c.args.a ∷ c.args.b ∷ c.args.c ∷ c.args.d ∷ [] in
    ap Some c.lowest.ensures ∙ sym (least_at ws 0 c.args.a (omega arith) refl (omega arith) (omega arith) (λ j h. absurd (omega (arith, h))))

pub returns-then-b-ne0 : goal.returns-then-b-ne0
returns-then-b-ne0 c =
    let ws : List ℕ = c.args.a ∷ c.args.b ∷ c.args.c ∷ c.args.d ∷ [] in
    ap Some c.lowest-then-b-ne0.ensures
    ∙ sym (least_at ws 1 c.args.b (omega arith) refl (omega arith) (omega arith) (first_word (λ (j : ℕ). get_or ws j 0 ≡ 0) (omega arith)))

pub returns-then-c-ne0 : goal.returns-then-c-ne0
returns-then-c-ne0 c =
    let ws : List ℕ = c.args.a ∷ c.args.b ∷ c.args.c ∷ c.args.d ∷ [] in
    ap Some c.lowest-then-c-ne0.ensures
    ∙ sym (least_at ws 2 c.args.c (omega arith) refl (omega arith) (omega arith) (first_two (λ (j : ℕ). get_or ws j 0 ≡ 0) (omega arith) (omega arith)))

pub returns-then-d-ne0 : goal.returns-then-d-ne0
returns-then-d-ne0 c =
    let ws : List ℕ = c.args.a ∷ c.args.b ∷ c.args.c ∷ c.args.d ∷ [] in
    ap Some c.lowest-then-d-ne0.ensures
    ∙ sym (least_at ws 3 c.args.d (omega arith) refl (omega arith) (omega arith) (first_three (λ (j : ℕ). get_or ws j 0 ≡ 0) (omega arith) (omega arith) (omega arith)))

pub returns-else-d-ne0 : goal.returns-else-d-ne0
returns-else-d-ne0 c =
    let ws : List ℕ = c.args.a ∷ c.args.b ∷ c.args.c ∷ c.args.d ∷ [] in
    sym (least_none ws (omega arith) (omega arith) (omega arith) (omega arith))
