-- The steps from the first state to a last one.
use Rattle.std.proofs.Common.{◌≡◌, ℕ, ◌+◌, ◌-◌, ◌<◌, ◌≤◌, min, List, [], ◌∷◌, ◌++◌, drop, length, reverse, take, Some, refl, arith, sym, ap, subst, ◌∙◌, slice_get, append_assoc}
use Rattle.std.proofs.lemmas.List.{append-nil, length-reverse, reverse-append}
use Rattle.law_explore_text.specs.law_explore.specs.Rules as rule
use Rattle.law_explore_text.specs.law_explore.specs.Search.{Node}
use Rattle.law_explore_text.specs.law_explore.specs.Tries.{Try}
use Rattle.lab_rules.specs.Meanings.{AlikeLists}
use Rattle.lab_search.specs.declared.journey.Step.{Step}
use Rattle.lab_search.specs.Rounds.{AreReached, IsTry}
use Rattle.lab_search.proofs.AlikeLemmas.{alike_more}

-- from a last step back to the node at a place: the steps are the first of the tries, and the node's are the others
pub record Walked (moves : List rule.Move) (ns : List Node) (steps : List Step) (at : ℕ) (tries : List Try) : Type 0 where
  pub front : List Try
  pub node : Node
  pub alike : AlikeLists (IsTry moves) steps front
  pub found : slice_get ns at ≡ Some node
  pub parts : front ++ node.path ≡ tries

-- the last step
pub walked_first : (moves : List rule.Move) (ns : List Node) (s : Step) (n : Node) (t : Try) (steps : List Step) → steps ≡ [] ++ s ∷ [] → slice_get ns s.before ≡ Some n → IsTry moves s t
    → Walked moves ns steps s.before (t ∷ n.path)
walked_first moves ns s n t steps e h is =
    record { front = t ∷ []; node = n; alike = subst (λ (xs : List Step). AlikeLists (IsTry moves) xs (t ∷ [])) (sym e) (is, tt); found = h; parts = refl }

-- a step back
pub walked_more : (moves : List rule.Move) (ns : List Node) (all : List Step) (steps new : List Step) (at next : ℕ) (s : Step) (tries : List Try) → AreReached moves all ns → 0 < at
    → slice_get all (at - 1) ≡ Some s → new ≡ steps ++ s ∷ [] → next ≡ min s.before (at - 1) → Walked moves ns steps at tries → Walked moves ns new next tries
walked_more moves ns all steps new at next s tries h pos found e n w =
    let place : at - 1 + 1 ≡ at = omega (arith, pos) in
    let r = h.each (at - 1) s w.node found (subst (λ (k : ℕ). slice_get ns k ≡ Some w.node) (sym place) w.found) in
    let earlier = r.earlier in
    let before : next ≡ s.before = omega (arith, earlier, n) in
    record {
      front = w.front ++ r.last ∷ [];
      node = r.before;
      alike = subst (λ (xs : List Step). AlikeLists (IsTry moves) xs (w.front ++ r.last ∷ [])) (sym e) (alike_more (IsTry moves) steps w.front s r.last w.alike r.is);
      found = subst (λ (k : ℕ). slice_get ns k ≡ Some r.before) (sym before) r.found;
      parts = append_assoc w.front (r.last ∷ []) r.before.path ∙ ap (λ ts. w.front ++ ts) (sym r.path) ∙ w.parts;
    }

alike_reverse_onto : {A B : Type 0} (R : A → B → Type 0) (xs us : List A) (ys vs : List B) → AlikeLists R xs ys → AlikeLists R us vs → AlikeLists R (reverse xs ++ us) (reverse ys ++ vs)
alike_reverse_onto R [] us [] vs h g = g
alike_reverse_onto R [] us (y ∷ ys) vs h g = absurd h
alike_reverse_onto R (x ∷ xs) us [] vs h g = absurd h
alike_reverse_onto R (x ∷ xs) us (y ∷ ys) vs h g =
    let p = sym (ap (λ zs. zs ++ us) (reverse-append (x ∷ []) xs) ∙ append_assoc (reverse xs) (x ∷ []) us) in
    let q = sym (ap (λ zs. zs ++ vs) (reverse-append (y ∷ []) ys) ∙ append_assoc (reverse ys) (y ∷ []) vs) in
    subst (λ zs. AlikeLists R zs (reverse (y ∷ ys) ++ vs)) p (subst (λ zs. AlikeLists R (reverse xs ++ (x ∷ us)) zs) q (alike_reverse_onto R xs (x ∷ us) ys (y ∷ vs) h.1 (h.0, g)))

-- related lists are related when they are turned round
pub alike_reverse : {A B : Type 0} (R : A → B → Type 0) (xs : List A) (ys : List B) → AlikeLists R xs ys → AlikeLists R (reverse xs) (reverse ys)
alike_reverse R xs ys h =
    subst (λ zs. AlikeLists R zs (reverse ys)) (append-nil (reverse xs)) (subst (λ zs. AlikeLists R (reverse xs ++ []) zs) (append-nil (reverse ys)) (alike_reverse_onto R xs [] ys [] h tt))

-- the first state is reached
pub walked_all : (moves : List rule.Move) (ns : List Node) (all : List Step) (steps : List Step) (at : ℕ) (tries : List Try) → AreReached moves all ns → at ≤ 0 → Walked moves ns steps at tries
    → AlikeLists (IsTry moves) (reverse steps) (reverse tries)
walked_all moves ns all steps at tries h end w =
    let none : at ≡ 0 = omega (arith, end) in
    let path = h.first w.node (subst (λ (k : ℕ). slice_get ns k ≡ Some w.node) none w.found) in
    let whole : w.front ≡ tries = sym (append-nil w.front) ∙ ap (λ ts. w.front ++ ts) (sym path) ∙ w.parts in
    alike_reverse (IsTry moves) steps tries (subst (λ (ts : List Try). AlikeLists (IsTry moves) steps ts) whole w.alike)

-- ---- the list that is turned round

take_front : (xs ys : List Step) → take (length xs) (xs ++ ys) ≡ xs
take_front [] ys = refl
take_front (x ∷ xs) ys = ap (λ zs. x ∷ zs) (take_front xs ys)

-- a list that was turned round in place is the reverse of its elements
pub turned : (n : ℕ) (xs ys steps : List Step) → n ≡ length steps → xs ≡ reverse ys → ys ≡ steps → take n (xs ++ drop (length xs) steps) ≡ reverse steps
turned n xs ys steps count rev same =
    let all : xs ≡ reverse steps = rev ∙ ap reverse same in
    let long : n ≡ length xs = count ∙ sym (length-reverse steps) ∙ ap length (sym all) in
    ap (λ k. take k (xs ++ drop (length xs) steps)) long ∙ take_front xs (drop (length xs) steps) ∙ all
