-- Places after steps of a row.
use Rattle.std.specs.Prelude.{◌≡◌, ℕ, ◌+◌, ◌<◌, ◌≤◌, List, [], ◌∷◌, ◌++◌, length, drop, get_or, map, refl}
use Rattle.std.proofs.Common.{ap, sym, ◌∙◌, append_assoc}
use Rattle.std.proofs.lemmas.List.{append-nil, drop_more, drop_all, map-append}
use Rattle.mc_arith.specs.model_machine.specs.Frame.{Frame}
use Rattle.prove_facts.specs.model_rules.specs.Keeping.{Amounts}
use Rattle.prove_facts.specs.model_prove.specs.Sets.{Set}
use Rattle.prove_facts.specs.model_prove.specs.Facts.{Facts}
use Rattle.prove_facts.specs.model_prove.specs.Compares.{Compare}
use Rattle.prove_facts.specs.model_prove.specs.Keys.{Start, Call}
use Rattle.prove_facts.specs.model_prove.specs.Reach as reach
use Rattle.prove_facts.specs.model_prove.specs.Steps as steps
use Rattle.prove_keys.specs.declared.keys.Call as code
use Rattle.prove_keys.specs.Keys.{calls_of}
use Rattle.prove_spots.specs.Grounds.{Ground, spot_of, with_bytes, with_calls, with_compare}
use Rattle.prove_works.specs.Reaches.{calls_from}

-- ---- one place

-- a change of a place by values
pub changed : (f : List Set → steps.Spot → steps.Spot) (s : Start) (a : Amounts) (r : steps.Spot) (g h : Ground) (vs ws : List Set)
    → r ≡ f vs (spot_of s a g) → vs ≡ ws → g ≡ h → r ≡ f ws (spot_of s a h)
changed f s a r g h vs ws e p q = e ∙ ap (λ (v : List Set). f v (spot_of s a g)) p ∙ ap (λ (k : Ground). f ws (spot_of s a k)) q

-- a change of a place
pub changed_by : (f : steps.Spot → steps.Spot) (s : Start) (a : Amounts) (r : steps.Spot) (g h : Ground) → r ≡ f (spot_of s a g) → g ≡ h → r ≡ f (spot_of s a h)
changed_by f s a r g h e q = e ∙ ap (λ (k : Ground). f (spot_of s a k)) q

-- bytes of these values are written at an address
pub written_at : (s : Start) (a : Amounts) (r : steps.Spot) (g h : Ground) (at to : ℕ) (vs ws : List Set)
    → r ≡ steps.written at vs (spot_of s a g) → at ≡ to → vs ≡ ws → g ≡ h → r ≡ steps.written to ws (spot_of s a h)
written_at s a r g h at to vs ws e i p q =
    e ∙ ap (λ (k : ℕ). steps.written k vs (spot_of s a g)) i ∙ ap (λ (v : List Set). steps.written to v (spot_of s a g)) p
    ∙ ap (λ (k : Ground). steps.written to ws (spot_of s a k)) q

-- what a write within a reach leaves
pub reached_is : (f : Frame) (r : reach.Reach) (s : Start) (a : Amounts) (p g h i j : Ground) (cs ks : List Call) (bs : Facts) (c : Compare)
    → g ≡ p → h ≡ with_calls cs g → i ≡ with_bytes bs h → j ≡ with_compare c i → cs ≡ ks
    → bs ≡ reach.facts_not_reached f r p.bytes → c ≡ reach.compare_not_reached f r p.compare
    → spot_of s a j ≡ steps.reached_spot f r (spot_of s a p) ks
reached_is f r s a p g h i j cs ks bs c x y z w u v t =
    ap (λ (k : Ground). spot_of s a k) w
    ∙ ap (λ (k : Ground). spot_of s a (with_compare c k)) z
    ∙ ap (λ (k : Ground). spot_of s a (with_compare c (with_bytes bs k))) y
    ∙ ap (λ (k : Ground). spot_of s a (with_compare c (with_bytes bs (with_calls cs k)))) x
    ∙ ap (λ (k : List Call). spot_of s a (with_compare c (with_bytes bs (with_calls k p)))) u
    ∙ ap (λ (k : Facts). spot_of s a (with_compare c (with_bytes k (with_calls ks p)))) v
    ∙ ap (λ (k : Compare). spot_of s a (with_compare k (with_bytes (reach.facts_not_reached f r p.bytes) (with_calls ks p)))) t

-- ---- lists of places

-- one more place
pub one_more : (h : Ground → steps.Spot) (old new : List Ground) (g : Ground) (x : steps.Spot) → new ≡ old ++ g ∷ [] → h g ≡ x → map h new ≡ map h old ++ x ∷ []
one_more h old new g x e i =
    ap (λ (l : List Ground). map h l) e ∙ map-append h old (g ∷ []) ∙ ap (λ (p : steps.Spot). map h old ++ p ∷ []) i

-- a place alone
pub alone : (h : Ground → steps.Spot) (new : List Ground) (g : Ground) (x : steps.Spot) → new ≡ g ∷ [] → h g ≡ x → map h new ≡ x ∷ []
alone h new g x e i = ap (λ (l : List Ground). map h l) e ∙ ap (λ (p : steps.Spot). p ∷ []) i

abbrev Spots : Type 0
Spots = List steps.Spot

-- none so far
pub none_yet : (h : Ground → steps.Spot) (gs : List Ground) (rest : Spots) → gs ≡ [] → map h gs ++ rest ≡ rest
none_yet h gs rest e = ap (λ (l : List Ground). map h l ++ rest) e

first_of : (h : Ground → steps.Spot) (gs : List Ground) (m : Spots) (x : steps.Spot) → gs ≡ [] → m ≡ map h gs ++ x ∷ [] → m ≡ x ∷ []
first_of h gs m x e i = i ∙ ap (λ (l : List Ground). map h l ++ x ∷ []) e

-- two places one after another
pub two_of : (h : Ground → steps.Spot) (gs : List Ground) (m n : Spots) (x y : steps.Spot) → gs ≡ [] → m ≡ map h gs ++ x ∷ [] → n ≡ m ++ y ∷ [] → n ≡ x ∷ y ∷ []
two_of h gs m n x y e i j = j ∙ ap (λ (l : Spots). l ++ y ∷ []) (first_of h gs m x e i)

-- three places
pub three_of : (h : Ground → steps.Spot) (gs : List Ground) (m n o : Spots) (x y z : steps.Spot) → gs ≡ []
    → m ≡ map h gs ++ x ∷ [] → n ≡ m ++ y ∷ [] → o ≡ n ++ z ∷ [] → o ≡ x ∷ y ∷ z ∷ []
three_of h gs m n o x y z e i j k = k ∙ ap (λ (l : Spots). l ++ z ∷ []) (two_of h gs m n x y e i j)

-- four places
pub four_of : (h : Ground → steps.Spot) (gs : List Ground) (m n o p : Spots) (x y z w : steps.Spot) → gs ≡ []
    → m ≡ map h gs ++ x ∷ [] → n ≡ m ++ y ∷ [] → o ≡ n ++ z ∷ [] → p ≡ o ++ w ∷ [] → p ≡ x ∷ y ∷ z ∷ w ∷ []
four_of h gs m n o p x y z w e i j k l = l ∙ ap (λ (t : Spots). t ++ w ∷ []) (three_of h gs m n o x y z e i j k)

-- the places so far, and those of the numbers that are left, are all
pub each_next : (f : ℕ → steps.Spot) (list : List ℕ) (i d : ℕ) (old new all : Spots) → i < length list
    → new ≡ old ++ f (get_or list i d) ∷ [] → old ++ map f (drop i list) ≡ all → new ++ map f (drop (i + 1) list) ≡ all
each_next f list i d old new all l n e =
    ap (λ (t : Spots). t ++ map f (drop (i + 1) list)) n
    ∙ append_assoc old (f (get_or list i d) ∷ []) (map f (drop (i + 1) list))
    ∙ ap (λ (t : List ℕ). old ++ map f t) (sym (drop_more list i d l))
    ∙ e

-- after the last number
pub each_last : (f : ℕ → steps.Spot) (list : List ℕ) (i : ℕ) (old all : Spots) → length list ≤ i → old ++ map f (drop i list) ≡ all → old ≡ all
each_last f list i old all l e =
    sym (append-nil old) ∙ ap (λ (t : List ℕ). old ++ map f t) (sym (drop_all i list l)) ∙ e

-- the places of lists of calls
pub by_calls : (f : List Call → steps.Spot) (calls : List code.Call) (list : List ℕ) → map (λ i. f (calls_of (drop i calls))) list ≡ map f (calls_from calls list)
by_calls f calls [] = refl
by_calls f calls (i ∷ list) = ap (λ (t : Spots). f (calls_of (drop i calls)) ∷ t) (by_calls f calls list)
