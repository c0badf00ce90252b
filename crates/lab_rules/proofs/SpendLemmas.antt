-- Amounts and the allowances that they are of.
use Rattle.std.proofs.Common.{◌≡◌, ℕ, zero, suc, ◌-◌, List, [], ◌∷◌, map, Bool, true, false, cond, Option, Some, None, Result, Ok, Err, refl, sym, ap, subst, ◌∙◌}
use Rattle.std.specs.Prelude.{bytes_eq, nat_le, option_and_then, option_map, slice_get, slice_index_or, slice_set, unwrap_or}
use Rattle.std.proofs.lemmas.Slice.Eq.{bytes_eq-Decides}
use Rattle.model_device.specs.Bytes.{lookup}
use Rattle.mc_text.specs.model_text.specs.Text.{◌>>=◌}
use Rattle.law_explore.specs.model_play.specs.Play.{Step}
use Rattle.law_explore.specs.Rules as model
use Rattle.law_explore.specs.Rules.{Allows, Spends}
use Rattle.law_explore.specs.Tries.{after_spending, allowances_after, effect_times, times}
use Rattle.law_explore.specs.model_events.specs.Amounts.{amount_of, with_amount}
use Rattle.lab_rules.specs.declared.rules.OnRule.{OnRule}
use Rattle.lab_rules.specs.Meanings.{effect_value, place_of, AlikeLists, AreDistinct, IsOn}
use Rattle.lab_rules.specs.Occasions.{amount_times, amounts_after_rule, amounts_by, amounts_from, amounts_of, capped, names_of, with_amount_at, AmountsAre, AreSpent, CountsMove}

-- ---- places

place_amount_by : (b : Bool) (e : ℕ) (o p : Option ℕ) (ms : List ℕ) → ((i : ℕ) → p ≡ Some i → slice_get ms i ≡ Some (unwrap_or o 0))
    → (i : ℕ) → cond b (Some 0) (option_map suc p) ≡ Some i → slice_get (e ∷ ms) i ≡ Some (unwrap_or (cond b (Some e) o) 0)
place_amount_by true e o p ms h zero k = refl
place_amount_by true e o p ms h (suc i) k = absurd (cc k)
place_amount_by false e o None ms h i k = absurd (cc k)
place_amount_by false e o (Some j) ms h i k = subst (λ (n : ℕ). slice_get (e ∷ ms) n ≡ Some (unwrap_or o 0)) (unwrapped k) (h j refl)
  where
    unwrapped : Some (suc j) ≡ Some i → suc j ≡ i
    unwrapped k = ap (λ q. unwrap_or q 0) k

-- the amount at a name's place
place_amount : (a : List (List ℕ × ℕ)) (name : List ℕ) (i : ℕ) → place_of a name ≡ Some i → slice_get (amounts_of a) i ≡ Some (amount_of a name)
place_amount [] name i h = absurd (cc h)
place_amount (e ∷ a) name i h = place_amount_by (bytes_eq e.0 name) e.1 (lookup a name) (place_of a name) (amounts_of a) (place_amount a name) i h

place_name_by : (b : Bool) (e name : List ℕ) (p : Option ℕ) (ns : List (List ℕ)) → (b ≡ true → e ≡ name) → ((i : ℕ) → p ≡ Some i → slice_get ns i ≡ Some name)
    → (i : ℕ) → cond b (Some 0) (option_map suc p) ≡ Some i → slice_get (e ∷ ns) i ≡ Some name
place_name_by true e name p ns s h zero k = ap Some (s refl)
place_name_by true e name p ns s h (suc i) k = absurd (cc k)
place_name_by false e name None ns s h i k = absurd (cc k)
place_name_by false e name (Some j) ns s h i k = subst (λ (n : ℕ). slice_get (e ∷ ns) n ≡ Some name) (unwrapped k) (h j refl)
  where
    unwrapped : Some (suc j) ≡ Some i → suc j ≡ i
    unwrapped k = ap (λ q. unwrap_or q 0) k

-- the name at its place
place_name : (a : List (List ℕ × ℕ)) (name : List ℕ) (i : ℕ) → place_of a name ≡ Some i → slice_get (names_of a) i ≡ Some name
place_name [] name i h = absurd (cc h)
place_name (e ∷ a) name i h = place_name_by (bytes_eq e.0 name) e.0 name (place_of a name) (names_of a) (λ b. (bytes_eq-Decides e.0 name).0 b) (place_name a name) i h

-- ---- names

cons_parts : {A : Type 0} (x y : A) (xs ys : List A) → x ∷ xs ≡ y ∷ ys → (x ≡ y) × (xs ≡ ys)
cons_parts x y xs ys h = (cc h, cc h)

-- places are those of the names
place_named : (a b : List (List ℕ × ℕ)) (name : List ℕ) → names_of a ≡ names_of b → place_of a name ≡ place_of b name
place_named [] [] name h = refl
place_named [] (e ∷ b) name h = absurd (cc h)
place_named (d ∷ a) [] name h = absurd (cc h)
place_named (d ∷ a) (e ∷ b) name h =
    let parts = cons_parts d.0 e.0 (names_of a) (names_of b) h in
    ap (λ (n : List ℕ). cond (bytes_eq n name) (Some 0) (option_map suc (place_of a name))) parts.0
    ∙ ap (λ p. cond (bytes_eq e.0 name) (Some 0) (option_map suc p)) (place_named a b name parts.1)

missing_by : (b : Bool) (m n : ℕ) (o p : Option ℕ) → (p ≡ None → o ≡ None) → cond b (Some m) p ≡ None → cond b (Some n) o ≡ None
missing_by true m n o p h k = absurd (cc k)
missing_by false m n o p h k = h k

-- so is what is missing
missing_named : (a b : List (List ℕ × ℕ)) (name : List ℕ) → names_of a ≡ names_of b → lookup b name ≡ None → lookup a name ≡ None
missing_named [] b name h k = refl
missing_named (d ∷ a) [] name h k = absurd (cc h)
missing_named (d ∷ a) (e ∷ b) name h k =
    let parts = cons_parts d.0 e.0 (names_of a) (names_of b) h in
    ap (λ (n : List ℕ). cond (bytes_eq n name) (Some d.1) (lookup a name)) parts.0
    ∙ missing_by (bytes_eq e.0 name) e.1 d.1 (lookup a name) (lookup b name) (missing_named a b name parts.1) k

distinct_named : (a b : List (List ℕ × ℕ)) → names_of a ≡ names_of b → AreDistinct b → AreDistinct a
distinct_named [] b h k = tt
distinct_named (d ∷ a) [] h k = absurd (cc h)
distinct_named (d ∷ a) (e ∷ b) h k =
    let parts = cons_parts d.0 e.0 (names_of a) (names_of b) h in
    (ap (lookup a) parts.0 ∙ missing_named a b e.0 parts.1 k.0, distinct_named a b parts.1 k.1)

-- ---- another amount under a name

name_kept : (b : Bool) (e : List ℕ × ℕ) (k : ℕ) → (cond b (e.0, k) e).0 ≡ e.0
name_kept true e k = refl
name_kept false e k = refl

names_with : (name : List ℕ) (k : ℕ) (a : List (List ℕ × ℕ)) → names_of (with_amount name k a) ≡ names_of a
names_with name k [] = refl
names_with name k (e ∷ a) =
    ap (λ (n : List ℕ). n ∷ names_of (with_amount name k a)) (name_kept (bytes_eq e.0 name) e k) ∙ ap (λ (ns : List (List ℕ)). e.0 ∷ ns) (names_with name k a)

missing_parts : (b : Bool) (n : ℕ) (o : Option ℕ) → cond b (Some n) o ≡ None → (b ≡ false) × (o ≡ None)
missing_parts true n o h = absurd (cc h)
missing_parts false n o h = (refl, h)

-- a name that is missing
with_missing : (name : List ℕ) (k : ℕ) (a : List (List ℕ × ℕ)) → lookup a name ≡ None → with_amount name k a ≡ a
with_missing name k [] h = refl
with_missing name k (e ∷ a) h =
    let parts = missing_parts (bytes_eq e.0 name) e.1 (lookup a name) h in
    ap (λ b. cond b (e.0, k) e ∷ with_amount name k a) parts.0 ∙ ap (λ (l : List (List ℕ × ℕ)). e ∷ l) (with_missing name k a parts.1)

amounts_with_by : (b : Bool) (e : List ℕ × ℕ) (name : List ℕ) (k : ℕ) (a : List (List ℕ × ℕ)) (p : Option ℕ) → (b ≡ true → with_amount name k a ≡ a)
    → ((i : ℕ) → p ≡ Some i → amounts_of (with_amount name k a) ≡ slice_set (amounts_of a) i k) → (i : ℕ) → cond b (Some 0) (option_map suc p) ≡ Some i
    → (cond b (e.0, k) e).1 ∷ amounts_of (with_amount name k a) ≡ slice_set (e.1 ∷ amounts_of a) i k
amounts_with_by true e name k a p s h zero i = ap (λ (l : List (List ℕ × ℕ)). k ∷ amounts_of l) (s refl)
amounts_with_by true e name k a p s h (suc j) i = absurd (cc i)
amounts_with_by false e name k a None s h j i = absurd (cc i)
amounts_with_by false e name k a (Some l) s h j i =
    subst (λ (n : ℕ). e.1 ∷ amounts_of (with_amount name k a) ≡ slice_set (e.1 ∷ amounts_of a) n k) (unwrapped i) (ap (λ (ms : List ℕ). e.1 ∷ ms) (h l refl))
  where
    unwrapped : Some (suc l) ≡ Some j → suc l ≡ j
    unwrapped i = ap (λ q. unwrap_or q 0) i

-- the amounts are those with another one at the name's place
amounts_with : (name : List ℕ) (k : ℕ) (a : List (List ℕ × ℕ)) (i : ℕ) → AreDistinct a → place_of a name ≡ Some i → amounts_of (with_amount name k a) ≡ slice_set (amounts_of a) i k
amounts_with name k [] i d h = absurd (cc h)
amounts_with name k (e ∷ a) i d h =
    amounts_with_by (bytes_eq e.0 name) e name k a (place_of a name)
    (λ b. with_missing name k a (ap (lookup a) (sym ((bytes_eq-Decides e.0 name).0 b)) ∙ d.0))
    (λ j p. amounts_with name k a j d.1 p) i h

with_again_by : (b : Bool) (e d f : List ℕ × ℕ) → cond b d (cond b f e) ≡ cond b d e
with_again_by true e d f = refl
with_again_by false e d f = refl

again_at : (e : List ℕ × ℕ) (name : List ℕ) (j k : ℕ) → cond (bytes_eq (cond (bytes_eq e.0 name) (e.0, j) e).0 name) ((cond (bytes_eq e.0 name) (e.0, j) e).0, k) (cond (bytes_eq e.0 name) (e.0, j) e)
    ≡ cond (bytes_eq e.0 name) (e.0, k) e
again_at e name j k =
    ap (λ (n : List ℕ). cond (bytes_eq n name) (n, k) (cond (bytes_eq e.0 name) (e.0, j) e)) (name_kept (bytes_eq e.0 name) e j)
    ∙ with_again_by (bytes_eq e.0 name) e (e.0, k) (e.0, j)

-- the last amount under a name stays
with_again : (name : List ℕ) (j k : ℕ) (a : List (List ℕ × ℕ)) → with_amount name k (with_amount name j a) ≡ with_amount name k a
with_again name j k [] = refl
with_again name j k (e ∷ a) =
    ap (λ (d : List ℕ × ℕ). d ∷ with_amount name k (with_amount name j a)) (again_at e name j k) ∙ ap (λ (l : List (List ℕ × ℕ)). cond (bytes_eq e.0 name) (e.0, k) e ∷ l) (with_again name j k a)

there_by : (b : Bool) (k : ℕ) (e : List ℕ × ℕ) (o q : Option ℕ) → ((i : ℕ) → q ≡ Some i → unwrap_or o 0 ≡ k) → (i : ℕ) → cond b (Some 0) (option_map suc q) ≡ Some i
    → unwrap_or (cond b (Some (cond b (e.0, k) e).1) o) 0 ≡ k
there_by true k e o q h i p = refl
there_by false k e o None h i p = absurd (cc p)
there_by false k e o (Some j) h i p = h j refl

-- an amount under a name is found there
amount_with : (name : List ℕ) (k : ℕ) (a : List (List ℕ × ℕ)) (i : ℕ) → place_of a name ≡ Some i → amount_of (with_amount name k a) name ≡ k
amount_with name k [] i h = absurd (cc h)
amount_with name k (e ∷ a) i h =
    ap (λ (n : List ℕ). unwrap_or (cond (bytes_eq n name) (Some (cond (bytes_eq e.0 name) (e.0, k) e).1) (lookup (with_amount name k a) name)) 0) (name_kept (bytes_eq e.0 name) e k)
    ∙ there_by (bytes_eq e.0 name) k e (lookup (with_amount name k a) name) (place_of a name) (λ j p. amount_with name k a j p) i h

same_by : (b : Bool) (e : List ℕ × ℕ) (o : Option ℕ) → cond b (e.0, unwrap_or (cond b (Some e.1) o) 0) e ≡ e
same_by true e o = refl
same_by false e o = refl

rest_by : (b : Bool) (e : List ℕ × ℕ) (name : List ℕ) (a : List (List ℕ × ℕ)) → (b ≡ true → lookup a name ≡ None) → ((k : ℕ) → lookup a name ≡ None → with_amount name k a ≡ a) → with_amount name (amount_of a name) a ≡ a
    → with_amount name (unwrap_or (cond b (Some e.1) (lookup a name)) 0) a ≡ a
rest_by true e name a m f h = f e.1 (m refl)
rest_by false e name a m f h = h

-- an amount put in its own place
with_same : (name : List ℕ) (a : List (List ℕ × ℕ)) → AreDistinct a → with_amount name (amount_of a name) a ≡ a
with_same name [] d = refl
with_same name (e ∷ a) d =
    ap (λ (x : List ℕ × ℕ). x ∷ with_amount name (amount_of (e ∷ a) name) a) (same_by (bytes_eq e.0 name) e (lookup a name))
    ∙ ap (λ (l : List (List ℕ × ℕ)). e ∷ l)
    (rest_by (bytes_eq e.0 name) e name a (λ b. ap (lookup a) (sym ((bytes_eq-Decides e.0 name).0 b)) ∙ d.0) (λ k m. with_missing name k a m) (with_same name a d.1))

-- ---- effects

-- the allowances with another amount under a name, or the name if there is none
abbrev with_option : List ℕ → List (List ℕ × ℕ) → Option ℕ → Result (List (List ℕ × ℕ)) (List ℕ)
with_option name a None = Err name
with_option name a (Some k) = Ok (with_amount name k a)

with_option_again : (name : List ℕ) (j : ℕ) (a : List (List ℕ × ℕ)) (o : Option ℕ) → with_option name (with_amount name j a) o ≡ with_option name a o
with_option_again name j a None = refl
with_option_again name j a (Some k) = ap Ok (with_again name j k a)

place_with : (name : List ℕ) (k : ℕ) (a : List (List ℕ × ℕ)) (i : ℕ) → place_of a name ≡ Some i → place_of (with_amount name k a) name ≡ Some i
place_with name k a i h = place_named (with_amount name k a) a name (names_with name k a) ∙ h

distinct_with : (name : List ℕ) (k : ℕ) (a : List (List ℕ × ℕ)) → AreDistinct a → AreDistinct (with_amount name k a)
distinct_with name k a d = distinct_named (with_amount name k a) a (names_with name k a) d

spend_then : (b : Bool) (n : ℕ) (name : List ℕ) (k x : ℕ) (a : List (List ℕ × ℕ)) → ((j : ℕ) → effect_times n Spends name k (with_amount name j a) ≡ with_option name a (amount_times n Spends k j))
    → (after_spending b name (x - k) a >>= λ c. effect_times n Spends name k c) ≡ with_option name a (option_and_then (amount_times n Spends k) (cond b (Some (x - k)) None))
spend_then true n name k x a h = h (x - k)
spend_then false n name k x a h = refl

effect_then : (e : model.Effect) (n : ℕ) (name : List ℕ) (k : ℕ) (a : List (List ℕ × ℕ)) → ((j : ℕ) → effect_times n e name k (with_amount name j a) ≡ with_option name a (amount_times n e k j))
    → effect_times (suc n) e name k a ≡ with_option name a (amount_times (suc n) e k (amount_of a name))
effect_then Allows n name k a h = h k
effect_then Spends n name k a h = spend_then (nat_le k (amount_of a name)) n name k (amount_of a name) a h

-- effects on allowances are effects on the amount under the name
effects_are : (n : ℕ) (e : model.Effect) (name : List ℕ) (k : ℕ) (a : List (List ℕ × ℕ)) (i : ℕ) → AreDistinct a → place_of a name ≡ Some i
    → effect_times n e name k a ≡ with_option name a (amount_times n e k (amount_of a name))
effects_are zero e name k a i d h = ap Ok (sym (with_same name a d))
effects_are (suc n) e name k a i d h =
    effect_then e n name k a (λ j.
    effects_are n e name k (with_amount name j a) i (distinct_with name j a d) (place_with name j a i h)
    ∙ ap (λ x. with_option name (with_amount name j a) (amount_times n e k x)) (amount_with name j a i h)
    ∙ with_option_again name j a (amount_times n e k j))

-- ---- lines

-- the amounts are those of the allowances that are left, or the place is that of the name
abbrev SpentAs : List (List ℕ × ℕ) → Result (List ℕ) ℕ → Result (List (List ℕ × ℕ)) (List ℕ) → Type 0
SpentAs held (Ok amounts) (Ok a) = (amounts ≡ amounts_of a) × (names_of a ≡ names_of held)
SpentAs held (Err place) (Err name) = slice_get (names_of held) place ≡ Some name
SpentAs held (Ok amounts) (Err name) = ⊥
SpentAs held (Err place) (Ok a) = ⊥

then_same : {A B E : Type 0} (x : Result A E) (f g : A → Result B E) → ((a : A) → f a ≡ g a) → (x >>= f) ≡ (x >>= g)
then_same (Ok a) f g h = h a
then_same (Err e) f g h = refl

-- lines from the second on pass over the first number
amounts_rest : (i : ℕ) (rs : List OnRule) (n : ℕ) (ns amounts : List ℕ) → amounts_from (suc i) rs (n ∷ ns) amounts ≡ amounts_from i rs ns amounts
amounts_rest i [] n ns amounts = refl
amounts_rest i (r ∷ rs) n ns amounts =
    then_same (amounts_after_rule (slice_index_or ns i 0) r amounts) (λ left. amounts_from (suc (suc i)) rs (n ∷ ns) left) (λ left. amounts_from (suc i) rs ns left) (λ left. amounts_rest (suc i) rs n ns left)

-- the effect of a line on amounts
rule_amounts : (n : ℕ) (r : OnRule) (amounts : List ℕ) (x : ℕ) → slice_get amounts r.allowance ≡ Some x → amounts_after_rule n r amounts ≡ with_amount_at r.allowance amounts (amount_times n (effect_value r.effect) r.amount x)
rule_amounts n r amounts x h = ap (λ o. amounts_by o n r amounts) h

spent_then : (held : List (List ℕ × ℕ)) (place : ℕ) (name : List ℕ) (a : List (List ℕ × ℕ)) (o : Option ℕ) (f : List ℕ → Result (List ℕ) ℕ) (g : List (List ℕ × ℕ) → Result (List (List ℕ × ℕ)) (List ℕ))
    → slice_get (names_of held) place ≡ Some name → ((k : ℕ) → slice_set (amounts_of a) place k ≡ amounts_of (with_amount name k a)) → ((k : ℕ) → SpentAs held (f (amounts_of (with_amount name k a))) (g (with_amount name k a)))
    → SpentAs held (with_amount_at place (amounts_of a) o >>= f) (with_option name a o >>= g)
spent_then held place name a None f g p s h = p
spent_then held place name a (Some k) f g p s h = subst (λ (ms : List ℕ). SpentAs held (f ms) (g (with_amount name k a))) (sym (s k)) (h k)

after_lines : (r : model.OnRule) (rs : List model.OnRule) (m : model.Move) (t : Step) (a : List (List ℕ × ℕ))
    → allowances_after (r ∷ rs) m t a ≡ (effect_times (times r m t) r.effect r.name r.amount a >>= λ b. allowances_after rs m t b)
unfolding allowances_after
after_lines r rs m t a = refl

no_lines : (m : model.Move) (t : Step) (a : List (List ℕ × ℕ)) → allowances_after [] m t a ≡ Ok a
unfolding allowances_after
no_lines m t a = refl

line_spent : (held : List (List ℕ × ℕ)) (r : OnRule) (q : model.OnRule) (n : ℕ) (a : List (List ℕ × ℕ)) (f : List ℕ → Result (List ℕ) ℕ) (g : List (List ℕ × ℕ) → Result (List (List ℕ × ℕ)) (List ℕ))
    → AreDistinct held → names_of a ≡ names_of held → IsOn held r q → ((b : List (List ℕ × ℕ)) → names_of b ≡ names_of held → SpentAs held (f (amounts_of b)) (g b))
    → SpentAs held (amounts_after_rule n r (amounts_of a) >>= f) (effect_times n q.effect q.name q.amount a >>= g)
line_spent held r q n a f g d names is then =
    let distinct = distinct_named a held names d in
    let place : place_of a q.name ≡ Some r.allowance = place_named a held q.name names ∙ is.place in
    let x = amount_of a q.name in
    let left : amounts_after_rule n r (amounts_of a) ≡ with_amount_at r.allowance (amounts_of a) (amount_times n q.effect q.amount x) =
    rule_amounts n r (amounts_of a) x (place_amount a q.name r.allowance place)
    ∙ ap (λ e. with_amount_at r.allowance (amounts_of a) (amount_times n e r.amount x)) is.effect
    ∙ ap (λ k. with_amount_at r.allowance (amounts_of a) (amount_times n q.effect k x)) is.amount
    in
    subst (λ y. SpentAs held (y >>= f) (effect_times n q.effect q.name q.amount a >>= g)) (sym left)
    (subst (λ y. SpentAs held (with_amount_at r.allowance (amounts_of a) (amount_times n q.effect q.amount x) >>= f) (y >>= g)) (sym (effects_are n q.effect q.name q.amount a r.allowance distinct place))
    (spent_then held r.allowance q.name a (amount_times n q.effect q.amount x) f g (place_name held q.name r.allowance is.place)
    (λ k. sym (amounts_with q.name k a r.allowance distinct place))
    (λ k. then (with_amount q.name k a) (names_with q.name k a ∙ names))))

-- lines spend the amounts of allowances as they spend these
lines_spent : (held : List (List ℕ × ℕ)) (ons : List OnRule) (rules : List model.OnRule) (m : model.Move) (t : Step) (a : List (List ℕ × ℕ)) → AreDistinct held → names_of a ≡ names_of held → AlikeLists (IsOn held) ons rules
    → SpentAs held (amounts_from 0 ons (map (λ r. times r m t) rules) (amounts_of a)) (allowances_after rules m t a)
lines_spent held [] [] m t a d names is = subst (SpentAs held (Ok (amounts_of a))) (sym (no_lines m t a)) (refl, names)
lines_spent held (r ∷ ons) (q ∷ rules) m t a d names is =
    subst (SpentAs held (amounts_from 0 (r ∷ ons) (map (λ r. times r m t) (q ∷ rules)) (amounts_of a))) (sym (after_lines q rules m t a))
    (line_spent held r q (times q m t) a (λ left. amounts_from 1 ons (times q m t ∷ map (λ r. times r m t) rules) left) (λ b. allowances_after rules m t b) d names is.0
    (λ b n. subst (λ y. SpentAs held y (allowances_after rules m t b)) (sym (amounts_rest 0 ons (times q m t) (map (λ r. times r m t) rules) (amounts_of b))) (lines_spent held ons rules m t b d n is.1)))
lines_spent held [] (q ∷ rules) m t a d names is = absurd is
lines_spent held (r ∷ ons) [] m t a d names is = absurd is

spent_by : (held : List (List ℕ × ℕ)) (result : Option ℕ) (left : List ℕ) (x : Result (List ℕ) ℕ) (y : Result (List (List ℕ × ℕ)) (List ℕ)) → AmountsAre result left x → SpentAs held x y → AreSpent held result left y
spent_by held None left (Ok amounts) (Ok a) h s = (h ∙ s.0, s.1)
spent_by held (Some place) left (Err p) (Err name) h s = ap (slice_get (names_of held)) h ∙ s
spent_by held None left (Err p) y h s = absurd h
spent_by held (Some place) left (Ok amounts) y h s = absurd h
spent_by held None left (Ok amounts) (Err name) h s = absurd s
spent_by held (Some place) left (Err p) (Ok a) h s = absurd s

map_capped : (f : model.OnRule → ℕ) (rules : List model.OnRule) → map (λ r. capped (f r)) rules ≡ map capped (map f rules)
map_capped f [] = refl
map_capped f (r ∷ rules) = ap (λ (ks : List ℕ). capped (f r) ∷ ks) (map_capped f rules)

-- counted lines spend the amounts of allowances as the definition does
pub counted_spent : (held a : List (List ℕ × ℕ)) (rules : List model.OnRule) (m : model.Move) (t : Step) (ons : List OnRule) (counts amounts : List ℕ) (result : Option ℕ) (left : List ℕ)
    → ((ns : List ℕ) → counts ≡ map capped ns → AmountsAre result left (amounts_from 0 ons ns amounts)) → CountsMove held a rules m t ons counts amounts
    → AreSpent held result left (allowances_after rules m t a)
counted_spent held a rules m t ons counts amounts result left h c =
    spent_by held result left (amounts_from 0 ons (map (λ r. times r m t) rules) (amounts_of a)) (allowances_after rules m t a)
    (subst (λ (ms : List ℕ). AmountsAre result left (amounts_from 0 ons (map (λ r. times r m t) rules) ms)) c.left (h (map (λ r. times r m t) rules) (c.counted ∙ map_capped (λ r. times r m t) rules)))
    (lines_spent held ons rules m t a c.distinct c.named c.lines)

-- ---- what callers read of it

-- amounts that are left are those of allowances
pub left_is : (held : List (List ℕ × ℕ)) (left : List ℕ) (x : Result (List (List ℕ × ℕ)) (List ℕ)) → AreSpent held None left x
    → (a : List (List ℕ × ℕ)) × (x ≡ Ok a) × (left ≡ amounts_of a) × (names_of a ≡ names_of held)
left_is held left (Ok a) h = (a, refl, h.0, h.1)
left_is held left (Err name) h = absurd h

-- a place is that of the allowance that is spent below zero
pub broken_is : (held : List (List ℕ × ℕ)) (place : ℕ) (left : List ℕ) (x : Result (List (List ℕ × ℕ)) (List ℕ)) → AreSpent held (Some place) left x
    → (name : List ℕ) × (x ≡ Err name) × (slice_get (names_of held) place ≡ Some name)
broken_is held place left (Err name) h = (name, refl, h)
broken_is held place left (Ok a) h = absurd h
