-- Amounts by the places of names, and by the names.
use Rattle.std.proofs.Common.{◌≡◌, ℕ, zero, suc, ◌-◌, List, [], ◌∷◌, Bool, true, false, cond, Option, Some, None, refl, sym, ap, subst, ◌∙◌}
use Rattle.std.specs.Prelude.{bytes_eq, nat_le, option_map, slice_get, slice_set, unwrap_or}
use Rattle.std.proofs.lemmas.Slice.Eq.{bytes_eq-Decides}
use Rattle.model_device.specs.Bytes.{lookup}
use Rattle.lab_app_rules.specs.model_events.specs.Amounts.{amount_of, with_amount}
use Rattle.lab_app_rules.specs.model_rules.specs.Rules.{Action, Allows, Spends, Needs, OnLine}
use Rattle.lab_app_rules.specs.model_rules.specs.Keeping.{Amounts, after_action, if_enough}
use Rattle.lab_app_rules.specs.declared.rules.Effect.{Effect}
use Rattle.lab_app_rules.specs.declared.rules.Effect.TheVariants as effect
use Rattle.lab_app_rules.specs.declared.rules.On.{On}
use Rattle.lab_history.specs.Amounts.{amount_after, amounts_after, amounts_at}
use Rattle.lab_history.specs.Lines.{amounts_of, names_of, place_of, AreAmounts, AreDistinct, DoesAs, IsAllowanceLine}

-- ---- places

place_amount_by : (b : Bool) (e : ℕ) (o p : Option ℕ) (ms : List ℕ) → ((i : ℕ) → p ≡ Some i → slice_get ms i ≡ Some (unwrap_or o 0))
    → (i : ℕ) → cond b (Some 0) (option_map suc p) ≡ Some i → slice_get (e ∷ ms) i ≡ Some (unwrap_or (cond b (Some e) o) 0)
place_amount_by true e o p ms h zero k = refl
place_amount_by true e o p ms h (suc i) k = absurd (cc k)
place_amount_by false e o None ms h i k = absurd (cc k)
place_amount_by false e o (Some j) ms h i k = subst (λ (n : ℕ). slice_get (e ∷ ms) n ≡ Some (unwrap_or o 0)) (unwrapped k) (h j refl)
  where
    unwrapped : Some (suc j) ≡ Some i → suc j ≡ i
    unwrapped k = ap (λ q. unwrap_or q 0) k

-- the amount at a name's place
place_amount : (a : Amounts) (name : List ℕ) (i : ℕ) → place_of a name ≡ Some i → slice_get (amounts_of a) i ≡ Some (amount_of a name)
place_amount [] name i h = absurd (cc h)
place_amount (e ∷ a) name i h = place_amount_by (bytes_eq e.0 name) e.1 (lookup a name) (place_of a name) (amounts_of a) (place_amount a name) i h

-- ---- another amount under a name

name_kept : (b : Bool) (e : List ℕ × ℕ) (k : ℕ) → (cond b (e.0, k) e).0 ≡ e.0
name_kept true e k = refl
name_kept false e k = refl

names_with : (name : List ℕ) (k : ℕ) (a : Amounts) → names_of (with_amount name k a) ≡ names_of a
names_with name k [] = refl
names_with name k (e ∷ a) =
    ap (λ (n : List ℕ). n ∷ names_of (with_amount name k a)) (name_kept (bytes_eq e.0 name) e k) ∙ ap (λ (ns : List (List ℕ)). e.0 ∷ ns) (names_with name k a)

missing_parts : (b : Bool) (n : ℕ) (o : Option ℕ) → cond b (Some n) o ≡ None → (b ≡ false) × (o ≡ None)
missing_parts true n o h = absurd (cc h)
missing_parts false n o h = (refl, h)

-- a name that is missing
with_missing : (name : List ℕ) (k : ℕ) (a : Amounts) → lookup a name ≡ None → with_amount name k a ≡ a
with_missing name k [] h = refl
with_missing name k (e ∷ a) h =
    let parts = missing_parts (bytes_eq e.0 name) e.1 (lookup a name) h in
    ap (λ b. cond b (e.0, k) e ∷ with_amount name k a) parts.0 ∙ ap (λ (l : List (List ℕ × ℕ)). e ∷ l) (with_missing name k a parts.1)

amounts_with_by : (b : Bool) (e : List ℕ × ℕ) (name : List ℕ) (k : ℕ) (a : List (List ℕ × ℕ)) (p : Option ℕ) → (b ≡ true → with_amount name k a ≡ a)
    → ((i : ℕ) → p ≡ Some i → amounts_of (with_amount name k a) ≡ slice_set (amounts_of a) i k) → (i : ℕ) → cond b (Some 0) (option_map suc p) ≡ Some i
    → (cond b (e.0, k) e).1 ∷ amounts_of (with_amount name k a) ≡ slice_set (e.1 ∷ amounts_of a) i k
amounts_with_by true e name k a p s h zero i = ap (λ (l : List (List ℕ × ℕ)). k ∷ amounts_of l) (s refl)
amounts_with_by true e name k a p s h (suc j) i = absurd (cc i)
amounts_with_by false e name k a None s h j i = absurd (cc i)
amounts_with_by false e name k a (Some l) s h j i =
    subst (λ (n : ℕ). e.1 ∷ amounts_of (with_amount name k a) ≡ slice_set (e.1 ∷ amounts_of a) n k) (unwrapped i) (ap (λ (ms : List ℕ). e.1 ∷ ms) (h l refl))
  where
    unwrapped : Some (suc l) ≡ Some j → suc l ≡ j
    unwrapped i = ap (λ q. unwrap_or q 0) i

-- the amounts are those with another one at the name's place
amounts_with : (name : List ℕ) (k : ℕ) (a : List (List ℕ × ℕ)) (i : ℕ) → AreDistinct a → place_of a name ≡ Some i → amounts_of (with_amount name k a) ≡ slice_set (amounts_of a) i k
amounts_with name k [] i d h = absurd (cc h)
amounts_with name k (e ∷ a) i d h =
    amounts_with_by (bytes_eq e.0 name) e name k a (place_of a name)
    (λ b. with_missing name k a (ap (lookup a) (sym ((bytes_eq-Decides e.0 name).0 b)) ∙ d.0))
    (λ j p. amounts_with name k a j d.1 p) i h

-- an amount that is put where it is
set_same : (xs : List ℕ) (i x : ℕ) → slice_get xs i ≡ Some x → slice_set xs i x ≡ xs
set_same [] i x h = refl
set_same (y ∷ xs) zero x h = ap (λ (z : ℕ). z ∷ xs) (sym (ap (λ o. unwrap_or o 0) h))
set_same (y ∷ xs) (suc i) x h = ap (λ (l : List ℕ). y ∷ l) (set_same xs i x h)

-- ---- a line

-- what is known of the allowance of a line
record At (a : Amounts) (l : OnLine) (i : ℕ) : Type 0 where
  pub amount : slice_get (amounts_of a) i ≡ Some (amount_of a l.name)
  pub changed : (k : ℕ) → slice_set (amounts_of a) i k ≡ amounts_of (with_amount l.name k a)

-- the amounts with another one at a place, if there is one
abbrev set_if : List ℕ → ℕ → Option ℕ → Option (List ℕ)
set_if amounts i o = option_map (λ k. slice_set amounts i k) o

spends_by : (b : Bool) (a : Amounts) (l : OnLine) (i x : ℕ) → At a l i
    → AreAmounts a l.number (set_if (amounts_of a) i (cond b (Some x) None)) (if_enough b l.number (with_amount l.name x a))
spends_by true a l i x at = (at.changed x, names_with l.name x a)
spends_by false a l i x at = refl

needs_by : (b : Bool) (a : Amounts) (l : OnLine) (i : ℕ) → At a l i
    → AreAmounts a l.number (set_if (amounts_of a) i (cond b (Some (amount_of a l.name)) None)) (if_enough b l.number a)
needs_by true a l i at = (set_same (amounts_of a) i (amount_of a l.name) at.amount, refl)
needs_by false a l i at = refl

acts : (e : Effect) (action : Action) (a : Amounts) (l : OnLine) (i : ℕ) → DoesAs e action l.amount → At a l i
    → AreAmounts a l.number (set_if (amounts_of a) i (amount_after e (amount_of a l.name))) (after_action action l a)
acts (effect.Allow k) Allows a l i h at = (ap (slice_set (amounts_of a) i) h ∙ at.changed l.amount, names_with l.name l.amount a)
acts (effect.Spend k) Spends a l i h at =
    subst (λ (n : ℕ). AreAmounts a l.number (set_if (amounts_of a) i (cond (nat_le n (amount_of a l.name)) (Some (amount_of a l.name - n)) None)) (after_action Spends l a)) (sym h)
    (spends_by (nat_le l.amount (amount_of a l.name)) a l i (amount_of a l.name - l.amount) at)
acts (effect.Need k) Needs a l i h at =
    subst (λ (n : ℕ). AreAmounts a l.number (set_if (amounts_of a) i (cond (nat_le n (amount_of a l.name)) (Some (amount_of a l.name)) None)) (after_action Needs l a)) (sym h)
    (needs_by (nat_le l.amount (amount_of a l.name)) a l i at)
acts (effect.Allow k) Spends a l i h at = absurd h
acts (effect.Allow k) Needs a l i h at = absurd h
acts (effect.Spend k) Allows a l i h at = absurd h
acts (effect.Spend k) Needs a l i h at = absurd h
acts (effect.Need k) Allows a l i h at = absurd h
acts (effect.Need k) Spends a l i h at = absurd h
acts (effect.Add m) action a l i h at = absurd h
acts (effect.Take m) action a l i h at = absurd h

-- what a line does to amounts is what it does to allowances
pub line_is : (a : Amounts) (o : On) (l : OnLine) → AreDistinct a → IsAllowanceLine a o l → AreAmounts a l.number (amounts_after o.effect o.name (amounts_of a)) (after_action l.action l a)
line_is a o l d is =
    let at : At a l o.name = record { amount = place_amount a l.name o.name is.place; changed = λ k. sym (amounts_with l.name k a o.name d is.place) } in
    subst (λ (x : Option ℕ). AreAmounts a l.number (amounts_at o.effect o.name x (amounts_of a)) (after_action l.action l a)) (sym at.amount) (acts o.effect l.action a l o.name is.does at)
