-- Amounts after effects.
use Rattle.std.proofs.Common.{◌≡◌, ◌⊎◌, inl, inr, ℕ, zero, suc, ◌-◌, ◌*◌, ◌≤◌, ◌<◌, List, [], ◌∷◌, map, Bool, true, false, cond, Option, Some, None, refl, sym, ap, ◌∙◌, arith}
use Rattle.std.specs.Prelude.{nat_le, option_and_then, slice_index_or}
use Rattle.std.proofs.lemmas.Bool.{lt-leb}
use Rattle.law_explore.specs.Rules as model
use Rattle.law_explore.specs.Rules.{Allows, Spends}
use Rattle.lab_rules.specs.Occasions.{amount_once, amount_times, capped}

-- ---- counts

pub capped_at : (ns : List ℕ) (i : ℕ) → slice_index_or (map capped ns) i 0 ≡ capped (slice_index_or ns i 0)
capped_at [] i = refl
capped_at (n ∷ ns) zero = refl
capped_at (n ∷ ns) (suc i) = capped_at ns i

-- ---- effects

-- an effect, and those that are left
pub times_step : (n j : ℕ) (e : model.Effect) (k x : ℕ) (o : Option ℕ) → n ≡ suc j → o ≡ amount_once e k x → amount_times n e k x ≡ option_and_then (amount_times j e k) o
times_step n j e k x o h i = ap (λ m. amount_times m e k x) h ∙ ap (option_and_then (amount_times j e k)) (sym i)

-- no effect is left
pub times_none : (n : ℕ) (e : model.Effect) (k x : ℕ) → n ≡ 0 → amount_times n e k x ≡ Some x
times_none n e k x h = ap (λ m. amount_times m e k x) h

times_allow : (n k x : ℕ) → amount_times (suc n) Allows k x ≡ Some k
times_allow zero k x = refl
times_allow (suc n) k x = times_allow n k k

-- what is left of an amount that is spent n times
abbrev spent : ℕ → ℕ → ℕ → Option ℕ
spent n k x = cond (nat_le (n * k) x) (Some (x - n * k)) None

spent_more : (n k x : ℕ) → option_and_then (spent n k) (cond (nat_le k x) (Some (x - k)) None) ≡ spent (suc n) k x
spent_more n k x = grind arith

spend_by : (b : Bool) (f g : ℕ → Option ℕ) (k x : ℕ) → f (x - k) ≡ g (x - k) → option_and_then f (cond b (Some (x - k)) None) ≡ option_and_then g (cond b (Some (x - k)) None)
spend_by true f g k x h = h
spend_by false f g k x h = refl

times_spend : (n k x : ℕ) → amount_times n Spends k x ≡ spent n k x
times_spend zero k x = grind arith
times_spend (suc n) k x = spend_by (nat_le k x) (amount_times n Spends k) (spent n k) k x (times_spend n k (x - k)) ∙ spent_more n k x

-- ---- counts at their last value

enough_by : (n j x : ℕ) → x < n → x < n * suc j
enough_by n j x h = grind (arith, h)

-- more than an amount holds is spent at once
spent_out : (n j x : ℕ) → x < n → spent n (suc j) x ≡ None
spent_out n j x h = ap (λ b. cond b (Some (x - n * suc j)) None) (lt-leb (n * suc j) x (enough_by n j x h))

spent_none : (n x : ℕ) → spent n 0 x ≡ Some x
spent_none n x = grind arith

spent_alike : (n m k x : ℕ) → x < n → x < m → spent n k x ≡ spent m k x
spent_alike n m zero x h i = spent_none n x ∙ sym (spent_none m x)
spent_alike n m (suc j) x h i = spent_out n j x h ∙ sym (spent_out m j x i)

-- more effects than an amount can hold do to it what any such number does
alike_after : (n m : ℕ) (e : model.Effect) (k x : ℕ) → x < n → x < m → amount_times n e k x ≡ amount_times m e k x
alike_after (suc n) (suc m) Allows k x h i = times_allow n k x ∙ sym (times_allow m k x)
alike_after zero m Allows k x h i = absurd (omega (arith, h))
alike_after (suc n) zero Allows k x h i = absurd (omega (arith, i))
alike_after n m Spends k x h i = times_spend n k x ∙ spent_alike n m k x h i ∙ sym (times_spend m k x)

kept_or_last : (n : ℕ) → (capped n ≡ n) ⊎ ((4294967295 < capped n) × (4294967295 < n))
kept_or_last n = grind arith

-- a count at its last value does to an amount what any greater number does
pub times_capped : (n c : ℕ) (e : model.Effect) (k x : ℕ) (o : Option ℕ) → x ≤ 4294967295 → c ≡ capped n → o ≡ amount_times c e k x → o ≡ amount_times n e k x
times_capped n c e k x o most is h =
    h ∙ ap (λ m. amount_times m e k x) is ∙ elim (kept_or_last n) [
      | inl same ↦ ap (λ m. amount_times m e k x) same
      | inr both ↦ alike_after (capped n) n e k x (omega (arith, most, both.0)) (omega (arith, most, both.1))
    ]
