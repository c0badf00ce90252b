-- Entries of a map: that of a key that was put among others, what it leaves of the others, and the one place of a key.
use Rattle.std.proofs.Common.{◌≡◌, ◌⊎◌, ℕ, zero, suc, ◌+◌, Bool, true, false, not, List, [], ◌∷◌, Option, Some, refl, sym, ◌∙◌, ap, subst, inl, inr, slice_get, if◌then◌else◌, cond, arith}
use Rattle.std.specs.List.{AllByRecursion, IsDistinct, position_or_len}
use Rattle.std.specs.Map.{keys_of}
use Rattle.indexmap.specs.IndexMap.{insert_entry}

-- the entry of a key that was put among others: the key of before, if there was one, and the new value
pub record PutsEntry {K V : Type 0} (eq : K → K → Bool) (es : List (K × V)) (k : K) (v : V) (n : ℕ) : Type 0 where
  pub key : K
  pub entry : slice_get (insert_entry eq es k v) n ≡ Some (key, v)
  pub same : eq k key ≡ true

-- an entry of before is there still, or has the new value
abbrev pub StaysEntry : {K V : Type 0} → (K → K → Bool) → List (K × V) → K → V → ℕ → K → V → Type 0
StaysEntry {K} {V} eq es k v n j w = (slice_get es n ≡ Some (j, w)) ⊎ ((slice_get es n ≡ Some (j, v)) × (eq k j ≡ true))

module _ {K V : Type 0} where
  pub name_is : (p q : K × V) → Some p ≡ Some q → p.0 ≡ q.0
  name_is p q h = let is : p ≡ q = cc in ap (λ (e : K × V). e.0) is

  pub value_is : (p q : K × V) → Some p ≡ Some q → p.1 ≡ q.1
  value_is p q h = let is : p ≡ q = cc in ap (λ (e : K × V). e.1) is

module _ {K V : Type 0} (eq : K → K → Bool) (k : K) (v : V) where
  pub new_entry : (self : eq k k ≡ true) (es : List (K × V)) → PutsEntry eq es k v (position_or_len (eq k) (keys_of es))
  new_entry self [] = record { key = k; entry = refl; same = self }
  new_entry self (e ∷ es) =
      let p = by (eq k e.0) refl (new_entry self es) in
      record { key = p.0; entry = p.1; same = p.2 }
    where
      by : (t : Bool) → eq k e.0 ≡ t → PutsEntry eq es k v (position_or_len (eq k) (keys_of es))
          → (j : K) × (slice_get (if t then (e.0, v) ∷ es else e ∷ insert_entry eq es k v) (cond (not t) (1 + position_or_len (eq k) (keys_of es)) 0) ≡ Some (j, v)) × (eq k j ≡ true)
      by true h p = (e.0, refl, h)
      by false h p =
          let place = position_or_len (eq k) (keys_of es) in
          let one : suc place ≡ 1 + place = omega arith in
          let entry : Option (K × V) = Some (p.key, v) in
          (p.key, subst (λ (i : ℕ). slice_get (e ∷ insert_entry eq es k v) i ≡ entry) one p.entry, p.same)

  pub old_entry : (es : List (K × V)) (n : ℕ) (j : K) (w : V) → slice_get es n ≡ Some (j, w) → StaysEntry eq (insert_entry eq es k v) k v n j w
  old_entry [] n j w h = absurd (cc h)
  old_entry (e ∷ es) n j w h = by (eq k e.0) refl n h (λ i g. old_entry es i j w g)
    where
      by : (t : Bool) → eq k e.0 ≡ t → (i : ℕ) → slice_get (e ∷ es) i ≡ Some (j, w)
          → ((i : ℕ) → slice_get es i ≡ Some (j, w) → StaysEntry eq (insert_entry eq es k v) k v i j w)
          → StaysEntry eq (if t then (e.0, v) ∷ es else e ∷ insert_entry eq es k v) k v i j w
      by true is zero g rest =
          let name : e.0 ≡ j = name_is e (j, w) g in
          let moved : (x : K) → Option (K × V) = λ x. Some (x, v) in
          inr (ap moved name, subst (λ (x : K). eq k x ≡ true) name is)
      by true is (suc i) g rest = inl g
      by false is zero g rest = inl g
      by false is (suc i) g rest = rest i g

module _ {K V : Type 0} (eq : K → K → Bool) where
  none_same : (x j : K) (v : V) (es : List (K × V)) (n : ℕ) → AllByRecursion (λ y. eq x y ≡ false) (keys_of es) → slice_get es n ≡ Some (j, v) → eq x j ≡ false
  none_same x j v [] n h g = absurd (cc g)
  none_same x j v (e ∷ es) zero h g = subst (λ (y : K). eq x y ≡ false) (name_is e (j, v) g) h.0
  none_same x j v (e ∷ es) (suc n) h g = none_same x j v es n h.1 g

  -- among distinct keys each has one number
  pub one_place : (es : List (K × V)) (n i : ℕ) (j k : K) (v w : V) → IsDistinct eq (keys_of es) → slice_get es n ≡ Some (j, v) → slice_get es i ≡ Some (k, w) → eq j k ≡ true → eq k j ≡ true → n ≡ i
  unfolding IsDistinct
  one_place [] n i j k v w d g h e f = absurd (cc g)
  one_place (x ∷ es) zero zero j k v w d g h e f = refl
  one_place (x ∷ es) zero (suc i) j k v w d g h e f =
      let other : eq x.0 k ≡ false = none_same x.0 k w es i d.0 h in
      absurd (cc (sym (ap (λ (y : K). eq y k) (name_is x (j, v) g) ∙ e) ∙ other))
  one_place (x ∷ es) (suc n) zero j k v w d g h e f =
      let other : eq x.0 j ≡ false = none_same x.0 j v es n d.0 g in
      absurd (cc (sym (ap (λ (y : K). eq y j) (name_is x (k, w) h) ∙ f) ∙ other))
  one_place (x ∷ es) (suc n) (suc i) j k v w d g h e f = ap suc (one_place es n i j k v w d.1 g h e f)
