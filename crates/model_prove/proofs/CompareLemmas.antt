-- The last compare: joining only weakens it, and it holds until a byte of it is touched.
use Rattle.std.specs.Prelude.{◌≡◌, ◌⊎◌, ℕ, zero, suc, ◌+◌, ◌-◌, ◌<◌, ◌≤◌, Bool, true, false, cond, not, ◌&&◌, ◌||◌, nat_lt, nat_le, ◌==◌, min, max, List, [], ◌∷◌, refl, ⊤}
use Rattle.std.proofs.Common.{arith, ap, sym, subst, ◌∙◌, inl, inr}
use Rattle.std.proofs.lemmas.Bool.{eqb-true, leb-true, ltb-true, le-leb, lt-ltb, and_parts, and_from, or_left, or_right, or_parts, cases_Bool}
use Rattle.model_rules.specs.model_device.specs.Bytes.{num}
use Rattle.model_prove.specs.Facts.{Memory}
use Rattle.model_prove.specs.Compares.{Orders, Compare, NoCompare, Bounds, Ordered, join_orders, join_compare, meet, touched, bytes_from, has_order, IsSo}

-- ---- joining

wider_left : (l h k i x : ℕ) → (nat_le l x && nat_le x h) ≡ true → (nat_le (min l k) x && nat_le x (max h i)) ≡ true
wider_left l h k i x e =
    let p = and_parts (nat_le l x) (nat_le x h) e in
    let low : l ≤ x = leb-true l x p.0 in
    let high : x ≤ h = leb-true x h p.1 in
    and_from (nat_le (min l k) x) (nat_le x (max h i)) (le-leb (min l k) x (omega (arith, low))) (le-leb x (max h i) (omega (arith, high)))

wider_right : (l h k i x : ℕ) → (nat_le k x && nat_le x i) ≡ true → (nat_le (min l k) x && nat_le x (max h i)) ≡ true
wider_right l h k i x e =
    let p = and_parts (nat_le k x) (nat_le x i) e in
    let low : k ≤ x = leb-true k x p.0 in
    let high : x ≤ i = leb-true x i p.1 in
    and_from (nat_le (min l k) x) (nat_le x (max h i)) (le-leb (min l k) x (omega (arith, low))) (le-leb x (max h i) (omega (arith, high)))

and_more : (a d x : Bool) → (a && x) ≡ true → ((a || d) && x) ≡ true
and_more true d x h = h
and_more false d x h = absurd (cc h)

and_more_second : (a d x : Bool) → (d && x) ≡ true → ((a || d) && x) ≡ true
and_more_second true d x h = (and_parts d x h).1
and_more_second false d x h = h

or_more : (x y u v : Bool) → (x ≡ true → u ≡ true) → (y ≡ true → v ≡ true) → (x || y) ≡ true → (u || v) ≡ true
or_more true y u v f g h = or_left u v (f refl)
or_more false y u v f g h = or_right u v (g h)

orders_left : (o p : Orders) (x y : ℕ) → has_order o x y ≡ true → has_order (join_orders o p) x y ≡ true
orders_left o p x y h =
    or_more ((o.less && nat_lt x y) || (o.equal && x == y)) (o.greater && nat_lt y x) _ _
    (λ k. or_more (o.less && nat_lt x y) (o.equal && x == y) _ _ (λ j. and_more o.less p.less (nat_lt x y) j) (λ j. and_more o.equal p.equal (x == y) j) k)
    (λ k. and_more o.greater p.greater (nat_lt y x) k) h

orders_right : (o p : Orders) (x y : ℕ) → has_order p x y ≡ true → has_order (join_orders o p) x y ≡ true
orders_right o p x y h =
    or_more ((p.less && nat_lt x y) || (p.equal && x == y)) (p.greater && nat_lt y x) _ _
    (λ k. or_more (p.less && nat_lt x y) (p.equal && x == y) _ _ (λ j. and_more_second o.less p.less (nat_lt x y) j) (λ j. and_more_second o.equal p.equal (x == y) j) k)
    (λ k. and_more_second o.greater p.greater (nat_lt y x) k) h

so_if : (b : Bool) (c : Compare) (m : Memory) → (b ≡ true → IsSo c m) → IsSo (cond b c NoCompare) m
so_if true c m h = h refl
so_if false c m h = tt

-- what the first of two states says is so when they are joined
pub compare_left : (c d : Compare) (m : Memory) → IsSo c m → IsSo (join_compare c d) m
compare_left NoCompare d m h = tt
compare_left (Bounds a n l i) NoCompare m h = tt
compare_left (Bounds a n l i) (Bounds b k p q) m h =
    so_if (a == b && n == k) (Bounds a n (min l p) (max i q)) m (λ e. wider_left l i p q (num (bytes_from m a n)) h)
compare_left (Bounds a n l i) (Ordered b k e p) m h = tt
compare_left (Ordered a n c o) NoCompare m h = tt
compare_left (Ordered a n c o) (Bounds b k p q) m h = tt
compare_left (Ordered a n c o) (Ordered b k e p) m h =
    so_if (a == b && n == k && c == e) (Ordered a n c (join_orders o p)) m (λ i. orders_left o p (num (bytes_from m a n)) (num (bytes_from m c n)) h)

same_block : (a b n k l h : ℕ) (m : Memory) → (a == b && n == k) ≡ true → IsSo (Bounds b k l h) m → IsSo (Bounds a n l h) m
same_block a b n k l h m e i =
    let p = and_parts (a == b) (n == k) e in
    subst (λ (x : ℕ). IsSo (Bounds x n l h) m) (sym (eqb-true a b p.0)) (subst (λ (x : ℕ). IsSo (Bounds b x l h) m) (sym (eqb-true n k p.1)) i)

same_blocks : (a b n k c d : ℕ) (o : Orders) (m : Memory) → (a == b && n == k && c == d) ≡ true → IsSo (Ordered b k d o) m → IsSo (Ordered a n c o) m
same_blocks a b n k c d o m e i =
    let p = and_parts (a == b && n == k) (c == d) e in
    let q = and_parts (a == b) (n == k) p.0 in
    subst (λ (x : ℕ). IsSo (Ordered x n c o) m) (sym (eqb-true a b q.0))
    (subst (λ (x : ℕ). IsSo (Ordered b x c o) m) (sym (eqb-true n k q.1)) (subst (λ (x : ℕ). IsSo (Ordered b k x o) m) (sym (eqb-true c d p.1)) i))

-- so is what the second says
pub compare_right : (c d : Compare) (m : Memory) → IsSo d m → IsSo (join_compare c d) m
compare_right NoCompare d m h = tt
compare_right (Bounds a n l i) NoCompare m h = tt
compare_right (Bounds a n l i) (Bounds b k p q) m h =
    so_if (a == b && n == k) (Bounds a n (min l p) (max i q)) m
    (λ e. wider_right l i p q (num (bytes_from m a n)) (same_block a b n k p q m e h))
compare_right (Bounds a n l i) (Ordered b k e p) m h = tt
compare_right (Ordered a n c o) NoCompare m h = tt
compare_right (Ordered a n c o) (Bounds b k p q) m h = tt
compare_right (Ordered a n c o) (Ordered b k e p) m h =
    so_if (a == b && n == k && c == e) (Ordered a n c (join_orders o p)) m
    (λ i. orders_right o p (num (bytes_from m a n)) (num (bytes_from m c n)) (same_blocks a b n k c e p m i h))

-- ---- touched bytes

-- two memories are the same outside of n bytes at an address
abbrev pub SameBut : ℕ → ℕ → Memory → Memory → Type 0
SameBut b n m k = (a : ℕ) → (a < b) ⊎ (b + n ≤ a) → m a ≡ k a

apart_not : (a n b m x : ℕ) → meet a n b m ≡ false → a ≤ x → x < a + n → nat_lt x b ≡ false → nat_le (b + m) x ≡ false → ⊥
apart_not a n b m x e low high h k =
    let below : b ≤ x = grind (arith, h) in
    let above : x < b + m = grind (arith, k) in
    let first : nat_lt a (b + m) ≡ true = lt-ltb a (b + m) (omega (arith, low, above)) in
    let second : nat_lt b (a + n) ≡ true = lt-ltb b (a + n) (omega (arith, below, high)) in
    absurd (cc (and_from (nat_lt a (b + m)) (nat_lt b (a + n)) first second, e))

apart : (a n b m x : ℕ) → meet a n b m ≡ false → a ≤ x → x < a + n → (x < b) ⊎ (b + m ≤ x)
apart a n b m x e low high =
    elim (cases_Bool (nat_lt x b)) [
      | inl h ↦ inl (ltb-true x b h)
      | inr h ↦
          elim (cases_Bool (nat_le (b + m) x)) [
            | inl k ↦ inr (leb-true (b + m) x k)
            | inr k ↦ absurd (apart_not a n b m x e low high h k)
          ]
    ]

same_bytes : (b n : ℕ) (m k : Memory) (x i : ℕ) → SameBut b n m k → ((y : ℕ) → x ≤ y → y < x + i → (y < b) ⊎ (b + n ≤ y)) → bytes_from m x i ≡ bytes_from k x i
same_bytes b n m k x zero h o = refl
same_bytes b n m k x (suc i) h o =
    let first : m x ≡ k x = h x (o x (omega arith) (omega arith)) in
    let rest : bytes_from m (suc x) i ≡ bytes_from k (suc x) i = same_bytes b n m k (suc x) i h (λ y low high. o y (omega (arith, low)) (omega (arith, high))) in
    ap (λ (v : ℕ). v ∷ bytes_from m (suc x) i) first ∙ ap (λ (t : List ℕ). k x ∷ t) rest

so_unless : (b : Bool) (c : Compare) (m : Memory) → (b ≡ false → IsSo c m) → IsSo (cond b NoCompare c) m
so_unless true c m h = tt
so_unless false c m h = h refl

-- the last compare is so after n bytes at an address were written
pub touched_holds : (b n : ℕ) (c : Compare) (m k : Memory) → SameBut b n m k → IsSo c m → IsSo (touched b n c) k
touched_holds b n NoCompare m k h i = tt
touched_holds b n (Bounds a l low high) m k h i =
    so_unless (meet a l b n) (Bounds a l low high) k (λ e.
    subst (λ (t : List ℕ). nat_le low (num t) && nat_le (num t) high ≡ true) (same_bytes b n m k a l h (λ y p q. apart a l b n y e p q)) i)
touched_holds b n (Ordered a l c o) m k h i =
    so_unless (meet a l b n || meet c l b n) (Ordered a l c o) k (λ e.
    let p = or_parts (meet a l b n) (meet c l b n) e in
    subst (λ (t : List ℕ). has_order o (num (bytes_from k a l)) (num t) ≡ true) (same_bytes b n m k c l h (λ y u v. apart c l b n y p.1 u v))
    (subst (λ (t : List ℕ). has_order o (num t) (num (bytes_from m c l)) ≡ true) (same_bytes b n m k a l h (λ y u v. apart a l b n y p.0 u v)) i))
