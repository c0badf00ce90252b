-- Rosters that are equal by the test of the code have the same value, and among distinct ones each value has one number.
use Rattle.std.proofs.Common.{◌≡◌, ℕ, zero, suc, Bool, true, false, ◌&&◌, List, [], ◌∷◌, map, Some, refl, sym, ◌∙◌, ap, subst}
use Rattle.std.specs.Prelude.{◌==◌, bytes_eq, slice_get}
use Rattle.std.specs.List.{AllByRecursion, IsDistinct}
use Rattle.std.specs.Cmp.Lexicographic.{pointwise}
use Rattle.std.proofs.lemmas.Bool.{and_parts, eqb-true, eq-eqb}
use Rattle.std.proofs.lemmas.Slice.Eq.{bytes_eq-Decides}
use Rattle.lab_branch.specs.declared.roster.Resident.{Resident}
use Rattle.lab_branch.specs.declared.roster.Roster.{Roster}
use Rattle.lab_branch.specs.Rosters.{ResidentValue, resident_value, roster_value, resident_eq, roster_eq}

pub both : (s t : Bool) → s ≡ true → t ≡ true → (s && t) ≡ true
both s t p q = ap (λ (x : Bool). x && t) p ∙ q

same_bytes : (a b : List ℕ) → bytes_eq a b ≡ true → a ≡ b
same_bytes a b h = (bytes_eq-Decides a b).0 h

equal_bytes : (a b : List ℕ) → a ≡ b → bytes_eq a b ≡ true
equal_bytes a b h = (bytes_eq-Decides a b).1 h

resident_same : (a b : Resident) → resident_eq a b ≡ true → resident_value a ≡ resident_value b
resident_same a b h =
    let last = bytes_eq a.dir.items b.dir.items && bytes_eq a.fci.items b.fci.items in
    let rest6 = (a.fixed == b.fixed) && last in
    let rest5 = bytes_eq a.code.items b.code.items && rest6 in
    let rest4 = (a.deny == b.deny) && rest5 in
    let rest3 = (a.session == b.session) && rest4 in
    let rest2 = (a.place == b.place) && rest3 in
    let p1 = and_parts (bytes_eq a.name.items b.name.items) rest2 h in
    let p2 = and_parts (a.place == b.place) rest3 p1.1 in
    let p3 = and_parts (a.session == b.session) rest4 p2.1 in
    let p4 = and_parts (a.deny == b.deny) rest5 p3.1 in
    let p5 = and_parts (bytes_eq a.code.items b.code.items) rest6 p4.1 in
    let p6 = and_parts (a.fixed == b.fixed) last p5.1 in
    let p7 = and_parts (bytes_eq a.dir.items b.dir.items) (bytes_eq a.fci.items b.fci.items) p6.1 in
    let name : a.name.items ≡ b.name.items = same_bytes a.name.items b.name.items p1.0 in
    let place : a.place ≡ b.place = eqb-true a.place b.place p2.0 in
    let session : a.session ≡ b.session = eqb-true a.session b.session p3.0 in
    let deny : a.deny ≡ b.deny = eqb-true a.deny b.deny p4.0 in
    let code : a.code.items ≡ b.code.items = same_bytes a.code.items b.code.items p5.0 in
    let fixed : a.fixed ≡ b.fixed = eqb-true a.fixed b.fixed p6.0 in
    let dir : a.dir.items ≡ b.dir.items = same_bytes a.dir.items b.dir.items p7.0 in
    let fci : a.fci.items ≡ b.fci.items = same_bytes a.fci.items b.fci.items p7.1 in
    λ i. record { name = name i; place = place i; session = session i; deny = deny i; code = code i; fixed = fixed i; dir = dir i; fci = fci i }

resident_equal : (a b : Resident) → resident_value a ≡ resident_value b → resident_eq a b ≡ true
resident_equal a b h =
    both _ _ (equal_bytes a.name.items b.name.items (ap (λ (r : ResidentValue). r.name) h))
    (both _ _ (eq-eqb a.place b.place (ap (λ (r : ResidentValue). r.place) h))
    (both _ _ (eq-eqb a.session b.session (ap (λ (r : ResidentValue). r.session) h))
    (both _ _ (eq-eqb a.deny b.deny (ap (λ (r : ResidentValue). r.deny) h))
    (both _ _ (equal_bytes a.code.items b.code.items (ap (λ (r : ResidentValue). r.code) h))
    (both _ _ (eq-eqb a.fixed b.fixed (ap (λ (r : ResidentValue). r.fixed) h))
    (both _ _ (equal_bytes a.dir.items b.dir.items (ap (λ (r : ResidentValue). r.dir) h))
    (equal_bytes a.fci.items b.fci.items (ap (λ (r : ResidentValue). r.fci) h))))))))

residents_same : (xs ys : List Resident) → pointwise resident_eq xs ys ≡ true → map resident_value xs ≡ map resident_value ys
residents_same [] [] h = refl
residents_same [] (b ∷ ys) h = absurd (cc h)
residents_same (a ∷ xs) [] h = absurd (cc h)
residents_same (a ∷ xs) (b ∷ ys) h =
    let p = and_parts (resident_eq a b) (pointwise resident_eq xs ys) h in
    let one : resident_value a ≡ resident_value b = resident_same a b p.0 in
    let rest : map resident_value xs ≡ map resident_value ys = residents_same xs ys p.1 in
    λ i. one i ∷ rest i

head_is : (x y : ResidentValue) (xs ys : List ResidentValue) → x ∷ xs ≡ y ∷ ys → (x ≡ y) × (xs ≡ ys)
head_is x y xs ys h = (cc, cc)

residents_equal : (xs ys : List Resident) → map resident_value xs ≡ map resident_value ys → pointwise resident_eq xs ys ≡ true
residents_equal [] [] h = refl
residents_equal [] (b ∷ ys) h = absurd (cc h)
residents_equal (a ∷ xs) [] h = absurd (cc h)
residents_equal (a ∷ xs) (b ∷ ys) h =
    let p = head_is (resident_value a) (resident_value b) (map resident_value xs) (map resident_value ys) h in
    both _ _ (resident_equal a b p.0) (residents_equal xs ys p.1)

-- rosters that are equal by the test have the same value
pub roster_same : (a b : Roster) → roster_eq a b ≡ true → roster_value a ≡ roster_value b
roster_same a b h = residents_same a.residents.items b.residents.items h

-- and those of the same value are equal by the test
pub roster_equal : (a b : Roster) → roster_value a ≡ roster_value b → roster_eq a b ≡ true
roster_equal a b h = residents_equal a.residents.items b.residents.items h

-- ---- numbers

none_equal : (x b : Roster) (rs : List Roster) (j : ℕ) → AllByRecursion (λ y. roster_eq x y ≡ false) rs → slice_get rs j ≡ Some b → roster_eq x b ≡ false
none_equal x b [] j h g = absurd (cc g)
none_equal x b (r ∷ rs) zero h g = let is : r ≡ b = cc in subst (λ (y : Roster). roster_eq x y ≡ false) is h.0
none_equal x b (r ∷ rs) (suc j) h g = none_equal x b rs j h.1 g

-- among distinct rosters each value has one number
pub one_number : (rs : List Roster) (i j : ℕ) (a b : Roster) → IsDistinct roster_eq rs → slice_get rs i ≡ Some a → slice_get rs j ≡ Some b → roster_value a ≡ roster_value b → i ≡ j
unfolding IsDistinct
one_number [] i j a b d g h e = absurd (cc g)
one_number (r ∷ rs) zero zero a b d g h e = refl
one_number (r ∷ rs) zero (suc j) a b d g h e =
    let is : r ≡ a = cc in
    let other : roster_eq r b ≡ false = none_equal r b rs j d.0 h in
    absurd (cc (sym (roster_equal r b (ap roster_value is ∙ e)) ∙ other))
one_number (r ∷ rs) (suc i) zero a b d g h e =
    let is : r ≡ b = cc in
    let other : roster_eq r a ≡ false = none_equal r a rs i d.0 g in
    absurd (cc (sym (roster_equal r a (ap roster_value is ∙ sym e)) ∙ other))
one_number (r ∷ rs) (suc i) (suc j) a b d g h e = ap suc (one_number rs i j a b d.1 g h e)
