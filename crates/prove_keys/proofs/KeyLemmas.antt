-- Keys of the code that its test finds equal have the same value, and among whole keys the other way round.
use Rattle.std.proofs.Common.{◌≡◌, ℕ, zero, suc, ◌<◌, Bool, true, false, ◌&&◌, List, [], ◌∷◌, ◌++◌, length, get_or, refl, sym, ap, subst, ◌∙◌, arith}
use Rattle.std.specs.Prelude.{◌==◌, bytes_eq}
use Rattle.std.specs.Cmp.Lexicographic.{pointwise}
use Rattle.std.proofs.lemmas.Bool.{and_parts, eqb-true, eq-eqb}
use Rattle.std.proofs.lemmas.Slice.Eq.{bytes_eq-Decides}
use Rattle.std.proofs.Math.Bool.{beq}
use Rattle.std.specs.Cmp.{booleans_Decides}
use Rattle.prove_facts.specs.model_rules.specs.Keeping.{Amounts}
use Rattle.prove_facts.specs.model_prove.specs.Keys as known
use Rattle.prove_facts.specs.model_prove.specs.Keys.{same_moments, same_places}
use Rattle.prove_keys.specs.declared.keys.Call.{Call}
use Rattle.prove_keys.specs.declared.keys.Registers.{Registers}
use Rattle.prove_keys.specs.declared.keys.Begun.{Begun}
use Rattle.prove_keys.specs.declared.keys.Begun.TheVariants.{Delegated, Class}
use Rattle.prove_keys.specs.declared.keys.MomentKey.{MomentKey}
use Rattle.prove_keys.specs.declared.keys.PlaceKey.{PlaceKey}
use Rattle.prove_keys.specs.contracts.keys.CallPartialEq.TheImpl as call
use Rattle.prove_keys.specs.contracts.keys.RegistersPartialEq.TheImpl as registers
use Rattle.prove_keys.specs.contracts.keys.BegunPartialEq.TheImpl as begun
use Rattle.prove_keys.specs.contracts.keys.MomentKeyPartialEq.TheImpl as moment
use Rattle.prove_keys.specs.contracts.keys.PlaceKeyPartialEq.TheImpl as place
use Rattle.prove_keys.specs.Keys.{call_of, calls_of, start_of, amounts_of, key_of, moment_of, place_of}
use Rattle.prove_keys.specs.Tables.{IsOneOf, IsWholeMoment, IsWholePlace, AreDistinct}
use Rattle.prove_keys.proofs.SameLemmas.{both, moments_are, moment_self, SamePlace, places_are, place_self}

-- the tests of the code
abbrev pub call_eq : Call → Call → Bool
call_eq = (call.ghosts).eq

abbrev pub registers_eq : Registers → Registers → Bool
registers_eq = (registers.ghosts).eq

abbrev pub begun_eq : Begun → Begun → Bool
begun_eq = (begun.ghosts).eq

abbrev pub moment_eq : MomentKey → MomentKey → Bool
moment_eq = (moment.ghosts).eq

abbrev pub place_eq : PlaceKey → PlaceKey → Bool
place_eq = (place.ghosts).eq

-- ---- amounts

heads : {A : Type 0} (a b : A) (s t : List A) → a ∷ s ≡ b ∷ t → (a ≡ b) × (s ≡ t)
heads a b s t e = (cc, cc)

-- as many amounts as there are names are those that their names have
amounts_one : (names : List (List ℕ)) (ks js : List ℕ) → length ks ≡ length names → length js ≡ length names → amounts_of names ks ≡ amounts_of names js → ks ≡ js
amounts_one [] [] [] p q e = refl
amounts_one [] (k ∷ ks) js p q e = absurd (omega arith)
amounts_one [] [] (j ∷ js) p q e = absurd (omega arith)
amounts_one (n ∷ ns) [] js p q e = absurd (omega arith)
amounts_one (n ∷ ns) (k ∷ ks) [] p q e = absurd (omega arith)
amounts_one (n ∷ ns) (k ∷ ks) (j ∷ js) p q e =
    let parts = heads (n, k) (n, j) (amounts_of ns ks) (amounts_of ns js) e in
    let rest : ks ≡ js = amounts_one ns ks js (omega arith) (omega arith) parts.1 in
    let here : k ≡ j = ap (λ (x : List ℕ × ℕ). x.1) parts.0 in
    λ i. here i ∷ rest i

-- ---- calls

last_parts : {A : Type 0} (xs ys : List A) (x y : A) → xs ++ x ∷ [] ≡ ys ++ y ∷ [] → (xs ≡ ys) × (x ≡ y)
last_parts [] [] x y e = (refl, cc)
last_parts [] (b ∷ []) x y e = absurd (cc e)
last_parts [] (b ∷ c ∷ ys) x y e = absurd (cc e)
last_parts (a ∷ []) [] x y e = absurd (cc e)
last_parts (a ∷ c ∷ xs) [] x y e = absurd (cc e)
last_parts {A} (a ∷ xs) (b ∷ ys) x y e =
    let p = heads a b (xs ++ x ∷ []) (ys ++ y ∷ []) e in
    let q = last_parts xs ys x y p.1 in
    let head : a ≡ b = p.0 in
    let rest : xs ≡ ys = q.0 in
    (λ i. head i ∷ rest i, q.1)

call_parts : (c d : Call) → call_of c ≡ call_of d → c ≡ d
call_parts c d e =
    let end : c.end ≡ d.end = ap (λ (k : known.Call). k.dt) e in
    let lb : c.lb ≡ d.lb = ap (λ (k : known.Call). k.lb) e in
    let at : c.place ≡ d.place = ap (λ (k : known.Call). k.at) e in
    λ i. record { end = end i; lb = lb i; place = at i }

no_end : {A : Type 0} (xs : List A) (x : A) → [] ≡ xs ++ x ∷ [] → ⊥
no_end [] x e = cc e
no_end (y ∷ xs) x e = cc e

calls_one : (cs ds : List Call) → calls_of cs ≡ calls_of ds → cs ≡ ds
calls_one [] [] e = refl
calls_one [] (d ∷ ds) e = absurd (no_end (calls_of ds) (call_of d) e)
calls_one (c ∷ cs) [] e = absurd (no_end (calls_of cs) (call_of c) (sym e))
calls_one (c ∷ cs) (d ∷ ds) e =
    let p = last_parts (calls_of cs) (calls_of ds) (call_of c) (call_of d) e in
    let rest : cs ≡ ds = calls_one cs ds p.0 in
    let here : c ≡ d = call_parts c d p.1 in
    λ i. here i ∷ rest i

call_same : (c d : Call) → call_eq c d ≡ true → c ≡ d
call_same c d e =
    let p = and_parts (c.end == d.end) ((c.lb == d.lb) && (c.place == d.place)) e in
    let q = and_parts (c.lb == d.lb) (c.place == d.place) p.1 in
    let end : c.end ≡ d.end = eqb-true c.end d.end p.0 in
    let lb : c.lb ≡ d.lb = eqb-true c.lb d.lb q.0 in
    let at : c.place ≡ d.place = eqb-true c.place d.place q.1 in
    λ i. record { end = end i; lb = lb i; place = at i }

calls_same : (cs ds : List Call) → pointwise call_eq cs ds ≡ true → cs ≡ ds
calls_same [] [] e = refl
calls_same [] (d ∷ ds) e = absurd (cc e)
calls_same (c ∷ cs) [] e = absurd (cc e)
calls_same (c ∷ cs) (d ∷ ds) e =
    let p = and_parts (call_eq c d) (pointwise call_eq cs ds) e in
    let rest : cs ≡ ds = calls_same cs ds p.1 in
    let here : c ≡ d = call_same c d p.0 in
    λ i. here i ∷ rest i

call_self : (c : Call) → call_eq c c ≡ true
call_self c = both _ _ (eq-eqb c.end c.end refl) (both _ _ (eq-eqb c.lb c.lb refl) (eq-eqb c.place c.place refl))

calls_self : (cs : List Call) → pointwise call_eq cs cs ≡ true
calls_self [] = refl
calls_self (c ∷ cs) = both _ _ (call_self c) (calls_self cs)

-- ---- beginnings and registers

begun_same : (a b : Begun) → begun_eq a b ≡ true → a ≡ b
begun_same Delegated Delegated e = refl
begun_same Delegated (Class m) e = absurd (cc e)
begun_same (Class n) Delegated e = absurd (cc e)
begun_same (Class n) (Class m) e = ap (λ (k : ℕ). Class k) (eqb-true n m e)

begun_self : (a : Begun) → begun_eq a a ≡ true
begun_self Delegated = refl
begun_self (Class n) = eq-eqb n n refl

-- among distinct classes each has one number
start_one : (classes : List (List Bool)) (a b : Begun) → AreDistinct classes → IsOneOf (length classes) a → IsOneOf (length classes) b → start_of classes a ≡ start_of classes b → a ≡ b
start_one classes Delegated Delegated distinct p q e = refl
start_one classes Delegated (Class m) distinct p q e = absurd (cc e)
start_one classes (Class n) Delegated distinct p q e = absurd (cc e)
start_one classes (Class n) (Class m) distinct p q e =
    ap (λ (k : ℕ). Class k) (distinct n m p q (class_is (get_or classes n []) (get_or classes m []) e))
  where
    class_is : (c d : List Bool) → known.OfClass c ≡ known.OfClass d → c ≡ d
    class_is c d e = cc

registers_same : (r s : Registers) → registers_eq r s ≡ true → r ≡ s
registers_same r s e =
    let r4 = (r.lb == s.lb) && beq r.protected s.protected in
    let r3 = (r.dt == s.dt) && r4 in
    let r2 = beq r.z s.z && r3 in
    let r1 = beq r.c s.c && r2 in
    let p1 = and_parts (r.at == s.at) r1 e in
    let p2 = and_parts (beq r.c s.c) r2 p1.1 in
    let p3 = and_parts (beq r.z s.z) r3 p2.1 in
    let p4 = and_parts (r.dt == s.dt) r4 p3.1 in
    let p5 = and_parts (r.lb == s.lb) (beq r.protected s.protected) p4.1 in
    let at : r.at ≡ s.at = eqb-true r.at s.at p1.0 in
    let c : r.c ≡ s.c = (booleans_Decides r.c s.c).0 p2.0 in
    let z : r.z ≡ s.z = (booleans_Decides r.z s.z).0 p3.0 in
    let dt : r.dt ≡ s.dt = eqb-true r.dt s.dt p4.0 in
    let lb : r.lb ≡ s.lb = eqb-true r.lb s.lb p5.0 in
    let protected : r.protected ≡ s.protected = (booleans_Decides r.protected s.protected).0 p5.1 in
    λ i. record { at = at i; c = c i; z = z i; dt = dt i; lb = lb i; protected = protected i }

registers_self : (r : Registers) → registers_eq r r ≡ true
registers_self r =
    both _ _ (eq-eqb r.at r.at refl)
    (both _ _ ((booleans_Decides r.c r.c).1 refl)
    (both _ _ ((booleans_Decides r.z r.z).1 refl)
    (both _ _ (eq-eqb r.dt r.dt refl)
    (both _ _ (eq-eqb r.lb r.lb refl) ((booleans_Decides r.protected r.protected).1 refl)))))

-- ---- moments

moment_parts : (k j : MomentKey) → moment_eq k j ≡ true → (k.selected ≡ j.selected) × (k.amounts.items ≡ j.amounts.items)
moment_parts k j e =
    let p = and_parts (beq k.selected j.selected) (bytes_eq k.amounts.items j.amounts.items) e in
    ((booleans_Decides k.selected j.selected).0 p.0, (bytes_eq-Decides k.amounts.items j.amounts.items).0 p.1)

-- a moment that is equal to a whole one is whole
pub moment_whole : (n : ℕ) (k j : MomentKey) → moment_eq k j ≡ true → IsWholeMoment n j → IsWholeMoment n k
moment_whole n k j e whole = ap (λ (ks : List ℕ). length ks) (moment_parts k j e).1 ∙ whole

-- moments that are equal have the same value
pub moment_alike : (names : List (List ℕ)) (k j : MomentKey) → moment_eq k j ≡ true → same_moments (moment_of names j) (moment_of names k) ≡ true
moment_alike names k j e =
    let p = moment_parts k j e in
    let selected : k.selected ≡ j.selected = p.0 in
    let amounts : k.amounts.items ≡ j.amounts.items = p.1 in
    let one : moment_of names j ≡ moment_of names k =
    sym (λ i. record { selected = selected i; allowances = amounts_of names (amounts i) })
    in
    subst (λ (m : known.MomentKey). same_moments (moment_of names j) m ≡ true) one (moment_self (moment_of names j))

-- whole moments with the same value are equal
pub moment_one : (names : List (List ℕ)) (k j : MomentKey) → IsWholeMoment (length names) k → IsWholeMoment (length names) j
    → same_moments (moment_of names j) (moment_of names k) ≡ true → moment_eq k j ≡ true
moment_one names k j whole other e =
    let p = moments_are (moment_of names j) (moment_of names k) e in
    let amounts : k.amounts.items ≡ j.amounts.items = sym (amounts_one names j.amounts.items k.amounts.items other whole p.1) in
    both _ _ ((booleans_Decides k.selected j.selected).1 (sym p.0)) ((bytes_eq-Decides k.amounts.items j.amounts.items).1 amounts)

-- ---- places

-- the parts of two places of the code are equal
record SameKey (k j : PlaceKey) : Type 0 where
  begun : k.begun ≡ j.begun
  amounts : k.amounts.items ≡ j.amounts.items
  registers : k.registers ≡ j.registers
  calls : k.calls.items ≡ j.calls.items

place_parts : (k j : PlaceKey) → place_eq k j ≡ true → SameKey k j
place_parts k j e =
    let r2 = registers_eq k.registers j.registers && pointwise call_eq k.calls.items j.calls.items in
    let r1 = bytes_eq k.amounts.items j.amounts.items && r2 in
    let p1 = and_parts (begun_eq k.begun j.begun) r1 e in
    let p2 = and_parts (bytes_eq k.amounts.items j.amounts.items) r2 p1.1 in
    let p3 = and_parts (registers_eq k.registers j.registers) (pointwise call_eq k.calls.items j.calls.items) p2.1 in
    record {
      begun = begun_same k.begun j.begun p1.0;
      amounts = (bytes_eq-Decides k.amounts.items j.amounts.items).0 p2.0;
      registers = registers_same k.registers j.registers p3.0;
      calls = calls_same k.calls.items j.calls.items p3.1;
    }

place_equal : (k j : PlaceKey) → SameKey k j → place_eq k j ≡ true
place_equal k j p =
    both _ _ (subst (λ (b : Begun). begun_eq k.begun b ≡ true) p.begun (begun_self k.begun))
    (both _ _ ((bytes_eq-Decides k.amounts.items j.amounts.items).1 p.amounts)
    (both _ _ (subst (λ (r : Registers). registers_eq k.registers r ≡ true) p.registers (registers_self k.registers))
    (subst (λ (cs : List Call). pointwise call_eq k.calls.items cs ≡ true) p.calls (calls_self k.calls.items))))

-- a place that is equal to a whole one is whole
pub place_whole : (n m : ℕ) (k j : PlaceKey) → place_eq k j ≡ true → IsWholePlace n m j → IsWholePlace n m k
place_whole n m k j e whole =
    let p = place_parts k j e in
    (ap (λ (ks : List ℕ). length ks) p.amounts ∙ whole.0, subst (IsOneOf m) (sym p.begun) whole.1)

-- places that are equal have the same value, and one is under protection where the other is
pub place_alike : (names : List (List ℕ)) (classes : List (List Bool)) (k j : PlaceKey) → place_eq k j ≡ true
    → (same_places (place_of names classes j) (place_of names classes k) ≡ true) × (j.registers.protected ≡ k.registers.protected)
place_alike names classes k j e =
    let p = place_parts k j e in
    let begun : k.begun ≡ j.begun = p.begun in
    let amounts : k.amounts.items ≡ j.amounts.items = p.amounts in
    let registers : k.registers ≡ j.registers = p.registers in
    let calls : k.calls.items ≡ j.calls.items = p.calls in
    let one : place_of names classes j ≡ place_of names classes k =
    sym (λ i. key_of (start_of classes (begun i)) (amounts_of names (amounts i)) (registers i) (calls i))
    in (
      subst (λ (m : known.PlaceKey). same_places (place_of names classes j) m ≡ true) one (place_self (place_of names classes j)),
      ap (λ (r : Registers). r.protected) (sym registers),
    )

-- whole places with the same value, of distinct classes, are equal
pub place_one : (names : List (List ℕ)) (classes : List (List Bool)) (k j : PlaceKey) → AreDistinct classes
    → IsWholePlace (length names) (length classes) k → IsWholePlace (length names) (length classes) j
    → same_places (place_of names classes j) (place_of names classes k) ≡ true → place_eq k j ≡ true
place_one names classes k j distinct whole other e =
    let p = places_are (place_of names classes j) (place_of names classes k) e in
    let at : j.registers.at ≡ k.registers.at = p.at in
    let c : j.registers.c ≡ k.registers.c = p.c in
    let z : j.registers.z ≡ k.registers.z = p.z in
    let dt : j.registers.dt ≡ k.registers.dt = p.dt in
    let lb : j.registers.lb ≡ k.registers.lb = p.lb in
    let protected : j.registers.protected ≡ k.registers.protected = p.protected in
    place_equal k j
    (record {
      begun = sym (start_one classes j.begun k.begun distinct other.1 whole.1 p.start);
      amounts = sym (amounts_one names j.amounts.items k.amounts.items other.0 whole.0 p.allowances);
      registers = sym (λ i. record { at = at i; c = c i; z = z i; dt = dt i; lb = lb i; protected = protected i });
      calls = sym (calls_one j.calls.items k.calls.items p.calls);
    })
