-- Where the code finds a key, the tables of the definition have it.
use Rattle.std.proofs.Common.{◌≡◌, ℕ, zero, suc, ◌<◌, Bool, true, false, cond, List, [], ◌∷◌, length, get_or, Option, Some, None, Result, Ok, Err, IfSome, IfOk, refl, sym, ap, subst, ◌∙◌, arith}
use Rattle.std.specs.List.{AllByRecursion, position}
use Rattle.std.proofs.lemmas.List.Quantifiers.{position-Some}
use Rattle.prove_facts.specs.model_prove.specs.Facts.{Facts, within, follow}
use Rattle.prove_facts.specs.model_prove.specs.Compares.{Compare}
use Rattle.prove_facts.specs.model_prove.specs.Keys as known
use Rattle.prove_facts.specs.model_prove.specs.Keys.{same_moments, same_places, known_follows, compare_follows}
use Rattle.prove_facts.specs.model_prove.specs.Tables.{moment_at, place_at, has_facts, has_known}
use Rattle.prove_keys.specs.declared.keys.MomentKey.{MomentKey}
use Rattle.prove_keys.specs.declared.keys.PlaceKey.{PlaceKey}
use Rattle.prove_keys.specs.declared.known.PackedKnown.{PackedKnown}
use Rattle.prove_keys.specs.Keys.{moment_of, place_of}
use Rattle.prove_keys.specs.Known.{known_of}
use Rattle.prove_keys.specs.Tables.{moments_of, places_of, IsWholeMoment, IsWholePlace, AreDistinct}
use Rattle.prove_keys.proofs.ListLemmas.{all_at}
use Rattle.prove_keys.proofs.KeyLemmas.{moment_eq, place_eq, moment_whole, moment_alike, moment_one, place_whole, place_alike, place_one}

-- ---- answers by cases

pub if_some : {A : Type 0} (P Q : A → Type 0) (r : Option A) → IfSome r P → ((x : A) → P x → Q x) → IfSome r Q
if_some P Q None h f = h
if_some P Q (Some x) h f = f x h

pub if_ok : {A E : Type 0} (P Q : A → Type 0) (r : Result A E) → IfOk r P → ((x : A) → P x → Q x) → IfOk r Q
if_ok P Q (Err e) h f = h
if_ok P Q (Ok x) h f = f x h

not_true : (b : Bool) → (b ≡ true → ⊥) → b ≡ false
not_true true h = absurd (h refl)
not_true false h = refl

is_true : (b : Bool) → b ≡ true → b ≡ false → ⊥
is_true b p q = cc (sym p ∙ q)

cond_true : {A : Type 0} (b : Bool) (x y : A) → b ≡ true → cond b x y ≡ x
cond_true {A} b x y e = ap (λ (c : Bool). cond c x y) e

cond_false : {A : Type 0} (b : Bool) (x y : A) → b ≡ false → cond b x y ≡ y
cond_false {A} b x y e = ap (λ (c : Bool). cond c x y) e

-- ---- moments

moment_in : (names : List (List ℕ)) (ks : List MomentKey) (fs : List Facts) (k : MomentKey) (i : ℕ) (g : Facts)
    → AllByRecursion (IsWholeMoment (length names)) ks → IsWholeMoment (length names) k → i < length ks → moment_eq k (get_or ks i k) ≡ true
    → ((j : ℕ) → j < i → moment_eq k (get_or ks j k) ≡ false) → i < length fs → g ≡ get_or fs i g
    → moment_at (moments_of names ks fs) (moment_of names k) ≡ Some g
moment_in names [] fs k i g all whole low here before bound is = absurd (omega arith)
moment_in names (l ∷ ks) [] k i g all whole low here before bound is = absurd (omega arith)
moment_in names (l ∷ ks) (f ∷ fs) k zero g all whole low here before bound is =
    cond_true (same_moments (moment_of names l) (moment_of names k)) (Some f) _ (moment_alike names k l here) ∙ ap (λ (h : Facts). Some h) (sym is)
moment_in names (l ∷ ks) (f ∷ fs) k (suc i) g all whole low here before bound is =
    let other : moment_eq k l ≡ false = before 0 (omega arith) in
    let no : same_moments (moment_of names l) (moment_of names k) ≡ false =
    not_true _ (λ e. is_true (moment_eq k l) (moment_one names k l whole all.0 e) other)
    in
    cond_false (same_moments (moment_of names l) (moment_of names k)) (Some f) _ no
    ∙ moment_in names ks fs k i g all.1 whole (omega arith) here (λ j h. before (suc j) (omega arith)) (omega arith) is

-- the table has the facts of a moment where the code finds it
pub moment_there : (names : List (List ℕ)) (ks : List MomentKey) (fs : List Facts) (k : MomentKey) (i : ℕ) (g : Facts)
    → AllByRecursion (IsWholeMoment (length names)) ks → position (moment_eq k) ks ≡ Some i → i < length fs → g ≡ get_or fs i g
    → moment_at (moments_of names ks fs) (moment_of names k) ≡ Some g
moment_there names ks fs k i g all found bound is =
    let p = position-Some (moment_eq k) ks i k found in
    let whole = moment_whole (length names) k (get_or ks i k) p.1 (all_at (IsWholeMoment (length names)) ks i k p.0 all) in
    moment_in names ks fs k i g all whole p.0 p.1 p.2 bound is

-- ---- places

place_in : (names : List (List ℕ)) (classes : List (List Bool)) (fixed : ℕ) (ks : List PlaceKey) (ps : List PackedKnown) (k : PlaceKey) (i : ℕ) (g : PackedKnown)
    → AreDistinct classes → AllByRecursion (IsWholePlace (length names) (length classes)) ks → IsWholePlace (length names) (length classes) k
    → i < length ks → place_eq k (get_or ks i k) ≡ true → ((j : ℕ) → j < i → place_eq k (get_or ks j k) ≡ false) → i < length ps → g ≡ get_or ps i g
    → place_at (places_of names classes fixed ks ps) (place_of names classes k) ≡ Some (known_of k.registers.protected fixed g)
place_in names classes fixed [] ps k i g distinct all whole low here before bound is = absurd (omega arith)
place_in names classes fixed (l ∷ ks) [] k i g distinct all whole low here before bound is = absurd (omega arith)
place_in names classes fixed (l ∷ ks) (p ∷ ps) k zero g distinct all whole low here before bound is =
    let alike = place_alike names classes k l here in
    let protected : l.registers.protected ≡ k.registers.protected = alike.1 in
    let held : p ≡ g = sym is in
    cond_true (same_places (place_of names classes l) (place_of names classes k)) (Some (known_of l.registers.protected fixed p)) _ alike.0
    ∙ (λ j. Some (known_of (protected j) fixed (held j)))
place_in names classes fixed (l ∷ ks) (p ∷ ps) k (suc i) g distinct all whole low here before bound is =
    let other : place_eq k l ≡ false = before 0 (omega arith) in
    let no : same_places (place_of names classes l) (place_of names classes k) ≡ false =
    not_true _ (λ e. is_true (place_eq k l) (place_one names classes k l distinct whole all.0 e) other)
    in
    cond_false (same_places (place_of names classes l) (place_of names classes k)) (Some (known_of l.registers.protected fixed p)) _ no
    ∙ place_in names classes fixed ks ps k i g distinct all.1 whole (omega arith) here (λ j h. before (suc j) (omega arith)) (omega arith) is

-- the table has what is known at a place where the code finds it
pub place_there : (names : List (List ℕ)) (classes : List (List Bool)) (fixed : ℕ) (ks : List PlaceKey) (ps : List PackedKnown) (k : PlaceKey) (i : ℕ) (g : PackedKnown)
    → AreDistinct classes → AllByRecursion (IsWholePlace (length names) (length classes)) ks → position (place_eq k) ks ≡ Some i → i < length ps → g ≡ get_or ps i g
    → place_at (places_of names classes fixed ks ps) (place_of names classes k) ≡ Some (known_of k.registers.protected fixed g)
place_there names classes fixed ks ps k i g distinct all found bound is =
    let p = position-Some (place_eq k) ks i k found in
    let P = IsWholePlace (length names) (length classes) in
    let whole = place_whole (length names) (length classes) k (get_or ks i k) p.1 (all_at P ks i k p.0 all) in
    place_in names classes fixed ks ps k i g distinct all whole p.0 p.1 p.2 bound is

-- ---- what follows

-- facts follow from those of a moment that the table has
pub facts_there : (f g : Facts) (o : Option Facts) (b : Bool) → o ≡ Some g → b ≡ follow f g → b ≡ true → has_facts f o ≡ true
facts_there f g o b there is e = ap (has_facts f) there ∙ sym is ∙ e

-- what is known follows at a place that the table has
pub known_there : (k l : known.Known) (o : Option known.Known) → o ≡ Some l → known_follows k l ≡ true → has_known k o ≡ true
known_there k l o there e = ap (has_known k) there ∙ e
