-- The places of names, and lists with one more.
use Rattle.std.proofs.Common.{arith, ◌≡◌, ℕ, zero, suc, List, [], ◌∷◌, ◌++◌, Bool, true, false, cond, map, Option, Some, None, refl, sym, subst, ◌∙◌}
use Rattle.std.specs.Prelude.{◌||◌, bytes_eq, is_none, is_some, option_map, slice_get}
use Rattle.std.proofs.lemmas.Slice.Eq.{bytes_eq-Decides}
use Rattle.std.proofs.lemmas.List.{map-append}
use Rattle.mc_words.specs.model_device.specs.Bytes.{lookup}
use Rattle.prove_facts.specs.model_rules.specs.Rules.{Action, OnLine}
use Rattle.lab_app_rules.specs.declared.rules.Named.{Named}
use Rattle.lab_app_rules.specs.declared.rules.On.{On}
use Rattle.lab_app_rules.specs.Rules.{allowance_of, deed_of, is_named, name_of, AreDistinct, AreLines, FirstLine, IsLine}
use Rattle.prove_rules.specs.Partials.{place_of}

-- ---- places

some_by : (b : Bool) (n : ℕ) (o : Option ℕ) (p : Option ℕ) → ((i : ℕ) → p ≡ Some i → is_some o ≡ true) → (i : ℕ) → cond b (Some 0) (option_map suc p) ≡ Some i → is_some (cond b (Some n) o) ≡ true
some_by b n o p h i e = grind arith

-- a name with a place is there
pub place_some : (held : List (List ℕ × ℕ)) (name : List ℕ) (i : ℕ) → place_of held name ≡ Some i → is_some (lookup held name) ≡ true
place_some [] name i e = absurd (cc e)
place_some (a ∷ held) name i e = some_by (bytes_eq a.0 name) a.1 (lookup held name) (place_of held name) (place_some held name) i e

none_by : (b : Bool) (n : ℕ) (o : Option ℕ) (p : Option ℕ) → (p ≡ None → is_none o ≡ true) → cond b (Some 0) (option_map suc p) ≡ None → is_none (cond b (Some n) o) ≡ true
none_by b n o p h e = grind arith

-- a name without a place is not
pub place_none : (held : List (List ℕ × ℕ)) (name : List ℕ) → place_of held name ≡ None → is_none (lookup held name) ≡ true
place_none [] name e = refl
place_none (a ∷ held) name e = none_by (bytes_eq a.0 name) a.1 (lookup held name) (place_of held name) (place_none held name) e

get_by : (n : List ℕ) (ns : List (List ℕ)) (name : List ℕ) (b : Bool) (p : Option ℕ) → bytes_eq n name ≡ b → ((i : ℕ) → p ≡ Some i → slice_get ns i ≡ Some name) → (i : ℕ) → cond b (Some 0) (option_map suc p) ≡ Some i → slice_get (n ∷ ns) i ≡ Some name
get_by n ns name b p d h i e = grind (arith, bytes_eq-Decides)

-- the name at a place
pub place_get : (held : List Named) (name : List ℕ) (i : ℕ) → place_of (map allowance_of held) name ≡ Some i → slice_get (map name_of held) i ≡ Some name
place_get [] name i e = absurd (cc e)
place_get (n ∷ held) name i e = get_by (name_of n) (map name_of held) name (bytes_eq (name_of n) name) (place_of (map allowance_of held) name) refl (place_get held name) i e

pub get_more : (ns : List (List ℕ)) (m : List ℕ) (i : ℕ) (n : List ℕ) → slice_get ns i ≡ Some n → slice_get (ns ++ m ∷ []) i ≡ Some n
get_more [] m i n e = absurd (cc e)
get_more (x ∷ ns) m zero n e = e
get_more (x ∷ ns) m (suc i) n e = get_more ns m i n e

-- ---- names that are there once

apart_by : (b : Bool) (p : Option ℕ) → cond b (Some 0) (option_map suc p) ≡ None → (b ≡ false) × (p ≡ None)
apart_by b p e = grind arith

other_way : (a b : List ℕ) (d : Bool) → bytes_eq b a ≡ d → bytes_eq a b ≡ false → d ≡ false
other_way a b true e h = let s : bytes_eq a b ≡ true = (bytes_eq-Decides a b).1 (sym ((bytes_eq-Decides b a).0 e)) in absurd (cc (sym h ∙ s))
other_way a b false e h = refl

either_by : (a b : Bool) → (a || b) ≡ false → (a ≡ false) × (b ≡ false)
either_by true b e = absurd (cc e)
either_by false b e = (refl, e)

neither : (a b : Bool) → a ≡ false → b ≡ false → (a || b) ≡ false
neither true b e h = e
neither false b e h = h

not_last : (ns : List (List ℕ)) (n m : List ℕ) → is_named n ns ≡ false → bytes_eq m n ≡ false → is_named n (ns ++ m ∷ []) ≡ false
not_last [] n m h d = neither (bytes_eq m n) false d refl
not_last (x ∷ ns) n m h d =
    let p = either_by (bytes_eq x n) (is_named n ns) h in
    neither (bytes_eq x n) (is_named n (ns ++ m ∷ [])) p.0 (not_last ns n m p.1 d)

-- one more name that is not there
pub distinct_more : (held : List Named) (m : List ℕ) → AreDistinct (map name_of held) → place_of (map allowance_of held) m ≡ None → AreDistinct (map name_of held ++ m ∷ [])
distinct_more [] m h e = (refl, tt)
distinct_more (n ∷ held) m h e =
    let p = apart_by (bytes_eq (name_of n) m) (place_of (map allowance_of held) m) e in
    (not_last (map name_of held) (name_of n) m h.0 (other_way (name_of n) m (bytes_eq m (name_of n)) refl p.0), distinct_more held m h.1 p.1)

-- ---- lines

line_more : (names : List (List ℕ)) (m : List ℕ) (deed : Action × ℕ) (l : OnLine) (on : On) → IsLine names deed l on → IsLine (names ++ m ∷ []) deed l on
line_more names m deed l on h = record { number = h.number; trigger = h.trigger; action = h.action; amount = h.amount; name = get_more names m on.name l.name h.name }

first_names : (d : Option (Action × ℕ)) (names : List (List ℕ)) (m : List ℕ) (ls : List OnLine) (on : On) (p q : List OnLine → Type 0) → ((ls : List OnLine) → p ls → q ls) → FirstLine d names ls on p → FirstLine d (names ++ m ∷ []) ls on q
first_names None names m ls on p q f h = f ls h
first_names (Some deed) names m [] on p q f h = absurd h
first_names (Some deed) names m (l ∷ ls) on p q f h = (line_more names m deed l on h.0, f ls h.1)

-- lines stay those of the definition when one more name follows
pub lines_names : (names : List (List ℕ)) (m : List ℕ) (ls : List OnLine) (ons : List On) → AreLines names ls ons → AreLines (names ++ m ∷ []) ls ons
lines_names names m [] [] h = tt
lines_names names m (l ∷ ls) [] h = absurd h
lines_names names m [] (on ∷ ons) h = first_names (deed_of on.effect) names m [] on (λ more. AreLines names more ons) (λ more. AreLines (names ++ m ∷ []) more ons) (λ more i. lines_names names m more ons i) h
lines_names names m (l ∷ ls) (on ∷ ons) h = first_names (deed_of on.effect) names m (l ∷ ls) on (λ more. AreLines names more ons) (λ more. AreLines (names ++ m ∷ []) more ons) (λ more i. lines_names names m more ons i) h

first_then : (d : Option (Action × ℕ)) (names : List (List ℕ)) (ls : List OnLine) (on : On) (p q : List OnLine → Type 0) → ((ls : List OnLine) → p ls → q ls) → FirstLine d names ls on p → FirstLine d names ls on q
first_then d names ls on p q f h = grind arith

first_last : (d : Option (Action × ℕ)) (names : List (List ℕ)) (ls : List OnLine) (m : OnLine) (on : On) (p q : List OnLine → Type 0) → ((ls : List OnLine) → p ls → q (ls ++ m ∷ [])) → FirstLine d names ls on p → FirstLine d names (ls ++ m ∷ []) on q
first_last d names ls m on p q f h = grind arith

module _ (names : List (List ℕ)) (one : On) where
  -- one more line about a sum
  pub lines_sum : (ls : List OnLine) (ons : List On) → deed_of one.effect ≡ None → AreLines names ls ons → AreLines names ls (ons ++ one ∷ [])
  lines_sum [] [] e h = subst (λ (d : Option (Action × ℕ)). FirstLine d names [] one (λ more. AreLines names more [])) (sym e) tt
  lines_sum (l ∷ ls) [] e h = absurd h
  lines_sum [] (on ∷ ons) e h = first_then (deed_of on.effect) names [] on (λ more. AreLines names more ons) (λ more. AreLines names more (ons ++ one ∷ [])) (λ more i. lines_sum more ons e i) h
  lines_sum (l ∷ ls) (on ∷ ons) e h = first_then (deed_of on.effect) names (l ∷ ls) on (λ more. AreLines names more ons) (λ more. AreLines names more (ons ++ one ∷ [])) (λ more i. lines_sum more ons e i) h

  -- one more line about an allowance
  pub lines_allowance : (ls : List OnLine) (ons : List On) (l : OnLine) (deed : Action × ℕ) → deed_of one.effect ≡ Some deed → IsLine names deed l one → AreLines names ls ons → AreLines names (ls ++ l ∷ []) (ons ++ one ∷ [])
  lines_allowance [] [] l deed e i h = subst (λ (d : Option (Action × ℕ)). FirstLine d names (l ∷ []) one (λ more. AreLines names more [])) (sym e) (i, tt)
  lines_allowance (k ∷ ls) [] l deed e i h = absurd h
  lines_allowance [] (on ∷ ons) l deed e i h = first_last (deed_of on.effect) names [] l on (λ more. AreLines names more ons) (λ more. AreLines names more (ons ++ one ∷ [])) (λ more j. lines_allowance more ons l deed e i j) h
  lines_allowance (k ∷ ls) (on ∷ ons) l deed e i h = first_last (deed_of on.effect) names (k ∷ ls) l on (λ more. AreLines names more ons) (λ more. AreLines names more (ons ++ one ∷ [])) (λ more j. lines_allowance more ons l deed e i j) h

-- a list of values with one more
pub map_more : {A B : Type 0} (f : A → B) (xs : List A) (x : A) → map f (xs ++ x ∷ []) ≡ map f xs ++ f x ∷ []
map_more f xs x = map-append f xs (x ∷ [])
