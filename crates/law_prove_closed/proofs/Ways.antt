-- What is left of a pattern after a front of a text decides whether it fits the whole: `opened` and `after_text` are `fits`.
use Rattle.std.proofs.Common.{◌≡◌, ℕ, Bool, true, false, cond, List, [], ◌∷◌, ◌++◌, refl, sym, ap, subst, ◌∙◌, arith}
use Rattle.std.specs.Prelude.{not, ◌&&◌, ◌||◌, flat_map, bytes_eq}
use Rattle.std.proofs.lemmas.Slice.Eq.{bytes_eq-Decides}
use Rattle.law_prove.specs.model_device.specs.Bytes.{has_name}
use Rattle.law_prove.specs.model_text.specs.Text.{is_empty}
use Rattle.law_prove.specs.model_rules.specs.model_events.specs.Patterns.{is_star}
use Rattle.law_prove.specs.model_rules.specs.model_events.specs.Matching.{some_rest, first_and_rest, matches, plain, fits}
use Rattle.law_prove_closed.specs.CommandLaws.{PatternLaw}
use Rattle.law_prove.specs.model_prove.specs.Texts.{Open, with_way, both_ways, openings, way_after, all_openings, after_text, is_none_left, openings_unless, opened, is_match}

-- ---- truth values

or_none : (a : Bool) → (a || false) ≡ a
or_none true = refl
or_none false = refl

or_twice : (a b : Bool) → (a || (a || b)) ≡ (a || b)
or_twice true b = refl
or_twice false b = refl

or_turned : (a b : Bool) → (a || b) ≡ (b || a)
or_turned a b = grind arith

or_nested : (a b c : Bool) → ((a || b) || c) ≡ (a || (b || c))
or_nested true b c = refl
or_nested false b c = refl

or_past : (a b c : Bool) → (a || c) ≡ c → (a || (b || c)) ≡ (b || c)
or_past a b c e = grind arith

-- ---- some way passes a test

-- whether one of some ways passes a test
abbrev pub some_way : (List ℕ → Bool) → Open → Bool
some_way test [] = false
some_way test (p ∷ ps) = test p || some_way test ps

module _ (test : List ℕ → Bool) where
  there_is : (p : List ℕ) (ps : Open) → has_name p ps ≡ true → (test p || some_way test ps) ≡ some_way test ps
  there_is p [] e = absurd (cc e)
  there_is p (k ∷ ks) e = by (bytes_eq k p) refl e (λ more. there_is p ks more)
    where
      by : (b : Bool) → bytes_eq k p ≡ b → (b || has_name p ks) ≡ true → (has_name p ks ≡ true → (test p || some_way test ks) ≡ some_way test ks) → (test p || (test k || some_way test ks)) ≡ (test k || some_way test ks)
      by true same more again =
          let is : k ≡ p = (bytes_eq-Decides k p).0 same in
          subst (λ (q : List ℕ). (test q || (test k || some_way test ks)) ≡ (test k || some_way test ks)) is (or_twice (test k) (some_way test ks))
      by false same more again = or_past (test p) (test k) (some_way test ks) (again more)

  one_more : (p : List ℕ) (ps : Open) → some_way test (with_way p ps) ≡ (test p || some_way test ps)
  one_more p ps = grind (arith, there_is)

  of_both : (ps qs : Open) → some_way test (both_ways ps qs) ≡ (some_way test ps || some_way test qs)
  of_both [] qs = refl
  of_both (p ∷ ps) qs =
      one_more p (both_ways ps qs) ∙ (ap (λ (b : Bool). test p || b) (of_both ps qs) ∙ sym (or_nested (test p) (some_way test ps) (some_way test qs)))

  of_appended : (ps qs : Open) → some_way test (ps ++ qs) ≡ (some_way test ps || some_way test qs)
  of_appended [] qs = refl
  of_appended (p ∷ ps) qs = ap (λ (b : Bool). test p || b) (of_appended ps qs) ∙ sym (or_nested (test p) (some_way test ps) (some_way test qs))

  -- a test that a pattern passes where one of its openings does
  of_all : (whole : List ℕ → Bool) → ((p : List ℕ) → some_way test (openings p) ≡ whole p) → (ps : Open) → some_way test (all_openings ps) ≡ some_way whole ps
  of_all whole each [] = refl
  of_all whole each (p ∷ ps) =
      of_both (openings p) (all_openings ps) ∙ (ap (λ (b : Bool). b || some_way test (all_openings ps)) (each p) ∙ ap (λ (b : Bool). whole p || b) (of_all whole each ps))

  of_each : (f : List ℕ → Open) (ps : Open) → some_way test (flat_map f ps) ≡ some_way (λ p. some_way test (f p)) ps
  of_each f [] = refl
  of_each f (p ∷ ps) = of_appended (f p) (flat_map f ps) ∙ ap (λ (b : Bool). some_way test (f p) || b) (of_each f ps)

-- ---- openings match what their pattern does

-- ---- a character more

-- whether a way matches a character and a text, by what is left of it after the character
abbrev goes_on : ℕ → List ℕ → List ℕ → Bool
goes_on c t p = some_way (λ q. matches q t) (way_after c p)

one_taken : (b m : Bool) (ps t : List ℕ) → m ≡ matches ps t → some_way (λ q. matches q t) (cond b (ps ∷ []) []) ≡ (b && m)
one_taken true m ps t e = or_none (matches ps t) ∙ sym e
one_taken false m ps t e = refl

openings_go : (c : ℕ) (t p : List ℕ) → some_way (goes_on c t) (openings p) ≡ matches p (c ∷ t)
unfolding matches
openings_go c t [] = refl
openings_go c t (p ∷ ps) = by (is_star p) refl (openings_go c t ps)
  where
    by : (b : Bool) → is_star p ≡ b → some_way (goes_on c t) (openings ps) ≡ matches ps (c ∷ t)
        → some_way (goes_on c t) (cond b (with_way (p ∷ ps) (openings ps)) ((p ∷ ps) ∷ [])) ≡ cond b (some_rest (matches ps) (c ∷ t)) (first_and_rest p (matches ps) (c ∷ t))
    by b e again = grind (arith, or_none, one_more, or_turned, one_taken)

-- ---- the end of a text

ends_by : (ps : Open) → has_name [] ps ≡ some_way (λ q. bytes_eq q []) ps
ends_by [] = refl
ends_by (p ∷ ps) = ap (λ (b : Bool). bytes_eq p [] || b) (ends_by ps)

openings_end : (p : List ℕ) → some_way (λ q. bytes_eq q []) (openings p) ≡ matches p []
unfolding matches
openings_end [] = refl
openings_end (p ∷ ps) = by (is_star p) refl (openings_end ps)
  where
    by : (b : Bool) → is_star p ≡ b → some_way (λ q. bytes_eq q []) (openings ps) ≡ matches ps []
        → some_way (λ q. bytes_eq q []) (cond b (with_way (p ∷ ps) (openings ps)) ((p ∷ ps) ∷ [])) ≡ cond b (some_rest (matches ps) []) (first_and_rest p (matches ps) [])
    by true e again = one_more (λ q. bytes_eq q []) (p ∷ ps) (openings ps) ∙ again
    by false e again = refl

-- ---- the law

-- ways that are open decide a test: at the end of a text, and after a character more
record Decide (ps : Open) (test : List ℕ → Bool) : Type 0 where
  ends : is_match ps ≡ test []
  goes : (c : ℕ) (t : List ℕ) → some_way (λ q. matches q t) (flat_map (way_after c) ps) ≡ test (c ∷ t)

all_decide : (ps : Open) → Decide (all_openings ps) (λ t. some_way (λ q. matches q t) ps)
all_decide ps =
    record {
      ends = ends_by (all_openings ps) ∙ of_all (λ q. bytes_eq q []) (λ q. matches q []) openings_end ps;
      goes = λ c t. of_each (λ q. matches q t) (way_after c) (all_openings ps) ∙ of_all (goes_on c t) (λ q. matches q (c ∷ t)) (openings_go c t) ps;
    }

text_decides : (t : List ℕ) (ps : Open) (test : List ℕ → Bool) → Decide ps test → is_match (after_text t ps) ≡ test t
text_decides [] ps test d = d.ends
text_decides (c ∷ t) ps test d =
    let more = flat_map (way_after c) ps in
    text_decides t (all_openings more) (λ u. some_way (λ q. matches q u) more) (all_decide more) ∙ d.goes c t

opened_by : (b : Bool) (p : List ℕ) → is_none_left p ≡ b → Decide (openings_unless b p) (λ t. not b && matches p t)
opened_by true p e = record { ends = refl; goes = λ c t. refl }
opened_by false p e =
    record {
      ends = ends_by (openings p) ∙ openings_end p;
      goes = λ c t. of_each (λ q. matches q t) (way_after c) (openings p) ∙ openings_go c t p;
    }

none_is_empty : (p : List ℕ) → is_none_left p ≡ is_empty p
none_is_empty [] = refl
none_is_empty (c ∷ p) = refl

-- what is left of a pattern after a text matches nothing more exactly if the pattern fits the text
pub left_is_fit : (p t : List ℕ) → is_match (after_text (plain t) (opened p)) ≡ fits p t
unfolding fits
left_is_fit p t =
    text_decides (plain t) (opened p) (λ u. not (is_none_left (plain p)) && matches (plain p) u) (opened_by (is_none_left (plain p)) (plain p) refl)
    ∙ ap (λ (b : Bool). not b && matches (plain p) (plain t)) (none_is_empty (plain p))

-- what is left of a pattern after a front of a text decides whether it fits the whole
pub pattern_law : PatternLaw
pattern_law p t = left_is_fit p t
