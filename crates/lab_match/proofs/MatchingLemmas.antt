-- Texts without blanks, and walks of a pattern along a text.
use Rattle.std.proofs.Common.{◌≡◌, ◌≤◌, ℕ, ◌+◌, ◌-◌, ◌&&◌, ◌||◌, ◌==◌, length, take, drop, refl, sym, ◌∙◌, ap, subst, List, [], ◌∷◌, Bool, true, false, cond, arith}
use Rattle.std.specs.Prelude.{not, slice_index}
use Rattle.mc_text.specs.model_text.specs.Text.{is_blank, is_empty, is_within}
use Rattle.lab_match.specs.Walks.{Parts}
use Rattle.model_events.specs.Patterns.{is_any, is_star}
use Rattle.model_events.specs.Matching.{some_rest, first_and_rest, fits, matches, plain, small}
use Rattle.std.proofs.lemmas.Bool.{or_left, or_right}
use Rattle.std.proofs.lemmas.List.{take_rest}
use Rattle.mc_text.specs.model_device.proofs.BoolLemmas.{and_second}

-- ---- blanks

pub plain_kept : (c : ℕ) (t : List ℕ) → is_blank c ≡ false → plain (c ∷ t) ≡ small c ∷ plain t
plain_kept c t e = rw e refl

pub plain_blank : (c : ℕ) (t : List ℕ) → is_blank c ≡ true → plain (c ∷ t) ≡ plain t
plain_blank c t e = rw e refl

-- ---- texts without blanks and capital letters

-- a character that is no capital letter
kept_by : (c : ℕ) (b : Bool) → is_within 65 90 c ≡ b → small (cond b (c + 32) c) ≡ cond b (c + 32) c
kept_by c true e = grind (arith, e)
kept_by c false e = ap (λ (b : Bool). cond b (c + 32) c) e

small_again : (c : ℕ) → small (small c) ≡ small c
small_again c = kept_by c (is_within 65 90 c) refl

blank_by : (c : ℕ) (b : Bool) → is_within 65 90 c ≡ b → is_blank c ≡ false → is_blank (cond b (c + 32) c) ≡ false
blank_by c true e h = grind (arith, e, h)
blank_by c false e h = h

again_by : (b : Bool) (c : ℕ) (t : List ℕ) → is_blank c ≡ b → plain (plain t) ≡ plain t → plain (plain (c ∷ t)) ≡ plain (c ∷ t)
again_by true c t e h = subst (λ (x : List ℕ). plain x ≡ x) (sym (plain_blank c t e)) h
again_by false c t e h =
    subst (λ (x : List ℕ). plain x ≡ x) (sym (plain_kept c t e))
    (plain_kept (small c) (plain t) (blank_by c (is_within 65 90 c) refl e) ∙ ap (λ (x : ℕ). x ∷ plain (plain t)) (small_again c) ∙ ap (λ (x : List ℕ). small c ∷ x) h)

plain_again : (t : List ℕ) → plain (plain t) ≡ plain t
plain_again [] = refl
plain_again (c ∷ t) = again_by (is_blank c) c t refl (plain_again t)

-- what fits does not depend on blanks and capital letters
pub fits_again : (p t : List ℕ) → fits (plain p) (plain t) ≡ fits p t
unfolding fits
fits_again p t =
    ap (λ (x : List ℕ). not (is_empty x) && matches x (plain (plain t))) (plain_again p)
    ∙ ap (λ (x : List ℕ). not (is_empty (plain p)) && matches (plain p) x) (plain_again t)

-- ---- rests

pub some_rest_first : (test : List ℕ → Bool) (t : List ℕ) → test t ≡ true → some_rest test t ≡ true
some_rest_first test [] h = h
some_rest_first test (c ∷ t) h = or_left (test (c ∷ t)) (some_rest test t) h

or_again : (a b : Bool) → ((a || b) || b) ≡ (a || b)
or_again true b = refl
or_again false true = refl
or_again false false = refl

-- a rest of a rest is a rest
pub some_rest_again : (test : List ℕ → Bool) (t : List ℕ) → some_rest (some_rest test) t ≡ some_rest test t
some_rest_again test [] = refl
some_rest_again test (c ∷ t) = subst (λ (b : Bool). ((test (c ∷ t) || some_rest test t) || b) ≡ (test (c ∷ t) || some_rest test t)) (sym (some_rest_again test t)) (or_again (test (c ∷ t)) (some_rest test t))

-- ---- walks

-- the state of a walk: the pattern matches exactly if its rest does, and if it matches further on, so does its rest
pub record PatternWalked (p t ps ts : List ℕ) : Type 0 where
  pub same : matches p t ≡ matches ps ts
  pub later : some_rest (matches p) t ≡ true → some_rest (matches ps) ts ≡ true

-- a walk along equal lists
walked_along : (p t x y u v : List ℕ) → x ≡ u → y ≡ v → PatternWalked p t x y → PatternWalked p t u v
walked_along p t x y u v i j w = subst (λ (a : List ℕ). PatternWalked p t a v) i (subst (λ (b : List ℕ). PatternWalked p t x b) j w)

false_true : {A : Type 0} → false ≡ true → A
false_true h = absurd (cc h)

-- a sign other than `*`: if it and the signs after it match, the signs after it match the rest
sign_rest : (p : ℕ) (ps : List ℕ) (c : ℕ) (t : List ℕ) → is_star p ≡ false → matches (p ∷ ps) (c ∷ t) ≡ true → matches ps t ≡ true
unfolding matches
sign_rest p ps c t e h =
    and_second (is_any p || (c == p)) (matches ps t) (subst (λ (b : Bool). cond b (some_rest (matches ps) (c ∷ t)) (first_and_rest p (matches ps) (c ∷ t)) ≡ true) e h)

sign_none : (p : ℕ) (ps : List ℕ) → is_star p ≡ false → matches (p ∷ ps) [] ≡ false
unfolding matches
sign_none p ps e = subst (λ (b : Bool). cond b (some_rest (matches ps) []) (first_and_rest p (matches ps) []) ≡ false) (sym e) refl

or_cases : {A : Type 0} (a b : Bool) → (a || b) ≡ true → (a ≡ true → A) → (b ≡ true → A) → A
or_cases true b h f g = f refl
or_cases false b h f g = g h

step_rest : (p : ℕ) (ps : List ℕ) (c : ℕ) (t : List ℕ) → is_star p ≡ false → some_rest (matches (p ∷ ps)) (c ∷ t) ≡ true → some_rest (matches ps) t ≡ true
step_rest p ps c [] e h =
    or_cases (matches (p ∷ ps) (c ∷ [])) (matches (p ∷ ps) []) h
    (λ first. sign_rest p ps c [] e first)
    (λ none. false_true (sym (sign_none p ps e) ∙ none))
step_rest p ps c (d ∷ t) e h =
    or_cases (matches (p ∷ ps) (c ∷ d ∷ t)) (some_rest (matches (p ∷ ps)) (d ∷ t)) h
    (λ first. some_rest_first (matches ps) (d ∷ t) (sign_rest p ps c (d ∷ t) e first))
    (λ later. or_right (matches ps (d ∷ t)) (some_rest (matches ps) t) (step_rest p ps d t e later))

sign_same : (p : ℕ) (ps : List ℕ) (c : ℕ) (t : List ℕ) → is_star p ≡ false → (is_any p || (c == p)) ≡ true → matches (p ∷ ps) (c ∷ t) ≡ matches ps t
unfolding matches
sign_same p ps c t e h = grind (arith, e, h)

sign_apart : (p : ℕ) (ps : List ℕ) (c : ℕ) (t : List ℕ) → is_star p ≡ false → (is_any p || (c == p)) ≡ false → matches (p ∷ ps) (c ∷ t) ≡ false
unfolding matches
sign_apart p ps c t e h = grind (arith, e, h)

-- a sign that matches a character
pub walked_step : (p t x y : List ℕ) (s : ℕ) (ps : List ℕ) (c : ℕ) (ts : List ℕ) → x ≡ s ∷ ps → y ≡ c ∷ ts → is_star s ≡ false → (is_any s || (c == s)) ≡ true → PatternWalked p t x y → PatternWalked p t ps ts
walked_step p t x y s ps c ts i j e h v =
    let w : PatternWalked p t (s ∷ ps) (c ∷ ts) = walked_along p t x y (s ∷ ps) (c ∷ ts) i j v in
    record { same = w.same ∙ sign_same s ps c ts e h; later = λ m. step_rest s ps c ts e (w.later m) }

-- a sign that does not match a character
pub walked_apart : (p t x y : List ℕ) (s : ℕ) (ps : List ℕ) (c : ℕ) (ts : List ℕ) → x ≡ s ∷ ps → y ≡ c ∷ ts → is_star s ≡ false → (is_any s || (c == s)) ≡ false → PatternWalked p t x y → matches p t ≡ false
walked_apart p t x y s ps c ts i j e h v =
    let w : PatternWalked p t (s ∷ ps) (c ∷ ts) = walked_along p t x y (s ∷ ps) (c ∷ ts) i j v in
    w.same ∙ sign_apart s ps c ts e h

-- a sign at the end of a text
pub walked_short : (p t x y : List ℕ) (s : ℕ) (ps : List ℕ) → x ≡ s ∷ ps → y ≡ [] → is_star s ≡ false → PatternWalked p t x y → matches p t ≡ false
walked_short p t x y s ps i j e v = (walked_along p t x y (s ∷ ps) [] i j v).same ∙ sign_none s ps e

-- the end of a pattern
pub walked_end : (p t x y ts : List ℕ) → x ≡ [] → y ≡ ts → PatternWalked p t x y → matches p t ≡ is_empty ts
unfolding matches
walked_end p t x y ts i j v = (walked_along p t x y [] ts i j v).same

star_matches : (s : ℕ) (ps : List ℕ) → is_star s ≡ true → (t : List ℕ) → matches (s ∷ ps) t ≡ some_rest (matches ps) t
unfolding matches
star_matches s ps e t = subst (λ (b : Bool). cond b (some_rest (matches ps) t) (first_and_rest s (matches ps) t) ≡ some_rest (matches ps) t) (sym e) refl

or_both : (a b c d : Bool) → a ≡ c → b ≡ d → (a || b) ≡ (c || d)
or_both a b c d h k = ap (λ x. x || b) h ∙ ap (λ x. c || x) k

some_rest_same : (f g : List ℕ → Bool) → ((t : List ℕ) → f t ≡ g t) → (t : List ℕ) → some_rest f t ≡ some_rest g t
some_rest_same f g h [] = h []
some_rest_same f g h (c ∷ t) = or_both (f (c ∷ t)) (some_rest f t) (g (c ∷ t)) (some_rest g t) (h (c ∷ t)) (some_rest_same f g h t)

both_ways : (a b : Bool) → (a ≡ true → b ≡ true) → (b ≡ true → a ≡ true) → a ≡ b
both_ways true b f g = sym (f refl)
both_ways false true f g = g refl
both_ways false false f g = refl

-- a `*`
pub walked_star : (p t x : List ℕ) (s : ℕ) (ps ts : List ℕ) → x ≡ s ∷ ps → is_star s ≡ true → PatternWalked p t x ts → Parts p t ps ts
walked_star p t x s ps ts i e v =
    let w : PatternWalked p t (s ∷ ps) ts = walked_along p t x ts (s ∷ ps) ts i refl v in
    let here : matches p t ≡ some_rest (matches ps) ts = w.same ∙ star_matches s ps e ts in
    let whole : some_rest (matches (s ∷ ps)) ts ≡ some_rest (matches ps) ts = some_rest_same (matches (s ∷ ps)) (some_rest (matches ps)) (star_matches s ps e) ts ∙ some_rest_again (matches ps) ts in
    record {
      here = here;
      later = both_ways (some_rest (matches p) t) (some_rest (matches ps) ts) (λ h. sym whole ∙ w.later h) (λ h. some_rest_first (matches p) t (here ∙ h));
    }

-- ---- the front of a text at which no match begins

rest_apart : (s : ℕ) (ps : List ℕ) (c : ℕ) (t : List ℕ) → is_star s ≡ false → (is_any s || (c == s)) ≡ false → some_rest (matches (s ∷ ps)) (c ∷ t) ≡ some_rest (matches (s ∷ ps)) t
rest_apart s ps c t e h = ap (λ (b : Bool). b || some_rest (matches (s ∷ ps)) t) (sign_apart s ps c t e h)

apart_by : (b : Bool) (s : ℕ) (ps : List ℕ) (c : ℕ) (t : List ℕ) → is_blank c ≡ b → is_star s ≡ false → (is_any s || (small c == s)) ≡ false
    → some_rest (matches (s ∷ ps)) (plain (c ∷ t)) ≡ some_rest (matches (s ∷ ps)) (plain t)
apart_by true s ps c t e k h = ap (some_rest (matches (s ∷ ps))) (plain_blank c t e)
apart_by false s ps c t e k h = ap (some_rest (matches (s ∷ ps))) (plain_kept c t e) ∙ rest_apart s ps (small c) (plain t) k h

behind_by : (s : ℕ) (ps : List ℕ) (c : ℕ) (t u : List ℕ) → u ≡ t → is_star s ≡ false → (is_any s || (small c == s)) ≡ false
    → some_rest (matches (s ∷ ps)) (plain u) ≡ some_rest (matches (s ∷ ps)) (plain (c ∷ t))
behind_by s ps c t u i k h = ap (λ (x : List ℕ). some_rest (matches (s ∷ ps)) (plain x)) i ∙ sym (apart_by (is_blank c) s ps c t refl k h)

-- no match begins at a character that the first sign does not match
pub match_behind : (s : ℕ) (ps t : List ℕ) → 1 ≤ length t → is_star s ≡ false → (is_any s || (small (slice_index t 0) == s)) ≡ false
    → some_rest (matches (s ∷ ps)) (plain (take (length t - 1) (drop 1 t))) ≡ some_rest (matches (s ∷ ps)) (plain t)
match_behind s ps [] l k h = absurd (omega (arith, l))
match_behind s ps (c ∷ t) l k h = behind_by s ps c t (take (length (c ∷ t) - 1) (drop 1 (c ∷ t))) (take_rest (c ∷ t) 1) k h

-- an empty pattern matches the end of each text
end_matches : (t : List ℕ) → some_rest (matches []) t ≡ true
unfolding matches
end_matches [] = refl
end_matches (c ∷ t) = end_matches t

-- a pattern that has ended matches the end of one text as that of another
pub match_ended : (p t u : List ℕ) → p ≡ [] → some_rest (matches p) u ≡ some_rest (matches p) t
match_ended p t u i = subst (λ (x : List ℕ). some_rest (matches x) u ≡ some_rest (matches x) t) (sym i) (end_matches u ∙ sym (end_matches t))

-- a pattern by its first sign and the signs after it
pub match_of_sign : (p t u : List ℕ) (s : ℕ) (ps : List ℕ) → p ≡ s ∷ ps → some_rest (matches (s ∷ ps)) u ≡ some_rest (matches (s ∷ ps)) t → some_rest (matches p) u ≡ some_rest (matches p) t
match_of_sign p t u s ps i h = subst (λ (x : List ℕ). some_rest (matches x) u ≡ some_rest (matches x) t) (sym i) h
