-- What is written byte by byte of bytes is the text of the runs that differ.
use Rattle.std.proofs.Common.{◌≡◌, ℕ, zero, suc, ◌+◌, ◌≤◌, Bool, true, false, cond, not, ◌==◌, List, [], ◌∷◌, ◌++◌, length, drop, codes, decimal, refl, arith, ap, sym, ◌∙◌, append_assoc, append-nil}
use Rattle.std.specs.Prelude.{min}
use Rattle.std.proofs.lemmas.Bool.Decides.{nat_tests}
use Rattle.mc_text.specs.model_text.specs.Listing.{hex_text}
use Rattle.desk_steps.specs.Json.{any_run, run_text, runs_after, runs_more}
use Rattle.law_steps.specs.Runs.{before_if, before_runs, changes}
use Rattle.desk_steps.specs.Runs.{any_after, begin_text, byte_text, close_text, rest_text}

abbrev Run : Type 0
Run = ℕ × List ℕ

-- ---- where runs begin

-- the first of some runs begins at an address or later
abbrev StartsFrom : ℕ → List Run → Type 0
StartsFrom a [] = Unit {0}
StartsFrom a (r ∷ rs) = a ≤ r.0

starts_sooner : (a : ℕ) (rs : List Run) → StartsFrom (a + 1) rs → StartsFrom a rs
starts_sooner a [] h = tt
starts_sooner a (r ∷ rs) h = omega (arith, h)

starts_joined : (a b : ℕ) (r : Run) (rs : List Run) (c : Bool) → StartsFrom a (cond c ((a, b ∷ r.1) ∷ rs) ((a, b ∷ []) ∷ r ∷ rs))
starts_joined a b r rs true = omega arith
starts_joined a b r rs false = omega arith

starts_before : (a b : ℕ) (rs : List Run) → StartsFrom a (before_runs a b rs)
starts_before a b [] = omega arith
starts_before a b (r ∷ rs) = starts_joined a b r rs (r.0 == a + 1)

starts_if : (same : Bool) (a b : ℕ) (rs : List Run) → StartsFrom (a + 1) rs → StartsFrom a (before_if same a b rs)
starts_if true a b rs h = starts_sooner a rs h
starts_if false a b rs h = starts_before a b rs

-- the runs of bytes from an address on begin there or later
starts : (a : ℕ) (old new : List ℕ) → StartsFrom a (changes a old new)
starts a old [] = tt
starts a [] (b ∷ bs) = starts_if (b == 0) a b (changes (a + 1) [] bs) (starts (a + 1) [] bs)
starts a (o ∷ os) (b ∷ bs) = starts_if (b == o) a b (changes (a + 1) os bs) (starts (a + 1) os bs)

-- ---- the rest of an open run

-- what is left of a run that is open up to an address, by whether the next run begins there
abbrev joined_text : Bool → Run → List Run → List ℕ
joined_text true r rs = hex_text r.1 ++ codes "\"]" ++ runs_after rs
joined_text false r rs = codes "\"]" ++ runs_after (r ∷ rs)

abbrev going_text : ℕ → List Run → List ℕ
going_text a [] = codes "\"]"
going_text a (r ∷ rs) = joined_text (r.0 == a) r rs

equal_self : (a : ℕ) → (a == a) ≡ true
equal_self a = grind (arith, nat_tests)

later_is_other : (a n : ℕ) → a + 1 ≤ n → (n == a) ≡ false
later_is_other a n h = grind (arith, nat_tests, h)

-- no run begins where the open one ends
going_later : (a : ℕ) (rs : List Run) → StartsFrom (a + 1) rs → going_text a rs ≡ codes "\"]" ++ runs_after rs
going_later a [] h = refl
going_later a (r ∷ rs) h = ap (λ (b : Bool). joined_text b r rs) (later_is_other a r.0 h)

-- a byte of an open run
going_joined : (a b : ℕ) (r : Run) (rs : List Run) (c : Bool) → (a == a) ≡ true → going_text a (cond c ((a, b ∷ r.1) ∷ rs) ((a, b ∷ []) ∷ r ∷ rs)) ≡ hex_text (b ∷ []) ++ joined_text c r rs
going_joined a b r rs true e = ap (λ (c : Bool). joined_text c (a, b ∷ r.1) rs) e
going_joined a b r rs false e = ap (λ (c : Bool). joined_text c (a, b ∷ []) (r ∷ rs)) e

going_before : (a b : ℕ) (rs : List Run) → going_text a (before_runs a b rs) ≡ hex_text (b ∷ []) ++ going_text (a + 1) rs
going_before a b [] = ap (λ (c : Bool). joined_text c (a, b ∷ []) []) (equal_self a)
going_before a b (r ∷ rs) = going_joined a b r rs (r.0 == a + 1) (equal_self a)

-- the parts of a run before others
parts_on : (o d c h e x : List ℕ) → (o ++ d ++ c ++ h ++ e) ++ x ≡ ((o ++ d ++ c) ++ h) ++ (e ++ x)
parts_on o d c h e x = append_assoc (o ++ d ++ c ++ h) e x

parts_joined : (o d c h k e x : List ℕ) → (o ++ d ++ c ++ (h ++ k) ++ e) ++ x ≡ ((o ++ d ++ c) ++ h) ++ ((k ++ e) ++ x)
parts_joined o d c h k e x = simp (append_assoc) refl

-- the texts of runs that begin with a byte
run_first : (a b : ℕ) (x : List ℕ) → run_text (a, b ∷ []) ++ x ≡ (begin_text false a ++ hex_text (b ∷ [])) ++ (codes "\"]" ++ x)
run_first a b x = parts_on (codes "[") (decimal a) (codes ",\"") (hex_text (b ∷ [])) (codes "\"]") x

run_later : (a b : ℕ) (x : List ℕ) → (codes "," ++ run_text (a, b ∷ [])) ++ x ≡ (begin_text true a ++ hex_text (b ∷ [])) ++ (codes "\"]" ++ x)
run_later a b x = parts_on (codes ",[") (decimal a) (codes ",\"") (hex_text (b ∷ [])) (codes "\"]") x

joined_first : (a b : ℕ) (bs x : List ℕ) → run_text (a, b ∷ bs) ++ x ≡ (begin_text false a ++ hex_text (b ∷ [])) ++ ((hex_text bs ++ codes "\"]") ++ x)
joined_first a b bs x = parts_joined (codes "[") (decimal a) (codes ",\"") (hex_text (b ∷ [])) (hex_text bs) (codes "\"]") x

joined_later : (a b : ℕ) (bs x : List ℕ) → (codes "," ++ run_text (a, b ∷ bs)) ++ x ≡ (begin_text true a ++ hex_text (b ∷ [])) ++ ((hex_text bs ++ codes "\"]") ++ x)
joined_later a b bs x = parts_joined (codes ",[") (decimal a) (codes ",\"") (hex_text (b ∷ [])) (hex_text bs) (codes "\"]") x

-- a byte after runs that ended
first_more : (r : Run) (rs : List Run) → runs_more false (r ∷ rs) ≡ run_text r ++ runs_after rs
first_more r rs = refl

other_joined : (r : Run) (rs : List Run) → codes "\"]" ++ runs_after (r ∷ rs) ≡ joined_text false r rs
other_joined r rs = refl

none_going : (a : ℕ) → codes "\"]" ++ [] ≡ going_text a []
none_going a = append-nil (codes "\"]")

begin_joined : (any : Bool) (a b : ℕ) (r : Run) (rs : List Run) (c : Bool) → runs_more any (cond c ((a, b ∷ r.1) ∷ rs) ((a, b ∷ []) ∷ r ∷ rs)) ≡ (begin_text any a ++ hex_text (b ∷ [])) ++ joined_text c r rs
begin_joined true a b r rs true = joined_later a b r.1 (runs_after rs)
begin_joined true a b r rs false = run_later a b (runs_after (r ∷ rs))
begin_joined false a b r rs true = joined_first a b r.1 (runs_after rs)
begin_joined false a b r rs false =
    first_more (a, b ∷ []) (r ∷ rs) ∙ run_first a b (runs_after (r ∷ rs)) ∙ ap (λ (t : List ℕ). (begin_text false a ++ hex_text (b ∷ [])) ++ t) (other_joined r rs)

begin_before : (any : Bool) (a b : ℕ) (rs : List Run) → runs_more any (before_runs a b rs) ≡ (begin_text any a ++ hex_text (b ∷ [])) ++ going_text (a + 1) rs
begin_before true a b [] = run_later a b [] ∙ ap (λ (t : List ℕ). (begin_text true a ++ hex_text (b ∷ [])) ++ t) (none_going (a + 1))
begin_before false a b [] = first_more (a, b ∷ []) [] ∙ run_first a b [] ∙ ap (λ (t : List ℕ). (begin_text false a ++ hex_text (b ∷ [])) ++ t) (none_going (a + 1))
begin_before any a b (r ∷ rs) = begin_joined any a b r rs (r.0 == a + 1)

-- ---- all bytes

-- one byte of an open run
open_step : (same : Bool) (a b : ℕ) (rs : List Run) (rest : List ℕ) → StartsFrom (a + 1) rs → (same ≡ true → rest ≡ runs_after rs) → (same ≡ false → rest ≡ going_text (a + 1) rs) → byte_text same true true a b ++ rest ≡ going_text a (before_if same a b rs)
open_step true a b rs rest later same other = ap (λ (t : List ℕ). codes "\"]" ++ t) (same refl) ∙ sym (going_later a rs later)
open_step false a b rs rest later same other = ap (λ (t : List ℕ). hex_text (b ∷ []) ++ t) (other refl) ∙ sym (going_before a b rs)

-- one byte after runs that ended
shut_step : (same any : Bool) (a b : ℕ) (rs : List Run) (rest : List ℕ) → (same ≡ true → rest ≡ runs_more any rs) → (same ≡ false → rest ≡ going_text (a + 1) rs) → byte_text same any false a b ++ rest ≡ runs_more any (before_if same a b rs)
shut_step true any a b rs rest same other = same refl
shut_step false any a b rs rest same other = ap (λ (t : List ℕ). (begin_text any a ++ hex_text (b ∷ [])) ++ t) (other refl) ∙ sym (begin_before any a b rs)

-- the rest by the state of the runs
abbrev Rest : Bool → Bool → ℕ → List Run → List ℕ
Rest any true a rs = going_text a rs
Rest any false a rs = runs_more any rs

rest_end : (any going : Bool) (a : ℕ) → (going ≡ true → any ≡ true) → close_text going ≡ Rest any going a []
rest_end any true a h = refl
rest_end true false a h = refl
rest_end false false a h = refl

rest_step : (same any going : Bool) (a b : ℕ) (rs : List Run) (rest : List ℕ) → (going ≡ true → any ≡ true) → StartsFrom (a + 1) rs → rest ≡ Rest (any_after same any) (not same) (a + 1) rs → byte_text same any going a b ++ rest ≡ Rest any going a (before_if same a b rs)
rest_step true true true a b rs rest h later is = open_step true a b rs rest later (λ e. is) (λ e. absurd (cc e))
rest_step false true true a b rs rest h later is = open_step false a b rs rest later (λ e. absurd (cc e)) (λ e. is)
rest_step same false true a b rs rest h later is = absurd (cc (h refl))
rest_step true any false a b rs rest h later is = shut_step true any a b rs rest (λ e. is) (λ e. absurd (cc e))
rest_step false any false a b rs rest h later is = shut_step false any a b rs rest (λ e. absurd (cc e)) (λ e. is)

some_after : (same any : Bool) → not same ≡ true → any_after same any ≡ true
some_after true any h = absurd (cc h)
some_after false any h = refl

rest_is : (any going : Bool) (a : ℕ) (old new : List ℕ) → (going ≡ true → any ≡ true) → rest_text any going a old new ≡ Rest any going a (changes a old new)
rest_is any going a old [] h = rest_end any going a h
rest_is any going a [] (b ∷ bs) h =
    rest_step (b == 0) any going a b (changes (a + 1) [] bs) (rest_text (any_after (b == 0) any) (not (b == 0)) (a + 1) [] bs) h (starts (a + 1) [] bs) (rest_is (any_after (b == 0) any) (not (b == 0)) (a + 1) [] bs (some_after (b == 0) any))
rest_is any going a (o ∷ os) (b ∷ bs) h =
    rest_step (b == o) any going a b (changes (a + 1) os bs) (rest_text (any_after (b == o) any) (not (b == o)) (a + 1) os bs) h (starts (a + 1) os bs) (rest_is (any_after (b == o) any) (not (b == o)) (a + 1) os bs (some_after (b == o) any))

-- what is written of bytes is the text of the runs that differ
pub whole_text : (any : Bool) (a : ℕ) (old new : List ℕ) → rest_text any false a old new ≡ runs_more any (changes a old new)
whole_text any a old new = rest_is any false a old new (λ e. absurd (cc e))

-- ---- whether there are runs

any_step : (same any : Bool) (a b : ℕ) (rs : List Run) → any_run any (before_if same a b rs) ≡ any_run (any_after same any) rs
any_step true any a b rs = refl
any_step false any a b [] = refl
any_step false any a b (r ∷ rs) = by_case (r.0 == a + 1)
  where
    by_case : (c : Bool) → any_run any (cond c ((a, b ∷ r.1) ∷ rs) ((a, b ∷ []) ∷ r ∷ rs)) ≡ true
    by_case true = refl
    by_case false = refl

-- one byte: whether there are runs
pub any_on : (any : Bool) (a o b : ℕ) (os bs : List ℕ) → any_run any (changes a (o ∷ os) (b ∷ bs)) ≡ any_run (any_after (b == o) any) (changes (a + 1) os bs)
any_on any a o b os bs = any_step (b == o) any a b (changes (a + 1) os bs)

-- ---- runs in several segments

after_append : (xs ys : List Run) → runs_after xs ++ runs_after ys ≡ runs_after (xs ++ ys)
after_append [] ys = refl
after_append (x ∷ xs) ys = append_assoc (codes "," ++ run_text x) (runs_after xs) (runs_after ys) ∙ ap (λ (t : List ℕ). (codes "," ++ run_text x) ++ t) (after_append xs ys)

-- runs after others
pub more_append : (any : Bool) (xs ys : List Run) → runs_more any xs ++ runs_more (any_run any xs) ys ≡ runs_more any (xs ++ ys)
more_append true [] ys = refl
more_append false [] ys = refl
more_append true (r ∷ rs) ys = after_append (r ∷ rs) ys
more_append false (r ∷ rs) ys = append_assoc (run_text r) (runs_after rs) (runs_after ys) ∙ ap (λ (t : List ℕ). run_text r ++ t) (after_append rs ys)

-- ---- the loop over bytes

-- the bytes of two lists from a place on
pub next_two : (any going : Bool) (a o b : ℕ) (old new os bs : List ℕ) → old ≡ o ∷ os → new ≡ b ∷ bs → byte_text (b == o) any going a b ++ rest_text (any_after (b == o) any) (not (b == o)) (a + 1) os bs ≡ rest_text any going a old new
next_two any going a o b old new os bs first second = sym (ap (λ (t : List ℕ). rest_text any going a t new) first ∙ ap (λ (t : List ℕ). rest_text any going a (o ∷ os) t) second)

pub next_any : (any : Bool) (a o b : ℕ) (old new os bs : List ℕ) → old ≡ o ∷ os → new ≡ b ∷ bs → any_run (any_after (b == o) any) (changes (a + 1) os bs) ≡ any_run any (changes a old new)
next_any any a o b old new os bs first second =
    sym (ap (λ (t : List ℕ). any_run any (changes a t new)) first ∙ ap (λ (t : List ℕ). any_run any (changes a (o ∷ os) t)) second ∙ any_on any a o b os bs)

-- the bytes of a list from a place on, after the last old one
pub next_one : (any going : Bool) (a b : ℕ) (new bs : List ℕ) → new ≡ b ∷ bs → byte_text (b == 0) any going a b ++ rest_text (any_after (b == 0) any) (not (b == 0)) (a + 1) [] bs ≡ rest_text any going a [] new
next_one any going a b new bs is = sym (ap (λ (t : List ℕ). rest_text any going a [] t) is)

pub next_one_any : (any : Bool) (a b : ℕ) (new bs : List ℕ) → new ≡ b ∷ bs → any_run (any_after (b == 0) any) (changes (a + 1) [] bs) ≡ any_run any (changes a [] new)
next_one_any any a b new bs is = sym (ap (λ (t : List ℕ). any_run any (changes a [] t)) is ∙ any_step (b == 0) any a b (changes (a + 1) [] bs))

-- after the last old byte, or the last new one, no old ones are left
pub no_old : (any going : Bool) (a i : ℕ) (old new : List ℕ) → i ≡ min (length old) (length new) → rest_text any going a (drop i old) (drop i new) ≡ rest_text any going a [] (drop i new)
no_old any going a zero [] new h = refl
no_old any going a zero (o ∷ os) [] h = refl
no_old any going a zero (o ∷ os) (b ∷ bs) h = absurd (omega (arith, h))
no_old any going a (suc i) [] new h = refl
no_old any going a (suc i) (o ∷ os) [] h = refl
no_old any going a (suc i) (o ∷ os) (b ∷ bs) h = no_old any going a i os bs (omega (arith, h))

pub no_old_any : (any : Bool) (a i : ℕ) (old new : List ℕ) → i ≡ min (length old) (length new) → any_run any (changes a (drop i old) (drop i new)) ≡ any_run any (changes a [] (drop i new))
no_old_any any a zero [] new h = refl
no_old_any any a zero (o ∷ os) [] h = refl
no_old_any any a zero (o ∷ os) (b ∷ bs) h = absurd (omega (arith, h))
no_old_any any a (suc i) [] new h = refl
no_old_any any a (suc i) (o ∷ os) [] h = refl
no_old_any any a (suc i) (o ∷ os) (b ∷ bs) h = no_old_any any a i os bs (omega (arith, h))
