-- The lines of static bytes.
use Rattle.std.proofs.Common.{◌≡◌, ◌<◌, ◌≤◌, ◌-◌, ℕ, suc, ◌+◌, List, [], ◌∷◌, ◌++◌, Bool, true, false, not, cond, length, map, Option, Some, None, Result, Ok, Err, append-nil, append_assoc, drop, drop-cons, get_or, add-one, arith, refl, sym, ap, subst, ◌∙◌}
use Rattle.std.specs.Prelude.{◌&&◌, nat_le, nat_lt, bytes_eq, codes, is_none, is_some, ok_or}
use Rattle.mc_text.specs.model_text.specs.Text.{◌>>=◌, ok_as, only_if}
use Rattle.mc_text.specs.model_text.specs.Assembly.{natural}
use Rattle.model_rule_text.specs.model_play.specs.declared.deck.DeckCause.{DeckCause}
use Rattle.model_rule_text.specs.model_play.specs.declared.deck.DeckCause.TheVariants.{BadLine, BadNumber, OutOfRange, UnknownName}
use Rattle.model_rule_text.specs.model_play.specs.DeckGrammar.{name_field, number_field}
use Rattle.model_rule_text.specs.model_text.specs.Text.{begins_with}
use Rattle.prove_facts.specs.model_rules.specs.Rules.{AppRules, Range, Target, Total}
use Rattle.model_rule_text.specs.Reading.{Deck, NoApplication, RuleCause, always_line, are_names, are_sums, ends_of, of_deck, sign_of, static_field, static_size, terms_of, unless, with_app, with_range, with_total}
use Rattle.lab_app_rules.specs.declared.rules.Always.{Always}
use Rattle.lab_app_rules.specs.declared.rules.Balance.{Balance}
use Rattle.lab_app_rules.specs.Rules.{allowance_of, name_of, range_of}
use Rattle.prove_rules.specs.declared.always.SignedName.{SignedName}
use Rattle.prove_rules.specs.declared.always.TotalForm.{TotalForm}
use Rattle.prove_rules.specs.declared.fault.Fault.{Fault}
use Rattle.prove_rules.specs.declared.fault.Fault.TheVariants as fault
use Rattle.prove_rules.specs.declared.fault.RuleCause.TheVariants as cause
use Rattle.prove_rules.specs.declared.load.Found.{Found}
use Rattle.prove_rules.specs.declared.partial.Partial.{Partial}
use Rattle.prove_rules.specs.Always.{term_of, AreNoSums, IsRangeRead, IsTotalForm, IsTotalRead}
use Rattle.prove_rules.specs.Fields.{two_of, IsNumber}
use Rattle.prove_rules.specs.Partials.{place_of, ArePart, AreListsRead, IsTarget}
use Rattle.prove_rules.specs.Refused.{cause_value, Faulty}
use Rattle.lab_app_rules.specs.Sums.{AreTotals, IsTotal}
use Rattle.prove_rules.proofs.FieldLemmas.{ends_refused, AreEndsRead}
use Rattle.prove_rules.proofs.OnLemmas.{is_target, no_target, target_is}
use Rattle.prove_rules.proofs.PlaceLemmas.{map_more, place_none, place_some}
use Rattle.prove_rules.proofs.RefusalLemmas.{same_faulty, then_faulty}
use Rattle.prove_rules.proofs.SumLemmas.{totals_more}

-- terms after others
abbrev pub after_terms : List SignedName → Result (List (Bool × List ℕ)) RuleCause → Result (List (Bool × List ℕ)) RuleCause
after_terms names r = ok_as (λ ts. map term_of names ++ ts) r

-- the terms so far, with those that are left, are all
abbrev pub TermsLeft : List (List ℕ) → List (List ℕ) → List SignedName → Type 0
TermsLeft all left names = terms_of all ≡ after_terms names (terms_of left)

-- the names that are left are names, or refused, as all are
pub record NamesLeft (all left : List SignedName) : Type 0 where
  pub named : are_names (map term_of left) ≡ Ok (map term_of left) → are_names (map term_of all) ≡ Ok (map term_of all)
  pub refused : (c : DeckCause) → are_names (map term_of left) ≡ Err (Deck c) → are_names (map term_of all) ≡ Err (Deck c)

pub names_start : (all : List SignedName) → NamesLeft all all
names_start all = record { named = λ h. h; refused = λ c h. h }

terms_then : (s : Bool) (name : List ℕ) (x : Result (List (Bool × List ℕ)) RuleCause) → (x >>= λ ts. Ok ((s, name) ∷ ts)) ≡ ok_as (λ ts. (s, name) ∷ ts) x
terms_then s name (Ok ts) = refl
terms_then s name (Err c) = refl

terms_by : (sign name : List ℕ) (fs : List (List ℕ)) (added : Bool) → sign_of sign ≡ Ok added → terms_of (sign ∷ name ∷ fs) ≡ ok_as (λ ts. (added, name) ∷ ts) (terms_of fs)
terms_by sign name fs added e = ap (λ r. r >>= λ s. terms_of fs >>= λ ts. Ok ((s, name) ∷ ts)) e ∙ terms_then added name (terms_of fs)

ok_as_nothing : (x : Result (List (Bool × List ℕ)) RuleCause) → x ≡ ok_as (λ ts. ts) x
ok_as_nothing (Ok ts) = refl
ok_as_nothing (Err c) = refl

-- no term yet
pub terms_start : (all : List (List ℕ)) (names : List SignedName) → names ≡ [] → TermsLeft all all names
terms_start all names e = ok_as_nothing (terms_of all) ∙ ap (λ l. after_terms l (terms_of all)) (sym e)

more_terms : (names : List SignedName) (t : Bool × List ℕ) (more : List (Bool × List ℕ)) (x : Result (List (Bool × List ℕ)) RuleCause) → more ≡ map term_of names ++ t ∷ []
    → after_terms names (ok_as (λ ts. t ∷ ts) x) ≡ ok_as (λ ts. more ++ ts) x
more_terms names t more (Ok ts) e = ap Ok (sym (append_assoc (map term_of names) (t ∷ []) ts) ∙ ap (λ l. l ++ ts) (sym e))
more_terms names t more (Err c) e = refl

-- one more term
pub terms_step : (all left : List (List ℕ)) (names more : List SignedName) (sign name : List ℕ) (fs rest : List (List ℕ)) (one : SignedName) → left ≡ sign ∷ rest → rest ≡ name ∷ fs → sign_of sign ≡ Ok (not one.minus)
    → one.name.now ≡ name → more ≡ names ++ one ∷ [] → TermsLeft all left names → TermsLeft all fs more
terms_step all left names more sign name fs rest one e i s n m h =
    let now : terms_of left ≡ ok_as (λ ts. (not one.minus, name) ∷ ts) (terms_of fs) = ap terms_of (e ∙ ap (λ l. sign ∷ l) i) ∙ terms_by sign name fs (not one.minus) s in
    let list : map term_of more ≡ map term_of names ++ (not one.minus, name) ∷ [] = ap (map term_of) m ∙ map_more term_of names one ∙ ap (λ x. map term_of names ++ (not one.minus, x) ∷ []) n in
    h ∙ ap (after_terms names) now ∙ more_terms names (not one.minus, name) (map term_of more) (terms_of fs) list

-- no term is left
pub terms_done : (all left : List (List ℕ)) (names : List SignedName) → left ≡ [] → TermsLeft all left names → terms_of all ≡ Ok (map term_of names)
terms_done all left names e h = h ∙ ap (λ l. after_terms names (terms_of l)) e ∙ ap Ok (append-nil (map term_of names))

-- a term that is refused
terms_refused : (all left : List (List ℕ)) (names : List SignedName) → TermsLeft all left names → terms_of left ≡ Err (Deck BadLine) → terms_of all ≡ Err (Deck BadLine)
terms_refused all left names h e = h ∙ ap (after_terms names) e

lone_sign : (sign : List ℕ) (fs : List (List ℕ)) → fs ≡ [] → terms_of (sign ∷ fs) ≡ Err (Deck BadLine)
lone_sign sign fs e = ap (λ l. terms_of (sign ∷ l)) e

other_sign : (sign : List ℕ) (fs : List (List ℕ)) → sign_of sign ≡ Err (Deck BadLine) → terms_of (sign ∷ fs) ≡ Err (Deck BadLine)
other_sign sign [] e = refl
other_sign sign (name ∷ fs) e = ap (λ r. r >>= λ s. terms_of fs >>= λ ts. Ok ((s, name) ∷ ts)) e

-- a sign that is none
pub sign_refused : (all left : List (List ℕ)) (names : List SignedName) (sign : List ℕ) (fs : List (List ℕ)) → left ≡ sign ∷ fs → sign_of sign ≡ Err (Deck BadLine) → TermsLeft all left names → terms_of all ≡ Err (Deck BadLine)
sign_refused all left names sign fs e s h = terms_refused all left names h (ap terms_of e ∙ other_sign sign fs s)

-- a sign without a name
pub name_missing : (all left : List (List ℕ)) (names : List SignedName) (sign : List ℕ) (fs : List (List ℕ)) → left ≡ sign ∷ fs → fs ≡ [] → TermsLeft all left names → terms_of all ≡ Err (Deck BadLine)
name_missing all left names sign fs e i h = terms_refused all left names h (ap terms_of e ∙ lone_sign sign fs i)

abbrev names_from : SignedName → List SignedName → Result (List ℕ) DeckCause → Result (List (Bool × List ℕ)) RuleCause
names_from s left m = of_deck m >>= λ name. ok_as (λ rest. term_of s ∷ rest) (are_names (map term_of left))

-- one more name
pub names_step : (all : List SignedName) (s : SignedName) (left : List SignedName) → name_field s.name.now ≡ Ok s.name.now → NamesLeft all (s ∷ left) → NamesLeft all left
names_step all s left e h = record {
  named = λ g. h.named (ap (names_from s left) e ∙ ap (ok_as (λ rest. term_of s ∷ rest)) g);
  refused = λ c g. h.refused c (ap (names_from s left) e ∙ ap (ok_as (λ rest. term_of s ∷ rest)) g);
}

-- a name that is none
pub name_refused : (all : List SignedName) (s : SignedName) (left : List SignedName) (c : DeckCause) → name_field s.name.now ≡ Err c → NamesLeft all (s ∷ left) → are_names (map term_of all) ≡ Err (Deck c)
name_refused all s left c e h = h.refused c (ap (names_from s left) e)

-- a term that is a sum
pub sum_step : (sums : List (List ℕ × ℕ)) (s : SignedName) (left : List SignedName) (i : ℕ) → place_of sums s.name.now ≡ Some i → are_sums sums (map term_of (s ∷ left)) ≡ are_sums sums (map term_of left)
sum_step sums s left i e = ap (λ b. b && are_sums sums (map term_of left)) (place_some sums s.name.now i e)

drop_at : (names : List SignedName) (i : ℕ) (d : SignedName) → i < length names → drop i names ≡ get_or names i d ∷ drop (i + 1) names
drop_at names i d h = drop-cons names i d h ∙ ap (λ k. get_or names i d ∷ drop k names) (sym (add-one i))

-- one more term that is a sum
pub sums_step : (sums : List (List ℕ × ℕ)) (names : List SignedName) (i j : ℕ) (d : SignedName) (whole : Bool) → i < length names → Some j ≡ place_of sums (get_or names i d).name.now → are_sums sums (map term_of (drop i names)) ≡ whole
    → are_sums sums (map term_of (drop (i + 1) names)) ≡ whole
sums_step sums names i j d whole h e g =
    sym (sum_step sums (get_or names i d) (drop (i + 1) names) j (sym e)) ∙ ap (λ l. are_sums sums (map term_of l)) (sym (drop_at names i d h)) ∙ g

none_some : {A : Type 0} (o : Option A) → is_none o ≡ true → is_some o ≡ false
none_some None e = refl
none_some (Some a) e = absurd (cc e)

-- a term that is no sum
pub sums_refused : (sums : List (List ℕ × ℕ)) (names : List SignedName) (i : ℕ) (d : SignedName) (whole : Bool) → i < length names → None ≡ place_of sums (get_or names i d).name.now → are_sums sums (map term_of (drop i names)) ≡ whole → whole ≡ false
sums_refused sums names i d whole h e g = grind (arith, drop_at, none_some, place_none)

pub are_no_sums : (are : Bool) (e : Fault) → are ≡ false → e ≡ fault.Cause (cause.Deck UnknownName) → AreNoSums are e
are_no_sums are e h i = subst (AreNoSums are) (sym i) (refl, h)

-- a number is at least what its capped number is at least
upper_by : (k n m : ℕ) (b : Bool) → nat_lt n 4294967296 ≡ b → (n < 4294967296 → n ≡ m) → (4294967296 ≤ n → 4294967296 ≤ m) → k < 65536 → k ≤ n → k ≤ m
upper_by k n m true e low high h i = let same = low (grind (arith, e)) in omega (arith, same, i)
upper_by k n m false e low high h i = let more = high (grind (arith, e)) in omega (arith, more, h)

upper : (k n : ℕ) (o : Option ℕ) (h : IsNumber o n) → k < 65536 → k ≤ n → k ≤ h.number
upper k n o h i j = upper_by k n h.number (nat_lt n 4294967296) refl h.low h.high i j

later_by : (a b m k : ℕ) (d : Bool) → nat_lt a 4294967296 ≡ d → (a < 4294967296 → a ≡ m) → (4294967296 ≤ a → 4294967296 ≤ m) → (b < 4294967296 → b ≡ k) → b < a → a ≤ 4294967296 → k < m
later_by a b m k d e low high same h i = grind arith

-- numbers are in the order of their capped numbers
later : (a b : ℕ) (o u : Option ℕ) (p : IsNumber o a) (q : IsNumber u b) → b < a → a ≤ 4294967296 → q.number < p.number
later a b o u p q h i = later_by a b p.number q.number (nat_lt a 4294967296) refl p.low p.high q.low h i

-- ---- lines

-- the range of a static byte by its numbers, the application and its limits
abbrev range_from : AppRules → ℕ → Option ℕ → Option ℕ → Option ℕ → Result AppRules RuleCause
range_from a n at low high =
    ok_or at (Deck BadNumber) >>= λ at. ok_or low (Deck BadNumber) >>= λ low. ok_or high (Deck BadNumber) >>= λ high.
    with_app a a >>= λ r. unless (nat_lt at (static_size r.target) && nat_le low high && nat_le high 255) OutOfRange (record r {
      ranges = r.ranges ++ record { number = n; at = at; low = low; high = high } ∷ [];
    })

abbrev range_by : AppRules → Range → Bool → Result AppRules RuleCause
range_by a w target =
    only_if target NoApplication a >>= λ r. unless (nat_lt w.at (static_size r.target) && nat_le w.low w.high && nat_le w.high 255) OutOfRange (record r { ranges = r.ranges ++ w ∷ [] })

less : (a b : ℕ) → a < b → nat_lt a b ≡ true
less a b h = grind (arith, h)

at_most : (a b : ℕ) → a ≤ b → nat_le a b ≡ true
at_most a b h = grind (arith, h)

all_of : (a b c : Bool) → a ≡ true → b ≡ true → c ≡ true → (a && b && c) ≡ true
all_of a b c e f g = rw e (rw f g)

both_of : (a b : Bool) → a ≡ true → b ≡ true → (a && b) ≡ true
both_of a b e f = rw e f

-- the number of static bytes
size_is : (o : Option Target) (l : Option Found) (found : Found) → IsTarget o l → l ≡ Some found → static_size o ≡ found.load.fixed
size_is o l found h e = let t = target_is o l found h e in ap static_size t.1 ∙ t.2.size

no_sign : (fs : List (List ℕ)) (low high : List ℕ) → fs ≡ low ∷ high ∷ [] → begins_with (codes "=") fs ≡ false → bytes_eq low (codes "=") ≡ false
no_sign fs low high e h = ap (begins_with (codes "=")) (sym e) ∙ h

-- the line of a range, by its fields
range_line : (a : AppRules) (n : ℕ) (block at low high : List ℕ) (fs : List (List ℕ)) → static_field block ≡ Ok at → begins_with (codes "=") fs ≡ false → fs ≡ low ∷ high ∷ []
    → always_line a n (block ∷ fs) ≡ range_from a n (natural at) (natural low) (natural high)
range_line a n block at low high fs inside none e = grind (arith, no_sign)

pub range_read : (a : AppRules) (p : Partial) (n : ℕ) (block at : List ℕ) (fs : List (List ℕ)) (w : Always) → ArePart a p → static_field block ≡ Ok at → begins_with (codes "=") fs ≡ false → w.line ≡ n → IsRangeRead p at fs w
    → always_line a n (block ∷ fs) ≡ Ok (record a { ranges = a.ranges ++ range_of w ∷ [] })
range_read a p n block at fs w are inside none line h = grind (arith, size_is, less, all_of, at_most, range_line, is_target)

-- ---- refused ranges

-- a range of static bytes, refused as BadLine, before what is refused as that too
ends_then : {B : Type 0} (x : Result (List ℕ × List ℕ) RuleCause) (k : List ℕ × List ℕ → Result B RuleCause) → AreEndsRead x → ((e : List ℕ × List ℕ) → k e ≡ Err (Deck BadLine)) → (x >>= k) ≡ Err (Deck BadLine)
ends_then (Ok e) k h f = f e
ends_then (Err c) k h f = ap (λ c. Err c) h

-- fields that are not two are no range
pub no_two : (a : AppRules) (n : ℕ) (block at : List ℕ) (fs : List (List ℕ)) → static_field block ≡ Ok at → begins_with (codes "=") fs ≡ false → two_of fs ≡ None → always_line a n (block ∷ fs) ≡ Err (Deck BadLine)
no_two a n block at fs inside none h = grind (arith, ends_then, ends_refused)

pub no_place : (a : AppRules) (n : ℕ) (block at low high : List ℕ) (fs : List (List ℕ)) → static_field block ≡ Ok at → begins_with (codes "=") fs ≡ false → fs ≡ low ∷ high ∷ [] → natural at ≡ None → always_line a n (block ∷ fs) ≡ Err (Deck BadNumber)
no_place a n block at low high fs inside none e h = range_line a n block at low high fs inside none e ∙ ap (λ o. range_from a n o (natural low) (natural high)) h

pub no_low : (a : AppRules) (n : ℕ) (block at low high : List ℕ) (fs : List (List ℕ)) (p : ℕ) → static_field block ≡ Ok at → begins_with (codes "=") fs ≡ false → fs ≡ low ∷ high ∷ [] → natural at ≡ Some p → natural low ≡ None
    → always_line a n (block ∷ fs) ≡ Err (Deck BadNumber)
no_low a n block at low high fs p inside none e h i =
    range_line a n block at low high fs inside none e ∙ ap (λ o. range_from a n o (natural low) (natural high)) h ∙ ap (λ o. range_from a n (Some p) o (natural high)) i

-- the numbers of a range
pub record AreRangeNumbers (at low high : List ℕ) (fs : List (List ℕ)) (p q r : ℕ) : Type 0 where
  pub parts : fs ≡ low ∷ high ∷ []
  pub place : IsNumber (natural at) p
  pub lowest : IsNumber (natural low) q
  pub highest : IsNumber (natural high) r

pub no_high : (a : AppRules) (n : ℕ) (block at low high : List ℕ) (fs : List (List ℕ)) (p q : ℕ) → static_field block ≡ Ok at → begins_with (codes "=") fs ≡ false → fs ≡ low ∷ high ∷ [] → natural at ≡ Some p → natural low ≡ Some q
    → natural high ≡ None → always_line a n (block ∷ fs) ≡ Err (Deck BadNumber)
no_high a n block at low high fs p q inside none e h i j = grind (arith, range_line)

range_numbers : (a : AppRules) (n : ℕ) (block at low high : List ℕ) (fs : List (List ℕ)) (p q r : ℕ) → static_field block ≡ Ok at → begins_with (codes "=") fs ≡ false → (h : AreRangeNumbers at low high fs p q r)
    → always_line a n (block ∷ fs) ≡ range_by a (record { number = n; at = h.place.number; low = h.lowest.number; high = h.highest.number }) (is_some a.target)
range_numbers a n block at low high fs p q r inside none h = grind (arith, range_line)

pub range_unnamed : (a : AppRules) (s : Partial) (n : ℕ) (block at low high : List ℕ) (fs : List (List ℕ)) (p q r : ℕ) → ArePart a s → static_field block ≡ Ok at → begins_with (codes "=") fs ≡ false → AreRangeNumbers at low high fs p q r
    → s.load ≡ None → always_line a n (block ∷ fs) ≡ Err NoApplication
range_unnamed a s n block at low high fs p q r are inside none h l = grind (arith, range_numbers, no_target)

not_below : (a b : ℕ) → b ≤ a → nat_lt a b ≡ false
not_below a b h = grind (arith, h)

not_at_most : (a b : ℕ) → b < a → nat_le a b ≡ false
not_at_most a b h = grind (arith, h)

first_of : (a b c : Bool) → a ≡ false → (a && b && c) ≡ false
first_of a b c e = rw e refl

second_of : (a b c : Bool) → b ≡ false → (a && b && c) ≡ false
second_of true b c e = rw e refl
second_of false b c e = refl

third_of : (a b c : Bool) → c ≡ false → (a && b && c) ≡ false
third_of a b c e = grind arith

range_outside : (a : AppRules) (s : Partial) (n : ℕ) (block at low high : List ℕ) (fs : List (List ℕ)) (p q r : ℕ) (found : Found) → ArePart a s → static_field block ≡ Ok at → begins_with (codes "=") fs ≡ false
    → (h : AreRangeNumbers at low high fs p q r) → s.load ≡ Some found → (nat_lt h.place.number (static_size a.target) && nat_le h.lowest.number h.highest.number && nat_le h.highest.number 255) ≡ false → always_line a n (block ∷ fs) ≡ Err (Deck OutOfRange)
range_outside a s n block at low high fs p q r found are inside none h l out = grind (arith, range_numbers, is_target)

least_by : (b : Bool) (n m : ℕ) → nat_le m 4294967296 ≡ b → n ≡ cond b m 4294967296 → n ≤ m
least_by true n m e i = omega (arith, i)
least_by false n m e i = let k : 4294967296 < m = grind (arith, e) in omega (arith, k, i)

pub place_outside : (a : AppRules) (s : Partial) (n : ℕ) (block at low high : List ℕ) (fs : List (List ℕ)) (p q r : ℕ) (found : Found) → ArePart a s → static_field block ≡ Ok at → begins_with (codes "=") fs ≡ false
    → AreRangeNumbers at low high fs p q r → s.load ≡ Some found → found.load.fixed ≤ p → always_line a n (block ∷ fs) ≡ Err (Deck OutOfRange)
place_outside a s n block at low high fs p q r found are inside none h l out = grind (arith, least_by, range_outside, first_of, size_is, not_below)

pub order_outside : (a : AppRules) (s : Partial) (n : ℕ) (block at low high : List ℕ) (fs : List (List ℕ)) (p q r : ℕ) (found : Found) → ArePart a s → static_field block ≡ Ok at → begins_with (codes "=") fs ≡ false
    → AreRangeNumbers at low high fs p q r → s.load ≡ Some found → r < q → q ≤ 4294967296 → always_line a n (block ∷ fs) ≡ Err (Deck OutOfRange)
order_outside a s n block at low high fs p q r found are inside none h l out most = grind (arith, later, range_outside, second_of, not_at_most)

pub byte_outside : (a : AppRules) (s : Partial) (n : ℕ) (block at low high : List ℕ) (fs : List (List ℕ)) (p q r : ℕ) (found : Found) → ArePart a s → static_field block ≡ Ok at → begins_with (codes "=") fs ≡ false
    → AreRangeNumbers at low high fs p q r → s.load ≡ Some found → 255 < r → always_line a n (block ∷ fs) ≡ Err (Deck OutOfRange)
byte_outside a s n block at low high fs p q r found are inside none h l out = grind (arith, upper, range_outside, third_of, not_at_most)

not_less : (a b : ℕ) → nat_le a b ≡ false → b < a
not_less a b h = grind (arith, h)

most_by : (b : Bool) (n m : ℕ) → nat_le m 4294967296 ≡ b → n ≡ cond b m 4294967296 → n ≤ 4294967296
most_by true n m e i = let k : m ≤ 4294967296 = grind (arith, e) in omega (arith, i, k)
most_by false n m e i = omega (arith, i)

values_by : (d : Bool) (a : AppRules) (s : Partial) (n : ℕ) (block at low high : List ℕ) (fs : List (List ℕ)) (p q r : ℕ) (found : Found) → nat_le q r ≡ d → ArePart a s → static_field block ≡ Ok at → begins_with (codes "=") fs ≡ false
    → AreRangeNumbers at low high fs p q r → s.load ≡ Some found → (d && nat_le r 255) ≡ false → always_line a n (block ∷ fs) ≡ Err (Deck OutOfRange)
values_by false a s n block at low high fs p q r found e are inside none h l out =
    order_outside a s n block at low high fs p q r found are inside none h l (not_less q r e) (most_by (nat_le h.lowest.number 4294967296) q h.lowest.number refl h.lowest.capped)
values_by true a s n block at low high fs p q r found e are inside none h l out = byte_outside a s n block at low high fs p q r found are inside none h l (not_less r 255 out)

pub values_outside : (a : AppRules) (s : Partial) (n : ℕ) (block at low high : List ℕ) (fs : List (List ℕ)) (p q r : ℕ) (found : Found) → ArePart a s → static_field block ≡ Ok at → begins_with (codes "=") fs ≡ false
    → AreRangeNumbers at low high fs p q r → s.load ≡ Some found → (nat_le q r && nat_le r 255) ≡ false → always_line a n (block ∷ fs) ≡ Err (Deck OutOfRange)
values_outside a s n block at low high fs p q r found are inside none h l out = values_by (nat_le q r) a s n block at low high fs p q r found refl are inside none h l out

-- ---- totals

-- a total by its ends, its number and its terms
abbrev total_from : AppRules → ℕ → Option ℕ → Option ℕ → Result ℕ DeckCause → Result (List (Bool × List ℕ)) RuleCause → Result AppRules RuleCause
total_from a n p q k terms =
    ok_or p (Deck BadNumber) >>= λ p. ok_or q (Deck BadNumber) >>= λ q. of_deck k >>= λ k. terms >>= λ terms.
    with_app a a >>= λ r. unless (are_sums r.sums terms) UnknownName r >>= λ r. unless (nat_le p q && nat_lt q (static_size r.target)) OutOfRange (record r {
      totals = r.totals ++ record { number = n; at = p; n = suc q - p; constant = k; terms = terms } ∷ [];
    })

abbrev total_by : AppRules → Total → ℕ → Bool → Result AppRules RuleCause
total_by a t last target =
    only_if target NoApplication a >>= λ r. unless (are_sums r.sums t.terms) UnknownName r >>= λ r. unless (nat_le t.at last && nat_lt last (static_size r.target)) OutOfRange (record r { totals = r.totals ++ t ∷ [] })

abbrev total_sums : AppRules → Total → ℕ → Bool → Result AppRules RuleCause
total_sums a t last sums = unless sums UnknownName a >>= λ r. unless (nat_le t.at last && nat_lt last (static_size r.target)) OutOfRange (record r { totals = r.totals ++ t ∷ [] })

abbrev total_in : AppRules → Total → Bool → Result AppRules RuleCause
total_in a t within = unless within OutOfRange (record a { totals = a.totals ++ t ∷ [] })

total_line : (a : AppRules) (n : ℕ) (block w k : List ℕ) (e : List ℕ × List ℕ) (fs : List (List ℕ)) (terms : List (Bool × List ℕ)) → static_field block ≡ Ok w → ends_of w ≡ Ok e → terms_of fs ≡ Ok terms
    → always_line a n (block ∷ codes "=" ∷ k ∷ fs) ≡ with_total a n e k terms
total_line a n block w k e fs terms f g h = grind arith

-- the line of a total, by its fields
pub form_line : (a : AppRules) (n : ℕ) (block range : List ℕ) (fs : List (List ℕ)) (f : TotalForm) → static_field block ≡ Ok range → IsTotalForm range fs f
    → always_line a n (block ∷ codes "=" ∷ fs) ≡ with_total a n (f.from.now, f.to.now) f.constant.now (map term_of f.names.items)
form_line a n block range fs f inside h = grind (arith, total_line)

pub total_read : (a : AppRules) (p : Partial) (n : ℕ) (f : TotalForm) (b : Balance) → ArePart a p → b.line ≡ n → IsTotalRead p f b
    → (t : Total) × (with_total a n (f.from.now, f.to.now) f.constant.now (map term_of f.names.items) ≡ Ok (record a { totals = a.totals ++ t ∷ [] })) × IsTotal (map name_of p.sums.items) t b
total_read a p n f b are line h =
    let terms = map term_of f.names.items in
    let t : Total = record { number = n; at = h.first; n = suc h.last - h.first; constant = h.k; terms = terms } in
    let sums : are_sums a.sums terms ≡ true = ap (λ s. are_sums s terms) are.sums ∙ h.sums in
    let below : nat_lt h.last (static_size a.target) ≡ true = ap (nat_lt h.last) (size_is a.target p.load h.found are.target h.loaded) ∙ less h.last h.found.load.fixed h.within in
    let within : (nat_le h.first h.last && nat_lt h.last (static_size a.target)) ≡ true = both_of (nat_le h.first h.last) (nat_lt h.last (static_size a.target)) (at_most h.first h.last h.order) below in (
      t,
      ap (λ o. total_from a n o (natural f.to.now) (number_field 0 4294967295 f.constant.now) (are_names terms)) h.starts
          ∙ ap (λ o. total_from a n (Some h.first) o (number_field 0 4294967295 f.constant.now) (are_names terms)) h.stops
          ∙ ap (λ r. total_from a n (Some h.first) (Some h.last) r (are_names terms)) h.number
          ∙ ap (total_from a n (Some h.first) (Some h.last) (Ok h.k)) h.named
          ∙ ap (total_by a t h.last) (is_target a.target p.load h.found are.target h.loaded)
          ∙ ap (total_sums a t h.last) sums
          ∙ ap (total_in a t) within,
      record { number = sym line; at = h.at; n = h.size; constant = h.value; terms = h.bound },
    )

-- ---- refused totals

-- a total without a constant
pub no_constant : (a : AppRules) (n : ℕ) (block : List ℕ) (fs : List (List ℕ)) → fs ≡ [] → always_line a n (block ∷ codes "=" ∷ fs) ≡ Err (Deck BadLine)
no_constant a n block fs e = ap (λ l. always_line a n (block ∷ codes "=" ∷ l)) e

-- a block of another form
no_ends_by : (a : AppRules) (n : ℕ) (block range k : List ℕ) (fs : List (List ℕ)) → static_field block ≡ Ok range → ends_of range ≡ Err (Deck BadLine) → always_line a n (block ∷ codes "=" ∷ k ∷ fs) ≡ Err (Deck BadLine)
no_ends_by a n block range k fs f g = grind arith

pub no_total_ends : (a : AppRules) (n : ℕ) (block range k : List ℕ) (all fs : List (List ℕ)) → all ≡ k ∷ fs → static_field block ≡ Ok range → ends_of range ≡ Err (Deck BadLine) → always_line a n (block ∷ codes "=" ∷ all) ≡ Err (Deck BadLine)
no_total_ends a n block range k all fs e f g = ap (λ l. always_line a n (block ∷ codes "=" ∷ l)) e ∙ no_ends_by a n block range k fs f g

-- terms of another form
no_terms_by : (a : AppRules) (n : ℕ) (block range k : List ℕ) (ends : List ℕ × List ℕ) (fs : List (List ℕ)) (e : Fault) → static_field block ≡ Ok range → ends_of range ≡ Ok ends → Faulty (terms_of fs) e
    → Faulty (always_line a n (block ∷ codes "=" ∷ k ∷ fs)) e
no_terms_by a n block range k ends fs e f g h = grind (arith, same_faulty, then_faulty)

pub no_terms : (a : AppRules) (n : ℕ) (block range k : List ℕ) (ends : List ℕ × List ℕ) (all fs : List (List ℕ)) (e : Fault) → all ≡ k ∷ fs → static_field block ≡ Ok range → ends_of range ≡ Ok ends → Faulty (terms_of fs) e
    → Faulty (always_line a n (block ∷ codes "=" ∷ all)) e
no_terms a n block range k ends all fs e i f g h =
    same_faulty (always_line a n (block ∷ codes "=" ∷ all)) (always_line a n (block ∷ codes "=" ∷ k ∷ fs)) e (ap (λ l. always_line a n (block ∷ codes "=" ∷ l)) i) (no_terms_by a n block range k ends fs e f g h)

front_of : (a b : Bool) → a ≡ false → (a && b) ≡ false
front_of a b e = rw e refl

last_of : (a b : Bool) → b ≡ false → (a && b) ≡ false
last_of true b e = e
last_of false b e = refl

-- the numbers and the names of a total
pub record AreTotalNumbers (f : TotalForm) (p q k : ℕ) : Type 0 where
  pub starts : IsNumber (natural f.from.now) p
  pub stops : IsNumber (natural f.to.now) q
  pub number : number_field 0 4294967295 f.constant.now ≡ Ok k
  pub named : are_names (map term_of f.names.items) ≡ Ok (map term_of f.names.items)

module _ (a : AppRules) (n : ℕ) (f : TotalForm) where
  -- what the fields of a total make of the rules
  abbrev pub total_of : Result AppRules RuleCause
  total_of = with_total a n (f.from.now, f.to.now) f.constant.now (map term_of f.names.items)

  pub no_start : natural f.from.now ≡ None → total_of ≡ Err (Deck BadNumber)
  no_start h = ap (λ o. total_from a n o (natural f.to.now) (number_field 0 4294967295 f.constant.now) (are_names (map term_of f.names.items))) h

  from_start : (p : ℕ) → natural f.from.now ≡ Some p → total_of ≡ total_from a n (Some p) (natural f.to.now) (number_field 0 4294967295 f.constant.now) (are_names (map term_of f.names.items))
  from_start p h = ap (λ o. total_from a n o (natural f.to.now) (number_field 0 4294967295 f.constant.now) (are_names (map term_of f.names.items))) h

  pub no_stop : (p : ℕ) → natural f.from.now ≡ Some p → natural f.to.now ≡ None → total_of ≡ Err (Deck BadNumber)
  no_stop p h i = from_start p h ∙ ap (λ o. total_from a n (Some p) o (number_field 0 4294967295 f.constant.now) (are_names (map term_of f.names.items))) i

  from_ends : (p q : ℕ) → natural f.from.now ≡ Some p → natural f.to.now ≡ Some q → total_of ≡ total_from a n (Some p) (Some q) (number_field 0 4294967295 f.constant.now) (are_names (map term_of f.names.items))
  from_ends p q h i = from_start p h ∙ ap (λ o. total_from a n (Some p) o (number_field 0 4294967295 f.constant.now) (are_names (map term_of f.names.items))) i

  pub constant_refused : (p q : ℕ) (c : DeckCause) → natural f.from.now ≡ Some p → natural f.to.now ≡ Some q → number_field 0 4294967295 f.constant.now ≡ Err c → total_of ≡ Err (Deck c)
  constant_refused p q c h i j = from_ends p q h i ∙ ap (λ r. total_from a n (Some p) (Some q) r (are_names (map term_of f.names.items))) j

  pub names_refused : (p q k : ℕ) (c : DeckCause) → natural f.from.now ≡ Some p → natural f.to.now ≡ Some q → number_field 0 4294967295 f.constant.now ≡ Ok k → are_names (map term_of f.names.items) ≡ Err (Deck c)
      → total_of ≡ Err (Deck c)
  names_refused p q k c h i j m = from_ends p q h i ∙ ap (λ r. total_from a n (Some p) (Some q) r (are_names (map term_of f.names.items))) j ∙ ap (total_from a n (Some p) (Some q) (Ok k)) m

  -- the total of its numbers
  abbrev total_at : (p q k : ℕ) → AreTotalNumbers f p q k → Total
  total_at p q k h = record { number = n; at = h.starts.number; n = suc h.stops.number - h.starts.number; constant = k; terms = map term_of f.names.items }

  numbers : (p q k : ℕ) (h : AreTotalNumbers f p q k) → total_of ≡ total_by a (total_at p q k h) h.stops.number (is_some a.target)
  numbers p q k h = grind (arith, from_ends)

  pub total_unnamed : (s : Partial) (p q k : ℕ) → ArePart a s → AreTotalNumbers f p q k → s.load ≡ None → total_of ≡ Err NoApplication
  total_unnamed s p q k are h l = numbers p q k h ∙ ap (total_by a (total_at p q k h) h.stops.number) (no_target a.target s.load are.target l)

  summed : (s : Partial) (p q k : ℕ) (found : Found) → ArePart a s → (h : AreTotalNumbers f p q k) → s.load ≡ Some found
      → total_of ≡ total_sums a (total_at p q k h) h.stops.number (are_sums (map allowance_of s.sums.items) (map term_of f.names.items))
  summed s p q k found are h l = grind (arith, numbers, is_target)

  pub no_sums : (s : Partial) (p q k : ℕ) (found : Found) (e : Fault) → ArePart a s → AreTotalNumbers f p q k → s.load ≡ Some found → AreNoSums (are_sums (map allowance_of s.sums.items) (map term_of f.names.items)) e → Faulty total_of e
  no_sums s p q k found (fault.Cause c) are h l i = summed s p q k found are h l ∙ ap (total_sums a (total_at p q k h) h.stops.number) i.1 ∙ ap (λ x. Err (cause_value x)) (sym i.0)
  no_sums s p q k found fault.NoMemory are h l i = tt

  outside : (s : Partial) (p q k : ℕ) (found : Found) → ArePart a s → (h : AreTotalNumbers f p q k) → s.load ≡ Some found → are_sums (map allowance_of s.sums.items) (map term_of f.names.items) ≡ true
      → (nat_le h.starts.number h.stops.number && nat_lt h.stops.number (static_size a.target)) ≡ false → total_of ≡ Err (Deck OutOfRange)
  outside s p q k found are h l i out = summed s p q k found are h l ∙ ap (total_sums a (total_at p q k h) h.stops.number) i ∙ ap (total_in a (total_at p q k h)) out

-- ---- refused lines

-- a line without a block of static bytes
pub no_block : (a : AppRules) (n : ℕ) (fs : List (List ℕ)) → fs ≡ [] → always_line a n fs ≡ Err (Deck BadLine)
no_block a n fs e = ap (always_line a n) e

three_by : (a : AppRules) (n : ℕ) (block x y : List ℕ) (b : Bool) → static_field block ≡ Err (Deck BadLine)
    → cond b (static_field block >>= λ t. ends_of t >>= λ e. with_total a n e y []) (static_field block >>= λ p. with_range a n p x y) ≡ Err (Deck BadLine)
three_by a n block x y true h = ap (λ r. r >>= λ t. ends_of t >>= λ e. with_total a n e y []) h
three_by a n block x y false h = ap (λ r. r >>= λ p. with_range a n p x y) h

block_by : (a : AppRules) (n : ℕ) (block : List ℕ) (fs : List (List ℕ)) → static_field block ≡ Err (Deck BadLine) → always_line a n (block ∷ fs) ≡ Err (Deck BadLine)
block_by a n block fs h = grind (arith, three_by)

pub other_block : (a : AppRules) (n : ℕ) (block : List ℕ) (all fs : List (List ℕ)) → all ≡ block ∷ fs → static_field block ≡ Err (Deck BadLine) → always_line a n all ≡ Err (Deck BadLine)
other_block a n block all fs e h = ap (always_line a n) e ∙ block_by a n block fs h

-- the faults of a line, and of one by its block and the fields after it
abbrev pub LineFault : Partial → ℕ → List (List ℕ) → Fault → Type 0
LineFault p n fs e = (a : AppRules) → ArePart a p → Faulty (always_line a n fs) e

abbrev pub BlockFault : Partial → ℕ → List ℕ → List (List ℕ) → Fault → Type 0
BlockFault p n within fs e = (a : AppRules) (block : List ℕ) → ArePart a p → static_field block ≡ Ok within → Faulty (always_line a n (block ∷ fs)) e

-- the line of a total is refused as its fields are
pub total_line_refused : (a : AppRules) (n : ℕ) (block range : List ℕ) (fs : List (List ℕ)) (f : TotalForm) (e : Fault) → static_field block ≡ Ok range → IsTotalForm range fs f → Faulty (total_of a n f) e
    → Faulty (always_line a n (block ∷ codes "=" ∷ fs)) e
total_line_refused a n block range fs f e inside form h = same_faulty (always_line a n (block ∷ codes "=" ∷ fs)) (total_of a n f) e (form_line a n block range fs f inside form) h

-- ---- one more

-- the rules with one more range
pub range_added : (a : AppRules) (p : Partial) (n : ℕ) (block at : List ℕ) (fs : List (List ℕ)) (w : Always) (more : List Always) → ArePart a p → static_field block ≡ Ok at → begins_with (codes "=") fs ≡ false → w.line ≡ n
    → IsRangeRead p at fs w → more ≡ p.always.items ++ w ∷ [] → AreListsRead (always_line a n (block ∷ fs)) p.load p.allowances.items p.sums.items p.ons.items more p.balances.items p.never
range_added a p n block at fs w more are inside none line h m =
    subst (λ (r : Result AppRules RuleCause). AreListsRead r p.load p.allowances.items p.sums.items p.ons.items more p.balances.items p.never) (sym (range_read a p n block at fs w are inside none line h)) (record {
      target = are.target;
      allowances = are.allowances;
      distinct = are.distinct;
      sums = are.sums;
      ons = are.ons;
      ranges = ap (λ l. l ++ range_of w ∷ []) are.ranges ∙ sym (map_more range_of p.always.items w) ∙ ap (map range_of) (sym m);
      moves = are.moves;
      totals = are.totals;
      abends = are.abends;
    })

-- the rules with one more total
pub total_added : (a : AppRules) (p : Partial) (n : ℕ) (block range : List ℕ) (fs : List (List ℕ)) (f : TotalForm) (b : Balance) (more : List Balance) → ArePart a p → static_field block ≡ Ok range → IsTotalForm range fs f → b.line ≡ n
    → IsTotalRead p f b → more ≡ p.balances.items ++ b ∷ [] → AreListsRead (always_line a n (block ∷ codes "=" ∷ fs)) p.load p.allowances.items p.sums.items p.ons.items p.always.items more p.never
total_added a p n block range fs f b more are inside form line h m =
    let t = total_read a p n f b are line h in
    subst (λ (r : Result AppRules RuleCause). AreListsRead r p.load p.allowances.items p.sums.items p.ons.items p.always.items more p.never) (sym (form_line a n block range fs f inside form ∙ t.1)) (record {
      target = are.target;
      allowances = are.allowances;
      distinct = are.distinct;
      sums = are.sums;
      ons = are.ons;
      ranges = are.ranges;
      moves = are.moves;
      totals = subst (λ (bs : List Balance). AreTotals (map name_of p.sums.items) (a.totals ++ t.0 ∷ []) bs) (sym m) (totals_more (map name_of p.sums.items) a.totals p.balances.items t.0 b t.2 are.totals);
      abends = are.abends;
    })
