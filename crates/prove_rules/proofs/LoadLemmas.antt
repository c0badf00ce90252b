-- The first `load` line of a name.
use Rattle.std.proofs.Common.{◌≡◌, ◌+◌, ◌<◌, ◌≤◌, ℕ, suc, List, [], ◌∷◌, ◌++◌, Bool, true, false, not, cond, drop, drop-cons, add-one, Option, Some, None, arith, refl, sym, ap, subst, ◌∙◌}
use Rattle.std.specs.Prelude.{◌==◌, ◌&&◌, nat_lt, codes, slice_get, is_some, MatchOption}
use Rattle.std.proofs.lemmas.Option.{slice_get_within, get_or_from_slice_get}
use Rattle.mc_words.specs.model_device.specs.Bytes.{lookup}
use Rattle.mc_text.specs.model_text.specs.Text.{fields, lines, with_numbers}
use Rattle.mc_unit.specs.model_machine.specs.Primitives.{entry_of_number}
use Rattle.model_rule_text.specs.model_play.specs.DeckGrammar.{DeckLine}
use Rattle.model_rule_text.specs.model_text.specs.Text.{begins_with, stays_inside}
use Rattle.mc_text.specs.Reading.{next_line}
use Rattle.mc_text.proofs.ReadingLemmas.{lines_at, lines_from}
use Rattle.model_rule_text.specs.Reading.{LoadLine, load_names, load_under, loads_of}
use Rattle.prove_rules.specs.declared.load.Found.{Found}
use Rattle.prove_rules.specs.Loads.{first_named, is_second, loaded, loaded_at, loaded_line, loads_in, IsLoad, IsLoadOf}

abbrev pub Names : Type 0
Names = List (ℕ × List (List ℕ))

-- ---- numbers ascend

-- the numbers of some lines ascend from n on
abbrev pub Rising : ℕ → Names → Type 0
Rising n [] = Unit {0}
Rising n (l ∷ ls) = (n ≤ l.0) × Rising (suc l.0) ls

rising_lower : (n m : ℕ) (ls : Names) → n ≤ m → Rising m ls → Rising n ls
rising_lower n m [] e h = tt
rising_lower n m (l ∷ ls) e h = let f = h.0 in (omega (arith, f, e), h.1)

rise_by : (b : Bool) (n : ℕ) (f : List (List ℕ)) (rest : Names) → Rising (suc n) rest → Rising n (cond b ((n, f) ∷ rest) rest)
rise_by true n f rest h = (omega arith, h)
rise_by false n f rest h = rising_lower n (suc n) rest (omega arith) h

pub names_rise : (inside : Bool) (n : ℕ) (ls : List (List ℕ)) → Rising n (load_names inside (with_numbers n ls))
names_rise inside n [] = tt
names_rise inside n (l ∷ ls) =
    rise_by (not inside && begins_with (codes "load") (fields l)) n (fields l) (load_names (stays_inside inside (fields l)) (with_numbers (suc n) ls)) (names_rise (stays_inside inside (fields l)) (suc n) ls)

apart : (a b : ℕ) → b < a → (a == b) ≡ false
apart a b h = grind (arith, h)

pub alike : (a b : ℕ) → a ≡ b → (a == b) ≡ true
alike a b h = grind (arith, h)

same_by : (a b : ℕ) → (a == b) ≡ true → a ≡ b
same_by a b h = grind (arith, h)

absent : (k m : ℕ) (ls : Names) → Rising k ls → m < k → entry_of_number m ls ≡ None
absent k m [] h e = refl
absent k m (l ∷ ls) h e =
    let f = h.0 in
    ap (λ b. cond b (Some l.1) (entry_of_number m ls)) (apart l.0 m (omega (arith, f, e))) ∙ absent (suc l.0) m ls h.1 (omega (arith, f, e))

-- ---- the first line of a name

module _ (name : List ℕ) where
  under_skip : (fs : List (List ℕ)) (l : LoadLine) (ls : List (List ℕ × LoadLine)) → is_second fs name ≡ false → lookup (load_under (Some fs) l ++ ls) name ≡ lookup ls name
  under_skip fs l ls e = grind arith

  under_hit : (fs : List (List ℕ)) (l : LoadLine) (ls : List (List ℕ × LoadLine)) → is_second fs name ≡ true → lookup (load_under (Some fs) l ++ ls) name ≡ Some l
  under_hit fs l ls e = grind arith

  above_by : (b : Bool) (k j n : ℕ) (o : Option ℕ) → k ≤ j → (o ≡ Some n → suc j ≤ n) → cond b (Some j) o ≡ Some n → k ≤ n
  above_by true k j n o e h i = let f : j ≡ n = cc i in omega (arith, f, e)
  above_by false k j n o e h i = let f = h i in omega (arith, f, e)

  pub first_above : (k n : ℕ) (ls : Names) → Rising k ls → first_named ls name ≡ Some n → k ≤ n
  first_above k n [] h e = absurd (cc e)
  first_above k n (l ∷ ls) h e = above_by (is_second l.1 name) k l.0 n (first_named ls name) h.0 (λ i. first_above (suc l.0) n ls h.1 i) e

  skip_by : (j : ℕ) (fs : List (List ℕ)) (ls : Names) (m n : ℕ) (l : LoadLine) (more : List (List ℕ × LoadLine)) (b d : Bool) → is_second fs name ≡ b → (j == m) ≡ d → Rising (suc j) ls → m < n → cond b (Some j) (first_named ls name) ≡ Some n
      → (first_named ls name ≡ Some n → lookup (load_under (entry_of_number m ls) l ++ more) name ≡ lookup more name)
      → lookup (load_under (cond d (Some fs) (entry_of_number m ls)) l ++ more) name ≡ lookup more name
  skip_by j fs ls m n l more b d s e r h i again = grind (arith, same_by, absent, under_skip)

  -- a line before the first of the name is not under it
  before_first : (k m n : ℕ) (ls : Names) (l : LoadLine) (more : List (List ℕ × LoadLine)) → Rising k ls → m < n → first_named ls name ≡ Some n → lookup (load_under (entry_of_number m ls) l ++ more) name ≡ lookup more name
  before_first k m n [] l more r h e = absurd (cc e)
  before_first k m n (x ∷ ls) l more r h e =
      skip_by x.0 x.1 ls m n l more (is_second x.1 name) (x.0 == m) refl refl r.1 h e (λ i. before_first (suc x.0) m n ls l more r.1 h i)

  hit_by : (j : ℕ) (fs : List (List ℕ)) (ls : Names) (n : ℕ) (l : LoadLine) (more : List (List ℕ × LoadLine)) (b d : Bool) → is_second fs name ≡ b → (j == n) ≡ d → Rising (suc j) ls → cond b (Some j) (first_named ls name) ≡ Some n
      → (first_named ls name ≡ Some n → lookup (load_under (entry_of_number n ls) l ++ more) name ≡ Some l)
      → lookup (load_under (cond d (Some fs) (entry_of_number n ls)) l ++ more) name ≡ Some l
  hit_by j fs ls n l more b d s e r i again = grind (arith, under_hit, alike, same_by, first_above)

  -- the first line of the name is under it
  at_first : (k n : ℕ) (ls : Names) (l : LoadLine) (more : List (List ℕ × LoadLine)) → Rising k ls → first_named ls name ≡ Some n → lookup (load_under (entry_of_number n ls) l ++ more) name ≡ Some l
  at_first k n [] l more r e = absurd (cc e)
  at_first k n (x ∷ ls) l more r e = hit_by x.0 x.1 ls n l more (is_second x.1 name) (x.0 == n) refl refl r.1 e (λ i. at_first (suc x.0) n ls l more r.1 i)

-- ---- the lines of a deck

-- a line under the name of its number
abbrev under : Option (List (List ℕ)) → Option LoadLine → List (List ℕ × LoadLine)
under o None = []
under o (Some l) = load_under o l

loads_step : (ns : Names) (n : ℕ) (x : DeckLine) (ls : List (ℕ × DeckLine)) → loads_of ns ((n, x) ∷ ls) ≡ under (entry_of_number n ns) (loaded x) ++ loads_of ns ls
loads_step ns n x ls = grind arith

module _ (ns : Names) (name : List ℕ) (n : ℕ) (rise : Rising 1 ns) (first : first_named ns name ≡ Some n) (l : LoadLine) where
  earlier : (m : ℕ) (o : Option LoadLine) (more : List (List ℕ × LoadLine)) → m < n → lookup (under (entry_of_number m ns) o ++ more) name ≡ lookup more name
  earlier m None more h = refl
  earlier m (Some k) more h = before_first name 1 m n ns k more rise h first

  there_by : (m : ℕ) (x : DeckLine) (ls : List (ℕ × DeckLine)) (b c : Bool) → (m == n) ≡ b → nat_lt n m ≡ c → cond b (loaded x) (cond c None (loaded_at n ls)) ≡ Some l
      → (loaded_at n ls ≡ Some l → lookup (loads_of ns ls) name ≡ Some l) → lookup (under (entry_of_number m ns) (loaded x) ++ loads_of ns ls) name ≡ Some l
  there_by m x ls true c e f h again =
      ap (λ k. lookup (under (entry_of_number k ns) (loaded x) ++ loads_of ns ls) name) (same_by m n e)
      ∙ ap (λ o. lookup (under (entry_of_number n ns) o ++ loads_of ns ls) name) h ∙ at_first name 1 n ns l (loads_of ns ls) rise first
  there_by m x ls false true e f h again = absurd (cc h)
  there_by m x ls false false e f h again = earlier m (loaded x) (loads_of ns ls) (grind (arith, e, f)) ∙ again h

  -- the line of the number is the first of the name
  loads_at : (d : List (ℕ × DeckLine)) → loaded_at n d ≡ Some l → lookup (loads_of ns d) name ≡ Some l
  loads_at [] h = absurd (cc h)
  loads_at (x ∷ d) h = ap (λ ls. lookup ls name) (loads_step ns x.0 x.1 d) ∙ there_by x.0 x.1 d (x.0 == n) (nat_lt n x.0) refl refl h (λ i. loads_at d i)

found_by : (text name : List ℕ) (d : List (ℕ × DeckLine)) (n : ℕ) (found : Found) (o : Option LoadLine) → loaded_at n d ≡ o → first_named (load_names false (with_numbers 1 (lines text))) name ≡ Some n → IsLoadOf o found
    → IsLoadOf (lookup (loads_in text d) name) found
found_by text name d n found o e f h = grind (arith, loads_at, names_rise)

-- what the line of the first number loads is what the name loads
pub load_found : (text name : List ℕ) (d : List (ℕ × DeckLine)) (n : ℕ) (found : Found) → Some n ≡ first_named (load_names false (with_numbers 1 (lines text))) name → IsLoadOf (loaded_at n d) found
    → IsLoadOf (lookup (loads_in text d) name) found
load_found text name d n found e h = found_by text name d n found (loaded_at n d) refl (sym e) h

-- ---- a name without a line

absent_by : (b : Bool) (k : ℕ) (o : Option ℕ) → cond b (Some k) o ≡ None → (b ≡ false) × (o ≡ None)
absent_by true k o e = absurd (cc e)
absent_by false k o e = (refl, e)

entry_by : (name : List ℕ) (fs : List (List ℕ)) (o : Option (List (List ℕ))) (b : Bool) (l : LoadLine) (more : List (List ℕ × LoadLine)) → is_second fs name ≡ false
    → lookup (load_under o l ++ more) name ≡ lookup more name → lookup (load_under (cond b (Some fs) o) l ++ more) name ≡ lookup more name
entry_by name fs o true l more e h = under_skip name fs l more e
entry_by name fs o false l more e h = h

-- no line is under a name that none has
under_none : (name : List ℕ) (m : ℕ) (ns : Names) (l : LoadLine) (more : List (List ℕ × LoadLine)) → first_named ns name ≡ None → lookup (load_under (entry_of_number m ns) l ++ more) name ≡ lookup more name
under_none name m [] l more e = refl
under_none name m (x ∷ ns) l more e =
    let p = absent_by (is_second x.1 name) x.0 (first_named ns name) e in
    entry_by name x.1 (entry_of_number m ns) (x.0 == m) l more p.0 (under_none name m ns l more p.1)

loads_none_by : (name : List ℕ) (ns : Names) (m : ℕ) (o : Option LoadLine) (more : List (List ℕ × LoadLine)) → first_named ns name ≡ None → lookup (under (entry_of_number m ns) o ++ more) name ≡ lookup more name
loads_none_by name ns m None more e = refl
loads_none_by name ns m (Some l) more e = under_none name m ns l more e

loads_none : (name : List ℕ) (ns : Names) (d : List (ℕ × DeckLine)) → first_named ns name ≡ None → lookup (loads_of ns d) name ≡ None
loads_none name ns [] e = refl
loads_none name ns (x ∷ d) e =
    ap (λ ls. lookup ls name) (loads_step ns x.0 x.1 d) ∙ loads_none_by name ns x.0 (loaded x.1) (loads_of ns d) e ∙ loads_none name ns d e

-- a name that no line has loads nothing
pub load_missing : (text name : List ℕ) (d : List (ℕ × DeckLine)) → None ≡ first_named (load_names false (with_numbers 1 (lines text))) name → lookup (loads_in text d) name ≡ None
load_missing text name d e = loads_none name (load_names false (with_numbers 1 (lines text))) d (sym e)

-- ---- the lines of a deck, one after the other

drop_at : (d : List (ℕ × DeckLine)) (i : ℕ) (x : ℕ × DeckLine) → slice_get d i ≡ Some x → drop i d ≡ x ∷ drop (i + 1) d
drop_at d i x e =
    drop-cons d i x (slice_get_within d i x e) ∙ ap (λ y. y ∷ drop (suc i) d) (get_or_from_slice_get d i x x e) ∙ ap (λ k. x ∷ drop k d) (sym (add-one i))

-- the line of the number
pub line_here : (n : ℕ) (d : List (ℕ × DeckLine)) (i m : ℕ) (x : DeckLine) → slice_get d i ≡ Some (m, x) → m ≡ n → loaded_at n d ≡ loaded_at n (drop i d) → loaded_at n d ≡ loaded_line (slice_get d i)
line_here n d i m x e f h =
    h ∙ ap (loaded_at n) (drop_at d i (m, x) e) ∙ ap (λ b. cond b (loaded x) (cond (nat_lt n m) None (loaded_at n (drop (i + 1) d)))) (alike m n f) ∙ sym (ap loaded_line e)

lower : (n m : ℕ) → n < m → nat_lt n m ≡ true
lower n m h = grind (arith, h)

-- a line of a greater number
pub line_past : (n : ℕ) (d : List (ℕ × DeckLine)) (i m : ℕ) (x : DeckLine) → slice_get d i ≡ Some (m, x) → n < m → loaded_at n d ≡ loaded_at n (drop i d) → loaded_at n d ≡ None
line_past n d i m x e f h = grind (arith, drop_at, apart, lower)

pub not_lower : (n m : ℕ) → m < n → nat_lt n m ≡ false
not_lower n m h = grind (arith, h)

pub unlike : (m n : ℕ) → m < n → (m == n) ≡ false
unlike m n h = grind (arith, h)

-- a line of a lower number
pub line_before : (n : ℕ) (d : List (ℕ × DeckLine)) (i m : ℕ) (x : DeckLine) → slice_get d i ≡ Some (m, x) → m < n → loaded_at n d ≡ loaded_at n (drop i d) → loaded_at n d ≡ loaded_at n (drop (i + 1) d)
line_before n d i m x e f h =
    h ∙ ap (loaded_at n) (drop_at d i (m, x) e) ∙ ap (λ b. cond b (loaded x) (cond (nat_lt n m) None (loaded_at n (drop (i + 1) d)))) (unlike m n f)
    ∙ ap (λ b. cond b None (loaded_at n (drop (i + 1) d))) (not_lower n m f)

-- ---- the lines of a text, one after the other

pub numbered : (n : ℕ) (t l b : List ℕ) → Some (l, b) ≡ next_line t → with_numbers n (lines t) ≡ (n, l) ∷ with_numbers (n + 1) (lines b)
numbered n t l b e = ap (with_numbers n) (lines_at t ∙ ap lines_from (sym e)) ∙ ap (λ k. (n, l) ∷ with_numbers k (lines b)) (sym (add-one n))

pub no_lines : (n : ℕ) (t : List ℕ) → None ≡ next_line t → with_numbers n (lines t) ≡ []
no_lines n t e = ap (with_numbers n) (lines_at t ∙ ap lines_from (sym e))

pub named_by : (n : ℕ) (fs : List (List ℕ)) (rest : Names) (name : List ℕ) (p q : Bool) → is_second fs name ≡ q → first_named (cond p ((n, fs) ∷ rest) rest) name ≡ cond (p && q) (Some n) (first_named rest name)
named_by n fs rest name true q e = ap (λ b. cond b (Some n) (first_named rest name)) e
named_by n fs rest name false q e = refl

-- one more line of a text
pub first_step : (inside : Bool) (n : ℕ) (t l b name : List ℕ) (r : Bool) → Some (l, b) ≡ next_line t → r ≡ ((not inside && begins_with (codes "load") (fields l)) && is_second (fields l) name)
    → first_named (load_names inside (with_numbers n (lines t))) name ≡ cond r (Some n) (first_named (load_names (stays_inside inside (fields l)) (with_numbers (n + 1) (lines b))) name)
first_step inside n t l b name r e h = grind (arith, numbered, named_by)

-- a line that is not the first of the name
pub first_next : (inside stays : Bool) (n : ℕ) (t l b name : List ℕ) (r : Bool) (whole : Option ℕ) → Some (l, b) ≡ next_line t → r ≡ ((not inside && begins_with (codes "load") (fields l)) && is_second (fields l) name) → r ≡ false
    → stays ≡ stays_inside inside (fields l) → first_named (load_names inside (with_numbers n (lines t))) name ≡ whole → first_named (load_names stays (with_numbers (n + 1) (lines b))) name ≡ whole
first_next inside stays n t l b name r whole e h f s g =
    ap (λ k. first_named (load_names k (with_numbers (n + 1) (lines b))) name) s
    ∙ sym (first_step inside n t l b name r e h ∙ ap (λ c. cond c (Some n) (first_named (load_names (stays_inside inside (fields l)) (with_numbers (n + 1) (lines b))) name)) f) ∙ g

-- the first line of the name
pub first_here : (inside : Bool) (n : ℕ) (t l b name : List ℕ) (r : Bool) (whole : Option ℕ) → Some (l, b) ≡ next_line t → r ≡ ((not inside && begins_with (codes "load") (fields l)) && is_second (fields l) name) → r ≡ true
    → first_named (load_names inside (with_numbers n (lines t))) name ≡ whole → Some n ≡ whole
first_here inside n t l b name r whole e h f g =
    sym (first_step inside n t l b name r e h ∙ ap (λ c. cond c (Some n) (first_named (load_names (stays_inside inside (fields l)) (with_numbers (n + 1) (lines b))) name)) f) ∙ g

-- no line is left
pub first_none : (inside : Bool) (n : ℕ) (t name : List ℕ) (whole : Option ℕ) → None ≡ next_line t → first_named (load_names inside (with_numbers n (lines t))) name ≡ whole → None ≡ whole
first_none inside n t name whole e g = sym (ap (λ ls. first_named (load_names inside ls) name) (no_lines n t e)) ∙ g

-- what a `load` line loads
pub load_is : (d : List (ℕ × DeckLine)) (i n : ℕ) (x : DeckLine) (l : LoadLine) (found : Found) → slice_get d i ≡ Some (n, x) → loaded x ≡ Some l → IsLoad l found → IsLoadOf (loaded_line (slice_get d i)) found
load_is d i n x l found e h g = subst (λ (o : Option LoadLine). IsLoadOf o found) (sym (ap loaded_line e ∙ h)) g

no_none : {A : Type 0} (o : Option A) → o ≡ None → is_some o ≡ true → ⊥
no_none None e h = absurd (cc h)
no_none (Some a) e h = absurd (cc e)

-- the line of the first number, which loads
pub loads_of_line : (text name : List ℕ) (d : List (ℕ × DeckLine)) (n : ℕ) (o : Option Found) → Some n ≡ first_named (load_names false (with_numbers 1 (lines text))) name → is_some (loaded_at n d) ≡ true
    → MatchOption o (loaded_at n d ≡ None) (IsLoadOf (loaded_at n d)) → MatchOption o (lookup (loads_in text d) name ≡ None) (IsLoadOf (lookup (loads_in text d) name))
loads_of_line text name d n None e there h = absurd (no_none (loaded_at n d) h there)
loads_of_line text name d n (Some found) e there h = load_found text name d n found e h

-- what the line at a place loads is what its number loads
pub at_place : (n : ℕ) (d : List (ℕ × DeckLine)) (i m : ℕ) (x : DeckLine) (o : Option Found) → slice_get d i ≡ Some (m, x) → m ≡ n → loaded_at n d ≡ loaded_at n (drop i d)
    → MatchOption o (loaded_line (slice_get d i) ≡ None) (IsLoadOf (loaded_line (slice_get d i))) → MatchOption o (loaded_at n d ≡ None) (IsLoadOf (loaded_at n d))
at_place n d i m x o e f h g = subst (λ (l : Option LoadLine). MatchOption o (l ≡ None) (IsLoadOf l)) (sym (line_here n d i m x e f h)) g
