-- The lines of the application, of allowances and sums, and of abends.
use Rattle.std.proofs.Common.{◌≡◌, ◌-◌, ◌≤◌, ℕ, zero, suc, List, [], ◌∷◌, ◌++◌, Bool, true, false, length, map, Option, Some, None, Result, Ok, Err, length-append, arith, refl, sym, ap, subst, ◌∙◌}
use Rattle.std.specs.Prelude.{◌&&◌, nat_le, bytes_eq, codes, is_none, is_some, ok_or}
use Rattle.mc_words.specs.model_device.specs.Bytes.{lookup, zeros, AreBytes}
use Rattle.mc_text.specs.model_text.specs.Text.{◌>>=◌, only_if}
use Rattle.mc_unit.specs.model_card.specs.Manager.{fits_limits}
use Rattle.model_rule_text.specs.model_play.specs.DeckGrammar.{name_field}
use Rattle.model_rule_text.specs.model_play.specs.declared.deck.DeckCause.{DeckCause}
use Rattle.model_rule_text.specs.model_play.specs.declared.deck.DeckCause.TheVariants.{BadLine, NameTwice, OutOfRange, UnknownName}
use Rattle.model_rule_text.specs.model_play.specs.RuleLines.{name_and_amount}
use Rattle.prove_facts.specs.model_rules.specs.Rules.{AppRules, Target}
use Rattle.model_rule_text.specs.Reading.{AllowLine, AppLine, AppWord, Deck, LoadLine, NeverLine, NoApplication, RuleCause, SumWord, app_rule, of_deck, sizes_of, target_of, unless, with_app, with_never, with_target}
use Rattle.lab_app_rules.specs.declared.rules.Load.{Load}
use Rattle.lab_app_rules.specs.declared.rules.Named.{Named}
use Rattle.lab_app_rules.specs.Rules.{allowance_of, IsCreated}
use Rattle.prove_rules.specs.declared.load.Found.{Found}
use Rattle.prove_rules.specs.declared.partial.Partial.{Partial}
use Rattle.prove_rules.specs.declared.fault.Fault.{Fault}
use Rattle.prove_rules.specs.declared.fault.Fault.TheVariants as fault
use Rattle.prove_rules.specs.declared.fault.RuleCause.TheVariants as cause
use Rattle.prove_rules.specs.Apps.{one_of, IsAppRead}
use Rattle.prove_rules.specs.Loads.{is_accepted, IsLoad, IsLoadOf}
use Rattle.prove_rules.specs.Partials.{place_of, ArePart, AreLists, AreListsRead, HasFault, IsMoreNamed, IsTarget}
use Rattle.prove_rules.specs.Refused.{Faulty}
use Rattle.prove_rules.proofs.OnLemmas.{is_target, no_target}
use Rattle.prove_rules.proofs.PlaceLemmas.{distinct_more, lines_names, map_more, place_none, place_some}
use Rattle.prove_rules.proofs.RefusalLemmas.{deck_faulty, same_faulty}
use Rattle.prove_rules.proofs.SumLemmas.{sum_lines_names, totals_names}

-- ---- rules by their words

app_is : (loads : List (List ℕ × LoadLine)) (a : AppRules) (n : ℕ) (name : List ℕ) → app_rule loads a n AppLine (name ∷ []) ≡ with_target loads a name
unfolding app_rule
app_is loads a n name = refl

allow_is : (loads : List (List ℕ × LoadLine)) (a : AppRules) (n : ℕ) (fs : List (List ℕ))
    → app_rule loads a n AllowLine fs ≡ (of_deck (name_and_amount fs) >>= λ x. unless (is_none (lookup a.allowances x.0)) NameTwice (record a { allowances = a.allowances ++ x ∷ [] }))
unfolding app_rule
allow_is loads a n fs = refl

sum_is : (loads : List (List ℕ × LoadLine)) (a : AppRules) (n : ℕ) (fs : List (List ℕ))
    → app_rule loads a n SumWord fs ≡ (of_deck (name_and_amount fs) >>= λ x. unless (is_none (lookup a.sums x.0)) NameTwice (record a { sums = a.sums ++ x ∷ [] }))
unfolding app_rule
sum_is loads a n fs = refl

never_is : (loads : List (List ℕ × LoadLine)) (a : AppRules) (n : ℕ) (word : List ℕ) → app_rule loads a n NeverLine (word ∷ []) ≡ (unless (bytes_eq word (codes "abend")) BadLine a >>= λ r. with_app r (with_never r n r.abends))
unfolding app_rule
never_is loads a n word = refl

-- ---- the application

no_app : (o : Option Target) (l : Option Found) → IsTarget o l → l ≡ None → is_none o ≡ true
no_app o l h e = grind arith

some_app : (o : Option Target) (l : Option Found) → IsTarget o l → is_some l ≡ true → is_none o ≡ false
some_app o l h e = grind arith

upto : (a b : ℕ) → a ≤ b → nat_le a b ≡ true
upto a b h = grind (arith, h)

and_true : (b : Bool) → (b && true) ≡ b
and_true true = refl
and_true false = refl

three_left : (a b c d e f g : Bool) → a ≡ true → b ≡ true → f ≡ true → g ≡ true → (a && b && c && d && e && f && g) ≡ (c && d && e)
three_left a b c d e f g h1 h2 h3 h4 = rw h1 (rw h2 (rw h3 (rw h4 (and_true (c && d && e && true) ∙ and_true (c && d && e)))))

-- a card accepts the sizes of an application exactly if those that a `load` line gives are accepted
fits_is : (l : LoadLine) (found : Found) → IsLoad l found → fits_limits (sizes_of l) ≡ is_accepted found.load
fits_is l found h = grind (arith, three_left, upto)

and_parts : (a b : Bool) → (a && b) ≡ true → (a ≡ true) × (b ≡ true)
and_parts a b e = grind arith

at_most : (a b : ℕ) → nat_le a b ≡ true → a ≤ b
at_most a b h = grind (arith, h)

-- the sizes that a card accepts
record IsAccepted (load : Load) : Type 0 where
  fixed : load.fixed ≤ 4096
  front : length load.data.now ≤ load.fixed
  session : load.session ≤ 256

accepted : (load : Load) → is_accepted load ≡ true → IsAccepted load
accepted load e =
    grind (arith, and_parts (nat_le load.fixed 4096 && nat_le (length load.data.now) load.fixed) (nat_le load.session 256) e, and_parts (nat_le load.fixed 4096) (nat_le (length load.data.now) load.fixed) (and_parts (nat_le load.fixed 4096 && nat_le (length load.data.now) load.fixed) (nat_le load.session 256) e).0)

bytes_append : (s t : List ℕ) → AreBytes s → AreBytes t → AreBytes (s ++ t)
bytes_append [] t h i = i
bytes_append (c ∷ s) t h i = (h.0, bytes_append s t h.1 i)

bytes_zeros : (n : ℕ) → AreBytes (zeros n)
bytes_zeros zero = tt
bytes_zeros (suc n) = (omega arith, bytes_zeros n)

length_zeros : (n : ℕ) → length (zeros n) ≡ n
length_zeros zero = refl
length_zeros (suc n) = ap suc (length_zeros n)

size_by : (t : List ℕ) (n : ℕ) → length t ≤ n → length (t ++ zeros (n - length t)) ≡ n
size_by t n h = grind (arith, length-append t (zeros (n - length t)), length_zeros (n - length t))

-- the application is the one that a `load` line creates
pub created : (name : List ℕ) (l : LoadLine) (found : Found) → IsLoad l found → is_accepted found.load ≡ true → IsCreated (target_of name l).app found.load
created name l found h accepts =
    let a = accepted found.load accepts in
    let front = ap length h.front in
    let fixed : l.fixed ≤ 4096 = omega (arith, h.fixed, a.fixed) in
    let init : length l.unit.init ≤ l.fixed = omega (arith, h.fixed, a.front, front) in
    let size = size_by l.unit.init l.fixed init in
    let long : length l.unit.code ≤ 8192 = h.good.limits.code_len in
    record {
      code = h.code;
      fixed = ap (λ t. t ++ zeros (l.fixed - length t)) h.front ∙ ap (λ n. found.load.data.now ++ zeros (n - length found.load.data.now)) h.fixed;
      size = size ∙ h.fixed;
      session = h.session;
      deny = refl;
      loadable = record {
        code = h.bytes;
        places = omega (arith, long);
        bytes = bytes_append l.unit.init (zeros (l.fixed - length l.unit.init)) h.init (bytes_zeros (l.fixed - length l.unit.init));
        static = omega (arith, size, fixed);
        session = omega (arith, h.session, a.session);
      };
    }

abbrev app_by : List (List ℕ × LoadLine) → AppRules → List ℕ → Bool → Option LoadLine → Result AppRules RuleCause
app_by loads a name new found =
    unless new NameTwice a >>= λ r. ok_or found (Deck UnknownName) >>= λ l. unless (fits_limits (sizes_of l)) OutOfRange (record r { target = Some (target_of name l) })

-- the line of an application, by its only field
app_line : (loads : List (List ℕ × LoadLine)) (a : AppRules) (n : ℕ) (fs : List (List ℕ)) (name : List ℕ) → fs ≡ name ∷ [] → app_rule loads a n AppLine fs ≡ with_target loads a name
app_line loads a n fs name e = ap (app_rule loads a n AppLine) e ∙ app_is loads a n name

app_named : (loads : List (List ℕ × LoadLine)) (a : AppRules) (n : ℕ) (fs : List (List ℕ)) (name : List ℕ) → fs ≡ name ∷ [] → name_field name ≡ Ok name
    → app_rule loads a n AppLine fs ≡ app_by loads a name (is_none a.target) (lookup loads name)
app_named loads a n fs name e h = app_line loads a n fs name e ∙ ap (λ m. of_deck m >>= λ name. app_by loads a name (is_none a.target) (lookup loads name)) h

app_new : (loads : List (List ℕ × LoadLine)) (a : AppRules) (p : Partial) (n : ℕ) (fs : List (List ℕ)) (name : List ℕ) → ArePart a p → fs ≡ name ∷ [] → name_field name ≡ Ok name → p.load ≡ None
    → app_rule loads a n AppLine fs ≡ app_by loads a name true (lookup loads name)
app_new loads a p n fs name are e h l = app_named loads a n fs name e h ∙ ap (λ b. app_by loads a name b (lookup loads name)) (no_app a.target p.load are.target l)

app_found : (loads : List (List ℕ × LoadLine)) (a : AppRules) (p : Partial) (n : ℕ) (fs : List (List ℕ)) (found : Found) (o : Option LoadLine) → ArePart a p → (h : IsAppRead loads p fs found) → lookup loads h.name ≡ o → IsLoadOf o found
    → AreListsRead (app_rule loads a n AppLine fs) (Some found) p.allowances.items p.sums.items p.ons.items p.always.items p.balances.items p.never
app_found loads a p n fs found None are h e i = absurd i
app_found loads a p n fs found (Some l) are h e i =
    let whole : app_rule loads a n AppLine fs ≡ Ok (record a { target = Some (target_of h.name l) }) =
    app_new loads a p n fs h.name are h.parts h.named h.new
    ∙ ap (app_by loads a h.name true) e
    ∙ ap (λ b. unless b OutOfRange (record a { target = Some (target_of h.name l) })) (fits_is l found i ∙ h.accepted) in
    subst (λ (r : Result AppRules RuleCause). AreListsRead r (Some found) p.allowances.items p.sums.items p.ons.items p.always.items p.balances.items p.never) (sym whole) (record {
      target = (created h.name l found i h.accepted, i.aid);
      allowances = are.allowances;
      distinct = are.distinct;
      sums = are.sums;
      ons = are.ons;
      ranges = are.ranges;
      moves = are.moves;
      totals = are.totals;
      abends = are.abends;
    })

-- ---- refused applications

pub no_name : (loads : List (List ℕ × LoadLine)) (a : AppRules) (n : ℕ) (fs : List (List ℕ)) → one_of fs ≡ None → app_rule loads a n AppLine fs ≡ Err (Deck BadLine)
unfolding app_rule
no_name loads a n [] h = refl
no_name loads a n (x ∷ []) h = absurd (cc h)
no_name loads a n (x ∷ y ∷ fs) h = refl

pub app_name_refused : (loads : List (List ℕ × LoadLine)) (a : AppRules) (n : ℕ) (fs : List (List ℕ)) (name : List ℕ) (c : DeckCause) → fs ≡ name ∷ [] → name_field name ≡ Err c → app_rule loads a n AppLine fs ≡ Err (Deck c)
app_name_refused loads a n fs name c e h = app_line loads a n fs name e ∙ ap (λ m. of_deck m >>= λ name. app_by loads a name (is_none a.target) (lookup loads name)) h

pub app_twice : (loads : List (List ℕ × LoadLine)) (a : AppRules) (p : Partial) (n : ℕ) (fs : List (List ℕ)) (name : List ℕ) → ArePart a p → fs ≡ name ∷ [] → name_field name ≡ Ok name → is_some p.load ≡ true
    → app_rule loads a n AppLine fs ≡ Err (Deck NameTwice)
app_twice loads a p n fs name are e h l = app_named loads a n fs name e h ∙ ap (λ b. app_by loads a name b (lookup loads name)) (some_app a.target p.load are.target l)

pub app_unknown : (loads : List (List ℕ × LoadLine)) (a : AppRules) (p : Partial) (n : ℕ) (fs : List (List ℕ)) (name : List ℕ) → ArePart a p → fs ≡ name ∷ [] → name_field name ≡ Ok name → p.load ≡ None → lookup loads name ≡ None
    → app_rule loads a n AppLine fs ≡ Err (Deck UnknownName)
app_unknown loads a p n fs name are e h l i = app_new loads a p n fs name are e h l ∙ ap (app_by loads a name true) i

large_by : (loads : List (List ℕ × LoadLine)) (a : AppRules) (name : List ℕ) (found : Found) (o : Option LoadLine) → IsLoadOf o found → is_accepted found.load ≡ false → app_by loads a name true o ≡ Err (Deck OutOfRange)
large_by loads a name found None h e = absurd h
large_by loads a name found (Some l) h e = ap (λ b. unless b OutOfRange (record a { target = Some (target_of name l) })) (fits_is l found h ∙ e)

pub app_large : (loads : List (List ℕ × LoadLine)) (a : AppRules) (p : Partial) (n : ℕ) (fs : List (List ℕ)) (name : List ℕ) (found : Found) → ArePart a p → fs ≡ name ∷ [] → name_field name ≡ Ok name → p.load ≡ None
    → IsLoadOf (lookup loads name) found → is_accepted found.load ≡ false → app_rule loads a n AppLine fs ≡ Err (Deck OutOfRange)
app_large loads a p n fs name found are e h l i out = app_new loads a p n fs name are e h l ∙ large_by loads a name found (lookup loads name) i out

-- the rules with their application
pub app_added : (loads : List (List ℕ × LoadLine)) (a : AppRules) (p : Partial) (n : ℕ) (fs : List (List ℕ)) (found : Found) (o : Option Found) → ArePart a p → IsAppRead loads p fs found → o ≡ Some found
    → AreListsRead (app_rule loads a n AppLine fs) o p.allowances.items p.sums.items p.ons.items p.always.items p.balances.items p.never
app_added loads a p n fs found o are h e = grind (arith, app_found)

-- ---- allowances and sums

new_name : (list : List (List ℕ × ℕ)) (old : List Named) (m : List ℕ) → list ≡ map allowance_of old → place_of (map allowance_of old) m ≡ None → is_none (lookup list m) ≡ true
new_name list old m e h = ap (λ l. is_none (lookup l m)) e ∙ place_none (map allowance_of old) m h

more_values : (list : List (List ℕ × ℕ)) (old new : List Named) (one : Named) → list ≡ map allowance_of old → new ≡ old ++ one ∷ [] → list ++ allowance_of one ∷ [] ≡ map allowance_of new
more_values list old new one e m = ap (λ l. l ++ allowance_of one ∷ []) e ∙ sym (map_more allowance_of old one) ∙ ap (map allowance_of) (sym m)

-- two fields that are no name and amount, or whose name is in a list
abbrev named_by : List (List ℕ × ℕ) → Result (List ℕ × ℕ) DeckCause → Result (List ℕ × ℕ) RuleCause
named_by list r = of_deck r >>= λ a. unless (is_none (lookup list a.0)) NameTwice a

pub pair_fault : (old : List Named) (fs : List (List ℕ)) (c : DeckCause) (e : Fault) → name_and_amount fs ≡ Err c → e ≡ fault.Cause (cause.Deck c) → HasFault old fs e
pair_fault old fs c e h i = deck_faulty (named_by (map allowance_of old) (name_and_amount fs)) e c i (ap (named_by (map allowance_of old)) h)

some_not : {A : Type 0} (o : Option A) → is_some o ≡ true → is_none o ≡ false
some_not None e = absurd (cc e)
some_not (Some a) e = refl

some_by : (held : List (List ℕ × ℕ)) (name : List ℕ) (i : ℕ) → place_of held name ≡ Some i → is_none (lookup held name) ≡ false
some_by held name i e = some_not (lookup held name) (place_some held name i e)

place_by : (held : List (List ℕ × ℕ)) (name : List ℕ) (o : Option ℕ) → o ≡ place_of held name → is_some o ≡ true → is_none (lookup held name) ≡ false
place_by held name None e h = absurd (cc h)
place_by held name (Some i) e h = some_by held name i (sym e)

pub twice_fault : (old : List Named) (fs : List (List ℕ)) (name : List ℕ) (k : ℕ) (o : Option ℕ) (e : Fault) → name_and_amount fs ≡ Ok (name, k) → o ≡ place_of (map allowance_of old) name → is_some o ≡ true
    → e ≡ fault.Cause (cause.Deck NameTwice) → HasFault old fs e
twice_fault old fs name k o e h p s i = grind (arith, deck_faulty, place_by)

test_by : {A B : Type 0} (b : Bool) (x : A) (y : B) (e : Fault) → Faulty (unless b NameTwice x) e → Faulty (unless b NameTwice y) e
test_by b x y e h = grind arith

-- a refused name before the rules with it
then_by : (r : Result (List ℕ × ℕ) RuleCause) (test : List ℕ × ℕ → Bool) (f : List ℕ × ℕ → AppRules) (e : Fault) → Faulty (r >>= λ a. unless (test a) NameTwice a) e → Faulty (r >>= λ a. unless (test a) NameTwice (f a)) e
then_by r test f e h = grind (arith, test_by)

-- the fault of a line about an allowance or a sum
abbrev pub NamedFault : Partial → AppWord → List (List ℕ) → Fault → Type 0
NamedFault p w fs e = (loads : List (List ℕ × LoadLine)) (a : AppRules) (n : ℕ) → ArePart a p → Faulty (app_rule loads a n w fs) e

-- the fault of a line that names the application, and of one about abends
abbrev pub AppFault : List (List ℕ × LoadLine) → Partial → List (List ℕ) → Fault → Type 0
AppFault loads p fs e = (a : AppRules) (n : ℕ) → ArePart a p → Faulty (app_rule loads a n AppLine fs) e

abbrev pub NeverFault : Partial → ℕ → List (List ℕ) → Fault → Type 0
NeverFault p n fs e = (loads : List (List ℕ × LoadLine)) (a : AppRules) → ArePart a p → Faulty (app_rule loads a n NeverLine fs) e

-- refused allowances and sums
pub allowance_refused : (loads : List (List ℕ × LoadLine)) (a : AppRules) (p : Partial) (n : ℕ) (fs : List (List ℕ)) (e : Fault) → ArePart a p → HasFault p.allowances.items fs e → Faulty (app_rule loads a n AllowLine fs) e
allowance_refused loads a p n fs e are h = grind (arith, same_faulty, allow_is, then_by)

pub sum_refused : (loads : List (List ℕ × LoadLine)) (a : AppRules) (p : Partial) (n : ℕ) (fs : List (List ℕ)) (e : Fault) → ArePart a p → HasFault p.sums.items fs e → Faulty (app_rule loads a n SumWord fs) e
sum_refused loads a p n fs e are h = grind (arith, same_faulty, sum_is, then_by)

-- the rules with one more allowance
pub allowance_added : (loads : List (List ℕ × LoadLine)) (a : AppRules) (p : Partial) (n : ℕ) (fs : List (List ℕ)) (more : List Named) → ArePart a p → IsMoreNamed p.allowances.items fs more
    → AreListsRead (app_rule loads a n AllowLine fs) p.load more p.sums.items p.ons.items p.always.items p.balances.items p.never
allowance_added loads a p n fs more are h = grind (arith, map_more, allow_is, new_name, more_values, distinct_more, lines_names)

-- the rules with one more sum
pub sum_added : (loads : List (List ℕ × LoadLine)) (a : AppRules) (p : Partial) (n : ℕ) (fs : List (List ℕ)) (more : List Named) → ArePart a p → IsMoreNamed p.sums.items fs more
    → AreListsRead (app_rule loads a n SumWord fs) p.load p.allowances.items more p.ons.items p.always.items p.balances.items p.never
sum_added loads a p n fs more are h = grind (arith, map_more, sum_is, new_name, more_values, sum_lines_names, totals_names)

-- ---- abends

-- the number of the first line about abends
abbrev pub first_never : ℕ → Option ℕ → Option ℕ
first_never n None = Some n
first_never n (Some m) = Some m

never_lists : (a : AppRules) (p : Partial) (n : ℕ) (o never : Option ℕ) → ArePart a p → a.abends ≡ o → never ≡ first_never n o → AreLists (with_never a n o) p.load p.allowances.items p.sums.items p.ons.items p.always.items p.balances.items never
never_lists a p n o never are e h = grind arith

-- the rules with a line about abends
pub never_added : (loads : List (List ℕ × LoadLine)) (a : AppRules) (p : Partial) (n : ℕ) (fs : List (List ℕ)) (word : List ℕ) (found : Found) (never : Option ℕ) → ArePart a p → fs ≡ word ∷ [] → bytes_eq word (codes "abend") ≡ true
    → p.load ≡ Some found → never ≡ first_never n p.never → AreListsRead (app_rule loads a n NeverLine fs) p.load p.allowances.items p.sums.items p.ons.items p.always.items p.balances.items never
never_added loads a p n fs word found never are parts is loaded h = grind (arith, never_is, is_target, never_lists)

pub never_new : (o : Option ℕ) (n : ℕ) → is_none o ≡ true → Some n ≡ first_never n o
never_new None n e = refl
never_new (Some m) n e = absurd (cc e)

pub never_there : (o : Option ℕ) (n : ℕ) → is_none o ≡ false → o ≡ first_never n o
never_there None n e = absurd (cc e)
never_there (Some m) n e = refl

-- ---- refused lines about abends

pub no_abend : (loads : List (List ℕ × LoadLine)) (a : AppRules) (n : ℕ) (fs : List (List ℕ)) → one_of fs ≡ None → app_rule loads a n NeverLine fs ≡ Err (Deck BadLine)
unfolding app_rule
no_abend loads a n [] h = refl
no_abend loads a n (x ∷ []) h = absurd (cc h)
no_abend loads a n (x ∷ y ∷ fs) h = refl

never_line : (loads : List (List ℕ × LoadLine)) (a : AppRules) (n : ℕ) (fs : List (List ℕ)) (word : List ℕ) → fs ≡ word ∷ []
    → app_rule loads a n NeverLine fs ≡ (unless (bytes_eq word (codes "abend")) BadLine a >>= λ r. with_app r (with_never r n r.abends))
never_line loads a n fs word e = ap (app_rule loads a n NeverLine) e ∙ never_is loads a n word

pub other_never : (loads : List (List ℕ × LoadLine)) (a : AppRules) (n : ℕ) (fs : List (List ℕ)) (word : List ℕ) → fs ≡ word ∷ [] → bytes_eq word (codes "abend") ≡ false → app_rule loads a n NeverLine fs ≡ Err (Deck BadLine)
other_never loads a n fs word e h = never_line loads a n fs word e ∙ ap (λ b. unless b BadLine a >>= λ r. with_app r (with_never r n r.abends)) h

pub never_unnamed : (loads : List (List ℕ × LoadLine)) (a : AppRules) (p : Partial) (n : ℕ) (fs : List (List ℕ)) (word : List ℕ) → ArePart a p → fs ≡ word ∷ [] → bytes_eq word (codes "abend") ≡ true → p.load ≡ None
    → app_rule loads a n NeverLine fs ≡ Err NoApplication
never_unnamed loads a p n fs word are e h l =
    never_line loads a n fs word e ∙ ap (λ b. unless b BadLine a >>= λ r. with_app r (with_never r n r.abends)) h
    ∙ ap (λ b. only_if b NoApplication (with_never a n a.abends)) (no_target a.target p.load are.target l)

-- no application was named
pub none_yet : {A : Type 0} (o : Option A) → is_some o ≡ false → o ≡ None
none_yet None e = refl
none_yet (Some a) e = absurd (cc e)
