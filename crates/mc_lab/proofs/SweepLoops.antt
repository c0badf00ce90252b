-- The loops of a sweep: the cuts that hit, and the observed states.
use Rattle.std.specs.Prelude.{◌≡◌, ℕ, zero, suc, ◌+◌, ◌*◌, slice_set, ◌<◌, ◌≤◌, Bool, true, false, ◌&&◌, nat_le, List, [], ◌∷◌, ◌++◌, length, map, take, refl, Option, Some, None, IfNone}
use Rattle.std.proofs.Common.{arith, ap, sym, ◌∙◌}
use Rattle.std.proofs.lemmas.Bool.{leb-true}
use Rattle.std.proofs.lemmas.Bool.Decides.{nat_tests}
use Rattle.law_explore.specs.model_play.specs.Play.{Unarmed, AfterPower, armed_stop_in}
use Rattle.law_explore.specs.model_device.proofs.ListLemmas.{length_map as map-length}
use Rattle.mc_lab.specs.Sweeps.{Tried, plays_of, state_on_blank, ReportedState, is_same, all_same, count_from, cut_statement, power, under_cut, ones, cut_write}
use Rattle.law_explore.specs.model_device.specs.Bytes.{zeros}
use Rattle.std.proofs.Common.{length-append}
use Rattle.mc_lab.specs.declared.sweep_word.SweepWord.{SweepWord}
use Rattle.mc_lab.specs.SweepBodies.{word_with, cut_write_at, IsUnarmedLine, OpensNoGate, front_of, line_in, hit_in, state_at_place, writes_in, again_in, recovery_states_at}
use Rattle.mc_lab.specs.declared.sweep_trial.Place.{Place}
use Rattle.mc_lab.specs.declared.sweep_trial.TrialLines.TheVariants as trial
use Rattle.mc_lab.proofs.SweepPlays.{played_two, line_cut, unarmed_is}
use Rattle.mc_lab.proofs.SweepHits.{line_hit}
use Rattle.law_explore.specs.model_device.proofs.BoolLemmas.{and_true}

module _ (p : Place) (open_line : IsUnarmedLine p) where
  at_front : armed_stop_in (state_on_blank (front_of p)) ≡ Unarmed
  at_front = unarmed_is (armed_stop_in (state_on_blank (front_of p))) open_line.unarmed

  -- a cut hits exactly the writes of the line
  pub hit_cut : (k : ℕ) (fill : List ℕ) → 1 ≤ k → hit_in p (trial.Cut k fill) ≡ nat_le k (writes_in p)
  hit_cut k fill low = line_hit (state_on_blank (front_of p)) (line_in p) (line_in p).0 k fill at_front open_line.card low

  -- a cut in the recovery after it hits exactly the writes of the recovery
  pub hit_again : (k : ℕ) (fill : List ℕ) (j : ℕ) → 1 ≤ k → k ≤ writes_in p → OpensNoGate fill → 1 ≤ j → hit_in p (trial.Twice k fill j) ≡ nat_le j (again_in p k fill)
  hit_again k fill j low high shuts first =
      let l = line_in p in
      let c = line_cut (state_on_blank (front_of p)) l l.0 k fill at_front open_line.card shuts low high in
      let is : state_on_blank (under_cut (front_of p) l k fill) ≡ AfterPower c.warm = played_two (front_of p) (cut_statement l.0 k fill) l ∙ c.state in
      line_hit (state_on_blank (under_cut (front_of p) l k fill)) (power l.0) l.0 j fill (ap armed_stop_in is ∙ c.unarmed) refl first

-- ---- counts

-- one number more is the next one after those that were counted
pub count_more : (k n : ℕ) → count_from k (n + 1) ≡ count_from k n ++ (k + n) ∷ []
count_more k zero = ap (λ (i : ℕ). i ∷ []) (let e : k ≡ k + 0 = omega arith in e)
count_more k (suc n) = ap (λ (m : ℕ). count_from k m) (let e : suc n + 1 ≡ suc (n + 1) = omega arith in e) ∙ ap (λ (l : List ℕ). k ∷ l) (count_more (k + 1) n ∙ ap (λ (i : ℕ). count_from (k + 1) n ++ i ∷ []) (let e : k + 1 + n ≡ k + suc n = omega arith in e))

-- a map over two lists is both maps one after the other
pub map_append : {A B : Type 0} (f : A → B) (xs ys : List A) → map f (xs ++ ys) ≡ map f xs ++ map f ys
map_append f [] ys = refl
map_append f (x ∷ xs) ys = ap (λ l. f x ∷ l) (map_append f xs ys)

-- a map over one number more has one more at the end
pub map_more : {A : Type 0} (f : ℕ → A) (n : ℕ) → map f (count_from 1 (n + 1)) ≡ map f (count_from 1 n) ++ f (n + 1) ∷ []
map_more f n =
    ap (map f) (count_more 1 n) ∙ map_append f (count_from 1 n) ((1 + n) ∷ []) ∙ ap (λ (i : ℕ). map f (count_from 1 n) ++ f i ∷ []) (let e : 1 + n ≡ n + 1 = omega arith in e)

-- n numbers are counted
pub count_length : (k n : ℕ) → length (count_from k n) ≡ n
count_length k zero = refl
count_length k (suc n) = ap suc (count_length (k + 1) n)

-- a map over n numbers has n elements
pub counted_length : {A : Type 0} (f : ℕ → A) (n : ℕ) → length (map f (count_from 1 n)) ≡ n
counted_length f n = map-length f (count_from 1 n) ∙ count_length 1 n

-- ---- equal states

and_assoc : (a b c : Bool) → (a && (b && c)) ≡ ((a && b) && c)
and_assoc true b c = refl
and_assoc false b c = refl

and_swap : (a b : Bool) → (a && b) ≡ (b && a)
and_swap a b = grind arith

-- all states of two lists are the same if those of each are
pub same_append : (t : ReportedState) (xs ys : List ReportedState) → all_same t (xs ++ ys) ≡ (all_same t xs && all_same t ys)
same_append t [] ys = refl
same_append t (x ∷ xs) ys = ap (λ (b : Bool). is_same x t && b) (same_append t xs ys) ∙ and_assoc (is_same x t) (all_same t xs) (all_same t ys)

-- the states of the recoveries that were cut already
pub record Recovering (p : Place) (k : ℕ) (fill : List ℕ) (first : ReportedState) (made : ℕ) (same : Bool) : Type 0 where
  pub within : made ≤ again_in p k fill
  pub is : same ≡ all_same first (map (λ j. state_at_place p (trial.Twice k fill j)) (count_from 1 made))

-- before the first cut no recovery was cut, and nothing differs
pub recovering_none : (p : Place) (k : ℕ) (fill : List ℕ) (first : ReportedState) → Recovering p k fill first 0 true
recovering_none p k fill first = record { within = omega arith; is = refl }

-- a cut that hit a recovery adds its observed state
pub recovering_more : (p : Place) (k : ℕ) (fill : List ℕ) (first now : ReportedState) (made : ℕ) (same now_same hit : Bool) → Recovering p k fill first made same
    → hit ≡ nat_le (made + 1) (again_in p k fill) → hit ≡ true → now ≡ state_at_place p (trial.Twice k fill (made + 1)) → now_same ≡ is_same now first
    → Recovering p k fill first (made + 1) (now_same && same)
recovering_more p k fill first now made same now_same hit r test is_hit is test_same =
    let f = λ (j : ℕ). state_at_place p (trial.Twice k fill j) in
    record {
      within = leb-true (made + 1) (again_in p k fill) (sym test ∙ is_hit);
      is = grind (arith, is, and_swap, and_true, same_append, map_more);
    }

-- the recoveries of a write after the cut that hit no more, or after the last number
pub record Recovered (p : Place) (k : ℕ) (fill : List ℕ) (first : ReportedState) (made : ℕ) (same : Bool) : Type 0 where
  pub same_as : same ≡ all_same first (recovery_states_at p k fill)
  pub count : made ≡ length (recovery_states_at p k fill)

recovered_all : (p : Place) (k : ℕ) (fill : List ℕ) (first : ReportedState) (made : ℕ) (same : Bool) → Recovering p k fill first made same → made ≡ again_in p k fill → Recovered p k fill first made same
recovered_all p k fill first made same r e =
    record {
      same_as = r.is ∙ ap (λ (n : ℕ). all_same first (map (λ j. state_at_place p (trial.Twice k fill j)) (count_from 1 n))) e;
      count = e ∙ sym (counted_length (λ j. state_at_place p (trial.Twice k fill j)) (again_in p k fill));
    }

-- a cut that hit no recovery ends them
pub recovered_missed : (p : Place) (k : ℕ) (fill : List ℕ) (first : ReportedState) (made : ℕ) (same hit : Bool) → Recovering p k fill first made same
    → hit ≡ nat_le (made + 1) (again_in p k fill) → hit ≡ false → Recovered p k fill first made same
recovered_missed p k fill first made same hit r test missed =
    let past : again_in p k fill < made + 1 = (let no : nat_le (made + 1) (again_in p k fill) ≡ false = sym test ∙ missed in grind (arith, nat_tests)) in
    let within = r.within in
    recovered_all p k fill first made same r (omega arith)

-- after the last cut the recoveries of a write are done
pub recovered_last : (p : Place) (k : ℕ) (fill : List ℕ) (first : ReportedState) (made most : ℕ) (same : Bool) → Recovering p k fill first made same → made ≡ most → again_in p k fill ≤ most → Recovered p k fill first made same
recovered_last p k fill first made most same r last few = recovered_all p k fill first made same r (omega arith)

-- ---- one write

-- the word and the number of plays of a write
pub record TriedAs (p : Place) (k : ℕ) (w : SweepWord) (n : ℕ) : Type 0 where
  pub word : w ≡ (cut_write_at p k).word
  pub plays : n ≡ (cut_write_at p k).plays

-- the word and the plays of a write are those of its cuts
pub tried_as : (p : Place) (k : ℕ) (first before after now : ReportedState) (zeros_same ones_first ones_same : Bool) (n m : ℕ)
    → first ≡ state_at_place p (trial.Cut k (zeros 8)) → before ≡ state_at_place p trial.Nothing → after ≡ state_at_place p trial.Whole → now ≡ state_at_place p (trial.Cut k ones)
    → zeros_same ≡ all_same first (recovery_states_at p k (zeros 8)) → ones_first ≡ is_same now first → ones_same ≡ all_same first (recovery_states_at p k ones)
    → n ≡ length (recovery_states_at p k (zeros 8)) → m ≡ length (recovery_states_at p k ones)
    → TriedAs p k (word_with (zeros_same && (ones_first && ones_same)) (is_same first before) (is_same first after)) (2 + n + m)
unfolding cut_write
tried_as p k first before after now zeros_same ones_first ones_same n m first_is before_is after_is now_is zs o os zn on =
    let t = state_at_place p (trial.Cut k (zeros 8)) in
    let u = state_at_place p (trial.Cut k ones) in
    let b = state_at_place p trial.Nothing in
    let a = state_at_place p trial.Whole in
    let xs = recovery_states_at p k (zeros 8) in
    let ys = recovery_states_at p k ones in
    let long : length (xs ++ u ∷ ys) ≡ length xs + (1 + length ys) = length-append xs (u ∷ ys) ∙ ap (λ (i : ℕ). length xs + i) (let e : length (u ∷ ys) ≡ 1 + length ys = omega arith in e) in
    record {
      word =
          ap (λ (c : Bool). word_with (c && (ones_first && ones_same)) (is_same first before) (is_same first after)) zs
          ∙ ap (λ (c : Bool). word_with (all_same first xs && (c && ones_same)) (is_same first before) (is_same first after)) o
          ∙ ap (λ (c : Bool). word_with (all_same first xs && (is_same now first && c)) (is_same first before) (is_same first after)) os
          ∙ ap (λ (f : ReportedState). word_with (all_same f xs && (is_same now f && all_same f ys)) (is_same f before) (is_same f after)) first_is
          ∙ ap (λ (f : ReportedState). word_with (all_same t xs && (is_same f t && all_same t ys)) (is_same t before) (is_same t after)) now_is
          ∙ ap (λ (f : ReportedState). word_with (all_same t xs && (is_same u t && all_same t ys)) (is_same t f) (is_same t after)) before_is
          ∙ ap (λ (f : ReportedState). word_with (all_same t xs && (is_same u t && all_same t ys)) (is_same t b) (is_same t f)) after_is
          ∙ ap (λ (c : Bool). word_with c (is_same t b) (is_same t a)) (sym (same_append t xs (u ∷ ys)));
      plays = (let e : 2 + n + m ≡ length xs + (1 + length ys) + 1 = omega (arith, zn, on) in e) ∙ ap (λ (i : ℕ). i + 1) (sym long);
    }

-- a cut that hit, and one that did not
pub hit_within : (p : Place) (k : ℕ) (hit : Bool) → IsUnarmedLine p → 1 ≤ k → (fill : List ℕ) → hit ≡ hit_in p (trial.Cut k fill) → hit ≡ true → k ≤ writes_in p
hit_within p k hit open_line low fill is hits_it = leb-true k (writes_in p) (sym (is ∙ hit_cut p open_line k fill low) ∙ hits_it)

-- a cut that hits nothing is past the writes of the line
pub missed_past : (p : Place) (k : ℕ) (hit : Bool) → IsUnarmedLine p → 1 ≤ k → (fill : List ℕ) → hit ≡ hit_in p (trial.Cut k fill) → hit ≡ false → writes_in p < k
missed_past p k hit open_line low fill is misses_it = grind (arith, hit_cut, nat_tests)

-- ---- the writes of a line

-- one element more is that which was set
pub take_set : {A : Type 0} (i : ℕ) (xs : List A) (x : A) → i < length xs → take (i + 1) (slice_set xs i x) ≡ take i xs ++ x ∷ []
take_set i [] x lt = absurd (omega arith)
take_set zero (y ∷ ys) x lt = refl
take_set (suc i) (y ∷ ys) x lt =
    ap (λ (n : ℕ). take n (y ∷ slice_set ys i x)) (let e : suc i + 1 ≡ suc (i + 1) = omega arith in e) ∙ ap (λ l. y ∷ l) (take_set i ys x (omega arith))

plays_more : (ts : List Tried) (t : Tried) → plays_of (ts ++ t ∷ []) ≡ plays_of ts + t.plays
plays_more [] t = omega arith
plays_more (u ∷ us) t = let e = plays_more us t in omega (arith, e)

-- the words and the number of plays of the writes that were cut already
pub record Sweeping (p : Place) (i : ℕ) (words : List SweepWord) (plays : ℕ) : Type 0 where
  pub within : i ≤ writes_in p
  pub words_are : take i words ≡ map (λ t. t.word) (map (cut_write_at p) (count_from 1 i))
  pub plays_are : plays ≡ plays_of (map (cut_write_at p) (count_from 1 i))
  pub few_plays : plays ≤ 131072 * i

-- before the first write no word was found
pub sweeping_none : (p : Place) (words : List SweepWord) → Sweeping p 0 words 0
sweeping_none p words = record { within = omega arith; words_are = refl; plays_are = refl; few_plays = omega arith }

-- a write that was cut adds its word and its plays
pub sweeping_more : (p : Place) (i : ℕ) (words : List SweepWord) (plays : ℕ) (w : SweepWord) (n : ℕ) → Sweeping p i words plays → i < length words → i + 1 ≤ writes_in p
    → w ≡ (cut_write_at p (i + 1)).word → n ≡ (cut_write_at p (i + 1)).plays → n ≤ 131072 → Sweeping p (i + 1) (slice_set words i w) (plays + n)
sweeping_more p i words plays w n s lt within w_is n_is few =
    let more = map_more (cut_write_at p) i in
    let before = s.few_plays in
    let so_far = s.plays_are in
    let last = plays_more (map (cut_write_at p) (count_from 1 i)) (cut_write_at p (i + 1)) in
    record {
      within = within;
      words_are = grind (arith, take_set, map_append);
      plays_are = (let e : plays + n ≡ plays_of (map (cut_write_at p) (count_from 1 i)) + (cut_write_at p (i + 1)).plays = omega (arith, so_far, n_is) in e) ∙ sym last ∙ ap plays_of (sym more);
      few_plays = omega (arith, before, few);
    }

-- the words and the number of plays of all writes of a line
pub record SweptAs (p : Place) (n : ℕ) (words : List SweepWord) (plays : ℕ) : Type 0 where
  pub writes : n ≡ writes_in p
  pub words_are : take n words ≡ map (λ t. t.word) (map (cut_write_at p) (count_from 1 (writes_in p)))
  pub plays_are : plays ≡ plays_of (map (cut_write_at p) (count_from 1 (writes_in p)))

-- if each write was cut, the words and plays are those of the line
pub swept_as : (p : Place) (n : ℕ) (words : List SweepWord) (plays : ℕ) → Sweeping p n words plays → n ≡ writes_in p → SweptAs p n words plays
swept_as p n words plays s e =
    record {
      writes = e;
      words_are = s.words_are ∙ ap (λ (m : ℕ). map (λ t. t.word) (map (cut_write_at p) (count_from 1 m))) e;
      plays_are = s.plays_are ∙ ap (λ (m : ℕ). plays_of (map (cut_write_at p) (count_from 1 m))) e;
    }

-- a line that makes no write
pub swept_none : (p : Place) (words : List SweepWord) → writes_in p ≡ 0 → SweptAs p 0 words 0
swept_none p words none = swept_as p 0 words 0 (sweeping_none p words) (sym none)

-- ---- bounds

-- what follows if there is no value
pub if_none : {P : Type 0} (o : Option ℕ) → P → IfNone o P
if_none None h = h
if_none (Some v) h = tt

-- what follows for no value follows
pub if_none_then : {P Q : Type 0} (o : Option ℕ) → (P → Q) → IfNone o P → IfNone o Q
if_none_then None f h = f h
if_none_then (Some v) f h = tt
