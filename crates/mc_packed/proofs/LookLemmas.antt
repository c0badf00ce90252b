-- One step of reading the targets of the journal of layout 2, four in a target word.
use Rattle.std.proofs.Common.{◌≡◌, ℕ, suc, ◌+◌, ◌-◌, ◌*◌, ◌<◌, min, Bool, true, false, ◌&&◌, List, [], ◌++◌, length, take, drop, Result, Ok, Err, sym, ◌∙◌, ap, inl, inr, arith, take_all}
use Rattle.std.proofs.lemmas.List.{drop_all}
use Rattle.std.proofs.lemmas.Bool.{cases_lt}
use Rattle.std.proofs.Math.Nat.{min-eq_left, min-eq_right}
use Rattle.mc_words.specs.model_device.specs.Bytes.{up}
use Rattle.mc_words.specs.model_device.specs.Image.{word_at, four, all_zero, ascend, after_all, before, all_before, targets_2}
use Rattle.mc_words.specs.model_device.proofs.JournalLemmas.{read_on, read_bad, read_all}

-- of four numbers, the first c are the first of them up to four
take_four : (c : ℕ) (all : List ℕ) → length all ≡ 4 → take (min c 4) all ≡ take c all
take_four c all h = elim (cases_lt c 4) [
  | inl few ↦ ap (λ (n : ℕ). take n all) (min-eq_left {n = c} {m = 4} (omega arith))
  | inr more ↦ ap (λ (n : ℕ). take n all) (min-eq_right {n = 4} {m = c} more) ∙ take_all 4 all (omega (arith, h)) ∙ sym (take_all c all (omega (arith, h)))
]

-- and past the first c there are none past four
drop_four : (c : ℕ) (all : List ℕ) → length all ≡ 4 → drop (min c 4) all ≡ drop c all
drop_four c all h = elim (cases_lt c 4) [
  | inl few ↦ ap (λ (n : ℕ). drop n all) (min-eq_left {n = c} {m = 4} (omega arith))
  | inr more ↦ ap (λ (n : ℕ). drop n all) (min-eq_right {n = 4} {m = c} more) ∙ drop_all 4 all (omega (arith, h)) ∙ sym (drop_all c all (omega (arith, h)))
]

-- n target words are word 3 + i and the n - 1 after it
one_more : (m : List (List ℕ)) (i n k c least : ℕ) → n ≡ suc k
    → targets_2 m i n c least ≡ all_before (all_zero (drop c (four (word_at m (3 + i)))) && ascend (length m) least (take c (four (word_at m (3 + i))))) (take c (four (word_at m (3 + i)))) (3 + i)
    (targets_2 m (i + 1) k (c - 4) (after_all least (take c (four (word_at m (3 + i))))))
unfolding targets_2
one_more m i n k c least e = ap (λ (t : ℕ). targets_2 m i t c least) e

-- the targets from word 3 + i on, by the numbers that were read of it
parts : (m : List (List ℕ)) (i n k c least : ℕ) (all now past : List ℕ) → n ≡ suc k → all ≡ four (word_at m (3 + i)) → length all ≡ 4 → now ≡ take (min c 4) all → past ≡ drop (min c 4) all
    → targets_2 m i n c least ≡ all_before (all_zero past && ascend (length m) least now) now (3 + i) (targets_2 m (i + 1) k (c - 4) (after_all least now))
parts m i n k c least all now past e ha h4 hn hp =
    let n_is : take c (four (word_at m (3 + i))) ≡ now = ap (λ (l : List ℕ). take c l) (sym ha) ∙ sym (hn ∙ take_four c all h4) in
    let p_is : drop c (four (word_at m (3 + i))) ≡ past = ap (λ (l : List ℕ). drop c l) (sym ha) ∙ sym (hp ∙ drop_four c all h4) in
    one_more m i n k c least e
    ∙ ap (λ (l : List ℕ). all_before (all_zero (drop c (four (word_at m (3 + i)))) && ascend (length m) least l) l (3 + i) (targets_2 m (i + 1) k (c - 4) (after_all least l))) n_is
    ∙ ap (λ (l : List ℕ). all_before (all_zero l && ascend (length m) least now) now (3 + i) (targets_2 m (i + 1) k (c - 4) (after_all least now))) p_is

-- a target word whose numbers are all good, by what the test of them says
good_word : (now : List ℕ) (place : ℕ) (rest : Result (List ℕ) ℕ) (a b : Bool) → a ≡ true → b ≡ true → all_before (a && b) now place rest ≡ before now rest
good_word now place rest a b h k = ap (λ (t : Bool). all_before (t && b) now place rest) h ∙ ap (λ (t : Bool). all_before t now place rest) k

-- the targets of word 3 + i were read
pub targets_on : (m : List (List ℕ)) (count i least next : ℕ) (whole : Result (List ℕ) ℕ) (items now past all found : List ℕ) → i < up count 4
    → whole ≡ before items (targets_2 m i (up count 4 - i) (count - 4 * i) least) → all ≡ four (word_at m (3 + i)) → length all ≡ 4 → now ≡ take (min (count - 4 * i) 4) all → past ≡ drop (min (count - 4 * i) 4) all
    → all_zero past ≡ true → ascend (length m) least now ≡ true → next ≡ after_all least now → found ≡ items ++ now
    → whole ≡ before found (targets_2 m (i + 1) (up count 4 - (i + 1)) (count - 4 * (i + 1)) next)
targets_on m count i least next whole items now past all found lt hw ha h4 hn hp hz hs hx hf =
    let c = count - 4 * i in
    let k = up count 4 - (i + 1) in
    let less : c - 4 ≡ count - 4 * (i + 1) = omega arith in
    read_on items now found (targets_2 m i (up count 4 - i) c least) (targets_2 m (i + 1) k (count - 4 * (i + 1)) next) whole hw
    (parts m i (up count 4 - i) k c least all now past (omega arith) ha h4 hn hp
    ∙ good_word now (3 + i) (targets_2 m (i + 1) k (c - 4) (after_all least now)) (all_zero past) (ascend (length m) least now) hz hs
    ∙ ap (λ (t : ℕ). before now (targets_2 m (i + 1) k t (after_all least now))) less
    ∙ ap (λ (t : ℕ). before now (targets_2 m (i + 1) k (count - 4 * (i + 1)) t)) (sym hx))
    hf

-- word 3 + i is bad
pub targets_bad : (m : List (List ℕ)) (count i least : ℕ) (whole : Result (List ℕ) ℕ) (items now past all : List ℕ) → i < up count 4
    → whole ≡ before items (targets_2 m i (up count 4 - i) (count - 4 * i) least) → all ≡ four (word_at m (3 + i)) → length all ≡ 4 → now ≡ take (min (count - 4 * i) 4) all → past ≡ drop (min (count - 4 * i) 4) all
    → (all_zero past && ascend (length m) least now) ≡ false → whole ≡ Err (3 + i)
targets_bad m count i least whole items now past all lt hw ha h4 hn hp hb =
    let c = count - 4 * i in
    let k = up count 4 - (i + 1) in
    read_bad items (3 + i) (targets_2 m i (up count 4 - i) c least) whole hw
    (parts m i (up count 4 - i) k c least all now past (omega arith) ha h4 hn hp
    ∙ ap (λ (t : Bool). all_before t now (3 + i) (targets_2 m (i + 1) k (c - 4) (after_all least now))) hb)

-- one of two tests failed
pub bad_first : (a b : Bool) → a ≡ false → (a && b) ≡ false
bad_first a b h = ap (λ (t : Bool). t && b) h

pub bad_second : (a b : Bool) → a ≡ true → b ≡ false → (a && b) ≡ false
bad_second a b h k = ap (λ (t : Bool). t && b) h ∙ k

-- no target word is left
none_left : (m : List (List ℕ)) (i n c least : ℕ) → n ≡ 0 → targets_2 m i n c least ≡ Ok []
unfolding targets_2
none_left m i n c least e = ap (λ (t : ℕ). targets_2 m i t c least) e

-- all target words were read
pub targets_end : (m : List (List ℕ)) (i n c least : ℕ) (whole : Result (List ℕ) ℕ) (items : List ℕ) → n ≡ 0 → whole ≡ before items (targets_2 m i n c least) → whole ≡ Ok items
targets_end m i n c least whole items e h = read_all items (targets_2 m i n c least) whole h (none_left m i n c least e)
