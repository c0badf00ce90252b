-- The generated deck, part by part.
use Rattle.std.proofs.Common.{◌≡◌, ◌==◌, ◌/◌, ℕ, zero, suc, ◌+◌, ◌-◌, ◌<◌, ◌≤◌, ◌%◌, Bool, true, false, cond, List, [], ◌∷◌, ◌++◌, length, append-nil, append_assoc, add-one, arith, refl, sym, ap, ◌∙◌}
use Rattle.std.specs.Prelude.{nat_lt}
use Rattle.std.specs.List.{AllByRecursion}
use Rattle.model_play.specs.model_device.specs.Bytes.{bytes, zeros}
use Rattle.model_play.specs.model_text.specs.Text.{with_numbers}
use Rattle.model_play.specs.DeckGrammar.{DeckLine, Format, Power, Named, Sent, Load, Select, Delete, Dump, Apdu, made_unit}
use Rattle.model_play.specs.Generator.{command, next, draw, turns, line_of, opening_lines, closing_lines, opening_word, cut_line, purse_line, deck_of_number, counter, purse, relay, counter_aid, purse_aid, relay_aid}
use Rattle.mc_unit.proofs.Made.{made_name}
use Rattle.mc_deck.specs.declared.line.OwnedLine.{OwnedLine}
use Rattle.mc_deck.specs.Lines.{is_powered_after_line, UnitWithin, GoodLine, GoodUnit, Timely, OnTime, AreDeck}
use Rattle.mc_deck.proofs.ReaderLemmas.{all_more}

-- ---- numbers

numbered_both : (n : ℕ) (xs ys : List DeckLine) → with_numbers n (xs ++ ys) ≡ with_numbers n xs ++ with_numbers (n + length xs) ys
numbered_both n [] ys = let e : n + 0 ≡ n = omega arith in rw e refl
numbered_both n (x ∷ xs) ys = let e : n + suc (length xs) ≡ suc n + length xs = omega arith in rw e (ap (λ ls. (n, x) ∷ ls) (numbered_both (suc n) xs ys))

turns_len : (k x : ℕ) → length (turns k x) ≡ k
turns_len zero x = refl
turns_len (suc k) x = ap suc (turns_len k (next (next x)))

-- the parts of the generated deck
pub generated_parts : (n : ℕ) → deck_of_number n ≡ (with_numbers 1 opening_lines ++ with_numbers 9 (turns 4000 n)) ++ with_numbers 4009 closing_lines
unfolding deck_of_number
generated_parts n =
    let e : 9 + length (turns 4000 n) ≡ 4009 = ap (λ k. 9 + k) (turns_len 4000 n) in
    numbered_both 1 opening_lines (turns 4000 n ++ closing_lines)
    ∙ ap (λ ls. with_numbers 1 opening_lines ++ ls) (numbered_both 9 (turns 4000 n) closing_lines ∙ ap (λ k. with_numbers 9 (turns 4000 n) ++ with_numbers k closing_lines) e)
    ∙ sym (append_assoc (with_numbers 1 opening_lines) (with_numbers 9 (turns 4000 n)) (with_numbers 4009 closing_lines))

-- ---- turns

turns_next : (n x : ℕ) → n < 4009 → with_numbers n (turns (4009 - n) x) ≡ (n, line_of (draw (next x)) (draw (next (next x)))) ∷ with_numbers (n + 1) (turns (4009 - (n + 1)) (next (next x)))
turns_next n x h = let e : 4009 - n ≡ suc (4009 - (n + 1)) = omega (arith, h) in rw (e, add-one n) refl

-- one more turn, and the last
pub turn_more : (so now : List (ℕ × DeckLine)) (n x r q : ℕ) (l : DeckLine) (whole : List (ℕ × DeckLine)) → n < 4009 → now ≡ so ++ (n, l) ∷ [] → r ≡ next x → q ≡ next r → l ≡ line_of (draw r) (draw q)
    → so ++ with_numbers n (turns (4009 - n) x) ≡ whole → now ++ with_numbers (n + 1) (turns (4009 - (n + 1)) q) ≡ whole
turn_more so now n x r q l whole h e f g s w =
    let left = with_numbers (n + 1) (turns (4009 - (n + 1)) (next (next x))) in
    let k : l ≡ line_of (draw (next x)) (draw (next (next x))) = rw (s, g, f) refl in
    let y : q ≡ next (next x) = g ∙ ap next f in
    ap (λ q. now ++ with_numbers (n + 1) (turns (4009 - (n + 1)) q)) y ∙ ap (λ t. t ++ left) e ∙ append_assoc so ((n, l) ∷ []) left
    ∙ ap (λ (k : DeckLine). so ++ ((n, k) ∷ left)) k ∙ ap (λ t. so ++ t) (sym (turns_next n x h)) ∙ w

pub turns_done : (so : List (ℕ × DeckLine)) (n x : ℕ) (whole : List (ℕ × DeckLine)) → 4009 ≤ n → so ++ with_numbers n (turns (4009 - n) x) ≡ whole → so ≡ whole
turns_done so n x whole h w =
    let e : 4009 - n ≡ 0 = omega (arith, h) in
    sym (append-nil so) ∙ sym (ap (λ k. so ++ with_numbers n (turns k x)) e) ∙ w

-- a line after others
pub inside_behind : (ls ks : List (ℕ × OwnedLine)) (n : ℕ) (l : OwnedLine) → ks ≡ ls ++ (n, l) ∷ [] → UnitWithin 3 l → AllByRecursion (λ l. UnitWithin 3 l.1) ls → AllByRecursion (λ (l : ℕ × OwnedLine). UnitWithin 3 l.1) ks
inside_behind ls ks n l e h a = rw e (all_more (λ (l : ℕ × OwnedLine). UnitWithin 3 l.1) ls (n, l) a h)

-- ---- the lines of a generated deck are those of a deck

-- a line that is valid at any place of a deck
abbrev GoodTurn : DeckLine → Type 0
GoodTurn l = GoodLine l × ((p : Bool) → Timely p l)

pick : (b : Bool) (x y : DeckLine) → GoodTurn x → GoodTurn y → GoodTurn (cond b x y)
pick true x y g h = g
pick false x y g h = h

fill_len : (b : Bool) → length (cond b opening_word (zeros 8)) ≡ 8
fill_len true = refl
fill_len false = refl

made_good : (aid code init : List ℕ) → 5 ≤ length aid → length aid ≤ 16 → 0 < length code → length code ≤ 8192 → length init ≤ 4096 → GoodUnit (made_unit aid code init)
made_good aid code init low high some short data_short = record {
  number = refl;
  limits = record { some_code = some; code_len = short; init_len = data_short; dir_len = omega (arith, high); fci_len = omega (arith, high) };
  name = made_name aid low high;
}

purse_good : GoodUnit purse
purse_good = made_good purse_aid purse.code purse.init (omega arith) (omega arith) (omega arith) (omega arith) (omega arith)

counter_good : GoodUnit counter
counter_good = made_good counter_aid counter.code counter.init (omega arith) (omega arith) (omega arith) (omega arith) (omega arith)

relay_good : GoodUnit relay
relay_good = made_good relay_aid relay.code relay.init (omega arith) (omega arith) (omega arith) (omega arith) (omega arith)

purse_line_good : (q : ℕ) → GoodTurn (purse_line q)
purse_line_good q =
    pick (q % 4 == 0) (Sent (Delete purse_aid)) (cond (q % 4 == 1) (Sent (Load purse 10 0)) Power) ((omega arith, omega arith), λ p. tt)
    (pick (q % 4 == 1) (Sent (Load purse 10 0)) Power ((purse_good, omega arith, omega arith), λ p. tt) (tt, λ p. tt))

cut_line_good : (q : ℕ) → GoodTurn (cut_line q)
cut_line_good q = (((omega arith, omega arith), fill_len (q / 12 % 2 == 1)), λ p. tt)

line_good : (r q : ℕ) → GoodTurn (line_of r q)
line_good r q =
    let power : GoodTurn Power = (tt, λ p. tt) in
    let count : GoodTurn (Sent (Apdu (0x80 ∷ 1 ∷ 0 ∷ 0 ∷ 2 ∷ []))) = (omega arith, λ p. tt) in
    let credit : GoodTurn (command 0x30 (bytes 4 q)) = (omega arith, λ p. tt) in
    let debit : GoodTurn (command 0x40 (bytes 4 q)) = (omega arith, λ p. tt) in
    let balance : GoodTurn (command 0x50 []) = (omega arith, λ p. tt) in
    let first : GoodTurn (Sent (Select counter_aid)) = ((omega arith, omega arith), λ p. tt) in
    let second : GoodTurn (Sent (Select relay_aid)) = ((omega arith, omega arith), λ p. tt) in
    let third : GoodTurn (Sent (Select purse_aid)) = ((omega arith, omega arith), λ p. tt) in
    pick (r % 16 == 0) _ _ first
    (pick (r % 16 == 1) _ _ second
    (pick (r % 16 == 2) _ _ third
    (pick (r % 16 == 3) _ _ power
    (pick (nat_lt (r % 16) 9) _ _ count
    (pick (nat_lt (r % 16) 11) _ _ credit
    (pick (nat_lt (r % 16) 13) _ _ debit
    (pick (r % 16 == 13) _ _ balance
    (pick (r % 16 == 14) _ _ (cut_line_good q) (purse_line_good q)))))))))

turns_good : (k x : ℕ) → AllByRecursion GoodTurn (turns k x)
turns_good zero x = tt
turns_good (suc k) x = (line_good (draw (next x)) (draw (next (next x))), turns_good k (next (next x)))

both_good : (ks ls : List DeckLine) → AllByRecursion GoodTurn ks → AllByRecursion GoodTurn ls → AllByRecursion GoodTurn (ks ++ ls)
both_good [] ls g h = h
both_good (k ∷ ks) ls g h = (g.0, both_good ks ls g.1 h)

good_ranges : (n : ℕ) (ls : List DeckLine) → AllByRecursion GoodTurn ls → AllByRecursion (λ (l : ℕ × DeckLine). GoodLine l.1) (with_numbers n ls)
good_ranges n [] g = tt
good_ranges n (l ∷ ls) g = ((g.0).0, good_ranges (suc n) ls g.1)

good_times : (p : Bool) (n : ℕ) (ls : List DeckLine) → AllByRecursion GoodTurn ls → OnTime p (with_numbers n ls)
good_times p n [] g = tt
good_times p n (l ∷ ls) g = ((g.0).1 p, good_times (is_powered_after_line p l) (suc n) ls g.1)

-- the lines after the first
abbrev behind_first : ℕ → List DeckLine
behind_first n = Power ∷ Named ∷ Named ∷ Named ∷ Sent (Load counter 2 0) ∷ Sent (Load purse 10 0) ∷ Sent (Load relay 6 0) ∷ (turns 4000 n ++ closing_lines)

behind_good : (n : ℕ) → AllByRecursion GoodTurn (behind_first n)
behind_good n =
    let dump : GoodTurn (Dump counter_aid) = ((omega arith, omega arith), λ p. tt) in
    let dump_second : GoodTurn (Dump purse_aid) = ((omega arith, omega arith), λ p. tt) in
    let dump_third : GoodTurn (Dump relay_aid) = ((omega arith, omega arith), λ p. tt) in
    let plain : GoodTurn Power = (tt, λ p. tt) in
    let named : GoodTurn Named = (tt, λ p. tt) in
    let first : GoodTurn (Sent (Load counter 2 0)) = ((counter_good, omega arith, omega arith), λ p. tt) in
    let second : GoodTurn (Sent (Load purse 10 0)) = ((purse_good, omega arith, omega arith), λ p. tt) in
    let third : GoodTurn (Sent (Load relay 6 0)) = ((relay_good, omega arith, omega arith), λ p. tt) in
    let dumps : AllByRecursion GoodTurn closing_lines = (plain, (dump, (dump_second, (dump_third, tt)))) in
    (plain, (named, (named, (named, (first, (second, (third, both_good (turns 4000 n) closing_lines (turns_good 4000 n) dumps)))))))

first_and_behind : (n : ℕ) → deck_of_number n ≡ (1, Format) ∷ with_numbers 2 (behind_first n)
unfolding deck_of_number
first_and_behind n = refl

pub generated_deck : (n : ℕ) → AreDeck (deck_of_number n)
generated_deck n = rw (first_and_behind n) (record {
  ranges = (tt, good_ranges 2 (behind_first n) (behind_good n));
  times = (refl, good_times false 2 (behind_first n) (behind_good n));
})
