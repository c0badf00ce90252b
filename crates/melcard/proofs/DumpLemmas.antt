-- After the first dump line of a generated deck there are only dump lines.
use Rattle.std.proofs.Common.{◌≡◌, ◌==◌, ◌%◌, ℕ, zero, suc, Bool, true, false, cond, List, [], ◌∷◌, ◌++◌, refl, sym, subst, ◌∙◌, true≢false, nat_lt}
use Rattle.std.specs.List.{AllByRecursion}
use Rattle.mc_base.specs.mc_words.specs.model_device.specs.Bytes.{bytes}
use Rattle.mc_text.specs.model_text.specs.Text.{with_numbers}
use Rattle.mc_deck.specs.model_play.specs.DeckGrammar.{DeckLine, Power, Sent, Load, Select, Delete, Apdu}
use Rattle.mc_deck.specs.model_play.specs.Generator.{closing_lines, command, counter_aid, cut_line, draw, deck_of_number, is_dump, line_of, next, opening_lines, purse, purse_aid, purse_line, relay_aid, turns}
use Rattle.mc_script.specs.Sums.{DumpsLast}

-- ---- the turns have no dump line

-- one of two lines
pick : (b : Bool) (x y : DeckLine) → is_dump x ≡ false → is_dump y ≡ false → is_dump (cond b x y) ≡ false
pick true x y g h = g
pick false x y g h = h

purse_none : (q : ℕ) → is_dump (purse_line q) ≡ false
purse_none q = pick (q % 4 == 0) (Sent (Delete purse_aid)) (cond (q % 4 == 1) (Sent (Load purse 10 0)) Power) refl (pick (q % 4 == 1) (Sent (Load purse 10 0)) Power refl refl)

line_none : (r q : ℕ) → is_dump (line_of r q) ≡ false
line_none r q =
    pick (r % 16 == 0) (Sent (Select counter_aid)) _ refl
    (pick (r % 16 == 1) (Sent (Select relay_aid)) _ refl
    (pick (r % 16 == 2) (Sent (Select purse_aid)) _ refl
    (pick (r % 16 == 3) Power _ refl
    (pick (nat_lt (r % 16) 9) (Sent (Apdu (0x80 ∷ 1 ∷ 0 ∷ 0 ∷ 2 ∷ []))) _ refl
    (pick (nat_lt (r % 16) 11) (command 0x30 (bytes 4 q)) _ refl
    (pick (nat_lt (r % 16) 13) (command 0x40 (bytes 4 q)) _ refl
    (pick (r % 16 == 13) (command 0x50 []) _ refl
    (pick (r % 16 == 14) (cut_line q) (purse_line q) refl (purse_none q)))))))))

turns_none : (k x : ℕ) → AllByRecursion (λ l. is_dump l ≡ false) (turns k x)
turns_none zero x = tt
turns_none (suc k) x = (line_none (draw (next x)) (draw (next (next x))), turns_none k (next (next x)))

-- ---- the deck

-- lines that are not dump lines, before others
before : (m : ℕ) (ks ls : List DeckLine) → AllByRecursion (λ l. is_dump l ≡ false) ks → ((n : ℕ) → DumpsLast (with_numbers n ls)) → DumpsLast (with_numbers m (ks ++ ls))
before m [] ls none last = last m
before m (k ∷ ks) ls none last = (λ is. absurd (true≢false (sym is ∙ none.0)), before (suc m) ks ls none.1 last)

closing_last : (n : ℕ) → DumpsLast (with_numbers n closing_lines)
closing_last n = (λ is. (refl, (refl, (refl, tt))), (λ is. (refl, (refl, tt)), (λ is. (refl, tt), (λ is. tt, tt))))

opening_none : AllByRecursion (λ l. is_dump l ≡ false) opening_lines
opening_none = (refl, (refl, (refl, (refl, (refl, (refl, (refl, (refl, tt))))))))

deck_last : (k n : ℕ) → DumpsLast (with_numbers 1 (opening_lines ++ turns k n ++ closing_lines))
deck_last k n = before 1 opening_lines (turns k n ++ closing_lines) opening_none (λ m. before m (turns k n) closing_lines (turns_none k n) closing_last)

generated_is : (n : ℕ) → deck_of_number n ≡ with_numbers 1 (opening_lines ++ turns 4000 n ++ closing_lines)
unfolding deck_of_number
generated_is n = refl

pub generated_last : (ls : List (ℕ × DeckLine)) (n : ℕ) → ls ≡ deck_of_number n → DumpsLast ls
generated_last ls n e = subst (λ (ls : List (ℕ × DeckLine)). DumpsLast ls) (sym (e ∙ generated_is n)) (deck_last 4000 n)
