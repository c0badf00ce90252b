-- The lines of the generated deck carry bytes.
use Rattle.std.proofs.Common.{◌≡◌, ℕ, zero, suc, ◌+◌, ◌/◌, ◌%◌, ◌^◌, ◌<◌, Bool, true, false, cond, List, [], ◌∷◌, ◌++◌, arith, refl}
use Rattle.std.specs.Prelude.{nat_lt, ◌==◌}
use Rattle.std.specs.List.{AllByRecursion}
use Rattle.std.proofs.lemmas.Bool.{and_parts, ltb-true}
use Rattle.model_play.specs.model_device.specs.Bytes.{AreBytes, bytes}
use Rattle.model_play.specs.model_text.specs.Text.{with_numbers, every}
use Rattle.model_play.specs.DeckGrammar.{DeckLine, Power, Sent, Load, Select, Delete, Apdu}
use Rattle.model_play.specs.Generator.{command, next, draw, turns, line_of, opening_lines, closing_lines, cut_line, purse_line, deck_of_number, counter, purse, relay, counter_aid, purse_aid, relay_aid}
use Rattle.model_play.specs.ReadyAgain.{IsLine}
use Rattle.model_play.specs.model_device.proofs.ImageLemmas.{all_append}

-- numbers that are all computed to be below 256
low : (l : List ℕ) → every (λ b. nat_lt b 256) l ≡ true → AreBytes l
low [] h = tt
low (b ∷ l) h = let both = and_parts (nat_lt b 256) (every (λ b. nat_lt b 256) l) h in (ltb-true b 256 both.0, low l both.1)

remainder : (n : ℕ) → n % 256 < 256
remainder n = omega arith

number_bytes : (n v : ℕ) → AreBytes (bytes n v)
number_bytes zero v = tt
number_bytes (suc n) v = (remainder (v / 256 ^ n), number_bytes n v)

loads_counter : IsLine (Sent (Load counter 2 0))
loads_counter = (low counter.code refl, low counter.init refl, low counter.dir refl, low counter.fci refl)

loads_purse : IsLine (Sent (Load purse 10 0))
loads_purse = (low purse.code refl, low purse.init refl, low purse.dir refl, low purse.fci refl)

loads_relay : IsLine (Sent (Load relay 6 0))
loads_relay = (low relay.code refl, low relay.init refl, low relay.dir refl, low relay.fci refl)

commands : (ins : ℕ) (number : List ℕ) → ins < 256 → AreBytes number → IsLine (command ins number)
commands ins number h k = (omega arith, (h, (omega arith, (omega arith, (omega arith, k)))))

pick : (b : Bool) (x y : DeckLine) → IsLine x → IsLine y → IsLine (cond b x y)
pick true x y g h = g
pick false x y g h = h

purse_line_bytes : (q : ℕ) → IsLine (purse_line q)
purse_line_bytes q = pick (q % 4 == 0) (Sent (Delete purse_aid)) (cond (q % 4 == 1) (Sent (Load purse 10 0)) Power) (low purse_aid refl) (pick (q % 4 == 1) (Sent (Load purse 10 0)) Power loads_purse tt)

line_bytes : (r q : ℕ) → IsLine (line_of r q)
line_bytes r q =
    pick (r % 16 == 0) (Sent (Select counter_aid)) _ (low counter_aid refl)
    (pick (r % 16 == 1) (Sent (Select relay_aid)) _ (low relay_aid refl)
    (pick (r % 16 == 2) (Sent (Select purse_aid)) _ (low purse_aid refl)
    (pick (r % 16 == 3) Power _ tt
    (pick (nat_lt (r % 16) 9) (Sent (Apdu (0x80 ∷ 1 ∷ 0 ∷ 0 ∷ 2 ∷ []))) _ (low (0x80 ∷ 1 ∷ 0 ∷ 0 ∷ 2 ∷ []) refl)
    (pick (nat_lt (r % 16) 11) (command 0x30 (bytes 4 q)) _ (commands 0x30 (bytes 4 q) (omega arith) (number_bytes 4 q))
    (pick (nat_lt (r % 16) 13) (command 0x40 (bytes 4 q)) _ (commands 0x40 (bytes 4 q) (omega arith) (number_bytes 4 q))
    (pick (r % 16 == 13) (command 0x50 []) _ (commands 0x50 [] (omega arith) tt)
    (pick (r % 16 == 14) (cut_line q) (purse_line q) tt (purse_line_bytes q)))))))))

turns_bytes : (k x : ℕ) → AllByRecursion IsLine (turns k x)
turns_bytes zero x = tt
turns_bytes (suc k) x = (line_bytes (draw (next x)) (draw (next (next x))), turns_bytes k (next (next x)))

all_numbered : (n : ℕ) (ls : List DeckLine) → AllByRecursion IsLine ls → AllByRecursion (λ (l : ℕ × DeckLine). IsLine l.1) (with_numbers n ls)
all_numbered n [] h = tt
all_numbered n (l ∷ ls) h = (h.0, all_numbered (suc n) ls h.1)

pub generated_bytes : (n : ℕ) → AllByRecursion (λ (l : ℕ × DeckLine). IsLine l.1) (deck_of_number n)
unfolding deck_of_number
generated_bytes n =
    let first : AllByRecursion IsLine opening_lines = (tt, (tt, (tt, (tt, (tt, (loads_counter, (loads_purse, (loads_relay, tt)))))))) in
    let last : AllByRecursion IsLine closing_lines = (tt, (tt, (tt, (tt, tt)))) in
    all_numbered 1 (opening_lines ++ turns 4000 n ++ closing_lines) (all_append IsLine (opening_lines ++ turns 4000 n) closing_lines (all_append IsLine opening_lines (turns 4000 n) first (turns_bytes 4000 n)) last)
