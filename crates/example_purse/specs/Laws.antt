-- The three promises of the purse. A history has its newest event first.
use Rattle.std.specs.Prelude.{◌≡◌, ◌≢◌, ℕ, suc, ◌+◌, ◌%◌, ◌<◌, ◌≤◌, ◌⊎◌, Bool, true, false, List, [], ◌∷◌, length, take, drop, slice_index, Option, ⊤}
use Rattle.model_text.specs.model_device.specs.Bytes.{num}
use Rattle.model_text.specs.model_machine.specs.Apdu.{ApduParts}
use Rattle.model_text.specs.model_machine.specs.Blocks.{sub_blocks}
use Rattle.law_promise.specs.model_play.specs.DeckGrammar.{DeckLine}
use Rattle.law_promise.specs.model_play.specs.Play.{FailedWrite, Step, plays, start}
use Rattle.law_promise.specs.Along.{Along, OnFixed, OnAnswer, command_for}
use Rattle.law_promise.specs.Found.{AlongFrom}
use Rattle.example_purse.specs.Purse.{Event, Commanded, Right, Wrong, Tries, Debited, Selected, Ended, purse_name, purse_app, purse_watch}

-- ---- guesses

-- of bytes, a comparison sets Z just where they are the same
abbrev pub RightLaw : Type 0
RightLaw =
    (p q x y : ℕ) → p < 256 → q < 256 → x < 256 → y < 256
    → ((sub_blocks (p ∷ q ∷ []) (x ∷ y ∷ [])).z ≡ true → (x ≡ p) × (y ≡ q)) × ((x ≡ p) → (y ≡ q) → (sub_blocks (p ∷ q ∷ []) (x ∷ y ∷ [])).z ≡ true)

-- the wrong comparisons since the last right one
abbrev pub wrong_since : List Event → ℕ
wrong_since [] = 0
wrong_since (Right direct ∷ h) = 0
wrong_since (Wrong ∷ h) = suc (wrong_since h)
wrong_since (_ ∷ h) = wrong_since h

-- between two right comparisons, and before the first one, there are at most three wrong ones
abbrev pub AtMostThree : List Event → Type 0
AtMostThree [] = ⊤
AtMostThree (e ∷ h) = (wrong_since (e ∷ h) ≤ 3) × AtMostThree h

-- the tries left: three of a new purse, and then what they were last changed to
abbrev pub tries_left : List Event → ℕ
tries_left [] = 3
tries_left (Tries left ∷ h) = left
tries_left (_ ∷ h) = tries_left h

-- the newest event is that one try was taken
abbrev pub JustTook : List Event → Type 0
JustTook (Tries left ∷ h) = suc left ≡ tries_left h
JustTook _ = ⊥

-- the newest event is a right comparison
abbrev pub JustRight : List Event → Type 0
JustRight (Right direct ∷ h) = ⊤
JustRight _ = ⊥

-- Each comparison, right or wrong, costs a try that was taken just before it. Tries are taken one at a time, and
-- three are there again only just after a right comparison.
abbrev pub EachCostsATry : List Event → Type 0
EachCostsATry [] = ⊤
EachCostsATry (Right direct ∷ h) = JustTook h × EachCostsATry h
EachCostsATry (Wrong ∷ h) = JustTook h × EachCostsATry h
EachCostsATry (Tries left ∷ h) = ((suc left ≡ tries_left h) ⊎ ((left ≡ 3) × JustRight h)) × EachCostsATry h
EachCostsATry (_ ∷ h) = EachCostsATry h

-- So it is. No PIN is compared without a try in static byte 2: it holds the tries left, of which each comparison costs
-- one; it never has more than 3 less what was wrong since; and the PIN is 1234.
pub record KeepsGuesses (h : List Event) (fixed : List ℕ) : Type 0 where
  pub few : AtMostThree h
  pub left : slice_index fixed 2 ≡ tries_left h
  pub costs : EachCostsATry h
  pub tries : slice_index fixed 2 + wrong_since h ≤ 3
  pub pin : take 2 (drop 3 fixed) ≡ 0x12 ∷ 0x34 ∷ []

-- ---- books

-- the amounts of the durable debits
abbrev pub sum_of_debits : List Event → ℕ
sum_of_debits [] = 0
sum_of_debits (Debited direct amount ∷ h) = amount + sum_of_debits h
sum_of_debits (_ ∷ h) = sum_of_debits h

-- the number of durable debits
abbrev pub number_of_debits : List Event → ℕ
number_of_debits [] = 0
number_of_debits (Debited direct amount ∷ h) = suc (number_of_debits h)
number_of_debits (_ ∷ h) = number_of_debits h

-- a command orders a debit of this amount: its INS is 40, and its data are the amount in two bytes
pub record Orders (ins : ℕ) (body : List ℕ) (amount : ℕ) : Type 0 where
  pub is_debit : ins ≡ 0x40
  pub has_two : length body ≡ 2
  pub pays : num body ≡ amount

-- The newest event is a command that orders a debit of this amount. (A command of bytes has at most 1,024 bytes of
-- data, and its INS is below 256.)
abbrev pub JustOrdered : ℕ → List Event → Type 0
JustOrdered amount (Commanded ins body ∷ h) = length body ≤ 1024 → ins < 256 → Orders ins body amount
JustOrdered amount _ = ⊥

-- each durable debit was made just after the command that orders it, so that no command makes two, and no other
-- command one
abbrev pub EachIsOrdered : List Event → Type 0
EachIsOrdered [] = ⊤
EachIsOrdered (Debited direct amount ∷ h) = JustOrdered amount h × EachIsOrdered h
EachIsOrdered (_ ∷ h) = EachIsOrdered h

-- The balance is 1,000 less the amounts of the durable debits, the number of debits is theirs, modulo 65,536, and
-- each of them is the one that its command orders.
pub record KeepsBooks (h : List Event) (fixed : List ℕ) : Type 0 where
  pub balance : num (take 2 fixed) + sum_of_debits h ≡ 1000
  pub number : num (take 2 (drop 5 fixed)) ≡ number_of_debits h % 65536
  pub ordered : EachIsOrdered h

-- A debit that is answered with 9000 is durable, with the amount of its data; one that is answered with another
-- status is not made.
pub record AnswersDebit (before after : List Event) (a : ApduParts) (sw : ℕ) : Type 0 where
  pub durable : length a.body ≤ 1024 → a.ins ≡ 0x40 → sw ≡ 0x9000 → after ≡ Debited true (num a.body) ∷ Commanded a.ins a.body ∷ before
  pub refused : length a.body ≤ 1024 → a.ins ≡ 0x40 → sw ≢ 0x9000 → after ≡ Commanded a.ins a.body ∷ before

-- ---- sessions

-- the PIN was shown since the last selection, with no end of a session between
abbrev pub is_shown : List Event → Bool
is_shown [] = false
is_shown (Right direct ∷ h) = direct
is_shown (Selected ∷ h) = false
is_shown (Ended ∷ h) = false
is_shown (_ ∷ h) = is_shown h

-- each durable debit was made in a session in which the PIN was shown before it, and none by delegation
abbrev pub KeepsSessions : List Event → Type 0
KeepsSessions [] = ⊤
KeepsSessions (Debited direct amount ∷ h) = (direct ≡ true) × (is_shown h ≡ true) × KeepsSessions h
KeepsSessions (_ ∷ h) = KeepsSessions h

-- ---- the laws: for every deck, every image and every list of failed writes, along the whole play

-- what holds along every play in which each application that comes under the purse's name is the purse
abbrev pub InEveryPlay : (List Event → Step → List Event → Type 0) → Type 0
InEveryPlay says =
    (ls : List (ℕ × DeckLine)) (m : List (List ℕ)) (ws : List (Option FailedWrite)) → Along purse_watch purse_app says [] (plays (start m) ls ws)

-- a PIN is guessed with at most three tries
abbrev pub SaysGuesses : List Event → Step → List Event → Type 0
SaysGuesses before t after = OnFixed purse_name (KeepsGuesses after) t.after

-- balance and number are those of the durable debits, each of them ordered, and the answers say which are
abbrev pub SaysBooks : List Event → Step → List Event → Type 0
SaysBooks before t after =
    OnFixed purse_name (KeepsBooks after) t.after × OnAnswer (AnswersDebit before after) (command_for purse_name t.before t.line) t.result

-- no debit without the PIN, and none by delegation
abbrev pub SaysSessions : List Event → Step → List Event → Type 0
SaysSessions before t after = OnFixed purse_name (λ fixed. KeepsSessions after) t.after

-- the three laws
abbrev pub GuessesLaw : Type 0
GuessesLaw = InEveryPlay SaysGuesses

-- the law of balance and number
abbrev pub BooksLaw : Type 0
BooksLaw = InEveryPlay SaysBooks

-- the law of sessions
abbrev pub SessionsLaw : Type 0
SessionsLaw = InEveryPlay SaysSessions

-- ---- from a history

-- the seven static bytes of a purse whose history this is
pub record Begins (h : List Event) (fixed : List ℕ) : Type 0 where
  pub size : length fixed ≡ 7
  pub guesses : KeepsGuesses h fixed
  pub books : KeepsBooks h fixed
  pub sessions : KeepsSessions h

-- what holds along every play, from any history that a purse on the first card begins with, and in which each
-- application that comes under its name is the purse
abbrev pub InEveryPlayFrom : (List Event → Step → List Event → Type 0) → Type 0
InEveryPlayFrom says =
    (h : List Event) (ls : List (ℕ × DeckLine)) (m : List (List ℕ)) (ws : List (Option FailedWrite)) → AlongFrom purse_watch purse_app Begins says h (plays (start m) ls ws)
