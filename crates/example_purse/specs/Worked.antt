-- The three promises as tests, and decks of the purse and of wrong purses, whose plays are computed.
use Rattle.std.specs.Prelude.{ℕ, ◌+◌, ◌%◌, Bool, true, false, ◌&&◌, ◌||◌, nat_le, ◌==◌, List, [], ◌∷◌, ◌++◌, length, take, drop, slice_index, codes, Result, Ok, Err}
use Rattle.model_text.specs.model_device.specs.Bytes.{num}
use Rattle.model_text.specs.declared.assembler.AsmCause.{AsmCause}
use Rattle.model_text.specs.Assembly.{assembly_of}
use Rattle.model_text.specs.model_device.specs.Card.{App}
use Rattle.example_purse.specs.Purse.{Event, Commanded, Right, Wrong, Tries, Debited, purse_app, purse_text}
use Rattle.example_purse.specs.Laws.{wrong_since, tries_left, sum_of_debits, number_of_debits, is_shown}

-- ---- the promises as tests

-- at most three wrong comparisons in turn
abbrev pub is_at_most_three : List Event → Bool
is_at_most_three [] = true
is_at_most_three (e ∷ h) = nat_le (wrong_since (e ∷ h)) 3 && is_at_most_three h

-- the promise on guesses
abbrev pub keeps_guesses : List Event → List ℕ → Bool
keeps_guesses h fixed = is_at_most_three h && nat_le (slice_index fixed 2 + wrong_since h) 3

-- a try was just taken
abbrev pub takes_a_try : List Event → Bool
takes_a_try (Tries left ∷ h) = left + 1 == tries_left h
takes_a_try _ = false

-- the PIN was just compared, and was right
abbrev pub is_just_right : List Event → Bool
is_just_right (Right direct ∷ h) = true
is_just_right _ = false

-- each comparison costs a try
abbrev pub costs_tries : List Event → Bool
costs_tries [] = true
costs_tries (Right direct ∷ h) = takes_a_try h && costs_tries h
costs_tries (Wrong ∷ h) = takes_a_try h && costs_tries h
costs_tries (Tries left ∷ h) = (left + 1 == tries_left h || left == 3 && is_just_right h) && costs_tries h
costs_tries (_ ∷ h) = costs_tries h

-- the newest event is a command that orders a debit of this amount
abbrev pub is_just_ordered : ℕ → List Event → Bool
is_just_ordered amount (Commanded ins body ∷ h) = ins == 0x40 && length body == 2 && num body == amount
is_just_ordered amount _ = false

-- each debit is the one that its command orders
abbrev pub are_ordered : List Event → Bool
are_ordered [] = true
are_ordered (Debited direct amount ∷ h) = is_just_ordered amount h && are_ordered h
are_ordered (_ ∷ h) = are_ordered h

-- the promise on balance and number
abbrev pub keeps_balance : List Event → List ℕ → Bool
keeps_balance h fixed = num (take 2 fixed) + sum_of_debits h == 1000 && num (take 2 (drop 5 fixed)) == number_of_debits h % 65536

-- the promise on sessions
abbrev pub keeps_sessions : List Event → Bool
keeps_sessions [] = true
keeps_sessions (Debited direct amount ∷ h) = direct && is_shown h && keeps_sessions h
keeps_sessions (_ ∷ h) = keeps_sessions h

-- ---- decks

-- a deck that loads an application with a text under the purse's name and selects it, and then has these lines
abbrev pub deck_with : List ℕ → List ℕ → List ℕ
deck_with text rest =
    codes "format\npower\napp purse A000000100\n" ++ text ++ codes "DATA 03E80312340000\nend\nload purse 7 1\nselect A000000100\n" ++ rest

-- where a command comes in, in each of the texts below
abbrev pub head_text : List ℕ
head_text = codes " CMPB PT[-12],0x20\n JUMP EQ,show\n CMPB PT[-12],0x40\n JUMP EQ,debit\n EXITSW 0x6D00\n"

-- a debit that is right
abbrev pub debit_text : List ℕ
debit_text =
    codes "debit: CMPB DB[0],1\n JUMP NE,denied\n LOAD PB[0],2\n CMPN SB[0],2\n JUMP LT,denied\n PRIM 3,2\n SUBN SB[0],2\n POPN 2\n INCN SB[5],2\n PRIM 3,1\n EXIT\n"
    ++ codes "denied: EXITSW 0x6982\n"

-- a PIN that is looked at rightly
abbrev pub show_text : List ℕ
show_text =
    codes "show: TESTN SB[2],1\n JUMP EQ,denied\n DECN SB[2],1\n LOAD PB[0],2\n CMPN SB[3],2\n POPN 2\n JUMP NE,denied\n SETB SB[2],3\n SETB DB[0],1\n EXIT\n"

-- the try is counted after the comparison
abbrev pub late_try : List ℕ
late_try =
    head_text
    ++ codes "show: TESTN SB[2],1\n JUMP EQ,denied\n LOAD PB[0],2\n CMPN SB[3],2\n POPN 2\n JUMP NE,wrong\n SETB SB[2],3\n SETB DB[0],1\n EXIT\n"
    ++ codes "wrong: DECN SB[2],1\n EXITSW 0x6982\n" ++ debit_text

-- the tries are set back before the comparison
abbrev pub early_reset : List ℕ
early_reset =
    head_text
    ++ codes "show: TESTN SB[2],1\n JUMP EQ,denied\n DECN SB[2],1\n SETB SB[2],3\n LOAD PB[0],2\n CMPN SB[3],2\n POPN 2\n JUMP NE,denied\n SETB DB[0],1\n EXIT\n"
    ++ debit_text

-- balance and number are not written as one
abbrev pub unprotected : List ℕ
unprotected =
    head_text ++ show_text
    ++ codes "debit: CMPB DB[0],1\n JUMP NE,denied\n LOAD PB[0],2\n CMPN SB[0],2\n JUMP LT,denied\n SUBN SB[0],2\n POPN 2\n INCN SB[5],2\n EXIT\ndenied: EXITSW 0x6982\n"

-- the session byte is set before the PIN is looked at
abbrev pub early_session : List ℕ
early_session =
    head_text
    ++ codes "show: TESTN SB[2],1\n JUMP EQ,denied\n DECN SB[2],1\n SETB DB[0],1\n LOAD PB[0],2\n CMPN SB[3],2\n POPN 2\n JUMP NE,denied\n SETB SB[2],3\n EXIT\n"
    ++ debit_text

-- The amount is read again after the comparison, over a delegation: what is called may change the public segment. Its
-- name follows the seven static bytes.
abbrev pub reads_again : List ℕ
reads_again =
    head_text ++ show_text
    ++ codes "debit: CMPB DB[0],1\n JUMP NE,denied\n LOAD PB[0],2\n CMPN SB[0],2\n POPN 2\n JUMP LT,denied\n LOADA SB[7]\n PRIM 7\n"
    ++ codes " LOAD PB[0],2\n PRIM 3,2\n SUBN SB[0],2\n POPN 2\n INCN SB[5],2\n PRIM 3,1\n EXIT\ndenied: EXITSW 0x6982\n"

-- a deck with it, and with an application that asks for more than there is
abbrev pub two_firms : List ℕ
two_firms =
    codes "format\npower\napp purse A000000100\n" ++ reads_again ++ codes "DATA 03E8031234000005A000000200\nend\n"
    ++ codes "app other A000000200\n SETW PB[0],0xFFFF\n EXIT\nend\nload purse 13 1\nload other 0 0\nselect A000000100\n"
    ++ codes "apdu 80200000021234\napdu 80400000020064\n"

-- the purse's own play: a debit without the PIN, the PIN, debits, and cuts in a showing and in debits
abbrev pub own_deck : List ℕ
own_deck =
    deck_with purse_text (
    codes "apdu 80400000020064\napdu 80200000021234\napdu 8040000002006402\napdu 8040000002FFFF02\ncut 3 FFFFFFFFFFFFFFFF\napdu 8040000002006402\npower\n"
    ++ codes "select A000000100\napdu 80200000020000\napdu 80200000021234\ncut 5 FFFFFFFFFFFFFFFF\napdu 8040000002006402\npower\n"
    ++ codes "select A000000100\napdu 80200000020000\ncut 2 FFFFFFFFFFFFFFFF\napdu 80200000020000\npower\nselect A000000100\napdu 80200000020000\n"
    )

-- four wrong PINs, each cut off before its try is spent
abbrev pub late_try_deck : List ℕ
late_try_deck =
    deck_with late_try (
    codes "cut 1 FFFFFFFFFFFFFFFF\napdu 80200000020000\npower\nselect A000000100\ncut 1 FFFFFFFFFFFFFFFF\napdu 80200000020001\npower\nselect A000000100\n"
    ++ codes "cut 1 FFFFFFFFFFFFFFFF\napdu 80200000020002\npower\nselect A000000100\ncut 1 FFFFFFFFFFFFFFFF\napdu 80200000020003\n"
    )

-- four wrong PINs
abbrev pub early_reset_deck : List ℕ
early_reset_deck = deck_with early_reset (codes "apdu 80200000020000\napdu 80200000020001\napdu 80200000020002\napdu 80200000020003\n")

-- a debit that is cut between its two writes
abbrev pub unprotected_deck : List ℕ
unprotected_deck = deck_with unprotected (codes "apdu 80200000021234\ncut 8 FFFFFFFFFFFFFFFF\napdu 80400000020064\n")

-- a wrong PIN and a debit
abbrev pub early_session_deck : List ℕ
early_session_deck = deck_with early_session (codes "apdu 80200000020000\napdu 80400000020064\n")

-- ---- the applications of the texts

-- the code of a text
abbrev pub code_of : Result (List ℕ) (ℕ × AsmCause) → List ℕ
code_of (Ok c) = c
code_of (Err e) = []

-- the purse with another code
abbrev pub app_of : List ℕ → App
app_of text = record purse_app { code = code_of (assembly_of text) }

-- and with a name that follows its static bytes
abbrev pub app_with_name : List ℕ → App
app_with_name text = record purse_app { code = code_of (assembly_of text); fixed = purse_app.fixed ++ 0x05 ∷ 0xA0 ∷ 0 ∷ 0 ∷ 2 ∷ 0 ∷ [] }
