-- A counter that never falls, as an example of the rule: its text, its code, what is counted of it, and what it
-- promises.
use Rattle.std.specs.Prelude.{◌≡◌, ◌≢◌, ℕ, suc, ◌+◌, ◌<◌, ◌≤◌, Bool, true, ◌&&◌, ◌==◌, List, [], ◌∷◌, ◌++◌, length, codes, Option, Some, None, ⊤}
use Rattle.model_events.specs.model_device.specs.Bytes.{num}
use Rattle.model_events.specs.model_device.specs.Card.{App}
use Rattle.model_events.specs.model_machine.specs.Apdu.{ApduParts}
use Rattle.law_bytes.specs.model_play.specs.DeckGrammar.{DeckLine}
use Rattle.law_bytes.specs.model_play.specs.Play.{FailedWrite, plays, start}
use Rattle.model_events.specs.Deeds.{Deed, Watch}
use Rattle.law_promise.specs.Along.{Along, OnFixed, OnAnswer, command_for}
use Rattle.law_promise.specs.Found.{AlongFrom}

-- its name
abbrev pub counter_name : List ℕ
counter_name = 0xA0 ∷ 0 ∷ 0 ∷ 2 ∷ 0 ∷ []

-- its text: INS 10 counts one more and replies with the count, INS 12 replies with it; two static bytes hold it
abbrev pub counter_text : List ℕ
counter_text =
    codes "        CMPB PT[-12],0x10\n        JUMP EQ,count\n        CMPB PT[-12],0x12\n        JUMP EQ,read\n        EXITSW 0x6D00\n"
    ++ codes "count:  CMPW SB[0],0xFFFF       ; full?\n        JUMP EQ,full\n        INCN SB[0],2\n"
    ++ codes "read:   LOAD SB[0],2\n        STORE PB[0],2\n        EXITLA 2\nfull:   EXITSW 0x6985\n"

-- the code that the text is assembled to
abbrev pub counter_code : List ℕ
counter_code =
    0x77 ∷ 0x10 ∷ 0xFF ∷ 0xF4 ∷ 0x11 ∷ 0x00 ∷ 0x11 ∷ 0x77 ∷ 0x12 ∷ 0xFF ∷ 0xF4 ∷ 0x11 ∷ 0x00 ∷ 0x1D ∷ 0x05 ∷ 0x6D ∷ 0x00 ∷ 0x91 ∷ 0xFF ∷ 0xFF ∷ 0x00 ∷ 0x00
    ∷ 0x11 ∷ 0x00 ∷ 0x28 ∷ 0xB9 ∷ 0x02 ∷ 0x00 ∷ 0x00 ∷ 0x39 ∷ 0x02 ∷ 0x00 ∷ 0x00 ∷ 0x46 ∷ 0x02 ∷ 0x00 ∷ 0x00 ∷ 0x06 ∷ 0x00 ∷ 0x02 ∷ 0x05 ∷ 0x69 ∷ 0x85 ∷ []

-- the counter as it is created: the count is 0
abbrev pub counter_app : App
counter_app = record { code = counter_code; fixed = 0 ∷ 0 ∷ []; session = 0; deny = 0; dir = []; fci = []; place = 0 }

-- what is counted: each write of static bytes, with the count that it leaves
abbrev pub written_count : Option (List (ℕ × List ℕ)) → List ℕ → Option ℕ
written_count None fixed = None
written_count (Some ps) fixed = Some (num fixed)

-- the event of an instruction that was done
abbrev pub count_of : Deed → Option ℕ
count_of d = written_count d.effect.changes d.effect.frame.fixed

-- what is counted of the counter
abbrev pub counter_watch : Watch ℕ
counter_watch =
    record {
      name = counter_name;
      of_deed = count_of;
      of_abend = λ at cause. None;
      of_command = λ bytes a. None;
      of_answer = λ bytes outcome. None;
      of_selection = λ was. None;
      of_end = λ was. None;
    }

-- ---- what it promises

-- the newest count, and 0 before there is one
abbrev pub newest_count : List ℕ → ℕ
newest_count [] = 0
newest_count (v ∷ h) = v

-- each count is one more than the one before it
abbrev pub Rises : List ℕ → Type 0
Rises [] = ⊤
Rises (v ∷ h) = (v ≡ suc (newest_count h)) × Rises h

-- static bytes hold the newest count, which never fell
pub record KeepsCount (h : List ℕ) (fixed : List ℕ) : Type 0 where
  pub holds : num fixed ≡ newest_count h
  pub rises : Rises h

-- A count that is answered with 9000 is durable, and is one more; one that is answered with another status changes
-- nothing. (Data of a command of bytes are at most 1,024.)
pub record AnswersCount (before after : List ℕ) (a : ApduParts) (sw : ℕ) : Type 0 where
  pub durable : length a.body ≤ 1024 → a.ins ≡ 0x10 → sw ≡ 0x9000 → after ≡ suc (newest_count before) ∷ before
  pub refused : length a.body ≤ 1024 → a.ins ≡ 0x10 → sw ≢ 0x9000 → after ≡ before

-- the two static bytes of a counter whose history this is
pub record BeginsCount (h : List ℕ) (fixed : List ℕ) : Type 0 where
  pub size : length fixed ≡ 2
  pub small : num fixed < 65536
  pub keeps : KeepsCount h fixed

-- For every history, every deck, every image and every list of failed writes: along the whole play of a card that has no
-- counter, or one whose bytes begin with this history.
abbrev pub CounterFromLaw : Type 0
CounterFromLaw =
    (h : List ℕ) (ls : List (ℕ × DeckLine)) (m : List (List ℕ)) (ws : List (Option FailedWrite))
    → AlongFrom counter_watch counter_app BeginsCount (λ before t after. OnFixed counter_name (KeepsCount after) t.after × OnAnswer (AnswersCount before after) (command_for counter_name t.before t.line) t.result) h
    (plays (start m) ls ws)

-- for every deck, every image and every list of failed writes, along the whole play
abbrev pub CounterLaw : Type 0
CounterLaw =
    (ls : List (ℕ × DeckLine)) (m : List (List ℕ)) (ws : List (Option FailedWrite))
    → Along counter_watch counter_app (λ before t after. OnFixed counter_name (KeepsCount after) t.after × OnAnswer (AnswersCount before after) (command_for counter_name t.before t.line) t.result) []
    (plays (start m) ls ws)

-- ---- computed plays

-- each count is one more than the one before it
abbrev pub is_rising : List ℕ → Bool
is_rising [] = true
is_rising (v ∷ h) = v == newest_count h + 1 && is_rising h

-- what the counter keeps, as a test
abbrev pub keeps_count : List ℕ → List ℕ → Bool
keeps_count h fixed = num fixed == newest_count h && is_rising h

-- a deck that loads an application with a text under the counter's name and selects it, and then has these lines
abbrev pub counter_deck : List ℕ → List ℕ → List ℕ
counter_deck text rest = codes "format\npower\napp counter A000000200\n" ++ text ++ codes "end\nload counter 2 0\nselect A000000200\n" ++ rest

-- three counts, one of them cut before it is durable and one after it, and a reading
abbrev pub three_counts : List ℕ
three_counts =
    codes "apdu 8010000002\ncut 3 FFFFFFFFFFFFFFFF\napdu 8010000002\npower\nselect A000000200\n"
    ++ codes "cut 5 FFFFFFFFFFFFFFFF\napdu 8010000002\npower\nselect A000000200\napdu 8012000002\n"

-- a counter that can be set back
abbrev pub set_back : List ℕ
set_back =
    codes " CMPB PT[-12],0x10\n JUMP EQ,count\n SETW SB[0],0\n EXIT\ncount: INCN SB[0],2\n EXIT\n"

-- the counter with two counts, as a card holds it
abbrev pub found_counter : App
found_counter = record counter_app { fixed = 0 ∷ 2 ∷ [] }

-- two counts on a card that holds it, of which the first is cut after it is durable
abbrev pub two_more : List ℕ
two_more =
    codes "power\nselect A000000200\ncut 5 FFFFFFFFFFFFFFFF\napdu 8010000002\npower\nselect A000000200\napdu 8010000002\n"
