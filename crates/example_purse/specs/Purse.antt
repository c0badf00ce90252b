-- The purse: its text and its code, what it is on a card, and what is counted of it.
use Rattle.std.specs.Prelude.{ℕ, Bool, true, false, cond, not, ◌&&◌, ◌==◌, ℤ, pos, negsuc, List, [], ◌∷◌, ◌++◌, take, drop, slice_index, bytes_eq, Option, Some, None}
use Rattle.model_text.specs.model_machine.specs.declared.instruction.Ins.{Ins}
use Rattle.model_text.specs.model_machine.specs.declared.instruction.Ins.TheVariants as ins
use Rattle.model_text.specs.model_device.specs.Bytes.{num}
use Rattle.model_text.specs.model_device.specs.Card.{App}
use Rattle.law_promise.specs.model_events.specs.Deeds.{Deed, Watch}
use Rattle.example_purse.specs.declared.purse.TheConstants.{CODE, TEXT}

-- its name
abbrev pub purse_name : List ℕ
purse_name = 0xA0 ∷ 0 ∷ 0 ∷ 1 ∷ 0 ∷ []

-- Its text. Static bytes: 0 balance (2), 2 tries left (1), 3 PIN (2), 5 number of debits (2). Session: byte 0 is 1
-- once the PIN was shown.
abbrev pub purse_text : List ℕ
purse_text = TEXT.now

-- the code that the text is assembled to
abbrev pub purse_code : List ℕ
purse_code = CODE

-- the purse as it is created: balance 1,000, three tries, PIN 1234, no debit; one session byte
abbrev pub purse_app : App
purse_app =
    record {
      code = purse_code;
      fixed = 0x03 ∷ 0xE8 ∷ 3 ∷ 0x12 ∷ 0x34 ∷ 0 ∷ 0 ∷ [];
      session = 1;
      deny = 0;
      dir = [];
      fci = [];
      place = 0;
    }

-- ---- what is counted

-- a command to the purse as the selected application; a right and a wrong comparison of a PIN; a change of the tries
-- left, to this number; a debit; a selection of the purse; and the end of a session; `direct` if the selection began
-- the frame, and not a delegation
pub data Event : Type 0 where
  Commanded : (ins : ℕ) (body : List ℕ) → Event
  Right : (direct : Bool) → Event
  Wrong : Event
  Tries : (left : ℕ) → Event
  Debited : (direct : Bool) (amount : ℕ) → Event
  Selected : Event
  Ended : Event

-- an offset is 3
abbrev pub is_three : ℤ → Bool
is_three (pos n) = n == 3
is_three (negsuc n) = false

-- an instruction that compares two bytes with static bytes 3 and 4, which hold the PIN
abbrev pub compares_pin : Ins → Bool
compares_pin (ins.Cmpn tag off n) = tag == 1 && is_three off && n == 2
compares_pin _ = false

-- a comparison is right where it finds no difference, which sets Z
abbrev pub comparison : Bool → Bool → Event
comparison true direct = Right direct
comparison false direct = Wrong

-- the balance and the number of debits in static bytes
abbrev pub money : List ℕ → List ℕ
money fixed = take 2 fixed ++ drop 5 fixed

-- the money in static bytes is another than before
abbrev pub moves_money : Deed → Bool
moves_money d = not (bytes_eq (money d.frame.fixed) (money d.effect.frame.fixed))

-- the amount that a command carries: the number in the first two bytes of its data
abbrev pub amount_of : Deed → ℕ
amount_of d = num (take 2 d.public)

-- the tries in static bytes are another number than before
abbrev pub changes_tries : Deed → Bool
changes_tries d = not (slice_index d.frame.fixed 2 == slice_index d.effect.frame.fixed 2)

-- the event of an instruction that was done: a comparison of the PIN, a change of balance or number, which is a
-- debit, or one of the tries
abbrev pub event_of : Deed → Option Event
event_of d =
    cond (compares_pin d.ins) (Some (comparison d.effect.frame.z d.direct))
    (cond (moves_money d) (Some (Debited d.direct (amount_of d)))
    (cond (changes_tries d) (Some (Tries (slice_index d.effect.frame.fixed 2))) None))

-- what is counted of the purse
abbrev pub purse_watch : Watch Event
purse_watch =
    record {
      name = purse_name;
      of_deed = event_of;
      of_abend = λ at cause. None;
      of_command = λ bytes a. Some (Commanded a.ins a.body);
      of_answer = λ bytes outcome. None;
      of_selection = λ was. Some Selected;
      of_end = λ was. Some Ended;
    }
