-- The tape of a device: the record of its writes, up to a number of them.
use Rattle.std.specs.Prelude.{◌≤◌, ℕ, Bool, true, false, nat_le, List, [], ◌∷◌, ◌++◌, length, map, vec_capacity, Option, Some, None}
use Rattle.mc_words.specs.model_device.specs.Device.{Entry}
use Rattle.mc_nvm.specs.declared.tape.Entry.{Entry as Written}
use Rattle.mc_nvm.specs.declared.tape.Tape.TheInside.{Inside as TapeInside}

-- a tape: the number of entries that it has room for, and its entries, unless there were more
pub record ReportedTape : Type 0 where
  pub room : ℕ
  pub reported : Option (List Entry)

-- an entry of the tape, from its fields
abbrev pub entry_of : Written → Entry
entry_of e = record { at = e.at; left = e.left; end = e.end }

-- the entries of a tape, None if there was no room for all of them
abbrev pub unless : Bool → List Entry → Option (List Entry)
unless true es = None
unless false es = Some es

-- a tape from its fields
abbrev pub tape_view : TapeInside → ReportedTape
tape_view t = record { room = t.room; reported = unless t.over (map entry_of t.entries.items) }

-- memory was allocated at once for all entries that a tape may hold
pub record KeepsRoom (t : TapeInside) : Type 0 where
  pub taken : t.room ≤ vec_capacity t.entries
  pub within : length t.entries.items ≤ t.room

-- the entries with one more, None if there is no room for it
abbrev pub more : ℕ → Option (List Entry) → Entry → Option (List Entry)
more room None e = None
more room (Some es) e = unless (nat_le room (length es)) (es ++ e ∷ [])
