-- A bank in memory: 32 entries, each used or free, and what an item does to them.
use Rattle.std.specs.Prelude.{◌≡◌, ℕ, zero, suc, ◌-◌, ◌*◌, ◌<◌, ◌≤◌, Bool, false, ◌||◌, List, [], ◌∷◌, length, take, map, bytes_eq, slice_index_or, slice_set, Option, Some, None, Ok}
use Rattle.std.specs.List.{AllByRecursion}
use Rattle.model_card.specs.declared.card.Part.{Part}
use Rattle.model_card.specs.declared.card.Part.TheVariants.{Code, Data, Dir, Fci}
use Rattle.model_card.specs.declared.card.Sizes.{Sizes}
use Rattle.model_card.specs.model_device.specs.Limits.{most_code}
use Rattle.model_card.specs.model_device.specs.Orders.{Answer}
use Rattle.model_card.specs.model_device.specs.Bytes.{zeros, splice, insert}
use Rattle.model_card.specs.model_device.specs.Pieces.{laid_pieces, word_pieces}
use Rattle.model_card.specs.model_device.specs.Card.{App}
use Rattle.model_card.specs.Items.{Site, BankItem, Piece, Blank, Note, Commit, Enter, Remove}
use Rattle.mc_words.specs.Name.{IsName}
use Rattle.mc_bank.specs.declared.bank.Facts.{Facts}
use Rattle.mc_bank.specs.declared.entries.Entry.{Entry}
use Rattle.mc_bank.specs.Bank.{BankState, FitsLimits, part_len}
use Rattle.mc_bank.specs.Slots.{slot_place, name_of_slot}

-- ---- names

-- the facts of the entries
abbrev pub facts_in : List Entry → List (Option Facts)
facts_in m = map (λ e. e.facts) m

-- the name of an entry that is used
abbrev pub name_in : Option Facts → Option (List ℕ)
name_in None = None
name_in (Some f) = Some f.aid

-- the name of the entry with a number
abbrev pub name_of_entry : List (Option Facts) → ℕ → Option (List ℕ)
name_of_entry [] k = None
name_of_entry (f ∷ fs) zero = name_in f
name_of_entry (f ∷ fs) (suc k) = name_of_entry fs k

-- the number of the first free entry; if none is free, the number of entries
abbrev pub first_free : List (Option Facts) → ℕ
first_free [] = 0
first_free (None ∷ fs) = 0
first_free (Some f ∷ fs) = suc (first_free fs)

-- the number of used entries
abbrev pub count_of_used : List (Option Facts) → ℕ
count_of_used [] = 0
count_of_used (None ∷ fs) = count_of_used fs
count_of_used (Some f ∷ fs) = suc (count_of_used fs)

-- whether an entry is used and has this name
abbrev pub has : Option Facts → List ℕ → Bool
has None n = false
has (Some f) n = bytes_eq f.aid n

-- whether one of the entries has this name
abbrev pub is_named : List (Option Facts) → List ℕ → Bool
is_named [] n = false
is_named (f ∷ fs) n = has f n || is_named fs n

-- an entry has another name than those after it
abbrev pub IsApart : Option Facts → List (Option Facts) → Type 0
IsApart None fs = Unit {0}
IsApart (Some f) fs = is_named fs f.aid ≡ false

-- no two entries have one name
abbrev pub AreApart : List (Option Facts) → Type 0
AreApart [] = Unit {0}
AreApart (f ∷ fs) = IsApart f fs × AreApart fs

-- ---- applications

-- the application in an entry of these sizes
abbrev pub app_in : ℕ → Entry → Sizes → App
app_in k e s =
    record {
      code = take s.code e.code;
      fixed = take s.fixed e.fixed;
      session = s.session;
      deny = s.deny;
      dir = take s.dir e.dir;
      fci = take s.fci e.fci;
      place = k;
    }

-- the applications with that of an entry, if it is used
abbrev pub with_entry : ℕ → Entry → Option Facts → List (List ℕ × App) → List (List ℕ × App)
with_entry k e None apps = apps
with_entry k e (Some f) apps = insert apps f.aid (app_in k e f.sizes)

-- the applications of entries, which are numbered from k on
abbrev pub apps_from : ℕ → List Entry → List (List ℕ × App)
apps_from k [] = []
apps_from k (e ∷ es) = with_entry k e e.facts (apps_from (suc k) es)

-- the name of a slot
abbrev pub memory_named : List Entry → ℕ → Option (List ℕ)
memory_named m k = name_of_slot (apps_from 0 m) k (name_of_entry (facts_in m) (slot_place k))

-- the state of a bank in memory, which never stops
abbrev pub memory_state : List Entry → BankState
memory_state m = record { apps = apps_from 0 m; cuts = 0; faults = 0; stopped = false; ticks = 0 }

-- the room of a bank in memory: there always is some
abbrev pub memory_room : List Entry → Sizes → Option ℕ
memory_room m s = Some (first_free (facts_in m))

-- ---- entries

-- a free entry without memory
abbrev pub no_entry : Entry
no_entry = record { facts = None; code = []; fixed = []; dir = []; fci = [] }

-- the entry with a number
abbrev pub entry_at : List Entry → ℕ → Entry
entry_at m k = slice_index_or m k no_entry

-- the memory of a section
abbrev pub part_of : Part → Entry → List ℕ
part_of Code e = e.code
part_of Data e = e.fixed
part_of Dir e = e.dir
part_of Fci e = e.fci

-- the entry with bytes in a section
abbrev pub with_piece : Part → ℕ → List ℕ → Entry → Entry
with_piece Code at b e = record e { code = splice e.code at b }
with_piece Data at b e = record e { fixed = splice e.fixed at b }
with_piece Dir at b e = record e { dir = splice e.dir at b }
with_piece Fci at b e = record e { fci = splice e.fci at b }

-- the bytes in a section of a site
abbrev pub memory_site_bytes : List Entry → Site → Part → List ℕ
memory_site_bytes m s p = take (part_len p s.sizes) (part_of p (entry_at m s.place))

-- the facts of a new application: its data are all its static bytes
abbrev pub new_facts : Sizes → List ℕ → Facts
new_facts s n = record { aid = n; sizes = record s { init = s.fixed } }

-- the entry with a new application: zeros follow its data
abbrev pub with_app : Sizes → List ℕ → Entry → Entry
with_app s n e = record e { facts = Some (new_facts s n); fixed = splice e.fixed s.init (zeros (s.fixed - s.init)) }

-- the entry with words laid over its static bytes
abbrev pub with_list : List (ℕ × List ℕ) → Entry → Entry
with_list ws e = record e { fixed = laid_pieces e.fixed (word_pieces ws) }

-- the entry made free
abbrev pub free_entry : Entry → Entry
free_entry e = record e { facts = None }

-- the size of the static segment of an entry that is used
abbrev pub fixed_len : Option Facts → ℕ
fixed_len None = 0
fixed_len (Some f) = f.sizes.fixed

-- ---- what holds of every bank in memory

-- facts that an entry may have
abbrev pub AreFacts : Option Facts → Type 0
AreFacts None = Unit {0}
AreFacts (Some f) = IsName f.aid × FitsLimits f.sizes × (f.sizes.init ≡ f.sizes.fixed)

-- an entry has memory for a largest application
pub record IsWholeEntry (e : Entry) : Type 0 where
  pub facts : AreFacts e.facts
  pub code : length e.code ≡ most_code
  pub fixed : length e.fixed ≡ 4096
  pub dir : length e.dir ≡ 128
  pub fci : length e.fci ≡ 128

-- 32 entries, with names that are apart
pub record IsMemory (m : List Entry) : Type 0 where
  pub room : length m ≡ 32
  pub whole : AllByRecursion IsWholeEntry m
  pub apart : AreApart (facts_in m)

-- ---- items

-- a piece goes into a free entry
pub record PieceDone (m : List Entry) (s : Site) (p : Part) (at : ℕ) (b : List ℕ) (e : List Entry) : Type 0 where
  pub free : (entry_at m s.place).facts ≡ None
  pub after : e ≡ slice_set m s.place (with_piece p at b (entry_at m s.place))

-- words go into the entry of a name
pub record CommitDone (m : List Entry) (n : List ℕ) (ws : List (ℕ × List ℕ)) (e : List Entry) : Type 0 where
  pub slot : ℕ
  pub named : name_of_entry (facts_in m) slot ≡ Some n
  pub apart : AreApart (facts_in m)
  pub within : AllByRecursion (λ w. 8 * w.0 < fixed_len (entry_at m slot).facts) ws
  pub whole : fixed_len (entry_at m slot).facts ≤ length (entry_at m slot).fixed
  pub after : e ≡ slice_set m slot (with_list ws (entry_at m slot))

-- a new name comes into a free entry
pub record EnterDone (m : List Entry) (s : Site) (n : List ℕ) (e : List Entry) : Type 0 where
  pub place : s.place < length m
  pub free : (entry_at m s.place).facts ≡ None
  pub fresh : is_named (facts_in m) n ≡ false
  pub init : s.sizes.init ≤ s.sizes.fixed
  pub whole : s.sizes.fixed ≤ length (entry_at m s.place).fixed
  pub after : e ≡ slice_set m s.place (with_app s.sizes n (entry_at m s.place))

-- a name is removed
pub record RemoveDone (m : List Entry) (n : List ℕ) (e : List Entry) : Type 0 where
  pub slot : ℕ
  pub named : name_of_entry (facts_in m) slot ≡ Some n
  pub apart : AreApart (facts_in m)
  pub after : e ≡ slice_set m slot (free_entry (entry_at m slot))

-- an item that is done at once: the creation sets the zeros after the data, and the plain writes before it change
-- nothing
abbrev pub ItemDone : List Entry → BankItem → List Entry → Type 0
ItemDone m (Piece s p at b) e = PieceDone m s p at b e
ItemDone m (Blank s at n) e = e ≡ m
ItemDone m (Note s n i) e = e ≡ m
ItemDone m (Commit n ws) e = CommitDone m n ws e
ItemDone m (Enter s n) e = EnterDone m s n e
ItemDone m (Remove n) e = RemoveDone m n e

-- one item of a bank in memory never stops
pub record MemoryDid (m : List Entry) (i : BankItem) (a : Answer) (e : List Entry) : Type 0 where
  pub answer : a ≡ Ok tt
  pub done : ItemDone m i e
