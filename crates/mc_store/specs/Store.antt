-- A card in the words of a device, as a bank: its state, slots, room and sites, and the device writes of its items.
use Rattle.std.specs.Prelude.{◌≡◌, ℕ, ◌+◌, ◌-◌, ◌*◌, ◌%◌, ◌<◌, ◌≤◌, Bool, true, false, cond, not, nat_le, ◌&&◌, ◌==◌, List, [], ◌∷◌, ◌++◌, length, take, drop, map, is_none, Option, Some, None, Ok, IsSome}
use Rattle.mc_bank.specs.model_card.specs.declared.card.Part.{Part}
use Rattle.mc_bank.specs.model_card.specs.declared.card.Part.TheVariants.{Code, Data, Dir, Fci}
use Rattle.mc_bank.specs.model_card.specs.declared.card.Sizes.{Sizes}
use Rattle.mc_words.specs.model_device.specs.Orders.{Answer}
use Rattle.mc_words.specs.model_device.specs.Bytes.{up, down, zeros, bytes2, splice, lookup, insert, remove}
use Rattle.mc_words.specs.model_device.specs.Image.{Two, Look, Refused, Closed, Pending, look, after}
use Rattle.mc_words.specs.model_device.specs.Device.{DeviceState, IsSized, Makes}
use Rattle.mc_words.specs.model_device.specs.Stopped.{writes}
use Rattle.mc_words.specs.model_device.specs.Card.{App, Card, words_of_lengths, word, section, record_at, means, words_after}
use Rattle.mc_words.specs.model_device.specs.Layout.{gaps, first_fitting, words_fault, fault, step_of}
use Rattle.mc_bank.specs.model_card.specs.Items.{Site, BankItem, Piece, Blank, Note, Commit, Enter, Remove}
use Rattle.mc_words.specs.Name.{IsName}
use Rattle.mc_bank.specs.Bank.{BankState, app_of, part_len, IsGoodSite, CanCommit, app_of_site}
use Rattle.mc_bank.specs.Slots.{slot_place, name_of_slot}
use Rattle.mc_blocks.specs.Chains.{count_of_searched_gaps}

-- ---- what the words hold

-- whether no journal is open
abbrev pub is_closed : Look → Bool
is_closed (Refused p) = false
is_closed Closed = true
is_closed (Pending j ps) = false

-- the words once the journal that is open, if one is, is replayed
abbrev pub settled_words : List (List ℕ) → List (List ℕ)
settled_words m = words_after (after m) m

-- the applications of words that are a card, and none if they are not
unfoldable pub apps_in : List (List ℕ) → List (List ℕ × App)
apps_in m = cond (is_none (fault m)) (means m).apps []

-- whether power is on, no journal is open, and the words are a card of layout 2 with `count` applications
unfoldable pub is_going : DeviceState → ℕ → Bool
is_going d count =
    d.on && is_closed (look d.words) && is_none (words_fault d.words) && (means d.words).layout == 2 && count == length (means d.words).apps

-- the store as a bank
abbrev pub store_state : DeviceState → ℕ → BankState
store_state d count =
    record { apps = apps_in d.words; cuts = d.cuts; faults = d.faults; stopped = not (is_going d count); ticks = 2 + length (gaps (means d.words)) }

-- ---- slots: an application is known by the place of its block, and by its sizes

-- the name of the application whose block begins at a place
abbrev pub name_of_place : List (List ℕ × App) → ℕ → Option (List ℕ)
name_of_place [] k = None
name_of_place (e ∷ es) k = cond ((e.1).place == k) (Some e.0) (name_of_place es k)

-- the name of the application whose block begins at a place
abbrev pub place_named : DeviceState → ℕ → Option (List ℕ)
place_named d p = name_of_place (apps_in d.words) p

-- the name of a slot, which has the place of a block and the sizes of its application
abbrev pub store_named : DeviceState → ℕ → Option (List ℕ)
store_named d k = name_of_slot (apps_in d.words) k (place_named d (slot_place k))

-- ---- sites: a load is known by the place of its hole

-- the number of words of the block of a load of these sizes
abbrev pub words_of_sizes : Sizes → ℕ
words_of_sizes s = words_of_lengths s.code s.fixed s.dir s.fci

-- the place of the first hole with the needed words
abbrev pub store_room : DeviceState → Sizes → Option ℕ
store_room d s = first_fitting (words_of_sizes s) (gaps (means d.words))

-- the number of steps of a search for n words on a card with `count` applications and these holes
abbrev pub search_steps : ℕ → ℕ → List (ℕ × ℕ) → ℕ
search_steps count n gs = cond (nat_le 32 count) 0 (1 + count_of_searched_gaps n gs)

-- the word in which a section begins, of a block at p with sections of these lengths
abbrev pub part_from : Part → Sizes → ℕ → ℕ
part_from Code s p = p + 5
part_from Data s p = p + 5 + up s.code 8
part_from Dir s p = p + 5 + up s.code 8 + up s.fixed 8
part_from Fci s p = p + 5 + up s.code 8 + up s.fixed 8 + up s.dir 8

-- the bytes in a section of a site
unfoldable pub part_in : List (List ℕ) → Site → Part → List ℕ
part_in m s p = section m (part_from p s.sizes s.place) (part_len p s.sizes)

-- the bytes at a site, once the open journal is replayed
abbrev pub store_site_bytes : DeviceState → Site → Part → List ℕ
store_site_bytes d s p = part_in (settled_words d.words) s p

-- ---- records

-- the record of an application of these sizes with a name
abbrev pub record_bytes : Sizes → List ℕ → List ℕ
record_bytes s n =
    n ++ zeros (16 - length n) ++ length n ∷ s.dir ∷ s.fci ∷ 0 ∷ (bytes2 s.code ++ bytes2 s.fixed ++ bytes2 s.session ++ bytes2 s.deny ++ zeros 4)

-- one of the four words of a record
abbrev pub record_word : Sizes → List ℕ → ℕ → List ℕ
record_word s n i = take 8 (drop (8 * i) (record_bytes s n))

-- ---- the device writes of items

-- bytes written into one word, whose other bytes stay, of a section that begins in word p
abbrev pub piece_write : List (List ℕ) → ℕ → ℕ → List ℕ → ℕ × List ℕ
piece_write m p at b = (p + down at 8, splice (word m (p + down at 8)) (at % 8) b)

-- words of the static bytes of an application, each in its place
abbrev pub static_writes : App → List (ℕ × List ℕ) → List (ℕ × List ℕ)
static_writes a ws = map (λ w. (a.place + 5 + up (length a.code) 8 + w.0, w.1)) ws

-- a card with the bytes at a site as an application
abbrev pub card_with : List (List ℕ) → Site → List ℕ → Card
card_with m s n = record (means m) { apps = insert (means m).apps n (app_of_site s (part_in m s)) }

-- a card without an application
abbrev pub card_without : List (List ℕ) → List ℕ → Card
card_without m n = record (means m) { apps = remove (means m).apps n }

-- the device writes of an item on words with no open journal
abbrev pub item_writes : List (List ℕ) → BankItem → List (ℕ × List ℕ)
item_writes m (Piece s p at b) = piece_write m (part_from p s.sizes s.place) at b ∷ []
item_writes m (Blank s at n) = piece_write m (part_from Data s.sizes s.place) at (zeros n) ∷ []
item_writes m (Note s n i) = (s.place + 1 + i, record_word s.sizes n i) ∷ []
item_writes m (Commit n ws) = writes Two (static_writes (app_of (means m).apps (Some n)) ws)
item_writes m (Enter s n) = writes Two (step_of (means m) (card_with m s n))
item_writes m (Remove n) = writes Two (step_of (means m) (card_without m n))

-- ---- which items there are

-- a site that a search for room on these words could return
abbrev pub IsGoodIn : List (List ℕ) → Site → Type 0
IsGoodIn m s = IsGoodSite (means m).apps (λ z. first_fitting (words_of_sizes z) (gaps (means m))) s

-- bytes in one word of a section of `len` bytes
pub record IsInWord (len at count : ℕ) : Type 0 where
  pub some : 1 ≤ count
  pub section : at + count ≤ len
  pub word : at % 8 + count ≤ 8

-- a site is ready to be an application under a name: its record is there, and zeros follow its data
pub record IsReadySite (m : List (List ℕ)) (s : Site) (n : List ℕ) : Type 0 where
  pub good : IsGoodIn m s
  pub name : IsName n
  pub fresh : lookup (means m).apps n ≡ None
  pub noted : record_at m s.place ≡ record_bytes s.sizes n
  pub blank : drop s.sizes.init (section m (part_from Data s.sizes s.place) s.sizes.fixed) ≡ zeros (s.sizes.fixed - s.sizes.init)

-- an item that words with no open journal allow
abbrev pub Allows : List (List ℕ) → BankItem → Type 0
Allows m (Piece s p at b) = IsGoodIn m s × IsInWord (part_len p s.sizes) at (length b)
Allows m (Blank s at n) = IsGoodIn m s × IsInWord s.sizes.fixed at n
Allows m (Note s n i) = IsGoodIn m s × IsName n × (i < 4)
Allows m (Commit n ws) = IsSome (lookup (means m).apps n) × CanCommit (app_of (means m).apps (Some n)).fixed ws
Allows m (Enter s n) = IsReadySite m s n
Allows m (Remove n) = IsSome (lookup (means m).apps n)

-- the number of applications that the store counts after an item
abbrev pub count_after : BankItem → Answer → ℕ → ℕ
count_after (Enter s n) (Ok u) c = c + 1
count_after (Remove n) (Ok u) c = c - 1
count_after _ a c = c

-- one item on a device with c applications, by the relation of one write: what is durable after a stop follows from the
-- writes
pub record StoreDid {D : Type 0} (state : D → DeviceState) (wrote : D → ℕ → List ℕ → Answer → D → Type 0) (d : D) (c : ℕ) (i : BankItem) (a : Answer) (e : D) (c' : ℕ) : Type 0 where
  pub going : is_going (state d) c ≡ true
  pub image : IsSized (state d).words
  pub allowed : Allows (state d).words i
  pub makes : Makes wrote d (item_writes (state d).words i) a e
  pub count : c' ≡ count_after i a c
