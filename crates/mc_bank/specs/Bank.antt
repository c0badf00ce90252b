-- The state of a bank of applications, and what its calls and its items do to it.
use Rattle.std.specs.Prelude.{◌≡◌, ◌≢◌, ◌⊎◌, ℕ, ◌-◌, ◌*◌, ◌<◌, ◌≤◌, Bool, true, false, List, [], ◌++◌, length, unwrap_or, option_and_then, Option, Some, None, Result, Ok, Err}
use Rattle.std.specs.List.{AllByRecursion}
use Rattle.model_card.specs.declared.card.Part.{Part}
use Rattle.model_card.specs.declared.card.Part.TheVariants.{Code, Data, Dir, Fci}
use Rattle.model_card.specs.declared.card.Sizes.{Sizes}
use Rattle.model_card.specs.declared.card.OpenRefusal.{OpenRefusal}
use Rattle.model_card.specs.declared.card.OpenRefusal.TheVariants.{Apps, NoRoom}
use Rattle.model_card.specs.model_device.specs.declared.device.Stop.{Stop}
use Rattle.model_card.specs.model_device.specs.declared.device.Stop.TheVariants.{Off, Worn}
use Rattle.model_card.specs.model_device.specs.Limits.{most_code}
use Rattle.model_card.specs.model_device.specs.Orders.{Answer}
use Rattle.model_card.specs.model_device.specs.Counts.{Rose}
use Rattle.model_card.specs.model_device.specs.Bytes.{AscendByName, zeros, lookup, insert, remove}
use Rattle.model_card.specs.model_device.specs.Pieces.{laid_words, ArePending}
use Rattle.model_card.specs.model_device.specs.Card.{App}
use Rattle.model_card.specs.Items.{Site, BankItem, Piece, Blank, Note, Commit, Enter, Remove}
use Rattle.mc_words.specs.Name.{IsName}

-- the state of a bank: the applications by their names, the counts of cuts and failed writes below it, whether it is
-- stopped, and the greatest number of ticks of `open`
pub record BankState : Type 0 where
  pub apps : List (List ℕ × App)
  pub cuts : ℕ
  pub faults : ℕ
  pub stopped : Bool
  pub ticks : ℕ

-- ---- applications

-- an application without bytes, for a name that is missing
abbrev pub no_app : App
no_app = record { code = []; fixed = []; session = 0; deny = 0; dir = []; fci = []; place = 0 }

-- the application of a name that may be missing
abbrev pub app_of : List (List ℕ × App) → Option (List ℕ) → App
app_of apps name = unwrap_or (option_and_then (lookup apps) name) no_app

-- a name, and no bytes if it is missing
abbrev pub name_or : Option (List ℕ) → List ℕ
name_or name = unwrap_or name []

-- the sizes of an application as it is: its data are all its static bytes
abbrev pub sizes_of : App → Sizes
sizes_of a =
    record {
      code = length a.code;
      fixed = length a.fixed;
      init = length a.fixed;
      session = a.session;
      dir = length a.dir;
      fci = length a.fci;
      deny = a.deny;
    }

-- sizes within the limits of an application
pub record FitsLimits (s : Sizes) : Type 0 where
  pub some_code : 1 ≤ s.code
  pub code : s.code ≤ most_code
  pub fixed : s.fixed ≤ 4096
  pub init : s.init ≤ s.fixed
  pub session : s.session ≤ 256
  pub dir : s.dir ≤ 128
  pub fci : s.fci ≤ 128
  pub deny : s.deny < 16

-- an application with its name, as a card may have it
pub record IsApplication (e : List ℕ × App) : Type 0 where
  pub name : IsName e.0
  pub limits : FitsLimits (sizes_of e.1)

-- the applications of a card: at most 32, each within the limits, ascending by name
pub record AreApps (apps : List (List ℕ × App)) : Type 0 where
  pub few : length apps ≤ 32
  pub each : AllByRecursion IsApplication apps
  pub ascending : AscendByName apps

-- ---- sites

-- the length of a section of a site
abbrev pub part_len : Part → Sizes → ℕ
part_len Code s = s.code
part_len Data s = s.init
part_len Dir s = s.dir
part_len Fci s = s.fci

-- the result of a search for room, by whether 32 applications are there, and by the place at which there is room
abbrev pub search_result : Sizes → Bool → Option ℕ → Result Site OpenRefusal
search_result s true room = Err Apps
search_result s false None = Err NoRoom
search_result s false (Some p) = Ok (record { sizes = s; place = p })

-- a search for room could return this site
pub record IsGoodSite (apps : List (List ℕ × App)) (room : Sizes → Option ℕ) (s : Site) : Type 0 where
  pub limits : FitsLimits s.sizes
  pub few : length apps < 32
  pub place : room s.sizes ≡ Some s.place

-- each section of a site has its length
abbrev pub HasParts : Site → (Part → List ℕ) → Type 0
HasParts s site_bytes = (p : Part) → length (site_bytes p) ≡ part_len p s.sizes

-- good sites stay good
abbrev pub StayGood : List (List ℕ × App) → (Sizes → Option ℕ) → List (List ℕ × App) → (Sizes → Option ℕ) → Type 0
StayGood apps room apps' room' = (s : Site) → IsGoodSite apps room s → IsGoodSite apps' room' s

-- the bytes of good sites stay
abbrev pub BytesStay : List (List ℕ × App) → (Sizes → Option ℕ) → (Site → Part → List ℕ) → (Site → Part → List ℕ) → Type 0
BytesStay apps room site_bytes standing' = (s : Site) → IsGoodSite apps room s → (p : Part) → standing' s p ≡ site_bytes s p

-- ---- commits

-- words that can be committed into static bytes: 1 to 64 of their words
pub record CanCommit (fixed : List ℕ) (ws : List (ℕ × List ℕ)) : Type 0 where
  pub some : 1 ≤ length ws
  pub few : length ws ≤ 64
  pub pending : ArePending ws
  pub within : AllByRecursion (λ w. 8 * w.0 < length fixed) ws

-- an application with words laid over its static bytes
abbrev pub with_words : List (ℕ × List ℕ) → App → App
with_words ws a = record a { fixed = laid_words a.fixed ws }

-- the applications with words laid over the static bytes of one
abbrev pub apps_after_commit : List (List ℕ × App) → List ℕ → List (ℕ × List ℕ) → List (List ℕ × App)
apps_after_commit apps n ws = insert apps n (with_words ws (app_of apps (Some n)))

-- ---- items

-- the application that is created of the bytes at a site: its static bytes are the data, followed by zeros
abbrev pub app_of_site : Site → (Part → List ℕ) → App
app_of_site s site_bytes =
    record {
      code = site_bytes Code;
      fixed = site_bytes Data ++ zeros (s.sizes.fixed - s.sizes.init);
      session = s.sizes.session;
      deny = s.sizes.deny;
      dir = site_bytes Dir;
      fci = site_bytes Fci;
      place = s.place;
    }

-- the applications after an item that was done; `site_bytes` has the bytes at the sites before it
abbrev pub item_done : (Site → Part → List ℕ) → BankItem → List (List ℕ × App) → List (List ℕ × App)
item_done site_bytes (Piece s p at b) apps = apps
item_done site_bytes (Blank s at n) apps = apps
item_done site_bytes (Note s n i) apps = apps
item_done site_bytes (Commit n ws) apps = apps_after_commit apps n ws
item_done site_bytes (Enter s n) apps = insert apps n (app_of_site s (site_bytes s))
item_done site_bytes (Remove n) apps = remove apps n

-- an item leaves the application of a name on the card
abbrev pub Spares : List ℕ → BankItem → Type 0
Spares n (Remove m) = n ≢ m
Spares n (Piece s p at b) = Unit {0}
Spares n (Blank s at c) = Unit {0}
Spares n (Note s m i) = Unit {0}
Spares n (Commit m ws) = Unit {0}
Spares n (Enter s m) = Unit {0}

-- ---- changes

-- the applications are these, no count rose, and the bank goes on
pub record IsChanged (b : BankState) (after : List (List ℕ × App)) (e : BankState) : Type 0 where
  pub apps : e.apps ≡ after
  pub cuts : e.cuts ≡ b.cuts
  pub faults : e.faults ≡ b.faults
  pub going : e.stopped ≡ false

-- the count of a stop rose, and the other one stays
abbrev pub StopRose : Stop → BankState → BankState → Type 0
StopRose Off b e = Rose b.cuts e.cuts × (b.cuts ≤ e.cuts) × (e.faults ≡ b.faults)
StopRose Worn b e = Rose b.faults e.faults × (b.faults ≤ e.faults) × (e.cuts ≡ b.cuts)

-- the applications are the old or the new ones
pub record IsStopped (b : BankState) (after : List (List ℕ × App)) (s : Stop) (e : BankState) : Type 0 where
  pub apps : (e.apps ≡ b.apps) ⊎ (e.apps ≡ after)
  pub rose : StopRose s b e

-- a change to these applications, by how it ended
abbrev pub Changes : BankState → List (List ℕ × App) → Answer → BankState → Type 0
Changes b after (Ok u) e = IsChanged b after e
Changes b after (Err s) e = IsStopped b after s e
