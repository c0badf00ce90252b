-- The entries of a bank in memory after each call.
use Rattle.std.specs.Prelude.{◌≡◌, ◌≢◌, ℕ, List, [], ◌∷◌, map, IsSome, Some, Ok}
use Rattle.model_card.specs.declared.card.Part.{Part}
use Rattle.model_card.specs.model_device.specs.Orders.{InOrder}
use Rattle.model_card.specs.model_device.specs.Bytes.{splice, insert, remove}
use Rattle.model_card.specs.Items.{Site, Piece, Commit, Remove}
use Rattle.model_card.specs.Manager.{word_parts, create_items}
use Rattle.mc_bank.specs.declared.entries.Entry.{Entry}
use Rattle.mc_bank.specs.Bank.{name_or, apps_after_commit, app_of_site, StayGood, BytesStay, IsChanged}
use Rattle.mc_bank.specs.Memory.{memory_named, apps_from, memory_state, memory_room, memory_site_bytes, IsMemory, MemoryDid}

-- the entries after a commit
pub record CommitLeft (m : List Entry) (k : ℕ) (ws : List (ℕ × List ℕ)) (e : List Entry) : Type 0 where
  pub memory : IsMemory e
  pub items : InOrder MemoryDid m (Commit (name_or (memory_named m k)) ws ∷ []) (Ok tt) e
  pub apps : IsChanged (memory_state m) (apps_after_commit (apps_from 0 m) (name_or (memory_named m k)) ws) (memory_state e)
  pub slots : (j : ℕ) → memory_named e j ≡ memory_named m j
  pub good : StayGood (apps_from 0 m) (memory_room m) (apps_from 0 e) (memory_room e)
  pub bytes : BytesStay (apps_from 0 m) (memory_room m) (memory_site_bytes m) (memory_site_bytes e)

-- the entries after a piece of a section was set
pub record FillLeft (m : List Entry) (s : Site) (p : Part) (at : ℕ) (b : List ℕ) (e : List Entry) : Type 0 where
  pub memory : IsMemory e
  pub items : InOrder MemoryDid m (map (λ c. Piece s p c.0 c.1) (word_parts at b)) (Ok tt) e
  pub apps : IsChanged (memory_state m) (apps_from 0 m) (memory_state e)
  pub piece : memory_site_bytes e s p ≡ splice (memory_site_bytes m s p) at b
  pub others : (q : Part) → q ≢ p → memory_site_bytes e s q ≡ memory_site_bytes m s q
  pub slots : (j : ℕ) → memory_named e j ≡ memory_named m j
  pub good : StayGood (apps_from 0 m) (memory_room m) (apps_from 0 e) (memory_room e)

-- the entries after a creation
pub record CreateLeft (m : List Entry) (s : Site) (n : List ℕ) (e : List Entry) : Type 0 where
  pub memory : IsMemory e
  pub items : InOrder MemoryDid m (create_items s n) (Ok tt) e
  pub apps : IsChanged (memory_state m) (insert (apps_from 0 m) n (app_of_site s (memory_site_bytes m s))) (memory_state e)
  pub slots : (j : ℕ) → IsSome (memory_named m j) → memory_named e j ≡ memory_named m j

-- the entries after a deletion
pub record DeleteLeft (m : List Entry) (k : ℕ) (e : List Entry) : Type 0 where
  pub memory : IsMemory e
  pub items : InOrder MemoryDid m (Remove (name_or (memory_named m k)) ∷ []) (Ok tt) e
  pub apps : IsChanged (memory_state m) (remove (apps_from 0 m) (name_or (memory_named m k))) (memory_state e)
  pub slots : (j : ℕ) (n : List ℕ) → memory_named m j ≡ Some n → n ≢ name_or (memory_named m k) → memory_named e j ≡ Some n
