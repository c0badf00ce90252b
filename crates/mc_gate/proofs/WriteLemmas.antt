-- An atomic write in its three parts, in either layout: the entries, the head and the gate, and the replay.
use Rattle.std.proofs.Common.{ℕ, List, [], ◌∷◌, ◌++◌, length, Ok, Err}
use Rattle.mc_words.specs.model_device.specs.declared.device.Stop.{Stop}
use Rattle.mc_words.specs.model_device.specs.Orders.{Answer}
use Rattle.mc_words.specs.model_device.specs.Device.{Makes}
use Rattle.mc_words.specs.model_device.specs.Image.{Journal, gate, opening}
use Rattle.mc_words.specs.model_device.specs.Stopped.{word_of_number, entries, replay, writes}
use Rattle.mc_words.specs.model_device.proofs.LoopLemmas.{then, stopped}

-- the two writes that open a journal: its head, which holds the number of pairs, and its gate
abbrev pub opening_writes : Journal → List (ℕ × List ℕ) → List (ℕ × List ℕ)
opening_writes j list = (2, word_of_number (length list)) ∷ (gate j, opening j) ∷ []

module _ {D : Type 0} (wrote : D → ℕ → List ℕ → Answer → D → Type 0) (j : Journal) (list : List (ℕ × List ℕ)) where
  -- an entry stopped
  pub stops_in_entries : (d e : D) (s : Stop) → Makes wrote d (entries j list) (Err s) e → Makes wrote d (writes j list) (Err s) e
  stops_in_entries d e s made = stopped wrote (entries j list) (opening_writes j list ++ replay j list) d e s made

  -- the head or the gate stopped
  pub stops_at_gate : (d m e : D) (s : Stop) → Makes wrote d (entries j list) (Ok tt) m → Makes wrote m (opening_writes j list) (Err s) e → Makes wrote d (writes j list) (Err s) e
  stops_at_gate d m e s made stop =
      then wrote (entries j list) (opening_writes j list ++ replay j list) d m e (Err s) made (stopped wrote (opening_writes j list) (replay j list) m e s stop)

  -- the replay ended somehow
  pub replays : (d m n e : D) (a : Answer) → Makes wrote d (entries j list) (Ok tt) m → Makes wrote m (opening_writes j list) (Ok tt) n → Makes wrote n (replay j list) a e → Makes wrote d (writes j list) a e
  replays d m n e a made opened replayed =
      then wrote (entries j list) (opening_writes j list ++ replay j list) d m e a made (then wrote (opening_writes j list) (replay j list) m n e a opened replayed)
