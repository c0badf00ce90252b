-- Rosters that were found keep their numbers, and keys that were read stay those of their cards.
use Rattle.std.proofs.Common.{◌≡◌, ℕ, zero, suc, Bool, true, false, List, [], ◌∷◌, ◌++◌, Some, slice_get, if◌then◌else◌}
use Rattle.std.specs.List.{IsDistinct}
use Rattle.law_explore.specs.model_device.specs.PowerUp.{Base}
use Rattle.law_explore.specs.model_play.specs.Play as play
use Rattle.lab_branch.specs.declared.roster.Roster.{Roster}
use Rattle.lab_branch.specs.Rosters.{roster_eq}
use Rattle.lab_key.specs.declared.key.CardKey.{CardKey}
use Rattle.lab_key.specs.KeyOf.{KeyOf}

in_longer : (ks : List Roster) (k : Roster) (n : ℕ) (r : Roster) → slice_get ks n ≡ Some r → slice_get (ks ++ k ∷ []) n ≡ Some r
in_longer [] k n r h = absurd (cc h)
in_longer (x ∷ ks) k zero r h = h
in_longer (x ∷ ks) k (suc n) r h = in_longer ks k n r h

pub number_stays : (ks : List Roster) (k : Roster) (b : Bool) (n : ℕ) (r : Roster) → slice_get ks n ≡ Some r → slice_get (if b then ks else ks ++ k ∷ []) n ≡ Some r
number_stays ks k true n r h = h
number_stays ks k false n r h = in_longer ks k n r h

-- rosters that have these with their numbers
abbrev pub KeepsNumbers : List Roster → List Roster → Type 0
KeepsNumbers old new = (n : ℕ) (r : Roster) → slice_get old n ≡ Some r → slice_get new n ≡ Some r

pub key_grows : (old new : List Roster) (k : CardKey) (b : Base) (l : play.Live) → KeepsNumbers old new → IsDistinct roster_eq new → KeyOf old k b l → KeyOf new k b l
key_grows old new k b l keeps distinct h =
    record {
      shows = record { roster = h.shows.roster; found = keeps k.roster h.shows.roster h.shows.found; value = h.shows.value; statics = h.shows.statics; live = h.shows.live };
      base = h.base;
      distinct = distinct;
    }
