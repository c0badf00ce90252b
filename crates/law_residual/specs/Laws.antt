-- No residual information: of a device's words a play shows the card that they mean, and nothing else.
use Rattle.std.specs.Prelude.{◌≡◌, ℕ, ◌+◌, Bool, true, false, nat_le, List, ◌∷◌, ◌++◌, length, take, drop, Option, Some}
use Rattle.std.specs.List.{AllByRecursion}
use Rattle.model_play.specs.model_device.specs.Card.{word, blocks, Block}
use Rattle.model_play.specs.model_device.specs.Image.{count_of_recovery_writes, which, Neither}
use Rattle.model_play.specs.model_device.specs.Layout.{fault, IsWellLaid}
use Rattle.model_play.specs.model_device.specs.PowerUp.{base_of, migration, pending_journal}
use Rattle.model_play.specs.DeckGrammar.{DeckLine}
use Rattle.model_play.specs.DeckGrammar as line
use Rattle.model_play.specs.Play.{plays, start, FailedWrite, Possible, Step, power_result}
use Rattle.model_play.specs.Transcript.{line_text, transcript}
use Rattle.model_play.specs.TraceText.{trace_text}
use Rattle.law_residual.specs.Refusals.{Refusals, failures_on, play_on, refuses_after}

-- two images with the same first fault, or the same card, each application with its bytes and its place, and with the
-- same number of recovery writes in the same journal
pub record MeanAlike (m k : List (List ℕ)) : Type 0 where
  pub base : base_of (fault m) m ≡ base_of (fault k) k
  pub recovery : count_of_recovery_writes m ≡ count_of_recovery_writes k
  pub journal : pending_journal (which m) ≡ pending_journal (which k)

-- whether a line writes words by itself
abbrev pub writes_words : DeckLine → Bool
writes_words line.Format = true
writes_words (line.Poke at x) = true
writes_words _ = false

-- lines of which none does
abbrev pub NoneWritesWords : List (ℕ × DeckLine) → Type 0
NoneWritesWords ls = AllByRecursion (λ l. writes_words l.1 ≡ false) ls

-- the texts of a deck over two images are the same
pub record ShowAlike (m k : List (List ℕ)) (ls : List (ℕ × DeckLine)) (ws : List (Option FailedWrite)) : Type 0 where
  pub transcript : transcript (plays (start m) ls ws) ≡ transcript (plays (start k) ls ws)
  pub trace : trace_text (plays (start m) ls ws) ≡ trace_text (plays (start k) ls ws)

-- The law of residual information. Images that mean the same show the same, in every deck without `format` and `poke`
-- and for every list of failed writes: nothing that an application which was deleted left in free words, and nothing
-- of a journal that is shut. What the law calls residual is that of Common Criteria part 2 (FDP_RIP).
abbrev pub ResidualLaw : Type 0
ResidualLaw =
    (m k : List (List ℕ)) → MeanAlike m k → (ls : List (ℕ × DeckLine)) → NoneWritesWords ls → (ws : List (Option FailedWrite)) → ShowAlike m k ls ws

-- ---- a device that refuses writes

-- what a deck over two images shows on a device that refuses the same writes of both, counted from the first that is
-- tried: the same texts, with the same failed writes
pub record ShowAlikeOn (r : Refusals) (m k : List (List ℕ)) (ls : List (ℕ × DeckLine)) : Type 0 where
  pub transcript : transcript (play_on r m ls) ≡ transcript (play_on r k ls)
  pub trace : trace_text (play_on r m ls) ≡ trace_text (play_on r k ls)
  pub failures : failures_on r 0 (start m) ls ≡ failures_on r 0 (start k) ls

-- The law of residual information on a device. Images that mean the same show the same, whichever writes the device
-- refuses and whatever it leaves in their words.
abbrev pub DeviceLaw : Type 0
DeviceLaw =
    (m k : List (List ℕ)) → MeanAlike m k → (ls : List (ℕ × DeckLine)) → NoneWritesWords ls → (r : Refusals) → ShowAlikeOn r m k ls

-- ---- images of one card with other recovery writes

-- whether a stop that a line arms, if it arms one, is counted from 1, as in every deck that is read
abbrev pub counts_from_one : DeckLine → Bool
counts_from_one (line.Cut k x) = nat_le 1 k
counts_from_one (line.Fail k) = nat_le 1 k
counts_from_one _ = true

-- lines of which each does
abbrev pub CountFromOne : List (ℕ × DeckLine) → Type 0
CountFromOne ls = AllByRecursion (λ l. counts_from_one l.1 ≡ true) ls

-- the number of writes that a whole first power line makes: those of the recovery, and those of the migration
abbrev pub first_writes : List (List ℕ) → ℕ
first_writes m = count_of_recovery_writes m + migration (base_of (fault m) m)

-- what it writes: its number of writes is all that is seen of the recovery
abbrev pub first_text : ℕ → List (List ℕ) → List ℕ
first_text n m = line_text n (Some (power_result (first_writes m) (base_of (fault m) m)))

-- the play of a deck that begins with a power line, on a device that refuses no write of this line, and of the writes
-- after it those of `r`
abbrev pub play_after_power : Refusals → List (List ℕ) → ℕ → List (ℕ × DeckLine) → List Step
play_after_power r m n ls = play_on (refuses_after (first_writes m) r) m ((n, line.Power) ∷ ls)

-- what such a deck shows over two images: the same but for the number of writes of the first power line
pub record ShowAlikeAfter (r : Refusals) (m k : List (List ℕ)) (n : ℕ) (ls : List (ℕ × DeckLine)) : Type 0 where
  pub rest : List ℕ
  pub one : transcript (play_after_power r m n ls) ≡ first_text n m ++ rest
  pub other : transcript (play_after_power r k n ls) ≡ first_text n k ++ rest
  pub traced : List ℕ
  pub trace_of_one : trace_text (play_after_power r m n ls) ≡ first_text n m ++ traced
  pub trace_of_other : trace_text (play_after_power r k n ls) ≡ first_text n k ++ traced

-- The law of images that mean one card, or have the same first fault, and need any recoveries: once a power line has
-- made these, they show the same, whichever writes the device refuses from then on. In the recovery itself they need
-- not, since the writes that are left are not the same.
abbrev pub RecoveredLaw : Type 0
RecoveredLaw =
    (m k : List (List ℕ)) → base_of (fault m) m ≡ base_of (fault k) k → (n : ℕ) (ls : List (ℕ × DeckLine)) → CountFromOne ls
    → (r : Refusals) → ShowAlikeAfter r m k n ls

-- The failed writes of a play on a device are possible.
abbrev pub PossibleLaw : Type 0
PossibleLaw =
    (r : Refusals) (m : List (List ℕ)) (ls : List (ℕ × DeckLine)) → CountFromOne ls → Possible (start m) ls (failures_on r 0 (start m) ls)

-- ---- free words, and shut journals

-- a block in two images: its header, and if it is used all its words
pub record SameInBlock (m k : List (List ℕ)) (b : Block) : Type 0 where
  pub header : word m b.place ≡ word k b.place
  pub words : b.used ≡ true → take b.words (drop b.place m) ≡ take b.words (drop b.place k)

-- Two images that hold one card and have both journals shut: they have as many words, the same root, and the same
-- blocks. Their other words may be anything: those of a hole after its header, and those of the journals but the gates.
pub record HoldOneCard (m k : List (List ℕ)) : Type 0 where
  pub size : length m ≡ length k
  pub sound : IsWellLaid m
  pub shut : which m ≡ Neither
  pub shut_too : which k ≡ Neither
  pub root : word m 0 ≡ word k 0
  pub blocks : AllByRecursion (λ b. SameInBlock m k b) (blocks m)

-- the law of free words: such images mean the same, so the law of residual information is about them
abbrev pub FreeWordsLaw : Type 0
FreeWordsLaw = (m k : List (List ℕ)) → HoldOneCard m k → MeanAlike m k
