-- The laws of plays, of decks that were played.
use Rattle.std.proofs.Common.{◌≡◌, ℕ, List, [], ◌∷◌, ◌++◌, Result, subst}
use Rattle.std.specs.List.{AllByRecursion}
use Rattle.model_play.specs.model_device.specs.Device.{IsImage}
use Rattle.model_play.specs.DeckGrammar.{DeckLine}
use Rattle.model_play.specs.Laws.{HoldsOf}
use Rattle.model_play.specs.Play.{Step, start, plays}
use Rattle.model_play.specs.ReadyAgain.{IsLine, AreLines}
use Rattle.mc_deck.specs.law_family.proofs.DeckBytes.{played_bytes}
use Rattle.mc_deck.specs.law_family.proofs.PlayLaw.{play_law}
use Rattle.mc_streams.specs.declared.refusals.WriteFault.{WriteFault}
use Rattle.mc_text.specs.Texts.{Sunk}
use Rattle.mc_script.specs.Plays.{Bench, PlaysDeck, SumsDeck}
use Rattle.mc_script.specs.StepCounts.{CountsFrom, CountsDeck, CountsSum}
use Rattle.mc_script.specs.Sums.{SumsFrom}

-- the first lines of a list carry bytes if all of them do
front_bytes : (ls ks : List (ℕ × DeckLine)) → AllByRecursion (λ l. IsLine l.1) (ls ++ ks) → AllByRecursion (λ l. IsLine l.1) ls
front_bytes [] ks h = tt
front_bytes (l ∷ ls) ks h = (h.0, front_bytes ls ks h.1)

-- a deck that was played from the words of a device, and the device and the sink as it left them
pub play_deck : (f : Step → List ℕ) (ls : List (ℕ × DeckLine)) (a : Bench) (x : Sunk) (r s : Result (Unit {0}) WriteFault) (b c : Bench) (y z : Sunk) (old new : ℕ) → CountsFrom f (start a.device.words) ls a x r b y old new
    → IsImage a.device.words → AllByRecursion (λ l. IsLine l.1) ls → b.device ≡ c.device → b.bench ≡ c.bench → y.taken ≡ z.taken → y.faults ≡ z.faults → r ≡ s → CountsDeck f ls a x s c z old new
play_deck f ls a x r s b c y z old new h image bytes device bench taken faults result =
    let counts : CountsFrom f (start a.device.words) ls a x s c z old new = rw (← device, ← bench, ← taken, ← faults, ← result) h in
    let from = counts.from in
    let m : List (List ℕ) = a.device.words in
    let laws : HoldsOf m (plays (start m) from.lines from.worn) = play_law from.lines m from.worn from.played.possible in
    let mine = front_bytes from.lines from.rest (subst (λ (k : List (ℕ × DeckLine)). AllByRecursion (λ l. IsLine l.1) k) from.are bytes) in
    let are : AreLines (plays (start m) from.lines from.worn) = played_bytes (start m) from.lines from.worn mine in
    record { deck = record { from = from; laws = laws; few = laws.few image are; ready = laws.ready image are }; steps = counts.steps }

-- the play of a deck whose steps were counted
pub deck_of : (f : Step → List ℕ) (ls : List (ℕ × DeckLine)) (a : Bench) (x : Sunk) (r : Result (Unit {0}) WriteFault) (b : Bench) (y : Sunk) (old new : ℕ) → CountsDeck f ls a x r b y old new → PlaysDeck f ls a x r b y
deck_of f ls a x r b y old new h = h.deck

-- a deck that was played and summed up
pub sum_deck : (f : List Step → List ℕ) (ls : List (ℕ × DeckLine)) (a : Bench) (x : Sunk) (r s : Result (Unit {0}) WriteFault) (b c : Bench) (y z : Sunk) (old new : ℕ) → SumsFrom f (start a.device.words) ls a x r b y old new
    → IsImage a.device.words → AllByRecursion (λ l. IsLine l.1) ls → b.device ≡ c.device → b.bench ≡ c.bench → y.taken ≡ z.taken → y.faults ≡ z.faults → r ≡ s → CountsSum f ls a x s c z old new
sum_deck f ls a x r s b c y z old new h image bytes device bench taken faults result =
    let from : SumsFrom f (start a.device.words) ls a x s c z old new = rw (← device, ← bench, ← taken, ← faults, ← result) h in
    let m : List (List ℕ) = a.device.words in
    let laws : HoldsOf m (plays (start m) ls from.worn) = play_law ls m from.worn from.played.possible in
    let are : AreLines (plays (start m) ls from.worn) = played_bytes (start m) ls from.worn bytes in
    record { deck = record { worn = from.worn; played = from.played; laws = laws; few = laws.few image are; ready = laws.ready image are; text = from.text }; steps = from.steps }

-- the play of a deck that was summed up and whose steps were counted
pub sum_of : (f : List Step → List ℕ) (ls : List (ℕ × DeckLine)) (a : Bench) (x : Sunk) (r : Result (Unit {0}) WriteFault) (b : Bench) (y : Sunk) (old new : ℕ) → CountsSum f ls a x r b y old new → SumsDeck f ls a x r b y
sum_of f ls a x r b y old new h = h.deck
