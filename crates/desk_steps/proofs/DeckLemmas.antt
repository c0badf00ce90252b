-- A deck that was played before a recorder, and its text that was put.
use Rattle.std.proofs.Common.{◌≡◌, ℕ, List, [], None, Result, refl, sym, subst}
use Rattle.std.specs.List.{AllByRecursion}
use Rattle.mc_words.specs.model_device.specs.Device.{IsImage}
use Rattle.mc_deck.specs.model_play.specs.DeckGrammar.{DeckLine}
use Rattle.mc_deck.specs.model_play.specs.Laws.{HoldsOf}
use Rattle.mc_deck.specs.model_play.specs.Play.{plays, start}
use Rattle.mc_deck.specs.model_play.specs.ReadyAgain.{AreLines, IsLine}
use Rattle.mc_deck.specs.law_family.proofs.DeckBytes.{played_bytes}
use Rattle.mc_deck.specs.law_family.proofs.PlayLaw.{play_law}
use Rattle.mc_streams.specs.declared.refusals.WriteFault.{WriteFault}
use Rattle.mc_streams.specs.declared.sink.Sink.{Ghosts}
use Rattle.mc_text.specs.Texts.{sunk, Puts, Sunk}
use Rattle.desk_draft.specs.Listings.{Source}
use Rattle.mc_script.specs.Plays.{Bench, Played}
use Rattle.desk_steps.specs.Sheets.{written_by, HoldsBy}
use Rattle.desk_steps.proofs.SheetLemmas.{holds_none, holds_whole}
use Rattle.desk_steps.specs.declared.recording.Recorder.{Recorder}
use Rattle.desk_steps.specs.Recorded.{RecordsPlay, ShowsSteps, StepsDeck}

module _ {T : Type 0} (sink : Ghosts T) where
  -- a deck that was played before a recorder, whose text was put
  pub steps_deck : (ss : List Source) (script : List ℕ) (ls : List (ℕ × DeckLine)) (a : Bench) (x : Sunk) (result : Result (Unit {0}) WriteFault) (b c : Bench) (y z : Sunk) (q r : Recorder T) → q.sections.now ≡ ss → RecordsPlay sink script (start a.device.words) ls a b q r → q.fault ≡ None → sunk sink q.out.now ≡ x → result ≡ written_by r.fault → sunk sink r.out.now ≡ y
      → IsImage a.device.words → AllByRecursion (λ l. IsLine l.1) ls → b.device ≡ c.device → b.bench ≡ c.bench → y.taken ≡ z.taken → y.faults ≡ z.faults → StepsDeck ss script ls a x result c z
  steps_deck ss script ls a x result b c y z q r sections records none from is end image bytes device bench taken faults =
      let m : List (List ℕ) = a.device.words in
      let played : Played (start m) ls records.worn a c = rw (← device, ← bench) records.played in
      let last : Sunk = sunk sink r.out.now in
      let held : HoldsBy r.fault x records.text [] last = records.adds.puts.on x [] (holds_none q.fault x (sunk sink q.out.now) [] none refl from) in
      let put : Puts x records.text (written_by r.fault) y = subst (λ (k : Sunk). Puts x records.text (written_by r.fault) k) end (holds_whole r.fault x last records.text held) in
      let done : Puts x records.text result y = subst (λ (k : Result (Unit {0}) WriteFault). Puts x records.text k y) (sym is) put in
      let did : Puts x records.text result z = rw (← taken, ← faults) done in
      let laws : HoldsOf m (plays (start m) ls records.worn) = play_law ls m records.worn records.played.possible in
      let are : AreLines (plays (start m) ls records.worn) = played_bytes (start m) ls records.worn bytes in
      record {
        text = records.text;
        sums = record { worn = records.worn; played = played; laws = laws; few = laws.few image are; ready = laws.ready image are; text = did };
        shows = subst (λ (zs : List Source). ShowsSteps zs script (plays (start m) ls records.worn) records.text) sections records.shows;
      }
