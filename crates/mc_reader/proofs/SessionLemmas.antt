-- A deck that was played, and the frames that were served after it, as one session.
use Rattle.std.proofs.Common.{◌≡◌, ◌≢◌, ℕ, Bool, false, List, [], ◌∷◌, ◌++◌, length, drop, Option, Some, None, Result, Ok, Err, refl, sym, ◌∙◌, ap, subst, append_assoc}
use Rattle.std.specs.Prelude.{IfSome}
use Rattle.std.specs.List.{AllByRecursion}
use Rattle.std.proofs.lemmas.List.{drop_at}
use Rattle.mc_words.specs.model_device.specs.Bytes.{AreBytes}
use Rattle.mc_words.specs.model_device.specs.Device.{DeviceState, BenchState, IsImage}
use Rattle.mc_deck.specs.model_play.specs.DeckGrammar.{DeckLine}
use Rattle.mc_deck.specs.model_play.specs.DeckGrammar as line
use Rattle.mc_deck.specs.model_play.specs.Laws.{HoldsOf}
use Rattle.mc_deck.specs.model_play.specs.Play.{State, FailedWrite, Step, plays, start, last_state}
use Rattle.mc_deck.specs.model_play.specs.ReadyAgain.{IsLine, AreLines}
use Rattle.mc_words.specs.model_device.proofs.ImageLemmas.{all_append}
use Rattle.mc_deck.specs.law_family.proofs.DeckBytes.{played_bytes}
use Rattle.mc_deck.specs.law_family.proofs.PlayLaw.{play_law}
use Rattle.mc_script.specs.Plays.{Bench, LeadsTo}
use Rattle.mc_script.proofs.Composing.{plays_append}
use Rattle.mc_check.proofs.CheckedPlays.{checked_plays_law}
use Rattle.mc_reader.proofs.FrameLineLemmas.{good}
use Rattle.mc_reader.proofs.MomentLemmas.{moments_kept}
use Rattle.mc_reader.proofs.ReadBackLemmas.{IsFrameLine}
use Rattle.mc_reader.proofs.SessionDeckLemmas.{length_plays}
use Rattle.mc_reader.specs.Meanings.{meaning, power_after}
use Rattle.mc_reader.specs.Lines.{line_in, line_with_number, number_after, last_number, lines_of, session_lines}
use Rattle.mc_reader.specs.Answers.{answer_each, session_answers}
use Rattle.mc_reader.specs.Moments.{Moment}
use Rattle.mc_reader.specs.Sessions.{AnswersWritten, AroundSession, EndsBy, IsMomentAfter, IsUntouched, Served, Serves}
use Rattle.mc_reader.specs.Serving.{ServedFrom, IsServedMoment}
use Rattle.mc_reader.specs.declared.serve_error.ServeError.{ServeError}
use Rattle.mc_reader.specs.declared.serve_error.ServeError.TheVariants as fault

-- the steps of the frames' lines
steps_behind_deck : (s u : State) (deck ls : List (ℕ × DeckLine)) (ws vs : List (Option FailedWrite)) → length ws ≡ length deck → u ≡ last_state s (plays s deck ws) → drop (length deck) (plays s (deck ++ ls) (ws ++ vs)) ≡ plays u ls vs
steps_behind_deck s u deck ls ws vs many last =
    ap (λ (ts : List Step). drop (length deck) ts) (plays_append s deck ls ws vs many)
    ∙ drop_at (plays s deck ws) (plays (last_state s (plays s deck ws)) ls vs) (length deck) (length_plays s deck ws)
    ∙ ap (λ (v : State). plays v ls vs) (sym last)

-- the end of a session does not depend on the device
ends_same : (fs : List (List ℕ)) (part : List ℕ) (os : List (Option (List ℕ))) (result : Result (Unit {0}) ServeError) (a : AroundSession) (b c : Bench) → EndsBy fs part os result (record a { dev_old = b; dev = c }) → EndsBy fs part os result a
ends_same fs part os (Ok u) a b c h = record { between = h.between; end = h.end; written = h.written }
ends_same fs part os (Err (fault.Short n)) a b c h = record { some = h.some; end = h.end; number = h.number; written = h.written }
ends_same fs part os (Err fault.ReadFault) a b c h = record { cause = h.cause; written = h.written }
ends_same fs part os (Err fault.WriteFault) a b c h = record { between = h.between; written = h.written }
ends_same fs part os (Err fault.NoMemory) a b c h = h

-- ---- lines of bytes

-- a line that a frame can represent carries bytes
line_bytes : (l : DeckLine) → IsFrameLine l → IsLine l
line_bytes line.Power h = tt
line_bytes (line.Sent (line.Apdu bytes)) h = h.1
line_bytes (line.Cut k fill) h = tt
line_bytes (line.Fail k) h = tt
line_bytes (line.Budget n) h = tt
line_bytes _ h = absurd h

carries : (o : Option DeckLine) → IfSome o IsFrameLine → IfSome o IsLine
carries None h = tt
carries (Some l) h = line_bytes l h

numbered_bytes : (n : ℕ) (o : Option DeckLine) → IfSome o IsLine → AllByRecursion (λ l. IsLine l.1) (line_with_number n o)
numbered_bytes n None h = tt
numbered_bytes n (Some l) h = (h, tt)

-- the lines of frames of bytes carry bytes
frames_bytes : (n : ℕ) (powered : Bool) (fs : List (List ℕ)) → AllByRecursion AreBytes fs → AllByRecursion (λ l. IsLine l.1) (lines_of n powered fs)
frames_bytes n powered [] all = tt
frames_bytes n powered (f ∷ fs) all =
    let m = meaning powered f in
    all_append (λ l. IsLine l.1) (line_with_number n (line_in m)) (lines_of (number_after n (line_in m)) (power_after powered m) fs) (numbered_bytes n (line_in m) (carries (line_in m) (good powered f all.0)))
    (frames_bytes (number_after n (line_in m)) (power_after powered m) fs all.1)

-- ---- one play

-- a moment of the frames is one after the deck as well
moment_deck : (deck : List (ℕ × DeckLine)) (a : AroundSession) (b : Bench) (u : State) (worn ws : List (Option FailedWrite)) (fs : List (List ℕ)) (m : Moment)
    → LeadsTo (start a.dev_old.device.words) deck worn a.dev_old u b → IsServedMoment u (last_number deck) ws b a.out_old fs m → IsMomentAfter deck (worn ++ ws) a fs m
moment_deck deck a b u worn ws fs m leads k =
    let s = start a.dev_old.device.words in
    let ls = lines_of (last_number deck) false fs in
    let steps = steps_behind_deck s u deck ls worn k.first leads.many leads.last in
    let are : k.answers ≡ session_answers deck fs (plays s (deck ++ ls) (worn ++ k.first)) =
    k.served.answers ∙ ap (λ (ts : List Step). answer_each false fs ts) (sym steps) in
    record {
      first = worn ++ k.first;
      later = k.later;
      parts = ap (λ (us : List (Option FailedWrite)). worn ++ us) k.parts ∙ sym (append_assoc worn k.first k.later);
      played = leads.rest ls k.first m.dev k.served.played;
      written = subst (λ (os : List (Option (List ℕ))). AnswersWritten a.out_old os m.out) are k.written;
    }

-- the deck and the frames are one play
served_deck : (deck : List (ℕ × DeckLine)) (result : Result (Unit {0}) ServeError) (a : AroundSession) (b : Bench) (u : State) (worn : List (Option FailedWrite))
    → IsImage a.dev_old.device.words → AllByRecursion (λ l. IsLine l.1) deck → LeadsTo (start a.dev_old.device.words) deck worn a.dev_old u b → ServedFrom u (last_number deck) result (record a { dev_old = b }) → Served deck result a
served_deck deck result a b u worn image bytes leads h =
    let s = start a.dev_old.device.words in
    let ls = lines_of (last_number deck) false h.frames in
    let played = leads.rest ls h.worn a.dev h.served.played in
    let steps = steps_behind_deck s u deck ls worn h.worn leads.many leads.last in
    let are : h.answers ≡ session_answers deck h.frames (plays s (deck ++ ls) (worn ++ h.worn)) =
    h.served.answers ∙ ap (λ (ts : List Step). answer_each false h.frames ts) (sym steps) in
    let m = a.dev_old.device.words in
    let laws : HoldsOf m (plays s (deck ++ ls) (worn ++ h.worn)) = play_law (session_lines deck h.frames) m (worn ++ h.worn) played.possible in
    let mine = all_append (λ l. IsLine l.1) deck ls bytes (frames_bytes (last_number deck) false h.frames h.bytes) in
    let each : AreLines (plays s (deck ++ ls) (worn ++ h.worn)) = played_bytes s (session_lines deck h.frames) (worn ++ h.worn) mine in
    record {
      frames = h.frames;
      part = h.part;
      taken = h.taken;
      took = h.took;
      read = h.read;
      bytes = h.bytes;
      counted = h.counted;
      worn = worn ++ h.worn;
      played = played;
      asked = record {
        moments = h.moments;
        recorded = h.recorded;
        each =
            moments_kept (IsServedMoment u (last_number deck) h.worn b a.out_old) (IsMomentAfter deck (worn ++ h.worn) a)
            (λ fs m k. moment_deck deck a b u worn h.worn fs m leads k) [] h.frames h.moments h.each;
      };
      laws = laws;
      few = laws.few image each;
      ready = laws.ready image each;
      checked = checked_plays_law (session_lines deck h.frames) m (worn ++ h.worn);
      ends = subst (λ (os : List (Option (List ℕ))). EndsBy h.frames h.part os result a) are (ends_same h.frames h.part h.answers result a b a.dev h.ends);
    }

-- a session is not out of memory
serves : (deck : List (ℕ × DeckLine)) (result : Result (Unit {0}) ServeError) (a : AroundSession) → Served deck result a → Serves deck result a
serves deck (Ok u) a h = h
serves deck (Err (fault.Short n)) a h = h
serves deck (Err fault.ReadFault) a h = h
serves deck (Err fault.WriteFault) a h = h
serves deck (Err fault.NoMemory) a h = absurd h.ends

-- a bench by its parts
bench_same : (x y : Bench) → x.device ≡ y.device → x.bench ≡ y.bench → x ≡ y
bench_same x y device bench =
    let first : x ≡ record { device = y.device; bench = x.bench } = ap (λ (d : DeviceState). record { device = d; bench = x.bench }) device in
    let second : record { device = y.device; bench = x.bench } ≡ y = ap (λ (b : BenchState). record { device = y.device; bench = b }) bench in
    first ∙ second

-- a session on a device that its player borrows and returns
pub served_session : (deck : List (ℕ × DeckLine)) (result : Result (Unit {0}) ServeError) (a : AroundSession) (d b c : Bench) (u : State) (worn : List (Option FailedWrite))
    → IsImage a.dev_old.device.words → AllByRecursion (λ l. IsLine l.1) deck → LeadsTo (start a.dev_old.device.words) deck worn d u b → ServedFrom u (last_number deck) result (record a { dev_old = b; dev = c })
    → d.device ≡ a.dev_old.device → d.bench ≡ a.dev_old.bench → c.device ≡ a.dev.device → c.bench ≡ a.dev.bench → Serves deck result a
served_session deck result a d b c u worn image bytes leads h old old_bench new new_bench =
    serves deck result a (
    served_deck deck result a b u worn image bytes (subst (λ (e : Bench). LeadsTo (start a.dev_old.device.words) deck worn e u b) (bench_same d a.dev_old old old_bench) leads)
    (subst (λ (e : Bench). ServedFrom u (last_number deck) result (record a { dev_old = b; dev = e })) (bench_same c a.dev new new_bench) h))

-- ---- by the result

-- what a session that is out of memory is, and one that is not
pub served_unless : (deck : List (ℕ × DeckLine)) (result : Result (Unit {0}) ServeError) (a : AroundSession) → Serves deck result a → result ≢ Err fault.NoMemory → Served deck result a
served_unless deck (Ok u) a h other = h
served_unless deck (Err (fault.Short n)) a h other = h
served_unless deck (Err fault.ReadFault) a h other = h
served_unless deck (Err fault.WriteFault) a h other = h
served_unless deck (Err fault.NoMemory) a h other = absurd (other refl)

pub untouched_if : (deck : List (ℕ × DeckLine)) (result : Result (Unit {0}) ServeError) (a : AroundSession) → Serves deck result a → result ≡ Err fault.NoMemory → IsUntouched a
untouched_if deck result a h is = subst (λ (r : Result (Unit {0}) ServeError). Serves deck r a) is h
