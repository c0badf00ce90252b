-- A session: a deck is played, and then the frames of a host are served. It is one play of the deck's lines and of
-- those of the frames.
use Rattle.std.specs.Prelude.{◌≡◌, ◌⊎◌, ℕ, ◌+◌, ◌<◌, ◌≤◌, false, List, [], ◌∷◌, ◌++◌, length, Option, Some, Result, Ok, Err}
use Rattle.std.specs.List.{AllByRecursion}
use Rattle.mc_words.specs.model_device.specs.Bytes.{AreBytes}
use Rattle.mc_words.specs.model_device.specs.Counts.{last_count, Rose}
use Rattle.mc_deck.specs.model_play.specs.DeckGrammar.{DeckLine}
use Rattle.mc_deck.specs.model_play.specs.Play.{FailedWrite, Step, plays, start}
use Rattle.mc_deck.specs.model_play.specs.Laws.{HoldsOf}
use Rattle.mc_deck.specs.model_play.specs.ReadyAgain.{AllFitJournal, ReadyAgain}
use Rattle.mc_streams.specs.Streams.{Took, AtEnd, Grew}
use Rattle.mc_streams.specs.declared.sink.Sink as sink
use Rattle.mc_text.specs.Texts.{sunk, Sunk}
use Rattle.mc_script.specs.Plays.{Bench, Played}
use Rattle.mc_check.specs.Plays.{KeepToVerdicts}
use Rattle.mc_reader.specs.Frames.{frame_bytes, frames_bytes, frames_read}
use Rattle.mc_reader.specs.Lines.{session_lines}
use Rattle.mc_reader.specs.Answers.{present, session_answers}
use Rattle.mc_script.specs.Benches.{bench_at, BenchMembers}
use Rattle.mc_reader.specs.declared.host.Host as host
use Rattle.mc_reader.specs.Moments.{Moment, Records, AreMoments}
use Rattle.mc_reader.specs.declared.serve_error.ServeError.{ServeError}
use Rattle.mc_reader.specs.declared.serve_error.ServeError.TheVariants as fault

-- the state of host, sink and device before and after a session, and the moments that the host has recorded
pub record AroundSession : Type 0 where
  pub left_old : Option (List ℕ)
  pub left : Option (List ℕ)
  pub reads_old : ℕ
  pub reads : ℕ
  pub out_old : Sunk
  pub out : Sunk
  pub dev_old : Bench
  pub dev : Bench
  pub asked_old : Option (List Moment)
  pub asked : Option (List Moment)

-- the same, by the values of a call before and after it
abbrev pub around : {H T N : Type 0} → host.Ghosts H → sink.Ghosts T → BenchMembers N → H → H → T → T → N → N → AroundSession
around h t n in_old in_new out_old out_new dev_old dev_new =
    record {
      left_old = h.left in_old;
      left = h.left in_new;
      reads_old = h.faults in_old;
      reads = h.faults in_new;
      out_old = sunk t out_old;
      out = sunk t out_new;
      dev_old = bench_at n dev_old;
      dev = bench_at n dev_new;
      asked_old = h.moments in_old;
      asked = h.moments in_new;
    }

-- ---- what was written

-- the answers were written, each as a frame, in order, and no call of the sink failed
pub record AnswersWritten (x : Sunk) (os : List (Option (List ℕ))) (y : Sunk) : Type 0 where
  pub whole : Grew x.taken y.taken (frames_bytes (present os))
  pub counted : y.faults ≡ x.faults

-- the answer of the last frame was not written completely: the answers before it were, and the first bytes of its own
pub record AnswersCut (x : Sunk) (os : List (Option (List ℕ))) (y : Sunk) : Type 0 where
  pub before : List (Option (List ℕ))
  pub last : List ℕ
  pub are : os ≡ before ++ Some last ∷ []
  pub front : List ℕ
  pub back : List ℕ
  pub parts : frame_bytes last ≡ front ++ back
  pub some_left : 0 < length back
  pub written : Grew x.taken y.taken (frames_bytes (present before) ++ front)
  pub cause : Rose x.faults y.faults

-- ---- the end of a session that served these frames, with this part of one more, and with these answers due

-- the input ended between two frames, or after the greatest number of frames that can be counted
pub record SessionEnds (fs : List (List ℕ)) (part : List ℕ) (os : List (Option (List ℕ))) (a : AroundSession) : Type 0 where
  pub between : part ≡ []
  pub end : AtEnd a.left ⊎ (last_count ≤ length fs)
  pub written : AnswersWritten a.out_old os a.out

-- the input ended inside the frame with this number
pub record EndsShort (fs : List (List ℕ)) (part : List ℕ) (os : List (Option (List ℕ))) (n : ℕ) (a : AroundSession) : Type 0 where
  pub some : 0 < length part
  pub end : AtEnd a.left
  pub number : n ≡ length fs + 1
  pub written : AnswersWritten a.out_old os a.out

-- the source failed
pub record EndsUnread (os : List (Option (List ℕ))) (a : AroundSession) : Type 0 where
  pub cause : Rose a.reads_old a.reads
  pub written : AnswersWritten a.out_old os a.out

-- the sink failed; the write of any answer may fail, so that at each of them the frames up to its own were taken and no
-- byte after them
pub record EndsUnwritten (part : List ℕ) (os : List (Option (List ℕ))) (a : AroundSession) : Type 0 where
  pub between : part ≡ []
  pub written : AnswersCut a.out_old os a.out

-- the end of a session, by its result
abbrev pub EndsBy : List (List ℕ) → List ℕ → List (Option (List ℕ)) → Result (Unit {0}) ServeError → AroundSession → Type 0
EndsBy fs part os (Ok u) a = SessionEnds fs part os a
EndsBy fs part os (Err (fault.Short n)) a = EndsShort fs part os n a
EndsBy fs part os (Err fault.ReadFault) a = EndsUnread os a
EndsBy fs part os (Err fault.WriteFault) a = EndsUnwritten part os a
EndsBy fs part os (Err fault.NoMemory) a = ⊥

-- ---- a session

-- the steps of a session that served these frames, with these failed writes
abbrev pub session_steps : List (ℕ × DeckLine) → List (List ℕ) → List (Option FailedWrite) → AroundSession → List Step
session_steps deck fs worn a = plays (start a.dev_old.device.words) (session_lines deck fs) worn

-- the moment after these frames of a session with these failed writes: the lines of the deck and of exactly these
-- frames were played on the device, with the first of the failed writes, and exactly the answers to these frames were
-- written
pub record IsMomentAfter (deck : List (ℕ × DeckLine)) (worn : List (Option FailedWrite)) (a : AroundSession) (fs : List (List ℕ)) (m : Moment) : Type 0 where
  pub first : List (Option FailedWrite)
  pub later : List (Option FailedWrite)
  pub parts : worn ≡ first ++ later
  pub played : Played (start a.dev_old.device.words) (session_lines deck fs) first a.dev_old m.dev
  pub written : AnswersWritten a.out_old (session_answers deck fs (session_steps deck fs first a)) m.out

-- The host was asked for each of these frames once, when the frames before it had been served, and at most once more:
-- whatever a frame orders has been done before the next one is read, also if it has no answer.
pub record IsAskedInTurn (deck : List (ℕ × DeckLine)) (worn : List (Option FailedWrite)) (fs : List (List ℕ)) (a : AroundSession) : Type 0 where
  pub moments : List Moment
  pub recorded : Records a.asked_old moments a.asked
  pub each : AreMoments (IsMomentAfter deck worn a) [] fs moments

-- A session: a deck and the frames of a host were one play on a device.
pub record Served (deck : List (ℕ × DeckLine)) (result : Result (Unit {0}) ServeError) (a : AroundSession) : Type 0 where
  -- The frames that were served, and the part of one more that was not received completely: exactly their bytes were
  -- taken from the host.
  pub frames : List (List ℕ)
  pub part : List ℕ
  pub taken : List ℕ
  pub took : Took a.left_old a.left taken
  pub read : frames_read taken ≡ (frames, part)
  pub bytes : AllByRecursion AreBytes frames
  pub counted : a.reads_old ≤ a.reads
  -- The lines of the deck and of the frames were played, and one list of failed writes accounts for the words, the
  -- counts and the tape of the device, and for all that was written.
  pub worn : List (Option FailedWrite)
  pub played : Played (start a.dev_old.device.words) (session_lines deck frames) worn a.dev_old a.dev
  -- Each frame was taken when the frames before it had been served.
  pub asked : IsAskedInTurn deck worn frames a
  -- Every closed family of applications has the same results and the same bytes as on a card of its own, each line
  -- leaves the card with its complete items, and no new application has a stale byte.
  pub laws : HoldsOf a.dev_old.device.words (session_steps deck frames worn a)
  -- Each item fits a journal.
  pub few : AllFitJournal (session_steps deck frames worn a)
  -- A card that was found or formatted is found by every later power line that no stop hits.
  pub ready : ReadyAgain false (session_steps deck frames worn a)
  -- Accepted code on the card keeps to its verdict.
  pub checked : KeepToVerdicts (session_steps deck frames worn a)
  -- The answers of the play were written, each as a frame, up to the end of the session.
  pub ends : EndsBy frames part (session_answers deck frames (session_steps deck frames worn a)) result a

-- out of memory: nothing was read, played or written
pub record IsUntouched (a : AroundSession) : Type 0 where
  pub left : a.left ≡ a.left_old
  pub reads : a.reads ≡ a.reads_old
  pub out : a.out ≡ a.out_old
  pub dev : a.dev ≡ a.dev_old
  pub asked : a.asked ≡ a.asked_old

-- the end of a session, by its result
abbrev pub Serves : List (ℕ × DeckLine) → Result (Unit {0}) ServeError → AroundSession → Type 0
Serves deck (Err fault.NoMemory) a = IsUntouched a
Serves deck (Ok u) a = Served deck (Ok u) a
Serves deck (Err (fault.Short n)) a = Served deck (Err (fault.Short n)) a
Serves deck (Err fault.ReadFault) a = Served deck (Err fault.ReadFault) a
Serves deck (Err fault.WriteFault) a = Served deck (Err fault.WriteFault) a
