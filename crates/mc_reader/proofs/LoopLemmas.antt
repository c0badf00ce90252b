-- The loop over the frames of an input.
use Rattle.std.proofs.Common.{◌≡◌, ℕ, ◌+◌, ◌≤◌, Bool, false, List, [], ◌∷◌, ◌++◌, length, Option, None, Result, Ok, Err, refl, arith, sym, ap, subst, ◌∙◌, inl, inr, append_assoc, append-nil, length-append}
use Rattle.std.specs.List.{AllByRecursion}
use Rattle.mc_words.specs.model_device.specs.Counts.{Rose, last_count}
use Rattle.mc_words.specs.model_device.specs.Device.{DeviceState, BenchState}
use Rattle.mc_deck.specs.model_play.specs.Play.{State, FailedWrite, LineResult}
use Rattle.mc_streams.specs.Streams.{Took}
use Rattle.mc_streams.specs.declared.refusals.WriteFault.{WriteFault}
use Rattle.mc_streams.proofs.StreamsLemmas.{took_append, took_none, grew_none, rose_later}
use Rattle.mc_text.specs.Texts.{Sunk}
use Rattle.mc_script.specs.declared.player.Player.{Player}
use Rattle.mc_script.specs.Players.{IsPlayerAt}
use Rattle.mc_script.specs.Plays.{Bench}
use Rattle.mc_script.specs.Lines.{bench_of}
use Rattle.mc_reader.specs.Frames.{frame_bytes, frames_bytes, first_frame}
use Rattle.mc_reader.specs.Meanings.{meaning, power_after}
use Rattle.mc_reader.specs.Lines.{line_in, number_after}
use Rattle.mc_reader.specs.Answers.{answer_to}
use Rattle.mc_reader.specs.Readings.{TookPart, TookNone, TookShort}
use Rattle.mc_reader.specs.Moments.{Moment, Records, AreMoments}
use Rattle.mc_reader.specs.Sessions.{AroundSession, AnswersWritten, EndsBy}
use Rattle.mc_reader.specs.Serving.{Moves, ServesFrame, ServedFrames, ServedFrom, IsServedMoment}
use Rattle.mc_reader.specs.declared.serve_error.ServeError.{ServeError}
use Rattle.mc_reader.specs.declared.serve_error.ServeError.TheVariants as fault
use Rattle.mc_reader.proofs.FrameLemmas.{LengthFits, each_bytes, frames_are, framed_more, fits_more}
use Rattle.mc_reader.proofs.AnswerLemmas.{written_more, written_cut}
use Rattle.mc_reader.proofs.MomentLemmas.{records_none, records_append, moments_kept, moments_more, moments_last}
use Rattle.mc_reader.proofs.ServingLemmas.{failures_of_move, frames_none, frames_on}
use Rattle.mc_script.proofs.LinedLemmas.{at_stands}

-- the state of host, sink and bench when a loop began
pub record Start : Type 0 where
  pub left : Option (List ℕ)
  pub reads : ℕ
  pub out : Sunk
  pub dev : Bench
  pub asked : Option (List Moment)

-- the state of a host: the bytes that it has left, its count of faults, and the moments that it has recorded
pub record Heard : Type 0 where
  pub left : Option (List ℕ)
  pub reads : ℕ
  pub asked : Option (List Moment)

-- the state of host, sink and bench then and now
abbrev pub around : Start → Heard → Sunk → Bench → AroundSession
around v h out dev =
    record {
      left_old = v.left;
      left = h.left;
      reads_old = v.reads;
      reads = h.reads;
      out_old = v.out;
      out = out;
      dev_old = v.dev;
      dev = dev;
      asked_old = v.asked;
      asked = h.asked;
    }

-- the frames of a moment of a session stay so with more failed writes after it
moment_kept : (s : State) (n : ℕ) (ws vs : List (Option FailedWrite)) (a : Bench) (x : Sunk) (fs : List (List ℕ)) (m : Moment) → IsServedMoment s n ws a x fs m → IsServedMoment s n (ws ++ vs) a x fs m
moment_kept s n ws vs a x fs m h =
    record {
      first = h.first;
      later = h.later ++ vs;
      parts = ap (λ (us : List (Option FailedWrite)). us ++ vs) h.parts ∙ append_assoc h.first h.later vs;
      answers = h.answers;
      served = h.served;
      written = h.written;
    }

module _ {N : Type 0} (state : N → DeviceState) (bench : N → BenchState) where
  -- the moment of a player and a sink
  abbrev pub moment_of : Player N → Sunk → Moment
  moment_of p out = record { dev = bench_of state bench p; out = out }

  -- `count` frames were served, and the player represents a state of the play: whatever frames are served from here,
  -- they and those before them are served from the start; each of them was asked for at its moment
  pub record SessionReached (s : State) (n : ℕ) (v : Start) (count : ℕ) (p : Player N) (powered : Bool) (heard : Heard) (out : Sunk) : Type 0 where
    pub frames : List (List ℕ)
    pub answers : List (Option (List ℕ))
    pub worn : List (Option FailedWrite)
    pub here : State
    pub number : ℕ
    pub at : IsPlayerAt state bench p here
    pub rest : (fs : List (List ℕ)) (ws : List (Option FailedWrite)) (os : List (Option (List ℕ))) (c : Bench)
        → ServedFrames here number powered fs ws (bench_of state bench p) os c → ServedFrames s n false (frames ++ fs) (worn ++ ws) v.dev (answers ++ os) c
    pub fit : AllByRecursion LengthFits frames
    pub took : Took v.left heard.left (frames_bytes frames)
    pub counted : v.reads ≤ heard.reads
    pub written : AnswersWritten v.out answers out
    pub many : length frames ≡ count
    pub moments : List Moment
    pub recorded : Records v.asked moments heard.asked
    pub each : AreMoments (IsServedMoment s n worn v.dev v.out) [] frames moments
    pub all_asked : length moments ≡ length frames

  -- no frame was served
  pub reached_start : (s : State) (n : ℕ) (p : Player N) (heard : Heard) (out : Sunk) → IsPlayerAt state bench p s
      → SessionReached s n (record { left = heard.left; reads = heard.reads; out = out; dev = bench_of state bench p; asked = heard.asked }) 0 p false heard out
  reached_start s n p heard out at =
      record {
        frames = [];
        answers = [];
        worn = [];
        here = s;
        number = n;
        at = at;
        rest = λ fs ws os c h. h;
        fit = tt;
        took = took_none heard.left;
        counted = omega arith;
        written = record { whole = grew_none out.taken; counted = refl };
        many = refl;
        moments = [];
        recorded = records_none heard.asked;
        each = refl;
        all_asked = refl;
      }

  -- nothing more is served from here
  served_here : (s : State) (n : ℕ) (v : Start) (count : ℕ) (p : Player N) (powered : Bool) (heard : Heard) (out : Sunk)
      (h : SessionReached s n v count p powered heard out) → ServedFrames s n false h.frames h.worn v.dev h.answers (bench_of state bench p)
  served_here s n v count p powered heard out h =
      let b = bench_of state bench p in
      let none = frames_none h.here h.number powered b (at_stands state bench p h.here h.at) h.at.unfused in
      subst (λ (gs : List (List ℕ)). ServedFrames s n false gs h.worn v.dev h.answers b) (append-nil h.frames)
      (subst (λ (ws : List (Option FailedWrite)). ServedFrames s n false (h.frames ++ []) ws v.dev h.answers b) (append-nil h.worn)
      (subst (λ (qs : List (Option (List ℕ))). ServedFrames s n false (h.frames ++ []) (h.worn ++ []) v.dev qs b) (append-nil h.answers) (h.rest [] [] [] b none)))

  -- the moment at which the host is asked for the next frame
  moment_here : (s : State) (n : ℕ) (v : Start) (count : ℕ) (p : Player N) (powered : Bool) (heard : Heard) (out : Sunk)
      (h : SessionReached s n v count p powered heard out) (ws : List (Option FailedWrite)) → IsServedMoment s n (h.worn ++ ws) v.dev v.out h.frames (moment_of p out)
  moment_here s n v count p powered heard out h ws =
      record {
        first = h.worn;
        later = ws;
        parts = refl;
        answers = h.answers;
        served = served_here s n v count p powered heard out h;
        written = h.written;
      }

  -- the moments so far and this one, with one frame more after it
  moments_on : (s : State) (n : ℕ) (v : Start) (count : ℕ) (p : Player N) (powered : Bool) (heard : Heard) (out : Sunk)
      (h : SessionReached s n v count p powered heard out) (f : List ℕ) (ws : List (Option FailedWrite))
      → AreMoments (IsServedMoment s n (h.worn ++ ws) v.dev v.out) [] (h.frames ++ f ∷ []) (h.moments ++ moment_of p out ∷ [])
  moments_on s n v count p powered heard out h f ws =
      let Is = IsServedMoment s n (h.worn ++ ws) v.dev v.out in
      moments_more Is [] h.frames h.moments f (moment_of p out) h.all_asked
      (moments_kept (IsServedMoment s n h.worn v.dev v.out) Is (λ fs m k. moment_kept s n h.worn ws v.dev v.out fs m k) [] h.frames h.moments h.each)
      (moment_here s n v count p powered heard out h ws)

  -- frames that are served after one more are served from the start with those before them
  rest_on : (s : State) (n : ℕ) (v : Start) (count : ℕ) (p q : Player N) (powered : Bool) (heard : Heard) (out : Sunk)
      (h : SessionReached s n v count p powered heard out) (f : List ℕ) (u : State) (reported : Option LineResult)
      (moves : Moves h.here h.number (line_in (meaning powered f)) (bench_of state bench p) reported u (bench_of state bench q))
      (fs : List (List ℕ)) (ws : List (Option FailedWrite)) (os : List (Option (List ℕ))) (c : Bench)
      → ServedFrames u (number_after h.number (line_in (meaning powered f))) (power_after powered (meaning powered f)) fs ws (bench_of state bench q) os c
      → ServedFrames s n false ((h.frames ++ f ∷ []) ++ fs) ((h.worn ++ failures_of_move h.here u h.number (line_in (meaning powered f)) (bench_of state bench p) (bench_of state bench q) reported moves) ++ ws) v.dev ((h.answers ++ answer_to (meaning powered f) reported ∷ []) ++ os) c
  rest_on s n v count p q powered heard out h f u reported moves fs ws os c served =
      let o = answer_to (meaning powered f) reported in
      let w = failures_of_move h.here u h.number (line_in (meaning powered f)) (bench_of state bench p) (bench_of state bench q) reported moves in
      let whole = h.rest (f ∷ fs) (w ++ ws) (o ∷ os) c (frames_on h.here u h.number powered f fs ws (bench_of state bench p) (bench_of state bench q) c reported os moves served) in
      subst (λ (gs : List (List ℕ)). ServedFrames s n false gs ((h.worn ++ w) ++ ws) v.dev ((h.answers ++ o ∷ []) ++ os) c) (sym (append_assoc h.frames (f ∷ []) fs))
      (subst (λ (us : List (Option FailedWrite)). ServedFrames s n false (h.frames ++ f ∷ fs) us v.dev ((h.answers ++ o ∷ []) ++ os) c) (sym (append_assoc h.worn w ws))
      (subst (λ (qs : List (Option (List ℕ))). ServedFrames s n false (h.frames ++ f ∷ fs) (h.worn ++ (w ++ ws)) v.dev qs c) (sym (append_assoc h.answers (o ∷ []) os)) whole))

  -- the bytes of one more frame
  took_on : (v : Start) (fs : List (List ℕ)) (f : List ℕ) (left next : Option (List ℕ)) → Took v.left left (frames_bytes fs) → Took left next (frame_bytes f) → Took v.left next (frames_bytes (fs ++ f ∷ []))
  took_on v fs f left next h k =
      subst (λ (t : List ℕ). Took v.left next t) (sym (framed_more fs f)) (took_append v.left left next (frames_bytes fs) (frame_bytes f) h k)

  many_on : (fs : List (List ℕ)) (f : List ℕ) (count : ℕ) → length fs ≡ count → length (fs ++ f ∷ []) ≡ count + 1
  many_on fs f count is = let e = length-append fs (f ∷ []) in omega (arith, is, e)

  asked_on : (fs : List (List ℕ)) (f : List ℕ) (ms : List Moment) (m : Moment) → length ms ≡ length fs → length (ms ++ m ∷ []) ≡ length (fs ++ f ∷ [])
  asked_on fs f ms m is =
      let e = length-append fs (f ∷ []) in
      let k = length-append ms (m ∷ []) in
      omega (arith, is, e, k)

  -- one frame more was served, and its answer was written
  pub reached_on : (s : State) (n : ℕ) (v : Start) (count : ℕ) (p q : Player N) (powered on : Bool) (heard more : Heard) (out wrote : Sunk)
      (h : SessionReached s n v count p powered heard out) (f : List ℕ) → LengthFits f → Took heard.left more.left (frame_bytes f) → heard.reads ≤ more.reads
      → Records heard.asked (moment_of p out ∷ []) more.asked → on ≡ power_after powered (meaning powered f)
      → ServesFrame state bench p h.here h.number (meaning powered f) out (Ok tt) q wrote → SessionReached s n v (count + 1) q on more wrote
  reached_on s n v count p q powered on heard more out wrote h f fits took counted recorded power served =
      let w = failures_of_move h.here served.after h.number (line_in (meaning powered f)) (bench_of state bench p) (bench_of state bench q) served.reported served.moves in
      record {
        frames = h.frames ++ f ∷ [];
        answers = h.answers ++ answer_to (meaning powered f) served.reported ∷ [];
        worn = h.worn ++ w;
        here = served.after;
        number = number_after h.number (line_in (meaning powered f));
        at = served.at;
        rest =
            subst (λ (b : Bool). (fs : List (List ℕ)) (ws : List (Option FailedWrite)) (os : List (Option (List ℕ))) (c : Bench)
            → ServedFrames served.after (number_after h.number (line_in (meaning powered f))) b fs ws (bench_of state bench q) os c
            → ServedFrames s n false ((h.frames ++ f ∷ []) ++ fs) ((h.worn ++ w) ++ ws) v.dev ((h.answers ++ answer_to (meaning powered f) served.reported ∷ []) ++ os) c) (sym power)
            (rest_on s n v count p q powered heard out h f served.after served.reported served.moves);
        fit = fits_more h.frames f h.fit fits;
        took = took_on v h.frames f heard.left more.left h.took took;
        counted = omega (arith, h.counted, counted);
        written = written_more v.out out wrote h.answers (answer_to (meaning powered f) served.reported) h.written served.puts;
        many = many_on h.frames f count h.many;
        moments = h.moments ++ moment_of p out ∷ [];
        recorded = records_append v.asked heard.asked more.asked h.moments (moment_of p out ∷ []) h.recorded recorded;
        each = moments_on s n v count p powered heard out h f w;
        all_asked = asked_on h.frames f h.moments (moment_of p out) h.all_asked;
      }

  -- no more frame is served after those that were, and the host was asked for it
  served_end : (s : State) (n : ℕ) (v : Start) (count : ℕ) (p : Player N) (powered : Bool) (heard more : Heard) (out : Sunk)
      (h : SessionReached s n v count p powered heard out) (part : List ℕ) (result : Result (Unit {0}) ServeError) → Took heard.left more.left part → first_frame part ≡ None → heard.reads ≤ more.reads
      → Records heard.asked (moment_of p out ∷ []) more.asked
      → EndsBy h.frames part h.answers result (around v more out (bench_of state bench p)) → ServedFrom s n result (around v more out (bench_of state bench p))
  served_end s n v count p powered heard more out h part result took less counted recorded ends =
      let m = moment_of p out in
      record {
        frames = h.frames;
        part = part;
        taken = frames_bytes h.frames ++ part;
        took = took_append v.left heard.left more.left (frames_bytes h.frames) part h.took took;
        read = frames_are h.frames part h.fit less;
        bytes = each_bytes h.frames h.fit;
        counted = omega (arith, h.counted, counted);
        answers = h.answers;
        worn = h.worn;
        served = served_here s n v count p powered heard out h;
        moments = h.moments ++ m ∷ [];
        recorded = records_append v.asked heard.asked more.asked h.moments (m ∷ []) h.recorded recorded;
        each =
            moments_last (IsServedMoment s n h.worn v.dev v.out) [] h.frames h.moments m h.all_asked h.each
            (subst (λ (ws : List (Option FailedWrite)). IsServedMoment s n ws v.dev v.out h.frames m) (append-nil h.worn) (moment_here s n v count p powered heard out h []));
        ends = ends;
      }

  -- the input ended between two frames
  pub served_whole : (s : State) (n : ℕ) (v : Start) (count : ℕ) (p : Player N) (powered : Bool) (heard more : Heard) (out : Sunk)
      → SessionReached s n v count p powered heard out → TookNone heard.left more.left → heard.reads ≤ more.reads → Records heard.asked (moment_of p out ∷ []) more.asked
      → ServedFrom s n (Ok tt) (around v more out (bench_of state bench p))
  served_whole s n v count p powered heard more out h took counted recorded =
      served_end s n v count p powered heard more out h [] (Ok tt) took.took refl counted recorded (record { between = refl; end = inl took.end; written = h.written })

  -- the greatest number of frames that can be counted was received
  pub served_all : (s : State) (n : ℕ) (v : Start) (count : ℕ) (p : Player N) (powered : Bool) (heard : Heard) (out : Sunk)
      → SessionReached s n v count p powered heard out → last_count ≤ count → ServedFrom s n (Ok tt) (around v heard out (bench_of state bench p))
  served_all s n v count p powered heard out h all =
      let behind : last_count ≤ length h.frames = subst (λ (k : ℕ). last_count ≤ k) (sym h.many) all in
      record {
        frames = h.frames;
        part = [];
        taken = frames_bytes h.frames ++ [];
        took = took_append v.left heard.left heard.left (frames_bytes h.frames) [] h.took (took_none heard.left);
        read = frames_are h.frames [] h.fit refl;
        bytes = each_bytes h.frames h.fit;
        counted = h.counted;
        answers = h.answers;
        worn = h.worn;
        served = served_here s n v count p powered heard out h;
        moments = h.moments;
        recorded = h.recorded;
        each = h.each;
        ends = record { between = refl; end = inr behind; written = h.written };
      }

  -- the input ended inside a frame
  pub served_short : (s : State) (n : ℕ) (v : Start) (count : ℕ) (p : Player N) (powered : Bool) (heard more : Heard) (out : Sunk)
      → SessionReached s n v count p powered heard out → TookShort heard.left more.left → heard.reads ≤ more.reads → Records heard.asked (moment_of p out ∷ []) more.asked
      → ServedFrom s n (Err (fault.Short (count + 1))) (around v more out (bench_of state bench p))
  served_short s n v count p powered heard more out h took counted recorded =
      served_end s n v count p powered heard more out h took.took.part (Err (fault.Short (count + 1))) took.took.took took.took.less counted recorded
      (record { some = took.some; end = took.end; number = ap (λ k. k + 1) (sym h.many); written = h.written })

  -- the host failed
  pub served_unread : (s : State) (n : ℕ) (v : Start) (count : ℕ) (p : Player N) (powered : Bool) (heard more : Heard) (out : Sunk)
      → SessionReached s n v count p powered heard out → TookPart heard.left more.left → Rose heard.reads more.reads → heard.reads ≤ more.reads → Records heard.asked (moment_of p out ∷ []) more.asked
      → ServedFrom s n (Err fault.ReadFault) (around v more out (bench_of state bench p))
  served_unread s n v count p powered heard more out h took cause counted recorded =
      served_end s n v count p powered heard more out h took.part (Err fault.ReadFault) took.took took.less counted recorded
      (record { cause = rose_later v.reads heard.reads more.reads h.counted cause; written = h.written })

  -- the sink failed in the answer of a frame
  pub served_cut : (s : State) (n : ℕ) (v : Start) (count : ℕ) (p q : Player N) (powered : Bool) (heard more : Heard) (out wrote : Sunk) (e : WriteFault)
      (h : SessionReached s n v count p powered heard out) (f : List ℕ) → LengthFits f → Took heard.left more.left (frame_bytes f) → heard.reads ≤ more.reads
      → Records heard.asked (moment_of p out ∷ []) more.asked
      → ServesFrame state bench p h.here h.number (meaning powered f) out (Err e) q wrote → ServedFrom s n (Err fault.WriteFault) (around v more wrote (bench_of state bench q))
  served_cut s n v count p q powered heard more out wrote e h f fits took counted recorded served =
      let b = bench_of state bench q in
      let o = answer_to (meaning powered f) served.reported in
      let fs = h.frames ++ f ∷ [] in
      let qs = h.answers ++ o ∷ [] in
      let w = failures_of_move h.here served.after h.number (line_in (meaning powered f)) (bench_of state bench p) b served.reported served.moves in
      let ws = h.worn ++ w in
      let none = frames_none served.after (number_after h.number (line_in (meaning powered f))) (power_after powered (meaning powered f)) b (at_stands state bench q served.after served.at) served.at.unfused in
      let whole = rest_on s n v count p q powered heard out h f served.after served.reported served.moves [] [] [] b none in
      record {
        frames = fs;
        part = [];
        taken = frames_bytes fs ++ [];
        took = took_append v.left more.left more.left (frames_bytes fs) [] (took_on v h.frames f heard.left more.left h.took took) (took_none more.left);
        read = frames_are fs [] (fits_more h.frames f h.fit fits) refl;
        bytes = each_bytes fs (fits_more h.frames f h.fit fits);
        counted = omega (arith, h.counted, counted);
        answers = qs;
        worn = ws;
        served =
            subst (λ (gs : List (List ℕ)). ServedFrames s n false gs ws v.dev qs b) (append-nil fs)
            (subst (λ (us : List (Option FailedWrite)). ServedFrames s n false (fs ++ []) us v.dev qs b) (append-nil ws)
            (subst (λ (os : List (Option (List ℕ))). ServedFrames s n false (fs ++ []) (ws ++ []) v.dev os b) (append-nil qs) whole));
        moments = h.moments ++ moment_of p out ∷ [];
        recorded = records_append v.asked heard.asked more.asked h.moments (moment_of p out ∷ []) h.recorded recorded;
        each = moments_on s n v count p powered heard out h f w;
        ends = record { between = refl; written = written_cut v.out out wrote h.answers o h.written served.puts };
      }
