-- The calls of a source and a sink over memory, exactly.
use Rattle.std.specs.Prelude.{ℕ, ◌+◌, ◌-◌, ◌==◌, min, nat_le, Bool, true, false, ◌||◌, ◌&&◌, not, cond, List, [], ◌∷◌, ◌++◌, length, take, drop, Result, Ok, Err}
use Rattle.std.specs.List.{list_any}
use Rattle.mc_streams.specs.Streams.{one_more}
use Rattle.mc_streams.specs.declared.refusals.Failed.{Failed}

-- the state of a source over bytes: what is left, the numbers of the calls that fail, and the counts of calls and of
-- failed ones
pub record SourceLeft : Type 0 where
  pub bytes : List ℕ
  pub fail_at : List ℕ
  pub calls : ℕ
  pub faults : ℕ

-- the state of a sink into memory: what it took, the number of bytes that still fit, the numbers of the calls that
-- fail, the counts, and whether each call so far took its whole piece
pub record SinkTaken : Type 0 where
  pub bytes : List ℕ
  pub room : ℕ
  pub fail_at : List ℕ
  pub calls : ℕ
  pub faults : ℕ
  pub whole : Bool

-- whether the next call of this source fails
abbrev pub take_fails : SourceLeft → Bool
take_fails s = list_any (λ number. number == one_more s.calls) s.fail_at

-- the source after a call that failed, or that took n bytes
abbrev pub source_after_call : SourceLeft → Bool → ℕ → SourceLeft
source_after_call s true n = record s { calls = one_more s.calls; faults = one_more s.faults }
source_after_call s false n = record s { bytes = drop n s.bytes; calls = one_more s.calls }

-- whether a put of this piece fails
abbrev pub put_fails : SinkTaken → List ℕ → Bool
put_fails t piece = list_any (λ number. number == one_more t.calls) t.fail_at || ((t.room == 0) && not (length piece == 0))

-- the sink after a put that failed, or that took as much of the piece as fits
abbrev pub sink_after_put : SinkTaken → Bool → List ℕ → SinkTaken
sink_after_put t true piece = record t { calls = one_more t.calls; faults = one_more t.faults }
sink_after_put t false piece =
    record t {
      bytes = t.bytes ++ take (min (length piece) t.room) piece;
      room = t.room - length piece;
      calls = one_more t.calls;
      whole = t.whole && nat_le (length piece) t.room;
    }
