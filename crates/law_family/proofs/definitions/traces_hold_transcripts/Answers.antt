use Rattle.law_family.proofs.TraceLines.{trace_law}
use Rattle.law_family.proofs.definitions.traces_hold_transcripts.Goals as goal

pub returns : goal.returns
returns c = trace_law
