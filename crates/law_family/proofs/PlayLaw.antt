-- The laws of plays, for every front of a play and for the whole of it, as other crates cite them.
use Rattle.std.specs.Prelude.{ℕ, List, length, Option}
use Rattle.std.proofs.Common.{arith, subst}
use Rattle.std.proofs.Math.Seq.{take-length}
use Rattle.model_play.specs.DeckGrammar.{DeckLine}
use Rattle.model_play.specs.Play.{FailedWrite, Step, Possible, plays, start}
use Rattle.model_play.specs.Laws.{HoldsOf, IsolationLaw}
use Rattle.law_family.proofs.FamilyFold.{isolated}
use Rattle.law_family.proofs.WholeLines.{whole_lines}
use Rattle.law_family.proofs.FreshFold.{no_stale_byte}
use Rattle.law_family.proofs.FewLines.{few_words}
use Rattle.law_family.proofs.ReadyLines.{ready_again}

pub isolation_law : IsolationLaw
isolation_law ls m ws may n = grind (arith, isolated, whole_lines, no_stale_byte, few_words, ready_again)

-- a whole play is its front of all its lines
pub play_law : (ls : List (ℕ × DeckLine)) (m : List (List ℕ)) (ws : List (Option FailedWrite)) → Possible (start m) ls ws → HoldsOf m (plays (start m) ls ws)
play_law ls m ws may =
    let steps = plays (start m) ls ws in
    subst (λ (us : List Step). HoldsOf m us) (take-length steps) (isolation_law ls m ws may (length steps))
