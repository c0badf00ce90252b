-- Two plays that give a closed family the same show it the same: both are the card of its own on what is given.
use Rattle.std.proofs.Common.{◌≡◌, ℕ, List, arith}
use Rattle.law_family.specs.model_play.specs.Given.{given_of_play}
use Rattle.law_family.specs.model_play.specs.Play.{Step, start}
use Rattle.law_family.specs.model_play.specs.View.{IsIsolated}
use Rattle.law_family.proofs.PlayLaw.{isolation_law}
use Rattle.law_closed.specs.Laws.{SeesTheSame, SameGivenLaw, front_of_play}

seen_alike : (K m d : List (List ℕ)) (us vs : List Step) → IsIsolated K (start m) us → IsIsolated K (start d) vs → given_of_play K us ≡ given_of_play K vs → SeesTheSame K m d us vs
seen_alike K m d us vs here there same = grind arith

-- two plays that give a closed family the same show it the same
pub same_given_law : SameGivenLaw
same_given_law K ls m ws may js d vs may_there n k here there same =
    seen_alike K m d (front_of_play ls m ws n) (front_of_play js d vs k) ((isolation_law ls m ws may n).family K here) ((isolation_law js d vs may_there k).family K there) same
