use Rattle.model_prove.proofs.CompareLemmas.{compare_left, compare_right, touched_holds}
use Rattle.model_prove.proofs.laws.compares_last.Goals as goal

pub returns : goal.returns
returns c = record { first = compare_left; second = compare_right; touched = touched_holds }
