-- Causes that count.
use Rattle.std.specs.Prelude.{Bool, true, List}
use Rattle.model_machine.specs.declared.machine.Abend.{Abend}
use Rattle.model_prove.specs.Reach.{is_known_cause, known_causes}
use Rattle.prove_scenes.specs.declared.counting.Counted.{Counted}
use Rattle.prove_scenes.specs.declared.counting.Counted.TheVariants.{All, Known}

-- whether a cause counts
abbrev pub counts : Counted → Abend → Bool
counts All abend = true
counts (Known bad_length) abend = is_known_cause bad_length abend

-- the causes that count
abbrev pub counted_causes : Counted → List (Abend × Bool) → List (Abend × Bool)
counted_causes All cs = cs
counted_causes (Known bad_length) cs = known_causes bad_length cs
