-- The words that are printed for the causes of the stack checker.
use Rattle.std.specs.Prelude.{ℕ, List, codes}
use Rattle.model_text.specs.declared.checker.CheckCause.{CheckCause}
use Rattle.model_text.specs.declared.checker.CheckCause.TheVariants as check

-- the printed word of why the stack checker refuses code
abbrev pub check_word : CheckCause → List ℕ
check_word check.Undefined = codes "Undefined"
check_word check.Past = codes "Past"
check_word check.Indirect = codes "Indirect"
check_word check.Returns = codes "Returns"
check_word check.Under = codes "Under"
check_word check.Target = codes "Target"
check_word check.Recursive = codes "Recursive"
check_word check.Heights = codes "Heights"
check_word check.Wild = codes "Wild"
check_word check.Deep = codes "Deep"
