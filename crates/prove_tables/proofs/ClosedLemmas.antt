-- What a check of tables says, and what it means for the rules.
use Rattle.std.proofs.Common.{◌≡◌, ◌∙◌, sym, subst, refl, arith}
use Rattle.std.specs.Prelude.{Bool, true, false, List, [], ◌∷◌, length, vec_len, Result, Ok, Err, IfOk}
use Rattle.model_device.specs.declared.memory.NoMemory.{NoMemory}
use Rattle.law_sum_plays.specs.Laws.{ClosedSumsLaw}
use Rattle.law_sum_plays.specs.model_prove.specs.Keys.{Tables}
use Rattle.law_sum_plays.specs.law_prove_closed.specs.ClosedLaw.{ClosedLaw}
use Rattle.law_sum_plays.specs.model_prove.specs.Tables.{is_closed}
use Rattle.law_sum_plays.specs.law_rules.specs.Law.{AreKept}
use Rattle.law_sum_plays.specs.model_rules.specs.Rules.{AppRules, Target, Total}
use Rattle.lab_app_rules.specs.declared.rules.Rules.{Rules}
use Rattle.lab_app_rules.specs.Rules.{AreRules}
use Rattle.lab_app_rules.specs.Sums.{AreSums}
use Rattle.prove_tables.specs.declared.proving.Verdict.{Verdict}
use Rattle.prove_tables.specs.Closed.{AreProved, HasSums, WithoutSums, WithSums}

-- of what is not proved nothing is claimed
pub never_proved : (r : Result Verdict NoMemory) (X : Type 0) → IfOk r (λ v. v.proved ≡ false) → IfOk r (λ v. v.proved ≡ true → X)
never_proved (Ok v) X h = λ t. absurd (cc (sym h ∙ t))
never_proved (Err e) X h = tt

-- a list of length 0 has no elements
pub no_elements : (l : List Total) → length l ≡ 0 → l ≡ []
no_elements [] e = refl
no_elements (x ∷ l) e = absurd (omega (arith, e))

-- what some tables are closed for
abbrev pub AllClosed : Rules → Tables → Type 0
AllClosed rules t = (a : AppRules) (g : Target) → AreRules a g rules → is_closed (record { rules = a; app = g.app }) t ≡ true

-- what a table of sums is closed for, beside some tables
abbrev pub AllHaveSums : Rules → Tables → Type 0
AllHaveSums rules t = (a : AppRules) (g : Target) → AreRules a g rules → AreSums a rules → HasSums a g t

-- what is proved
abbrev pub AllProved : Rules → Type 0
AllProved rules = (a : AppRules) (g : Target) → AreRules a g rules → AreSums a rules → AreProved a g

-- rules without lines of sums are proved by closed tables
pub without_sums : (rules : Rules) (t : Tables) → vec_len rules.balances ≡ 0 → AllClosed rules t → AllProved rules
without_sums rules t none closed = λ a g are sums. WithoutSums (no_elements a.totals (are.totals ∙ none)) (record { tables = t; closed = closed a g are })

-- rules with lines of sums are proved by these and a table of sums
pub with_sums : (rules : Rules) (t u : Tables) (r : Result Bool NoMemory) → t ≡ u → AllClosed rules t → IfOk r (λ even. even ≡ true → AllHaveSums rules u)
    → IfOk r (λ proved. proved ≡ true → AllProved rules)
with_sums rules t u (Ok b) same closed h =
    λ e a g are sums. WithSums (record { tables = u; closed = subst (AllClosed rules) same closed a g are }) (h e a g are sums)
with_sums rules t u (Err e) same closed h = tt

-- what a verdict says of closed tables
abbrev pub SaysProved : Rules → Verdict → Type 0
SaysProved rules v = v.proved ≡ true → (a : AppRules) (g : Target) → AreRules a g rules → AreSums a rules → AreProved a g

-- what it says of the rules
abbrev pub SaysKept : Rules → Verdict → Type 0
SaysKept rules v = v.proved ≡ true → (a : AppRules) (g : Target) → AreRules a g rules → AreSums a rules → AreKept a

-- rules that are proved are kept
kept_of_proved : ClosedLaw → ClosedSumsLaw → (rules : Rules) (a : AppRules) (g : Target) → AreRules a g rules → AreProved a g → AreKept a
kept_of_proved law sums rules a g are (WithoutSums none found) = law a g found.tables are.target are.created.loadable none found.closed
kept_of_proved law sums rules a g are (WithSums found even) = sums a g found.tables even.sums are.target are.created.loadable found.closed even.closed

-- so is what a verdict says of them
kept_of_verdict : ClosedLaw → ClosedSumsLaw → (rules : Rules) (v : Verdict) → SaysProved rules v → SaysKept rules v
kept_of_verdict law sums rules v says t a g are with_sums = kept_of_proved law sums rules a g are (says t a g are with_sums)

-- a verdict on the rules of a subject is one on these
pub kept_if_proved : ClosedLaw → ClosedSumsLaw → (rules others : Rules) → others ≡ rules → (r : Result Verdict NoMemory) → IfOk r (SaysProved others) → IfOk r (SaysKept rules)
kept_if_proved law sums rules others same (Ok v) h = kept_of_verdict law sums rules v (subst (λ (x : Rules). SaysProved x v) same h)
kept_if_proved law sums rules others same (Err e) h = tt
