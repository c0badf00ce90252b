use Rattle.std.proofs.Common.{◌≤◌, ◌∙◌, ℕ, ap, length, refl, slice_get, subst, sym}
use Rattle.std.proofs.lemmas.Option.{slice_get_read}
use Rattle.lab_search.proofs.EndingLemmas.{has_name, name_at}
use Rattle.lab_search.proofs.endings.name_of.Goals as goal

pub returns-in-Some : goal.returns-in-Some
returns-in-Some c =
    λ x name h k.
    let found = slice_get_read c.deref.result.now (length c.deref.result.now) c.args.allowance c.in-Some.allowance.now refl c.in-Some.ensures.lookup.3.0 c.in-Some.ensures.lookup.1 in
    name_at c.args.exploration.now x c.args.allowance name c.in-Some.allowance.now h k (ap (λ xs. slice_get xs c.args.allowance) (sym c.deref.ensures.value) ∙ found)

pub returns-in-None : goal.returns-in-None
returns-in-None c =
    λ x name h k. absurd (has_name c.args.exploration.now x c.args.allowance name h k (subst (λ (n : ℕ). n ≤ c.args.allowance) (ap length c.deref.ensures.value) c.in-None.ensures.lookup.3))
