use Rattle.std.proofs.Common.{ℕ, List, subst, sym}
use Rattle.mc_isa.specs.model_machine.specs.declared.machine.Abend.TheVariants.{A07}
use Rattle.mc_isa.specs.model_machine.specs.Code.{instruction_at}
use Rattle.prove_facts.specs.model_prove.specs.Arrivals as arrivals
use Rattle.prove_facts.specs.model_prove.specs.Steps as steps
use Rattle.prove_arrivals.proofs.IncludedLemmas.{both_included}
use Rattle.prove_arrivals.specs.Subjects.{Accepts, known_in, spot_in, start_in, tables_in}
use Rattle.prove_keys.specs.Keys.{amounts_of}
use Rattle.prove_steps.proofs.places.place_holds.Goals as goal

pub returns : goal.returns
returns c h names s o =
    let u = c.args.subject.now in
    let g = c.args.spot.now in
    let p = spot_in names u c.args.begun c.args.amounts.now g in
    both_included (tables_in names u) (arrivals.abended s (start_in u c.args.begun) (amounts_of names c.args.amounts.now) (known_in g) A07) _
    (c.in_ok-abended.ensures c.if-not-branch.false names s o)
    (subst (λ (code : List ℕ). Accepts names u (steps.fetched s p (instruction_at code g.at))) (sym o.subject.code) (c.in_ok-holds.ensures h names s o))
