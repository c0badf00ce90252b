use Rattle.std.proofs.Common.{false, codes, ap, ◌∙◌, ◌++◌, List, ℕ}
use Rattle.desk_steps.specs.Json.{runs_more}
use Rattle.desk_steps.specs.Sheets.{adds_as, adds_on}
use Rattle.desk_steps.specs.Shots.{dynamic_changes, public_changes, static_changes}
use Rattle.desk_steps.proofs.ChangeLemmas.{bracketed, three_runs}
use Rattle.desk_steps.proofs.changes.add_changes.Goals as goal

pub returns : goal.returns
returns g c =
    let old = c.args.old.now in
    let new = c.args.new.now in
    let s = static_changes old new in
    let d = dynamic_changes old new in
    let p = public_changes old new in
    let a = c.add_static-any.result in
    let b = c.add_dynamic-any.result in
    let runs = three_runs s d p a b false c.add_static-any.ensures.any c.add_dynamic-any.ensures.any in
    adds_as g.T.Sink _ _ _ _ (bracketed (codes "[") (runs_more false s) (runs_more a d) (runs_more b p) (codes "]") ∙ ap (λ (t : List ℕ). codes "[" ++ t ++ codes "]") runs)
    (adds_on g.T.Sink _ _ _ _ _ (adds_on g.T.Sink _ _ _ _ _ (adds_on g.T.Sink _ _ _ _ _ (adds_on g.T.Sink _ _ _ _ _ c.add.ensures c.add_static-any.ensures.adds) c.add_dynamic-any.ensures.adds) c.add_public.ensures) c.add-2.ensures)
