use Rattle.std.proofs.Common.{false, codes, ap, ◌∙◌, ◌++◌, List, ℕ, []}
use Rattle.mc_text.specs.model_machine.specs.Frame.{dynamic_base, public_base}
use Rattle.law_steps.specs.Runs.{changes}
use Rattle.desk_steps.specs.Json.{runs_more}
use Rattle.desk_steps.specs.Sheets.{adds_as, adds_on}
use Rattle.desk_steps.specs.Shots.{dynamics, shown_public, statics}
use Rattle.desk_steps.proofs.ChangeLemmas.{bracketed, three_runs}
use Rattle.desk_steps.proofs.changes.add_frame.Goals as goal

pub returns : goal.returns
returns g c =
    let shot = c.args.shot.now in
    let s = changes 0 [] (statics shot) in
    let d = changes dynamic_base [] (dynamics shot) in
    let p = changes public_base [] (shown_public c.args.with_public shot) in
    let a = c.add_first_static-any.result in
    let b = c.add_first_dynamic-any.result in
    let runs = three_runs s d p a b false c.add_first_static-any.ensures.any c.add_first_dynamic-any.ensures.any in
    adds_as g.T.Sink _ _ _ _ (bracketed (codes "[") (runs_more false s) (runs_more a d) (runs_more b p) (codes "]") ∙ ap (λ (t : List ℕ). codes "[" ++ t ++ codes "]") runs)
    (adds_on g.T.Sink _ _ _ _ _ (adds_on g.T.Sink _ _ _ _ _ (adds_on g.T.Sink _ _ _ _ _ (adds_on g.T.Sink _ _ _ _ _ c.add.ensures c.add_first_static-any.ensures.adds) c.add_first_dynamic-any.ensures.adds) c.add_first_public.ensures) c.add-2.ensures)
