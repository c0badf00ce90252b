use Rattle.std.proofs.Common.{subst, sym, ◌∙◌, ap}
use Rattle.std.specs.Prelude.{List, ℕ}
use Rattle.lab_deck.specs.law_explore_text.specs.law_explore.specs.Rules.{exploration_read}
use Rattle.lab_deck.specs.law_histories.specs.Histories.{app_exploration_read, names_application}
use Rattle.mc_filter.specs.Inputs.{ReadWhole, Rejects}
use Rattle.mc_filter.specs.Outside.{outside, Outside}
use Rattle.mc_filter.specs.declared.status.Status.{Status}
use Rattle.mellab.specs.declared.job.Job.TheVariants as job
use Rattle.mellab.specs.Running.{refused_application, refused_exploration, EndsApplication, EndsExploration, RejectsLabJob}
use Rattle.mellab.specs.Statuses.{MellabEnds}
use Rattle.mellab.proofs.ExplorationLemmas.{ends_application, ends_moves, if_err, if_ok, rejects_application, rejects_moves}
use Rattle.mellab.proofs.exploring.explore_input.Goals as goal

pub returns-then-names_application-clause-ends : goal.returns-then-names_application-clause-ends
returns-then-names_application-clause-ends g c =
    let a : Outside = outside g.S.Source g.T.Sink c.args.input.now c.read_input.new.input c.args.out.now c.explore_application.new.out in
    let text = c.as_slice-then-names_application.result.now in
    let read = subst (λ (t : List ℕ). ReadWhole a.input_old a.input t) (sym c.as_slice-then-names_application.ensures.value) c.in_ok-text.ensures.read in
    let named = ap names_application (c.as_slice-then-names_application.ensures.value ∙ sym c.as_slice.ensures.value) ∙ sym c.names_application.ensures ∙ c.if-names_application.true in
    if_ok (EndsApplication c.args.depth text a.out_old a.out) (MellabEnds (job.Explore c.args.depth c.args.most) a) c.explore_application.result
    (λ s h. ends_application c.args.depth c.args.most a text read s named h) c.explore_application.ensures.ends

pub returns-then-names_application-clause-rejected : goal.returns-then-names_application-clause-rejected
returns-then-names_application-clause-rejected g c =
    let a : Outside = outside g.S.Source g.T.Sink c.args.input.now c.read_input.new.input c.args.out.now c.explore_application.new.out in
    let text = c.as_slice-then-names_application.result.now in
    let read = subst (λ (t : List ℕ). ReadWhole a.input_old a.input t) (sym c.as_slice-then-names_application.ensures.value) c.in_ok-text.ensures.read in
    let named = ap names_application (c.as_slice-then-names_application.ensures.value ∙ sym c.as_slice.ensures.value) ∙ sym c.names_application.ensures ∙ c.if-names_application.true in
    if_err (Rejects (refused_application (app_exploration_read text))) (RejectsLabJob (job.Explore c.args.depth c.args.most) a) c.explore_application.result
    (λ e h. rejects_application c.args.depth c.args.most a text read e named h) c.explore_application.ensures.rejected

pub returns-clause-ends : goal.returns-clause-ends
returns-clause-ends g c =
    let a : Outside = outside g.S.Source g.T.Sink c.args.input.now c.read_input.new.input c.args.out.now c.explore_moves.new.out in
    let text = c.as_slice-2.result.now in
    let read = subst (λ (t : List ℕ). ReadWhole a.input_old a.input t) (sym c.as_slice-2.ensures.value) c.in_ok-text.ensures.read in
    let named = ap names_application (c.as_slice-2.ensures.value ∙ sym c.as_slice.ensures.value) ∙ sym c.names_application.ensures ∙ c.if-names_application.false in
    if_ok (EndsExploration c.args.depth c.args.most text a.out_old a.out) (MellabEnds (job.Explore c.args.depth c.args.most) a) c.explore_moves.result
    (λ s h. ends_moves c.args.depth c.args.most a text read s named h) c.explore_moves.ensures.ends

pub returns-clause-rejected : goal.returns-clause-rejected
returns-clause-rejected g c =
    let a : Outside = outside g.S.Source g.T.Sink c.args.input.now c.read_input.new.input c.args.out.now c.explore_moves.new.out in
    let text = c.as_slice-2.result.now in
    let read = subst (λ (t : List ℕ). ReadWhole a.input_old a.input t) (sym c.as_slice-2.ensures.value) c.in_ok-text.ensures.read in
    let named = ap names_application (c.as_slice-2.ensures.value ∙ sym c.as_slice.ensures.value) ∙ sym c.names_application.ensures ∙ c.if-names_application.false in
    if_err (Rejects (refused_exploration (exploration_read text))) (RejectsLabJob (job.Explore c.args.depth c.args.most) a) c.explore_moves.result
    (λ e h. rejects_moves c.args.depth c.args.most a text read e named h) c.explore_moves.ensures.rejected
