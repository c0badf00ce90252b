use Rattle.std.proofs.Common.{ℕ, List, inr, subst}
use Rattle.std.proofs.lemmas.Result.{IfOk-weaker}
use Rattle.desk_draft.specs.Loads.{desk_value}
use Rattle.meldesk.specs.Plays.{IsPlayOf, Plays}
use Rattle.meldesk.proofs.PlayLemmas.{play_due}
use Rattle.meldesk.proofs.playing.play_draft.Goals as goal

pub returns-clause-shown : goal.returns-clause-shown
returns-clause-shown g c =
    let d = desk_value c.in_ok-desk.desk in
    let is = subst (λ (t : List ℕ). IsPlayOf t (Plays d)) c.as_slice.ensures.value (play_due c.as_slice.result.now d c.in_ok-desk.ensures.short c.in_ok-desk.ensures.desk) in
    IfOk-weaker c.play_desk.result _ _ (λ s h. record { desk = d; due = inr (record { input = c.in_ok-draft.draft.items; read = c.in_ok-draft.ensures.read; is = is }); shown = h }) c.play_desk.ensures.shown
