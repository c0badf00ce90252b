use Rattle.std.proofs.Common.{◌≡◌, inr, ℕ, List, Option, Some, refl, ap, sym, subst, ◌∙◌}
use Rattle.std.specs.Prelude.{option_map}
use Rattle.std.proofs.lemmas.Result.{err_from_is_err_and}
use Rattle.mc_machine.specs.Turns.{brief_result, full_turn}
use Rattle.desk_draft.specs.Listings.{CodeLine, Source}
use Rattle.desk_draft.specs.Verdicts.{source_line}
use Rattle.desk_cover.specs.Looking.{section_at}
use Rattle.desk_cover.proofs.TraceLemmas.{is_turn}
use Rattle.desk_cover.proofs.WatchLemmas.{running_watched, turned_watched}
use Rattle.desk_steps.specs.Moments.{Moment, full_of, moment}
use Rattle.desk_steps.specs.Recorded.{recorded_turn, source_number, RecordsTurn}
use Rattle.desk_steps.proofs.TurnLemmas.{source_found, turned_up, was_turn, watches_stopped}
use Rattle.desk_steps.proofs.watching.RecorderWatcher.turn.Goals as goal

pub running_aid-requires : goal.running_aid-requires
running_aid-requires g c = running_watched g.N.Nvm.state c.args.card.now c.requires

pub look_before-requires : goal.look_before-requires
look_before-requires g c = running_watched g.N.Nvm.state c.args.card.now c.requires

pub after_turn-requires-clause-up : goal.after_turn-requires-clause-up
after_turn-requires-clause-up g c = turned_up g.N.Nvm.state g.N.Nvm.wrote c.args.card.now c.brief_turn-2.new.self (full_turn c.in_ok-turn.turn c.brief_turn-2.new.into) c.requires c.in_ok-turn.ensures.done

pub after_turn-requires-clause-watched : goal.after_turn-requires-clause-watched
after_turn-requires-clause-watched g c = turned_watched g.N.Nvm.state g.N.Nvm.wrote c.args.card.now c.brief_turn-2.new.self (full_turn c.in_ok-turn.turn c.brief_turn-2.new.into) c.requires c.in_ok-turn.ensures.done

pub returns-clause-watches : goal.returns-clause-watches
returns-clause-watches g c ch left runs wide =
    let sink = g.T.Sink in
    let q = c.args.self.now in
    let turn = full_turn c.in_ok-turn.turn c.brief_turn-2.new.into in
    let t : Moment = moment left ch in
    let done = c.in_ok-turn.ensures.done ch left runs in
    let index = c.running_section-section.ensures.value ch left runs in
    let o = c.running_section-section.result in
    let is = is_turn left ch turn q.sections.now o done.turn index in
    let p = c.look_before.new.self in
    let named : c.in-Some.aid ≡ ch.frame.name = cc (sym c.in-Some.is ∙ c.running_aid.ensures ch left runs) in
    let was = was_turn g.N.Nvm.state g.N.Nvm.wrote c.args.card.now c.brief_turn-2.new.self ch left c.in_ok-turn.turn c.brief_turn-2.new.into runs wide c.in_ok-turn.ensures.agrees done in
    let quiet = c.look_before.ensures.quiet in
    let source : c.source_of-source.result ≡ source_number q.sections.now t =
    source_found turn q.sections.now o (full_of t) c.source_of-source.result is (c.source_of-source.ensures ∙ ap (λ (ss : List Source). option_map (λ (l : CodeLine). l.number) (source_line (section_at ss o) turn.at)) quiet.keeps.sections)
    in
    let did = c.after_turn.ensures left ch was (c.look_before.ensures.before ch left runs) named wide.frames.0 in
    recorded_turn sink q.sections.now q p c.after_turn.new.self t refl quiet (subst (λ (n : Option ℕ). RecordsTurn sink p n t c.after_turn.new.self) source did)

pub returns-in_default-clause-watches : goal.returns-in_default-clause-watches
returns-in_default-clause-watches g c ch left runs wide = absurd (c.in_default.not-Some _ (c.running_aid.ensures ch left runs))

pub returns-in_err-turn-clause-watches : goal.returns-in_err-turn-clause-watches
returns-in_err-turn-clause-watches g c ch left runs wide =
    let named : c.in-Some.aid ≡ ch.frame.name = cc (sym c.in-Some.is ∙ c.running_aid.ensures ch left runs) in
    let stopped = err_from_is_err_and c.from_residual.result c.from_residual.ensures.1 in
    let look = c.look_before.ensures in
    watches_stopped g.T.Sink left ch (brief_result c.from_residual.result c.brief_turn-2.new.into) stopped.0 c.args.self.now c.look_before.new.self (ap (λ r. brief_result r c.brief_turn-2.new.into) stopped.1) look.quiet (inr (ch, look.first ∙ ap Some named, wide.frames.0, look.before ch left runs))
