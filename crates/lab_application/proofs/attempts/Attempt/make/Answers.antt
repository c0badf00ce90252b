use Rattle.std.proofs.Common.{refl, sym}
use Rattle.lab_search.specs.Kept.{names_in}
use Rattle.lab_search.proofs.RoundLemmas.{held_at, kept_at}
use Rattle.lab_application.proofs.SearchLemmas.{all_reached, on_ok_then, same_then, tried_missed, tried_reached}
use Rattle.lab_application.proofs.ShadowLemmas.{never_broken}
use Rattle.lab_application.proofs.attempts.Attempt.make.Goals as goal

pub attempt-requires : goal.attempt-requires
attempt-requires g c =
    let q = c.requires.can in
    let d = q.0 in
    (d.rules.allowances, d.rules.ons, (q.2).state, q.3, kept_at d c.args.search.now q.1 q.2 c.args.self.now.before c.in-Some.state.now (q.4).at c.in-Some.ensures.key, (q.4).candidate, q.5, (q.4).at.holds.counts)

pub returns-in-NotHit-clause-same : goal.returns-in-NotHit-clause-same
returns-in-NotHit-clause-same g c = record { keeps = c.in_ok-tried.ensures.keeps; room = refl; states = refl; steps = refl }

pub returns-in-NotHit-clause-made : goal.returns-in-NotHit-clause-made
returns-in-NotHit-clause-made g c =
    λ d ns n m h k.
    let kept = kept_at d c.args.search.now ns n c.args.self.now.before c.in-Some.state.now h.at c.in-Some.ensures.key in
    tried_missed c.attempt.new.self c.attempt.new.rosters (names_in d.rules) d.rules.ons n.state m c.args.manner c.in_ok-tried.tried c.in-NotHit.is (c.in_ok-tried.ensures.tried d.rules.allowances d.rules.ons n.state m kept h.candidate k)

pub look-requires : goal.look-requires
look-requires g c =
    let q = c.requires.can in
    let d = q.0 in
    let n = q.2 in
    let m = q.3 in
    let h = q.4 in
    let kept = kept_at d c.args.search.now q.1 n c.args.self.now.before c.in-Some.state.now h.at c.in-Some.ensures.key in
    let t = tried_reached c.attempt.new.self c.attempt.new.rosters (names_in d.rules) d.rules.ons n.state m c.args.manner c.in_ok-tried.tried c.in-Reached.state c.in-Reached.is (c.in_ok-tried.ensures.tried d.rules.allowances d.rules.ons n.state m kept h.candidate q.5) in
    (names_in d.rules, t.1.0, t.1.1)

pub returns-in-Reached-clause-same : goal.returns-in-Reached-clause-same
returns-in-Reached-clause-same g c =
    on_ok_then c.look.result _ _ (λ h. same_then c.args.search.now _ c.look.new.search (record { keeps = c.in_ok-tried.ensures.keeps; room = refl; states = refl; steps = refl }) h) c.look.ensures.same

pub returns-in-Reached-clause-made : goal.returns-in-Reached-clause-made
returns-in-Reached-clause-made g c =
    all_reached c.args.search.now c.look.new.search c.args.self.now.candidate.now c.args.self.now.before c.args.self.now.chosen c.args.manner c.look.result
    (λ d ns n m h k.
    let kept = kept_at d c.args.search.now ns n c.args.self.now.before c.in-Some.state.now h.at c.in-Some.ensures.key in
    let t = tried_reached c.attempt.new.self c.attempt.new.rosters (names_in d.rules) d.rules.ons n.state m c.args.manner c.in_ok-tried.tried c.in-Reached.state c.in-Reached.is (c.in_ok-tried.ensures.tried d.rules.allowances d.rules.ons n.state m kept h.candidate k) in
    (t.0, c.look.ensures.reached (names_in d.rules) t.1))

pub unreachable-requires : goal.unreachable-requires
unreachable-requires g c =
    let q = c.requires.can in
    held_at q.0 c.args.search.now q.1 q.2 c.args.self.now.before (q.4).at (sym c.in_default.ensures.key)

pub unreachable-requires-in-Broken : goal.unreachable-requires-in-Broken
unreachable-requires-in-Broken g c =
    let q = c.requires.can in
    let d = q.0 in
    let kept = kept_at d c.args.search.now q.1 q.2 c.args.self.now.before c.in-Some.state.now (q.4).at c.in-Some.ensures.key in
    never_broken c.attempt.new.self c.attempt.new.rosters (names_in d.rules) d.rules.allowances c.args.self.now.candidate.now.ons.now d.rules.ons (q.2).state q.3 c.args.manner c.in_ok-tried.tried _ (q.4).candidate.ons c.requires.allows
    (c.in_ok-tried.ensures.tried d.rules.allowances d.rules.ons (q.2).state q.3 kept (q.4).candidate q.5) c.in-Broken.is
