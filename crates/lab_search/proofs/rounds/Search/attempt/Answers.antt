use Rattle.std.proofs.Common.{None, Some, refl, sym}
use Rattle.lab_search.specs.Rounds.{tally_of}
use Rattle.lab_search.proofs.RoundLemmas.{broken, held_at, kept_at, missed, reached}
use Rattle.lab_search.proofs.TallyLemmas.{broken_counts, reached_counts, tally_more}
use Rattle.lab_search.proofs.rounds.Search.attempt.Goals as goal

pub returns-in-NotHit : goal.returns-in-NotHit
returns-in-NotHit g c =
    λ d ns n m h k.
    let kept = kept_at d c.args.self.now ns n c.args.step.before c.in-Some.state.now h.at c.in-Some.ensures.key in
    missed d c.args.self.now _ ns n m c.args.candidate.now c.args.step c.in_ok-tried.tried c.in_ok-tried.ensures.keeps refl refl refl refl h
    (c.in_ok-tried.ensures.tried d.rules.allowances d.rules.ons n.state m kept h.candidate k) c.in-NotHit.is

pub returns-in_ok-count-in-Broken : goal.returns-in_ok-count-in-Broken
returns-in_ok-count-in-Broken g c =
    λ d ns n m h k.
    let kept = kept_at d c.args.self.now ns n c.args.step.before c.in-Some.state.now h.at c.in-Some.ensures.key in
    let counts = broken_counts c.attempt.new.self d.rules.ons n.state m c.args.step.manner c.in_ok-tried.tried c.in-Broken.allowance c.in-Broken.is (c.in_ok-tried.ensures.counted d.rules.allowances d.rules.ons n.state m kept h.candidate k) in
    let more = tally_more d.rules.ons n.state m c.args.step.manner (tally_of c.args.self.now) _ _ counts c.in_ok-count-in-Broken.ensures.tries c.in_ok-count-in-Broken.ensures.heard in
    broken d c.args.self.now _ ns n m c.args.candidate.now c.args.step c.in-Broken.allowance c.in_ok-tried.tried c.in_ok-tried.ensures.keeps refl refl refl more h
    (c.in_ok-tried.ensures.tried d.rules.allowances d.rules.ons n.state m kept h.candidate k) c.in-Broken.is

pub returns-in-None : goal.returns-in-None
returns-in-None g c =
    λ d ns n m h k.
    let kept = kept_at d c.args.self.now ns n c.args.step.before c.in-Some.state.now h.at c.in-Some.ensures.key in
    let counts = reached_counts c.attempt.new.self d.rules.ons n.state m c.args.step.manner c.in_ok-tried.tried c.in-Reached.state c.in-Reached.is (c.in_ok-tried.ensures.counted d.rules.allowances d.rules.ons n.state m kept h.candidate k) in
    let more = tally_more d.rules.ons n.state m c.args.step.manner (tally_of c.args.self.now) _ _ counts c.in_ok-count-in-Reached.ensures.tries c.in_ok-count-in-Reached.ensures.heard in
    reached d c.args.self.now _ c.keep.new.self ns n m c.args.candidate.now c.args.step c.in-Reached.state c.in_ok-tried.tried c.in_ok-keep-in-Reached.field-0
    c.in_ok-tried.ensures.keeps refl refl refl more h (c.in_ok-tried.ensures.tried d.rules.allowances d.rules.ons n.state m kept h.candidate k)
    c.in-Reached.is (λ t e. c.in_ok-keep-in-Reached.ensures.comes d ns n t e) None c.in-None.is

pub returns-in-Some-2 : goal.returns-in-Some-2
returns-in-Some-2 g c =
    λ d ns n m h k.
    let kept = kept_at d c.args.self.now ns n c.args.step.before c.in-Some.state.now h.at c.in-Some.ensures.key in
    let counts = reached_counts c.attempt.new.self d.rules.ons n.state m c.args.step.manner c.in_ok-tried.tried c.in-Reached.state c.in-Reached.is (c.in_ok-tried.ensures.counted d.rules.allowances d.rules.ons n.state m kept h.candidate k) in
    let more = tally_more d.rules.ons n.state m c.args.step.manner (tally_of c.args.self.now) _ _ counts c.in_ok-count-in-Reached.ensures.tries c.in_ok-count-in-Reached.ensures.heard in
    reached d c.args.self.now _ c.keep.new.self ns n m c.args.candidate.now c.args.step c.in-Reached.state c.in_ok-tried.tried c.in_ok-keep-in-Reached.field-0
    c.in_ok-tried.ensures.keeps refl refl refl more h (c.in_ok-tried.ensures.tried d.rules.allowances d.rules.ons n.state m kept h.candidate k)
    c.in-Reached.is (λ t e. c.in_ok-keep-in-Reached.ensures.comes d ns n t e) (Some c.in-Some-2.halt) c.in-Some-2.is

pub attempt-requires : goal.attempt-requires
attempt-requires g c =
    let q = c.requires in
    let d = q.0 in
    (d.rules.allowances, d.rules.ons, (q.2).state, q.3, kept_at d c.args.self.now q.1 q.2 c.args.step.before c.in-Some.state.now (q.4).at c.in-Some.ensures.key, (q.4).candidate, q.5, (q.4).at.holds.counts)

pub unreachable-requires : goal.unreachable-requires
unreachable-requires g c =
    let q = c.requires in
    held_at q.0 c.args.self.now q.1 q.2 c.args.step.before (q.4).at (sym c.in_default.ensures.key)
