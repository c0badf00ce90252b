use Rattle.std.proofs.Common.{false, true}
use Rattle.lab_search.specs.Rounds.{round_in, tally_of}
use Rattle.lab_search.proofs.CourseLemmas.{if_ok, runs_in, tries_later, whole_goes, whole_halts, whole_only, whole_then}
use Rattle.std.proofs.Common.{[], ◌∷◌}
use Rattle.lab_search.specs.declared.journey.Manner.TheVariants as manner
use Rattle.lab_search.specs.Rounds.{tries_from, try_value}
use Rattle.lab_search.proofs.CourseLemmas.{going}
use Rattle.lab_search.proofs.rounds.Search.try_move.Goals as goal

pub returns-in-Halts : goal.returns-in-Halts
returns-in-Halts g c =
    λ d ns n m h. whole_halts d ns n m (round_in d (tally_of c.args.self.now) ns) c.in_ok-halt.field-0 c.in-Halts.halt c.attempt.new.self c.in-Halts.is (c.in_ok-halt.ensures d ns n m h tt)

pub returns-then-not-runs : goal.returns-then-not-runs
returns-then-not-runs g c =
    λ d ns n m h.
    let first = whole_goes d ns (round_in d (tally_of c.args.self.now) ns) _ c.in_ok-halt.field-0 c.attempt.new.self c.in_default.not-Halts (c.in_ok-halt.ensures d ns n m h tt) in
    let runs = runs_in d ns n c.args.before _ c.attempt.new.self c.runs.result false h.at.found (λ all e. c.runs.ensures d all n e) c.if-not-runs.true first in
    whole_only d ns n m (round_in d (tally_of c.args.self.now) ns) c.attempt.new.self runs first

pub returns : goal.returns
returns g c =
    if_ok _ _ c.cut_all.result
    (λ o rest d ns n m h.
    let first = whole_goes d ns (round_in d (tally_of c.args.self.now) ns) _ c.in_ok-halt.field-0 c.attempt.new.self c.in_default.not-Halts (c.in_ok-halt.ensures d ns n m h tt) in
    let runs = runs_in d ns n c.args.before _ c.attempt.new.self c.runs.result true h.at.found (λ all e. c.runs.ensures d all n e) c.if-not-runs.false first in
    whole_then d ns n m (round_in d (tally_of c.args.self.now) ns) o c.attempt.new.self c.cut_all.new.self runs first
    (λ all e u. rest d all n m (tries_later d c.args.self.now c.attempt.new.self ns all n m c.args.candidate.now c.args.before c.args.chosen e u h) runs))
    c.cut_all.ensures

pub attempt-requires : goal.attempt-requires
attempt-requires g c = let q = c.requires in (q.0, q.1, q.2, q.3, q.4, tt)

pub cut_all-requires : goal.cut_all-requires
cut_all-requires g c =
    let q = c.requires in
    let d = q.0 in
    let r = round_in d (tally_of c.args.self.now) q.1 in
    let x = tries_from d q.2 (try_value q.3 manner.Whole ∷ []) r in
    let first = whole_goes d q.1 r x c.in_ok-halt.field-0 c.attempt.new.self c.in_default.not-Halts (c.in_ok-halt.ensures d q.1 q.2 q.3 q.4 tt) in
    let runs = runs_in d q.1 q.2 c.args.before x c.attempt.new.self c.runs.result true (q.4).at.found (λ all e. c.runs.ensures d all q.2 e) c.if-not-runs.false first in
    let w = going d q.1 x c.attempt.new.self first in
    (d, w.all, q.2, q.3, tries_later d c.args.self.now c.attempt.new.self q.1 w.all q.2 q.3 c.args.candidate.now c.args.before c.args.chosen w.grew w.holds q.4, runs)
