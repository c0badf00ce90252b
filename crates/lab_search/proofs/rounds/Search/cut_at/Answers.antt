use Rattle.lab_search.proofs.CourseLemmas.{cut_ends, cut_goes, cuts_as, if_ok, second_ends, second_goes, tries_later}
use Rattle.lab_search.specs.Rounds.{round_in, tally_of}
use Rattle.std.proofs.Common.{[], ◌∷◌}
use Rattle.lab_search.specs.declared.journey.Fill.TheVariants as fill
use Rattle.lab_search.specs.Rounds.{tries_from}
use Rattle.lab_search.proofs.CourseLemmas.{cut_of, going}
use Rattle.lab_search.proofs.rounds.Search.cut_at.Goals as goal

pub returns-in_default : goal.returns-in_default
returns-in_default g c =
    λ d ns n m h k. cut_ends d ns n m c.args.made (round_in d (tally_of c.args.self.now) ns) c.in_ok-end.end c.cut_with.new.self c.in_default.not-GoesOn (c.in_ok-end.ensures d ns n m h k)

pub returns-in_default-2 : goal.returns-in_default-2
returns-in_default-2 g c =
    λ d ns n m h k.
    let first = cuts_as d ns n m c.args.made _ (round_in d (tally_of c.args.self.now) ns) _ _ c.cut_with.new.self c.in-GoesOn.is (c.in_ok-end.ensures d ns n m h k) in
    cut_goes d ns n m c.args.made (round_in d (tally_of c.args.self.now) ns) c.in_ok-end-2.end c.cut_with.new.self c.cut_with-2.new.self first
    (λ all e u.
    second_ends d all n m c.args.made (round_in d (tally_of c.cut_with.new.self) all) c.in_ok-end-2.end c.cut_with-2.new.self c.in_default-2.not-GoesOn
    (c.in_ok-end-2.ensures d all n m (tries_later d c.args.self.now c.cut_with.new.self ns all n m c.args.candidate.now c.args.before c.args.chosen e u h) k))

pub returns : goal.returns
returns g c =
    if_ok _ _ c.cut_with-3.result
    (λ a third d ns n m h k.
    let first = cuts_as d ns n m c.args.made _ (round_in d (tally_of c.args.self.now) ns) _ _ c.cut_with.new.self c.in-GoesOn.is (c.in_ok-end.ensures d ns n m h k) in
    cut_goes d ns n m c.args.made (round_in d (tally_of c.args.self.now) ns) a c.cut_with.new.self c.cut_with-3.new.self first
    (λ all e u.
    let t = tries_later d c.args.self.now c.cut_with.new.self ns all n m c.args.candidate.now c.args.before c.args.chosen e u h in
    let second = cuts_as d all n m c.args.made _ (round_in d (tally_of c.cut_with.new.self) all) _ _ c.cut_with-2.new.self c.in-GoesOn-2.is (c.in_ok-end-2.ensures d all n m t k) in
    second_goes d all n m c.args.made (round_in d (tally_of c.cut_with.new.self) all) a c.cut_with-2.new.self c.cut_with-3.new.self second
    (λ more f v. third d more n m (tries_later d c.cut_with.new.self c.cut_with-2.new.self all more n m c.args.candidate.now c.args.before c.args.chosen f v t) k)))
    c.cut_with-3.ensures

pub cut_with-requires-2-clause-can : goal.cut_with-requires-2-clause-can
cut_with-requires-2-clause-can g c =
    let q = c.requires.can in
    let d = q.0 in
    let r = round_in d (tally_of c.args.self.now) q.1 in
    let first = cuts_as d q.1 q.2 q.3 c.args.made (cut_of q.3 c.args.made fill.Zeros ∷ []) r _ _ c.cut_with.new.self c.in-GoesOn.is (c.in_ok-end.ensures d q.1 q.2 q.3 q.4 q.5) in
    let w = going d q.1 (tries_from d q.2 (cut_of q.3 c.args.made fill.Zeros ∷ []) r) c.cut_with.new.self first.1 in
    (d, w.all, q.2, q.3, tries_later d c.args.self.now c.cut_with.new.self q.1 w.all q.2 q.3 c.args.candidate.now c.args.before c.args.chosen w.grew w.holds q.4, q.5)

pub cut_with-requires-3-clause-can : goal.cut_with-requires-3-clause-can
cut_with-requires-3-clause-can g c =
    let q = c.requires.can in
    let d = q.0 in
    let r = round_in d (tally_of c.args.self.now) q.1 in
    let first = cuts_as d q.1 q.2 q.3 c.args.made (cut_of q.3 c.args.made fill.Zeros ∷ []) r _ _ c.cut_with.new.self c.in-GoesOn.is (c.in_ok-end.ensures d q.1 q.2 q.3 q.4 q.5) in
    let w = going d q.1 (tries_from d q.2 (cut_of q.3 c.args.made fill.Zeros ∷ []) r) c.cut_with.new.self first.1 in
    let t = tries_later d c.args.self.now c.cut_with.new.self q.1 w.all q.2 q.3 c.args.candidate.now c.args.before c.args.chosen w.grew w.holds q.4 in
    let n = round_in d (tally_of c.cut_with.new.self) w.all in
    let second = cuts_as d w.all q.2 q.3 c.args.made (cut_of q.3 c.args.made fill.Ones ∷ []) n _ _ c.cut_with-2.new.self c.in-GoesOn-2.is (c.in_ok-end-2.ensures d w.all q.2 q.3 t q.5) in
    let v = going d w.all (tries_from d q.2 (cut_of q.3 c.args.made fill.Ones ∷ []) n) c.cut_with-2.new.self second.1 in
    (d, v.all, q.2, q.3, tries_later d c.cut_with.new.self c.cut_with-2.new.self w.all v.all q.2 q.3 c.args.candidate.now c.args.before c.args.chosen v.grew v.holds t, q.5)
