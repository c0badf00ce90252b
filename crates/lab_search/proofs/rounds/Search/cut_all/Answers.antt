use Rattle.std.proofs.Common.{ℕ, arith, subst, sym}
use Rattle.law_explore_text.specs.law_explore.specs.States.{play_of}
use Rattle.law_explore_text.specs.law_explore.specs.Tries.{cuts_from, writes_of}
use Rattle.lab_search.specs.Rounds.{round_in, tally_of, tries_from, tries_in, Ahead}
use Rattle.lab_search.proofs.CourseLemmas.{cuts_done, cuts_go, cuts_halt, cuts_left, cuts_start, tries_later}
use Rattle.lab_search.proofs.rounds.Search.cut_all.Goals as goal

pub returns-in-NotHit : goal.returns-in-NotHit
returns-in-NotHit g c =
    λ d ns n m h k.
    let a = c.writes.invariant.ahead d ns n m h k in
    cuts_done d ns n m c.writes.made c.writes.self c.cut_at.new.self _ a c.in_ok-cut_at.field-0 c.in-NotHit.is
    (c.in_ok-cut_at.ensures d a.all n m (tries_later d c.args.self.now c.writes.self ns a.all n m c.args.candidate.now c.args.before c.args.chosen a.grew a.holds h) k)

pub returns-in-Halts : goal.returns-in-Halts
returns-in-Halts g c =
    λ d ns n m h k.
    let a = c.writes.invariant.ahead d ns n m h k in
    cuts_halt d ns n m c.writes.made c.writes.self c.cut_at.new.self _ a c.in_ok-cut_at.field-0 c.in-Halts.halt c.in-Halts.is
    (c.in_ok-cut_at.ensures d a.all n m (tries_later d c.args.self.now c.writes.self ns a.all n m c.args.candidate.now c.args.before c.args.chosen a.grew a.holds h) k)

pub writes-init : goal.writes-init
writes-init g c = record { counted = omega arith; ahead = λ d ns n m h k. cuts_start d ns n m c.args.self.now h.at.holds }

pub writes-preserved : goal.writes-preserved
writes-preserved g c =
    record {
      counted = c.in_ok-made.ensures.counted;
      ahead = λ d ns n m h k.
          let a = c.writes.invariant.ahead d ns n m h k in
          subst (λ (i : ℕ). Ahead d ns c.cut_at.new.self (cuts_left d n m i) (tries_from d n (tries_in m (cuts_from 1 (writes_of (play_of n.state) m))) (round_in d (tally_of c.args.self.now) ns))) (sym c.in_ok-made.ensures.next)
          (cuts_go d ns n m c.writes.made c.writes.self c.cut_at.new.self _ a c.in_ok-cut_at.field-0 c.in-GoesOn.is
          (c.in_ok-cut_at.ensures d a.all n m (tries_later d c.args.self.now c.writes.self ns a.all n m c.args.candidate.now c.args.before c.args.chosen a.grew a.holds h) k));
    }

pub cut_at-requires-clause-can : goal.cut_at-requires-clause-can
cut_at-requires-clause-can g c =
    let q = c.requires in
    let a = c.writes.invariant.ahead q.0 q.1 q.2 q.3 q.4 q.5 in
    (q.0, a.all, q.2, q.3, tries_later q.0 c.args.self.now c.writes.self q.1 a.all q.2 q.3 c.args.candidate.now c.args.before c.args.chosen a.grew a.holds q.4, q.5)
