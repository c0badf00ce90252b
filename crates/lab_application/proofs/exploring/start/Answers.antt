use Rattle.std.proofs.Common.{length, refl}
use Rattle.lab_application.proofs.FirstLemmas.{alone, moves_alone, starts_with}
use Rattle.lab_application.proofs.exploring.start.Goals as goal

pub returns : goal.returns
returns g c =
    λ ls ms h.
    let b = c.in_ok-laboratory.ensures (moves_alone ls ms) (alone c.args.moves.now ls ms h) in
    starts_with c.args.moves.now ls ms c.args.limit (length c.args.amounts.now) _ _ c.in_ok-search.search _ b refl refl c.in_ok-allowances.ensures c.in_ok-search.ensures.holds refl c.ran_before-ran.ensures
