-- the deeds that are left do to the amounts and the blocks what all do to the first ones
use Rattle.std.proofs.Common.{◌≡◌, drop}
use Rattle.std.specs.Prelude.{vec_len}
use Rattle.lab_history.specs.Applying.{deeds_effect}
use Rattle.lab_history.proofs.DoneLemmas.{DoneLeft}
use Rattle.lab_history.proofs.applying.apply_deeds.Given as goal

abbrev pub invariant-loop-happening : goal.invariant-loop-happening
invariant-loop-happening l =
    let ons = l.fn.rules.ons.items in
    let deeds = l.fn.course.deeds.items in
    record {
      amounts : deeds_effect l.rules.ons.items l.extent (drop l.happening-index l.course.deeds.items) l.standing.amounts.items ≡ deeds_effect ons l.fn.extent deeds l.fn.standing.amounts.items;
      blocks : vec_len l.fn.standing.kept ≡ vec_len l.fn.standing.waiting
          → (vec_len l.standing.kept ≡ vec_len l.standing.waiting)
          × DoneLeft ons l.fn.rules.balances.items l.fn.extent deeds (drop l.happening-index deeds) l.fn.standing.kept.items l.fn.standing.waiting.items l.standing.kept.items l.standing.waiting.items;
    }
