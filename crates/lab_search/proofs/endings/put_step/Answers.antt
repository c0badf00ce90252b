use Rattle.std.proofs.Common.{length, refl}
use Rattle.std.proofs.lemmas.Option.{slice_get_past, slice_get_read}
use Rattle.lab_search.proofs.EndingLemmas.{has_move, puts_step}
use Rattle.lab_search.proofs.endings.put_step.Goals as goal

pub returns-in-Some : goal.returns-in-Some
returns-in-Some g c =
    λ ms t h k.
    let found = slice_get_read c.args.moves.now (length c.args.moves.now) c.args.step.now.chosen c.in-Some.chosen.now refl c.in-Some.ensures.lookup.3.0 c.in-Some.ensures.lookup.1 in
    puts_step c.args.moves.now ms c.args.step.now t c.in-Some.chosen.now _ _ c.put_move.result h k found c.put_move.ensures

pub returns-in-None : goal.returns-in-None
returns-in-None g c = λ ms t h k. absurd (has_move c.args.moves.now ms c.args.step.now t h k (slice_get_past c.args.moves.now c.args.step.now.chosen c.in-None.ensures.lookup.3))
