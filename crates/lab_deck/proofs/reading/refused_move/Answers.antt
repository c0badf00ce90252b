use Rattle.lab_deck.specs.Moves.{moves_read}
use Rattle.lab_deck.proofs.ReadLemmas.{moves_of}
use Rattle.lab_deck.proofs.reading.refused_move.Goals as goal

pub returns-in-Ok : goal.returns-in-Ok
returns-in-Ok c =
    let m = moves_of c.in-Ok.field-0.items (moves_read c.args.text.now) c.in-Ok.ensures.read in
    (m.moves, m.is)
