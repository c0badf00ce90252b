use Rattle.mc_blocks.proofs.Maps.{spans_insert, free_from}
use Rattle.mc_blocks.proofs.laws.inserts_span.Goals as goal

pub returns : goal.returns
returns c = λ apps name app free apart. spans_insert apps name app (free_from name app.place apps free apart)
