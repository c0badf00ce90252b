use Rattle.std.proofs.Common.{◌≢◌, length, sym, ◌∙◌, rules}
use Rattle.mc_script.proofs.LoadLemmas.{pieces_next}
use Rattle.mc_script.proofs.loading.Section.next.Goals as goal

pub returns-clause-command : goal.returns-clause-command
returns-clause-command c =
    let s = c.self.inside in
    let some : length s.rest.now ≢ 0 = search rules in
    let all = pieces_next s.ins s.at c.min.result s.rest.now c.split_at.result.0.now c.split_at.result.1.now c.put_piece.new.into.items some c.min.ensures c.split_at.ensures.front c.split_at.ensures.back c.put_piece.ensures in
    λ _. sym c.self.view_is ∙ all
