use Rattle.std.proofs.Common.{ℕ, ◌/◌, List, [], ◌∷◌, sym, subst}
use Rattle.mc_bank.specs.Bank.{app_of}
use Rattle.mc_segs.specs.Puts.{PutsBytes}
use Rattle.mc_segs.proofs.PutLemmas.{one_put}
use Rattle.mc_segs.proofs.protection.word_with.Goals as goal

pub returns : goal.returns
returns g c =
    let l = (app_of (g.B.Bank.state c.args.bank.now).apps (g.B.Bank.named c.args.bank.now c.args.slot)).fixed in
    subst (λ (w : List ℕ). PutsBytes l [] c.args.at c.args.from.now ((c.args.at / 8, w) ∷ [])) (sym c.write.ensures)
    (one_put l c.args.len c.args.at c.args.from.now c.fresh_word-word.result
    c.requires.len c.fresh_word-word.ensures.eight c.fresh_word-word.ensures.bytes c.requires.low c.requires.one c.requires.range)
