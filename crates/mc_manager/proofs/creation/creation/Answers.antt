use Rattle.std.proofs.Common.{sym, ◌∙◌, arith}
use Rattle.mc_manager.specs.ManagerState.{view_of}
use Rattle.mc_manager.proofs.LoadLemmas.{cannot_create}
use Rattle.mc_manager.proofs.creation.creation.Goals as goal

pub returns-then-not-is_full-clause-refused : goal.returns-then-not-is_full-clause-refused
returns-then-not-is_full-clause-refused g c =
    let v = view_of g.B.Bank c.args.bank.now in
    let no_more = cannot_create v c.args.load.now c.in-Some.load c.in-Some.is (c.requires.fits c.in-Some.load c.in-Some.is) (sym c.is_full.ensures ∙ c.if-not-is_full.true) in
    grind (arith, no_more)
