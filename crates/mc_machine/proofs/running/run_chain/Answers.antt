-- The chain in which the name is called runs to its end.
use Rattle.std.proofs.Common.{List, sym, subst}
use Rattle.law_machine.specs.model_device.specs.Bytes.{lookup}
use Rattle.law_machine.specs.model_machine.specs.Chain.{chain_after_call}
use Rattle.mc_segs.specs.HeldFrames.{Held}
use Rattle.mc_machine.specs.Chains.{RunsAs}
use Rattle.mc_machine.specs.Lone.{lone_chain}
use Rattle.mc_machine.proofs.running.run_chain.Goals as goal

pub finish-requires-clause-fits : goal.finish-requires-clause-fits
finish-requires-clause-fits g c =
    let ch = c.requires.fits.0 in
    let moved = subst (λ (h : Held). RunsAs (g.B.Bank.state c.args.bank.now) (g.B.Bank.named c.args.bank.now) (lone_chain h c.args.public c.args.case c.args.le c.args.left) ch) (sym c.replace-running.ensures.value) c.requires.fits.1 in
    let made = subst (λ (b : List Held). RunsAs (g.B.Bank.state c.args.bank.now) (g.B.Bank.named c.args.bank.now) (record { running = c.replace-running.result; below = b; public = c.args.public; case = c.args.case; le = c.args.le; left = c.args.left }) ch) (sym c.new-waiting.ensures) moved in
    (chain_after_call ch c.args.aid.now (lookup ch.map c.args.aid.now), c.call.ensures.runs ch made)

pub returns : goal.returns
returns g c ch r =
    let moved = subst (λ (h : Held). RunsAs (g.B.Bank.state c.args.bank.now) (g.B.Bank.named c.args.bank.now) (lone_chain h c.args.public c.args.case c.args.le c.args.left) ch) (sym c.replace-running.ensures.value) r in
    let made = subst (λ (b : List Held). RunsAs (g.B.Bank.state c.args.bank.now) (g.B.Bank.named c.args.bank.now) (record { running = c.replace-running.result; below = b; public = c.args.public; case = c.args.case; le = c.args.le; left = c.args.left }) ch) (sym c.new-waiting.ensures) moved in
    c.finish.ensures (chain_after_call ch c.args.aid.now (lookup ch.map c.args.aid.now)) (c.call.ensures.runs ch made)
