use Rattle.std.proofs.Common.{◌≡◌, ℕ, List, ◌∷◌, sym, ap, subst, ◌∙◌}
use Rattle.law_machine.specs.model_device.specs.Bytes.{lookup}
use Rattle.law_machine.specs.model_machine.specs.Frame.{with_sw}
use Rattle.law_machine.specs.model_machine.specs.Chain.{chain_after_call}
use Rattle.mc_segs.specs.HeldFrames.{Held, new_held}
use Rattle.mc_machine.specs.Chains.{Chained, RunsAs}
use Rattle.mc_machine.specs.contracts.chain.Chain.{the_view}
use Rattle.mc_machine.proofs.FollowLemmas.{refused_call, entered_call}
use Rattle.mc_machine.proofs.ReadsLemmas.{all_fit}
use Rattle.mc_machine.proofs.chain.Chain.call.Goals as goal

pub refuses-requires-clause-waiting : goal.refuses-requires-clause-waiting
refuses-requires-clause-waiting g c =
    let fits = c.requires.fits in
    all_fit (g.B.Bank.state c.args.bank.now) (g.B.Bank.named c.args.bank.now) c.args.self.now.below fits.0.below fits.1.below

pub returns-then-refuses-clause-runs : goal.returns-then-refuses-clause-runs
returns-then-refuses-clause-runs g c ch r =
    let s = g.B.Bank.state c.args.bank.now in
    let named = g.B.Bank.named c.args.bank.now in
    let n = c.args.aid.now in
    subst (λ (k : Chained). RunsAs s named k (chain_after_call ch n (lookup ch.map n)))
    (ap (λ (k : Chained). record k { public = with_sw k.public 0x6985 }) (sym c.self.view_is) ∙ ap (λ (p : List ℕ). record (the_view c.self.inside) { public = p }) (sym c.set_sw-then-refuses.ensures))
    (refused_call s named c.args.self.now ch n (sym c.in-Some.ensures.there) (sym c.if-refuses.true ∙ c.refuses.ensures) r)

pub returns-clause-runs : goal.returns-clause-runs
returns-clause-runs g c ch r =
    let s = g.B.Bank.state c.args.bank.now in
    let named = g.B.Bank.named c.args.bank.now in
    let n = c.args.aid.now in
    let now = c.args.self.now in
    let callee : c.new-2.result ≡ new_held c.in-Some.slot c.facts-facts.result.sizes _ = c.new-2.ensures ∙ ap (λ (b : List ℕ). new_held c.in-Some.slot c.facts-facts.result.sizes b) c.new.ensures in
    subst (λ (k : Chained). RunsAs s named k (chain_after_call ch n (lookup ch.map n)))
    (sym (c.enter.ensures ∙ ap (λ (h : Held). record now { running = h; below = now.running ∷ now.below }) callee))
    (entered_call s named now ch c.in-Some.slot n c.facts-facts.result.sizes c.in-Some.ensures.slot (sym c.in-Some.ensures.there) c.facts-facts.ensures.sizes (sym c.if-refuses.false ∙ c.refuses.ensures) r)
