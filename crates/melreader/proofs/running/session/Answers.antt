use Rattle.std.proofs.Common.{ℕ, List, Result, refl, subst}
use Rattle.mc_deck.specs.model_play.specs.DeckGrammar.{DeckLine}
use Rattle.mc_filter.specs.declared.rejection.Rejection.{Rejection}
use Rattle.mc_script.specs.Benches.{BenchMembers}
use Rattle.melreader.specs.Decks.{HasDeck}
use Rattle.melreader.specs.Sessions.{outside, AreKept, ReaderOutside}
use Rattle.melreader.proofs.SessionLemmas.{says_rejected, says_served}
use Rattle.melreader.proofs.running.session.Goals as goal

pub returns-in-Err : goal.returns-in-Err
returns-in-Err g c = λ a b has.
    let members : BenchMembers g.row.N.Denot = record { state = g.N.Nvm.state; wrote = g.N.Nvm.wrote; same = g.N.Nvm.same; bench = g.N.Bench.bench } in
    let input = c.args.input.now in
    let out = c.args.out.now in
    let dev = c.args.dev.now in
    let o : ReaderOutside = outside g.S.Source g.T.Sink g.E.Sink members a b input input out out c.args.err.now c.reject.new.out dev dev in
    let kept : AreKept input input out out dev dev = (refl, refl, refl) in
    says_rejected (AreKept input input out out dev dev) o c.in-Err.rejection c.reject.result kept
    (subst (λ (r : Result (List (ℕ × DeckLine)) Rejection). HasDeck a b r) c.in-Err.is has) c.reject.ensures

pub returns-in-Ok : goal.returns-in-Ok
returns-in-Ok g c = λ a b has.
    let members : BenchMembers g.row.N.Denot = record { state = g.N.Nvm.state; wrote = g.N.Nvm.wrote; same = g.N.Nvm.same; bench = g.N.Bench.bench } in
    let input = c.args.input.now in
    let out = c.args.out.now in
    let dev = c.args.dev.now in
    let o : ReaderOutside = outside g.S.Source g.T.Sink g.E.Sink members a b input c.serve.new.input out c.serve.new.out c.args.err.now c.end.new.err dev c.serve.new.dev in
    says_served (AreKept input c.serve.new.input out c.serve.new.out dev c.serve.new.dev) o c.in-Ok.deck c.serve.result c.end.result
    (subst (λ (r : Result (List (ℕ × DeckLine)) Rejection). HasDeck a b r) c.in-Ok.is has) c.serve.ensures.memory c.serve.ensures.session c.end.ensures
