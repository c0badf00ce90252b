use Rattle.std.proofs.Common.{◌≡◌, ◌≢◌, ℕ, ◌+◌, Some, None, Result, Ok, Err, refl, sym, ap, subst, ◌∙◌, arith}
use Rattle.law_machine.specs.model_machine.specs.declared.instruction.DecodeFault.{DecodeFault}
use Rattle.law_machine.specs.model_machine.specs.declared.instruction.DecodeFault.TheVariants.{Undefined, Past}
use Rattle.law_machine.specs.model_machine.specs.declared.machine.Abend.TheVariants.{A01, A02, A07}
use Rattle.law_machine.specs.model_device.specs.declared.device.Stop.{Stop}
use Rattle.law_machine.specs.model_card.specs.Items.{Commit}
use Rattle.law_machine.specs.model_machine.specs.Code.{instruction_at}
use Rattle.law_machine.specs.model_machine.specs.Row.{row}
use Rattle.law_machine.specs.model_machine.specs.Chain.{Acted, around, frame_at, row_turn, turn_of, follows}
use Rattle.mc_segs.specs.HeldFrames.{frame_on_bank, app_under}
use Rattle.mc_segs.specs.Ends.{RowActs, scene, then_of}
use Rattle.mc_machine.specs.Chains.{Chained}
use Rattle.mc_machine.specs.Turns.{ActDone, AllFitBank, WritesFew, Followed, chain_at_next, step_of_frame, delegator_of}
use Rattle.mc_machine.specs.declared.outcome.End.TheVariants as end
use Rattle.mc_machine.specs.declared.outcome.Step.{Step}
use Rattle.mc_machine.proofs.Kept.{row_keeps}
use Rattle.mc_machine.proofs.RowFacts.{row_exits}
use Rattle.mc_machine.proofs.TurnLemmas.{BankLaws}
use Rattle.mc_machine.proofs.FewLemmas.{abend_writes, act_writes}
use Rattle.mc_machine.proofs.ActLemmas.{turned, abends_done, row_count, row_related, performed_halts, performed_fits, performed_done}
use Rattle.mc_machine.proofs.ReadsLemmas.{all_fit}
use Rattle.mc_machine.proofs.turning.act.Goals as goal

pub perform-requires-clause-waiting : goal.perform-requires-clause-waiting
perform-requires-clause-waiting g c =
    let state = g.B.Bank.state c.args.bank.now in
    let named = g.B.Bank.named c.args.bank.now in
    let fits = c.requires.fits in
    subst (λ (k : Chained). AllFitBank state named k.below) (sym c.advance.ensures) (all_fit state named c.args.chain.now.below fits.0.below fits.1.below)

pub returns-then-chain-eq0-clause-done : goal.returns-then-chain-eq0-clause-done
returns-then-chain-eq0-clause-done g c ch r =
    let b = c.args.bank.now in
    let now = c.args.chain.now in
    let none : now.left ≡ 0 = subst (λ (k : Chained). k.left ≡ 0) c.chain.view_is c.if-chain-eq0.true in
    let step = c.abends.result in
    let reported : c.reported-before.result ≡ step_of_frame now.running None None = subst (λ (k : Chained). c.reported-before.result ≡ step_of_frame k.running None None) c.chain.view_is c.reported-before.ensures in
    subst (λ (n : ℕ). ActDone g.B.Bank b b now now ch (turn_of n ch) (Ok step)) (sym none) (
    abends_done g.B.Bank b b now now ch None 0 A07 step r c.requires.going refl refl (omega arith) (c.abends.ensures ∙ ap (λ (x : Step). record x { end = Some (end.Abend A07) }) reported)
    )

pub returns-in-Err-Undefined-clause-done : goal.returns-in-Err-Undefined-clause-done
returns-in-Err-Undefined-clause-done g c ch r =
    let state = g.B.Bank.state in
    let named = g.B.Bank.named in
    let b = c.args.bank.now in
    let now = c.args.chain.now in
    let some : now.left ≢ 0 = subst (λ (k : Chained). k.left ≢ 0) c.chain.view_is c.if-chain-eq0.false in
    let exact : Err Undefined ≡ instruction_at (app_under (state b) (named b) now.running).code now.running.frame.at =
    subst (λ (k : Chained). Err Undefined ≡ instruction_at (app_under (state b) (named b) k.running).code k.running.frame.at) c.chain.view_is (
    subst (λ (f : DecodeFault). Err f ≡ instruction_at (app_under (state b) (named b) c.chain.inside.running).code c.chain.inside.running.frame.at) c.in-Err-Undefined.field-0-is c.in-Err-Undefined.ensures.exact
    ) in
    let step = c.abends-in-Err-Undefined.result in
    let reported : c.reported-before.result ≡ step_of_frame now.running None None = subst (λ (k : Chained). c.reported-before.result ≡ step_of_frame k.running None None) c.chain.view_is c.reported-before.ensures in
    subst (λ (t : Acted). ActDone g.B.Bank b b now now ch t (Ok step)) (sym (turned g.B.Bank b now ch (Err Undefined) r some exact)) (
    abends_done g.B.Bank b b now now ch None 0 A01 step r c.requires.going refl refl (omega arith) (c.abends-in-Err-Undefined.ensures ∙ ap (λ (x : Step). record x { end = Some (end.Abend A01) }) reported)
    )

pub returns-in-Err-Undefined-clause-ticks : goal.returns-in-Err-Undefined-clause-ticks
returns-in-Err-Undefined-clause-ticks g c ch r =
    let state = g.B.Bank.state in
    let named = g.B.Bank.named in
    let b = c.args.bank.now in
    let now = c.args.chain.now in
    let some : now.left ≢ 0 = subst (λ (k : Chained). k.left ≢ 0) c.chain.view_is c.if-chain-eq0.false in
    let exact : Err Undefined ≡ instruction_at (app_under (state b) (named b) now.running).code now.running.frame.at =
    subst (λ (k : Chained). Err Undefined ≡ instruction_at (app_under (state b) (named b) k.running).code k.running.frame.at) c.chain.view_is (
    subst (λ (f : DecodeFault). Err f ≡ instruction_at (app_under (state b) (named b) c.chain.inside.running).code c.chain.inside.running.frame.at) c.in-Err-Undefined.field-0-is c.in-Err-Undefined.ensures.exact
    ) in
    let none : (turn_of now.left ch).count ≡ 0 = ap (λ (t : Acted). t.count) (turned g.B.Bank b now ch (Err Undefined) r some exact) in
    omega arith

pub returns-in-Err-Past-clause-done : goal.returns-in-Err-Past-clause-done
returns-in-Err-Past-clause-done g c ch r =
    let state = g.B.Bank.state in
    let named = g.B.Bank.named in
    let b = c.args.bank.now in
    let now = c.args.chain.now in
    let some : now.left ≢ 0 = subst (λ (k : Chained). k.left ≢ 0) c.chain.view_is c.if-chain-eq0.false in
    let exact : Err Past ≡ instruction_at (app_under (state b) (named b) now.running).code now.running.frame.at =
    subst (λ (k : Chained). Err Past ≡ instruction_at (app_under (state b) (named b) k.running).code k.running.frame.at) c.chain.view_is (
    subst (λ (f : DecodeFault). Err f ≡ instruction_at (app_under (state b) (named b) c.chain.inside.running).code c.chain.inside.running.frame.at) c.in-Err-Past.field-0-is c.in-Err-Past.ensures.exact
    ) in
    let step = c.abends-in-Err-Past.result in
    let reported : c.reported-before.result ≡ step_of_frame now.running None None = subst (λ (k : Chained). c.reported-before.result ≡ step_of_frame k.running None None) c.chain.view_is c.reported-before.ensures in
    subst (λ (t : Acted). ActDone g.B.Bank b b now now ch t (Ok step)) (sym (turned g.B.Bank b now ch (Err Past) r some exact)) (
    abends_done g.B.Bank b b now now ch None 0 A02 step r c.requires.going refl refl (omega arith) (c.abends-in-Err-Past.ensures ∙ ap (λ (x : Step). record x { end = Some (end.Abend A02) }) reported)
    )

pub returns-in-Err-Past-clause-ticks : goal.returns-in-Err-Past-clause-ticks
returns-in-Err-Past-clause-ticks g c ch r =
    let state = g.B.Bank.state in
    let named = g.B.Bank.named in
    let b = c.args.bank.now in
    let now = c.args.chain.now in
    let some : now.left ≢ 0 = subst (λ (k : Chained). k.left ≢ 0) c.chain.view_is c.if-chain-eq0.false in
    let exact : Err Past ≡ instruction_at (app_under (state b) (named b) now.running).code now.running.frame.at =
    subst (λ (k : Chained). Err Past ≡ instruction_at (app_under (state b) (named b) k.running).code k.running.frame.at) c.chain.view_is (
    subst (λ (f : DecodeFault). Err f ≡ instruction_at (app_under (state b) (named b) c.chain.inside.running).code c.chain.inside.running.frame.at) c.in-Err-Past.field-0-is c.in-Err-Past.ensures.exact
    ) in
    let none : (turn_of now.left ch).count ≡ 0 = ap (λ (t : Acted). t.count) (turned g.B.Bank b now ch (Err Past) r some exact) in
    omega arith

pub follow-requires-clause-fits : goal.follow-requires-clause-fits
follow-requires-clause-fits g c =
    let ch = c.requires.fits.0 in
    let r = c.requires.fits.1 in
    let named = g.B.Bank.named in
    let b = c.args.bank.now in
    let now = c.args.chain.now in
    let some : now.left ≢ 0 = subst (λ (k : Chained). k.left ≢ 0) c.chain.view_is c.if-chain-eq0.false in
    let e = c.perform.new.bank in
    let mid = c.perform.new.chain in
    let found = c.in-Ok.found in
    let i = found.0 in
    let next = found.1 in
    let laws : BankLaws g.B.Bank =
    record { obeys = λ b n ws a e d. g.met.B.Bank.obeys b (Commit n ws) a e d; keeps = λ b n ws a e d k m is. g.met.B.Bank.keeps b (Commit n ws) a e d k m is tt } in
    let others : mid ≡ record (chain_at_next now next) { running = mid.running; public = mid.public } =
    c.perform.ensures.others ∙ ap (λ (k : Chained). record k { running = mid.running; public = mid.public }) c.advance.ensures in
    let acts : RowActs g.B.Bank (scene b e (chain_at_next now next).running mid.running now.public mid.public) i (record { case = now.case; delegator = delegator_of (named b) now.below }) (Ok c.in-Ok-perform.next) =
    subst (λ (k : Chained). RowActs g.B.Bank (scene b e k.running mid.running k.public mid.public) i (record { case = k.case; delegator = delegator_of (named b) k.below }) (Ok c.in-Ok-perform.next)) c.advance.ensures c.in-Ok-perform.ensures.acts in
    let x = row i (frame_on_bank g.B.Bank b (chain_at_next now next).running) now.public (record { case = now.case; delegator = delegator_of (named b) now.below }) in
    let y = row i (frame_at ch.frame next) ch.public (around ch) in
    let same = row_related g.B.Bank b now ch next i r in
    let keeps = row_keeps i (frame_at ch.frame next) ch.public (around ch) in
    performed_fits g.B.Bank laws b e now mid ch next i r others c.in-Ok-perform.next x y same keeps acts

pub returns-in-Ok-perform-clause-done : goal.returns-in-Ok-perform-clause-done
returns-in-Ok-perform-clause-done g c ch r =
    let state = g.B.Bank.state in
    let named = g.B.Bank.named in
    let b = c.args.bank.now in
    let now = c.args.chain.now in
    let some : now.left ≢ 0 = subst (λ (k : Chained). k.left ≢ 0) c.chain.view_is c.if-chain-eq0.false in
    let e = c.perform.new.bank in
    let mid = c.perform.new.chain in
    let found = c.in-Ok.found in
    let i = found.0 in
    let next = found.1 in
    let laws : BankLaws g.B.Bank =
    record { obeys = λ b n ws a e d. g.met.B.Bank.obeys b (Commit n ws) a e d; keeps = λ b n ws a e d k m is. g.met.B.Bank.keeps b (Commit n ws) a e d k m is tt } in
    let others : mid ≡ record (chain_at_next now next) { running = mid.running; public = mid.public } =
    c.perform.ensures.others ∙ ap (λ (k : Chained). record k { running = mid.running; public = mid.public }) c.advance.ensures in
    let exact : Ok found ≡ instruction_at (app_under (state b) (named b) now.running).code now.running.frame.at =
    subst (λ (k : Chained). Ok found ≡ instruction_at (app_under (state b) (named b) k.running).code k.running.frame.at) c.chain.view_is c.in-Ok.ensures.exact in
    let acts : RowActs g.B.Bank (scene b e (chain_at_next now next).running mid.running now.public mid.public) i (record { case = now.case; delegator = delegator_of (named b) now.below }) (Ok c.in-Ok-perform.next) =
    subst (λ (k : Chained). RowActs g.B.Bank (scene b e k.running mid.running k.public mid.public) i (record { case = k.case; delegator = delegator_of (named b) k.below }) (Ok c.in-Ok-perform.next)) c.advance.ensures c.in-Ok-perform.ensures.acts in
    let x = row i (frame_on_bank g.B.Bank b (chain_at_next now next).running) now.public (record { case = now.case; delegator = delegator_of (named b) now.below }) in
    let y = row i (frame_at ch.frame next) ch.public (around ch) in
    let same = row_related g.B.Bank b now ch next i r in
    let keeps = row_keeps i (frame_at ch.frame next) ch.public (around ch) in
    let reported : c.reported-before.result ≡ step_of_frame now.running None None = subst (λ (k : Chained). c.reported-before.result ≡ step_of_frame k.running None None) c.chain.view_is c.reported-before.ensures in
    let d = c.follow.new.chain in
    let step = c.follow.result in
    let nx = c.in-Ok-perform.next in
    subst (λ (t : Acted). ActDone g.B.Bank b e now d ch t (Ok step)) (sym (turned g.B.Bank b now ch (Ok found) r some exact)) (
    performed_done g.B.Bank laws b e now mid ch next i r others d step nx x y some c.follow.ensures.left c.follow.ensures.le same keeps (row_exits i (frame_at ch.frame next) ch.public (around ch)) acts
    (λ k runs. subst (λ (s : Step). Followed (state e) (named e) mid d i s step (follows k (then_of nx))) (ap (λ (s : Step). record s { ins = Some i }) reported) (c.follow.ensures.follows k runs))
    )

pub returns-in-Ok-perform-clause-ticks : goal.returns-in-Ok-perform-clause-ticks
returns-in-Ok-perform-clause-ticks g c ch r =
    let state = g.B.Bank.state in
    let named = g.B.Bank.named in
    let b = c.args.bank.now in
    let now = c.args.chain.now in
    let some : now.left ≢ 0 = subst (λ (k : Chained). k.left ≢ 0) c.chain.view_is c.if-chain-eq0.false in
    let found = c.in-Ok.found in
    let i = found.0 in
    let next = found.1 in
    let exact : Ok found ≡ instruction_at (app_under (state b) (named b) now.running).code now.running.frame.at =
    subst (λ (k : Chained). Ok found ≡ instruction_at (app_under (state b) (named b) k.running).code k.running.frame.at) c.chain.view_is c.in-Ok.ensures.exact in
    let one : (turn_of now.left ch).count ≡ 1 = ap (λ (t : Acted). t.count) (turned g.B.Bank b now ch (Ok found) r some exact) ∙ row_count ch i (row i (frame_at ch.frame next) ch.public (around ch)) in
    c.tick.ensures ∙ ap (λ (n : ℕ). c.args.steps.now + n) (sym one)

pub returns-in-Err-clause-ticks : goal.returns-in-Err-clause-ticks
returns-in-Err-clause-ticks g c ch r =
    let state = g.B.Bank.state in
    let named = g.B.Bank.named in
    let b = c.args.bank.now in
    let now = c.args.chain.now in
    let some : now.left ≢ 0 = subst (λ (k : Chained). k.left ≢ 0) c.chain.view_is c.if-chain-eq0.false in
    let found = c.in-Ok.found in
    let i = found.0 in
    let next = found.1 in
    let exact : Ok found ≡ instruction_at (app_under (state b) (named b) now.running).code now.running.frame.at =
    subst (λ (k : Chained). Ok found ≡ instruction_at (app_under (state b) (named b) k.running).code k.running.frame.at) c.chain.view_is c.in-Ok.ensures.exact in
    let one : (turn_of now.left ch).count ≡ 1 = ap (λ (t : Acted). t.count) (turned g.B.Bank b now ch (Ok found) r some exact) ∙ row_count ch i (row i (frame_at ch.frame next) ch.public (around ch)) in
    c.tick.ensures ∙ ap (λ (n : ℕ). c.args.steps.now + n) (sym one)

pub returns-in-Err-clause-done : goal.returns-in-Err-clause-done
returns-in-Err-clause-done g c ch r =
    let state = g.B.Bank.state in
    let named = g.B.Bank.named in
    let b = c.args.bank.now in
    let now = c.args.chain.now in
    let some : now.left ≢ 0 = subst (λ (k : Chained). k.left ≢ 0) c.chain.view_is c.if-chain-eq0.false in
    let e = c.perform.new.bank in
    let mid = c.perform.new.chain in
    let found = c.in-Ok.found in
    let i = found.0 in
    let next = found.1 in
    let laws : BankLaws g.B.Bank =
    record { obeys = λ b n ws a e d. g.met.B.Bank.obeys b (Commit n ws) a e d; keeps = λ b n ws a e d k m is. g.met.B.Bank.keeps b (Commit n ws) a e d k m is tt } in
    let others : mid ≡ record (chain_at_next now next) { running = mid.running; public = mid.public } =
    c.perform.ensures.others ∙ ap (λ (k : Chained). record k { running = mid.running; public = mid.public }) c.advance.ensures in
    let exact : Ok found ≡ instruction_at (app_under (state b) (named b) now.running).code now.running.frame.at =
    subst (λ (k : Chained). Ok found ≡ instruction_at (app_under (state b) (named b) k.running).code k.running.frame.at) c.chain.view_is c.in-Ok.ensures.exact in
    let acts : RowActs g.B.Bank (scene b e (chain_at_next now next).running mid.running now.public mid.public) i (record { case = now.case; delegator = delegator_of (named b) now.below }) (Err c.in-Err.halt) =
    subst (λ (k : Chained). RowActs g.B.Bank (scene b e k.running mid.running k.public mid.public) i (record { case = k.case; delegator = delegator_of (named b) k.below }) (Err c.in-Err.halt)) c.advance.ensures c.in-Err.ensures.acts in
    let x = row i (frame_on_bank g.B.Bank b (chain_at_next now next).running) now.public (record { case = now.case; delegator = delegator_of (named b) now.below }) in
    let y = row i (frame_at ch.frame next) ch.public (around ch) in
    let same = row_related g.B.Bank b now ch next i r in
    let reported : c.reported-before.result ≡ step_of_frame now.running None None = subst (λ (k : Chained). c.reported-before.result ≡ step_of_frame k.running None None) c.chain.view_is c.reported-before.ensures in
    let before : Step = record c.reported-before.result { ins = Some i } in
    subst (λ (t : Acted). ActDone g.B.Bank b e now mid ch t c.halts.result) (sym (turned g.B.Bank b now ch (Ok found) r some exact)) (
    subst (λ (res : Result Step Stop). ActDone g.B.Bank b e now mid ch (row_turn ch i y) res) (sym c.halts.ensures.value) (
    performed_halts g.B.Bank laws b e now mid ch next i r others c.requires.going some before (ap (λ (s : Step). record s { ins = Some i }) reported) c.in-Err.halt x y same acts
    )
    )

-- ---- the number of words that the turn writes

pub returns-in-Err-Undefined-clause-few : goal.returns-in-Err-Undefined-clause-few
returns-in-Err-Undefined-clause-few g c ch r apps =
    let state = g.B.Bank.state in
    let named = g.B.Bank.named in
    let b = c.args.bank.now in
    let now = c.args.chain.now in
    let some : now.left ≢ 0 = subst (λ (k : Chained). k.left ≢ 0) c.chain.view_is c.if-chain-eq0.false in
    let exact : Err Undefined ≡ instruction_at (app_under (state b) (named b) now.running).code now.running.frame.at =
    subst (λ (k : Chained). Err Undefined ≡ instruction_at (app_under (state b) (named b) k.running).code k.running.frame.at) c.chain.view_is (
    subst (λ (f : DecodeFault). Err f ≡ instruction_at (app_under (state b) (named b) c.chain.inside.running).code c.chain.inside.running.frame.at) c.in-Err-Undefined.field-0-is c.in-Err-Undefined.ensures.exact
    ) in
    subst (λ (t : Acted). WritesFew t) (sym (turned g.B.Bank b now ch (Err Undefined) r some exact)) (abend_writes ch A01)

pub returns-in-Err-Past-clause-few : goal.returns-in-Err-Past-clause-few
returns-in-Err-Past-clause-few g c ch r apps =
    let state = g.B.Bank.state in
    let named = g.B.Bank.named in
    let b = c.args.bank.now in
    let now = c.args.chain.now in
    let some : now.left ≢ 0 = subst (λ (k : Chained). k.left ≢ 0) c.chain.view_is c.if-chain-eq0.false in
    let exact : Err Past ≡ instruction_at (app_under (state b) (named b) now.running).code now.running.frame.at =
    subst (λ (k : Chained). Err Past ≡ instruction_at (app_under (state b) (named b) k.running).code k.running.frame.at) c.chain.view_is (
    subst (λ (f : DecodeFault). Err f ≡ instruction_at (app_under (state b) (named b) c.chain.inside.running).code c.chain.inside.running.frame.at) c.in-Err-Past.field-0-is c.in-Err-Past.ensures.exact
    ) in
    subst (λ (t : Acted). WritesFew t) (sym (turned g.B.Bank b now ch (Err Past) r some exact)) (abend_writes ch A02)

pub returns-in-Ok-perform-clause-few : goal.returns-in-Ok-perform-clause-few
returns-in-Ok-perform-clause-few g c ch r apps =
    let state = g.B.Bank.state in
    let named = g.B.Bank.named in
    let b = c.args.bank.now in
    let now = c.args.chain.now in
    let some : now.left ≢ 0 = subst (λ (k : Chained). k.left ≢ 0) c.chain.view_is c.if-chain-eq0.false in
    let found = c.in-Ok.found in
    let exact : Ok found ≡ instruction_at (app_under (state b) (named b) now.running).code now.running.frame.at =
    subst (λ (k : Chained). Ok found ≡ instruction_at (app_under (state b) (named b) k.running).code k.running.frame.at) c.chain.view_is c.in-Ok.ensures.exact in
    let is = turned g.B.Bank b now ch (Ok found) r some exact in
    let d = c.follow.new.chain in
    let step = c.follow.result in
    subst (λ (t : Acted). WritesFew t) (sym is) (
    act_writes g.B.Bank b c.perform.new.bank now d ch found.0 found.1 (Ok step) r apps c.in-Ok.ensures.stands.shaped
    (subst (λ (t : Acted). ActDone g.B.Bank b c.perform.new.bank now d ch t (Ok step)) is (returns-in-Ok-perform-clause-done g c ch r))
    )

pub returns-in-Err-clause-few : goal.returns-in-Err-clause-few
returns-in-Err-clause-few g c ch r apps =
    let state = g.B.Bank.state in
    let named = g.B.Bank.named in
    let b = c.args.bank.now in
    let now = c.args.chain.now in
    let some : now.left ≢ 0 = subst (λ (k : Chained). k.left ≢ 0) c.chain.view_is c.if-chain-eq0.false in
    let found = c.in-Ok.found in
    let exact : Ok found ≡ instruction_at (app_under (state b) (named b) now.running).code now.running.frame.at =
    subst (λ (k : Chained). Ok found ≡ instruction_at (app_under (state b) (named b) k.running).code k.running.frame.at) c.chain.view_is c.in-Ok.ensures.exact in
    let is = turned g.B.Bank b now ch (Ok found) r some exact in
    let mid = c.perform.new.chain in
    subst (λ (t : Acted). WritesFew t) (sym is) (
    act_writes g.B.Bank b c.perform.new.bank now mid ch found.0 found.1 c.halts.result r apps c.in-Ok.ensures.stands.shaped
    (subst (λ (t : Acted). ActDone g.B.Bank b c.perform.new.bank now mid ch t c.halts.result) is (returns-in-Err-clause-done g c ch r))
    )
