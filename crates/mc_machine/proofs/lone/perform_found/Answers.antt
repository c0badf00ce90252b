-- Each end of a turn is that of the definitions.
use Rattle.std.proofs.Common.{◌≡◌, ℕ, ◌+◌, Some, None, Result, Ok, Err, refl, sym, ap, subst, ◌∙◌, arith}
use Rattle.law_machine.specs.model_machine.specs.declared.instruction.DecodeFault.{DecodeFault}
use Rattle.law_machine.specs.model_machine.specs.declared.instruction.DecodeFault.TheVariants.{Undefined, Past}
use Rattle.law_machine.specs.model_machine.specs.declared.machine.Abend.TheVariants.{A01, A02}
use Rattle.law_machine.specs.model_card.specs.Items.{Commit}
use Rattle.law_machine.specs.model_machine.specs.Code.{instruction_at}
use Rattle.law_machine.specs.model_machine.specs.Primitives.{Around}
use Rattle.law_machine.specs.model_machine.specs.Row.{row}
use Rattle.law_machine.specs.model_machine.specs.Chain.{Acted, abends_at, around, frame_at, row_turn, turn_of}
use Rattle.mc_segs.specs.HeldFrames.{Held, frame_on_bank, app_under}
use Rattle.mc_segs.specs.Ends.{RowActs, scene}
use Rattle.law_machine.specs.model_device.specs.declared.device.Stop.{Stop}
use Rattle.mc_machine.specs.Turns.{chain_at_next, step_of_frame}
use Rattle.mc_machine.specs.Lone.{lone_chain, LoneDone}
use Rattle.mc_machine.specs.declared.lone.Lone.{Lone}
use Rattle.mc_machine.specs.declared.lone.Lone.TheVariants.{Ends}
use Rattle.mc_machine.specs.declared.outcome.End.TheVariants as end
use Rattle.mc_machine.proofs.Kept.{row_keeps}
use Rattle.mc_machine.proofs.RowFacts.{row_exits}
use Rattle.mc_machine.proofs.TurnLemmas.{BankLaws}
use Rattle.mc_machine.proofs.ActLemmas.{turned, abends_done, row_count, row_related}
use Rattle.mc_machine.proofs.LoneLemmas.{lone_abends, lone_does, goes_code}
use Rattle.mc_machine.proofs.lone.perform_found.Goals as goal

pub returns-in-Err-Undefined-clause-done : goal.returns-in-Err-Undefined-clause-done
returns-in-Err-Undefined-clause-done g c ch le left some r =
    let state = g.B.Bank.state in
    let named = g.B.Bank.named in
    let b = c.args.bank.now in
    let old = c.args.frame.now in
    let public = c.args.public.now in
    let case = c.args.case in
    let from = lone_chain old public case le left in
    let exact : Err Undefined ≡ instruction_at (app_under (state b) (named b) old).code old.frame.at =
    subst (λ (f : DecodeFault). Err f ≡ instruction_at (app_under (state b) (named b) old).code old.frame.at) c.in-Err-Undefined.field-0-is (rw c.in-Err-Undefined.is (sym c.in-Err-Undefined.is ∙ c.requires.exact)) in
    subst (λ (t : Acted). LoneDone g.B.Bank b b from (lone_chain old public case le) ch t (Ok (Ends (end.Abend A01))) c.args.callee.now) (sym (turned g.B.Bank b from ch (Err Undefined) r some exact)) (
      left,
      lone_abends g.B.Bank b b from from ch (abends_at ch None 0 A01) old None A01 (abends_done g.B.Bank b b from from ch None 0 A01 (step_of_frame old None (Some (end.Abend A01))) r c.requires.going refl refl (omega arith) refl),
    )

pub returns-in-Err-Undefined-clause-ticks : goal.returns-in-Err-Undefined-clause-ticks
returns-in-Err-Undefined-clause-ticks g c ch le left some r =
    let state = g.B.Bank.state in
    let named = g.B.Bank.named in
    let b = c.args.bank.now in
    let old = c.args.frame.now in
    let public = c.args.public.now in
    let case = c.args.case in
    let from = lone_chain old public case le left in
    let exact : Err Undefined ≡ instruction_at (app_under (state b) (named b) old).code old.frame.at =
    subst (λ (f : DecodeFault). Err f ≡ instruction_at (app_under (state b) (named b) old).code old.frame.at) c.in-Err-Undefined.field-0-is (rw c.in-Err-Undefined.is (sym c.in-Err-Undefined.is ∙ c.requires.exact)) in
    let none : (turn_of left ch).count ≡ 0 = ap (λ (t : Acted). t.count) (turned g.B.Bank b from ch (Err Undefined) r some exact) in
    omega (arith, none)

pub returns-in-Err-Past-clause-done : goal.returns-in-Err-Past-clause-done
returns-in-Err-Past-clause-done g c ch le left some r =
    let state = g.B.Bank.state in
    let named = g.B.Bank.named in
    let b = c.args.bank.now in
    let old = c.args.frame.now in
    let public = c.args.public.now in
    let case = c.args.case in
    let from = lone_chain old public case le left in
    let exact : Err Past ≡ instruction_at (app_under (state b) (named b) old).code old.frame.at =
    subst (λ (f : DecodeFault). Err f ≡ instruction_at (app_under (state b) (named b) old).code old.frame.at) c.in-Err-Past.field-0-is (rw c.in-Err-Past.is (sym c.in-Err-Past.is ∙ c.requires.exact)) in
    subst (λ (t : Acted). LoneDone g.B.Bank b b from (lone_chain old public case le) ch t (Ok (Ends (end.Abend A02))) c.args.callee.now) (sym (turned g.B.Bank b from ch (Err Past) r some exact)) (
      left,
      lone_abends g.B.Bank b b from from ch (abends_at ch None 0 A02) old None A02 (abends_done g.B.Bank b b from from ch None 0 A02 (step_of_frame old None (Some (end.Abend A02))) r c.requires.going refl refl (omega arith) refl),
    )

pub returns-in-Err-Past-clause-ticks : goal.returns-in-Err-Past-clause-ticks
returns-in-Err-Past-clause-ticks g c ch le left some r =
    let state = g.B.Bank.state in
    let named = g.B.Bank.named in
    let b = c.args.bank.now in
    let old = c.args.frame.now in
    let public = c.args.public.now in
    let case = c.args.case in
    let from = lone_chain old public case le left in
    let exact : Err Past ≡ instruction_at (app_under (state b) (named b) old).code old.frame.at =
    subst (λ (f : DecodeFault). Err f ≡ instruction_at (app_under (state b) (named b) old).code old.frame.at) c.in-Err-Past.field-0-is (rw c.in-Err-Past.is (sym c.in-Err-Past.is ∙ c.requires.exact)) in
    let none : (turn_of left ch).count ≡ 0 = ap (λ (t : Acted). t.count) (turned g.B.Bank b from ch (Err Past) r some exact) in
    omega (arith, none)

pub returns-clause-done : goal.returns-clause-done
returns-clause-done g c ch le left some r =
    let state = g.B.Bank.state in
    let named = g.B.Bank.named in
    let b = c.args.bank.now in
    let old = c.args.frame.now in
    let public = c.args.public.now in
    let case = c.args.case in
    let from = lone_chain old public case le left in
    let e = c.perform_lone.new.bank in
    let h = c.perform_lone.new.frame in
    let segment = c.perform_lone.new.public in
    let callee = c.perform_lone.new.callee in
    let found = c.in-Ok.found in
    let i = found.0 in
    let next = found.1 in
    let laws : BankLaws g.B.Bank =
    record { obeys = λ b n ws a e d. g.met.B.Bank.obeys b (Commit n ws) a e d; keeps = λ b n ws a e d k m is. g.met.B.Bank.keeps b (Commit n ws) a e d k m is tt } in
    let exact : Ok found ≡ instruction_at (app_under (state b) (named b) old).code old.frame.at = sym c.in-Ok.is ∙ c.requires.exact in
    let lone : Around = record { case = case; delegator = None } in
    let x = row i (frame_on_bank g.B.Bank b (chain_at_next from next).running) public lone in
    let y = row i (frame_at ch.frame next) ch.public (around ch) in
    let same = row_related g.B.Bank b from ch next i r in
    let done = c.perform_lone.ensures.acts in
    let acts : RowActs g.B.Bank (scene b e (chain_at_next from next).running h public segment) i lone done.done =
    subst (λ (k : Held). RowActs g.B.Bank (scene b e k h public segment) i lone done.done) c.go.ensures done.acts in
    let keeps = row_keeps i (frame_at ch.frame next) ch.public (around ch) in
    let exits = row_exits i (frame_at ch.frame next) ch.public (around ch) in
    subst (λ (t : Acted). LoneDone g.B.Bank b e from (lone_chain h segment case le) ch t c.perform_lone.result callee) (sym (turned g.B.Bank b from ch (Ok found) r some exact)) (
    subst (λ (o : Result Lone Stop). LoneDone g.B.Bank b e from (lone_chain h segment case le) ch (row_turn ch i y) o callee) (sym done.value) (
    lone_does g.B.Bank laws b e old h public segment case le left ch next i r done.done callee x y c.requires.going some same keeps exits acts done.called)
    )

pub returns-clause-ticks : goal.returns-clause-ticks
returns-clause-ticks g c ch le left some r =
    let state = g.B.Bank.state in
    let named = g.B.Bank.named in
    let b = c.args.bank.now in
    let old = c.args.frame.now in
    let public = c.args.public.now in
    let case = c.args.case in
    let from = lone_chain old public case le left in
    let found = c.in-Ok.found in
    let i = found.0 in
    let exact : Ok found ≡ instruction_at (app_under (state b) (named b) old).code old.frame.at = sym c.in-Ok.is ∙ c.requires.exact in
    let one : (turn_of left ch).count ≡ 1 = ap (λ (t : Acted). t.count) (turned g.B.Bank b from ch (Ok found) r some exact) ∙ row_count ch i (row i (frame_at ch.frame found.1) ch.public (around ch)) in
    c.tick.ensures ∙ ap (λ (n : ℕ). c.args.steps.now + n) (sym one)

pub returns-clause-code : goal.returns-clause-code
returns-clause-code g c is =
    let state = g.B.Bank.state in
    let named = g.B.Bank.named in
    let b = c.args.bank.now in
    let old = c.args.frame.now in
    let public = c.args.public.now in
    let case = c.args.case in
    let e = c.perform_lone.new.bank in
    let h = c.perform_lone.new.frame in
    let segment = c.perform_lone.new.public in
    let found = c.in-Ok.found in
    let i = found.0 in
    let next = found.1 in
    let laws : BankLaws g.B.Bank =
    record { obeys = λ b n ws a e d. g.met.B.Bank.obeys b (Commit n ws) a e d; keeps = λ b n ws a e d k m is. g.met.B.Bank.keeps b (Commit n ws) a e d k m is tt } in
    let lone : Around = record { case = case; delegator = None } in
    let x = row i (frame_on_bank g.B.Bank b (chain_at_next (lone_chain old public case 0 0) next).running) public lone in
    let done = c.perform_lone.ensures.acts in
    let acts : RowActs g.B.Bank (scene b e (chain_at_next (lone_chain old public case 0 0) next).running h public segment) i lone done.done =
    subst (λ (k : Held). RowActs g.B.Bank (scene b e k h public segment) i lone done.done) c.go.ensures done.acts in
    goes_code g.B.Bank laws b e (chain_at_next (lone_chain old public case 0 0) next).running h public segment segment x done.done (sym done.value ∙ is) c.requires.fits.there acts
