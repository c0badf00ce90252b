-- The instruction that the table has is the only one at its address.
use Rattle.std.proofs.Common.{ℕ, ◌<◌, ◌%◌, length, slice_index_or, Ok, arith, sym, subst, ◌∙◌}
use Rattle.law_machine.specs.model_machine.specs.declared.instruction.Ins.TheVariants.{Nop}
use Rattle.law_machine.specs.model_machine.specs.Code.{DecodesTo}
use Rattle.law_machine.specs.law_rows.proofs.PlaceLemmas.{decoded_only}
use Rattle.mc_segs.specs.HeldFrames.{app_under}
use Rattle.mc_machine.specs.declared.known.Known.{Known}
use Rattle.mc_machine.proofs.known.fetch_known.Goals as goal

pub returns-then-known-at-clause-exact : goal.returns-then-known-at-clause-exact
returns-then-known-at-clause-exact g c =
    let code = (app_under (g.B.Bank.state c.args.bank.now) (g.B.Bank.named c.args.bank.now) c.args.frame.now).code in
    let at = c.at-at.result in
    let none : Known = record { at = 0; next = 0; ins = Nop } in
    let known = slice_index_or c.args.table.now (at % 256) none in
    let size = c.told-table in
    let within : at % 256 < length c.args.table.now = omega (arith, size) in
    let here : known.at < 65536 = let is = c.if-known-at.true in let fits = c.at-at.type_inv in omega (arith, is, fits) in
    let stands : DecodesTo code known.at (Ok (known.ins, known.next)) = c.requires.knows (at % 256) none within here in
    sym (decoded_only code c.args.frame.now.frame.at (Ok (known.ins, known.next)) (subst (λ (a : ℕ). DecodesTo code a (Ok (known.ins, known.next))) (c.if-known-at.true ∙ c.at-at.ensures) stands))
