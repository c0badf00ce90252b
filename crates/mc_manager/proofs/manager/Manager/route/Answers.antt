use Rattle.std.proofs.Common.{[]}
use Rattle.model_card.specs.model_device.specs.Orders.{answer_of}
use Rattle.model_card.specs.Manager.{manage}
use Rattle.mc_apdu.specs.Command.{parts_of}
use Rattle.mc_manager.specs.ManagerState.{view_of, session_state_of}
use Rattle.mc_manager.specs.CommandDue.{due_manager, due}
use Rattle.mc_manager.specs.Ruled.{ruling_or_stop}
use Rattle.mc_manager.proofs.EndsLemmas.{ends_as, manager_due}
use Rattle.mc_manager.proofs.StaleLemmas.{none_stale}
use Rattle.mc_manager.proofs.manager.Manager.route.Goals as goal

pub returns-then-apdu-3-clause-ends : goal.returns-then-apdu-3-clause-ends
returns-then-apdu-3-clause-ends g c =
    let v = view_of g.B.Bank c.args.bank.now in
    let w = view_of g.B.Bank c.manage.new.bank in
    let m = c.args.self.now in
    let a = parts_of c.args.apdu.now in
    ends_as g.B.Bank.did (λ s. due v s m a) (λ s. due_manager (manage v.room v.state.apps (session_state_of v.site_bytes s m) a)) v m c.args.bank.now (ruling_or_stop c.manage.result c.manage.new.reply) w c.manage.new.self c.manage.new.bank
    (λ s. manager_due v s m a c.if-apdu-3.true) c.manage.ensures.ends

pub returns-then-apdu-3-clause-no_stale_byte : goal.returns-then-apdu-3-clause-no_stale_byte
returns-then-apdu-3-clause-no_stale_byte g c =
    let v = view_of g.B.Bank c.args.bank.now in
    let ends = returns-then-apdu-3-clause-ends g c in
    none_stale v [] c.args.self.now (parts_of c.args.apdu.now) (answer_of (ruling_or_stop c.manage.result c.manage.new.reply)) (g.B.Bank.state c.manage.new.bank) (ends.apps [])
