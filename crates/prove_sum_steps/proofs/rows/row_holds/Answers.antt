use Rattle.std.proofs.lemmas.Bool.{and_from}
use Rattle.prove_sum_steps.specs.Walks.{place_in, turn_in}
use Rattle.prove_sum_steps.proofs.RowLemmas.{row_delegates, row_exits, row_goes}
use Rattle.prove_sum_steps.proofs.rows.row_holds.Goals as goal

pub returns-in-Goes : goal.returns-in-Goes
returns-in-Goes c b names s u e h v is same dt are =
    let t = c.args.turn.now in
    let w = turn_in names t e in
    let k = (place_in names t).known in
    and_from _ _ (is.reached w h.next v k (c.in_ok-goals_hold.ensures c.if-not-branch.false k names s u e h.next v is same are))
    (row_goes s w h v c.args.next h.next c.in-Goes.is same)

pub returns-in-Delegates : goal.returns-in-Delegates
returns-in-Delegates c b names s u e h v is same dt are =
    let t = c.args.turn.now in
    let w = turn_in names t e in
    let k = (place_in names t).known in
    and_from _ _ (is.reached w h.next v k (c.in_ok-goals_hold.ensures c.if-not-branch.false k names s u e h.next v is same are))
    (row_delegates s w h v c.args.next h.next c.in-Delegates.is same)

pub returns-in_ok-holds-in-Exits : goal.returns-in_ok-holds-in-Exits
returns-in_ok-holds-in-Exits c b names s u e h v is same dt are =
    let t = c.args.turn.now in
    let w = turn_in names t e in
    let k = (place_in names t).known in
    and_from _ _ (is.reached w h.next v k (c.in_ok-goals_hold.ensures c.if-not-branch.false k names s u e h.next v is same are))
    (row_exits s w h v c.args.next h.next c.args.dt c.in-Exits.is same dt (c.in_ok-holds-in-Exits.ensures b names s u e v is are))
