use Rattle.std.proofs.Common.{◌≡◌, ◌++◌, ℕ, List, Option, Bor, subst}
use Rattle.std.specs.Prelude.{◌==◌, option_map}
use Rattle.std.proofs.lemmas.Result.{err_from_is_err_and}
use Rattle.mc_text.specs.model_text.specs.Text.{ok_as, pieces}
use Rattle.desk_draft.specs.Operands.{pieces_text}
use Rattle.desk_draft.proofs.PushLemmas.{left_text, first_faulty, first_pushed, later_faulty, later_pushed}
use Rattle.desk_draft.proofs.instruction.push_pieces.Goals as goal

pub returns-in_err-push_piece : goal.returns-in_err-push_piece
returns-in_err-push_piece c = λ l h.
    let p = err_from_is_err_and c.from_residual.result c.from_residual.ensures.1 in
    rw (p.1, p.2) (first_faulty l c.args.sized c.args.text.now c.cut.result.0.now (option_map (λ t. t.now) c.cut.result.1) c.in_err-push_piece.field-0.0 c.cut.ensures.front c.cut.ensures.behind (c.in_err-push_piece.ensures l h))

pub loop-rest-init : goal.loop-rest-init
loop-rest-init c = λ l h. first_pushed l c.args.sized c.args.text.now c.cut.result.0.now (option_map (λ t. t.now) c.cut.result.1) c.args.deck.now.items c.push_piece.new.deck.items c.cut.ensures.front c.cut.ensures.behind (c.in_ok-push_piece.ensures l h)

pub returns-in_err-push_piece-2 : goal.returns-in_err-push_piece-2
returns-in_err-push_piece-2 c = λ l h.
    let whole = pieces_text l c.args.sized (pieces (λ c. c == 44) c.args.text.now) in
    let so_far = subst (λ (r : Option (Bor (List ℕ))). ok_as (λ t. c.loop-rest.deck.items ++ t) (left_text l c.args.sized (option_map (λ t. t.now) r)) ≡ ok_as (λ t. c.args.deck.now.items ++ t) whole) c.in-Some.is (c.loop-rest.invariant l h) in
    let p = err_from_is_err_and c.from_residual-in_err-push_piece-2.result c.from_residual-in_err-push_piece-2.ensures.1 in
    rw (p.1, p.2) (later_faulty l c.args.sized c.in-Some.left.now c.cut-in-Some.result.0.now (option_map (λ t. t.now) c.cut-in-Some.result.1) c.loop-rest.deck.items c.args.deck.now.items whole c.in_err-push_piece-2.field-0.0 c.cut-in-Some.ensures.front c.cut-in-Some.ensures.behind so_far (c.in_err-push_piece-2.ensures l h))

pub loop-rest-preserved : goal.loop-rest-preserved
loop-rest-preserved c = λ l h.
    let whole = pieces_text l c.args.sized (pieces (λ c. c == 44) c.args.text.now) in
    let so_far = subst (λ (r : Option (Bor (List ℕ))). ok_as (λ t. c.loop-rest.deck.items ++ t) (left_text l c.args.sized (option_map (λ t. t.now) r)) ≡ ok_as (λ t. c.args.deck.now.items ++ t) whole) c.in-Some.is (c.loop-rest.invariant l h) in
    later_pushed l c.args.sized c.in-Some.left.now c.cut-in-Some.result.0.now (option_map (λ t. t.now) c.cut-in-Some.result.1) c.loop-rest.deck.items c.push.new.text.items c.push_piece-in-Some.new.deck.items c.args.deck.now.items whole c.cut-in-Some.ensures.front c.cut-in-Some.ensures.behind so_far c.in_ok-push.ensures (c.in_ok-push_piece-2.ensures l h)
