-- A turn by what its instruction did, and by what followed it.
use Rattle.std.proofs.Common.{◌≡◌, ◌≢◌, ℕ, zero, suc, ◌+◌, ◌-◌, Bool, false, List, [], ◌∷◌, length, Option, Some, None, Result, Ok, Err, refl, sym, ap, subst, ◌∙◌, arith}
use Rattle.law_machine.specs.model_machine.specs.declared.instruction.Ins.{Ins}
use Rattle.law_machine.specs.model_machine.specs.declared.instruction.DecodeFault.{DecodeFault}
use Rattle.law_machine.specs.model_machine.specs.declared.machine.Abend.{Abend}
use Rattle.law_machine.specs.model_device.specs.declared.device.Stop.{Stop}
use Rattle.law_machine.specs.model_device.specs.Orders.{InOrder}
use Rattle.law_machine.specs.model_device.specs.Bytes.{lookup}
use Rattle.law_machine.specs.model_machine.specs.Code.{instruction_at}
use Rattle.law_machine.specs.model_machine.specs.Frame.{Frame, Effect, session_of}
use Rattle.law_machine.specs.model_machine.specs.Primitives.{Around, Then, Exits}
use Rattle.law_machine.specs.model_machine.specs.Row.{RowEnd, Abends, Does, row}
use Rattle.law_machine.specs.model_machine.specs.Chain.{Chain, Turn, Outcome, Reply, Abended, Follows, Continues, Ends, code_in, around, first_frame, chain_session, write_of, words_of_write, pair_of, chain_after_effect, follows, abends_at, done_turn, row_turn, frame_at, turn_of_fetch, turn_of_chain, turn_of}
use Rattle.mc_bank.specs.Bank.{app_of}
use Rattle.mc_segs.specs.declared.ends.Halt.{Halt}
use Rattle.mc_segs.specs.declared.ends.Halt.TheVariants as halt
use Rattle.mc_segs.specs.declared.ends.Next.{Next}
use Rattle.mc_segs.specs.HeldFrames.{Held, frame_on_bank, frame_reading, app_under}
use Rattle.mc_segs.specs.Ends.{EndActs as CallActs, EffectDone, scene, then_of}
use Rattle.mc_machine.specs.Alike.{SameEffect, SameRowEnd, KeepsEffect, KeepsRow}
use Rattle.mc_machine.specs.Chains.{Chained, RunsAs, FitsChain, ChainWrote, first_held, session_in}
use Rattle.mc_machine.specs.Turns.{ActDone, Followed, chain_at_next, step_of_halt, step_of_frame, delegator_of, end_value, step_value}
use Rattle.mc_machine.specs.declared.outcome.End.TheVariants as end
use Rattle.mc_machine.specs.declared.outcome.Step.{Step}
use Rattle.mc_machine.proofs.Alike.{rows_end_alike, guarded_seen}
use Rattle.mc_machine.proofs.RowFacts.{ExitKeeps}
use Rattle.mc_machine.proofs.ReadsLemmas.{name_is, app_is, as_many, delegators, session_runs, advanced_runs}
use Rattle.mc_machine.proofs.TurnLemmas.{BankLaws, writes_of, committed_of, settled_runs}
use Rattle.mc_bank.specs.declared.bank.Bank.{Ghosts}

-- ---- the record of a turn

reported_same : (k l at at' dt dt' : ℕ) (c c' z z' : Bool) (o p : Option Outcome) (i : Option Ins) (w : Option ℕ) → k ≡ l → at ≡ at' → dt ≡ dt' → c ≡ c' → z ≡ z' → o ≡ p
    → ◌≡◌ {A = Turn} (record { depth = k; at = at; ins = i; dt = dt; c = c; z = z; end = o; wrote = w }) (record { depth = l; at = at'; ins = i; dt = dt'; c = c'; z = z'; end = p; wrote = w })
reported_same k l at at' dt dt' c c' z z' o p i w ek ea ed ec ez eo = rw (ek, ea, ed, ec, ez, eo) refl

-- ---- session bytes

first_kept : (f g : Frame) (fs : List Frame) → session_of g ≡ session_of f → session_of (first_frame g fs) ≡ session_of (first_frame f fs)
first_kept f g [] same = same
first_kept f g (h ∷ fs) same = refl

held_kept : (h k : Held) (hs : List Held) → session_of k.frame ≡ session_of h.frame → session_of (first_held k hs).frame ≡ session_of (first_held h hs).frame
held_kept h k [] same = same
held_kept h k (j ∷ hs) same = refl

-- a chain ends only if its frame exits
ends_exit : (k : Chain) (th : Then) (o : Outcome) → follows k th ≡ Ends o → th ≡ Exits
ends_exit k th o is = grind arith

pub one_less : (n : ℕ) → n ≢ 0 → n - 1 + 1 ≡ n
one_less n some = omega arith

-- ---- the turn of a chain with a budget

not_spent : (n : ℕ) (ch : Chain) → n ≢ 0 → turn_of n ch ≡ turn_of_chain ch
not_spent zero ch some = absurd (some refl)
not_spent (suc n) ch some = refl

acted_is : (ch : Chain) → turn_of_chain ch ≡ turn_of_fetch ch (instruction_at (code_in (lookup ch.map ch.frame.name)) ch.frame.at)
unfolding turn_of_chain
acted_is ch = refl

-- one instruction counts once
pub row_count : (ch : Chain) (i : Ins) (e : RowEnd) → (row_turn ch i e).count ≡ 1
row_count ch i (Abends a) = refl
row_count ch i (Does d) = refl

module _ {B : Type 0} (ghosts : Ghosts B) where
  pub turned : (b : B) (c : Chained) (ch : Chain) (found : Result (Ins × ℕ) DecodeFault) → RunsAs (ghosts.state b) (ghosts.named b) c ch → c.left ≢ 0
      → found ≡ instruction_at (app_under (ghosts.state b) (ghosts.named b) c.running).code c.running.frame.at → turn_of c.left ch ≡ turn_of_fetch ch found
  turned b c ch found r some is = grind (arith, app_is, not_spent, acted_is)

  -- the running frame's static bytes are those of its application
  pub own_fixed : (b : B) (c : Chained) (ch : Chain) → RunsAs (ghosts.state b) (ghosts.named b) c ch → (app_under (ghosts.state b) (ghosts.named b) c.running).fixed ≡ (app_of (ghosts.state b).apps (Some ch.frame.name)).fixed
  own_fixed b c ch r = ap (λ (o : Option (List ℕ)). (app_of (ghosts.state b).apps o).fixed) (name_is (ghosts.state b) (ghosts.named b) c.running ch.frame r.running)

  -- the record of the turn has the frame's registers from before the instruction
  reported_old : (b : B) (c : Chained) (ch : Chain) (o : Option Outcome) (i : Option Ins) (w : Option ℕ) → RunsAs (ghosts.state b) (ghosts.named b) c ch
      → ◌≡◌ {A = Turn} (record { depth = length ch.below + 1; at = ch.frame.at; ins = i; dt = ch.frame.dt; c = ch.frame.c; z = ch.frame.z; end = o; wrote = w })
      (record { depth = length c.below + 1; at = c.running.frame.at; ins = i; dt = c.running.frame.dt; c = c.running.frame.c; z = c.running.frame.z; end = o; wrote = w })
  reported_old b c ch o i w r = grind (arith, reported_same, as_many)

  -- an abend, after which no byte was written
  pub abends_done : (b e : B) (c d : Chained) (ch : Chain) (i : Option Ins) (count : ℕ) (a : Abend) (step : Step) → RunsAs (ghosts.state b) (ghosts.named b) c ch → (ghosts.state b).stopped ≡ false → e ≡ b → session_in d ≡ session_in c → d.left + count ≡ c.left
      → step ≡ step_of_frame c.running i (Some (end.Abend a)) → ActDone ghosts b e c d ch (abends_at ch i count a) (Ok step)
  abends_done b e c d ch i count a step r going same session left is = (
    record {
      writes = same;
      going = subst (λ (x : B). (ghosts.state x).stopped ≡ false) (sym same) going;
      left = left;
      follows = session ∙ session_runs (ghosts.state b) (ghosts.named b) c ch r;
    },
    subst (λ (s : Step). (abends_at ch i count a).turn ≡ step_value (length c.below + 1) c.running.frame.at d.public d.le s None) (sym is) (reported_old b c ch (Some (Abended a)) i None r),
  )

  -- ---- from the row of the code's frame to that of the definitions'

  pub row_related : (b : B) (c : Chained) (ch : Chain) (next : ℕ) (i : Ins) → RunsAs (ghosts.state b) (ghosts.named b) c ch
      → SameRowEnd (app_under (ghosts.state b) (ghosts.named b) c.running).fixed
      (row i (frame_on_bank ghosts b (chain_at_next c next).running) c.public (record { case = c.case; delegator = delegator_of (ghosts.named b) c.below }))
      (row i (frame_at ch.frame next) ch.public (around ch))
  row_related b c ch next i r =
      let f = frame_on_bank ghosts b (chain_at_next c next).running in
      let g = frame_at ch.frame next in
      let x : Around = record { case = c.case; delegator = delegator_of (ghosts.named b) c.below } in
      let same : frame_reading f ≡ frame_reading g = (advanced_runs (ghosts.state b) (ghosts.named b) c ch next r).running.same in
      let fixed = (app_under (ghosts.state b) (ghosts.named b) c.running).fixed in
      let knows : x ≡ around ch =
      ap (λ (k : ℕ). record { case = k; delegator = delegator_of (ghosts.named b) c.below }) r.case ∙ ap (λ (o : Option (List ℕ)). record x { case = (around ch).case; delegator = o }) (delegators (ghosts.state b) (ghosts.named b) c.below ch.below r.below) in
      subst (λ (y : Around). SameRowEnd fixed (row i f c.public x) (row i g ch.public y)) knows (
      subst (λ (p : List ℕ). SameRowEnd fixed (row i f c.public x) (row i g p x)) r.public (rows_end_alike i f g c.public x (guarded_seen g f (sym same) r.running.guarded) same)
      )

  module _ (laws : BankLaws ghosts) (b e : B) (c mid : Chained) (ch : Chain) (next : ℕ) (i : Ins) (r : RunsAs (ghosts.state b) (ghosts.named b) c ch) (others : mid ≡ record (chain_at_next c next) { running = mid.running; public = mid.public }) where
    -- ---- the instruction abends

    performed_abends : (going : (ghosts.state b).stopped ≡ false) (some : c.left ≢ 0) (step : Step) (a : Abend) (x y : RowEnd) → SameRowEnd (app_under (ghosts.state b) (ghosts.named b) c.running).fixed x y
        → CallActs ghosts (scene b e (chain_at_next c next).running mid.running c.public mid.public) x (Err (halt.Abend a)) → step ≡ step_of_frame c.running (Some i) (Some (end.Abend a))
        → ActDone ghosts b e c mid ch (row_turn ch i y) (Ok step)
    performed_abends going some step a (Abends p) (Abends q) same acts is =
        let quiet = acts.1 in
        let session : session_of mid.running.frame ≡ session_of c.running.frame =
        ap (λ (k : ℕ). session_of (record mid.running.frame { session = k })) quiet.session ∙ ap (λ (l : List ℕ). session_of (record mid.running.frame { session = c.running.frame.session; dyn = l })) quiet.dyn in
        let first : session_in mid ≡ session_in c =
        ap (λ (hs : List Held). session_of (first_held mid.running hs).frame) (ap (λ (k : Chained). k.below) others) ∙ held_kept c.running mid.running c.below session in
        subst (λ (z : Abend). ActDone ghosts b e c mid ch (abends_at ch (Some i) 1 z) (Ok step)) (acts.0 ∙ same) (
        abends_done b e c mid ch (Some i) 1 a step r going quiet.bank first (ap (λ (k : Chained). k.left + 1) others ∙ one_less c.left some) is
        )
    performed_abends going some step a (Abends p) (Does d) same acts is = absurd same
    performed_abends going some step a (Does d) (Abends q) same acts is = absurd same
    performed_abends going some step a (Does d) (Does k) same acts is = absurd acts

    -- ---- the bank stops in its change

    performed_stops : (stop : Stop) (x y : RowEnd) → SameRowEnd (app_under (ghosts.state b) (ghosts.named b) c.running).fixed x y
        → CallActs ghosts (scene b e (chain_at_next c next).running mid.running c.public mid.public) x (Err (halt.Stop stop)) → InOrder (ChainWrote ghosts) b (row_turn ch i y).writes (Err stop) e
    performed_stops stop x y same acts = grind (arith, writes_of, own_fixed, committed_of)

    pub performed_halts : (going : (ghosts.state b).stopped ≡ false) (some : c.left ≢ 0) (before : Step) → before ≡ step_of_frame c.running (Some i) None → (h : Halt) (x y : RowEnd) → SameRowEnd (app_under (ghosts.state b) (ghosts.named b) c.running).fixed x y
        → CallActs ghosts (scene b e (chain_at_next c next).running mid.running c.public mid.public) x (Err h) → ActDone ghosts b e c mid ch (row_turn ch i y) (step_of_halt before h)
    performed_halts going some before is (halt.Abend a) x y same acts =
        performed_abends going some (record before { end = Some (end.Abend a) }) a x y same acts (ap (λ (s : Step). record s { end = Some (end.Abend a) }) is)
    performed_halts going some before is (halt.Stop stop) x y same acts = performed_stops stop x y same acts

    -- ---- the instruction is done

    pub mid_runs : (d x : Effect) → SameEffect (app_under (ghosts.state b) (ghosts.named b) c.running).fixed d x → KeepsEffect (frame_at ch.frame next) ch.public x
        → EffectDone ghosts (scene b e (chain_at_next c next).running mid.running c.public mid.public) d → RunsAs (ghosts.state e) (ghosts.named e) mid (chain_after_effect ch x)
    mid_runs d x same keeps left =
        subst (λ (k : Chained). RunsAs (ghosts.state e) (ghosts.named e) k (chain_after_effect ch x)) (sym others) (
        settled_runs ghosts laws b e (chain_at_next c next) (record ch { frame = frame_at ch.frame next }) mid.running mid.public d x (advanced_runs (ghosts.state b) (ghosts.named b) c ch next r) same keeps left
        )

    pub performed_fits : (nx : Next) (x y : RowEnd) → SameRowEnd (app_under (ghosts.state b) (ghosts.named b) c.running).fixed x y → KeepsRow (frame_at ch.frame next) ch.public y
        → CallActs ghosts (scene b e (chain_at_next c next).running mid.running c.public mid.public) x (Ok nx) → FitsChain ghosts e mid
    performed_fits nx (Abends p) (Abends q) same keeps acts = absurd acts
    performed_fits nx (Abends p) (Does d) same keeps acts = absurd same
    performed_fits nx (Does d) (Abends q) same keeps acts = absurd same
    performed_fits nx (Does d) (Does k) same keeps acts = (chain_after_effect ch k.effect, mid_runs d.effect k.effect same.effect keeps acts.1)

    -- the record of the turn has the frame's registers after the instruction
    reported_mid : (y : Effect) (o p : Option Outcome) (it : Option Ins) (w : Option ℕ) → RunsAs (ghosts.state e) (ghosts.named e) mid (chain_after_effect ch y) → o ≡ p
        → ◌≡◌ {A = Turn} (record { depth = length ch.below + 1; at = ch.frame.at; ins = it; dt = y.frame.dt; c = y.frame.c; z = y.frame.z; end = o; wrote = w })
        (record { depth = length c.below + 1; at = c.running.frame.at; ins = it; dt = mid.running.frame.dt; c = mid.running.frame.c; z = mid.running.frame.z; end = p; wrote = w })
    reported_mid y o p it w mr same = grind (arith, reported_same, as_many)

    -- the turn, by what follows its instruction
    finish : (y : Effect) (d : Chained) (step : Step) (pairs : List (List ℕ × List ℕ)) (t : Follows) → RunsAs (ghosts.state e) (ghosts.named e) mid (chain_after_effect ch y) → InOrder (ChainWrote ghosts) b (write_of ch.frame.name y.changes) (Ok tt) e
        → (ghosts.state e).stopped ≡ false → d.left + 1 ≡ c.left → d.le ≡ mid.le → ((o : Outcome) → t ≡ Ends o → session_in mid ≡ chain_session ch)
        → Followed (ghosts.state e) (ghosts.named e) mid d i (step_of_frame c.running (Some i) None) step t → ActDone ghosts b e c d ch (done_turn ch i y t pairs) (Ok step)
    finish y d step pairs (Continues k) mr writes going left le session fol = (
      record { writes = writes; going = going; left = left; follows = fol.0 },
      subst (λ (s : Step). (done_turn ch i y (Continues k) pairs).turn ≡ step_value (length c.below + 1) c.running.frame.at d.public d.le s (words_of_write y.changes)) (sym fol.1) (
          reported_mid y None None (Some i) (words_of_write y.changes) mr refl
          ),
    )
    finish y d step pairs (Ends (Reply body sw)) mr writes going left le session fol = (
      record { writes = writes; going = going; left = left; follows = ap session_in fol.0 ∙ session (Reply body sw) refl },
      subst (λ (s : Step). (done_turn ch i y (Ends (Reply body sw)) pairs).turn ≡ step_value (length c.below + 1) c.running.frame.at d.public d.le s (words_of_write y.changes)) (sym fol.1) (
          reported_mid y (Some (Reply body sw)) (Some (end_value d.public d.le end.Reply)) (Some i) (words_of_write y.changes) mr (ap (λ (o : Outcome). Some o) (sym (ap (λ (k : Chained). end_value k.public k.le end.Reply) fol.0 ∙ fol.2)))
          ),
    )
    finish y d step pairs (Ends (Abended a)) mr writes going left le session fol = (
      record { writes = writes; going = going; left = left; follows = ap session_in fol.0 ∙ session (Abended a) refl },
      subst (λ (s : Step). (done_turn ch i y (Ends (Abended a)) pairs).turn ≡ step_value (length c.below + 1) c.running.frame.at d.public d.le s (words_of_write y.changes)) (sym fol.1) (
          reported_old b c ch (Some (Abended a)) (Some i) (words_of_write y.changes) r
          ),
    )

    pub performed_done : (d : Chained) (step : Step) (nx : Next) (x y : RowEnd) → c.left ≢ 0 → d.left ≡ mid.left → d.le ≡ mid.le
        → SameRowEnd (app_under (ghosts.state b) (ghosts.named b) c.running).fixed x y → KeepsRow (frame_at ch.frame next) ch.public y → ExitKeeps (frame_at ch.frame next) y
        → CallActs ghosts (scene b e (chain_at_next c next).running mid.running c.public mid.public) x (Ok nx)
        → ((k : Chain) → RunsAs (ghosts.state e) (ghosts.named e) mid k → Followed (ghosts.state e) (ghosts.named e) mid d i (step_of_frame c.running (Some i) None) step (follows k (then_of nx)))
        → ActDone ghosts b e c d ch (row_turn ch i y) (Ok step)
    performed_done d step nx (Abends p) (Abends q) some left le same keeps exits acts followed = absurd acts
    performed_done d step nx (Abends p) (Does k) some left le same keeps exits acts followed = absurd same
    performed_done d step nx (Does k) (Abends q) some left le same keeps exits acts followed = absurd same
    performed_done d step nx (Does j) (Does k) some left le same keeps exits acts followed =
        let mr = mid_runs j.effect k.effect same.effect keeps acts.1 in
        let settled_so = chain_after_effect ch k.effect in
        let writes = writes_of ghosts ch.frame.name (app_under (ghosts.state b) (ghosts.named b) c.running).fixed k.effect.changes b (Ok tt) e (own_fixed b c ch r) (committed_of ghosts laws b e c ch j.effect k.effect (Ok tt) r same.effect acts.1.commits) in
        let fol = subst (λ (th : Then). Followed (ghosts.state e) (ghosts.named e) mid d i (step_of_frame c.running (Some i) None) step (follows settled_so th)) (acts.0 ∙ same.next) (followed settled_so mr) in
        finish k.effect d step (pair_of ch.frame.name k.next) (follows settled_so k.next) mr writes acts.1.going (ap (λ (n : ℕ). n + 1) (left ∙ ap (λ (m : Chained). m.left) others) ∙ one_less c.left some) le
        (λ o is. session_runs (ghosts.state e) (ghosts.named e) mid settled_so mr ∙ first_kept ch.frame k.effect.frame ch.below (exits (ends_exit settled_so k.next o is)))
        fol
