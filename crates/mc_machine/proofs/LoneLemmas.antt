-- A turn of an application that no frame waits for, by what its instruction did.
use Rattle.std.proofs.Common.{arith, ◌≡◌, ◌≢◌, ℕ, ◌-◌, Bool, true, false, cond, List, [], ◌∷◌, Option, Some, None, Result, Ok, Err, refl, sym, ap, subst, ◌∙◌}
use Rattle.std.specs.Prelude.{option_map, IsSome}
use Rattle.law_machine.specs.model_machine.specs.declared.instruction.Ins.{Ins}
use Rattle.law_machine.specs.model_machine.specs.declared.machine.Abend.{Abend}
use Rattle.law_machine.specs.model_machine.specs.declared.machine.Abend.TheVariants.{A09}
use Rattle.law_machine.specs.model_machine.specs.Frame.{Frame}
use Rattle.law_machine.specs.model_machine.specs.Primitives.{Then, Exits}
use Rattle.law_machine.specs.model_machine.specs.Row.{RowEnd, Abends, Does}
use Rattle.law_machine.specs.model_machine.specs.Chain.{Chain, Turn, Abended, Ends as Ended, Acted, frame_at, row_turn, chain_after_effect, follows, after_exit, last_exit, reply_of}
use Rattle.mc_bank.specs.Bank.{BankState}
use Rattle.mc_segs.specs.declared.ends.Next.TheVariants as go
use Rattle.mc_segs.specs.declared.ends.Next.{Next}
use Rattle.mc_segs.specs.declared.ends.Halt.{Halt}
use Rattle.mc_segs.specs.declared.ends.Halt.TheVariants as halt
use Rattle.mc_segs.specs.HeldFrames.{Held, app_under}
use Rattle.mc_segs.specs.Ends.{EndActs as CallActs, scene}
use Rattle.mc_machine.specs.Alike.{SameRowEnd, KeepsRow}
use Rattle.mc_machine.specs.Chains.{Chained, ReadAll, RunsAs}
use Rattle.mc_machine.specs.Turns.{ActDone, Followed, chain_at_next, step_of_frame, last_end, end_value}
use Rattle.mc_machine.specs.Lone.{lone_chain, lone_of, EndDone, Delegated, NameIsCalled, LoneDone}
use Rattle.mc_machine.specs.declared.lone.Lone.TheVariants.{Goes, Delegates}
use Rattle.mc_machine.specs.declared.outcome.End.{End}
use Rattle.mc_machine.specs.declared.outcome.End.TheVariants as end
use Rattle.mc_machine.specs.declared.outcome.Step.{Step}
use Rattle.mc_machine.proofs.RowFacts.{ExitKeeps}
use Rattle.mc_machine.proofs.TurnLemmas.{BankLaws, writes_of, committed_of, code_under_stays}
use Rattle.mc_machine.proofs.ActLemmas.{one_less, own_fixed, mid_runs, performed_done, performed_halts}
use Rattle.mc_bank.specs.declared.bank.Bank.{Ghosts}

-- ---- the exit of a frame that no frame waits for

-- the record of the turn of an exit: if it ends by an abend, it has the registers from before the exit
abbrev pub exit_step : Held → Held → Ins → End → Step
exit_step old new i end.Reply = step_of_frame new (Some i) (Some end.Reply)
exit_step old new i (end.Abend a) = step_of_frame old (Some i) (Some (end.Abend a))

exit_end : (old new : Held) (i : Ins) (o : End) → (exit_step old new i o).end ≡ Some o
exit_end old new i end.Reply = refl
exit_end old new i (end.Abend a) = refl

module _ (s : BankState) (named : ℕ → Option (List ℕ)) (old h : Held) (public : List ℕ) (case le left : ℕ) (k : Chain) (i : Ins) (r : RunsAs s named (lone_chain h public case le left) k) where
  exited_is : (fs : List Frame) → ReadAll s named [] fs → after_exit k fs ≡ last_exit k
  exited_is [] all = refl
  exited_is (f ∷ fs) all = absurd all

  reply_is : end_value public le end.Reply ≡ reply_of k
  reply_is = rw (r.public, r.le) refl

  exit_by : (b : Bool) → Followed s named (lone_chain h public case le left) (lone_chain h public case le left) i (step_of_frame old (Some i) None) (exit_step old h i (cond b (end.Abend A09) end.Reply)) (cond b (Ended (Abended A09)) (Ended (reply_of k)))
  exit_by true = (refl, refl)
  exit_by false = (refl, refl, reply_is)

  pub exit_follows : Followed s named (lone_chain h public case le left) (lone_chain h public case le left) i (step_of_frame old (Some i) None) (exit_step old h i (last_end public)) (follows k Exits)
  exit_follows = grind (arith, exited_is, exit_by)

-- ---- turns

module _ {B : Type 0} (ghosts : Ghosts B) where
  -- the end in the record of a turn
  pub ended : (b e : B) (c d : Chained) (ch : Chain) (t : Acted) (step : Step) (o : Option End) → step.end ≡ o → ActDone ghosts b e c d ch t (Ok step) → EndDone ghosts b e c d ch t o
  ended b e c d ch t step o is done = (done.0, ap (λ (u : Turn). u.end) done.1 ∙ ap (option_map (end_value d.public d.le)) is)

  -- a turn that ends by an abend
  pub lone_abends : (b e : B) (c d : Chained) (ch : Chain) (t : Acted) (h : Held) (i : Option Ins) (a : Abend) → ActDone ghosts b e c d ch t (Ok (step_of_frame h i (Some (end.Abend a)))) → EndDone ghosts b e c d ch t (Some (end.Abend a))
  lone_abends b e c d ch t h i a done = ended b e c d ch t (step_of_frame h i (Some (end.Abend a))) (Some (end.Abend a)) refl done

  module _ (laws : BankLaws ghosts) (b e : B) (old h : Held) (public segment : List ℕ) (case le left : ℕ) (ch : Chain) (next : ℕ) (i : Ins) (r : RunsAs (ghosts.state b) (ghosts.named b) (lone_chain old public case le left) ch) where
    abbrev from : Chained
    from = lone_chain old public case le left

    abbrev mid : Chained
    mid = lone_chain h segment case le (left - 1)

    -- the next instruction follows
    pub lone_goes : (x y : RowEnd) → left ≢ 0 → SameRowEnd (app_under (ghosts.state b) (ghosts.named b) old).fixed x y → KeepsRow (frame_at ch.frame next) ch.public y → ExitKeeps (frame_at ch.frame next) y
        → CallActs ghosts (scene b e (chain_at_next from next).running h public segment) x (Ok go.Go) → EndDone ghosts b e from mid ch (row_turn ch i y) None
    lone_goes x y some same keeps exits acts =
        let step = step_of_frame h (Some i) None in
        ended b e from mid ch (row_turn ch i y) step None refl (
        performed_done ghosts laws b e from mid ch next i r refl mid step go.Go x y some refl refl same keeps exits acts (λ k runs. (runs, refl))
        )

    -- the frame exits
    pub lone_exits : (x y : RowEnd) → left ≢ 0 → SameRowEnd (app_under (ghosts.state b) (ghosts.named b) old).fixed x y → KeepsRow (frame_at ch.frame next) ch.public y → ExitKeeps (frame_at ch.frame next) y
        → CallActs ghosts (scene b e (chain_at_next from next).running h public segment) x (Ok go.Exit) → EndDone ghosts b e from mid ch (row_turn ch i y) (Some (last_end segment))
    lone_exits x y some same keeps exits acts =
        let step = exit_step old h i (last_end segment) in
        ended b e from mid ch (row_turn ch i y) step (Some (last_end segment)) (exit_end old h i (last_end segment)) (
        performed_done ghosts laws b e from mid ch next i r refl mid step go.Exit x y some refl refl same keeps exits acts
        (λ k runs. exit_follows (ghosts.state e) (ghosts.named e) old h segment case le (left - 1) k i runs)
        )

    -- the frame delegates
    pub lone_delegates : (name : List ℕ) (x y : RowEnd) → left ≢ 0 → SameRowEnd (app_under (ghosts.state b) (ghosts.named b) old).fixed x y → KeepsRow (frame_at ch.frame next) ch.public y
        → CallActs ghosts (scene b e (chain_at_next from next).running h public segment) x (Ok (go.Delegate name)) → Delegated ghosts b e from mid (row_turn ch i y) name
    lone_delegates name (Abends p) (Abends q) some same keeps acts = absurd acts
    lone_delegates name (Abends p) (Does k) some same keeps acts = absurd same
    lone_delegates name (Does j) (Abends q) some same keeps acts = absurd same
    lone_delegates name (Does j) (Does k) some same keeps acts = record {
      chain = chain_after_effect ch k.effect;
      runs = mid_runs ghosts laws b e from mid ch next i r refl j.effect k.effect same.effect keeps acts.1;
      writes = writes_of ghosts ch.frame.name (app_under (ghosts.state b) (ghosts.named b) old).fixed k.effect.changes b (Ok tt) e (own_fixed ghosts b from ch r) (committed_of ghosts laws b e from ch j.effect k.effect (Ok tt) r same.effect acts.1.commits);
      going = acts.1.going;
      left = one_less left some;
      follows = ap (λ (th : Then). follows (chain_after_effect ch k.effect) th) (sym (acts.0 ∙ same.next));
    }

    -- an instruction, whatever it ghosts.did
    pub lone_does : (o : Result Next Halt) (callee : Option (List ℕ)) (x y : RowEnd) → (ghosts.state b).stopped ≡ false → left ≢ 0 → SameRowEnd (app_under (ghosts.state b) (ghosts.named b) old).fixed x y → KeepsRow (frame_at ch.frame next) ch.public y → ExitKeeps (frame_at ch.frame next) y
        → CallActs ghosts (scene b e (chain_at_next from next).running h public segment) x o → NameIsCalled o callee → LoneDone ghosts b e from (lone_chain h segment case le) ch (row_turn ch i y) (lone_of o segment) callee
    lone_does (Ok go.Go) callee x y going some same keeps exits acts called = (left - 1, lone_goes x y some same keeps exits acts)
    lone_does (Ok go.Exit) callee x y going some same keeps exits acts called = (left - 1, lone_exits x y some same keeps exits acts)
    lone_does (Ok (go.Delegate name)) callee x y going some same keeps exits acts called =
        subst (λ (n : Option (List ℕ)). LoneDone ghosts b e from (lone_chain h segment case le) ch (row_turn ch i y) (Ok Delegates) n) (sym called) (lone_delegates name x y some same keeps acts)
    lone_does (Err (halt.Abend a)) callee x y going some same keeps exits acts called = (
      left - 1,
      lone_abends b e from mid ch (row_turn ch i y) old (Some i) a (
          performed_halts ghosts laws b e from mid ch next i r refl going some (step_of_frame old (Some i) None) refl (halt.Abend a) x y same acts
          ),
    )
    lone_does (Err (halt.Stop stop)) callee x y going some same keeps exits acts called =
        performed_halts ghosts laws b e from mid ch next i r refl going some (step_of_frame old (Some i) None) refl (halt.Stop stop) x y same acts

  -- the code of an application that goes on is the same as before
  pub goes_code : (laws : BankLaws ghosts) (b e : B) (old h : Held) (public segment seen : List ℕ) (x : RowEnd) (o : Result Next Halt) → lone_of o seen ≡ Ok Goes → IsSome (ghosts.named b old.slot) → CallActs ghosts (scene b e old h public segment) x o
      → (app_under (ghosts.state e) (ghosts.named e) h).code ≡ (app_under (ghosts.state b) (ghosts.named b) old).code
  goes_code laws b e old h public segment seen x o is there acts = grind (arith, code_under_stays)

  -- a turn that delegates has called a name
  pub name_called : (b e : B) (c : Chained) (d : ℕ → Chained) (ch : Chain) (t : Acted) (callee : Option (List ℕ)) → LoneDone ghosts b e c d ch t (Ok Delegates) callee → IsSome callee
  name_called b e c d ch t (Some name) done = refl
  name_called b e c d ch t None done = absurd done
