-- The number of words that a turn writes: at most one atomic write, of no more words than its instruction changes, and
-- no write with an exit.
use Rattle.std.proofs.Common.{◌≡◌, ℕ, ◌≤◌, Bool, true, false, cond, List, [], ◌∷◌, length, Option, Some, None, Result, Ok, Err, refl, sym, subst, ◌∙◌, inl, inr, arith}
use Rattle.std.specs.Prelude.{⊤, bytes_eq, IfSome}
use Rattle.std.specs.List.{AllByRecursion}
use Rattle.law_machine.specs.model_machine.specs.declared.instruction.Ins.{Ins}
use Rattle.law_machine.specs.model_machine.specs.declared.instruction.Ins.TheVariants as ins
use Rattle.law_machine.specs.model_machine.specs.declared.machine.Abend.{Abend}
use Rattle.law_machine.specs.model_device.specs.declared.device.Stop.{Stop}
use Rattle.law_machine.specs.model_device.specs.Orders.{Answer, InOrder}
use Rattle.law_machine.specs.model_device.specs.Bytes.{lookup}
use Rattle.law_machine.specs.model_device.specs.Card.{App}
use Rattle.law_machine.specs.model_machine.specs.Code.{Shaped}
use Rattle.law_machine.specs.model_machine.specs.Frame.{Frame}
use Rattle.law_machine.specs.model_machine.specs.Primitives.{Around}
use Rattle.law_machine.specs.model_machine.specs.Row.{RowEnd, Abends, Does, causes, effect, first_cause, row_end, row}
use Rattle.law_machine.specs.model_machine.specs.Chain.{Chain, Write, abends_at, delegator_in, around, write_of, row_turn, frame_at}
use Rattle.law_machine.specs.FewWords.{words_in, most_words, EndsWithin, IsReportedName}
use Rattle.law_machine.proofs.RowWords.{row_words, reported_any, most_is}
use Rattle.mc_bank.specs.Bank.{BankState, IsApplication, AreApps}
use Rattle.mc_segs.specs.HeldFrames.{Held}
use Rattle.mc_machine.specs.Chains.{Chained, ReadAll, RunsAs, ChainWrote}
use Rattle.mc_machine.specs.Turns.{ActDone, WritesFew, is_exit}
use Rattle.mc_machine.specs.declared.outcome.Step.{Step}
use Rattle.mc_machine.proofs.ReadsLemmas.{app_is}
use Rattle.law_machine.specs.model_device.proofs.MapLemmas.{same_name}
use Rattle.mc_bank.specs.declared.bank.Bank.{Ghosts}

-- ---- exits

exit_none : (i : Ins) (f : Frame) (public : List ℕ) (x : Around) → is_exit i ≡ true → (effect i f public x).effect.changes ≡ None
unfolding effect
exit_none ins.Exit f public x e = refl
exit_none (ins.Exitsw sw) f public x e = refl
exit_none (ins.Exitla la) f public x e = refl
exit_none (ins.Exitswla sw la) f public x e = refl
exit_none i f public x e = absurd (cc e)

-- an exit that is done changes nothing
abbrev QuietExit : Ins → RowEnd → Type 0
QuietExit i (Abends a) = ⊤
QuietExit i (Does d) = is_exit i ≡ true → d.effect.changes ≡ None

quiet_judged : (i : Ins) (f : Frame) (public : List ℕ) (x : Around) (o : Option Abend) → QuietExit i (row_end o (effect i f public x))
quiet_judged i f public x (Some a) = tt
quiet_judged i f public x None = exit_none i f public x

quiet_exit : (i : Ins) (f : Frame) (public : List ℕ) (x : Around) → QuietExit i (row i f public x)
unfolding row
quiet_exit i f public x = quiet_judged i f public x (first_cause (causes i f public x))

-- ---- writes

few_written : (most : ℕ) (n : List ℕ) (o : Option (List (ℕ × List ℕ))) → words_in o ≤ most → AllByRecursion (λ (w : Write). w.words ≤ most) (write_of n o)
few_written most n None h = tt
few_written most n (Some ps) h = (h, tt)

one_written : (n : List ℕ) (o : Option (List (ℕ × List ℕ))) → length (write_of n o) ≤ 1
one_written n None = omega arith
one_written n (Some ps) = omega arith

-- a turn by the end of its row
row_writes : (ch : Chain) (i : Ins) (y : RowEnd) → QuietExit i y → EndsWithin (most_words i) y → WritesFew (row_turn ch i y)
row_writes ch i y quiet within = grind (arith, one_written, few_written)

-- a turn without an instruction
pub abend_writes : (ch : Chain) (a : Abend) → WritesFew (abends_at ch None 0 a)
abend_writes ch a = record { one = omega arith; words = tt; exit = tt }

-- ---- names

short_by : (e : List ℕ × App) (es : List (List ℕ × App)) (n : List ℕ) (a : App) (b : Bool) → bytes_eq e.0 n ≡ b → IsApplication e → (lookup es n ≡ Some a → length n ≤ 16) → cond b (Some e.1) (lookup es n) ≡ Some a → length n ≤ 16
short_by e es n a true is entry rest h = subst (λ (k : List ℕ). length k ≤ 16) (same_name e.0 n is) entry.name.1
short_by e es n a false is entry rest h = rest h

short_name : (apps : List (List ℕ × App)) (n : List ℕ) (a : App) → AllByRecursion IsApplication apps → lookup apps n ≡ Some a → length n ≤ 16
short_name [] n a each h = absurd (cc h)
short_name (e ∷ es) n a each h = short_by e es n a (bytes_eq e.0 n) refl each.0 (short_name es n a each.1) h

delegator_short : (s : BankState) (named : ℕ → Option (List ℕ)) (hs : List Held) (fs : List Frame) → AreApps s.apps → ReadAll s named hs fs → IfSome (delegator_in fs) (λ n. length n ≤ 16)
delegator_short s named hs [] apps r = tt
delegator_short s named [] (f ∷ fs) apps r = absurd r
delegator_short s named (h ∷ hs) (f ∷ fs) apps r = short_name s.apps f.name _ apps.each (app_is s named h f r.0)

-- ---- turns

module _ {B : Type 0} (ghosts : Ghosts B) where
  begun_words : (b : B) (n : List ℕ) (o : Option (List (ℕ × List ℕ))) (a : Answer) (e : B) → InOrder (ChainWrote ghosts) b (write_of n o) a e → words_in o ≤ 64
  begun_words b n None a e h = omega arith
  begun_words b n (Some ps) a e h = elim h [ inl done ↦ (done.1).3 | inr stop ↦ (stop.1).3 ]

  begun_row : (b : B) (ch : Chain) (i : Ins) (y : RowEnd) (a : Answer) (e : B) → InOrder (ChainWrote ghosts) b (row_turn ch i y).writes a e → EndsWithin 64 y
  begun_row b ch i (Abends c) a e h = tt
  begun_row b ch i (Does d) a e h = begun_words b ch.frame.name d.effect.changes a e h

  -- a turn whose writes were begun
  turn_writes : (b : B) (c : Chained) (ch : Chain) (i : Ins) (next : ℕ) (a : Answer) (e : B) → RunsAs (ghosts.state b) (ghosts.named b) c ch → AreApps (ghosts.state b).apps → Shaped i
      → InOrder (ChainWrote ghosts) b (row_turn ch i (row i (frame_at ch.frame next) ch.public (around ch))).writes a e
      → WritesFew (row_turn ch i (row i (frame_at ch.frame next) ch.public (around ch)))
  turn_writes b c ch i next a e r apps shaped done =
      let f = frame_at ch.frame next in
      let x = around ch in
      let y = row i f ch.public x in
      let reported : IsReportedName i x.delegator = reported_any i x.delegator (delegator_short (ghosts.state b) (ghosts.named b) c.below ch.below apps r.below) in
      row_writes ch i y (quiet_exit i f ch.public x) (
      elim (most_is i) [
        | inl most ↦ subst (λ (n : ℕ). EndsWithin n y) (sym most) (begun_row b ch i y a e done)
        | inr most ↦ row_words i f ch.public x shaped reported (λ more. absurd (cc (sym most ∙ more)))
      ]
      )

  -- a turn by its result
  pub act_writes : (b e : B) (c d : Chained) (ch : Chain) (i : Ins) (next : ℕ) (result : Result Step Stop) → RunsAs (ghosts.state b) (ghosts.named b) c ch → AreApps (ghosts.state b).apps → Shaped i
      → ActDone ghosts b e c d ch (row_turn ch i (row i (frame_at ch.frame next) ch.public (around ch))) result
      → WritesFew (row_turn ch i (row i (frame_at ch.frame next) ch.public (around ch)))
  act_writes b e c d ch i next (Ok step) r apps shaped done = turn_writes b c ch i next (Ok tt) e r apps shaped done.0.writes
  act_writes b e c d ch i next (Err stop) r apps shaped done = turn_writes b c ch i next (Err stop) e r apps shaped done

-- ---- runs

-- the writes of a run that was done
pub all_few : {B : Type 0} (ghosts : Ghosts B) (ws : List Write) (b e : B) → InOrder (ChainWrote ghosts) b ws (Ok tt) e → AllByRecursion (λ (w : Write). w.words ≤ 64) ws
all_few ghosts [] b e h = tt
all_few ghosts (w ∷ ws) b e h = elim h [ inl done ↦ ((done.1).3, all_few ghosts ws done.0 e done.2) | inr stop ↦ absurd (cc stop.2) ]
