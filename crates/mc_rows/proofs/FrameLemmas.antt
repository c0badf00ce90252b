-- Rows that depend on their frame alone, on a bank.
use Rattle.std.proofs.Common.{◌≡◌, ℕ, false, List, Option, Result, Ok, Err, refl, sym, ap, subst, ◌∙◌, length}
use Rattle.std.specs.Prelude.{IsSome}
use Rattle.model_machine.specs.declared.instruction.Ins.{Ins}
use Rattle.model_machine.specs.declared.machine.Abend.{Abend}
use Rattle.model_machine.specs.model_device.specs.Orders.{Answer}
use Rattle.mc_bank.specs.model_card.specs.Items.{BankItem}
use Rattle.model_machine.specs.model_device.specs.Bytes.{lookup}
use Rattle.model_machine.specs.Primitives.{Done, effect_and_next, frame_effect}
use Rattle.model_machine.specs.Row.{RowEnd, Abends, Does, row}
use Rattle.mc_bank.specs.Bank.{BankState, app_of, name_or}
use Rattle.mc_segs.specs.HeldFrames.{Held, FitsBank, app_under, frame_reading, frame_on_bank}
use Rattle.mc_segs.specs.Ends.{EndActs, EffectDone, RowActs, scene}
use Rattle.mc_segs.specs.declared.ends.Next.TheVariants.{Go}
use Rattle.mc_rows.specs.Rows.{alone, row_result}
use Rattle.mc_rows.specs.FrameRows.{on_app, AreOfOneApp, FrameEnds, FrameActs, frame_row_result}
use Rattle.mc_bank.specs.declared.bank.Bank.{Ghosts}

module _ {B : Type 0} (ghosts : Ghosts B) where
  -- a frame fits a bank if one for the same application does
  fits_still : (b : B) (h k : Held) → FitsBank (ghosts.state b) (ghosts.named b) h → AreOfOneApp h k → FitsBank (ghosts.state b) (ghosts.named b) k
  fits_still b h k fits same =
      record {
        there = subst (λ (n : ℕ). IsSome (ghosts.named b n)) (sym same.slot) fits.there;
        app = subst (λ (n : ℕ). IsSome (lookup (ghosts.state b).apps (name_or (ghosts.named b n)))) (sym same.slot) fits.app;
        code = same.code_len ∙ fits.code ∙ ap (λ (n : ℕ). length (app_of (ghosts.state b).apps (ghosts.named b n)).code) (sym same.slot);
        fixed = ap length same.fixed ∙ fits.fixed ∙ ap (λ (n : ℕ). length (app_of (ghosts.state b).apps (ghosts.named b n)).fixed) (sym same.slot);
        deny = same.deny ∙ fits.deny ∙ ap (λ (n : ℕ). (app_of (ghosts.state b).apps (ghosts.named b n)).deny) (sym same.slot);
        session = same.session ∙ fits.session ∙ ap (λ (n : ℕ). (app_of (ghosts.state b).apps (ghosts.named b n)).session) (sym same.slot);
      }

  -- a change of the frame alone does not change the bank
  left_alone : (b : B) (h k : Held) (public : List ℕ) → (ghosts.state b).stopped ≡ false → FitsBank (ghosts.state b) (ghosts.named b) h → AreOfOneApp h k
      → EffectDone ghosts (scene b b h k public public) (frame_effect (on_app k (name_or (ghosts.named b h.slot)) (app_under (ghosts.state b) (ghosts.named b) h).fixed) public)
  left_alone b h k public going fits same =
      record {
        commits = refl;
        bytes = ap (λ (n : ℕ). (app_of (ghosts.state b).apps (ghosts.named b n)).fixed) same.slot;
        frame = ap (λ (n : ℕ). frame_reading (on_app k (name_or (ghosts.named b n)) (app_of (ghosts.state b).apps (ghosts.named b n)).fixed)) same.slot;
        public = refl;
        slot = same.slot;
        fits = fits_still b h k fits same;
        going = going;
      }

  frame_ends : (b : B) (h k : Held) (public : List ℕ) (r : RowEnd) (o : Result (Unit {0}) Abend) → (ghosts.state b).stopped ≡ false → FitsBank (ghosts.state b) (ghosts.named b) h
      → FrameEnds h k (name_or (ghosts.named b h.slot)) (app_under (ghosts.state b) (ghosts.named b) h).fixed public r o → EndActs ghosts (scene b b h k public public) r (row_result (frame_row_result o))
  frame_ends b h k public (Abends a) (Ok u) going fits ends = absurd ends
  frame_ends b h k public (Abends a) (Err c) going fits ends = (ends.0, record { bank = refl; public = refl; dyn = ends.1; session = ends.2 })
  frame_ends b h k public (Does d) (Ok u) going fits ends =
      subst (λ (x : Done). EndActs ghosts (scene b b h k public public) (Does x) (Ok Go)) (sym ends.0) (refl, left_alone b h k public going fits ends.1)
  frame_ends b h k public (Does d) (Err c) going fits ends = absurd ends

  -- a row that depends on its frame alone acts as defined on every bank that the frame fits
  pub frame_acts : (i : Ins) (b : B) (h k : Held) (public : List ℕ) (o : Result (Unit {0}) Abend) → (ghosts.state b).stopped ≡ false → FitsBank (ghosts.state b) (ghosts.named b) h
      → FrameActs i h k o → RowActs ghosts (scene b b h k public public) i alone (row_result (frame_row_result o))
  frame_acts i b h k public o going fits acts =
      let name = name_or (ghosts.named b h.slot) in
      let fixed = (app_under (ghosts.state b) (ghosts.named b) h).fixed in
      frame_ends b h k public (row i (frame_on_bank ghosts b h) public alone) o going fits (acts name fixed public (sym fits.fixed))
