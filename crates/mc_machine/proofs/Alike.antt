-- A row has the same effect on frames with the same reading, whichever pieces their pending bytes come from.
use Rattle.std.proofs.Common.{arith, ◌≡◌, ℕ, List, Option, Some, None, refl, sym, ap, ◌∙◌}
use Rattle.law_machine.specs.model_machine.specs.declared.instruction.Ins.{Ins}
use Rattle.law_machine.specs.model_machine.specs.declared.machine.Abend.{Abend}
use Rattle.law_machine.specs.model_device.specs.Pieces.{laid_pieces, touched_words}
use Rattle.law_machine.specs.model_machine.specs.Frame.{Frame}
use Rattle.law_machine.specs.model_machine.specs.Primitives.{Around, Done}
use Rattle.law_machine.specs.model_machine.specs.Row.{RowEnd, causes, effect, first_cause, row_end, row}
use Rattle.law_machine.specs.model_device.specs.Orders.{Answer}
use Rattle.law_machine.specs.model_card.specs.Items.{BankItem}
use Rattle.mc_segs.specs.HeldFrames.{Seen, frame_reading}
use Rattle.mc_segs.specs.Ends.{IsOneCommit, changed_bytes}
use Rattle.mc_machine.specs.Alike.{seen_end, seen_change, IsGuarded, SameDone, SameRowEnd}
use Rattle.mc_machine.proofs.AlikeBytes.{SamePieces, with_pieces}
use Rattle.mc_machine.proofs.AlikeCauses.{causes_same}
use Rattle.mc_machine.proofs.AlikeEffects.{effect_same}
use Rattle.law_machine.specs.model_device.proofs.PieceLemmas.{held_same}

judged_same : (fixed : List ℕ) (o : Option Abend) (d e : Done) → SameDone fixed d e → seen_end fixed (row_end o d) ≡ seen_end fixed (row_end o e)
judged_same fixed (Some a) d e s = refl
judged_same fixed None d e s = rw (s.effect.frame, s.effect.public, s.effect.changes, s.next) refl

pub row_same : (i : Ins) (f : Frame) (qs : List (ℕ × List ℕ)) (public : List ℕ) (x : Around) → SamePieces f.fixed f.pieces qs → IsGuarded f → seen_end f.fixed (row i (with_pieces qs f) public x) ≡ seen_end f.fixed (row i f public x)
unfolding row
row_same i f qs public x s guard =
    rw (causes_same i f qs public x s) (judged_same f.fixed (first_cause (causes i f public x)) (effect i (with_pieces qs f) public x) (effect i f public x) (effect_same i f qs public x s guard))

-- the frame with the given pieces whose reading is the given one
abbrev frame_of : List (ℕ × List ℕ) → Seen → Frame
frame_of qs t =
    record {
      name = t.name;
      code_len = t.code_len;
      session = t.session;
      deny = t.deny;
      fixed = t.fixed;
      pieces = qs;
      dyn = t.dyn;
      dt = t.dt;
      lb = t.lb;
      at = t.at;
      c = t.c;
      z = t.z;
      protected = t.protected;
    }

pub seen_pieces : (f g : Frame) → frame_reading f ≡ frame_reading g → SamePieces f.fixed f.pieces g.pieces
seen_pieces f g e = grind arith

pub rows_alike : (i : Ins) (f g : Frame) (public : List ℕ) (x : Around) → IsGuarded f → frame_reading f ≡ frame_reading g → seen_end f.fixed (row i f public x) ≡ seen_end g.fixed (row i g public x)
rows_alike i f g public x guard e = grind (arith, with_pieces, row_same, seen_pieces)

-- ---- from what is seen back to the ends

ends_seen : (fixed : List ℕ) (r t : RowEnd) → seen_end fixed r ≡ seen_end fixed t → SameRowEnd fixed r t
ends_seen fixed r t e = grind arith

-- rows on two frames with the same reading, by cases on how the rows end
pub rows_end_alike : (i : Ins) (f g : Frame) (public : List ℕ) (x : Around) → IsGuarded f → frame_reading f ≡ frame_reading g → SameRowEnd f.fixed (row i f public x) (row i g public x)
rows_end_alike i f g public x guard e = grind (arith, ends_seen, rows_alike)

-- a frame is guarded if one with the same reading is
pub guarded_seen : (f g : Frame) → frame_reading f ≡ frame_reading g → IsGuarded f → IsGuarded g
guarded_seen f g e guard = λ off. sym (ap (λ (t : Seen). t.none) e) ∙ guard (ap (λ (t : Seen). t.protected) e ∙ off)

-- ---- static changes with the same reading: the bytes after them, and their commit

some_seen : (fixed : List ℕ) (ps qs : List (ℕ × List ℕ)) → seen_change fixed (Some ps) ≡ seen_change fixed (Some qs) → (laid_pieces fixed ps ≡ laid_pieces fixed qs) × (touched_words ps ≡ touched_words qs)
some_seen fixed ps qs e = grind arith

pub changed_seen : (fixed : List ℕ) (c d : Option (List (ℕ × List ℕ))) → seen_change fixed c ≡ seen_change fixed d → changed_bytes fixed c ≡ changed_bytes fixed d
changed_seen fixed c d e = grind (arith, some_seen)

pub committed_seen : {B : Type 0} (did : B → BankItem → Answer → B → Type 0) (name fixed : List ℕ) (c d : Option (List (ℕ × List ℕ))) (b : B) (a : Answer) (e : B)
    → seen_change fixed c ≡ seen_change fixed d → IsOneCommit did name fixed c b a e → IsOneCommit did name fixed d b a e
committed_seen did name fixed c d b a e s done = grind (arith, some_seen, held_same)
