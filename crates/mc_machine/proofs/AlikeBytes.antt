-- Frames that differ in the pieces that their pending bytes come from: what they read, and the limit of pending words.
use Rattle.std.proofs.Common.{arith, ◌≡◌, ℕ, Bool, true, false, cond, List, [], ◌∷◌, ◌++◌, length, Option, Some, None, refl, sym, ap, ◌∙◌}
use Rattle.std.specs.Prelude.{nat_lt, ◌==◌}
use Rattle.law_machine.specs.model_device.specs.Bytes.{zeros}
use Rattle.law_machine.specs.model_device.specs.Pieces.{laid_pieces, touched_words, with_touched}
use Rattle.law_machine.specs.model_machine.specs.Frame.{Frame, Place, Static, Dynamic, Public, where_is, bytes_in, bytes_at, passes_limit, too_many}
use Rattle.mc_segs.specs.HeldFrames.{no_pieces}
use Rattle.law_machine.specs.model_device.proofs.PieceLemmas.{laid_append, touched_append}
use Rattle.mc_segs.proofs.StoreLemmas.{no_pieces_append}

-- pieces that lay the same bytes over a segment, and touch the same words
pub record SamePieces (fixed : List ℕ) (ps qs : List (ℕ × List ℕ)) : Type 0 where
  pub laid : laid_pieces fixed qs ≡ laid_pieces fixed ps
  pub words : touched_words qs ≡ touched_words ps
  pub none : no_pieces qs ≡ no_pieces ps

-- a frame with other pieces
abbrev pub with_pieces : List (ℕ × List ℕ) → Frame → Frame
with_pieces qs f = record f { pieces = qs }

-- pieces stay the same with one more
pub same_pushed : (fixed : List ℕ) (ps qs : List (ℕ × List ℕ)) (p : ℕ × List ℕ) → SamePieces fixed ps qs → SamePieces fixed (ps ++ p ∷ []) (qs ++ p ∷ [])
same_pushed fixed ps qs p s = record {
  laid = laid_append fixed qs (p ∷ []) ∙ ap (λ (l : List ℕ). laid_pieces l (p ∷ [])) s.laid ∙ sym (laid_append fixed ps (p ∷ []));
  words = touched_append qs (p ∷ []) ∙ ap (λ (ns : List ℕ). with_touched ns (p ∷ [])) s.words ∙ sym (touched_append ps (p ∷ []));
  none = no_pieces_append qs p ∙ sym (no_pieces_append ps p);
}

-- ---- reading

bytes_in_same : (f : Frame) (qs : List (ℕ × List ℕ)) (public : List ℕ) (n : ℕ) (place : Option Place) → SamePieces f.fixed f.pieces qs → bytes_in (with_pieces qs f) public n place ≡ bytes_in f public n place
bytes_in_same f qs public n place s = grind arith

bytes_same : (f : Frame) (qs : List (ℕ × List ℕ)) (public : List ℕ) (a n : ℕ) → SamePieces f.fixed f.pieces qs → bytes_at (with_pieces qs f) public a n ≡ bytes_at f public a n
unfolding bytes_at
bytes_same f qs public a n s = ap (λ (b : List ℕ). cond (n == 0) [] b) (bytes_in_same f qs public n (where_is f a n) s)

-- the same bytes are read, wherever DT is
pub reads_same : (f : Frame) (qs : List (ℕ × List ℕ)) → SamePieces f.fixed f.pieces qs → (t : ℕ) (public : List ℕ) (a n : ℕ) → bytes_at (record f { pieces = qs; dt = t }) public a n ≡ bytes_at (record f { dt = t }) public a n
reads_same f qs s t public a n = bytes_same (record f { dt = t }) qs public a n s

-- ---- the limit of pending words

passes_same : (b : Bool) (f : Frame) (qs : List (ℕ × List ℕ)) (place : Option Place) (n : ℕ) → SamePieces f.fixed f.pieces qs → passes_limit b (with_pieces qs f) place n ≡ passes_limit b f place n
passes_same true f qs (Some (Static i)) n s = ap (λ (ns : List ℕ). nat_lt 64 (length ns)) (same_pushed f.fixed f.pieces qs (i, zeros n) s).words
passes_same true f qs (Some (Dynamic i)) n s = refl
passes_same true f qs (Some (Public i)) n s = refl
passes_same true f qs None n s = refl
passes_same false f qs place n s = refl

-- the limit is passed by the same writes, wherever DT is
pub limit_same : (f : Frame) (qs : List (ℕ × List ℕ)) → SamePieces f.fixed f.pieces qs → (t a n : ℕ) → too_many (record f { pieces = qs; dt = t }) a n ≡ too_many (record f { dt = t }) a n
unfolding too_many
limit_same f qs s t a n =
    let g = record f { dt = t } in
    passes_same f.protected g qs (where_is g a n) n s
