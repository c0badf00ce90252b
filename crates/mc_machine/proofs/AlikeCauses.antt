-- Frames that differ in the pieces that their pending bytes come from: a row abends from the same causes.
use Rattle.std.proofs.Common.{◌≡◌, ℕ, ◌-◌, Bool, true, false, cond, List, [], ◌∷◌, Option, Some, None, refl, ap}
use Rattle.std.specs.Prelude.{◌==◌, ◌&&◌}
use Rattle.law_machine.specs.model_machine.specs.declared.instruction.Ins.{Ins}
use Rattle.law_machine.specs.model_machine.specs.declared.instruction.Ins.TheVariants as ins
use Rattle.law_machine.specs.model_machine.specs.declared.machine.Abend.{Abend}
use Rattle.law_machine.specs.model_machine.specs.declared.machine.Abend.TheVariants.{A02, A04, A05, A06, A0A}
use Rattle.law_machine.specs.model_device.specs.Bytes.{num}
use Rattle.law_machine.specs.model_device.specs.Pieces.{touched_words}
use Rattle.law_machine.specs.model_machine.specs.Frame.{Frame, is_under, is_over, frame_after_pop, top}
use Rattle.law_machine.specs.model_machine.specs.Primitives.{Around, Primitive, DelegatorAid, primitive, prim_causes, later_causes, reported_causes, number_below_top, has_bad_argument, is_denied}
use Rattle.law_machine.specs.model_machine.specs.Row.{causes, holds, no_place}
use Rattle.mc_machine.proofs.AlikeBytes.{SamePieces, with_pieces, reads_same, limit_same}

abbrev pub Pieces : Type 0
Pieces = List (ℕ × List ℕ)

abbrev pub HasSamePieces : Frame → Pieces → Type 0
HasSamePieces f qs = SamePieces f.fixed f.pieces qs

-- Two values that are the same, each beside the words that its pieces touch: so there is an equation to rewrite with in
-- every row, and one case is enough for all rows.
abbrev pub Beside : {A : Type 0} → Frame → Pieces → A → A → Type 0
Beside {A} f qs a b = ◌≡◌ {A = List ℕ × A} (touched_words qs, a) (touched_words f.pieces, b)

pub beside : {A : Type 0} {a b : A} (f : Frame) (qs : Pieces) → Beside f qs a b → a ≡ b
beside {A} f qs e = ap (λ (t : List ℕ × A). t.1) e

-- ---- primitives

reported_same : (f : Frame) (qs : Pieces) (t a : ℕ) (o : Option (List ℕ)) → HasSamePieces f qs → reported_causes (record f { pieces = qs; dt = t }) a o ≡ reported_causes (record f { dt = t }) a o
reported_same f qs t a None s = refl
reported_same f qs t a (Some name) s = simp (limit_same f qs s)

later_beside : (p : Primitive) (args : List ℕ) (f : Frame) (qs : Pieces) (public : List ℕ) (x : Around) → HasSamePieces f qs → Beside f qs (later_causes p args (with_pieces qs f) public x) (later_causes p args f public x)
unfolding later_causes
later_beside DelegatorAid args f qs public x s = rw (s.words, reported_same f qs (f.dt - 2) (number_below_top f 2) x.delegator s) refl
later_beside _ args f qs public x s = simp (s.words, reads_same f qs s, limit_same f qs s)

later_same : (p : Primitive) (args : List ℕ) (f : Frame) (qs : Pieces) (public : List ℕ) (x : Around) → HasSamePieces f qs → later_causes p args (with_pieces qs f) public x ≡ later_causes p args f public x
later_same p args f qs public x s = beside f qs (later_beside p args f qs public x s)

prim_same : (p : Option Primitive) (args : List ℕ) (f : Frame) (qs : Pieces) (public : List ℕ) (x : Around) → HasSamePieces f qs → prim_causes p args (with_pieces qs f) public x ≡ prim_causes p args f public x
prim_same None args f qs public x s = refl
prim_same (Some p) args f qs public x s = ap (λ (l : List (Abend × Bool)). (A06, has_bad_argument p args) ∷ (A0A, is_denied f.deny p) ∷ l) (later_same p args f qs public x s)

-- ---- rows

-- the causes of a call, whether or not its address is on the stack
abbrev call_causes : ℕ → ℕ → Frame → Bool → List (Abend × Bool)
call_causes k to f b = (A04, b && is_under f 2) ∷ (A02, holds k f && no_place f (Some (cond b (num (top f 2)) to))) ∷ (A05, holds k f && is_over (cond b (frame_after_pop f 2) f) 4) ∷ []

call_same : (k to : ℕ) (f : Frame) (qs : Pieces) (b : Bool) → call_causes k to (with_pieces qs f) b ≡ call_causes k to f b
call_same k to f qs true = refl
call_same k to f qs false = refl

causes_beside : (i : Ins) (f : Frame) (qs : Pieces) (public : List ℕ) (x : Around) → HasSamePieces f qs → Beside f qs (causes i (with_pieces qs f) public x) (causes i f public x)
unfolding causes
causes_beside (ins.Call k to) f qs public x s = rw (s.words, call_same k to f qs (k == 0)) refl
causes_beside (ins.Prim set number args) f qs public x s = rw (s.words, prim_same (primitive set number) args f qs public x s) refl
causes_beside _ f qs public x s = simp (s.words, reads_same f qs s, limit_same f qs s)

-- all that a row reads of its frame are its bytes, and whether a write would pass the limit
pub causes_same : (i : Ins) (f : Frame) (qs : Pieces) (public : List ℕ) (x : Around) → HasSamePieces f qs → causes i (with_pieces qs f) public x ≡ causes i f public x
causes_same i f qs public x s = beside f qs (causes_beside i f qs public x s)
