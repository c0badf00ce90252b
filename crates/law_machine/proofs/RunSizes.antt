-- A run keeps the sizes of all applications, writes inside them, and ends with as many session bytes as it began with.
use Rattle.std.proofs.Common.{◌≡◌, ℕ, zero, suc, ◌-◌, ◌≤◌, Bool, true, false, cond, List, [], ◌∷◌, length, Option, Some, None, Result, Ok, Err, refl, sym, ap, subst, ◌∙◌, arith}
use Rattle.std.specs.Prelude.{⊤, ◌||◌, nat_lt, nat_le, unwrap_or}
use Rattle.std.specs.List.{AllByRecursion}
use Rattle.std.proofs.lemmas.List.{length-append, length-take}
use Rattle.model_card.specs.model_machine.specs.declared.instruction.Ins.{Ins}
use Rattle.model_card.specs.model_machine.specs.declared.instruction.DecodeFault.{DecodeFault}
use Rattle.model_card.specs.model_machine.specs.declared.instruction.DecodeFault.TheVariants.{Undefined, Past}
use Rattle.model_card.specs.model_machine.specs.declared.machine.Abend.{Abend}
use Rattle.model_card.specs.model_device.specs.Bytes.{lookup, zeros}
use Rattle.model_card.specs.model_machine.specs.Apdu.{ApduParts}
use Rattle.model_card.specs.model_machine.specs.Code.{instruction_at}
use Rattle.model_card.specs.model_device.specs.Card.{App}
use Rattle.model_card.specs.model_machine.specs.Frame.{Frame, new_frame, la_of}
use Rattle.model_card.specs.model_machine.specs.Primitives.{Then, Done}
use Rattle.model_card.specs.model_machine.specs.Row.{Does, causes, effect, first_cause, row_end, row}
use Rattle.model_card.specs.model_machine.specs.Chain.{Outcome, Chain, Ran, Acted, Follows, Continues, Ends, code_in, first_frame, chain_session, map_changed, write_of, chain_after_effect, is_active, depth_of, called_app, chain_after_call, reply_of, after_exit, follows, row_turn, turn_of_fetch, frame_at, around, turn_of_chain, run_after_turn, run_of_chain, start_app, start, no_app, run}
use Rattle.model_card.specs.model_device.proofs.ImageLemmas.{all_append}
use Rattle.law_rows.specs.Keeping.{PiecesWithin, ChangeWithin, Keeps}
use Rattle.law_rows.proofs.Keeping.{effect_keeps, fixed_length}
use Rattle.law_machine.proofs.AppSizes.{size_of, size_in, SameSizes, InsideApp, changed_sizes, WriteFits, moved_writes}

-- ---- frames

-- the static bytes of an application are as many as its frame has, if it is there
abbrev pub AsMany : Option (ℕ × ℕ) → ℕ → Type 0
AsMany None n = ⊤
AsMany (Some s) n = s.0 ≡ n

-- a frame has the sizes of its application, and the pieces that wait lie in it
pub record FrameFits (m : List (List ℕ × App)) (f : Frame) : Type 0 where
  pub fixed : AsMany (size_in m f.name) (length f.fixed)
  pub inside : PiecesWithin (length f.fixed) f.pieces
  pub session : f.session ≤ length f.dyn

-- each frame has the sizes of its application
abbrev pub FramesFit : List (List ℕ × App) → List Frame → Type 0
FramesFit m [] = ⊤
FramesFit m (f ∷ fs) = FrameFits m f × FramesFit m fs

-- each frame of a chain has the sizes of its application
pub record ChainFits (ch : Chain) : Type 0 where
  pub frame : FrameFits ch.map ch.frame
  pub below : FramesFit ch.map ch.below

moved_frame : (m d : List (List ℕ × App)) (f : Frame) → SameSizes m d → FrameFits m f → FrameFits d f
moved_frame m d f same h = record { fixed = subst (λ (s : Option (ℕ × ℕ)). AsMany s (length f.fixed)) (sym (same f.name)) h.fixed; inside = h.inside; session = h.session }

moved_frames : (m d : List (List ℕ × App)) (fs : List Frame) → SameSizes m d → FramesFit m fs → FramesFit d fs
moved_frames m d [] same a = tt
moved_frames m d (f ∷ fs) same a = (moved_frame m d f same a.0, moved_frames m d fs same a.1)

-- the pieces of a change lie in the application
change_fits : (s : Option (ℕ × ℕ)) (n : ℕ) (ps : List (ℕ × List ℕ)) → AsMany s n → PiecesWithin n ps → InsideApp s ps
change_fits None n ps h a = tt
change_fits (Some s) n ps h a = subst (λ (k : ℕ). PiecesWithin k ps) (sym h) a

-- ---- turns

-- what follows a turn of a chain
abbrev pub NextFits : Chain → Follows → Type 0
NextFits ch (Ends o) = ⊤
NextFits ch (Continues c) = SameSizes ch.map c.map × ChainFits c × ((first_frame c.frame c.below).session ≡ (first_frame ch.frame ch.below).session)

-- the writes of a turn lie in their applications, and what follows has the same sizes
pub record ActFits (ch : Chain) (t : Acted) : Type 0 where
  pub writes : AllByRecursion (WriteFits ch.map) t.writes
  pub next : NextFits ch t.follows

first_session : (f g : Frame) (fs : List Frame) → f.session ≡ g.session → (first_frame f fs).session ≡ (first_frame g fs).session
first_session f g [] e = e
first_session f g (h ∷ fs) e = refl

new_fits : (m : List (List ℕ × App)) (n : List ℕ) (a : App) (session : List ℕ) → AsMany (size_in m n) (length a.fixed) → FrameFits m (new_frame n (length a.code) a.deny a.fixed session)
new_fits m n a session h =
    record { fixed = h; inside = tt; session = omega (arith, length-append session (zeros (512 - length session))) }

-- the parts of what goes on
record ChainGoesOn (ch s : Chain) : Type 0 where
  same : SameSizes ch.map s.map
  fits : ChainFits s
  session : (first_frame s.frame s.below).session ≡ (first_frame ch.frame ch.below).session

going_on : (ch s : Chain) → ChainGoesOn ch s → NextFits ch (Continues s)
going_on ch s g = (g.same, g.fits, g.session)

cond_ends : (ch : Chain) (b : Bool) (o p : Outcome) → NextFits ch (cond b (Ends o) (Ends p))
cond_ends ch true o p = tt
cond_ends ch false o p = tt

exited_fits : (ch s : Chain) (fs : List Frame) → ChainGoesOn ch s → s.below ≡ fs → NextFits ch (after_exit s fs)
exited_fits ch s [] g e = cond_ends ch (nat_lt 1024 (la_of s.public)) _ (reply_of s)
exited_fits ch s (f ∷ fs) g e =
    let all : FramesFit s.map (f ∷ fs) = subst (FramesFit s.map) e g.fits.below in
    let same : first_frame s.frame (f ∷ fs) ≡ first_frame s.frame s.below = ap (first_frame s.frame) (sym e) in
    (g.same, record { frame = all.0; below = all.1 }, ap (λ (h : Frame). h.session) same ∙ g.session)

public_fits : (ch s : Chain) (public : List ℕ) → ChainGoesOn ch s → NextFits ch (Continues (record s { public = public }))
public_fits ch s public g = (g.same, record { frame = g.fits.frame; below = g.fits.below }, g.session)

called_by : (ch s : Chain) (n : List ℕ) (b : Bool) (a : App) → lookup s.map n ≡ Some a → ChainGoesOn ch s → NextFits ch (Continues (called_app b s n a))
called_by ch s n true a e g = public_fits ch s _ g
called_by ch s n false a e g =
    let many : AsMany (size_in s.map n) (length a.fixed) = subst (λ (o : Option App). AsMany (size_of o) (length a.fixed)) (sym e) refl in
    (g.same, record { frame = new_fits s.map n a (zeros a.session) many; below = (g.fits.frame, g.fits.below) }, g.session)

called_fits : (ch s : Chain) (n : List ℕ) (o : Option App) → lookup s.map n ≡ o → ChainGoesOn ch s → NextFits ch (Continues (chain_after_call s n o))
called_fits ch s n None e g = public_fits ch s _ g
called_fits ch s n (Some a) e g = called_by ch s n (is_active n s.frame s.below || nat_le 4 (depth_of s)) a e g

follows_fits : (ch s : Chain) (t : Then) → ChainGoesOn ch s → NextFits ch (follows s t)
follows_fits ch s t g = grind (arith, going_on, exited_fits, called_fits)

-- a change of the running frame's application
pub changed_by : (m : List (List ℕ × App)) (n : List ℕ) (size : ℕ) (o : Option (List (ℕ × List ℕ))) → AsMany (size_in m n) size → ChangeWithin size o → SameSizes m (map_changed m n o)
changed_by m n size None h a = λ k. refl
changed_by m n size (Some ps) h a = changed_sizes m n ps (change_fits (size_in m n) size ps h a)

written_by : (m : List (List ℕ × App)) (n : List ℕ) (size : ℕ) (o : Option (List (ℕ × List ℕ))) → AsMany (size_in m n) size → ChangeWithin size o → AllByRecursion (WriteFits m) (write_of n o)
written_by m n size None h a = tt
written_by m n size (Some ps) h a = (change_fits (size_in m n) size ps h a, tt)

-- a row that is done, of the frame with another code address
done_fits : (ch : Chain) (i : Ins) (d : Done) → ChainFits ch → Keeps ch.frame ch.public d.effect → ActFits ch (row_turn ch i (Does d))
done_fits ch i d h k =
    let e = d.effect in
    let n = ch.frame.name in
    let m : List (List ℕ × App) = map_changed ch.map n e.changes in
    let inside = h.frame.inside in
    let size : length e.frame.fixed ≡ length ch.frame.fixed = fixed_length ch.frame ch.public e k inside in
    let same : SameSizes ch.map m = changed_by ch.map n (length ch.frame.fixed) e.changes h.frame.fixed (k.changes inside) in
    let many : AsMany (size_in ch.map n) (length e.frame.fixed) = subst (AsMany (size_in ch.map n)) (sym size) h.frame.fixed in
    let named : AsMany (size_in ch.map e.frame.name) (length e.frame.fixed) = subst (λ (x : List ℕ). AsMany (size_in ch.map x) (length e.frame.fixed)) (sym k.name) many in
    let session : e.frame.session ≡ ch.frame.session = k.session in
    let before : ch.frame.session ≤ length ch.frame.dyn = h.frame.session in
    let room : length ch.frame.dyn ≤ length e.frame.dyn = k.dyn in
    let frame : FrameFits ch.map e.frame = record { fixed = named; inside = subst (λ (x : ℕ). PiecesWithin x e.frame.pieces) (sym size) (k.inside inside); session = omega arith } in
    let g : ChainGoesOn ch (chain_after_effect ch e) =
    record {
      same = same;
      fits = record { frame = moved_frame ch.map m e.frame same frame; below = moved_frames ch.map m ch.below same h.below };
      session = first_session e.frame ch.frame ch.below session;
    }
    in
    record { writes = written_by ch.map n (length ch.frame.fixed) e.changes h.frame.fixed (k.changes inside); next = follows_fits ch (chain_after_effect ch e) d.next g }

judged_fits : (ch : Chain) (i : Ins) (at : ℕ) (o : Option Abend) → ChainFits ch → ActFits ch (row_turn ch i (row_end o (effect i (frame_at ch.frame at) ch.public (around ch))))
judged_fits ch i at (Some a) h = record { writes = tt; next = tt }
judged_fits ch i at None h =
    let f = frame_at ch.frame at in
    done_fits ch i (effect i f ch.public (around ch)) h (effect_keeps i f ch.public (around ch))

row_fits : (ch : Chain) (i : Ins) (at : ℕ) → ChainFits ch → ActFits ch (row_turn ch i (row i (frame_at ch.frame at) ch.public (around ch)))
unfolding row
row_fits ch i at h = judged_fits ch i at (first_cause (causes i (frame_at ch.frame at) ch.public (around ch))) h

fetched_fits : (ch : Chain) (r : Result (Ins × ℕ) DecodeFault) → ChainFits ch → ActFits ch (turn_of_fetch ch r)
fetched_fits ch (Err Undefined) h = record { writes = tt; next = tt }
fetched_fits ch (Err Past) h = record { writes = tt; next = tt }
fetched_fits ch (Ok i) h = row_fits ch i.0 i.1 h

-- a turn of a chain that fits writes inside its applications and keeps their sizes
pub acted_fits : (ch : Chain) → ChainFits ch → ActFits ch (turn_of_chain ch)
unfolding turn_of_chain
acted_fits ch h = fetched_fits ch (instruction_at (code_in (lookup ch.map ch.frame.name)) ch.frame.at) h

-- ---- runs

-- the writes of a run lie in their applications, and it ends with this number of session bytes
pub record RanFits (m : List (List ℕ × App)) (bytes : ℕ) (r : Ran) : Type 0 where
  pub writes : AllByRecursion (WriteFits m) r.writes
  pub session : length r.session ≡ bytes

first_fits : (m : List (List ℕ × App)) (f : Frame) (fs : List Frame) → FrameFits m f → FramesFit m fs → FrameFits m (first_frame f fs)
first_fits m f [] h a = h
first_fits m f (g ∷ fs) h a = first_fits m g fs a.0 a.1

session_length : (ch : Chain) → ChainFits ch → length (chain_session ch) ≡ (first_frame ch.frame ch.below).session
session_length ch h =
    let f = first_frame ch.frame ch.below in
    let fits : f.session ≤ length f.dyn = (first_fits ch.map ch.frame ch.below h.frame h.below).session in
    omega (arith, length-take f.session f.dyn)

same_back : (m d : List (List ℕ × App)) → SameSizes m d → SameSizes d m
same_back m d same n = sym (same n)

ran_on_fits : (ch : Chain) (t : Acted) (f : Follows) (rest : Chain → Ran) → ChainFits ch → AllByRecursion (WriteFits ch.map) t.writes → NextFits ch f
    → ((c : Chain) → ChainFits c → RanFits c.map (first_frame c.frame c.below).session (rest c)) → RanFits ch.map (first_frame ch.frame ch.below).session (run_after_turn t (chain_session ch) f rest)
ran_on_fits ch t (Ends o) rest h writes next more = record { writes = writes; session = session_length ch h }
ran_on_fits ch t (Continues c) rest h writes next more =
    let r : RanFits c.map (first_frame c.frame c.below).session (rest c) = more c next.1 in
    record {
      writes = all_append (WriteFits ch.map) t.writes (rest c).writes writes (moved_writes c.map ch.map (rest c).writes (same_back ch.map c.map next.0) r.writes);
      session = r.session ∙ next.2;
    }

-- a run of a chain that fits writes inside its applications
pub ran_fits : (n : ℕ) (ch : Chain) → ChainFits ch → RanFits ch.map (first_frame ch.frame ch.below).session (run_of_chain n ch)
unfolding run_of_chain
ran_fits zero ch h = record { writes = tt; session = session_length ch h }
ran_fits (suc n) ch h =
    let t : ActFits ch (turn_of_chain ch) = acted_fits ch h in
    ran_on_fits ch (turn_of_chain ch) (turn_of_chain ch).follows (λ c. run_of_chain n c) h t.writes t.next (λ c k. ran_fits n c k)

-- the frame with which an application begins fits it
pub start_fits : (m : List (List ℕ × App)) (first session : List ℕ) (apdu : ApduParts) (o : Option App) → lookup m first ≡ o → ChainFits (start_app m first session apdu (unwrap_or o no_app))
start_fits m first session apdu None e = record { frame = new_fits m first no_app session (subst (λ (o : Option App). AsMany (size_of o) 0) (sym e) tt); below = tt }
start_fits m first session apdu (Some a) e = record { frame = new_fits m first a session (subst (λ (o : Option App). AsMany (size_of o) (length a.fixed)) (sym e) refl); below = tt }

-- a command to an application
pub run_fits : (m : List (List ℕ × App)) (first session : List ℕ) (apdu : ApduParts) (budget : ℕ) → RanFits m (length session) (run m first session apdu budget)
run_fits m first session apdu budget = ran_fits budget (start m first session apdu) (start_fits m first session apdu (lookup m first) refl)
