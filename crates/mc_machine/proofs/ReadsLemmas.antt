-- A chain of the code that runs as a chain of the definitions: its parts, one by one.
use Rattle.std.proofs.Common.{arith, ◌≡◌, ℕ, Bool, true, false, List, [], ◌∷◌, length, suc, Option, Some, None, refl, sym, ap, subst, ◌∙◌}
use Rattle.std.specs.Prelude.{IsSome, bytes_eq, ◌||◌, unwrap_or}
use Rattle.std.proofs.lemmas.List.{length-replicate}
use Rattle.mc_bank.specs.Bank.{BankState, app_of, name_or, no_app, sizes_of}
use Rattle.law_machine.specs.model_device.specs.Bytes.{lookup, zeros}
use Rattle.law_machine.specs.model_device.specs.Card.{App}
use Rattle.law_machine.specs.model_machine.specs.Frame.{Frame, session_of, new_frame}
use Rattle.law_machine.specs.model_machine.specs.Chain.{Chain, delegator_in, first_frame, chain_session, is_active, frame_at}
use Rattle.mc_segs.specs.HeldFrames.{Held, Seen, app_under, new_held}
use Rattle.mc_bank.proofs.LeftLemmas.{some_name}
use Rattle.mc_machine.specs.Chains.{Chained, FrameReadsAs, ReadAll, RunsAs, first_held, session_in}
use Rattle.mc_machine.specs.Turns.{AllFitBank, delegator_of, has_frame, chain_at_next}

-- ---- one frame

some_app : (l : Option App) → IsSome l → l ≡ Some (unwrap_or l no_app)
some_app None there = absurd (cc there)
some_app (Some a) there = refl

pub app_by : (apps : List (List ℕ × App)) (o : Option (List ℕ)) (n : List ℕ) → o ≡ Some n → IsSome (lookup apps (name_or o)) → lookup apps n ≡ Some (app_of apps o)
app_by apps o n is = subst (λ (p : Option (List ℕ)). IsSome (lookup apps (name_or p)) → lookup apps n ≡ Some (app_of apps p)) (sym is) (some_app (lookup apps n))

module _ (s : BankState) (named : ℕ → Option (List ℕ)) where
  -- the slot of a frame has the frame's name
  pub name_is : (h : Held) (f : Frame) → FrameReadsAs s named h f → named h.slot ≡ Some f.name
  name_is h f r = some_name (named h.slot) r.fits.there ∙ ap Some (ap (λ (t : Seen). t.name) r.same)

  -- the application of a frame is on the card
  pub app_is : (h : Held) (f : Frame) → FrameReadsAs s named h f → lookup s.apps f.name ≡ Some (app_under s named h)
  app_is h f r = app_by s.apps (named h.slot) f.name (name_is h f r) r.fits.app

  pub session_is : (h : Held) (f : Frame) → FrameReadsAs s named h f → session_of h.frame ≡ session_of f
  session_is h f r = ap (λ (t : Seen). session_of (record h.frame { session = t.session; dyn = t.dyn })) r.same

  -- ---- the frames that wait

  pub as_many : (hs : List Held) (fs : List Frame) → ReadAll s named hs fs → length hs ≡ length fs
  as_many [] [] r = refl
  as_many [] (f ∷ fs) r = absurd r
  as_many (h ∷ hs) [] r = absurd r
  as_many (h ∷ hs) (f ∷ fs) r = ap suc (as_many hs fs r.1)

  pub all_fit : (hs : List Held) (fs : List Frame) → ReadAll s named hs fs → AllFitBank s named hs
  all_fit [] [] r = tt
  all_fit [] (f ∷ fs) r = absurd r
  all_fit (h ∷ hs) [] r = absurd r
  all_fit (h ∷ hs) (f ∷ fs) r = (r.0.fits, all_fit hs fs r.1)

  pub delegators : (hs : List Held) (fs : List Frame) → ReadAll s named hs fs → delegator_of named hs ≡ delegator_in fs
  delegators hs fs r = grind (arith, name_is)

  first_session : (h : Held) (f : Frame) (hs : List Held) (fs : List Frame) → FrameReadsAs s named h f → ReadAll s named hs fs → session_of (first_held h hs).frame ≡ session_of (first_frame f fs)
  first_session h f [] [] r rs = session_is h f r
  first_session h f [] (g ∷ fs) r rs = absurd rs
  first_session h f (k ∷ hs) [] r rs = absurd rs
  first_session h f (k ∷ hs) (g ∷ fs) r rs = first_session k g hs fs rs.0 rs.1

  pub session_runs : (c : Chained) (ch : Chain) → RunsAs s named c ch → session_in c ≡ chain_session ch
  session_runs c ch r = first_session c.running ch.frame c.below ch.below r.running r.below

  -- ---- names of frames

  active_is : (n : List ℕ) (h : Held) (f : Frame) (hs : List Held) (fs : List Frame) → FrameReadsAs s named h f → ReadAll s named hs fs → has_frame named n (h ∷ hs) ≡ is_active n f fs
  active_is n h f [] [] r rs = or_false (bytes_eq (name_or (named h.slot)) n) ∙ ap (λ (o : Option (List ℕ)). bytes_eq (name_or o) n) (name_is h f r)
    where
      or_false : (b : Bool) → (b || false) ≡ b
      or_false true = refl
      or_false false = refl
  active_is n h f [] (g ∷ fs) r rs = absurd rs
  active_is n h f (k ∷ hs) [] r rs = absurd rs
  active_is n h f (k ∷ hs) (g ∷ fs) r rs = ap (λ (o : Option (List ℕ)). bytes_eq (name_or o) n || has_frame named n (k ∷ hs)) (name_is h f r) ∙ ap (λ (b : Bool). bytes_eq f.name n || b) (active_is n k g hs fs rs.0 rs.1)

  pub active_runs : (c : Chained) (ch : Chain) (n : List ℕ) → RunsAs s named c ch → has_frame named n (c.running ∷ c.below) ≡ is_active n ch.frame ch.below
  active_runs c ch n r = active_is n c.running ch.frame c.below ch.below r.running r.below

  -- ---- one instruction of the budget

  pub advanced_reads : (h : Held) (f : Frame) (next : ℕ) → FrameReadsAs s named h f → FrameReadsAs s named (record h { frame = record h.frame { at = next } }) (frame_at f next)
  advanced_reads h f next r = grind arith

  pub advanced_runs : (c : Chained) (ch : Chain) (next : ℕ) → RunsAs s named c ch → RunsAs s named (chain_at_next c next) (record ch { frame = frame_at ch.frame next })
  advanced_runs c ch next r = grind (arith, advanced_reads)

  -- ---- a frame on another state of the bank with the frame's application unchanged

  pub moved_reads : (t : BankState) (names : ℕ → Option (List ℕ)) (h : Held) (f : Frame) → names h.slot ≡ Some f.name → lookup t.apps f.name ≡ lookup s.apps f.name → FrameReadsAs s named h f → FrameReadsAs t names h f
  moved_reads t names h f there app r = grind (arith, name_is, app_is)

  -- ---- a new frame

  pub entered_reads : (slot : ℕ) (n : List ℕ) (a : App) → named slot ≡ Some n → lookup s.apps n ≡ Some a → FrameReadsAs s named (new_held slot (sizes_of a) (zeros a.session)) (new_frame n (length a.code) a.deny a.fixed (zeros a.session))
  entered_reads slot n a there app = grind (arith, length-replicate)
