-- The saved registers of a call, and what a return leaves.
use Rattle.std.proofs.Common.{◌≡◌, ℕ, ◌+◌, ◌-◌, ◌≤◌, ◌<◌, List, ◌∷◌, length, take, drop, slice_index, arith, sym, ◌∙◌, ap, subst}
use Rattle.std.proofs.lemmas.List.{drop_more}
use Rattle.mc_words.specs.model_device.specs.Bytes.{be2, num, splice}
use Rattle.mc_apdu.specs.model_machine.specs.Frame as model
use Rattle.mc_segs.specs.HeldFrames.{Held}
use Rattle.mc_segs.specs.Inside.{frame_value}
use Rattle.mc_segs.specs.declared.frame.Frame.TheInside.{Inside}

-- a big-endian word of two bytes is the number of their block
pub word_is : (d : List ℕ) (i : ℕ) → i + 1 < length d → be2 d i ≡ num (take 2 (drop i d))
word_is d i h =
    let h1 : i < length d = omega arith in
    sym (ap (λ (t : List ℕ). num (take 2 t)) (drop_more d i 0 h1 ∙ ap (λ (t : List ℕ). slice_index d i ∷ t) (drop_more d (i + 1) 0 h)) ∙ grind arith)

-- the frame of the fields after a return, as a function of the values that the call computes
abbrev pub returned : Inside → List ℕ → ℕ → ℕ → ℕ → Held
returned f d dt lb at = frame_value (record f { dynamic = d; dt = dt; lb = lb; at = at })

-- a return: the bytes it moved, its new top and the saved registers are those of the definition
pub back_is : (f : Inside) (h : Held) (d : List ℕ) (i o lb at : ℕ) → frame_value f ≡ h → length f.dynamic ≡ 512
    → 32768 + f.session_len + 4 + i ≤ f.lb → f.lb + o ≤ f.dt → f.dt ≤ 33280
    → lb ≡ be2 f.dynamic (f.lb - 32768 - 4) → at ≡ be2 f.dynamic (f.lb - 32768 - 2)
    → d ≡ splice f.dynamic (f.lb - 32768 - 4 - i) (take o (drop (f.dt - 32768 - o) f.dynamic))
    → returned f d (32768 + (f.lb - 32768 - 4 - i) + o) lb at ≡ record { slot = h.slot; frame = model.come_back h.frame i o }
back_is f h d i o lb at view size low high top first second moved =
    let g : Held = frame_value f in
    let saved_lb : lb ≡ model.saved_address g.frame 4 =
    first ∙ word_is f.dynamic (f.lb - 32768 - 4) (omega arith) ∙ ap (λ (k : ℕ). num (take 2 (drop k f.dynamic))) (omega arith) in
    let saved_at : at ≡ model.saved_address g.frame 2 =
    second ∙ word_is f.dynamic (f.lb - 32768 - 2) (omega arith) ∙ ap (λ (k : ℕ). num (take 2 (drop k f.dynamic))) (omega arith) in
    let dt_is : 32768 + (f.lb - 32768 - 4 - i) + o ≡ f.lb - 4 - i + o = omega arith in
    let to_is : f.lb - 32768 - 4 - i ≡ f.lb - 4 - i - 32768 = omega arith in
    let from_is : f.dt - 32768 - o ≡ f.dt - o - 32768 = omega arith in
    let dyn_is : d ≡ splice f.dynamic (f.lb - 4 - i - 32768) (model.top g.frame o) =
    moved
    ∙ ap (λ (k : ℕ). splice f.dynamic k (take o (drop (f.dt - 32768 - o) f.dynamic))) to_is
    ∙ ap (λ (k : ℕ). splice f.dynamic (f.lb - 4 - i - 32768) (take o (drop k f.dynamic))) from_is in
    let same : returned f d (32768 + (f.lb - 32768 - 4 - i) + o) lb at ≡ record { slot = g.slot; frame = model.come_back g.frame i o } =
    ap (λ (t : List ℕ). returned f t (32768 + (f.lb - 32768 - 4 - i) + o) lb at) dyn_is
    ∙ ap (λ (k : ℕ). returned f (splice f.dynamic (f.lb - 4 - i - 32768) (model.top g.frame o)) k lb at) dt_is
    ∙ ap (λ (k : ℕ). returned f (splice f.dynamic (f.lb - 4 - i - 32768) (model.top g.frame o)) (f.lb - 4 - i + o) k at) saved_lb
    ∙ ap (λ (k : ℕ). returned f (splice f.dynamic (f.lb - 4 - i - 32768) (model.top g.frame o)) (f.lb - 4 - i + o) (model.saved_address g.frame 4) k) saved_at in
    subst (λ (v : Held). returned f d (32768 + (f.lb - 32768 - 4 - i) + o) lb at ≡ record { slot = v.slot; frame = model.come_back v.frame i o }) view same
