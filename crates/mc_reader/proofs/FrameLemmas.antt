-- Bytes that are frames, in sequence.
use Rattle.std.proofs.Common.{◌≡◌, ℕ, zero, suc, ◌+◌, ◌*◌, ◌/◌, ◌%◌, ◌<◌, ◌≤◌, List, [], ◌∷◌, ◌++◌, length, Some, None, refl, arith, sym, ◌∙◌, ap, append_assoc, append-nil, length-append}
use Rattle.std.specs.List.{AllByRecursion}
use Rattle.std.proofs.lemmas.Bool.{le-leb}
use Rattle.std.proofs.lemmas.List.{take_at, drop_at}
use Rattle.mc_words.specs.model_device.specs.Bytes.{AreBytes}
use Rattle.mc_reader.specs.Frames.{frame_bytes, frames_bytes, first_frame, frames_within, frames_read}

-- a frame consists of bytes, and its length fits two bytes
abbrev pub LengthFits : List ℕ → Type 0
LengthFits f = (length f < 65536) × AreBytes f

-- frames are bytes
pub each_bytes : (fs : List (List ℕ)) → AllByRecursion LengthFits fs → AllByRecursion AreBytes fs
each_bytes [] all = tt
each_bytes (f ∷ fs) all = (all.0.1, each_bytes fs all.1)

-- a frame before other bytes
first_framed : (f rest : List ℕ) → LengthFits f → first_frame (frame_bytes f ++ rest) ≡ Some (f, rest)
first_framed f rest fits =
    let size : 256 * (length f / 256 % 256) + length f % 256 ≡ length f = omega (arith, fits.0) in
    let long : length f ≤ length (f ++ rest) = rw (length-append f rest) (omega arith) in
    rw (size, le-leb (length f) (length (f ++ rest)) long, take_at f rest (length f) refl, drop_at f rest (length f) refl) refl

-- there are at most as many frames as bytes in them
count_frames : (fs : List (List ℕ)) → length fs ≤ length (frames_bytes fs)
count_frames [] = omega arith
count_frames (f ∷ fs) = rw (length-append f (frames_bytes fs)) (omega (arith, count_frames fs))

-- frames, and bytes that are less than one more frame
frames_whole : (k : ℕ) (fs : List (List ℕ)) (part : List ℕ) → length fs ≤ k → AllByRecursion LengthFits fs → first_frame part ≡ None → frames_within k (frames_bytes fs ++ part) ≡ (fs, part)
unfolding frames_within
frames_whole zero [] part few fit less = refl
frames_whole (suc k) [] part few fit less = rw less refl
frames_whole zero (f ∷ fs) part few fit less = absurd (omega (arith, few))
frames_whole (suc k) (f ∷ fs) part few fit less =
    let rest = frames_whole k fs part (omega (arith, few)) fit.1 less in
    let first : first_frame ((frame_bytes f ++ frames_bytes fs) ++ part) ≡ Some (f, frames_bytes fs ++ part) =
    ap first_frame (append_assoc (frame_bytes f) (frames_bytes fs) part) ∙ first_framed f (frames_bytes fs ++ part) fit.0 in
    rw (first, rest) refl

-- the bytes taken, frame by frame
pub frames_are : (fs : List (List ℕ)) (part : List ℕ) → AllByRecursion LengthFits fs → first_frame part ≡ None → frames_read (frames_bytes fs ++ part) ≡ (fs, part)
frames_are fs part fit less =
    let count : length fs ≤ length (frames_bytes fs ++ part) = rw (length-append (frames_bytes fs) part) (omega (arith, count_frames fs)) in
    frames_whole (length (frames_bytes fs ++ part)) fs part count fit less

-- one more frame
pub framed_more : (fs : List (List ℕ)) (f : List ℕ) → frames_bytes (fs ++ f ∷ []) ≡ frames_bytes fs ++ frame_bytes f
framed_more [] f = append-nil (frame_bytes f)
framed_more (g ∷ fs) f = ap (λ t. frame_bytes g ++ t) (framed_more fs f) ∙ sym (append_assoc (frame_bytes g) (frames_bytes fs) (frame_bytes f))

pub fits_more : (fs : List (List ℕ)) (f : List ℕ) → AllByRecursion LengthFits fs → LengthFits f → AllByRecursion LengthFits (fs ++ f ∷ [])
fits_more [] f all fits = (fits, all)
fits_more (g ∷ fs) f all fits = (all.0, fits_more fs f all.1 fits)
