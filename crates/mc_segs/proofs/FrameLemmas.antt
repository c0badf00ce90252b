-- Arrays of zeros, and bytes written to their front.
use Rattle.std.proofs.Common.{◌≡◌, ℕ, ◌+◌, ◌-◌, ◌≤◌, List, [], ◌++◌, false, length, take, drop, refl, arith, sym, ◌∙◌, ap, subst, length-append}
use Rattle.std.proofs.lemmas.List.{take-append-drop, drop-replicate, length-replicate}
use Rattle.std.proofs.Math.Seq.{take-append_seam}
use Rattle.mc_words.specs.model_device.specs.Bytes.{zeros, splice}
use Rattle.mc_bank.specs.model_card.specs.declared.card.Sizes.{Sizes}
use Rattle.mc_segs.specs.Sessions.{KeepsSession}
use Rattle.mc_segs.specs.HeldFrames.{Held, new_held}
use Rattle.mc_segs.specs.Inside.{frame_value}

-- zeros are their first n and the rest
pub zeros_split : (m n : ℕ) → zeros m ≡ take n (zeros m) ++ zeros (m - n)
zeros_split m n = subst (λ (t : List ℕ). zeros m ≡ take n (zeros m) ++ t) (drop-replicate n m 0) (sym (take-append-drop n (zeros m)))

-- bytes written to the front of zeros are the bytes and the other zeros
pub padded_is : (n : ℕ) (into bytes : List ℕ) → into ≡ splice (zeros n) 0 bytes → into ≡ bytes ++ zeros (n - length bytes)
padded_is n into bytes h =
    let same : 0 + length bytes ≡ length bytes = omega arith in
    let back : drop (0 + length bytes) (zeros n) ≡ zeros (n - length bytes) =
    ap (λ (k : ℕ). drop k (zeros n)) same ∙ drop-replicate {X = ℕ} (length bytes) n 0 in
    h ∙ ap (λ (t : List ℕ). bytes ++ t) back

-- session bytes that are all zero keep the invariant
pub keeps_zeros : (n : ℕ) → n ≤ 256 → KeepsSession record { bytes = zeros 256; len = n }
keeps_zeros n h = record { room = refl; high = h; behind = zeros_split 256 n }

-- session bytes written to the front of zeros keep the invariant
pub keeps_padded : (into bytes : List ℕ) → length bytes ≤ 256 → into ≡ splice (zeros 256) 0 bytes → KeepsSession record { bytes = into; len = length bytes }
keeps_padded into bytes h e =
    let is : into ≡ bytes ++ zeros (256 - length bytes) = padded_is 256 into bytes e in
    let front : take (length bytes) into ≡ bytes = ap (λ (t : List ℕ). take (length bytes) t) is ∙ take-append_seam bytes (zeros (256 - length bytes)) in
    record {
      room = ap length is ∙ length-append bytes (zeros (256 - length bytes)) ∙ ap (λ (k : ℕ). length bytes + k) (length-replicate (256 - length bytes) 0) ∙ omega arith;
      high = h;
      behind = is ∙ ap (λ (t : List ℕ). t ++ zeros (256 - length bytes)) (sym front);
    }

-- the frame of a new frame's fields, as a function of the values that a call may compute otherwise
abbrev pub built : ℕ → Sizes → ℕ → ℕ → List (ℕ × List ℕ) → List ℕ → Held
built slot s n k p d =
    frame_value record {
      slot = slot;
      code_len = s.code;
      fixed_len = s.fixed;
      session_len = n;
      deny = s.deny;
      pending = p;
      dynamic = d;
      dt = 32768 + k;
      lb = 32768 + k;
      at = 0;
      c = false;
      z = false;
      protected = false;
    }

-- the fields of a new frame, with the session bytes at the front of zeros
pub new_is : (slot : ℕ) (s : Sizes) (p : List (ℕ × List ℕ)) (d b session : List ℕ) → p ≡ [] → b ≡ session → length session ≡ s.session → d ≡ splice (zeros 512) 0 b → built slot s s.session (length b) p d ≡ new_held slot s session
new_is slot s p d b session none same size written =
    let is : d ≡ session ++ zeros (512 - length session) = padded_is 512 d b written ∙ ap (λ (t : List ℕ). t ++ zeros (512 - length t)) same in
    ap (λ (n : ℕ). built slot s n (length b) p d) (sym size)
    ∙ ap (λ (t : List ℕ). built slot s (length session) (length t) p d) same
    ∙ ap (λ (q : List (ℕ × List ℕ)). built slot s (length session) (length session) q d) none
    ∙ ap (λ (t : List ℕ). built slot s (length session) (length session) [] t) is
