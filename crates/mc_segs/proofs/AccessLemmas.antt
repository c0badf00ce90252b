-- Static bytes as a frame reads them, and places of a frame on a bank.
use Rattle.std.proofs.Common.{◌≡◌, ℕ, ◌+◌, ◌-◌, ◌≤◌, ◌<◌, Bool, true, cond, List, [], ◌∷◌, length, take, drop, get_or, Option, None, refl, sym, ap, subst, ◌∙◌, inl, inr, arith}
use Rattle.std.specs.Prelude.{nat_le, nat_eq, slice_get, unwrap_or}
use Rattle.std.proofs.lemmas.Bool.{cases_lt, le-leb, ne_eqb, lt-leb}
use Rattle.std.proofs.lemmas.List.{length-take, length-drop, get_or-take, get_or-drop, ext_get_or, length-replicate}
use Rattle.mc_words.specs.model_device.specs.Bytes.{splice}
use Rattle.mc_words.specs.model_device.specs.Pieces.{covering_byte, laid_pieces, word_pieces}
use Rattle.mc_apdu.specs.model_machine.specs.Frame.{Frame, Place, where_is, bytes_at, bytes_in}
use Rattle.mc_bank.specs.Bank.{BankState}
use Rattle.mc_trans.proofs.Overlay.{length_laid, splice_before, splice_in, splice_behind, get_some}
use Rattle.mc_words.specs.model_device.proofs.ListLemmas.{length_splice}
use Rattle.mc_segs.specs.Overlaid.{IsOverlaid}
use Rattle.mc_segs.specs.HeldFrames.{Held, FitsBank, frame_with, pieces_of, ArePendingIn}
use Rattle.mc_segs.specs.Inside.{frame_value, KeepsInside}
use Rattle.mc_segs.specs.declared.frame.Frame.TheInside.{Inside}
use Rattle.mc_segs.proofs.PendingLemmas.{read_byte, pieces_lie}
use Rattle.std.proofs.lemmas.Option.{slice_get_past}

-- ---- a word written over bytes

abbrev word_at : ℕ → List ℕ → ℕ → Option ℕ
word_at place word j = cond (nat_le place j) (slice_get word (j - place)) None

pub overlaid : (old word : List ℕ) (at place from to : ℕ) → length word ≡ 8 → at ≤ from → place ≤ from → to ≤ at + length old → to ≤ place + 8 → from < to → ((j : ℕ) → at ≤ j → place ≤ j → from ≤ j) → ((j : ℕ) → j < at + length old → j < place + 8 → j < to)
    → IsOverlaid old at place word (splice old (from - at) (take (to - place - (from - place)) (drop (from - place) word)))
overlaid old word at place from to eight low_at low_place high_at high_place some least most =
    let piece = take (to - place - (from - place)) (drop (from - place) word) in
    let len : length piece ≡ to - from = omega (arith, length-take (to - place - (from - place)) (drop (from - place) word), length-drop (from - place) word) in
    let begin = from - at in
    record {
      len = length_splice old begin piece (omega arith);
      bytes = λ i lt.
          elim (cases_lt (at + i) place) [
            | inl out ↦ splice_before old begin piece i (omega arith) (omega arith) ∙ sym (ap (λ (b : _). unwrap_or (cond b (slice_get word (at + i - place)) None) (get_or old i 0)) (lt-leb place (at + i) out))
            | inr le ↦
                elim (cases_lt (at + i) (place + 8)) [
                  | inl within ↦
                      let least_i = least (at + i) (omega arith) le in
                      let most_i = most (at + i) (omega arith) within in
                      let byte : get_or (splice old begin piece) i 0 ≡ get_or word (at + i - place) 0 =
                      splice_in old begin piece i (omega arith) (omega arith) (omega arith) ∙ get_or-take (to - place - (from - place)) (drop (from - place) word) (i - begin) 0 (omega arith) ∙ get_or-drop (from - place) word (i - begin) 0 ∙ ap (λ (k : ℕ). get_or word k 0) (omega arith) in
                      byte ∙ sym (ap (λ (b : _). unwrap_or (cond b (slice_get word (at + i - place)) None) (get_or old i 0)) (le-leb _ _ le) ∙ ap (λ (o : Option ℕ). unwrap_or o (get_or old i 0)) (get_some word (at + i - place) (omega arith)))
                  | inr past ↦
                      splice_behind old begin piece i (omega arith) (omega arith)
                      ∙ sym (ap (λ (b : _). unwrap_or (cond b (slice_get word (at + i - place)) None) (get_or old i 0)) (le-leb _ _ le) ∙ ap (λ (o : Option ℕ). unwrap_or o (get_or old i 0)) (slice_get_past word (at + i - place) (omega arith)))
                ]
          ];
    }

-- a word that does not overlap the bytes leaves them as they are
pub not_overlaid : (old word : List ℕ) (at place : ℕ) → length word ≡ 8 → ((j : ℕ) → at ≤ j → place ≤ j → j < at + length old → j < place + 8 → ⊥) → IsOverlaid old at place word old
not_overlaid old word at place eight apart =
    record {
      len = refl;
      bytes = λ i lt.
          elim (cases_lt (at + i) place) [
            | inl out ↦ sym (ap (λ (b : _). unwrap_or (cond b (slice_get word (at + i - place)) None) (get_or old i 0)) (lt-leb place (at + i) out))
            | inr le ↦
                let past : place + 8 ≤ at + i = elim (cases_lt (at + i) (place + 8)) [ inl within ↦ absurd (apart (at + i) (omega arith) le (omega arith) within) | inr past ↦ past ] in
                sym (ap (λ (b : _). unwrap_or (cond b (slice_get word (at + i - place)) None) (get_or old i 0)) (le-leb _ _ le) ∙ ap (λ (o : Option ℕ). unwrap_or o (get_or old i 0)) (slice_get_past word (at + i - place) (omega arith)))
          ];
    }

-- ---- a frame by its fields

-- a frame has these pending words, over static bytes of its length
pub record HasWords (l : List ℕ) (n : ℕ) (ws : List (ℕ × List ℕ)) (h : Held) : Type 0 where
  pub len : n ≡ length l
  pub pieces : h.frame.pieces ≡ pieces_of (length l) ws
  pub pending : ArePendingIn (length l) ws

pub has_words : (l : List ℕ) (f : Inside) (h : Held) → frame_value f ≡ h → KeepsInside f → length h.frame.fixed ≡ length l → HasWords l f.fixed_len f.pending h
has_words l f h view keeps same =
    let len : f.fixed_len ≡ length l = sym (length-replicate f.fixed_len 0) ∙ ap (λ (t : Held). length t.frame.fixed) view ∙ same in
    record {
      len = len;
      pieces = ap (λ (t : Held). t.frame.pieces) (sym view) ∙ ap (λ (n : ℕ). pieces_of n f.pending) len;
      pending = subst (λ (n : ℕ). ArePendingIn n f.pending) len keeps.pending;
    }

-- ---- static bytes

pub static_read : (l : List ℕ) (ps ws : List (ℕ × List ℕ)) (at n : ℕ) (into : List ℕ) → ps ≡ pieces_of (length l) ws → ArePendingIn (length l) ws → at + n ≤ length l → length into ≡ n
    → ((i : ℕ) → i < n → get_or into i 0 ≡ unwrap_or (covering_byte (word_pieces ws) (at + i)) (get_or l (at + i) 0)) → into ≡ take n (drop at (laid_pieces l ps))
static_read l ps ws at n into pieces are range len bytes =
    let laid = laid_pieces l (pieces_of (length l) ws) in
    let long : length laid ≡ length l = length_laid l (pieces_of (length l) ws) (pieces_lie (length l) ws are) in
    let whole : length (take n (drop at laid)) ≡ n = omega (arith, length-take n (drop at laid), length-drop at laid) in
    let all : into ≡ take n (drop at laid) =
    ext_get_or 0 into (take n (drop at laid)) (len ∙ sym whole) (λ i lt.
    let low : i < n = omega arith in
    bytes i low ∙ sym (get_or-take n (drop at laid) i 0 low ∙ get_or-drop at laid i 0 ∙ read_byte l ws (at + i) are (omega arith))) in
    all ∙ ap (λ (t : List (ℕ × List ℕ)). take n (drop at (laid_pieces l t))) (sym pieces)

-- ---- places

-- an access lies in the same place of a frame whether or not it is completed from its bank
pub where_shown : (s : BankState) (named : ℕ → Option (List ℕ)) (h : Held) (a n : ℕ) → FitsBank s named h → where_is (frame_with s named h) a n ≡ where_is h.frame a n
where_shown s named h a n fits = rw (sym fits.fixed) refl

-- the bytes of an access of at least one byte
bytes_are : (f : Frame) (public : List ℕ) (a n : ℕ) (p : Option Place) → 0 < n → where_is f a n ≡ p → bytes_at f public a n ≡ bytes_in f public n p
unfolding bytes_at
bytes_are f public a n p some e = ap (λ (b : Bool). cond b [] (bytes_in f public n (where_is f a n))) (ne_eqb n 0 (λ none. omega arith)) ∙ ap (bytes_in f public n) e

pub bytes_read : (s : BankState) (named : ℕ → Option (List ℕ)) (h : Held) (public : List ℕ) (a n : ℕ) (p : Option Place) → FitsBank s named h → 0 < n → p ≡ where_is h.frame a n → bytes_in (frame_with s named h) public n p ≡ bytes_at (frame_with s named h) public a n
bytes_read s named h public a n p fits some e = sym (bytes_are (frame_with s named h) public a n p some (where_shown s named h a n fits ∙ sym e))

pub no_bytes : (f : Frame) (public : List ℕ) (a : ℕ) (into : List ℕ) → nat_eq (length into) 0 ≡ true → into ≡ bytes_at f public a (length into)
unfolding bytes_at
no_bytes f public a [] none = refl
no_bytes f public a (x ∷ xs) none = absurd (cc (none, ne_eqb (length (x ∷ xs)) 0 (λ same. omega arith)))
