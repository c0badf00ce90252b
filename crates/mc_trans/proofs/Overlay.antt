-- Lists with pieces written over them, byte by byte.
use Rattle.std.proofs.Common.{◌≡◌, ℕ, zero, suc, ◌+◌, ◌-◌, ◌≤◌, ◌<◌, true, false, cond, List, [], ◌∷◌, ◌++◌, length, take, drop, get_or, Option, Some, None, refl, sym, ap, subst, ◌∙◌, inl, inr, arith, append_assoc}
use Rattle.std.specs.Prelude.{nat_le, slice_get, unwrap_or}
use Rattle.std.specs.List.{AllByRecursion}
use Rattle.std.proofs.lemmas.Bool.{cases_lt, le-leb, lt-leb}
use Rattle.std.proofs.lemmas.List.{get_or_append_left, get_or-append_right, get_or-take, get_or-drop, length-append, length-take, drop-drop, take_at}
use Rattle.std.proofs.Math.Seq.{drop-append-add}
use Rattle.model_device.specs.Bytes.{splice, or_else}
use Rattle.model_device.specs.Pieces.{covering_byte, laid_pieces, LieIn}
use Rattle.model_device.proofs.ListLemmas.{length_splice, splice_longer}
use Rattle.std.proofs.lemmas.Option.{slice_get_past}

-- ---- one piece

front_len : (l : List ℕ) (at : ℕ) (b : List ℕ) → at ≤ length l → length (take at l ++ b) ≡ at + length b
front_len l at b fits = omega (arith, length-append (take at l) b, length-take at l)

pub splice_before : (l : List ℕ) (at : ℕ) (b : List ℕ) (i : ℕ) → at ≤ length l → i < at → get_or (splice l at b) i 0 ≡ get_or l i 0
splice_before l at b i fits lt =
    let front = front_len l at b fits in
    get_or_append_left (take at l ++ b) (drop (at + length b) l) 0 i (omega arith) ∙ get_or_append_left (take at l) b 0 i (omega (arith, length-take at l)) ∙ get_or-take at l i 0 lt

pub splice_in : (l : List ℕ) (at : ℕ) (b : List ℕ) (i : ℕ) → at ≤ length l → at ≤ i → i < at + length b → get_or (splice l at b) i 0 ≡ get_or b (i - at) 0
splice_in l at b i fits low high =
    let front = front_len l at b fits in
    get_or_append_left (take at l ++ b) (drop (at + length b) l) 0 i (omega arith) ∙ get_or-append_right (take at l) b at i 0 (omega (arith, length-take at l)) low

pub splice_behind : (l : List ℕ) (at : ℕ) (b : List ℕ) (i : ℕ) → at ≤ length l → at + length b ≤ i → get_or (splice l at b) i 0 ≡ get_or l i 0
splice_behind l at b i fits low =
    let front = front_len l at b fits in
    let n = at + length b in
    get_or-append_right (take at l ++ b) (drop n l) n i 0 front low ∙ get_or-drop n l (i - n) 0 ∙ ap (λ (k : ℕ). get_or l k 0) (omega arith)

-- ---- the last piece that covers a byte

-- pieces that begin in a list of this length
abbrev pub BeginIn : ℕ → List (ℕ × List ℕ) → Type 0
BeginIn n ps = AllByRecursion (λ p. p.0 ≤ n) ps

pub LieIn_begin : (n : ℕ) (ps : List (ℕ × List ℕ)) → LieIn n ps → BeginIn n ps
LieIn_begin n [] lie = tt
LieIn_begin n (p ∷ ps) lie = (omega (arith, lie.0.1), LieIn_begin n ps lie.1)

-- the byte that a piece has at a place
abbrev byte_of : ℕ × List ℕ → ℕ → Option ℕ
byte_of p i = cond (nat_le p.0 i) (slice_get p.1 (i - p.0)) None

pub get_some : (b : List ℕ) (i : ℕ) → i < length b → slice_get b i ≡ Some (get_or b i 0)
get_some [] i lt = absurd (omega arith)
get_some (x ∷ xs) zero lt = refl
get_some (x ∷ xs) (suc i) lt = get_some xs i (omega arith)

spliced : (l : List ℕ) (p : ℕ × List ℕ) (i : ℕ) → p.0 ≤ length l → get_or (splice l p.0 p.1) i 0 ≡ unwrap_or (byte_of p i) (get_or l i 0)
spliced l p i fits =
    elim (cases_lt i p.0) [
      | inl lt ↦
          let out : nat_le p.0 i ≡ false = lt-leb p.0 i lt in
          rw (out, splice_before l p.0 p.1 i fits lt) refl
      | inr le ↦
          let out : nat_le p.0 i ≡ true = le-leb _ _ le in
          elim (cases_lt i (p.0 + length p.1)) [
            | inl lt ↦ rw (out, splice_in l p.0 p.1 i fits le lt, get_some p.1 (i - p.0) (omega arith)) refl
            | inr past ↦ rw (out, splice_behind l p.0 p.1 i fits past, slice_get_past p.1 (i - p.0) (omega arith)) refl
          ]
    ]

or_else_or : (a b : Option ℕ) (d : ℕ) → unwrap_or (or_else a b) d ≡ unwrap_or a (unwrap_or b d)
or_else_or (Some x) b d = refl
or_else_or None b d = refl

pub laid_covered : (n : ℕ) (l : List ℕ) (ps : List (ℕ × List ℕ)) (i : ℕ) → BeginIn n ps → n ≤ length l → get_or (laid_pieces l ps) i 0 ≡ unwrap_or (covering_byte ps i) (get_or l i 0)
laid_covered n l [] i begin fits = refl
laid_covered n l (p ∷ ps) i begin fits =
    let low = splice_longer l p.0 p.1 in
    let rest = laid_covered n (splice l p.0 p.1) ps i begin.1 (omega arith) in
    let here = spliced l p i (omega (arith, begin.0)) in
    rest ∙ ap (λ (d : ℕ). unwrap_or (covering_byte ps i) d) here ∙ sym (or_else_or (covering_byte ps i) (byte_of p i) (get_or l i 0))

pub length_laid : (l : List ℕ) (ps : List (ℕ × List ℕ)) → LieIn (length l) ps → length (laid_pieces l ps) ≡ length l
length_laid l [] lie = refl
length_laid l (p ∷ ps) lie =
    let same = length_splice l p.0 p.1 lie.0.1 in
    length_laid (splice l p.0 p.1) ps (subst (λ (n : ℕ). LieIn n ps) (sym same) lie.1) ∙ same

pub length_laid_low : (n : ℕ) (l : List ℕ) (ps : List (ℕ × List ℕ)) → BeginIn n ps → n ≤ length l → length l ≤ length (laid_pieces l ps)
length_laid_low n l [] begin fits = omega arith
length_laid_low n l (p ∷ ps) begin fits =
    let low = splice_longer l p.0 p.1 in
    let rest = length_laid_low n (splice l p.0 p.1) ps begin.1 (omega arith) in
    omega arith

drop_both : (xs ys : List ℕ) (n k : ℕ) → length xs ≡ n → drop (n + k) (xs ++ ys) ≡ drop k ys
drop_both xs ys n k len = subst (λ (m : ℕ). drop (m + k) (xs ++ ys) ≡ drop k ys) len (drop-append-add xs ys k)

-- writing a piece is writing its two parts, one after the other
pub splice_append : (l : List ℕ) (at : ℕ) (a b : List ℕ) → at + length a ≤ length l → splice (splice l at a) (at + length a) b ≡ splice l at (a ++ b)
splice_append l at a b fits =
    let front = take at l ++ a in
    let n = at + length a in
    let len : length front ≡ n = front_len l at a (omega arith) in
    let rest = drop n l in
    let taken : take n (front ++ rest) ≡ front = take_at front rest n len in
    let dropped : drop (n + length b) (front ++ rest) ≡ drop (n + length b) l = drop_both front rest n (length b) len ∙ drop-drop (length b) n l in
    let last : at + length (a ++ b) ≡ n + length b = omega (arith, length-append a b) in
    rw (taken, dropped, last, append_assoc (take at l) a b) refl
