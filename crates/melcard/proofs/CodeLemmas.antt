-- Digits of code, line by line, and the bytes that they spell.
use Rattle.std.proofs.Common.{◌≡◌, ℕ, suc, ◌+◌, ◌-◌, ◌*◌, ◌/◌, ◌%◌, ◌<◌, ◌≤◌, Bool, true, false, List, [], ◌∷◌, ◌++◌, length, drop, get_or, drop-cons, add-one, Option, Some, None, Result, Ok, Err, refl, ap, sym, ◌∙◌, append_assoc, arith, subst, length-take, inl, inr}
use Rattle.std.specs.Prelude.{◌==◌, MatchResult, cond, filter, IfSome, not, nat_le, ok_or, option_map, slice_index, take}
use Rattle.std.proofs.lemmas.Bool.{cases_eq, le-leb, lt-leb}
use Rattle.std.proofs.lemmas.List.{append-nil, take_at}
use Rattle.mc_text.specs.model_text.specs.Text
use Rattle.mc_text.specs.model_text.specs.Text.{CodeFault, is_blank, hex_value, hex_values, before_values, bytes_of_digits, hex_bytes, first_cut, halves_with_character, lines, with_numbers, ok_as, only_if, code_digits, code_text_read, ◌>>=◌}
use Rattle.mc_text.specs.Reading.{line_cut, next_line, without_return}
use Rattle.mc_text.proofs.ReadingLemmas.{lines_at, lines_from}
use Rattle.hex.specs.Hex.{decode_sized}
use Rattle.hex.specs.declared.error.FromHexError.{FromHexError}
use Rattle.hex.specs.declared.error.FromHexError.TheVariants.{OddLength}
use Rattle.hex.proofs.HexLemmas.{decode_of-odd, decode_sized-ok, decode_sized-twice}
use Rattle.mc_deck.proofs.HexLemmas.{bytes_spelled, bytes_misspelled}
use Rattle.mc_asm.proofs.PassLemmas.{numbered_some, numbered_none}
use Rattle.melcard.specs.declared.code.CodeRefusal.{CodeRefusal}
use Rattle.melcard.specs.declared.code.CodeRefusal.TheVariants.{BadHex, TooLarge}
use Rattle.melcard.specs.Judging.{line_digits, text_digits, RefusesCode}
use Rattle.mc_base.specs.mc_words.specs.model_device.specs.Limits.{most_code}
use Rattle.mc_isa.specs.law_rows.proofs.SpellingLemmas.{front_spell}
use Rattle.mc_text.specs.model_machine.specs.Code.{Shaped, front, spell}
use Rattle.mc_text.specs.model_machine.specs.Words.{decode_word}
use Rattle.mc_text.specs.model_machine.specs.declared.instruction.Ins.{Ins}
use Rattle.mc_text.specs.model_machine.specs.declared.instruction.DecodeFault.{DecodeFault}
use Rattle.mc_text.specs.model_machine.specs.declared.instruction.DecodeFault.TheVariants.{Undefined, Past}

-- ---- digits after others

-- the digits read first, followed by those read after them
abbrev pub first_then : Result (List ℕ) CodeFault → Result (List ℕ) CodeFault → Result (List ℕ) CodeFault
first_then one rest = one >>= λ vs. ok_as (λ ws. vs ++ ws) rest

nothing_first : (rest : Result (List ℕ) CodeFault) → rest ≡ first_then (Ok []) rest
nothing_first (Ok vs) = refl
nothing_first (Err e) = refl

-- these digits, if they have values
abbrev valued : List ℕ → Option (List ℕ) → Option (List ℕ)
valued digits values = option_map (λ vs. digits) values

digit_first : (e : CodeFault) (c : ℕ) (t : List ℕ) (o : Option ℕ) (vs : Option (List ℕ)) → ok_or (valued (c ∷ t) (before_values o vs)) e ≡ first_then (ok_or (valued (c ∷ []) (before_values o (Some []))) e) (ok_or (valued t vs) e)
digit_first e c t (Some v) (Some vs) = refl
digit_first e c t (Some v) None = refl
digit_first e c t None vs = refl

character_first : (n c : ℕ) (t : List ℕ) (b : Bool) → is_blank c ≡ b → line_digits n (c ∷ t) ≡ first_then (line_digits n (c ∷ [])) (line_digits n t)
character_first n c t true e = rw e (nothing_first (line_digits n t))
character_first n c t false e =
    let rest = filter (λ c. not (is_blank c)) t in
    rw e (digit_first (Text.BadHex n) c rest (hex_value c) (hex_values rest))

-- a line from a character on
line_from : (n : ℕ) (line : List ℕ) (i : ℕ) → i < length line → line_digits n (drop i line) ≡ first_then (line_digits n (get_or line i 0 ∷ [])) (line_digits n (drop (i + 1) line))
line_from n line i lt =
    let c = get_or line i 0 in
    ap (line_digits n) (drop-cons line i 0 lt) ∙ character_first n c (drop (suc i) line) (is_blank c) refl ∙ ap (λ k. first_then (line_digits n (c ∷ [])) (line_digits n (drop k line))) (sym (add-one i))

-- the digits read first are appended to the digits already read
pub first_read : (one rest whole : Result (List ℕ) CodeFault) (cur new : List ℕ) → ok_as (λ vs. cur ++ vs) one ≡ Ok new → ok_as (λ vs. cur ++ vs) (first_then one rest) ≡ whole → ok_as (λ vs. new ++ vs) rest ≡ whole
first_read (Ok vs) (Ok ws) whole cur new h so =
    let e : cur ++ vs ≡ new = cc h in
    ap (λ (t : List ℕ). Ok (t ++ ws)) (sym e) ∙ ap (λ (t : List ℕ). Ok t) (append_assoc cur vs ws) ∙ so
first_read (Ok vs) (Err e) whole cur new h so = so
first_read (Err e) rest whole cur new h so = absurd (cc h)

same_fault : (one rest whole : Result (List ℕ) CodeFault) (cur old : List ℕ) (f : CodeFault) → one ≡ Err f → ok_as (λ vs. cur ++ vs) (first_then one rest) ≡ ok_as (λ vs. old ++ vs) whole → whole ≡ Err f
same_fault (Ok vs) rest whole cur old f h so = absurd (cc h)
same_fault (Err g) rest (Ok ws) cur old f h so = absurd (cc so)
same_fault (Err g) rest (Err k) cur old f h so = cc (h, so)

-- a refusal of the part that is read first is one of the whole
pub first_refused : (one rest whole : Result (List ℕ) CodeFault) (cur old : List ℕ) (e : CodeRefusal) → RefusesCode one e → ok_as (λ vs. cur ++ vs) (first_then one rest) ≡ ok_as (λ vs. old ++ vs) whole → RefusesCode whole e
first_refused one rest whole cur old (BadHex n) h so = same_fault one rest whole cur old (Text.BadHex n) h so
first_refused one rest whole cur old TooLarge h so = same_fault one rest whole cur old Text.TooLarge h so

-- ---- the characters of a line

module _ (n : ℕ) (line : List ℕ) (i : ℕ) (cur old : List ℕ) (so : ok_as (λ vs. cur ++ vs) (line_digits n (drop i line)) ≡ ok_as (λ vs. old ++ vs) (line_digits n line)) where
  -- one more character
  pub character_read : (new : List ℕ) → i < length line → ok_as (λ vs. cur ++ vs) (line_digits n (get_or line i 0 ∷ [])) ≡ Ok new → ok_as (λ vs. new ++ vs) (line_digits n (drop (i + 1) line)) ≡ ok_as (λ vs. old ++ vs) (line_digits n line)
  character_read new lt is =
      first_read (line_digits n (get_or line i 0 ∷ [])) (line_digits n (drop (i + 1) line)) (ok_as (λ vs. old ++ vs) (line_digits n line)) cur new is
      (ap (ok_as (λ vs. cur ++ vs)) (sym (line_from n line i lt)) ∙ so)

  -- a character that is refused
  pub character_refused : (e : CodeRefusal) → i < length line → RefusesCode (line_digits n (get_or line i 0 ∷ [])) e → RefusesCode (line_digits n line) e
  character_refused e lt is =
      first_refused (line_digits n (get_or line i 0 ∷ [])) (line_digits n (drop (i + 1) line)) (line_digits n line) cur old e is
      (ap (ok_as (λ vs. cur ++ vs)) (sym (line_from n line i lt)) ∙ so)

  -- no character is left
  pub line_read : drop i line ≡ [] → ok_as (λ vs. old ++ vs) (line_digits n line) ≡ Ok cur
  line_read none = sym so ∙ ap (λ t. ok_as (λ vs. cur ++ vs) (line_digits n t)) none ∙ ap (λ (t : List ℕ). Ok t) (append-nil cur)

-- ---- all lines

-- digits after an empty list are unchanged
nothing_before : (whole : Result (List ℕ) CodeFault) (cur : List ℕ) → ok_as (λ vs. [] ++ vs) whole ≡ Ok cur → whole ≡ Ok cur
nothing_before (Ok vs) cur h = h
nothing_before (Err e) cur h = absurd (cc h)

-- the first line of a text, and the text after it
line_and_rest : (t l b : List ℕ) → Some (l, b) ≡ next_line t → lines t ≡ l ∷ lines b
line_and_rest t l b e = lines_at t ∙ ap lines_from (sym e)

no_line : (t : List ℕ) → None ≡ next_line t → lines t ≡ []
no_line t e = lines_at t ∙ ap lines_from (sym e)

-- the lengths of the parts of a text that is cut are at most its own
abbrev CutWithin : ℕ → List ℕ × Option (List ℕ) → Type 0
CutWithin n (l, None) = length l ≤ n
CutWithin n (l, Some b) = length l + length b ≤ n

character_within : (cuts : Bool) (c : ℕ) (t : List ℕ) (p : List ℕ × Option (List ℕ)) → CutWithin (length t) p → CutWithin (length (c ∷ t)) (halves_with_character cuts c t p)
character_within true c t p h = omega arith
character_within false c t (l, None) h = omega (arith, h)
character_within false c t (l, Some b) h = omega (arith, h)

cut_within : (f : ℕ → Bool) (t : List ℕ) → CutWithin (length t) (first_cut f t)
cut_within f [] = omega arith
cut_within f (c ∷ t) = character_within (f c) c t (first_cut f t) (cut_within f t)

return_within : (l : List ℕ) (b : Bool) → length (cond b (take (length l - 1) l) l) ≤ length l
return_within l true = omega (arith, length-take (length l - 1) l)
return_within l false = omega arith

first_within : (n : ℕ) (p : List ℕ × Option (List ℕ)) → CutWithin n p → IfSome (line_cut p) (λ q. length q.0 + length q.1 ≤ n)
first_within n ([], None) h = tt
first_within n (c ∷ k, None) h = omega (arith, h)
first_within n (k, Some r) h = omega (arith, h, return_within k (slice_index k (length k - 1) == 13))

-- the first line of a text and the text after it are no longer than the text
pub line_within : (t l b : List ℕ) → Some (l, b) ≡ next_line t → length l + length b ≤ length t
line_within t l b e = subst (λ o. IfSome o (λ q. length q.0 + length q.1 ≤ length t)) (sym e) (first_within (length t) (first_cut (λ c. c == 10) t) (cut_within (λ c. c == 10) t))

-- the number of lines grows by one with a line
pub line_counted : (n total : ℕ) (t l b : List ℕ) → Some (l, b) ≡ next_line t → n + length (lines t) ≡ total → n + 1 + length (lines b) ≡ total
line_counted n total t l b e h = let one : length (lines t) ≡ suc (length (lines b)) = ap length (line_and_rest t l b e) in omega (arith, one, h)

pub lines_counted : (n total : ℕ) (t : List ℕ) → None ≡ next_line t → n + length (lines t) ≡ total → n ≡ total
lines_counted n total t e h = let none : length (lines t) ≡ 0 = ap length (no_line t e) in omega (arith, none, h)

module _ (n : ℕ) (rest cur : List ℕ) (whole : Result (List ℕ) CodeFault) (so : ok_as (λ vs. cur ++ vs) (text_digits (with_numbers (n + 1) (lines rest))) ≡ ok_as (λ vs. [] ++ vs) whole) where
  -- a line before the lines after it
  by_line : (line behind : List ℕ) → Some (line, behind) ≡ next_line rest → ok_as (λ vs. cur ++ vs) (first_then (line_digits (n + 1) line) (text_digits (with_numbers (n + 1 + 1) (lines behind)))) ≡ ok_as (λ vs. [] ++ vs) whole
  by_line line behind e = ap (λ ls. ok_as (λ vs. cur ++ vs) (text_digits ls)) (sym (numbered_some (n + 1) rest line behind e)) ∙ so

  -- one more line
  pub line_taken : (line behind new : List ℕ) → Some (line, behind) ≡ next_line rest → ok_as (λ vs. cur ++ vs) (line_digits (n + 1) line) ≡ Ok new → ok_as (λ vs. new ++ vs) (text_digits (with_numbers (n + 1 + 1) (lines behind))) ≡ ok_as (λ vs. [] ++ vs) whole
  line_taken line behind new e is = first_read (line_digits (n + 1) line) (text_digits (with_numbers (n + 1 + 1) (lines behind))) (ok_as (λ vs. [] ++ vs) whole) cur new is (by_line line behind e)

  -- a line that is refused
  pub line_refused : (line behind : List ℕ) (r : CodeRefusal) → Some (line, behind) ≡ next_line rest → RefusesCode (line_digits (n + 1) line) r → RefusesCode whole r
  line_refused line behind r e is = first_refused (line_digits (n + 1) line) (text_digits (with_numbers (n + 1 + 1) (lines behind))) whole cur [] r is (by_line line behind e)

  -- no line is left
  pub lines_taken : None ≡ next_line rest → whole ≡ Ok cur
  lines_taken e =
      nothing_before whole cur (sym so ∙ ap (λ ls. ok_as (λ vs. cur ++ vs) (text_digits ls)) (numbered_none (n + 1) rest e) ∙ ap (λ (t : List ℕ). Ok t) (append-nil cur))

-- ---- bytes

-- digits that the crate decodes at once, into half as many bytes
spelled_at_once : (t bs : List ℕ) → decode_sized t (length t / 2) ≡ Ok bs → hex_bytes t ≡ Some bs
spelled_at_once t bs h =
    let even = decode_sized-ok t (length t / 2) bs h in
    bytes_spelled t bs (sym (decode_sized-twice t (length t / 2) even) ∙ h)

misspelled_at_once : (t : List ℕ) (e : FromHexError) → decode_sized t (length t / 2) ≡ Err e → hex_bytes t ≡ None
misspelled_at_once t e h =
    elim (cases_eq (length t % 2) 1) [
      | inl odd ↦ bytes_misspelled t OddLength (decode_of-odd t odd)
      | inr even ↦ let twice : length t ≡ 2 * (length t / 2) = omega (arith, even) in bytes_misspelled t e (sym (decode_sized-twice t (length t / 2) twice) ∙ h)
    ]

decoded : (t out : List ℕ) (r : Result (Unit {0}) FromHexError) (u : Unit {0}) (d : Result (List ℕ) FromHexError) → r ≡ Ok u → decode_sized t (length t / 2) ≡ d → MatchResult d (λ bytes. (r ≡ Ok tt) × (out ≡ bytes)) (λ e. r ≡ Err e) → Some out ≡ hex_bytes t
decoded t out r u (Ok bs) is e m = sym (spelled_at_once t bs e ∙ ap (λ (l : List ℕ). Some l) (sym m.1))
decoded t out r u (Err f) is e m = absurd (cc (is, m))

-- the bytes that were written into a list of half as many
pub decoded_whole : (t out old items : List ℕ) (len : ℕ) (r : Result (Unit {0}) FromHexError) (u : Unit {0}) → r ≡ Ok u → len ≡ length t / 2 → length old ≡ len → length out ≡ len → MatchResult (decode_sized t (length old)) (λ bytes. (r ≡ Ok tt) × (out ≡ bytes)) (λ e. r ≡ Err e) → Some (take len (out ++ drop (length out) items)) ≡ hex_bytes t
decoded_whole t out old items len r u is half whole size m =
    let same = ap (λ (l : List ℕ). Some l) (take_at out (drop (length out) items) len size) in
    same ∙ decoded t out r u (decode_sized t (length t / 2)) is refl (subst (λ (n : ℕ). MatchResult (decode_sized t n) (λ bytes. (r ≡ Ok tt) × (out ≡ bytes)) (λ e. r ≡ Err e)) (whole ∙ half) m)

not_decoded : (t out : List ℕ) (r : Result (Unit {0}) FromHexError) (f : FromHexError) (d : Result (List ℕ) FromHexError) → r ≡ Err f → decode_sized t (length t / 2) ≡ d → MatchResult d (λ bytes. (r ≡ Ok tt) × (out ≡ bytes)) (λ e. r ≡ Err e) → None ≡ hex_bytes t
not_decoded t out r f (Ok bs) is e m = absurd (cc (is, m.0))
not_decoded t out r f (Err g) is e m = sym (misspelled_at_once t g e)

-- digits that are refused
pub refused_whole : (t out old : List ℕ) (r : Result (Unit {0}) FromHexError) (f : FromHexError) → r ≡ Err f → length old ≡ length t / 2 → MatchResult (decode_sized t (length old)) (λ bytes. (r ≡ Ok tt) × (out ≡ bytes)) (λ e. r ≡ Err e) → None ≡ hex_bytes t
refused_whole t out old r f is half m =
    not_decoded t out r f (decode_sized t (length t / 2)) is refl (subst (λ (n : ℕ). MatchResult (decode_sized t n) (λ bytes. (r ≡ Ok tt) × (out ≡ bytes)) (λ e. r ≡ Err e)) half m)

-- the bytes of digits, from a result of the code
pub bytes_found : {V : Type 0} (items : V → List ℕ) (o p : Option V) (held digits : List ℕ) → o ≡ p → held ≡ digits → option_map items o ≡ hex_bytes held → option_map items p ≡ hex_bytes digits
bytes_found items o p held digits e k h = ap (option_map items) (sym e) ∙ h ∙ ap hex_bytes k

-- ---- digits and their values

-- the digits have these values, or both are refused for one reason
abbrev SpellsAlike : Result (List ℕ) CodeFault → Result (List ℕ) CodeFault → Type 0
SpellsAlike (Ok t) (Ok vs) = hex_values t ≡ Some vs
SpellsAlike (Ok t) (Err e) = ⊥
SpellsAlike (Err e) (Ok vs) = ⊥
SpellsAlike (Err e) (Err f) = e ≡ f

-- a digit before others that have values
value_before : (o : Option ℕ) (os : Option (List ℕ)) (vs ws : List ℕ) (all : Option (List ℕ)) → before_values o os ≡ Some vs → ((us : List ℕ) → os ≡ Some us → all ≡ Some (us ++ ws)) → before_values o all ≡ Some (vs ++ ws)
value_before (Some v) (Some us) vs ws all b more = let e : v ∷ us ≡ vs = cc b in rw (more us refl) (ap (λ (l : List ℕ). Some (l ++ ws)) e)
value_before (Some v) None vs ws all b more = absurd (cc b)
value_before None os vs ws all b more = absurd (cc b)

values_behind : (t u vs ws : List ℕ) → hex_values t ≡ Some vs → hex_values u ≡ Some ws → hex_values (t ++ u) ≡ Some (vs ++ ws)
values_behind [] u vs ws h k = let e : [] ≡ vs = cc h in k ∙ ap (λ (l : List ℕ). Some (l ++ ws)) e
values_behind (c ∷ t) u vs ws h k = value_before (hex_value c) (hex_values t) vs ws (hex_values (t ++ u)) h (λ us e. values_behind t u us ws e k)

spells_or : (t : List ℕ) (o : Option (List ℕ)) (e : CodeFault) → hex_values t ≡ o → SpellsAlike (ok_or (valued t o) e) (ok_or o e)
spells_or t (Some vs) e h = h
spells_or t None e h = refl

spells_first : (one rest : Result (List ℕ) CodeFault) (ones rests : Result (List ℕ) CodeFault) → SpellsAlike one ones → SpellsAlike rest rests → SpellsAlike (first_then one rest) (first_then ones rests)
spells_first (Ok t) (Ok u) (Ok vs) (Ok ws) h k = values_behind t u vs ws h k
spells_first (Ok t) (Ok u) (Ok vs) (Err f) h k = absurd k
spells_first (Ok t) (Err e) (Ok vs) (Ok ws) h k = absurd k
spells_first (Ok t) (Err e) (Ok vs) (Err f) h k = k
spells_first (Ok t) rest (Err f) rests h k = absurd h
spells_first (Err e) rest (Ok vs) rests h k = absurd h
spells_first (Err e) rest (Err f) rests h k = h

spells_lines : (ls : List (ℕ × List ℕ)) → SpellsAlike (text_digits ls) (code_digits ls)
spells_lines [] = refl
spells_lines (l ∷ ls) =
    let t = filter (λ c. not (is_blank c)) l.1 in
    spells_first (line_digits l.0 l.1) (text_digits ls) (ok_or (hex_values t) (Text.BadHex l.0)) (code_digits ls) (spells_or t (hex_values t) (Text.BadHex l.0) refl) (spells_lines ls)

-- ---- the whole text

-- the code of digits, if the last line has this number
abbrev pub code_of : ℕ → Option (List ℕ) → Result (List ℕ) CodeFault
code_of last bytes = ok_or bytes (Text.BadHex last) >>= λ code. only_if (nat_le (length code) most_code) Text.TooLarge code

-- the code by the values of its digits
abbrev pub by_values : ℕ → Result (List ℕ) CodeFault → Result (List ℕ) CodeFault
by_values last values = values >>= λ vs. code_of last (bytes_of_digits vs)

code_text : (t : List ℕ) → code_text_read t ≡ by_values (length (lines t)) (code_digits (with_numbers 1 (lines t)))
unfolding code_text_read
code_text t = refl

fault_spelled : (f : CodeFault) (r : Result (List ℕ) CodeFault) → SpellsAlike (Err f) r → r ≡ Err f
fault_spelled f (Ok vs) h = absurd h
fault_spelled f (Err e) h = ap Err (sym h)

digits_spelled : (last : ℕ) (digits : List ℕ) (r : Result (List ℕ) CodeFault) → SpellsAlike (Ok digits) r → by_values last r ≡ code_of last (hex_bytes digits)
digits_spelled last digits (Ok vs) h = rw h refl
digits_spelled last digits (Err e) h = absurd h

-- a refusal of the digits
fault_refused : (t : List ℕ) (f : CodeFault) → text_digits (with_numbers 1 (lines t)) ≡ Err f → code_text_read t ≡ Err f
fault_refused t f h =
    let ls = with_numbers 1 (lines t) in
    code_text t ∙ ap (by_values (length (lines t))) (fault_spelled f (code_digits ls) (subst (λ (r : Result (List ℕ) CodeFault). SpellsAlike r (code_digits ls)) h (spells_lines ls)))

pub digits_refused : (t : List ℕ) (e : CodeRefusal) → RefusesCode (text_digits (with_numbers 1 (lines t))) e → RefusesCode (code_text_read t) e
digits_refused t (BadHex n) h = fault_refused t (Text.BadHex n) h
digits_refused t TooLarge h = fault_refused t Text.TooLarge h

module _ (t digits : List ℕ) (last : ℕ) (h : text_digits (with_numbers 1 (lines t)) ≡ Ok digits) (counted : last ≡ length (lines t)) where
  spelled_text : (o : Option (List ℕ)) → o ≡ hex_bytes digits → code_text_read t ≡ code_of last o
  spelled_text o is =
      let ls = with_numbers 1 (lines t) in
      let spells = subst (λ (r : Result (List ℕ) CodeFault). SpellsAlike r (code_digits ls)) h (spells_lines ls) in
      code_text t ∙ digits_spelled (length (lines t)) digits (code_digits ls) spells ∙ ap (λ n. code_of n (hex_bytes digits)) (sym counted) ∙ ap (code_of last) (sym is)

  -- an odd number of digits
  pub code_odd : None ≡ hex_bytes digits → code_text_read t ≡ Err (Text.BadHex last)
  code_odd is = spelled_text None is

  -- too many bytes
  pub code_large : (code : List ℕ) → Some code ≡ hex_bytes digits → most_code < length code → code_text_read t ≡ Err Text.TooLarge
  code_large code is over = spelled_text (Some code) is ∙ ap (λ b. only_if b Text.TooLarge code) (lt-leb (length code) most_code over)

  -- code within the limit
  pub code_fits : (code : List ℕ) → Some code ≡ hex_bytes digits → length code ≤ most_code → code_text_read t ≡ Ok code
  code_fits code is fits = spelled_text (Some code) is ∙ ap (λ b. only_if b Text.TooLarge code) (le-leb (length code) most_code fits)

-- ---- faults

-- the word of a fault fits a line
pub short_word : (f : DecodeFault) → length (decode_word f) ≤ 9
short_word Undefined = omega arith
short_word Past = omega arith

-- ---- texts

pub no_items : (l : List ℕ) → length l ≡ 0 → l ≡ []
no_items [] h = refl
no_items (c ∷ l) h = absurd (omega (arith, h))

-- ---- instructions

some_byte : (s : List ℕ) (i : Ins) (n : ℕ) → front (s ++ []) ≡ Ok (i, n) → 1 ≤ length s
some_byte [] i n e = absurd (cc e)
some_byte (b ∷ s) i n e = omega arith

-- an instruction has at least one byte
pub spell_some : (i : Ins) → Shaped i → 1 ≤ length (spell i)
spell_some i shaped = some_byte (spell i) i (length (spell i)) (front_spell i [] shaped)
