-- Texts without a line feed: those of instructions, numbers, bytes and results.
use Rattle.std.proofs.Common.{◌≡◌, ℕ, zero, suc, ◌+◌, ◌-◌, ◌/◌, ◌%◌, ◌<◌, Bool, true, false, cond, ◌&&◌, not, List, [], ◌∷◌, ◌++◌, take, Option, Some, None, refl, ◌∙◌, ap, arith}
use Rattle.std.specs.Prelude.{ℤ, pos, negsuc, nat_lt, ◌==◌, codes, decimal, slice_index_or}
use Rattle.std.specs.Fmt.{signed_decimal, digits, digits_onto, digit_glyph}
use Rattle.std.proofs.lemmas.Bool.{and_from, and_parts, lt-ltb, ne_eqb, cond_both}
use Rattle.model_play.specs.model_device.specs.Bytes.{bytes2}
use Rattle.model_play.specs.model_text.specs.Text.{every}
use Rattle.model_play.specs.model_text.specs.Listing.{hex_digit, hex_word, condition_names, condition_name, address_text, arguments_text, byte_line, word_line, words_line, target_line, address_line, operand_line, text_of, hex_text}
use Rattle.model_play.specs.model_device.specs.Words.{cause_text}
use Rattle.model_play.specs.model_machine.specs.Words.{abend_code}
use Rattle.model_play.specs.model_text.specs.TurnText.{outcome_text}
use Rattle.model_play.specs.Transcript.{static_text, text_of_result}
use Rattle.model_play.specs.model_text.specs.TurnText.{ins_text, bit_text}
use Rattle.model_play.specs.model_machine.specs.Chain.{Outcome, Reply, Abended}
use Rattle.model_play.specs.Play.{LineResult}
use Rattle.model_play.specs.model_device.specs.declared.cause.Cause.{Cause}
use Rattle.model_play.specs.model_machine.specs.declared.instruction.Ins.{Ins}
use Rattle.model_play.specs.model_machine.specs.declared.instruction.Ins.TheVariants.{Nop, Setsw, Setla, Setswla, Exit, Exitsw, Exitla, Exitswla, Branch, Jump, Call, Pushz, Pushb, Pushw, Popn, Popb, Popw, Prim, Ret, Reti, Reto, Retio, Load, Store, Loadi, Storei, Loada, Index, Setb, Cmpb, Addb, Subb, Setw, Cmpw, Addw, Subw, Clearn, Testn, Incn, Decn, Notn, Cmpn, Addn, Subn, Andn, Orn, Xorn}
use Rattle.model_play.specs.model_text.proofs.TextLemmas.{every_append}

-- a byte other than a line feed, and other than `>`
abbrev pub unfed : ℕ → Bool
unfed c = not (c == 10)

abbrev pub unmarked : ℕ → Bool
unmarked c = not (c == 62)

-- a text without a line feed
abbrev pub Flat : List ℕ → Type 0
Flat t = every unfed t ≡ true

pub flat_append : (a b : List ℕ) → Flat a → Flat b → Flat (a ++ b)
flat_append a b h k = every_append unfed a b h k

above : (k n : ℕ) → k < n → not (n == k) ≡ true
above k n h = ap not (ne_eqb n k (λ e. absurd (omega (arith, e, h))))

-- ---- numbers

glyph_digit : (d : ℕ) → d < 10 → digit_glyph false d ≡ 48 + d
glyph_digit d h = ap (λ (b : Bool). cond b (48 + d) (87 + d)) (lt-ltb d 10 h)

digits_every : (test : ℕ → Bool) → ((d : ℕ) → d < 10 → test (48 + d) ≡ true) → (k n : ℕ) (acc : List ℕ) → every test acc ≡ true → every test (digits_onto k 10 false n acc) ≡ true
digits_every test f zero n acc h = h
digits_every test f (suc k) n acc h =
    let d : ℕ = digit_glyph false (n % 10) in
    let small : n % 10 < 10 = omega arith in
    let more : every test (d ∷ acc) ≡ true = and_from (test d) (every test acc) (ap test (glyph_digit (n % 10) small) ∙ f (n % 10) small) h in
    cond_both (n / 10 == 0) (d ∷ acc) (digits_onto k 10 false (n / 10) (d ∷ acc)) (λ (t : List ℕ). every test t ≡ true) (λ e. more) (λ e. digits_every test f k (n / 10) (d ∷ acc) more)

decimal_every : (test : ℕ → Bool) → ((d : ℕ) → d < 10 → test (48 + d) ≡ true) → (n : ℕ) → every test (decimal n) ≡ true
unfolding digits
decimal_every test f n = digits_every test f 64 n [] refl

pub flat_decimal : (n : ℕ) → Flat (decimal n)
flat_decimal n = decimal_every unfed (λ d h. above 10 (48 + d) (omega arith)) n

pub unmarked_decimal : (n : ℕ) → every unmarked (decimal n) ≡ true
unmarked_decimal n = decimal_every unmarked (λ d h. ap not (ne_eqb (48 + d) 62 (λ e. absurd (omega (arith, e, h))))) n

pub flat_signed : (z : ℤ) → Flat (signed_decimal z)
flat_signed (pos n) = flat_decimal n
flat_signed (negsuc n) = flat_decimal (suc n)

unfed_hex : (d : ℕ) → unfed (hex_digit d) ≡ true
unfed_hex d = cond_both (nat_lt d 10) (48 + d) (55 + d) (λ (x : ℕ). unfed x ≡ true) (λ e. above 10 (48 + d) (omega arith)) (λ e. above 10 (55 + d) (omega arith))

flat_word : (w : ℕ) → Flat (hex_word w)
flat_word w = grind (arith, and_from, unfed_hex)

pub flat_hex : (bs : List ℕ) → Flat (hex_text bs)
flat_hex [] = refl
flat_hex (b ∷ bs) = and_from _ _ (unfed_hex (b / 16 % 16)) (and_from _ _ (unfed_hex (b % 16)) (flat_hex bs))

-- ---- instructions

-- each of some texts
abbrev all_flat : List (List ℕ) → Bool
all_flat [] = true
all_flat (t ∷ ts) = every unfed t && all_flat ts

flat_one : (ts : List (List ℕ)) (i : ℕ) → all_flat ts ≡ true → Flat (slice_index_or ts i [])
flat_one [] i h = refl
flat_one (t ∷ ts) zero h = (and_parts (every unfed t) (all_flat ts) h).0
flat_one (t ∷ ts) (suc i) h = flat_one ts i (and_parts (every unfed t) (all_flat ts) h).1

flat_condition : (c : ℕ) → Flat (condition_name c)
flat_condition c = flat_one condition_names (c - 1) refl

flat_address : (tag : ℕ) (off : ℤ) → Flat (address_text tag off)
flat_address tag off = grind (arith, flat_append, flat_one, flat_signed)

flat_arguments : (bs : List ℕ) → Flat (arguments_text bs)
flat_arguments [] = refl
flat_arguments (b ∷ bs) = flat_append (codes "," ++ decimal b) (arguments_text bs) (flat_append (codes ",") (decimal b) refl (flat_decimal b)) (flat_arguments bs)

flat_byte : (name : List ℕ) (n : ℕ) → Flat name → Flat (byte_line name n)
flat_byte name n h = flat_append (name ++ codes " ") (decimal n) (flat_append name (codes " ") h refl) (flat_decimal n)

flat_words : (name : List ℕ) (w : ℕ) → Flat name → Flat (word_line name w)
flat_words name w h = flat_append (name ++ codes " ") (hex_word w) (flat_append name (codes " ") h refl) (flat_word w)

flat_two : (name : List ℕ) (v w : ℕ) → Flat name → Flat (words_line name v w)
flat_two name v w h = flat_append (word_line name v ++ codes ",") (hex_word w) (flat_append (word_line name v) (codes ",") (flat_words name v h) refl) (flat_word w)

flat_target : (name : List ℕ) (c to : ℕ) → Flat name → Flat (target_line name c to)
flat_target name c to h = grind (arith, flat_append, flat_condition, cond_both, flat_word)

flat_addressed : (name : List ℕ) (tag : ℕ) (off : ℤ) → Flat name → Flat (address_line name tag off)
flat_addressed name tag off h =
    cond_both (tag == 0) name (name ++ codes " " ++ address_text tag off) (λ (t : List ℕ). Flat t) (λ e. h) (λ e. flat_append (name ++ codes " ") (address_text tag off) (flat_append name (codes " ") h refl) (flat_address tag off))

flat_operand : (name : List ℕ) (tag : ℕ) (off : ℤ) (operand : List ℕ) → Flat name → Flat operand → Flat (operand_line name tag off operand)
flat_operand name tag off operand h k = grind (arith, cond_both, flat_append, flat_address)

flat_text : (i : Ins) → Flat (text_of i)
flat_text Nop = refl
flat_text (Setsw sw) = flat_words (codes "SETSW") sw refl
flat_text (Setla la) = flat_words (codes "SETLA") la refl
flat_text (Setswla sw la) = flat_two (codes "SETSWLA") sw la refl
flat_text Exit = refl
flat_text (Exitsw sw) = flat_words (codes "EXITSW") sw refl
flat_text (Exitla la) = flat_words (codes "EXITLA") la refl
flat_text (Exitswla sw la) = flat_two (codes "EXITSWLA") sw la refl
flat_text (Branch c d) =
    let front : List ℕ = codes "BRANCH " ++ condition_name c in
    flat_append (front ++ codes ",") (signed_decimal d) (flat_append front (codes ",") (flat_append (codes "BRANCH ") (condition_name c) refl (flat_condition c)) refl) (flat_signed d)
flat_text (Jump c to) = flat_target (codes "JUMP") c to refl
flat_text (Call c to) = flat_target (codes "CALL") c to refl
flat_text (Pushz n) = flat_byte (codes "PUSHZ") n refl
flat_text (Pushb b) = flat_byte (codes "PUSHB") b refl
flat_text (Pushw w) = flat_words (codes "PUSHW") w refl
flat_text (Popn n) = flat_byte (codes "POPN") n refl
flat_text Popb = refl
flat_text Popw = refl
flat_text (Prim set number args) = flat_append (byte_line (codes "PRIM") number) (arguments_text (take set args)) (flat_byte (codes "PRIM") number refl) (flat_arguments (take set args))
flat_text Ret = refl
flat_text (Reti i) = flat_byte (codes "RETI") i refl
flat_text (Reto o) = flat_byte (codes "RETO") o refl
flat_text (Retio i o) = flat_append (byte_line (codes "RETIO") i ++ codes ",") (decimal o) (flat_append (byte_line (codes "RETIO") i) (codes ",") (flat_byte (codes "RETIO") i refl) refl) (flat_decimal o)
flat_text (Load tag off n) = flat_operand (codes "LOAD") tag off (decimal n) refl (flat_decimal n)
flat_text (Store tag off n) = flat_operand (codes "STORE") tag off (decimal n) refl (flat_decimal n)
flat_text (Loadi tag off n) = flat_operand (codes "LOADI") tag off (decimal n) refl (flat_decimal n)
flat_text (Storei tag off n) = flat_operand (codes "STOREI") tag off (decimal n) refl (flat_decimal n)
flat_text (Loada tag off) = flat_addressed (codes "LOADA") tag off refl
flat_text (Index tag off n) = flat_operand (codes "INDEX") tag off (decimal n) refl (flat_decimal n)
flat_text (Setb tag off b) = flat_operand (codes "SETB") tag off (decimal b) refl (flat_decimal b)
flat_text (Cmpb tag off b) = flat_operand (codes "CMPB") tag off (decimal b) refl (flat_decimal b)
flat_text (Addb tag off b) = flat_operand (codes "ADDB") tag off (decimal b) refl (flat_decimal b)
flat_text (Subb tag off b) = flat_operand (codes "SUBB") tag off (decimal b) refl (flat_decimal b)
flat_text (Setw tag off w) = flat_operand (codes "SETW") tag off (hex_word w) refl (flat_word w)
flat_text (Cmpw tag off w) = flat_operand (codes "CMPW") tag off (hex_word w) refl (flat_word w)
flat_text (Addw tag off w) = flat_operand (codes "ADDW") tag off (hex_word w) refl (flat_word w)
flat_text (Subw tag off w) = flat_operand (codes "SUBW") tag off (hex_word w) refl (flat_word w)
flat_text (Clearn tag off n) = flat_operand (codes "CLEARN") tag off (decimal n) refl (flat_decimal n)
flat_text (Testn tag off n) = flat_operand (codes "TESTN") tag off (decimal n) refl (flat_decimal n)
flat_text (Incn tag off n) = flat_operand (codes "INCN") tag off (decimal n) refl (flat_decimal n)
flat_text (Decn tag off n) = flat_operand (codes "DECN") tag off (decimal n) refl (flat_decimal n)
flat_text (Notn tag off n) = flat_operand (codes "NOTN") tag off (decimal n) refl (flat_decimal n)
flat_text (Cmpn tag off n) = flat_operand (codes "CMPN") tag off (decimal n) refl (flat_decimal n)
flat_text (Addn tag off n) = flat_operand (codes "ADDN") tag off (decimal n) refl (flat_decimal n)
flat_text (Subn tag off n) = flat_operand (codes "SUBN") tag off (decimal n) refl (flat_decimal n)
flat_text (Andn tag off n) = flat_operand (codes "ANDN") tag off (decimal n) refl (flat_decimal n)
flat_text (Orn tag off n) = flat_operand (codes "ORN") tag off (decimal n) refl (flat_decimal n)
flat_text (Xorn tag off n) = flat_operand (codes "XORN") tag off (decimal n) refl (flat_decimal n)

pub flat_ins : (o : Option Ins) → Flat (ins_text o)
flat_ins None = refl
flat_ins (Some i) = flat_text i

pub flat_bit : (b : Bool) → Flat (bit_text b)
flat_bit true = refl
flat_bit false = refl

-- ---- results

flat_cause : (c : Cause) → Flat (cause_text c)
flat_cause c = grind arith

flat_outcome : (o : Outcome) → Flat (outcome_text o)
flat_outcome (Reply body sw) = flat_hex (body ++ bytes2 sw)
flat_outcome (Abended cause) = flat_append (codes "abend ") (hex_text (abend_code cause ∷ [])) refl (flat_hex (abend_code cause ∷ []))

flat_static : (bs : List ℕ) → Flat (static_text bs)
flat_static [] = refl
flat_static (b ∷ bs) = flat_append (codes "static ") (hex_text (b ∷ bs)) refl (flat_hex (b ∷ bs))

pub flat_shown : (r : LineResult) → Flat (text_of_result r)
flat_shown r = grind (arith, flat_append, flat_decimal, flat_cause, flat_outcome, flat_static)
