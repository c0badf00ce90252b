-- A message through a cipher: it is read, and as many bytes are written.
use Rattle.std.proofs.Common.{◌≡◌, inl, ℕ, ◌%◌, ◌<◌, ◌≤◌, Bool, false, List, [], ◌∷◌, length, Option, Some, None, refl, ap, ◌∙◌, arith}
use Rattle.std.specs.Prelude.{◌==◌, ◌||◌, not, is_none, slice_index}
use Rattle.std.proofs.lemmas.Bool.{or_parts, and_parts, leb-true, eqb-true}
use Rattle.law_prove.specs.model_device.specs.Bytes.{AreBytes}
use Rattle.law_prove.specs.model_machine.specs.declared.instruction.Ins.{Ins}
use Rattle.law_prove.specs.model_machine.specs.declared.instruction.Ins.TheVariants as ins
use Rattle.law_prove.specs.model_machine.specs.declared.machine.Abend.{Abend}
use Rattle.law_prove.specs.model_machine.specs.Modes.{ecb}
use Rattle.law_prove.specs.model_machine.specs.Frame.{Frame, where_is, is_outside, bytes_at, frame_after_pop}
use Rattle.law_prove.specs.model_machine.specs.Primitives.{Cipher, Primitive, Encipher, Decipher, primitive, block_len, key_len, is_message, encipherment, decipherment, has_bit, number_below_top, later_causes, prim_causes}
use Rattle.law_prove.specs.model_machine.specs.Row.{causes, first_cause}
use Rattle.law_prove.specs.model_machine.specs.Shapes.{shape, prim_shape, pair_shape}
use Rattle.law_prove.specs.law_bytes.proofs.CipherBytes.{message_bytes, enciphered, deciphered}
use Rattle.law_prove.specs.law_bytes.proofs.ByteLists.{read_bytes}
use Rattle.law_prove.specs.model_prove.specs.Keys.{Start, Delegated, OfClass}
use Rattle.law_prove.specs.model_prove.specs.Laws.{Among}
use Rattle.law_prove.specs.model_prove.specs.Work.{NoFact, pair_work}
use Rattle.law_prove.specs.model_prove.specs.Reach.{may_have_bad_length, known_causes, pair_coarse}
use Rattle.law_prove.specs.model_prove.specs.Steps.{arounds}
use Rattle.law_prove.specs.model_prove.proofs.SetLemmas.{is_first}
use Rattle.law_prove.specs.Laws.{LeadLaw}
use Rattle.law_prove.specs.law_bytes.proofs.ByteLists.{indexed}
use Rattle.law_prove.proofs.Turns.{NoCause, nobody}
use Rattle.law_prove.proofs.ReachScenes.{with_bytes, same_outside}
use Rattle.law_prove.specs.law_machine.proofs.BlockSizes.{IsOfBlocks, enciphered_blocks, deciphered_blocks, ecb_length}
use Rattle.law_prove.proofs.Choices.{fetched_frame, few_or_many, ChoiceCase, law_by}
use Rattle.law_prove.proofs.Tops.{Numbers, Agree, Top, IsTop, cs}
use Rattle.law_prove.proofs.Accesses.{anybody, inside_of, not_true, not_zero, fits_low, read_length, turn_length}
use Rattle.law_prove.proofs.Results.{IsResult, result_covered}

-- whether one of three accesses is outside
abbrev three_missed : Frame → ℕ → ℕ → ℕ → ℕ → ℕ → Bool
three_missed h a b c n k = is_outside h a n || is_outside h b n || is_outside h c k

abbrev ciphered : (List ℕ → List ℕ → List ℕ) → Cipher → ℕ → Top
ciphered cipher c n =
    record {
      pops = 6;
      to = 4;
      bad = false;
      arg = not (is_message c n);
      denied = λ deny. has_bit deny 1;
      missed = λ h x v. three_missed h (v 6) (v 4) (v 2) n (key_len c);
      range = λ v. false;
      count = λ x v. n;
      bytes = λ f public x. ecb (cipher (bytes_at (frame_after_pop f 6) public (number_below_top f 2) (key_len c))) (block_len c) (bytes_at (frame_after_pop f 6) public (number_below_top f 6) n);
      flags = λ c. None;
      task = λ v. NoFact;
      lengths = λ k dt. n ∷ [];
    }

three_same : (h : Frame) (fixed dyn : List ℕ) (most : ℕ) (v w : Numbers) (n k : ℕ) → length fixed ≡ length h.fixed → Agree most v w → 6 ≤ most → three_missed (with_bytes h fixed dyn) (v 6) (v 4) (v 2) n k ≡ three_missed h (w 6) (w 4) (w 2) n k
three_same h fixed dyn most v w n k size a high = grind (arith, with_bytes, same_outside)

-- a cipher that keeps the length of blocks, and makes bytes of bytes
record IsCipher (c : Cipher) (cipher : List ℕ → List ℕ → List ℕ) : Type 0 where
  keeps : (key : List ℕ) → IsOfBlocks (block_len c) (cipher key)
  bytes : (key block : List ℕ) → AreBytes key → AreBytes block → AreBytes (cipher key block)

enciphers : (c : Cipher) → IsCipher c (encipherment c)
enciphers c = record { keeps = enciphered_blocks c; bytes = enciphered c }

deciphers : (c : Cipher) → IsCipher c (decipherment c)
deciphers c = record { keeps = deciphered_blocks c; bytes = deciphered c }

-- a message has at least one block, and whole blocks
pub message_blocks : (c : Cipher) (n : ℕ) → not (is_message c n) ≡ false → (block_len c ≤ n) × (n % block_len c ≡ 0)
message_blocks c n e = grind (arith, and_parts, not_true, leb-true, eqb-true)

-- a block has bytes
pub block_positive : (c : Cipher) → 1 ≤ block_len c
block_positive c = grind arith

-- the three numbers of an instruction: two of the primitive, and what it is
module _ (set number : ℕ) (args : List ℕ) where
  abbrev i : Ins
  i = ins.Prim set number args

  abbrev n : ℕ
  n = slice_index args 0

  encipher_top : (c : Cipher) → primitive set number ≡ Some (Encipher c) → IsTop i (ciphered (encipherment c) c n) anybody
  unfolding causes shape later_causes prim_shape
  encipher_top c e =
      record {
        cause = λ f public x good. ap (λ (z : Option Primitive). first_cause (prim_causes z args f public x)) e;
        known = λ f public x good. ap (λ (z : Option Primitive). first_cause (known_causes false (prim_causes z args f public x))) e;
        shaped = λ f public x good. ap (λ (z : Option Primitive). pair_shape z args f public x) e;
        works = λ f public. ap (λ (z : Option Primitive). pair_work z args f public) e;
        lasts = ap may_have_bad_length e;
        reaches = λ f k. ap (λ (z : Option Primitive). pair_coarse z args f k) e;
        low = omega arith;
        high = omega arith;
        same_missed = λ h fixed dyn x v w size a. three_same h fixed dyn 6 v w n (key_len c) size a (omega arith);
        same_range = λ v w a. refl;
        same_count = λ x v w a. refl;
        ranges = λ v e. absurd (cc e);
      }

  decipher_top : (c : Cipher) → primitive set number ≡ Some (Decipher c) → IsTop i (ciphered (decipherment c) c n) anybody
  unfolding causes shape later_causes prim_shape
  decipher_top c e =
      record {
        cause = λ f public x good. ap (λ (z : Option Primitive). first_cause (prim_causes z args f public x)) e;
        known = λ f public x good. ap (λ (z : Option Primitive). first_cause (known_causes false (prim_causes z args f public x))) e;
        shaped = λ f public x good. ap (λ (z : Option Primitive). pair_shape z args f public x) e;
        works = λ f public. ap (λ (z : Option Primitive). pair_work z args f public) e;
        lasts = ap may_have_bad_length e;
        reaches = λ f k. ap (λ (z : Option Primitive). pair_coarse z args f k) e;
        low = omega arith;
        high = omega arith;
        same_missed = λ h fixed dyn x v w size a. three_same h fixed dyn 6 v w n (key_len c) size a (omega arith);
        same_range = λ v w a. refl;
        same_count = λ x v w a. refl;
        ranges = λ v e. absurd (cc e);
      }

  encipher_alone : (c : Cipher) (st : Start) → primitive set number ≡ Some (Encipher c) → Among nobody (arounds st (primitive set number))
  encipher_alone c Delegated e = rw e (inl refl)
  encipher_alone c (OfClass class) e = inl refl

  decipher_alone : (c : Cipher) (st : Start) → primitive set number ≡ Some (Decipher c) → Among nobody (arounds st (primitive set number))
  decipher_alone c Delegated e = rw e (inl refl)
  decipher_alone c (OfClass class) e = inl refl

  encipher_result : (c : Cipher) → primitive set number ≡ Some (Encipher c) → IsResult i (ciphered (encipherment c) c n)
  encipher_result c e = grind (arith, encipher_top, encipher_alone)

  decipher_result : (c : Cipher) → primitive set number ≡ Some (Decipher c) → IsResult i (ciphered (decipherment c) c n)
  decipher_result c e = grind (arith, decipher_top, decipher_alone)

  -- a message through a cipher is covered
  cipher_case : (c : Cipher) (cipher : List ℕ → List ℕ → List ℕ) → IsCipher c cipher → IsResult i (ciphered cipher c n) → ChoiceCase i
  cipher_case c cipher good is s u t g loadable leads turn includes =
      let o : Top = ciphered cipher c n in
      let f : Frame = fetched_frame s u t g loadable leads i turn in
      let h : Frame = frame_after_pop f 6 in
      let key = bytes_at h turn.public (number_below_top f 2) (key_len c) in
      let from = number_below_top f 6 in
      let to = number_below_top f 4 in
      let message = bytes_at h turn.public from n in
      let none_cs : List (Abend × Bool) = cs s u t g loadable leads i turn o anybody is.top tt in
      let byte : n < 256 = indexed args 0 turn.shaped.bytes in
      let key_bytes : AreBytes key = read_bytes h turn.public (number_below_top f 2) (key_len c) (record { static = turn.place.frame.static; pieces = turn.place.frame.pieces; stack = turn.place.dynamic }) turn.bytes in
      let message_are : AreBytes message = read_bytes h turn.public from n (record { static = turn.place.frame.static; pieces = turn.place.frame.pieces; stack = turn.place.dynamic }) turn.bytes in
      let some : NoCause none_cs → 1 ≤ n = λ none. let one = block_positive c in let least : block_len c ≤ n = (message_blocks c n none.0).0 in omega (arith, one, least) in
      let filled : NoCause none_cs → (n == 0) ≡ false = λ none. not_zero n (some none) in
      let missed : NoCause none_cs → ((is_outside h from n || is_outside h to n) ≡ false) × (is_outside h (number_below_top f 2) (key_len c) ≡ false) = λ none.
      or_parts (is_outside h from n || is_outside h to n) (is_outside h (number_below_top f 2) (key_len c)) none.1.1.1.0
      in
      let pair : NoCause none_cs → (is_outside h from n ≡ false) × (is_outside h to n ≡ false) = λ none. or_parts (is_outside h from n) (is_outside h to n) (missed none).0 in
      let inside : NoCause none_cs → is_none (where_is h from n) ≡ false = λ none. inside_of (n == 0) (is_none (where_is h from n)) (filled none) (pair none).0 in
      let whole : (l : List ℕ) (k : List ℕ) → NoCause none_cs → length l ≡ n → length (ecb (cipher k) (block_len c) l) ≡ n = λ l k none size.
      ecb_length c (cipher k) l (good.keeps k) (ap (λ (j : ℕ). j % block_len c) size ∙ (message_blocks c n none.0).1) ∙ size
      in
      let real_length : NoCause none_cs → length message ≡ n = λ none. turn_length s u t g loadable leads i turn 6 from n (filled none) (inside none) in
      result_covered i o is s u t g loadable leads turn (λ v. refl) (λ h v. refl)
      (λ none. record {
        few = omega (arith, byte);
        some = some none;
        inside = inside_of (n == 0) (is_none (where_is h to n)) (filled none) (pair none).1;
        long = whole message key none (real_length none);
        bytes = message_bytes (cipher key) (λ b l. good.bytes key b key_bytes l) (block_len c) message message_are;
        length_in = is_first n [];
        stands = omega (arith, byte);
      })
      (λ fixed dyn public fits a none.
      let e : Frame = with_bytes f fixed dyn in
      let size : length (bytes_at (frame_after_pop e 6) public (number_below_top e 6) n) ≡ n =
      ap (λ (x : ℕ). length (bytes_at (frame_after_pop e 6) public x n)) (a 6 (omega arith) (omega arith)) ∙ read_length h fixed dyn public from n (fits_low f 6 fixed dyn public fits) (filled none) (inside none)
      in
      whole (bytes_at (frame_after_pop e 6) public (number_below_top e 6) n) (bytes_at (frame_after_pop e 6) public (number_below_top e 2) (key_len c)) none size)
      (few_or_many s u t g loadable leads i turn nobody is.later (is.alone turn.place.start) includes)

-- ---- the laws

-- each enciphering
pub encipher_law : (number : ℕ) (c : Cipher) → primitive 1 number ≡ Some (Encipher c) → (args : List ℕ) → LeadLaw (ins.Prim 1 number args)
encipher_law number c e args = law_by (ins.Prim 1 number args) (cipher_case 1 number args c (encipherment c) (enciphers c) (encipher_result 1 number args c e))

-- and each deciphering
pub decipher_law : (number : ℕ) (c : Cipher) → primitive 1 number ≡ Some (Decipher c) → (args : List ℕ) → LeadLaw (ins.Prim 1 number args)
decipher_law number c e args = law_by (ins.Prim 1 number args) (cipher_case 1 number args c (decipherment c) (deciphers c) (decipher_result 1 number args c e))
