-- A signature: the last block of a message in a chain from a start block; and the law of all results without a fact.
use Rattle.std.proofs.Common.{◌≡◌, inl, ℕ, ◌≤◌, Bool, false, List, [], ◌∷◌, length, Option, Some, None, refl, ap, ◌∙◌, arith}
use Rattle.std.specs.Prelude.{◌==◌, ◌||◌, not, is_none, slice_index}
use Rattle.std.proofs.lemmas.Bool.{or_parts}
use Rattle.law_prove.specs.model_device.specs.Bytes.{AreBytes}
use Rattle.law_prove.specs.model_machine.specs.declared.instruction.Ins.{Ins}
use Rattle.law_prove.specs.model_machine.specs.declared.instruction.Ins.TheVariants as ins
use Rattle.law_prove.specs.model_machine.specs.declared.machine.Abend.{Abend}
use Rattle.law_prove.specs.model_machine.specs.Frame.{Frame, where_is, is_outside, bytes_at, frame_after_pop}
use Rattle.law_prove.specs.model_machine.specs.Primitives.{Cipher, Des, TripleDes, Aes, Primitive, Sign, primitive, block_len, key_len, is_message, signature, has_bit, number_below_top, later_causes, prim_causes}
use Rattle.law_prove.specs.model_machine.specs.Row.{causes, first_cause}
use Rattle.law_prove.specs.model_machine.specs.Shapes.{shape, prim_shape, pair_shape}
use Rattle.law_prove.specs.law_bytes.proofs.CipherBytes.{signed}
use Rattle.law_prove.specs.law_bytes.proofs.ByteLists.{read_bytes}
use Rattle.law_prove.specs.model_prove.specs.Keys.{Start, Delegated, OfClass}
use Rattle.law_prove.specs.model_prove.specs.Laws.{Among}
use Rattle.law_prove.specs.model_prove.specs.Splits.{count_deciders}
use Rattle.law_prove.specs.model_prove.specs.Work.{NoFact, pair_work}
use Rattle.law_prove.specs.model_prove.specs.Reach.{may_have_bad_length, known_causes, pair_coarse}
use Rattle.law_prove.specs.model_prove.specs.Steps.{arounds}
use Rattle.law_prove.specs.model_prove.proofs.SetLemmas.{is_first}
use Rattle.law_prove.specs.Laws.{LeadLaw}
use Rattle.law_prove.proofs.Turns.{NoCause, nobody}
use Rattle.law_prove.proofs.ReachScenes.{with_bytes, same_outside}
use Rattle.law_prove.specs.law_machine.proofs.BlockSizes.{signature_length}
use Rattle.law_prove.proofs.Choices.{fetched_frame, few_or_many, ChoiceCase, law_by}
use Rattle.law_prove.proofs.Tops.{Numbers, Agree, Top, IsTop, cs}
use Rattle.law_prove.proofs.Accesses.{anybody, inside_of, not_zero, fits_low, read_length, turn_length}
use Rattle.law_prove.specs.ReachLaws.{ResultLaw}
use Rattle.law_prove.proofs.Results.{IsResult, result_covered, digest_law}
use Rattle.law_prove.proofs.Ciphers.{block_positive, encipher_law, decipher_law}

-- whether one of four accesses is outside
abbrev four_missed : Frame → ℕ → ℕ → ℕ → ℕ → ℕ → ℕ → ℕ → Bool
four_missed h a b c d m n k = is_outside h a m || is_outside h b n || is_outside h c m || is_outside h d k

abbrev signing : Cipher → ℕ → Top
signing c n =
    record {
      pops = 8;
      to = 4;
      bad = false;
      arg = not (is_message c n);
      denied = λ deny. has_bit deny 1;
      missed = λ h x v. four_missed h (v 8) (v 6) (v 4) (v 2) (block_len c) n (key_len c);
      range = λ v. false;
      count = λ x v. block_len c;
      bytes = λ f public x.
          signature c (bytes_at (frame_after_pop f 8) public (number_below_top f 2) (key_len c)) (bytes_at (frame_after_pop f 8) public (number_below_top f 8) (block_len c)) (bytes_at (frame_after_pop f 8) public (number_below_top f 6) n);
      flags = λ c. None;
      task = λ v. NoFact;
      lengths = λ k dt. block_len c ∷ [];
    }

four_same : (h : Frame) (fixed dyn : List ℕ) (v w : Numbers) (m n k : ℕ) → length fixed ≡ length h.fixed → Agree 8 v w
    → four_missed (with_bytes h fixed dyn) (v 8) (v 6) (v 4) (v 2) m n k ≡ four_missed h (w 8) (w 6) (w 4) (w 2) m n k
four_same h fixed dyn v w m n k size a = grind (arith, with_bytes, same_outside)

-- no block is too long
block_few : (c : Cipher) → block_len c ≤ 256
block_few c = grind arith

module _ (set number : ℕ) (args : List ℕ) (c : Cipher) (e : primitive set number ≡ Some (Sign c)) where
  abbrev i : Ins
  i = ins.Prim set number args

  abbrev n : ℕ
  n = slice_index args 0

  sign_top : IsTop i (signing c n) anybody
  unfolding causes shape later_causes prim_shape
  sign_top =
      record {
        cause = λ f public x good. ap (λ (z : Option Primitive). first_cause (prim_causes z args f public x)) e;
        known = λ f public x good. ap (λ (z : Option Primitive). first_cause (known_causes false (prim_causes z args f public x))) e;
        shaped = λ f public x good. ap (λ (z : Option Primitive). pair_shape z args f public x) e;
        works = λ f public. ap (λ (z : Option Primitive). pair_work z args f public) e;
        lasts = ap may_have_bad_length e;
        reaches = λ f k. ap (λ (z : Option Primitive). pair_coarse z args f k) e;
        low = omega arith;
        high = omega arith;
        same_missed = λ h fixed dyn x v w size a. four_same h fixed dyn v w (block_len c) n (key_len c) size a;
        same_range = λ v w a. refl;
        same_count = λ x v w a. refl;
        ranges = λ v e. absurd (cc e);
      }

  sign_alone : (st : Start) → Among nobody (arounds st (primitive set number))
  sign_alone Delegated = rw e (inl refl)
  sign_alone (OfClass class) = inl refl

  sign_result : IsResult i (signing c n)
  sign_result = grind (arith, sign_top, sign_alone)

  -- a signature is covered
  sign_case : ChoiceCase i
  sign_case s u t g loadable leads turn includes =
      let o : Top = signing c n in
      let f : Frame = fetched_frame s u t g loadable leads i turn in
      let h : Frame = frame_after_pop f 8 in
      let size = block_len c in
      let from = number_below_top f 8 in
      let to = number_below_top f 4 in
      let key = bytes_at h turn.public (number_below_top f 2) (key_len c) in
      let start = bytes_at h turn.public from size in
      let message = bytes_at h turn.public (number_below_top f 6) n in
      let none_cs : List (Abend × Bool) = cs s u t g loadable leads i turn o anybody sign_top tt in
      let all : (a k : ℕ) → AreBytes (bytes_at h turn.public a k) = λ a k. read_bytes h turn.public a k (record { static = turn.place.frame.static; pieces = turn.place.frame.pieces; stack = turn.place.dynamic }) turn.bytes in
      let filled : (size == 0) ≡ false = not_zero size (block_positive c) in
      let first : Bool = is_outside h from size in
      let second : Bool = is_outside h (number_below_top f 6) n in
      let third : Bool = is_outside h to size in
      let apart : NoCause none_cs → ((first || second) ≡ false) × (third ≡ false) = λ none. or_parts (first || second) third (or_parts (first || second || third) (is_outside h (number_below_top f 2) (key_len c)) none.1.1.1.0).0 in
      let inside : NoCause none_cs → is_none (where_is h from size) ≡ false = λ none. inside_of (size == 0) (is_none (where_is h from size)) filled (or_parts first second (apart none).0).0 in
      result_covered i o sign_result s u t g loadable leads turn (λ v. refl) (λ h v. refl)
      (λ none. record {
        few = block_few c;
        some = block_positive c;
        inside = inside_of (size == 0) (is_none (where_is h to size)) filled (apart none).1;
        long = signature_length c key start message (turn_length s u t g loadable leads i turn 8 from size filled (inside none));
        bytes = signed c key start message (all (number_below_top f 2) (key_len c)) (all from size) (all (number_below_top f 6) n);
        length_in = is_first size [];
        stands = block_few c;
      })
      (λ fixed dyn public fits a none.
      let e : Frame = with_bytes f fixed dyn in
      let l : Frame = frame_after_pop e 8 in
      signature_length c (bytes_at l public (number_below_top e 2) (key_len c)) (bytes_at l public (number_below_top e 8) size) (bytes_at l public (number_below_top e 6) n)
      (ap (λ (x : ℕ). length (bytes_at l public x size)) (a 8 (omega arith) (omega arith)) ∙ read_length h fixed dyn public from size (fits_low f 8 fixed dyn public fits) filled (inside none)))
      (few_or_many s u t g loadable leads i turn nobody (λ f. ap (λ (z : Option Primitive). count_deciders z f) e) (sign_alone turn.place.start) includes)

-- ---- the laws

sign_law : (number : ℕ) (c : Cipher) → primitive 1 number ≡ Some (Sign c) → (args : List ℕ) → LeadLaw (ins.Prim 1 number args)
sign_law number c e args = law_by (ins.Prim 1 number args) (sign_case 1 number args c e)

-- the laws of all results without a fact
pub result_laws : ResultLaw
result_laws = (
  digest_law,
  encipher_law 4 Des refl,
  decipher_law 5 Des refl,
  encipher_law 6 TripleDes refl,
  decipher_law 7 TripleDes refl,
  sign_law 8 Des refl,
  sign_law 9 TripleDes refl,
  encipher_law 10 Aes refl,
  decipher_law 11 Aes refl,
  sign_law 12 Aes refl,
)
