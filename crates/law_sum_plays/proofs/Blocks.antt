-- Copies between addresses of the stack, the digest and the ciphers.
use Rattle.std.proofs.Common.{◌≡◌, ℕ, suc, ◌+◌, ◌-◌, ◌*◌, ◌%◌, ◌<◌, ◌≤◌, Bool, true, false, List, [], ◌∷◌, length, Some, refl, sym, ap, subst, ◌∙◌, arith}
use Rattle.std.specs.Prelude.{◌==◌, ◌&&◌, ◌||◌, not, nat_lt, slice_index, is_none}
use Rattle.std.proofs.lemmas.Bool.{or_parts, lt-ltb}
use Rattle.sha1.specs.Sha1.{sha1}
use Rattle.law_sums.specs.model_machine.specs.declared.instruction.Ins.{Ins}
use Rattle.law_sums.specs.model_machine.specs.declared.instruction.Ins.TheVariants as ins
use Rattle.law_sums.specs.model_machine.specs.Modes.{ecb}
use Rattle.law_sums.specs.model_machine.specs.Frame.{Frame, where_is, is_outside, bytes_at, is_under, dynamic_base, dynamic_end, frame_after_pop}
use Rattle.law_sums.specs.model_machine.specs.Primitives.{Around, Cipher, MemoryCopy, CopyFixed, Digest, later_causes, number_below_top, in_range, is_message, block_len, key_len, signature}
use Rattle.law_sums.specs.model_machine.specs.Row.{causes}
use Rattle.law_sums.specs.model_machine.specs.Shapes.{shape, prim_shape}
use Rattle.law_sums.specs.law_machine.proofs.BlockLengths.{length_sha1}
use Rattle.law_sums.specs.model_prove.specs.Sets.{is_in}
use Rattle.law_sums.specs.model_prove.specs.Facts.{Facts, Memory, values_at}
use Rattle.law_sums.specs.model_prove.specs.Compares.{bytes_from}
use Rattle.law_sums.specs.model_prove.specs.Keys.{Tables}
use Rattle.law_sums.specs.model_prove.specs.Reach.{lengths_at}
use Rattle.law_sums.specs.model_prove.specs.Work.{Copies, NoFact}
use Rattle.law_sums.specs.model_prove.specs.Arrivals.{Setting}
use Rattle.law_sums.specs.model_prove.proofs.FactLemmas.{value_holds}
use Rattle.law_sums.specs.model_prove.proofs.SetLemmas.{is_first, is_kept}
use Rattle.law_prove_closed.specs.law_prove.proofs.Alike.{Sized, from_length, read_is}
use Rattle.law_prove_closed.specs.law_prove.proofs.Plain.{above}
use Rattle.law_prove_closed.specs.law_prove.proofs.Turns.{NoCause}
use Rattle.law_prove_closed.specs.law_prove.proofs.ReachScenes.{with_bytes, Fits, pair_is, below_is}
use Rattle.law_prove_closed.specs.law_prove.proofs.Accesses.{inside_of, not_true, not_zero, fits_low, read_length}
use Rattle.law_sums.specs.law_machine.proofs.BlockSizes.{ecb_length, signature_length, IsOfBlocks}
use Rattle.law_prove_closed.specs.law_prove.proofs.Tops.{Agree}
use Rattle.law_sums.specs.model_sums.specs.Sums.{SumsTable}
use Rattle.law_sum_plays.proofs.Scenes.{Step, fetched, memory, sized}
use Rattle.law_sum_plays.proofs.Rows.{StepCase}
use Rattle.law_sum_plays.proofs.Written.{IsWriting, writing_case}
use Rattle.law_sum_plays.proofs.Prims.{alone}
use Rattle.law_prove_closed.specs.law_prove.proofs.Copies.{range_of, second_if, length_by}
use Rattle.law_prove_closed.specs.law_prove.proofs.Ciphers.{message_blocks, block_positive}

-- the segments of a frame with fewer bytes of the stack
low_sized : (f : Frame) (public : List ℕ) (k : ℕ) → Sized f public → Sized (frame_after_pop f k) public
low_sized f public k z = let high : f.dt ≤ dynamic_end = z.high in record { small = z.small; room = z.room; high = omega (arith, high); inside = z.inside; whole = z.whole }

-- bytes of a segment are read as many as are asked for
low_read : (s : Setting) (t : Tables) (u : SumsTable) (i : Ins) (step : Step s t u i) (k a n : ℕ) → (n == 0) ≡ false → is_outside (frame_after_pop (fetched s t u i step) k) a n ≡ false
    → bytes_at (frame_after_pop (fetched s t u i step) k) step.public a n ≡ bytes_from (memory s t u i step) a n
low_read s t u i step k a n some inside = grind (arith, fetched, read_is, low_sized, sized, inside_of)

low_count : (s : Setting) (t : Tables) (u : SumsTable) (i : Ins) (step : Step s t u i) (k a n : ℕ) → (n == 0) ≡ false → is_outside (frame_after_pop (fetched s t u i step) k) a n ≡ false
    → length (bytes_at (frame_after_pop (fetched s t u i step) k) step.public a n) ≡ n
low_count s t u i step k a n some inside = ap (λ (l : List ℕ). length l) (low_read s t u i step k a n some inside) ∙ from_length (memory s t u i step) a n

-- so are they in a scene
scene_count : (f : Frame) (fixed dyn public : List ℕ) (k a n : ℕ) → Fits f fixed dyn public → (n == 0) ≡ false → is_outside (frame_after_pop f k) a n ≡ false → length (bytes_at (frame_after_pop (with_bytes f fixed dyn) k) public a n) ≡ n
scene_count f fixed dyn public k a n fits some inside =
    read_length (frame_after_pop f k) fixed dyn public a n (fits_low f k fixed dyn public fits) some (inside_of (n == 0) (is_none (where_is (frame_after_pop f k) a n)) some inside)

-- ---- copies

module _ (i : Ins) (pops : ℕ) (count : Frame → ℕ) (lengths : Facts → ℕ → List ℕ) (is : IsWriting i pops 4 count (λ f public. bytes_at (frame_after_pop f pops) public (number_below_top f 2) (count f)) lengths (λ f. Copies (number_below_top f 2))) where
  -- what no cause has kept from a copy
  record Free (s : Setting) (t : Tables) (u : SumsTable) (step : Step s t u i) : Type 0 where
    under : is_under (fetched s t u i step) pops ≡ false
    some : (count (fetched s t u i step) == 0) ≡ false
    to : is_outside (frame_after_pop (fetched s t u i step) pops) (number_below_top (fetched s t u i step) 4) (count (fetched s t u i step)) ≡ false
    from : is_outside (frame_after_pop (fetched s t u i step) pops) (number_below_top (fetched s t u i step) 2) (count (fetched s t u i step)) ≡ false
    length_in : is_in (count (fetched s t u i step)) (lengths step.place.known.bytes step.frame.dt) ≡ true

  copying : 4 ≤ pops → ((f : Frame) (fixed dyn : List ℕ) → Agree pops (number_below_top (with_bytes f fixed dyn)) (number_below_top f) → count (with_bytes f fixed dyn) ≡ count f)
      → ((s : Setting) (t : Tables) (u : SumsTable) (step : Step s t u i) → NoCause (causes i (fetched s t u i step) step.public step.around) → Free s t u step) → StepCase i
  copying enough steady free =
      writing_case i pops 4 count (λ f public. bytes_at (frame_after_pop f pops) public (number_below_top f 2) (count f)) lengths (λ f. Copies (number_below_top f 2)) is
      (λ s t u step static none.
      let r : Free s t u step = free s t u step none in
      let f : Frame = fetched s t u i step in
      let m : Memory = memory s t u i step in
      let n = count f in
      let g : Frame = frame_after_pop f pops in
      let at = number_below_top f 4 in
      let from = number_below_top f 2 in
      let b = bytes_at g step.public from n in
      let room = above f pops r.under in
      let read : b ≡ bytes_from m from n = low_read s t u i step pops from n r.some r.from in
      let long : length b ≡ n = low_count s t u i step pops from n r.some r.from in
      record {
        over = omega (arith, room);
        some = r.some;
        inside = r.to;
        long = long;
        length_in = r.length_in;
        counts = λ fixed dyn agree. steady f fixed dyn agree;
        tasks = λ fixed dyn agree. ap (λ (a : ℕ). Copies a) (agree 2 (omega arith) (omega (arith, enough)));
        stands = λ fixed dyn public fits agree.
            let e : Frame = with_bytes f fixed dyn in
            ap (λ (x : ℕ). length (bytes_at (frame_after_pop e pops) public x (count e))) (agree 2 (omega arith) (omega (arith, enough)))
            ∙ (ap (λ (x : ℕ). length (bytes_at (frame_after_pop e pops) public from x)) (steady f fixed dyn agree) ∙ scene_count f fixed dyn public pops from n fits r.some r.from);
        same = λ c e. e;
        fits = grind (arith, inside_of, from);
      })

-- of a length that the stack has

-- a length on the stack is one of those that its bytes allow
length_there : (s : Setting) (t : Tables) (u : SumsTable) (i : Ins) (step : Step s t u i) → dynamic_base + 6 ≤ step.frame.dt → 1 ≤ number_below_top (fetched s t u i step) 6 → number_below_top (fetched s t u i step) 6 ≤ 255
    → is_in (number_below_top (fetched s t u i step) 6) (lengths_at step.place.known.bytes (step.frame.dt - 6)) ≡ true
length_there s t u i step over one most =
    let f : Frame = fetched s t u i step in
    let m : Memory = memory s t u i step in
    let n = number_below_top f 6 in
    let a = step.frame.dt - 6 in
    let k : Facts = step.place.known.bytes in
    let first : m a < 256 = step.place.bytes a in
    let second : m (suc a) < 256 = step.place.bytes (suc a) in
    let is : n ≡ m a * 256 + m (suc a) = below_is f step.public 6 (sized s t u i step) over (omega arith) ∙ pair_is m a in
    let high_zero : m a ≡ 0 = omega (arith, is, most) in
    let low_is : m (suc a) ≡ n = omega (arith, is, high_zero) in
    let zero_in : is_in 0 (values_at k a) ≡ true = subst (λ (v : ℕ). is_in v (values_at k a) ≡ true) high_zero (value_holds k m a step.place.holds first) in
    let n_in : is_in n (values_at k (suc a)) ≡ true = subst (λ (v : ℕ). is_in v (values_at k (suc a)) ≡ true) low_is (value_holds k m (suc a) step.place.holds second) in
    length_by (is_in 0 (values_at k a)) n (values_at k (suc a)) zero_in (is_kept (λ v. nat_lt 0 v) n (values_at k (suc a)) n_in (lt-ltb 0 n one))

-- what is known for sums holds after the copy of a number of bytes that the stack has
pub copy_case : (args : List ℕ) → StepCase (ins.Prim 0 6 args)
unfolding causes shape later_causes prim_shape
copy_case args =
    copying (ins.Prim 0 6 args) 6 (λ f. number_below_top f 6) (λ k dt. lengths_at k (dt - 6))
    (record {
      form = λ f public x. refl;
      works = λ f public. refl;
      places = λ f. refl;
      rough = λ f k. refl;
      alone = alone (Some MemoryCopy) refl;
      takes = refl;
      mode = refl;
      least = omega arith;
      most = omega arith;
    })
    (omega arith) (λ f fixed dyn agree. agree 6 (omega arith) (omega arith))
    (λ s t u step none.
    let i : Ins = ins.Prim 0 6 args in
    let f : Frame = fetched s t u i step in
    let g : Frame = frame_after_pop f 6 in
    let n = number_below_top f 6 in
    let to = number_below_top f 4 in
    let from = number_below_top f 2 in
    let range = range_of n none.1.1.1.1.0 in
    let missed = second_if (in_range 1 255 n) (is_outside g to n || is_outside g from n) (not_true (in_range 1 255 n) none.1.1.1.1.0) none.1.1.1.0 in
    let both = or_parts (is_outside g to n) (is_outside g from n) missed in
    let room = above f 6 none.1.1.0 in
    record { under = none.1.1.0; some = not_zero n range.0; to = both.0; from = both.1; length_in = length_there s t u i step (omega (arith, room)) range.0 range.1 })

-- what is known for sums holds after the copy of a fixed number of bytes
pub copy_fixed_case : (args : List ℕ) → StepCase (ins.Prim 1 2 args)
unfolding causes shape later_causes prim_shape
copy_fixed_case args =
    let n = slice_index args 0 in
    copying (ins.Prim 1 2 args) 4 (λ f. slice_index args 0) (λ k dt. slice_index args 0 ∷ [])
    (record {
      form = λ f public x. refl;
      works = λ f public. refl;
      places = λ f. refl;
      rough = λ f k. refl;
      alone = alone (Some CopyFixed) refl;
      takes = refl;
      mode = refl;
      least = omega arith;
      most = omega arith;
    })
    (omega arith) (λ f fixed dyn agree. refl)
    (λ s t u step none.
    let f : Frame = fetched s t u (ins.Prim 1 2 args) step in
    let g : Frame = frame_after_pop f 4 in
    let both = or_parts (is_outside g (number_below_top f 4) n) (is_outside g (number_below_top f 2) n) none.1.1.1.0 in
    record { under = none.1.1.0; some = none.0; to = both.0; from = both.1; length_in = is_first n [] })

-- ---- results of which nothing is known

module _ (i : Ins) (pops to n : ℕ) (bytes : Frame → List ℕ → List ℕ) (is : IsWriting i pops to (λ f. n) bytes (λ k dt. n ∷ []) (λ f. NoFact)) where
  -- what no cause has kept from it: the result has as many bytes in each scene
  record Whole (s : Setting) (t : Tables) (u : SumsTable) (step : Step s t u i) : Type 0 where
    under : is_under (fetched s t u i step) pops ≡ false
    at : is_outside (frame_after_pop (fetched s t u i step) pops) (number_below_top (fetched s t u i step) to) n ≡ false
    long : length (bytes (fetched s t u i step) step.public) ≡ n
    stands : (fixed dyn public : List ℕ) → Fits (fetched s t u i step) fixed dyn public → Agree pops (number_below_top (with_bytes (fetched s t u i step) fixed dyn)) (number_below_top (fetched s t u i step))
        → length (bytes (with_bytes (fetched s t u i step) fixed dyn) public) ≡ n

  resulting : ((s : Setting) (t : Tables) (u : SumsTable) (step : Step s t u i) → NoCause (causes i (fetched s t u i step) step.public step.around) → ((n == 0) ≡ false) × Whole s t u step) → StepCase i
  resulting free =
      writing_case i pops to (λ f. n) bytes (λ k dt. n ∷ []) (λ f. NoFact) is
      (λ s t u step static none.
      let both = free s t u step none in
      let some : (n == 0) ≡ false = both.0 in
      let r : Whole s t u step = both.1 in
      let f : Frame = fetched s t u i step in
      let g : Frame = frame_after_pop f pops in
      let at = number_below_top f to in
      let room = above f pops r.under in
      record {
        over = omega (arith, room);
        some = some;
        inside = r.at;
        long = r.long;
        length_in = is_first n [];
        counts = λ fixed dyn agree. refl;
        tasks = λ fixed dyn agree. refl;
        stands = r.stands;
        same = λ c e. e;
        fits = (subst (λ (k : ℕ). is_none (where_is g at k) ≡ false) (sym r.long) (inside_of (n == 0) (is_none (where_is g at n)) some r.at), refl);
      })

-- what is known for sums holds after a digest
pub digest_case : (args : List ℕ) → StepCase (ins.Prim 0 9 args)
unfolding causes shape later_causes prim_shape
digest_case args =
    resulting (ins.Prim 0 9 args) 6 2 20 (λ f public. sha1 (bytes_at (frame_after_pop f 6) public (number_below_top f 4) (number_below_top f 6)))
    (record {
      form = λ f public x. refl;
      works = λ f public. refl;
      places = λ f. refl;
      rough = λ f k. refl;
      alone = alone (Some Digest) refl;
      takes = refl;
      mode = refl;
      least = omega arith;
      most = omega arith;
    })
    (λ s t u step none.
    let f : Frame = fetched s t u (ins.Prim 0 9 args) step in
    let g : Frame = frame_after_pop f 6 in
    let n = number_below_top f 6 in
    let both = or_parts (in_range 1 255 n && is_outside g (number_below_top f 4) n) (is_outside g (number_below_top f 2) 20) none.1.1.1.0 in (
      refl,
      record {
        under = none.1.1.0;
        at = both.1;
        long = length_sha1 (bytes_at g step.public (number_below_top f 4) n);
        stands = λ fixed dyn public fits agree. let e : Frame = with_bytes f fixed dyn in length_sha1 (bytes_at (frame_after_pop e 6) public (number_below_top e 4) (number_below_top e 6));
      },
    ))

-- ---- ciphers

-- what a message becomes under a cipher
abbrev pub ciphered : (List ℕ → List ℕ → List ℕ) → Cipher → ℕ → Frame → List ℕ → List ℕ
ciphered cipher c n f public =
    let g = frame_after_pop f 6 in
    ecb (cipher (bytes_at g public (number_below_top f 2) (key_len c))) (block_len c) (bytes_at g public (number_below_top f 6) n)

-- what is known for sums holds after a row that writes blocks under a cipher
pub cipher_row : (i : Ins) (c : Cipher) (cipher : List ℕ → List ℕ → List ℕ) (n : ℕ) → ((key : List ℕ) → IsOfBlocks (block_len c) (cipher key)) → IsWriting i 6 4 (λ f. n) (ciphered cipher c n) (λ k dt. n ∷ []) (λ f. NoFact)
    → ((f : Frame) (public : List ℕ) (x : Around) → NoCause (causes i f public x)
    → (not (is_message c n) ≡ false) × (is_under f 6 ≡ false) × ((is_outside (frame_after_pop f 6) (number_below_top f 6) n || is_outside (frame_after_pop f 6) (number_below_top f 4) n || is_outside (frame_after_pop f 6) (number_below_top f 2) (key_len c)) ≡ false)) → StepCase i
cipher_row i c cipher n keeps is free =
    resulting i 6 4 n (ciphered cipher c n) is
    (λ s t u step none.
    let f : Frame = fetched s t u i step in
    let g : Frame = frame_after_pop f 6 in
    let from = number_below_top f 6 in
    let clear = free f step.public step.around none in
    let blocks = message_blocks c n clear.0 in
    let one = block_positive c in
    let least : block_len c ≤ n = blocks.0 in
    let some : (n == 0) ≡ false = not_zero n (omega (arith, one, least)) in
    let first = or_parts (is_outside g from n || is_outside g (number_below_top f 4) n) (is_outside g (number_below_top f 2) (key_len c)) clear.2 in
    let pair = or_parts (is_outside g from n) (is_outside g (number_below_top f 4) n) first.0 in
    let whole : (l k : List ℕ) → length l ≡ n → length (ecb (cipher k) (block_len c) l) ≡ n = λ l k size. ecb_length c (cipher k) l (keeps k) (ap (λ (j : ℕ). j % block_len c) size ∙ blocks.1) ∙ size in (
      some,
      record {
        under = clear.1;
        at = pair.1;
        long = whole (bytes_at g step.public from n) (bytes_at g step.public (number_below_top f 2) (key_len c)) (low_count s t u i step 6 from n some pair.0);
        stands = λ fixed dyn public fits agree.
            let e : Frame = with_bytes f fixed dyn in
            let h : Frame = frame_after_pop e 6 in
            whole (bytes_at h public (number_below_top e 6) n) (bytes_at h public (number_below_top e 2) (key_len c))
            (ap (λ (x : ℕ). length (bytes_at h public x n)) (agree 6 (omega arith) (omega arith)) ∙ scene_count f fixed dyn public 6 from n fits some pair.0);
      },
    ))

-- what a signature is made of
abbrev pub signing : Cipher → ℕ → Frame → List ℕ → List ℕ
signing c n f public =
    let g = frame_after_pop f 8 in
    signature c (bytes_at g public (number_below_top f 2) (key_len c)) (bytes_at g public (number_below_top f 8) (block_len c)) (bytes_at g public (number_below_top f 6) n)

-- what is known for sums holds after a row that writes a signature
pub sign_row : (i : Ins) (c : Cipher) (n : ℕ) → IsWriting i 8 4 (λ f. block_len c) (signing c n) (λ k dt. block_len c ∷ []) (λ f. NoFact)
    → ((f : Frame) (public : List ℕ) (x : Around) → NoCause (causes i f public x)
    → (is_under f 8 ≡ false) × ((is_outside (frame_after_pop f 8) (number_below_top f 8) (block_len c) || is_outside (frame_after_pop f 8) (number_below_top f 6) n || is_outside (frame_after_pop f 8) (number_below_top f 4) (block_len c) || is_outside (frame_after_pop f 8) (number_below_top f 2) (key_len c)) ≡ false)) → StepCase i
sign_row i c n is free =
    resulting i 8 4 (block_len c) (signing c n) is
    (λ s t u step none.
    let f : Frame = fetched s t u i step in
    let g : Frame = frame_after_pop f 8 in
    let size = block_len c in
    let clear = free f step.public step.around none in
    let some : (size == 0) ≡ false = not_zero size (block_positive c) in
    let first : Bool = is_outside g (number_below_top f 8) size in
    let second : Bool = is_outside g (number_below_top f 6) n in
    let third : Bool = is_outside g (number_below_top f 4) size in
    let three = or_parts (first || second || third) (is_outside g (number_below_top f 2) (key_len c)) clear.1 in
    let two = or_parts (first || second) third three.0 in
    let one = or_parts first second two.0 in (
      some,
      record {
        under = clear.0;
        at = two.1;
        long = signature_length c (bytes_at g step.public (number_below_top f 2) (key_len c)) (bytes_at g step.public (number_below_top f 8) size) (bytes_at g step.public (number_below_top f 6) n) (low_count s t u i step 8 (number_below_top f 8) size some one.0);
        stands = λ fixed dyn public fits agree.
            let e : Frame = with_bytes f fixed dyn in
            let h : Frame = frame_after_pop e 8 in
            signature_length c (bytes_at h public (number_below_top e 2) (key_len c)) (bytes_at h public (number_below_top e 8) size) (bytes_at h public (number_below_top e 6) n)
            (ap (λ (x : ℕ). length (bytes_at h public x size)) (agree 8 (omega arith) (omega arith)) ∙ scene_count f fixed dyn public 8 (number_below_top f 8) size fits some one.0);
      },
    ))
