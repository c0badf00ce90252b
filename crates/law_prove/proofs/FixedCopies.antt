-- COPYFIXED: as many bytes as the instruction says; and the law of both copies.
use Rattle.std.proofs.Common.{◌≡◌, ◌⊎◌, inl, inr, ℕ, ◌<◌, Bool, false, List, [], ◌∷◌, length, Some, None, refl, ap, ◌∙◌, arith}
use Rattle.std.specs.Prelude.{◌==◌, is_none, slice_index}
use Rattle.std.proofs.lemmas.Bool.{or_parts}
use Rattle.law_prove.specs.model_machine.specs.declared.instruction.Ins.{Ins}
use Rattle.law_prove.specs.model_machine.specs.declared.instruction.Ins.TheVariants as ins
use Rattle.law_prove.specs.model_machine.specs.declared.machine.Abend.{Abend}
use Rattle.law_prove.specs.model_machine.specs.Frame.{Frame, where_is, is_outside, bytes_at, frame_after_pop}
use Rattle.law_prove.specs.model_machine.specs.Primitives.{CopyFixed, number_below_top, later_causes}
use Rattle.law_prove.specs.model_machine.specs.Row.{causes, row}
use Rattle.law_prove.specs.model_machine.specs.Shapes.{shape, prim_shape}
use Rattle.law_prove.specs.model_rules.specs.Rules.{Target}
use Rattle.law_prove.specs.model_prove.specs.Facts.{Memory}
use Rattle.law_prove.specs.model_prove.specs.Compares.{bytes_from}
use Rattle.law_prove.specs.model_prove.specs.Keys.{Start, Delegated, OfClass, Tables}
use Rattle.law_prove.specs.model_prove.specs.Laws.{Among}
use Rattle.law_prove.specs.model_prove.specs.Splits.{top_places}
use Rattle.law_prove.specs.model_prove.specs.Work.{Copies}
use Rattle.law_prove.specs.model_prove.specs.Arrivals.{Setting}
use Rattle.law_prove.specs.model_prove.specs.Steps.{arounds}
use Rattle.law_prove.specs.model_rules.specs.Loadable.{IsLoadable}
use Rattle.law_prove.specs.Laws.{LeadsInto}
use Rattle.law_prove.specs.model_prove.proofs.SetLemmas.{is_first}
use Rattle.law_prove.specs.law_bytes.proofs.ByteLists.{indexed}
use Rattle.law_prove.proofs.Moves.{positive}
use Rattle.law_prove.proofs.Turns.{NoCause, nobody}
use Rattle.law_prove.proofs.Single.{Turn, IsRowCovered}
use Rattle.law_prove.proofs.ReachScenes.{with_bytes}
use Rattle.law_prove.proofs.Choices.{fetched_frame, memory, base, Followed, IsCoarse, few_or_many, ChoiceCase, law_by}
use Rattle.law_prove.proofs.Tops.{Agree, Top, IsTop, cs, Ready, agree, copy_row, coarse_top}
use Rattle.law_prove.proofs.Accesses.{anybody, inside_of, bytes_of, both_missed, both_same, both_numbers, fits_low, read_length, turn_read, turn_length}
use Rattle.law_prove.specs.ReachLaws.{CopyLaw}
use Rattle.law_prove.proofs.Copies.{memory_copy_law}

fixed_alone : (st : Start) → Among nobody (arounds st (Some CopyFixed))
fixed_alone Delegated = inl refl
fixed_alone (OfClass class) = inl refl

abbrev fixed_copy : ℕ → Top
fixed_copy n =
    record {
      pops = 4;
      to = 4;
      bad = false;
      arg = n == 0;
      denied = λ deny. false;
      missed = λ h x v. both_missed h (v 4) (v 2) n;
      range = λ v. false;
      count = λ x v. n;
      bytes = λ f public x. bytes_at (frame_after_pop f 4) public (number_below_top f 2) n;
      flags = λ c. None;
      task = λ v. Copies (v 2);
      lengths = λ k dt. n ∷ [];
    }

fixed_top : (args : List ℕ) → IsTop (ins.Prim 1 2 args) (fixed_copy (slice_index args 0)) anybody
unfolding causes shape later_causes prim_shape
fixed_top args =
    record {
      cause = λ f public x good. refl;
      known = λ f public x good. refl;
      shaped = λ f public x good. refl;
      works = λ f public. refl;
      lasts = refl;
      reaches = λ f k. refl;
      low = omega arith;
      high = omega arith;
      same_missed = λ h fixed dyn x v w size a.
          both_numbers (with_bytes h fixed dyn) 4 v w (slice_index args 0) a (omega arith) ∙ both_same h fixed dyn (w 4) (w 2) (slice_index args 0) size;
      same_range = λ v w a. refl;
      same_count = λ x v w a. refl;
      ranges = λ v e. absurd (cc e);
    }

module _ (args : List ℕ) (s : Setting) (u t : Tables) (g : Target) (loadable : IsLoadable s.app) (leads : LeadsInto s u t) (turn : Turn s u (ins.Prim 1 2 args)) where
  abbrev i : Ins
  i = ins.Prim 1 2 args

  abbrev f : Frame
  f = fetched_frame s u t g loadable leads i turn

  abbrev m : Memory
  m = memory s u t g loadable leads i turn

  abbrev low : Frame
  low = frame_after_pop f 4

  abbrev n : ℕ
  n = slice_index args 0

  abbrev o : Top
  o = fixed_copy n

  abbrev from : ℕ
  from = number_below_top f 2

  abbrev causes_here : List (Abend × Bool)
  causes_here = cs s u t g loadable leads i turn o anybody (fixed_top args) tt

  inside : NoCause causes_here → is_none (where_is low from n) ≡ false
  inside none = inside_of (n == 0) (is_none (where_is low from n)) none.0 (or_parts (is_outside low (number_below_top f 4) n) (is_outside low from n) none.1.1.1.0).1

  read : NoCause causes_here → bytes_at low turn.public from n ≡ bytes_from m from n
  read none = turn_read s u t g loadable leads i turn 4 from n none.0 (inside none)

  ready : NoCause causes_here → Ready s u t g loadable leads i turn o anybody (fixed_top args) tt
  ready none =
      let byte : n < 256 = indexed args 0 turn.shaped.bytes in
      record {
        few = omega (arith, byte);
        some = positive n none.0;
        inside = inside_of (n == 0) (is_none (where_is low (number_below_top f 4) n)) none.0 (or_parts (is_outside low (number_below_top f 4) n) (is_outside low from n) none.1.1.1.0).0;
        long = turn_length s u t g loadable leads i turn 4 from n none.0 (inside none);
        bytes = rw (read none) (bytes_of m from n turn.place.bytes);
        length_in = is_first n [];
        stands = omega (arith, byte);
      }

  few_case : Followed s u t g loadable leads i turn (top_places (base s u t g loadable leads i turn).frame 4) nobody → IsRowCovered s u t g loadable leads i turn (row i f turn.public turn.around)
  few_case w =
      let e : Frame = with_bytes f w.fixed w.dyn in
      copy_row s u t g loadable leads i turn o anybody (fixed_top args) tt nobody tt (λ h v. refl) (λ v. refl) w 2 (omega arith) (omega arith) ready refl read
      (λ none.
      let a : Agree 4 (number_below_top e) (number_below_top f) = agree s u t g loadable leads i turn o anybody (fixed_top args) tt nobody tt (λ h v. refl) (λ v. refl) w none.1.1.0 in
      ap (λ (x : ℕ). length (bytes_at (frame_after_pop e 4) w.public x n)) (a 2 (omega arith) (omega arith))
      ∙ read_length low w.fixed w.dyn w.public from n (fits_low f 4 w.fixed w.dyn w.public w.fits) none.0 (inside none))

  -- both ways to follow it
  pub fixed_covered : Followed s u t g loadable leads i turn (top_places (base s u t g loadable leads i turn).frame 4) nobody ⊎ IsCoarse s u t g loadable leads i turn
      → IsRowCovered s u t g loadable leads i turn (row i f turn.public turn.around)
  fixed_covered outcome =
      elim outcome [
        | inl w ↦ few_case w
        | inr includes ↦ coarse_top s u t g loadable leads i turn o anybody (fixed_top args) tt includes tt ready
      ]

fixed_case : (args : List ℕ) → ChoiceCase (ins.Prim 1 2 args)
fixed_case args s u t g loadable leads turn includes =
    fixed_covered args s u t g loadable leads turn (few_or_many s u t g loadable leads (ins.Prim 1 2 args) turn nobody (λ f. refl) (fixed_alone turn.place.start) includes)

-- the laws of both copies
pub copy_laws : CopyLaw
copy_laws = (memory_copy_law, λ args. law_by (ins.Prim 1 2 args) (fixed_case args))
