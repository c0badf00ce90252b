-- Rows whose result has no fact, and the digest.
use Rattle.std.proofs.Common.{◌≡◌, ◌⊎◌, inl, inr, ℕ, Bool, true, false, List, [], ◌∷◌, length, Some, None, refl, ap, ◌∙◌, arith}
use Rattle.std.specs.Prelude.{◌||◌, ◌&&◌, not}
use Rattle.std.proofs.lemmas.Bool.{or_parts}
use Rattle.sha1.specs.Sha1.{sha1}
use Rattle.law_prove.specs.model_machine.specs.declared.instruction.Ins.{Ins}
use Rattle.law_prove.specs.model_machine.specs.declared.instruction.Ins.TheVariants as ins
use Rattle.law_prove.specs.model_machine.specs.declared.machine.Abend.{Abend}
use Rattle.law_prove.specs.model_machine.specs.Frame.{Frame, is_outside, bytes_at, frame_after_pop}
use Rattle.law_prove.specs.model_machine.specs.Primitives.{Digest, in_range, number_below_top, later_causes}
use Rattle.law_prove.specs.model_machine.specs.Row.{causes, row}
use Rattle.law_prove.specs.model_machine.specs.Shapes.{shape, prim_shape}
use Rattle.law_prove.specs.law_machine.proofs.BlockLengths.{length_sha1}
use Rattle.law_prove.specs.law_bytes.proofs.CipherBytes.{digested}
use Rattle.law_prove.specs.model_rules.specs.Rules.{Target}
use Rattle.law_prove.specs.model_prove.specs.Keys.{Start, Delegated, OfClass, Tables}
use Rattle.law_prove.specs.model_prove.specs.Laws.{Among}
use Rattle.law_prove.specs.model_prove.specs.Splits.{deciders, later_deciders, top_places}
use Rattle.law_prove.specs.model_prove.specs.Work.{NoFact}
use Rattle.law_prove.specs.model_prove.specs.Arrivals.{Setting}
use Rattle.law_prove.specs.model_prove.specs.Steps.{arounds, primitive_of}
use Rattle.law_prove.specs.model_rules.specs.Loadable.{IsLoadable}
use Rattle.law_prove.specs.model_prove.proofs.SetLemmas.{is_first}
use Rattle.law_prove.specs.Laws.{LeadsInto, LeadLaw}
use Rattle.law_prove.proofs.Turns.{NoCause, nobody}
use Rattle.law_prove.proofs.Single.{Turn, IsRowCovered}
use Rattle.law_prove.proofs.ReachScenes.{with_bytes, Fits, same_outside}
use Rattle.law_prove.proofs.Choices.{fetched_frame, base, Followed, IsCoarse, few_or_many, ChoiceCase, law_by}
use Rattle.law_prove.proofs.Tops.{Numbers, Agree, Top, IsTop, cs, Ready, agree, result_row, coarse_top}
use Rattle.law_prove.proofs.Accesses.{anybody}

-- ---- a row without a fact

-- An instruction whose result has no fact: bytes of the top of its stack decide it, and it writes as many bytes in each
-- scene.
pub record IsResult (i : Ins) (o : Top) : Type 0 where
  pub top : IsTop i o anybody
  pub task : (v : Numbers) → o.task v ≡ NoFact
  pub places : (f : Frame) → deciders i f ≡ top_places f o.pops
  pub later : (f : Frame) → later_deciders i f ≡ []
  pub alone : (st : Start) → Among nobody (arounds st (primitive_of i))

module _ (i : Ins) (o : Top) (is : IsResult i o) (s : Setting) (u t : Tables) (g : Target) (loadable : IsLoadable s.app) (leads : LeadsInto s u t) (turn : Turn s u i) where
  abbrev f : Frame
  f = fetched_frame s u t g loadable leads i turn

  abbrev causes_here : List (Abend × Bool)
  causes_here = cs s u t g loadable leads i turn o anybody is.top tt

  abbrev amount : ℕ
  amount = o.count turn.around (number_below_top f)

  -- what is written in a scene whose numbers are those of the machine
  abbrev SameLength : Type 0
  SameLength = (fixed dyn public : List ℕ) → Fits f fixed dyn public → Agree o.pops (number_below_top (with_bytes f fixed dyn)) (number_below_top f) → NoCause causes_here → length (o.bytes (with_bytes f fixed dyn) public nobody) ≡ amount

  -- both ways to follow it, if what it writes is ready and has the same length in each scene
  pub result_covered : (counted : (v : Numbers) → o.count nobody v ≡ o.count turn.around v) (alike : (h : Frame) (v : Numbers) → o.missed h nobody v ≡ o.missed h turn.around v)
      → (NoCause causes_here → Ready s u t g loadable leads i turn o anybody is.top tt) → SameLength
      → Followed s u t g loadable leads i turn (deciders i (base s u t g loadable leads i turn).frame) nobody ⊎ IsCoarse s u t g loadable leads i turn
      → IsRowCovered s u t g loadable leads i turn (row i f turn.public turn.around)
  result_covered counted alike ready size o2 =
      elim o2 [
        | inl w ↦ few (rw (← is.places (base s u t g loadable leads i turn).frame) w)
        | inr includes ↦ coarse_top s u t g loadable leads i turn o anybody is.top tt includes tt ready
      ]
    where
      few : Followed s u t g loadable leads i turn (top_places (base s u t g loadable leads i turn).frame o.pops) nobody → IsRowCovered s u t g loadable leads i turn (row i f turn.public turn.around)
      few w =
          result_row s u t g loadable leads i turn o anybody is.top tt nobody tt alike counted w ready (is.task (number_below_top (with_bytes f w.fixed w.dyn)))
          (λ none. size w.fixed w.dyn w.public w.fits (agree s u t g loadable leads i turn o anybody is.top tt nobody tt alike counted w none.1.1.0) none)

-- ---- the digest

abbrev digest : Top
digest =
    record {
      pops = 6;
      to = 2;
      bad = true;
      arg = false;
      denied = λ deny. false;
      missed = λ h x v. (in_range 1 255 (v 6) && is_outside h (v 4) (v 6)) || is_outside h (v 2) 20;
      range = λ v. not (in_range 1 255 (v 6));
      count = λ x v. 20;
      bytes = λ f public x. sha1 (bytes_at (frame_after_pop f 6) public (number_below_top f 4) (number_below_top f 6));
      flags = λ c. None;
      task = λ v. NoFact;
      lengths = λ k dt. 20 ∷ [];
    }

digest_missed : (h : Frame) (fixed dyn : List ℕ) (a b n c : ℕ) → length fixed ≡ length h.fixed
    → ((in_range 1 255 n && is_outside (with_bytes h fixed dyn) a n) || is_outside (with_bytes h fixed dyn) b c) ≡ ((in_range 1 255 n && is_outside h a n) || is_outside h b c)
digest_missed h fixed dyn a b n c size = grind (arith, with_bytes, same_outside)

digest_top : (args : List ℕ) → IsTop (ins.Prim 0 9 args) digest anybody
unfolding causes shape later_causes prim_shape
digest_top args =
    record {
      cause = λ f public x good. refl;
      known = λ f public x good. refl;
      shaped = λ f public x good. refl;
      works = λ f public. refl;
      lasts = refl;
      reaches = λ f k. refl;
      low = omega arith;
      high = omega arith;
      same_missed = λ h fixed dyn x v w size a.
          ap (λ (n : ℕ). (in_range 1 255 n && is_outside (with_bytes h fixed dyn) (v 4) n) || is_outside (with_bytes h fixed dyn) (v 2) 20) (a 6 (omega arith) (omega arith))
          ∙ (ap (λ (y : ℕ). (in_range 1 255 (w 6) && is_outside (with_bytes h fixed dyn) y (w 6)) || is_outside (with_bytes h fixed dyn) (v 2) 20) (a 4 (omega arith) (omega arith))
          ∙ (ap (λ (y : ℕ). (in_range 1 255 (w 6) && is_outside (with_bytes h fixed dyn) (w 4) (w 6)) || is_outside (with_bytes h fixed dyn) y 20) (a 2 (omega arith) (omega arith))
          ∙ digest_missed h fixed dyn (w 4) (w 2) (w 6) 20 size));
      same_range = λ v w a. ap (λ (n : ℕ). not (in_range 1 255 n)) (a 6 (omega arith) (omega arith));
      same_count = λ x v w a. refl;
      ranges = λ v e. refl;
    }

digest_alone : (st : Start) → Among nobody (arounds st (Some Digest))
digest_alone Delegated = inl refl
digest_alone (OfClass class) = inl refl

digest_result : (args : List ℕ) → IsResult (ins.Prim 0 9 args) digest
digest_result args = record { top = digest_top args; task = λ v. refl; places = λ f. refl; later = λ f. refl; alone = digest_alone }

digest_case : (args : List ℕ) → ChoiceCase (ins.Prim 0 9 args)
digest_case args s u t g loadable leads turn includes =
    let i : Ins = ins.Prim 0 9 args in
    let f : Frame = fetched_frame s u t g loadable leads i turn in
    let h : Frame = frame_after_pop f 6 in
    let message = bytes_at h turn.public (number_below_top f 4) (number_below_top f 6) in
    result_covered i digest (digest_result args) s u t g loadable leads turn (λ v. refl) (λ h v. refl)
    (λ none. record {
      few = omega arith;
      some = omega arith;
      inside = (or_parts (in_range 1 255 (number_below_top f 6) && is_outside h (number_below_top f 4) (number_below_top f 6)) (is_outside h (number_below_top f 2) 20) none.1.1.1.0).1;
      long = length_sha1 message;
      bytes = digested message;
      length_in = is_first 20 [];
      stands = omega arith;
    })
    (λ fixed dyn public fits a none. length_sha1 (bytes_at (frame_after_pop (with_bytes f fixed dyn) 6) public (number_below_top (with_bytes f fixed dyn) 4) (number_below_top (with_bytes f fixed dyn) 6)))
    (few_or_many s u t g loadable leads i turn nobody (λ f. refl) (digest_alone turn.place.start) includes)

-- the law of the digest
pub digest_law : (args : List ℕ) → LeadLaw (ins.Prim 0 9 args)
digest_law args = law_by (ins.Prim 0 9 args) (digest_case args)
