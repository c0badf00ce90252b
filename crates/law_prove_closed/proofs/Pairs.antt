-- A pair of set and number that is no primitive abends, whatever bytes there are.
use Rattle.std.proofs.Common.{◌≡◌, ℕ, List, [], ◌∷◌, Option, Some, None, sym, ap, subst, ◌∙◌, arith}
use Rattle.law_prove.specs.model_machine.specs.declared.instruction.Ins.{Ins}
use Rattle.law_prove.specs.model_machine.specs.declared.instruction.Ins.TheVariants as ins
use Rattle.law_prove.specs.model_machine.specs.Frame.{Frame}
use Rattle.law_prove.specs.model_machine.specs.Primitives.{Primitive, primitive, prim_causes}
use Rattle.law_prove.specs.model_machine.specs.Row.{causes, row, first_cause}
use Rattle.law_prove.specs.model_machine.specs.Chain.{frame_at}
use Rattle.law_prove.specs.model_rules.specs.Rules.{Target}
use Rattle.law_prove.specs.model_prove.specs.Keys.{Delegated, Tables}
use Rattle.law_prove.specs.model_prove.specs.Splits.{few_combinations}
use Rattle.law_prove.specs.model_prove.specs.Arrivals.{Setting}
use Rattle.law_prove.specs.model_prove.specs.Steps.{arounds}
use Rattle.law_prove.specs.model_rules.specs.Loadable.{IsLoadable}
use Rattle.law_prove.specs.Laws.{LeadsInto}
use Rattle.law_prove.proofs.Turns.{NoCause, nobody}
use Rattle.law_prove.proofs.Single.{Turn, IsRowCovered}
use Rattle.law_prove_closed.specs.ReadLaws.{UnknownLaw}
use Rattle.law_prove_closed.proofs.Scenes.{drawn}
use Rattle.law_prove_closed.proofs.Chosen.{Chosen, places, stand, real, chosen_row, law_of}

module _ (set number : ℕ) (args : List ℕ) (unknown : primitive set number ≡ None) where
  abbrev pair : Ins
  pair = ins.Prim set number args

  module _ (s : Setting) (u t : Tables) (g : Target) (loadable : IsLoadable s.app) (leads : LeadsInto s u t) (turn : Turn s u pair) where
    none_decides : few_combinations turn.place.known.bytes (places s u t g loadable leads pair turn) ≡ Some ([] ∷ [])
    none_decides = grind (arith, stand)

    pair_covered : Chosen s u t g loadable leads pair turn → IsRowCovered s u t g loadable leads pair turn (row pair (frame_at turn.frame turn.next) turn.public turn.around)
    unfolding causes
    pair_covered z =
        let f : Frame = real s u t g loadable leads pair turn in
        let l : Frame = drawn f z.fixed z.dyn in
        chosen_row s u t g loadable leads pair turn z
        (ap (λ (o : Option Primitive). first_cause (prim_causes o args l z.public nobody)) unknown ∙ sym (ap (λ (o : Option Primitive). first_cause (prim_causes o args f turn.public turn.around)) unknown))
        (λ none all.
        let no : NoCause (prim_causes None args f turn.public turn.around) = subst (λ (o : Option Primitive). NoCause (prim_causes o args f turn.public turn.around)) unknown none in
        absurd (cc no.0))

  none_asks : arounds Delegated (primitive set number) ≡ arounds Delegated None
  none_asks = ap (λ (o : Option Primitive). arounds Delegated o) unknown

-- a pair of set and number that is no primitive is covered
pub unknown_laws : UnknownLaw
unknown_laws set number args unknown =
    law_of (ins.Prim set number args) (λ s u t g loadable leads turn e. e)
    (record {
      asks = none_asks set number args unknown;
      few = pair_covered set number args unknown;
      many = λ s u t g loadable leads turn few rough. absurd (cc (sym (none_decides set number args unknown s u t g loadable leads turn) ∙ few));
    })
