-- Rows of too many combinations, by what of their shape matters.
use Rattle.std.specs.Prelude.{◌≡◌, Bool, true, List, ◌++◌, Option}
use Rattle.std.proofs.Common.{ap, sym, subst, ◌∙◌, refl}
use Rattle.mc_isa.specs.model_machine.specs.Shapes.{Act, Stays, Answers, Jumps, Calls, Returns, Pushes, Replaces, Writes, Protects, Shape, shape}
use Rattle.mc_isa.specs.model_machine.specs.declared.instruction.Ins.{Ins}
use Rattle.mc_isa.specs.model_machine.specs.declared.machine.Abend.{Abend}
use Rattle.mc_isa.specs.model_machine.specs.declared.machine.Abend.TheVariants.{A03, A06}
use Rattle.mc_isa.specs.model_machine.specs.Frame.{Frame}
use Rattle.mc_isa.specs.model_machine.specs.Primitives.{Around, Primitive}
use Rattle.mc_isa.specs.model_machine.specs.Row.{causes, first_cause}
use Rattle.prove_facts.specs.model_prove.specs.Arrivals.{Setting, Arrival}
use Rattle.prove_facts.specs.model_prove.specs.Facts.{Facts}
use Rattle.prove_facts.specs.model_prove.specs.Keys.{Tables}
use Rattle.prove_facts.specs.model_prove.specs.Reach.{Coarse, coarse, known_causes, may_have_bad_length, may_miss}
use Rattle.prove_facts.specs.model_prove.specs.Splits.{Scene}
use Rattle.prove_facts.specs.model_prove.specs.Steps.{Spot, coarse_arrivals, coarse_done, coarse_for, coarse_spots, primitive_of, reaches_static}
use Rattle.prove_facts.specs.model_prove.specs.Tables.{includes_all}
use Rattle.prove_scenes.specs.Coarse.{CoarseOutlineLaw, coarse_act, coarse_outlined, coarse_value}
use Rattle.prove_scenes.specs.declared.coarse_rows.Coarse as code
use Rattle.prove_steps.specs.Steps.{fails_when}
use Rattle.prove_arrivals.proofs.IncludedLemmas.{both_included}

-- of an act it matters whether it stays
act_matters : (act : Act) (c : Coarse) → coarse_for (coarse_act act) c ≡ coarse_for act c
act_matters Stays c = refl
act_matters (Answers sw la) c = refl
act_matters (Jumps taken to) c = refl
act_matters (Calls taken to) c = refl
act_matters (Returns less more) c = refl
act_matters (Pushes b) c = refl
act_matters (Replaces b) c = refl
act_matters (Writes a n b) c = refl
act_matters (Protects mode) c = refl

-- all outcomes of a row of too many combinations, from what of its shape matters
pub crude_included : (t : Tables) (law : CoarseOutlineLaw) (s : Setting) (i : Ins) (e : Scene) (p q : Spot) (x : Around) (h : Shape) (c : Coarse) (misses bad : Bool)
    (known : Option Abend)
    → h ≡ coarse_outlined (coarse i e.frame p.known.bytes) (shape i e.frame e.public x)
    → c ≡ coarse_for h.act (coarse i e.frame p.known.bytes)
    → misses ≡ may_miss (primitive_of i) c
    → bad ≡ may_have_bad_length (primitive_of i)
    → known ≡ first_cause (known_causes bad (causes i e.frame e.public x))
    → includes_all t (fails_when misses s p A03) ≡ true
    → includes_all t (fails_when bad s p A06) ≡ true
    → includes_all t (coarse_done known s i (record e.frame { dt = h.dt }) h c p q) ≡ true
    → includes_all t (coarse_arrivals s i e p q x) ≡ true
crude_included t law s i e p q x h c misses bad known eh ec em eb ek first second rest =
    both_included t (fails_when (may_miss prim d) s p A03 ++ fails_when (may_have_bad_length prim) s p A06) _
    (both_included t (fails_when (may_miss prim d) s p A03) (fails_when (may_have_bad_length prim) s p A06) missed long) done
  where
    prim : Option Primitive
    prim = primitive_of i

    k : Coarse
    k = coarse i e.frame p.known.bytes

    g : Shape
    g = shape i e.frame e.public x

    d : Coarse
    d = coarse_for g.act k

    same_coarse : c ≡ d
    same_coarse = ec ∙ ap (λ (h : Shape). coarse_for h.act k) eh ∙ act_matters g.act k

    missed : includes_all t (fails_when (may_miss prim d) s p A03) ≡ true
    missed = subst (λ (b : Bool). includes_all t (fails_when b s p A03) ≡ true) (em ∙ ap (λ (c : Coarse). may_miss prim c) same_coarse) first

    long : includes_all t (fails_when (may_have_bad_length prim) s p A06) ≡ true
    long = subst (λ (b : Bool). includes_all t (fails_when b s p A06) ≡ true) eb second

    cause : known ≡ first_cause (known_causes (may_have_bad_length prim) (causes i e.frame e.public x))
    cause = ek ∙ ap (λ (b : Bool). first_cause (known_causes b (causes i e.frame e.public x))) eb

    by_shape : includes_all t (coarse_done known s i (record e.frame { dt = g.dt }) (coarse_outlined k g) (coarse_for (coarse_outlined k g).act k) p q) ≡ true
    by_shape =
        subst (λ (h : Shape). includes_all t (coarse_done known s i (record e.frame { dt = h.dt }) h (coarse_for h.act k) p q) ≡ true) eh
        (subst (λ (c : Coarse). includes_all t (coarse_done known s i (record e.frame { dt = h.dt }) h c p q) ≡ true) ec rest)

    done : includes_all t (coarse_done (first_cause (known_causes (may_have_bad_length prim) (causes i e.frame e.public x))) s i (record e.frame { dt = g.dt }) g d p q) ≡ true
    done =
        subst (λ (r : Option Abend). includes_all t (coarse_done r s i (record e.frame { dt = g.dt }) g d p q) ≡ true) cause
        (subst (λ (l : List Arrival). includes_all t l ≡ true) (law known s i (record e.frame { dt = g.dt }) g k p q) by_shape)

-- the facts by which a row was found are those of the place
pub coarse_reaches : (s : Setting) (f : Frame) (c : code.Coarse) (facts k : Facts) → facts ≡ k → (r : Bool) → r ≡ reaches_static s f (coarse_value facts c)
    → reaches_static s f (coarse_value k c) ≡ r
coarse_reaches s f c facts k e r so = sym (so ∙ ap (λ (k : Facts). reaches_static s f (coarse_value k c)) e)

pub coarse_places : (f : Frame) (flags : Option (Bool × Bool)) (c : code.Coarse) (facts k : Facts) → facts ≡ k → (low q : Spot) → low ≡ q → (l : List Spot)
    → l ≡ coarse_spots f flags (coarse_value facts c) low
    → coarse_spots f flags (coarse_value k c) q ≡ l
coarse_places f flags c facts k e low q a l so =
    sym (so ∙ ap (λ (k : Facts). coarse_spots f flags (coarse_value k c) low) e ∙ ap (coarse_spots f flags (coarse_value k c)) a)

-- what a row knows around it is what the definition says
pub shape_is : (i : Ins) (e : Scene) (k : Facts) (x y : Around) (h : Shape) → x ≡ y
    → h ≡ coarse_outlined (coarse i e.frame k) (shape i e.frame e.public x)
    → h ≡ coarse_outlined (coarse i e.frame k) (shape i e.frame e.public y)
shape_is i e k x y h a so = so ∙ ap (λ (x : Around). coarse_outlined (coarse i e.frame k) (shape i e.frame e.public x)) a

pub cause_is : (i : Ins) (e : Scene) (bad : Bool) (x y : Around) (r : Option Abend) → x ≡ y
    → r ≡ first_cause (known_causes bad (causes i e.frame e.public x))
    → r ≡ first_cause (known_causes bad (causes i e.frame e.public y))
cause_is i e bad x y r a so = so ∙ ap (λ (x : Around). first_cause (known_causes bad (causes i e.frame e.public x))) a
