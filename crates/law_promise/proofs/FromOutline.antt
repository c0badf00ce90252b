-- From what an outline says along a play to what its application promises.
use Rattle.std.proofs.Common.{◌≡◌, ℕ, List, [], ◌∷◌, Option, Some, None, refl, arith}
use Rattle.model_events.specs.model_device.specs.Bytes.{lookup}
use Rattle.model_events.specs.model_device.specs.Card.{App}
use Rattle.model_events.specs.model_device.specs.PowerUp.{Base, OnCard, AtFault}
use Rattle.law_bytes.specs.model_play.specs.DeckGrammar.{DeckLine}
use Rattle.law_bytes.specs.model_play.specs.Play.{State, BeforePower, AfterPower, Warm, Live, Step}
use Rattle.model_events.specs.Deeds.{Watch}
use Rattle.law_promise.specs.History.{after_step}
use Rattle.law_promise.specs.Along.{stopped_step, Along, OnApp, OnFixed}
use Rattle.law_promise.specs.Outline.{Outline}
use Rattle.law_promise.specs.Kept.{KeptIn, BaseKept, StateKept}
use Rattle.law_promise.specs.Found.{AlongFrom, BeginsIn, BringsFrom, FindsFrom}

-- what follows of each line holds along the play
pub along_from : {E : Type 0} (w : Watch E) (app : App) (P Q : List E → Step → List E → Type 0) → ((h : List E) (t : Step) (k : List E) → P h t k → Q h t k)
    → (h : List E) (ts : List Step) → Along w app P h ts → Along w app Q h ts
along_from w app P Q f h [] x = tt
along_from w app P Q f h (t ∷ ts) x = (
  λ brings. (f h t (after_step w t h) (x.0 brings).0, along_from w app P Q f (after_step w t h) ts (x.0 brings).1),
  λ c brings. f h (stopped_step t c) (after_step w (stopped_step t c) h) (x.1 c brings),
)

-- so does what follows of each line from a history, if bytes that begin with it begin as the lines need
module _ {E : Type 0} (w : Watch E) (app : App) (b c : List E → List ℕ → Type 0) (P Q : List E → Step → List E → Type 0)
    (more : (h : List E) (fixed : List ℕ) → c h fixed → b h fixed) (says : (h : List E) (t : Step) (k : List E) → P h t k → Q h t k) where
  begins_as : (h : List E) (found : Option App) → BeginsIn app c h found → BeginsIn app b h found
  begins_as h None x = tt
  begins_as h (Some a) x = (x.0, more h a.fixed x.1)

  finds_as : (h : List E) (z : State) (l : DeckLine) (after : State) → FindsFrom w app c h z l after → FindsFrom w app b h z l after
  finds_as h z l after x = grind (arith, begins_as)

  brings_as : (h : List E) (t : Step) → BringsFrom w app c h t → BringsFrom w app b h t
  brings_as h t x = record { creates = x.creates; finds = finds_as h t.before t.line t.after x.finds }

  -- what holds along a play holds of other promises that it implies
  pub along_as : (h : List E) (ts : List Step) → AlongFrom w app b P h ts → AlongFrom w app c Q h ts
  along_as h [] x = tt
  along_as h (t ∷ ts) x = (
    λ brings. let y = x.0 (brings_as h t brings) in (says h t (after_step w t h) y.0, along_as (after_step w t h) ts y.1),
    λ d brings. says h (stopped_step t d) (after_step w (stopped_step t d) h) (x.1 d (brings_as h (stopped_step t d) brings)),
  )

module _ {E : Type 0} (o : Outline E) (h : List E) (holds : List ℕ → Type 0) where
  app_from : (found : Option App) → ((fixed : List ℕ) → o.keeps h fixed → holds fixed) → KeptIn o h found → OnApp holds found
  app_from None f x = tt
  app_from (Some a) f x = f a.fixed x.1

  base_from : (b : Base) (v : Live) (s : Warm) → s.base ≡ b → ((fixed : List ℕ) → o.keeps h fixed → holds fixed) → BaseKept o h b v → OnFixed o.watch.name holds (AfterPower (record s { base = b }))
  base_from (OnCard c) v s e f x = app_from (lookup c.apps o.watch.name) f x.0
  base_from (AtFault cause p) v s e f x = tt

  -- what follows of what keeps holds of the static bytes in a state
  pub fixed_from : (z : State) → ((fixed : List ℕ) → o.keeps h fixed → holds fixed) → StateKept o h z → OnFixed o.watch.name holds z
  fixed_from (BeforePower m b a) f x = tt
  fixed_from (AfterPower s) f x = base_from s.base s.live s refl f x
