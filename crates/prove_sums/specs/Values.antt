-- What is known for sums, as the definition has it.
use Rattle.std.specs.Prelude.{◌≡◌, List, [], ◌∷◌, map, Option, Some, None, ⊤}
use Rattle.prove_facts.specs.model_prove.specs.Keys.{PlaceKey}
use Rattle.prove_forms.specs.model_sums.specs.Forms as forms
use Rattle.prove_forms.specs.model_sums.specs.Sums as sums
use Rattle.prove_forms.specs.declared.forms.Form.{Form}
use Rattle.prove_forms.specs.Forms.{form_value, FormIs, OptionalsAre}
use Rattle.prove_forms.specs.Origins.{origins_value}
use Rattle.prove_sums.specs.declared.values.Before.{Before}
use Rattle.prove_sums.specs.declared.values.More.{More}
use Rattle.prove_sums.specs.declared.values.Sums.{Sums}

-- ---- what is meant

-- a loaded block is this one
pub record MoreIs (p : More) (r : sums.More) : Type 0 where
  pub at : r.at ≡ p.at
  pub from : r.from ≡ p.from
  pub n : r.n ≡ p.n
  pub form : FormIs p.form r.form

-- loaded blocks are these
abbrev pub MoresAre : List More → List sums.More → Type 0
MoresAre [] [] = ⊤
MoresAre [] (r ∷ rs) = ⊥
MoresAre (p ∷ ps) [] = ⊥
MoresAre (p ∷ ps) (r ∷ rs) = MoreIs p r × MoresAre ps rs

-- what is known for sums is this
pub record SumsAre (p : Sums) (u : sums.Sums) : Type 0 where
  pub origins : u.origins ≡ origins_value p.origins
  pub mores : MoresAre p.mores.items u.mores
  pub offs : OptionalsAre p.offs.items u.offs

-- a loaded block as a list, if there is one
abbrev pub if_any : Option More → List More
if_any None = []
if_any (Some p) = p ∷ []

-- a place has these registers
pub record IsBefore (k : PlaceKey) (b : Before) : Type 0 where
  pub dt : k.dt ≡ b.dt
  pub lb : k.lb ≡ b.lb
  pub protected : k.protected ≡ b.protected

-- ---- as it is written

-- a form, if there is one
abbrev pub off_value : Option Form → Option forms.Form
off_value None = None
off_value (Some p) = Some (form_value p)

-- a loaded block
abbrev pub more_value : More → sums.More
more_value p = record { at = p.at; from = p.from; n = p.n; form = form_value p.form }

-- what is known for sums
abbrev pub sums_value : Sums → sums.Sums
sums_value p =
    record {
      origins = origins_value p.origins;
      mores = map more_value p.mores.items;
      offs = map off_value p.offs.items;
    }
