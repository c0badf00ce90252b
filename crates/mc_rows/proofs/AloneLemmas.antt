-- Only primitives depend on the surroundings of their frame.
use Rattle.std.proofs.Common.{◌≡◌, ℕ, List, refl}
use Rattle.model_machine.specs.declared.instruction.Ins.{Ins}
use Rattle.model_machine.specs.declared.instruction.Ins.TheVariants.{Nop, Setsw, Setla, Setswla, Exit, Exitsw, Exitla, Exitswla, Branch, Jump, Call, Pushz, Pushb, Pushw, Popn, Popb, Popw, Prim, Ret, Reti, Reto, Retio, Load, Store, Loadi, Storei, Loada, Index, Setb, Cmpb, Addb, Subb, Setw, Cmpw, Addw, Subw, Clearn, Testn, Incn, Decn, Notn, Cmpn, Addn, Subn, Andn, Orn, Xorn}
use Rattle.model_machine.specs.Frame.{Frame}
use Rattle.model_machine.specs.Primitives.{Around}
use Rattle.model_machine.specs.Row.{row, causes, effect}
use Rattle.mc_rows.specs.Rows.{alone}
use Rattle.mc_rows.specs.Families.{IsNoPrimitive}

-- a row other than PRIM does not depend on the surroundings of its frame
pub row_alone : (ins : Ins) (f : Frame) (public : List ℕ) (x : Around) → IsNoPrimitive ins → row ins f public x ≡ row ins f public alone
unfolding row causes effect
row_alone Nop f public x h = refl
row_alone (Setsw sw) f public x h = refl
row_alone (Setla la) f public x h = refl
row_alone (Setswla sw la) f public x h = refl
row_alone Exit f public x h = refl
row_alone (Exitsw sw) f public x h = refl
row_alone (Exitla la) f public x h = refl
row_alone (Exitswla sw la) f public x h = refl
row_alone (Branch k d) f public x h = refl
row_alone (Jump k to) f public x h = refl
row_alone (Call k to) f public x h = refl
row_alone (Pushz n) f public x h = refl
row_alone (Pushb b) f public x h = refl
row_alone (Pushw w) f public x h = refl
row_alone (Popn n) f public x h = refl
row_alone Popb f public x h = refl
row_alone Popw f public x h = refl
row_alone (Prim set number args) f public x h = absurd h
row_alone Ret f public x h = refl
row_alone (Reti i) f public x h = refl
row_alone (Reto o) f public x h = refl
row_alone (Retio i o) f public x h = refl
row_alone (Load tag off n) f public x h = refl
row_alone (Store tag off n) f public x h = refl
row_alone (Loadi tag off n) f public x h = refl
row_alone (Storei tag off n) f public x h = refl
row_alone (Loada tag off) f public x h = refl
row_alone (Index tag off size) f public x h = refl
row_alone (Setb tag off b) f public x h = refl
row_alone (Cmpb tag off b) f public x h = refl
row_alone (Addb tag off b) f public x h = refl
row_alone (Subb tag off b) f public x h = refl
row_alone (Setw tag off w) f public x h = refl
row_alone (Cmpw tag off w) f public x h = refl
row_alone (Addw tag off w) f public x h = refl
row_alone (Subw tag off w) f public x h = refl
row_alone (Clearn tag off n) f public x h = refl
row_alone (Testn tag off n) f public x h = refl
row_alone (Incn tag off n) f public x h = refl
row_alone (Decn tag off n) f public x h = refl
row_alone (Notn tag off n) f public x h = refl
row_alone (Cmpn tag off n) f public x h = refl
row_alone (Addn tag off n) f public x h = refl
row_alone (Subn tag off n) f public x h = refl
row_alone (Andn tag off n) f public x h = refl
row_alone (Orn tag off n) f public x h = refl
row_alone (Xorn tag off n) f public x h = refl
