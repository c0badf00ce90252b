-- Lines and items of the code, as values of the definition.
use Rattle.std.specs.Prelude.{ℕ, ◌<◌, List, map, option_map}
use denote.Ref.{Bor}
use Rattle.model_text.specs.model_machine.specs.Code.{Shaped}
use Rattle.model_text.specs.model_machine.specs.declared.instruction.Ins.TheVariants.{Branch}
use Rattle.model_text.specs.Assembly
use Rattle.mc_asm.specs.declared.item.Item.{Item}
use Rattle.mc_asm.specs.declared.line.Line.{Line}
use Rattle.mc_asm.specs.Forms.{by_place}

-- texts, whatever place their bytes are borrowed from
abbrev pub texts : List (Bor (List ℕ)) → List (List ℕ)
texts ts = map (λ t. t.now) ts

-- an item, as the definition's value
abbrev pub item_of : Item → Assembly.CodeItem
item_of Item.Nothing = Assembly.Nothing
item_of (Item.Raw b) = Assembly.Raw b
item_of (Item.Plain i) = Assembly.Plain i
item_of (Item.ToPlace w c l) = Assembly.ToPlace (by_place w c) l.now
item_of (Item.ToDistance c l) = Assembly.ToDistance (Branch c) l.now

-- the fields of an item are in their ranges
abbrev pub Ready : Item → Type 0
Ready Item.Nothing = Unit {0}
Ready (Item.Raw b) = Unit {0}
Ready (Item.Plain i) = Shaped i
Ready (Item.ToPlace w c l) = (0 < c) × (c < 8)
Ready (Item.ToDistance c l) = (0 < c) × (c < 8)

-- a line, as the definition's value
abbrev pub line_of : Line → Assembly.Line
line_of l = record { label = option_map (λ t. t.now) l.label; item = item_of l.item }
