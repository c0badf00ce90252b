-- The used blocks of a card by their names, and the fields of their records.
use Rattle.std.specs.Prelude.{◌≡◌, ℕ, ◌+◌, ◌≤◌, true, cond, ◌&&◌, List, [], ◌∷◌, length, slice_index, bytes_eq, Option, Some, None}
use Rattle.std.specs.List.{concat}
use Rattle.mc_bank.specs.model_card.specs.declared.card.Part.{Part}
use Rattle.mc_bank.specs.model_card.specs.declared.card.Part.TheVariants.{Code, Data, Dir, Fci}
use Rattle.mc_bank.specs.model_card.specs.declared.card.Sizes.{Sizes}
use Rattle.mc_words.specs.model_device.specs.Bytes.{be2}
use Rattle.mc_words.specs.model_device.specs.Card.{App, Block, record_at, name_at}
use Rattle.mc_words.specs.model_device.specs.Layout.{is_record}

-- the place of the first used block with a name
unfoldable pub first_named : List (List ℕ) → List Block → List ℕ → Option ℕ
first_named m [] n = None
first_named m (b ∷ bs) n = cond (b.used && bytes_eq (name_at m b.place) n) (Some b.place) (first_named m bs n)

-- the sizes in a record; the data are the whole static segment
abbrev pub record_sizes : List ℕ → Sizes
record_sizes r =
    record {
      code = be2 r 20;
      fixed = be2 r 22;
      init = be2 r 22;
      session = be2 r 24;
      dir = slice_index r 17;
      fci = slice_index r 18;
      deny = be2 r 26;
    }

-- a used block with a valid record that ends within the device
pub record IsUsedBlock (m : List (List ℕ)) (p : ℕ) : Type 0 where
  pub words : ℕ
  pub good : is_record (record_at m p) words ≡ true
  pub end : p + words ≤ length m

-- all bytes of the words, joined
abbrev pub flat : List (List ℕ) → List ℕ
flat m = concat m

-- the bytes of a section of an application
abbrev pub part_of_app : Part → App → List ℕ
part_of_app Code a = a.code
part_of_app Data a = a.fixed
part_of_app Dir a = a.dir
part_of_app Fci a = a.fci
