-- A slot as one number: the place by which a bank knows an application, and the application's sizes.
use Rattle.std.specs.Prelude.{ℕ, zero, suc, ◌+◌, ◌*◌, ◌/◌, ◌%◌, ◌<◌, Bool, cond, List, [], ◌∷◌, bytes_eq, Option, Some, None}
use Rattle.model_card.specs.declared.card.Sizes.{Sizes}
use Rattle.model_card.specs.model_device.specs.Card.{App}
use Rattle.mc_bank.specs.Bank.{app_of, sizes_of}

-- a place and sizes, each below 65,536, as the digits of one number
abbrev pub slot_number : ℕ → Sizes → ℕ
slot_number place s =
    place + 65536 * (s.code + 65536 * (s.fixed + 65536 * (s.init + 65536 * (s.session + 65536 * (s.dir + 65536 * (s.fci + 65536 * s.deny))))))

-- a digit of a number, the last one first
abbrev pub digit : ℕ → ℕ → ℕ
digit zero n = n % 65536
digit (suc i) n = digit i (n / 65536)

-- the place of a slot
abbrev pub slot_place : ℕ → ℕ
slot_place k = digit 0 k

-- the sizes of a slot
abbrev pub slot_sizes : ℕ → Sizes
slot_sizes k =
    record {
      code = digit 1 k;
      fixed = digit 2 k;
      init = digit 3 k;
      session = digit 4 k;
      dir = digit 5 k;
      fci = digit 6 k;
      deny = digit 7 k;
    }

-- a place and sizes that are digits
pub record AreDigits (index : ℕ) (s : Sizes) : Type 0 where
  pub place : index < 65536
  pub code : s.code < 65536
  pub fixed : s.fixed < 65536
  pub init : s.init < 65536
  pub session : s.session < 65536
  pub dir : s.dir < 65536
  pub fci : s.fci < 65536
  pub deny : s.deny < 65536

-- sizes as a list
abbrev pub list_of_sizes : Sizes → List ℕ
list_of_sizes s = s.code ∷ s.fixed ∷ s.init ∷ s.session ∷ s.dir ∷ s.fci ∷ s.deny ∷ []

-- whether two sizes are equal
abbrev pub same_sizes : Sizes → Sizes → Bool
same_sizes a b = bytes_eq (list_of_sizes a) (list_of_sizes b)

-- the name at the place of a slot, if the application of that name has the slot's sizes
abbrev pub name_of_slot : List (List ℕ × App) → ℕ → Option (List ℕ) → Option (List ℕ)
name_of_slot apps k None = None
name_of_slot apps k (Some n) = cond (same_sizes (slot_sizes k) (sizes_of (app_of apps (Some n)))) (Some n) None
