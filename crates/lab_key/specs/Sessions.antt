-- The values of the keys of session states, and the words that they are read from.
use Rattle.std.specs.Prelude.{◌≡◌, ℕ, List, option_map, None}
use Rattle.law_explore.specs.model_device.specs.Image.{look, Closed}
use Rattle.law_explore.specs.model_device.specs.Layout.{words_fault}
use Rattle.law_explore.specs.model_card.specs.Manager.{Selected, Open, SessionState}
use Rattle.std.specs.declared.boxed.Box.{Box}
use Rattle.std.specs.declared.alloc.Global.{Global}
use Rattle.lab_key.specs.declared.session.SelectedKey.{SelectedKey}
use Rattle.lab_key.specs.declared.session.LoadKey.{LoadKey}
use Rattle.lab_key.specs.declared.session.SessionKey.{SessionKey}

-- words that are a card, with no journal open
pub record IsCard (m : List (List ℕ)) : Type 0 where
  pub closed : look m ≡ Closed
  pub laid : words_fault m ≡ None

-- the selection of a key
abbrev pub selected_value : SelectedKey → Selected
selected_value s = record { name = s.name.items; session = s.bytes.items }

-- the open load of a key
abbrev pub load_value : LoadKey → Open
load_value l =
    record {
      site = record {
        sizes = record { code = l.code_size; fixed = l.fixed_size; init = l.init_size; session = l.session_size; dir = l.dir_size; fci = l.fci_size; deny = l.deny };
        place = l.place;
      };
      got = record { code = l.code.items; init = l.init.items; dir = l.dir.items; fci = l.fci.items };
    }

-- and that on the heap
abbrev pub boxed_value : Box LoadKey Global → Open
boxed_value b = load_value b.value

-- the session state of a key
abbrev pub session_value : SessionKey → SessionState
session_value s = record { selected = option_map selected_value s.selected; load = option_map boxed_value s.load }
