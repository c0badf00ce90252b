-- From code to its listing and back.
use Rattle.std.specs.Prelude.{◌≡◌, ℕ, ◌<◌, ◌≤◌, List, length, Ok}
use Rattle.std.specs.List.{AllByRecursion}
use Rattle.model_text.specs.model_device.specs.Limits.{most_code}
use Rattle.model_text.specs.Assembly.{assembly_of}
use Rattle.model_text.specs.Listing.{listing_of_code}

-- for each code that has a listing, the listing assembles to it
abbrev pub ListedIsAssembled : Type 0
ListedIsAssembled = (code text : List ℕ) → AllByRecursion (λ b. b < 256) code → length code ≤ most_code → listing_of_code code ≡ Ok text → assembly_of text ≡ Ok code
