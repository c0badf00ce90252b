-- Places in the code's type as places in the definition's type.
use Rattle.std.specs.Prelude.{ℕ, ◌+◌, Bool, List, length, nat_le}
use Rattle.mc_apdu.specs.model_machine.specs.Frame.{Frame, Place}
use Rattle.mc_apdu.specs.model_machine.specs.Frame as model
use Rattle.mc_segs.specs.declared.access.Place.{Place as CodePlace}
use Rattle.mc_segs.specs.declared.access.Place.TheVariants as place

-- a place in the definition's type
abbrev pub place_value : CodePlace → Place
place_value (place.Static i) = model.Static i
place_value (place.Dynamic i) = model.Dynamic i
place_value (place.Public i) = model.Public i

-- the number of bytes of the segment that a place lies in; the dynamic segment is whole, whatever DT is
abbrev pub segment_size : Frame → List ℕ → CodePlace → ℕ
segment_size f public (place.Static i) = length f.fixed
segment_size f public (place.Dynamic i) = length f.dyn
segment_size f public (place.Public i) = length public

-- the offset of a place in its segment
abbrev pub offset_of : CodePlace → ℕ
offset_of (place.Static i) = i
offset_of (place.Dynamic i) = i
offset_of (place.Public i) = i

-- whether n bytes at a place lie whole in its segment
abbrev pub lies_in_segment : Frame → List ℕ → CodePlace → ℕ → Bool
lies_in_segment f public p n = nat_le (offset_of p + n) (segment_size f public p)
