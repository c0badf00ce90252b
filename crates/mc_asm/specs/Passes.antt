-- The two passes over a text: the places of its labels, and its code under these places.
use Rattle.std.specs.Prelude.{◌≡◌, ℕ, ℤ, ◌+◌, cond, nat_le, List, [], ◌∷◌, ◌++◌, map, Option, Some, None, Result, Ok}
use Rattle.std.specs.Ordering.{nat_cmp}
use Rattle.std.specs.Cmp.Lexicographic.{slice_cmp}
use Rattle.std.specs.BTreeMap
use Rattle.std.specs.BTreeMap.{BTreeMap}
use denote.Ref.{Bor}
use Rattle.model_text.specs.model_device.specs.Limits.{most_code}
use Rattle.model_text.specs.model_device.specs.Bytes.{lookup}
use Rattle.model_text.specs.Text.{◌>>=◌, ok_as, err_as, only_if}
use Rattle.model_text.specs.declared.assembler.AsmCause.{AsmCause}
use Rattle.model_text.specs.declared.assembler.AsmCause.TheVariants.{TooLong}
use Rattle.model_text.specs.Assembly.{CodeItem, with_label, line_read, line_laid, size, bytes_of_item, fits_signed}
use Rattle.mc_asm.specs.declared.line.NumberedLine.{NumberedLine}
pub use Rattle.mc_asm.specs.Refusals.{AssemblyRefuses}

-- the map m has the place of each label
abbrev pub AreLabels : BTreeMap (Bor (List ℕ)) ℕ → List (List ℕ × ℕ) → Type 0
AreLabels m l = (q : Bor (List ℕ)) → BTreeMap.get (λ x y. slice_cmp nat_cmp x.now y.now) m q ≡ lookup l q.now

-- the place after an item, `TooLong` if it is past the limit of code
abbrev pub end_of : CodeItem → ℕ → Result ℕ AsmCause
end_of i place = only_if (nat_le (place + size i) most_code) TooLong (place + size i)

-- a line's label, and the place after the line
abbrev pub label_and_end : List (List ℕ × ℕ) → ℕ → List ℕ → Result (Option (List ℕ) × ℕ) AsmCause
label_and_end labels place text = ok_as (λ l. (l.label, place + size l.item)) (line_laid labels place text)

-- the labels with those of lines added, from a place on
unfoldable pub places : List (List ℕ × ℕ) → ℕ → List (ℕ × List ℕ) → Result (List (List ℕ × ℕ)) (ℕ × AsmCause)
places labels place [] = Ok labels
places labels place (t ∷ ts) = do
  p ← err_as (λ c. (t.0, c)) (label_and_end labels place t.1)
  places (with_label labels p.0 place) p.1 ts

-- the code of a line with these labels, and the place after the line
abbrev pub code_and_end : List (List ℕ × ℕ) → ℕ → List ℕ → Result (List ℕ × ℕ) AsmCause
code_and_end labels place text = do
  l ← line_read text
  end ← end_of l.item place
  ok_as (λ bytes. (bytes, end)) (bytes_of_item labels place l.item)

-- the code of lines with these labels, from a place on
unfoldable pub code_of_lines : List (List ℕ × ℕ) → ℕ → List (ℕ × List ℕ) → Result (List ℕ) (ℕ × AsmCause)
code_of_lines labels place [] = Ok []
code_of_lines labels place (t ∷ ts) = do
  p ← err_as (λ c. (t.0, c)) (code_and_end labels place t.1)
  ok_as (λ rest. p.0 ++ rest) (code_of_lines labels p.1 ts)

-- a distance, if it is in the range of a branch
abbrev pub near : ℤ → Option ℤ
near d = cond (fits_signed 128 d) (Some d) None

-- lines with their numbers, whatever place their bytes are borrowed from
abbrev pub numbered_lines : List NumberedLine → List (ℕ × List ℕ)
numbered_lines ls = map (λ l. (l.number, l.text.now)) ls
