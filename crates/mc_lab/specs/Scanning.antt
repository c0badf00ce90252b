-- The pass of the laboratory over a deck's text, which keeps of the deck's reader only whether it is in a section.
use Rattle.std.specs.Prelude.{ℕ, Bool, false, List, [], ◌∷◌, ◌++◌}
use Rattle.law_explore.specs.model_text.specs.Text.{fields, lines, with_numbers}
use Rattle.model_events.specs.model_text.specs.Text.{stays_inside}
use Rattle.mc_lab.specs.declared.remark.Mark.{Mark}
use Rattle.mc_lab.specs.Remarks.{Remark, above_after, just, remark_at, text_in}

-- the remarks that the pass finds in lines, the first of which is in a section or not
unfoldable pub scanned_from : Mark → Bool → ℕ × List ℕ → List (ℕ × List ℕ) → List Remark
scanned_from k inside above [] = []
scanned_from k inside above (l ∷ ls) =
    just (remark_at inside (text_in k l.1) l.0 above)
    ++ scanned_from k (stays_inside inside (fields l.1)) (above_after l above) ls

-- the remarks that the pass finds in a text
unfoldable pub scanned : Mark → List ℕ → List Remark
unfolding scanned_from
scanned k text = scanned_from k false (0, []) (with_numbers 1 (lines text))
