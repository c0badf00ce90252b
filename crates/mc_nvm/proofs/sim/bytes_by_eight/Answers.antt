use Rattle.std.proofs.Common.{ℕ, zero, suc, List, [], ◌∷◌, ◌++◌, slice_index_or, subst}
use Rattle.std.specs.List.{flat_map}
use Rattle.mc_words.specs.model_device.specs.Bytes.{AreBytes}
use Rattle.mc_nvm.proofs.sim.bytes_by_eight.Goals as goal

front : (a b : List ℕ) → AreBytes (a ++ b) → AreBytes a
front [] b h = tt
front (x ∷ a) b h = (h.0, front a b h.1)

back : (a b : List ℕ) → AreBytes (a ++ b) → AreBytes b
back [] b h = h
back (x ∷ a) b h = back a b h.1

-- the bytes of a word are among the bytes of all words
each : (words : List (List ℕ)) (i : ℕ) → AreBytes (flat_map (λ x. x) words) → AreBytes (slice_index_or words i [])
each [] i h = tt
each (w ∷ ws) zero h = front w (flat_map (λ x. x) ws) h
each (w ∷ ws) (suc i) h = each ws i (back w (flat_map (λ x. x) ws) h)

pub returns-clause-bytes : goal.returns-clause-bytes
returns-clause-bytes c = λ i. each c.args.words.now i (subst AreBytes c.as_flattened.ensures.value c.each_byte.ensures)
