-- What an instruction leaves of a chain: its atomic writes, the applications after them, and the frames.
use Rattle.std.proofs.Common.{◌≡◌, ℕ, false, List, [], ◌∷◌, ◌≤◌, length, Option, Some, None, Ok, Err, sym, ap, subst, ◌∙◌, arith}
use Rattle.std.specs.Prelude.{bytes_eq, IsSome}
use Rattle.std.proofs.lemmas.List.{length-map}
use Rattle.std.specs.List.{AllByRecursion}
use Rattle.law_machine.specs.model_device.specs.Orders.{Answer, InOrder}
use Rattle.law_machine.specs.model_card.specs.Items.{Commit}
use Rattle.law_machine.specs.model_device.specs.Pieces.{touched_words, HoldPieces}
use Rattle.law_machine.specs.model_device.specs.Bytes.{lookup}
use Rattle.law_machine.specs.model_device.specs.Card.{App}
use Rattle.law_machine.specs.model_machine.specs.Frame.{Frame, Effect}
use Rattle.law_machine.specs.model_machine.specs.Chain.{Chain, map_changed, write_of, chain_after_effect}
use Rattle.mc_bank.specs.Bank.{app_of, name_or, apps_after_commit, Changes}
use Rattle.mc_segs.specs.HeldFrames.{Held, app_under}
use Rattle.mc_segs.specs.Ends.{IsOneCommit, changed_bytes, scene, EffectDone}
use Rattle.mc_machine.specs.Alike.{SameEffect, KeepsEffect}
use Rattle.mc_machine.specs.Chains.{Chained, ReadAll, RunsAs, ChainWrote}
use Rattle.mc_machine.proofs.Alike.{committed_seen, changed_seen}
use Rattle.mc_machine.proofs.ReadsLemmas.{name_is, app_is, moved_reads}
use Rattle.law_machine.specs.model_device.proofs.MapLemmas.{lookup_inserted_lem, lookup_beside}
use Rattle.mc_bank.proofs.LeftLemmas.{some_name}
use Rattle.mc_bank.specs.declared.bank.Bank.{Ghosts}

-- the properties of a bank that the lemmas use: the effect of a commit on the applications and on the slots
pub record BankLaws {B : Type 0} (ghosts : Ghosts B) : Type 0 where
  pub obeys : (b : B) (n : List ℕ) (ws : List (ℕ × List ℕ)) (a : Answer) (e : B) → ghosts.did b (Commit n ws) a e → Changes (ghosts.state b) (apps_after_commit (ghosts.state b).apps n ws) a (ghosts.state e)
  pub keeps : (b : B) (n : List ℕ) (ws : List (ℕ × List ℕ)) (a : Answer) (e : B) → ghosts.did b (Commit n ws) a e → (k : ℕ) (m : List ℕ) → ghosts.named b k ≡ Some m → ghosts.named e k ≡ Some m

-- ---- atomic writes

module _ {B : Type 0} (ghosts : Ghosts B) where
  none_wrote : (b : B) (a : Answer) (e : B) → InOrder ghosts.did b [] a e → InOrder (ChainWrote ghosts) b [] a e
  none_wrote b (Ok u) e done = done
  none_wrote b (Err s) e done = absurd done

  -- the number of words is that of the words that their pieces touch
  few_touched : (l : List ℕ) (ps ws : List (ℕ × List ℕ)) → HoldPieces l ps ws → length ws ≤ 64 → length (touched_words ps) ≤ 64
  few_touched l ps ws held few = let same = ap (λ (ns : List ℕ). length ns) held.touched_words in omega (arith, length-map ws (λ w. w.0), same, few)

  pub writes_of : (name fixed : List ℕ) (changes : Option (List (ℕ × List ℕ))) (b : B) (a : Answer) (e : B) → fixed ≡ (app_of (ghosts.state b).apps (Some name)).fixed → IsOneCommit ghosts.did name fixed changes b a e
      → InOrder (ChainWrote ghosts) b (write_of name changes) a e
  writes_of name fixed None b a e is done = none_wrote b a e done
  writes_of name fixed (Some ps) b a e is done = grind (arith, subst (λ (l : List ℕ). HoldPieces l ps done.0) is done.1, few_touched fixed ps done.0 done.1 done.3)

-- ---- the bank after a change

module _ {B : Type 0} (ghosts : Ghosts B) (laws : BankLaws ghosts) where
  slots_stay : (name fixed : List ℕ) (changes : Option (List (ℕ × List ℕ))) (b e : B) → IsOneCommit ghosts.did name fixed changes b (Ok tt) e → (k : ℕ) (m : List ℕ) → ghosts.named b k ≡ Some m → ghosts.named e k ≡ Some m
  slots_stay name fixed changes b e done k m is = grind arith

  -- the applications after it
  apps_after : (name fixed : List ℕ) (ps : List (ℕ × List ℕ)) (b e : B) (done : IsOneCommit ghosts.did name fixed (Some ps) b (Ok tt) e) → (ghosts.state e).apps ≡ apps_after_commit (ghosts.state b).apps name done.0
  apps_after name fixed ps b e done = grind arith

  -- other applications do not change
  others_stay : (name fixed : List ℕ) (changes : Option (List (ℕ × List ℕ))) (b e : B) → IsOneCommit ghosts.did name fixed changes b (Ok tt) e → (m : List ℕ) → bytes_eq name m ≡ false → lookup (ghosts.state e).apps m ≡ lookup (ghosts.state b).apps m
  others_stay name fixed changes b e done m other = grind (arith, apps_after, lookup_beside)

  -- the map of the definitions after it, by the static bytes that the application has then
  map_after : (name : List ℕ) (a : App) (changes : Option (List (ℕ × List ℕ))) (b e : B) → lookup (ghosts.state b).apps name ≡ Some a → IsOneCommit ghosts.did name a.fixed changes b (Ok tt) e
      → (app_of (ghosts.state e).apps (Some name)).fixed ≡ changed_bytes a.fixed changes → map_changed (ghosts.state b).apps name changes ≡ (ghosts.state e).apps
  map_after name a changes b e there done bytes = grind (arith, apps_after, lookup_inserted_lem)

  -- the code of an application stays
  pub code_stays : (name fixed : List ℕ) (changes : Option (List (ℕ × List ℕ))) (b e : B) → IsOneCommit ghosts.did name fixed changes b (Ok tt) e → (app_of (ghosts.state e).apps (Some name)).code ≡ (app_of (ghosts.state b).apps (Some name)).code
  code_stays name fixed changes b e done = grind (arith, apps_after, lookup_inserted_lem)

  -- the code under a frame stays, if its slot does
  pub code_under_stays : (fixed : List ℕ) (changes : Option (List (ℕ × List ℕ))) (b e : B) (old h : Held) → IsSome (ghosts.named b old.slot) → h.slot ≡ old.slot → IsOneCommit ghosts.did (name_or (ghosts.named b old.slot)) fixed changes b (Ok tt) e
      → (app_under (ghosts.state e) (ghosts.named e) h).code ≡ (app_under (ghosts.state b) (ghosts.named b) old).code
  code_under_stays fixed changes b e old h there slot done = grind (arith, some_name, slots_stay, code_stays)

  below_stay : (name fixed : List ℕ) (changes : Option (List (ℕ × List ℕ))) (b e : B) → IsOneCommit ghosts.did name fixed changes b (Ok tt) e → (hs : List Held) (fs : List Frame)
      → AllByRecursion (λ (g : Frame). bytes_eq name g.name ≡ false) fs → ReadAll (ghosts.state b) (ghosts.named b) hs fs → ReadAll (ghosts.state e) (ghosts.named e) hs fs
  below_stay name fixed changes b e done [] [] apart reads = tt
  below_stay name fixed changes b e done [] (f ∷ fs) apart reads = absurd reads
  below_stay name fixed changes b e done (h ∷ hs) [] apart reads = absurd reads
  below_stay name fixed changes b e done (h ∷ hs) (f ∷ fs) apart reads =
      grind (arith, moved_reads, slots_stay, name_is, others_stay, below_stay name fixed changes b e done hs fs apart.1 reads.1)

  -- ---- a settled chain

  -- the commit of the changed bytes, for the frame of the definitions
  pub committed_of : (b e : B) (c : Chained) (ch : Chain) (d x : Effect) (a : Answer) → RunsAs (ghosts.state b) (ghosts.named b) c ch → SameEffect (app_under (ghosts.state b) (ghosts.named b) c.running).fixed d x
      → IsOneCommit ghosts.did (name_or (ghosts.named b c.running.slot)) (app_under (ghosts.state b) (ghosts.named b) c.running).fixed d.changes b a e
      → IsOneCommit ghosts.did ch.frame.name (app_under (ghosts.state b) (ghosts.named b) c.running).fixed x.changes b a e
  committed_of b e c ch d x a r same done = grind (arith, committed_seen)

  pub settled_runs : (b e : B) (c : Chained) (ch : Chain) (h : Held) (public : List ℕ) (d x : Effect) → RunsAs (ghosts.state b) (ghosts.named b) c ch → SameEffect (app_under (ghosts.state b) (ghosts.named b) c.running).fixed d x
      → KeepsEffect ch.frame ch.public x → EffectDone ghosts (scene b e c.running h c.public public) d → RunsAs (ghosts.state e) (ghosts.named e) (record c { running = h; public = public }) (chain_after_effect ch x)
  settled_runs b e c ch h public d x r same keeps left =
      let app = app_under (ghosts.state b) (ghosts.named b) c.running in
      let done = committed_of b e c ch d x (Ok tt) r same left.commits in
      let slot : ghosts.named e h.slot ≡ Some ch.frame.name =
      ap (λ (k : ℕ). ghosts.named e k) left.slot ∙ slots_stay ch.frame.name app.fixed x.changes b e done c.running.slot ch.frame.name (name_is (ghosts.state b) (ghosts.named b) c.running ch.frame r.running) in
      let bytes : (app_of (ghosts.state e).apps (Some ch.frame.name)).fixed ≡ changed_bytes app.fixed x.changes =
      ap (λ (o : Option (List ℕ)). (app_of (ghosts.state e).apps o).fixed) (sym slot) ∙ left.bytes ∙ changed_seen app.fixed d.changes x.changes same.changes in
      record {
        map = grind (arith, map_after, app_is);
        running = record { fits = left.fits; same = left.frame ∙ same.frame; guarded = keeps.guarded r.running.guarded };
        below = below_stay ch.frame.name app.fixed x.changes b e done c.below ch.below r.apart.0 r.below;
        public = left.public ∙ same.public;
        case = r.case;
        le = r.le;
        few = r.few;
        apart = (subst (λ (n : List ℕ). AllByRecursion (λ (g : Frame). bytes_eq n g.name ≡ false) ch.below) (sym keeps.app.name) r.apart.0, r.apart.1);
      }
