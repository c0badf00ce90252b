-- The tables of the search: what stays true of them when facts come in, when a fact was followed, and when a routine
-- gets its counts.
use Rattle.std.proofs.Common.{◌≡◌, ◌⊎◌, ◌<◌, ℕ, List, [], ◌∷◌, ◌++◌, length, set, slice_get, Option, Some, None, refl, sym, ap, ◌∙◌, subst, inl, inr, arith, length-set, length-append}
use Rattle.std.proofs.lemmas.Bool.{cases_eq}
use Rattle.law_family.specs.model_machine.specs.declared.instruction.Ins.{Ins}
use Rattle.model_stack.specs.StackRows.{counts}
use Rattle.model_stack.specs.StackShape.{Routine, Main, At, Fact, fact, Stands, look, Reached}
use Rattle.mc_check.specs.declared.table.Entry.{Entry}
use Rattle.mc_check.specs.declared.shape.Counts.{Counts as Pair}
use Rattle.mc_check.specs.Table.{fact_of, IsIn, IsGoodFact, IsSoundTable}
use Rattle.mc_check.specs.Closing.{Tables, IsAmong, IsReal, IsFit, HasSuccessors, ComesBack, ComesBackFrom, HasCounts, IsFollowed, IsClosed, ClosedOrWaiting, AddsFacts}
use Rattle.mc_check.proofs.ListPlaces.{get_set_same, get_set_other}
use Rattle.mc_check.proofs.ClosingLists.{among_more, among_last, among_taken, free_written, in_alike, in_written_before, in_written}
use Rattle.mc_check.proofs.ClosingPlaces.{return_ends}

-- ---- facts that come in

pub adds_none : (s : Tables) → AddsFacts s s
adds_none s = record { kept = λ f m. m; counts = refl; waiting = λ p m. m; fresh = λ f m. inl m; left = omega arith }

pub adds_then : (a b c : Tables) → AddsFacts a b → AddsFacts b c → AddsFacts a c
adds_then a b c first second = grind arith

-- the tables with one more fact, which waits
abbrev pub put : Tables → ℕ → Entry → Tables
put s place e = record { table = set s.table place (Some e); counts = s.counts; work = s.work ++ place ∷ [] }

module _ (code : List ℕ) (s : Tables) (place : ℕ) (e : Entry) (free_there : slice_get s.table place ≡ Some None) (inside : place < length code) (fit : IsFit code s) where
  in_table : place < length s.table
  in_table = omega (arith, fit.size)

  pub adds_put : AddsFacts s (put s place e)
  adds_put = record {
    kept = in_written_before s.table place e free_there in_table;
    counts = refl;
    waiting = λ p m. among_more s.work place p m;
    fresh = λ f m. elim (in_written s.table place e free_there in_table f m) [
      | inl same ↦ inr (subst (λ (p : ℕ). IsAmong (s.work ++ place ∷ []) p) (sym (ap (λ (g : Fact). g.place) same)) (among_last s.work place))
      | inr before ↦ inl before
    ];
    left = omega (arith, free_written s.table place e free_there, length-append s.work (place ∷ []));
  }

  put_sound : Reached code (fact_of place e) → IsGoodFact code (fact_of place e) → IsSoundTable code (set s.table place (Some e))
  put_sound reached good f m =
      elim (in_written s.table place e free_there in_table f m) [
        | inl same ↦ subst (λ (g : Fact). Reached code g × IsGoodFact code g) (sym same) (reached, good)
        | inr before ↦ fit.sound f before
      ]

  put_places : (p : ℕ) → IsAmong (s.work ++ place ∷ []) p → p < length code
  put_places p m = grind (arith, among_taken)

  pub put_fits : Reached code (fact_of place e) → IsGoodFact code (fact_of place e) → IsFit code (put s place e)
  put_fits reached good = record {
    size = length-set s.table place (Some e) ∙ fit.size;
    counts_size = fit.counts_size;
    sound = put_sound reached good;
    real = fit.real;
    places = put_places;
  }

-- ---- what follows from a fact, in more tables

leads_more : (t t' : List (Option Entry)) (f : Fact) (i : Ins) (next : ℕ) → ((g : Fact) → IsIn t g → IsIn t' g) → HasSuccessors t f i next → HasSuccessors t' f i next
leads_more t t' f i next more leads = record {
  goes = λ plain on. more (fact f.routine next _) (leads.goes plain on);
  jumps = λ to e. more (fact f.routine to f.height) (leads.jumps to e);
  calls = λ q e. more (fact (At q) q 0) (leads.calls q e);
  passes = λ q e c. more (fact f.routine next f.height) (leads.passes q e c);
}

comes_more : (t t' : List (Option Entry)) (f : Fact) (next less more : ℕ) → ((g : Fact) → IsIn t g → IsIn t' g) → ComesBack t f next less more → ComesBack t' f next less more
comes_more t t' f next less more kept comes = record { enough = comes.enough; back = λ low. kept (fact f.routine next _) (comes.back low) }

pub comes_kept : (old new : Tables) (f : Fact) (next less more : ℕ) → AddsFacts old new → ComesBack old.table f next less more → ComesBack new.table f next less more
comes_kept old new f next less more adds comes = comes_more old.table new.table f next less more adds.kept comes

followed_kept : (old new : Tables) (f : Fact) (i : Ins) (next : ℕ) → AddsFacts old new → IsFollowed old.table old.counts f i next → IsFollowed new.table new.counts f i next
followed_kept old new f i next adds followed = record {
  leads = λ low. leads_more old.table new.table f i next adds.kept (followed.leads low);
  back = λ routine c call known. comes_more old.table new.table f next c.less c.more adds.kept (followed.back routine c call (sym (ap (λ (cs : List (Option Pair)). slice_get cs routine) adds.counts) ∙ known));
  counted = λ less more e. subst (λ (cs : List (Option Pair)). HasCounts cs f.routine less more) (sym adds.counts) (followed.counted less more e);
}

closed_kept : (code : List ℕ) (old new : Tables) (f : Fact) → AddsFacts old new → IsClosed code old.table old.counts f → IsClosed code new.table new.counts f
closed_kept code old new f adds closed i next h = followed_kept old new f i next adds (closed i next h)

pub closed_from : (code : List ℕ) (t : List (Option Entry)) (cs : List (Option Pair)) (f : Fact) (i : Ins) (next : ℕ) → look code f ≡ Stands i next → IsFollowed t cs f i next → IsClosed code t cs f
closed_from code t cs f i next h followed i' next' h' = grind arith

-- ---- a fact that was followed

-- the fact at the place was followed, and others may have come in
pub open_followed : (code : List ℕ) (place : ℕ) (old new : Tables) (f : Fact) → ClosedOrWaiting code (place ∷ old.work) old → AddsFacts old new → IsFit code new
    → IsIn old.table f → place ≡ f.place → IsClosed code new.table new.counts f → ClosedOrWaiting code new.work new
open_followed code place old new f state adds fit here at closed = grind (arith, closed_kept, in_alike)

-- ---- the next place

-- the tables without the last place that waits
abbrev pub without : Tables → List ℕ → Tables
without s work = record { table = s.table; counts = s.counts; work = work }

pub open_taken : (code : List ℕ) (s : Tables) (work : List ℕ) (place : ℕ) → s.work ≡ work ++ place ∷ [] → ClosedOrWaiting code s.work s → ClosedOrWaiting code (place ∷ work) (without s work)
open_taken code s work place taken state = record {
  fit = record {
    size = state.fit.size;
    counts_size = state.fit.counts_size;
    sound = state.fit.sound;
    real = state.fit.real;
    places = λ p m. state.fit.places p (subst (λ (w : List ℕ). IsAmong w p) (sym taken) (among_more work place p m));
  };
  first = state.first;
  closed = λ g m. elim (state.closed g m) [
    | inl done ↦ inl done
    | inr waits ↦ inr (among_taken work place g.place (subst (λ (w : List ℕ). IsAmong w g.place) taken waits))
  ];
}

pub taken_inside : (code : List ℕ) (s : Tables) (work : List ℕ) (place : ℕ) → s.work ≡ work ++ place ∷ [] → IsFit code s → place < length code
taken_inside code s work place taken fit = fit.places place (subst (λ (w : List ℕ). IsAmong w place) (sym taken) (among_last work place))

-- ---- counts of a routine

-- the tables with the counts of a routine
abbrev pub counted : Tables → ℕ → Pair → Tables
counted s q c = record { table = s.table; counts = set s.counts q (Some c); work = s.work }

-- the counts of a pair
abbrev pair : ℕ × ℕ → Pair
pair p = record { less = p.0; more = p.1 }

some_same : (p q : ℕ × ℕ) → ◌≡◌ {A = Option (ℕ × ℕ)} (Some p) (Some q) → p ≡ q
some_same p q h = cc

has_pair : (cs : List (Option Pair)) (q : ℕ) (c : Pair) (less more : ℕ) → slice_get cs q ≡ Some (Some c) → ◌≡◌ {A = ℕ × ℕ} (c.less, c.more) (less, more) → HasCounts cs (At q) less more
has_pair cs q c less more there e = there ∙ ap (λ (p : ℕ × ℕ). Some (Some (pair p))) e

-- a return whose counts are in the tables
pub closed_return : (code : List ℕ) (t : List (Option Entry)) (cs : List (Option Pair)) (f : Fact) (i : Ins) (next q : ℕ) (c : Pair) → f.routine ≡ At q → look code f ≡ Stands i next
    → counts i ≡ Some (c.less, c.more) → slice_get cs q ≡ Some (Some c) → IsClosed code t cs f
closed_return code t cs f i next q c at h e there = grind (arith, return_ends, closed_from, has_pair, some_same)

module _ (code : List ℕ) (s : Tables) (q : ℕ) (c : Pair) (free_there : slice_get s.counts q ≡ Some None) (inside : q < length code) (real : IsReal code q c) (fit : IsFit code s) where
  counts_there : slice_get (counted s q c).counts q ≡ Some (Some c)
  counts_there = get_set_same s.counts q (Some c) (omega (arith, fit.counts_size))

  counts_beside : (r : ℕ) → (r ≡ q → ⊥) → slice_get (counted s q c).counts r ≡ slice_get s.counts r
  counts_beside r beside = get_set_other s.counts q r (Some c) beside

  -- the counts of a routine are the new ones, or those from before
  counts_known : (r : ℕ) (d : Pair) → slice_get (counted s q c).counts r ≡ Some (Some d) → ((r ≡ q) × (c ≡ d)) ⊎ (slice_get s.counts r ≡ Some (Some d))
  counts_known r d h = grind (arith, cases_eq, counts_there, counts_beside)

  counts_before : (r : Routine) (less more : ℕ) → HasCounts s.counts r less more → HasCounts (counted s q c).counts r less more
  counts_before r less more h = grind (arith, cases_eq, counts_beside)

  pub counted_fits : IsFit code (counted s q c)
  counted_fits = record {
    size = fit.size;
    counts_size = length-set s.counts q (Some c) ∙ fit.counts_size;
    sound = fit.sound;
    real = λ r d h. elim (counts_known r d h) [
      | inl this ↦ subst (λ (x : ℕ). IsReal code x d) (sym this.0) (subst (λ (x : Pair). IsReal code q x) this.1 real)
      | inr before ↦ fit.real r d before
    ];
    places = fit.places;
  }

  closed_counted : (f : Fact) → ComesBackFrom code s.table q c f → IsClosed code s.table s.counts f → IsClosed code s.table (counted s q c).counts f
  closed_counted f comes closed i next h =
      let followed = closed i next h in
      record {
        leads = followed.leads;
        back = λ r d call known. elim (counts_known r d known) [
          | inl this ↦ subst (λ (x : Pair). ComesBack s.table f next x.less x.more) this.1 (comes i next h (call ∙ ap Some this.0))
          | inr before ↦ followed.back r d call before
        ];
        counted = λ less more e. counts_before f.routine less more (followed.counted less more e);
      }

-- a return sets the counts of its routine, and each CALL of it in the tables has been followed
pub open_counted : (code : List ℕ) (place : ℕ) (old s : Tables) (f : Fact) (i : Ins) (next q : ℕ) (c : Pair) → ClosedOrWaiting code (place ∷ old.work) old → AddsFacts old s → IsFit code s
    → slice_get old.counts q ≡ Some None → q < length code → IsReal code q c
    → ((g : Fact) → IsIn s.table g → ComesBackFrom code s.table q c g ⊎ IsAmong s.work g.place)
    → IsIn old.table f → place ≡ f.place → f.routine ≡ At q → look code f ≡ Stands i next → counts i ≡ Some (c.less, c.more) → ClosedOrWaiting code s.work (counted s q c)
open_counted code place old s f i next q c state adds fit none inside real comes here at routine h e =
    let free_there : slice_get s.counts q ≡ Some None = ap (λ (cs : List (Option Pair)). slice_get cs q) adds.counts ∙ none in
    record {
      fit = counted_fits code s q c free_there inside real fit;
      first = adds.kept (fact Main 0 0) state.first;
      closed = λ g m. elim (adds.fresh g m) [
        | inl before ↦ elim (state.closed g before) [
          | inl done ↦ elim (comes g m) [
            | inl back ↦ inl (closed_counted code s q c free_there inside real fit g back (closed_kept code old s g adds done))
            | inr waits ↦ inr waits
          ]
          | inr waits ↦ elim waits [
            | inl same ↦ inl (subst (λ (x : Fact). IsClosed code s.table (counted s q c).counts x) (in_alike old.table f g here before (sym at ∙ same)) (closed_return code s.table (counted s q c).counts f i next q c routine h e (counts_there code s q c free_there inside real fit)))
            | inr rest ↦ inr (adds.waiting g.place rest)
          ]
        ]
        | inr waits ↦ inr waits
      ];
    }
