-- What was found for a whole task.
use Rattle.std.proofs.Common.{◌≡◌, ◌∙◌, ℕ, ◌<◌, Bool, true, false, cond, List, [], ◌∷◌, Option}
use Rattle.std.proofs.Common.{Some, None, refl, ap, sym, subst, inl, inr}
use Rattle.std.specs.Prelude.{is_some, nat_lt}
use Rattle.std.specs.List.{AllByRecursion}
use Rattle.std.proofs.lemmas.Bool.{ltb-true, lt-ltb}
use Rattle.cir_meaning.specs.Costs.{Made}
use Rattle.wit_lower.specs.Homes.{Name, Home, Homes, find, slots_of}
use Rattle.wit_lower.specs.Known as K
use Rattle.wit_lower.specs.Sources as R
use Rattle.wit_lower.specs.Steps.{SourcesFit}
use Rattle.wit_lower.specs.Tasks as T
use Rattle.cir_emit.specs.Lowered.{IsLoaded}
use Rattle.cir_emit.specs.Reads as E
use Rattle.cir_emit.specs.Sourced.{IsAmong, StandsFor}
use Rattle.cir_emit.proofs.Lists.{all_of, all_weaker}
use Rattle.wit_sourced.specs.Loaded.{Calls}
use Rattle.wit_statements.specs.Asked.{asked_by}
use Rattle.wit_sources.specs.Given.{Offer, within, given, IsRead, IsTold, IsHad, Seen, Adds}
use Rattle.wit_sources.specs.Collected.{homes_of}
use Rattle.wit_sources.specs.Told.{reads_of, HasOffered}
use Rattle.wit_sources.proofs.AlikeTasks.{task_same}
use Rattle.wit_sources.proofs.Element.{given_inside}

-- the readings over the values that calls have
pub reads_are : (shapes : List R.Shape) (components : ℕ → List ℕ) (changed : List ℕ)
    (known called : Calls) (keys : List Made) (list : List R.Source) (task : T.Task)
    → changed ≡ T.changed_by task
    → AllByRecursion (λ c. known c ≡ called c) (asked_by task)
    → E.task_reads record {
      keys = [];
      known = K.number_known record {
        shapes = shapes;
        components = components;
        called = known;
        list = list;
      } changed;
      called = known;
      components = components;
    } (homes_of shapes) task
    ≡ reads_of keys
    record { shapes = shapes; components = components; called = called; list = list } task
reads_are shapes components changed known called keys list task e agree =
    task_same shapes components changed [] keys known called list list task agree
    (all_of (λ (r : E.Reading).
    R.input_of r.name list r.element ≡ R.input_of r.name list r.element)
    (E.task_reads record {
      keys = [];
      known = K.number_known record {
        shapes = shapes;
        components = components;
        called = known;
        list = list;
      } changed;
      called = known;
      components = components;
    } (homes_of shapes) task) (λ r. refl))
    ∙ ap (λ ch. E.task_reads record {
      keys = keys;
      known = K.number_known record {
        shapes = shapes;
        components = components;
        called = called;
        list = list;
      } ch;
      called = called;
      components = components;
    } (homes_of shapes) task) e

all_among : (P : E.Reading → Type 0) (r : E.Reading) (reads : List E.Reading)
    → AllByRecursion P reads → IsAmong r reads → P r
all_among P r [] h i = absurd i
all_among P r (q ∷ reads) h (inl e) = subst P e h.0
all_among P r (q ∷ reads) h (inr i) = all_among P r reads h.1 i

-- what is given is offered, for an element of an array with a home
record GivenAt (homes : Homes) (offer : Offer) (x : Name) (k : ℕ) (i : R.Input) : Type 0 where
  pub home : Home
  pub found : find x homes ≡ Some home
  pub inside : k < slots_of home.dims
  pub offered : offer x k ≡ Some i

given_at : (homes : Homes) (offer : Offer) (x : Name) (k : ℕ) (i : R.Input)
    → given homes offer x k ≡ Some i → GivenAt homes offer x k i
given_at homes offer x k i e = at (find x homes) refl e
  where
    inside : (h : Home) (b : Bool) → find x homes ≡ Some h → nat_lt k (slots_of h.dims) ≡ b
        → cond b (offer x k) None ≡ Some i → GivenAt homes offer x k i
    inside h false eh eb e = cc
    inside h true eh eb e =
        record { home = h; found = eh; inside = ltb-true k (slots_of h.dims) eb; offered = e }

    at : (o : Option Home) → find x homes ≡ o → within o k (offer x k) ≡ Some i
        → GivenAt homes offer x k i
    at None eh e = cc
    at (Some h) eh e = inside h (nat_lt k (slots_of h.dims)) eh refl e

abbrev pub nothing : Seen
nothing = record { list = []; whole = true }

module _ (homes : Homes) (offer : Offer) (two : Seen) (reads : List E.Reading)
    (a : Adds homes offer nothing two reads) where
  pub few_of : AllByRecursion (StandsFor two.list reads) two.list
  few_of =
      subst (AllByRecursion (StandsFor two.list reads)) (sym a.list)
      (all_weaker (IsRead homes offer reads) (StandsFor two.list reads) a.added (λ x r. record {
        among = r.among;
        last = all_among (IsTold homes offer two.list)
            record { name = x.name; element = x.element } reads a.told r.among ∙ r.given;
      }) a.each)

  pub offered_of : AllByRecursion (λ (x : R.Source). offer x.name x.element ≡ Some x.input) two.list
  offered_of =
      subst (AllByRecursion (λ (x : R.Source). offer x.name x.element ≡ Some x.input)) (sym a.list)
      (all_weaker (IsRead homes offer reads)
      (λ (x : R.Source). offer x.name x.element ≡ Some x.input) a.added
      (λ x r. (given_at homes offer x.name x.element x.input r.given).offered) a.each)

  each_fits : (xs : List R.Source) → AllByRecursion (IsRead homes offer reads) xs
      → SourcesFit homes xs
  each_fits [] all = tt
  each_fits (x ∷ xs) all =
      let at = given_at homes offer x.name x.element x.input all.0.given in (
        record { home = at.home; found = at.found; within = at.inside; number = all.0.number },
        each_fits xs all.1,
      )

  pub fit_of : SourcesFit homes two.list
  fit_of = subst (SourcesFit homes) (sym a.list) (each_fits a.added a.each)

  pub whole_of : (sources : R.Sources) → sources.list ≡ two.list → two.whole ≡ true
      → AllByRecursion (IsLoaded sources) reads
  whole_of sources same w = zipped reads a.told (a.whole w).1
    where
      at : (r : E.Reading) (o : Option R.Input) → given homes offer r.name r.element ≡ o
          → IsTold homes offer two.list r → is_some o ≡ true → IsLoaded sources r
      at r None e told had = cc
      at r (Some i) e told had = record {
        input = i;
        there = ap (λ list. R.input_of r.name list r.element) same ∙ told ∙ e;
      }

      zipped : (rs : List E.Reading) → AllByRecursion (IsTold homes offer two.list) rs
          → AllByRecursion (IsHad homes offer) rs → AllByRecursion (IsLoaded sources) rs
      zipped [] told had = tt
      zipped (r ∷ rs) told had = (
        at r (given homes offer r.name r.element) refl told.0 had.0,
        zipped rs told.1 had.1,
      )

pub loaded_of : (sources : R.Sources) (offer : Offer) (two : Seen) (reads : List E.Reading)
    → sources.list ≡ two.list → Adds (homes_of sources.shapes) offer nothing two reads
    → AllByRecursion (HasOffered offer sources) reads
loaded_of sources offer two reads same a =
    let homes = homes_of sources.shapes in
    all_weaker (IsTold homes offer two.list) (HasOffered offer sources) reads
    (λ r told h i found inside offered.
    ap (λ list. R.input_of r.name list r.element) same ∙ told
    ∙ given_inside r.name r.element homes offer h found
    (lt-ltb r.element (slots_of h.dims) inside) ∙ offered) a.told
