-- One element that is read.
use Rattle.std.proofs.Common.{◌≡◌, ◌∙◌, ℕ, Bool, true, false, cond, List, [], ◌∷◌, ◌++◌, map}
use Rattle.std.proofs.Common.{Option, Some, None, refl, ap, sym, append-nil, inl}
use Rattle.std.specs.Prelude.{◌==◌, ◌&&◌, is_some, nat_lt, slice_get, zero, suc}
use Rattle.std.proofs.lemmas.Bool.{and_from, eq-eqb}
use Rattle.cir_meaning.specs.Places.{is_inside, places_of}
use Rattle.cir_meaning.specs.RunBodies.{or_else}
use Rattle.wit_lower.specs.Homes.{Name, Home, Homes, same_name, find, slots_of}
use Rattle.wit_lower.specs.Sources.{Input, Source, input_of}
use Rattle.wit_lower.specs.Steps.{IsInput}
use Rattle.wit_lower.proofs.Names.{same_name_itself}
use Rattle.cir_arrays.specs.Reached.{places_within}
use Rattle.cir_emit.specs.Reads.{Reading, elements_of, part_of}
use Rattle.wit_sourced.specs.Loads.{source_of}
use Rattle.wit_sourced.specs.Shown.{sought_name}
use Rattle.wit_sourced.specs.declared.sources.Source.{Source as CodeSource}
use Rattle.wit_sources.specs.Given.{Offer, given, within, Seen, Adds, Reads}
use Rattle.wit_sources.proofs.Added.{found_given, input_behind}

module _ (x : Name) (k : ℕ) where
  some_first : (o p : Option Input) → is_some o ≡ true → is_some (or_else o p) ≡ true
  some_first None p e = cc
  some_first (Some i) p e = refl

  some_last : (o : Option Input) (i : Input) → is_some (or_else o (Some i)) ≡ true
  some_last None i = refl
  some_last (Some j) i = refl

  -- a source of the list is found
  pub there : (list : List CodeSource) (n : ℕ) (s : CodeSource) → slice_get list n ≡ Some s
      → same_name x (sought_name s.name) ≡ true → (k == s.element) ≡ true
      → is_some (input_of x (map source_of list) k) ≡ true
  there [] n s e same at = cc
  there (t ∷ list) zero s e same at =
      let is : t ≡ s = cc in
      let both : (same_name x (sought_name t.name) && (k == t.element)) ≡ true =
      ap (λ (r : CodeSource). same_name x (sought_name r.name) && (k == r.element)) is
      ∙ and_from (same_name x (sought_name s.name)) (k == s.element) same at in
      ap (λ b. is_some (or_else (input_of x (map source_of list) k)
      (cond b (Some (source_of t).input) None))) both
      ∙ some_last (input_of x (map source_of list) k) (source_of t).input
  there (t ∷ list) (suc n) s e same at =
      some_first (input_of x (map source_of list) k)
      (cond (same_name x (sought_name t.name) && (k == t.element)) (Some (source_of t).input) None)
      (there list n s e same at)

  abbrev here : Reading
  here = record { name = x; element = k }

  module _ (homes : Homes) (offer : Offer) (one : Seen) where
    -- nothing is given
    pub missing_read : given homes offer x k ≡ None
        → Reads homes offer one record { list = one.list; whole = false } (here ∷ [])
    missing_read none all = record {
      added = [];
      list = sym (append-nil one.list);
      each = tt;
      told = (at (input_of x one.list k) refl, tt);
      whole = λ e. cc;
    }
      where
        at : (o : Option Input) → input_of x one.list k ≡ o
            → input_of x one.list k ≡ given homes offer x k
        at None e = e ∙ sym none
        at (Some i) e =
            let is : None ≡ Some i = sym none ∙ found_given homes offer x k one.list all i e in
            cc

    -- it is there already
    pub there_read : is_some (input_of x one.list k) ≡ true
        → Reads homes offer one one (here ∷ [])
    there_read told all = at (input_of x one.list k) refl told
      where
        at : (o : Option Input) → input_of x one.list k ≡ o → is_some o ≡ true
            → Adds homes offer one one (here ∷ [])
        at None e t = cc
        at (Some i) e t =
            let is : given homes offer x k ≡ Some i =
            found_given homes offer x k one.list all i e in
            record {
              added = [];
              list = sym (append-nil one.list);
              each = tt;
              told = (e ∙ sym is, tt);
              whole = λ w. (w, (ap (λ (p : Option Input). is_some p) is, tt));
            }

    -- a new source
    pub new_read : (input : Input) → given homes offer x k ≡ Some input → IsInput input
        → Reads homes offer one
        record {
          list = one.list ++ record { name = x; element = k; input = input } ∷ [];
          whole = one.whole;
        } (here ∷ [])
    new_read input is number all =
        let s : Source = record { name = x; element = k; input = input } in
        let same : (same_name x x && (k == k)) ≡ true =
        and_from (same_name x x) (k == k) (same_name_itself x) (eq-eqb k k refl) in
        record {
          added = s ∷ [];
          list = refl;
          each = (record { given = is; number = number; among = inl refl }, tt);
          told = (
            input_behind x k one.list (s ∷ [])
                ∙ ap (λ b. or_else (cond b (Some input) None) (input_of x one.list k)) same
                ∙ sym is,
            tt,
          );
          whole = λ w. (w, (ap (λ (p : Option Input). is_some p) is, tt));
        }

  -- what is given of an array with this home
  pub given_inside : (homes : Homes) (offer : Offer) (h : Home) → find x homes ≡ Some h
      → nat_lt k (slots_of h.dims) ≡ true → given homes offer x k ≡ offer x k
  given_inside homes offer h e inside =
      ap (λ o. within o k (offer x k)) e
      ∙ ap (λ (b : Bool). cond b (offer x k) None) inside

  pub given_outside : (homes : Homes) (offer : Offer) (h : Home) → find x homes ≡ Some h
      → nat_lt k (slots_of h.dims) ≡ false → given homes offer x k ≡ None
  given_outside homes offer h e outside =
      ap (λ o. within o k (offer x k)) e
      ∙ ap (λ (b : Bool). cond b (offer x k) None) outside

  pub given_nowhere : (homes : Homes) (offer : Offer) → find x homes ≡ None
      → given homes offer x k ≡ None
  given_nowhere homes offer e = ap (λ o. within o k (offer x k)) e

-- the elements of a part
pub part_is : (x : Name) (h : Home) (indices : List (Option ℕ))
    → elements_of x (places_within h.dims indices) ≡ part_of x (Some h) indices
part_is x h indices = at (is_inside h.dims indices)
  where
    at : (b : Bool) → elements_of x (cond b (places_of h.dims indices) [])
        ≡ cond b (elements_of x (places_of h.dims indices)) []
    at true = refl
    at false = refl
