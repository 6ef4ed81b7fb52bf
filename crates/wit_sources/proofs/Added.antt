-- Readings that are read one behind the other.
use Rattle.std.proofs.Common.{◌≡◌, ◌∙◌, ℕ, Bool, true, false, cond, List, [], ◌∷◌, ◌++◌, Option}
use Rattle.std.proofs.Common.{Some, None, refl, ap, sym, subst, append-nil, append_assoc, inl, inr}
use Rattle.std.specs.Prelude.{◌==◌, ◌&&◌}
use Rattle.std.specs.List.{AllByRecursion}
use Rattle.std.proofs.lemmas.Bool.{and_parts, eqb-true}
use Rattle.cir_meaning.specs.RunBodies.{or_else}
use Rattle.wit_lower.specs.Homes.{Name, Homes, same_name}
use Rattle.wit_lower.specs.Sources.{Input, Source, input_of}
use Rattle.wit_lower.proofs.Names.{same_name_is}
use Rattle.cir_emit.specs.Reads.{Reading}
use Rattle.cir_emit.specs.Sourced.{IsAmong}
use Rattle.cir_emit.proofs.Lists.{all_weaker}
use Rattle.wit_sources.specs.Given.{Offer, given, IsGiven, IsRead, IsTold, IsHad, Seen, Adds}

-- ---- the input of an element in a longer list
or_none : (o : Option Input) → or_else o None ≡ o
or_none None = refl
or_none (Some i) = refl

or_twice : (a b c : Option Input) → or_else (or_else a b) c ≡ or_else a (or_else b c)
or_twice None b c = refl
or_twice (Some i) b c = refl

pub input_behind : (x : Name) (k : ℕ) (xs ys : List Source)
    → input_of x (xs ++ ys) k ≡ or_else (input_of x ys k) (input_of x xs k)
input_behind x k [] ys = sym (or_none (input_of x ys k))
input_behind x k (s ∷ xs) ys =
    let here : Option Input = cond (same_name x s.name && (k == s.element)) (Some s.input) None in
    ap (λ o. or_else o here) (input_behind x k xs ys)
    ∙ or_twice (input_of x ys k) (input_of x xs k) here

all_joined : {A : Type 0} (P : A → Type 0) (xs ys : List A) → AllByRecursion P xs
    → AllByRecursion P ys → AllByRecursion P (xs ++ ys)
all_joined P [] ys a b = b
all_joined P (x ∷ xs) ys a b = (a.0, all_joined P xs ys a.1 b)

among_front : (r : Reading) (xs ys : List Reading) → IsAmong r xs → IsAmong r (xs ++ ys)
among_front r [] ys i = absurd i
among_front r (q ∷ xs) ys (inl e) = inl e
among_front r (q ∷ xs) ys (inr i) = inr (among_front r xs ys i)

among_back : (r : Reading) (xs ys : List Reading) → IsAmong r ys → IsAmong r (xs ++ ys)
among_back r [] ys i = i
among_back r (q ∷ xs) ys i = inr (among_back r xs ys i)

module _ (homes : Homes) (offer : Offer) where
  -- what is found is given
  pub found_given : (x : Name) (k : ℕ) (list : List Source)
      → AllByRecursion (IsGiven homes offer) list → (i : Input) → input_of x list k ≡ Some i
      → given homes offer x k ≡ Some i
  found_given x k [] all i e = cc
  found_given x k (s ∷ list) all i e =
      at (input_of x list k) (same_name x s.name && (k == s.element)) refl refl
      (found_given x k list all.1 i) e
    where
      at : (behind : Option Input) (here : Bool) → input_of x list k ≡ behind
          → (same_name x s.name && (k == s.element)) ≡ here
          → (input_of x list k ≡ Some i → given homes offer x k ≡ Some i)
          → or_else behind (cond here (Some s.input) None) ≡ Some i
          → given homes offer x k ≡ Some i
      at (Some j) here eb eh earlier e = earlier (eb ∙ e)
      at None false eb eh earlier e = cc
      at None true eb eh earlier e =
          let both : (same_name x s.name ≡ true) × ((k == s.element) ≡ true) =
          and_parts (same_name x s.name) (k == s.element) eh in
          (λ j. given homes offer (same_name_is x s.name both.0 j) (eqb-true k s.element both.1 j))
          ∙ all.0 ∙ e

  each_given : (reads : List Reading) (added : List Source)
      → AllByRecursion (IsRead homes offer reads) added
      → AllByRecursion (IsGiven homes offer) added
  each_given reads added each =
      all_weaker (IsRead homes offer reads) (IsGiven homes offer) added (λ x r. r.given) each

  -- what was told stays so behind sources that are given
  pub told_behind : (r : Reading) (list added : List Source)
      → AllByRecursion (IsGiven homes offer) added → IsTold homes offer list r
      → IsTold homes offer (list ++ added) r
  told_behind r list added all told =
      input_behind r.name r.element list added ∙ at (input_of r.name added r.element) refl
    where
      at : (o : Option Input) → input_of r.name added r.element ≡ o
          → or_else o (input_of r.name list r.element) ≡ given homes offer r.name r.element
      at None e = told
      at (Some i) e = sym (found_given r.name r.element added all i e)

  pub adds_none : (one : Seen) → Adds homes offer one one []
  adds_none one = record {
    added = [];
    list = sym (append-nil one.list);
    each = tt;
    told = tt;
    whole = λ w. (w, tt);
  }

  -- what is given before is so behind
  pub given_behind : (one two : Seen) (reads : List Reading) → Adds homes offer one two reads
      → AllByRecursion (IsGiven homes offer) one.list
      → AllByRecursion (IsGiven homes offer) two.list
  given_behind one two reads a all =
      subst (AllByRecursion (IsGiven homes offer)) (sym a.list)
      (all_joined (IsGiven homes offer) one.list a.added all (each_given reads a.added a.each))

  pub told_later : (two three : Seen) (first second : List Reading)
      → AllByRecursion (IsTold homes offer two.list) first → Adds homes offer two three second
      → AllByRecursion (IsTold homes offer three.list) first
  told_later two three first second told b =
      subst (λ list. AllByRecursion (IsTold homes offer list) first) (sym b.list)
      (all_weaker (IsTold homes offer two.list) (IsTold homes offer (two.list ++ b.added)) first
      (λ r t. told_behind r two.list b.added (each_given second b.added b.each) t) told)

  pub adds_both : (one two three : Seen) (first second : List Reading)
      → Adds homes offer one two first → Adds homes offer two three second
      → Adds homes offer one three (first ++ second)
  adds_both one two three first second a b = record {
    added = a.added ++ b.added;
    list = b.list ∙ ap (λ list. list ++ b.added) a.list
        ∙ append_assoc one.list a.added b.added;
    each = all_joined (IsRead homes offer (first ++ second)) a.added b.added
        (all_weaker (IsRead homes offer first) (IsRead homes offer (first ++ second)) a.added
        (λ x r. record {
          given = r.given;
          number = r.number;
          among = among_front (reading x) first second r.among;
        }) a.each)
        (all_weaker (IsRead homes offer second) (IsRead homes offer (first ++ second)) b.added
        (λ x r. record {
          given = r.given;
          number = r.number;
          among = among_back (reading x) first second r.among;
        }) b.each);
    told = all_joined (IsTold homes offer three.list) first second
        (told_later two three first second a.told b) b.told;
    whole = λ w. (
      (a.whole (b.whole w).0).0,
      all_joined (IsHad homes offer) first second
          (a.whole (b.whole w).0).1 (b.whole w).1,
    );
  }
    where
      reading : Source → Reading
      reading x = record { name = x.name; element = x.element }
