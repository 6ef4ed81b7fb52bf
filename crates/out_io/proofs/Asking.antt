-- Readings of a store, one after the other.
use Rattle.std.proofs.Common.{◌≡◌, ◌∙◌, ◌++◌, ◌∷◌, List, [], ℕ, All, IfOk}
use Rattle.std.proofs.Common.{Ok, Err, Option, Result, Vec, ap, append_assoc, refl, sym}
use Rattle.std.proofs.lemmas.List.Elements.{All-append, All-cons, All-head, All-nil, All-tail}
use Rattle.std.specs.declared.alloc.Global.{Global}
use Rattle.out_io.specs.Asked.{Agrees, IsReading, OnlyAsks}
use Rattle.out_io.specs.Contents.{Contents, bytes_of}
use Rattle.out_io.specs.Held.{OfAll}
use Rattle.out_io.specs.History.{Call, Read, found_of}
use Rattle.out_io.specs.declared.fault.IoFault.{IoFault}

-- what is so of all of two lists is so of each
parts_of : {X : Type 0} (P : X → Type 0) (xs ys : List X) → All P (xs ++ ys)
    → All P xs × All P ys
parts_of P [] ys all = (All-nil P, all)
parts_of P (x ∷ xs) ys all =
    let rest = parts_of P xs ys (All-tail P x (xs ++ ys) all) in
    (All-cons P x xs (All-head P x (xs ++ ys) all) rest.0, rest.1)

-- nothing was asked
pub nothing_asked : (calls : List Call) (held : Contents → Type 0)
    → OnlyAsks calls calls held held
nothing_asked calls held = record {
  made = [];
  added = refl;
  readings = All-nil IsReading;
  holds = λ files. (λ may. (may, All-nil (Agrees files)), λ may. may.0);
}

module _ {calls calls_after : List Call} {held held_after : Contents → Type 0} where
  -- one reading
  pub read_once : (name : List ℕ) (result : Result (Option (Vec ℕ Global)) IoFault)
      → calls_after ≡ Read name (found_of result) ∷ calls
      → IfOk result (λ found. (files : Contents) → held_after files
      → bytes_of found ≡ files name)
      → OfAll held_after held
      → ((files : Contents) → held files
      → IfOk result (λ found. bytes_of found ≡ files name) → held_after files)
      → OnlyAsks calls calls_after held held_after
  read_once name (Ok found) asked there still again = record {
    made = Read name (Ok (bytes_of found)) ∷ [];
    added = asked;
    readings = All-cons IsReading _ [] tt (All-nil IsReading);
    holds = λ files. (
      λ may. (
        still files may,
        All-cons (Agrees files) _ [] (there files may) (All-nil (Agrees files)),
      ),
      λ may. again files may.0 (All-head (Agrees files) _ [] may.1),
    );
  }
  read_once name (Err fault) asked there still again = record {
    made = Read name (Err fault) ∷ [];
    added = asked;
    readings = All-cons IsReading _ [] tt (All-nil IsReading);
    holds = λ files. (
      λ may. (still files may, All-cons (Agrees files) _ [] tt (All-nil (Agrees files))),
      λ may. again files may.0 tt,
    );
  }

  -- readings, and then more of them
  pub read_on : {calls_later : List Call} {held_later : Contents → Type 0}
      → OnlyAsks calls calls_after held held_after
      → OnlyAsks calls_after calls_later held_after held_later
      → OnlyAsks calls calls_later held held_later
  read_on first more = record {
    made = more.made ++ first.made;
    added = more.added ∙ ap (λ cs. more.made ++ cs) first.added
        ∙ sym (append_assoc more.made first.made calls);
    readings = All-append IsReading more.made first.made more.readings first.readings;
    holds = λ files. (
      λ may.
          let later = (more.holds files).0 may in
          let before = (first.holds files).0 later.0 in
          (before.0, All-append (Agrees files) more.made first.made later.1 before.1),
      λ may.
          let parts = parts_of (Agrees files) more.made first.made may.1 in
          (more.holds files).1 ((first.holds files).1 (may.0, parts.1), parts.0),
    );
  }
