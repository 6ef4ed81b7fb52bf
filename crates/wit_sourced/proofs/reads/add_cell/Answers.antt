use Rattle.std.proofs.Common.{◌≡◌, ◌∙◌, ℕ, Bool, true, false, List, [], ◌∷◌, ◌++◌, ap, sym, subst}
use Rattle.std.specs.Prelude.{◌==◌, Option, None, is_some, if◌then◌else◌}
use Rattle.std.specs.List.{list_any}
use Rattle.wit_sourced.specs.Told.{place_in, AreTold}
use Rattle.wit_sourced.proofs.Places.{member, none_if, told_more}
use Rattle.wit_sourced.proofs.reads.add_cell.Goals as goal

pub returns-then-contains_key-clause-cells : goal.returns-then-contains_key-clause-cells
returns-then-contains_key-clause-cells c =
    let cells = c.args.cells.now in
    let cell = c.in-Cell.cell in
    let there : list_any (λ d. d == cell) cells ≡ true =
    sym (member cells cell) ∙ ap (λ (o : Option ℕ). is_some o) (sym (c.requires cell))
    ∙ sym c.contains_key.ensures ∙ c.if-contains_key.true in
    rw c.in-Cell.is (ap (λ (b : Bool). if b then cells else cells ++ cell ∷ []) (sym there))

pub returns-clause-cells : goal.returns-clause-cells
returns-clause-cells c =
    let cells = c.args.cells.now in
    let cell = c.in-Cell.cell in
    let new : list_any (λ d. d == cell) cells ≡ false =
    sym (member cells cell) ∙ ap (λ (o : Option ℕ). is_some o) (sym (c.requires cell))
    ∙ sym c.contains_key.ensures ∙ c.if-contains_key.false in
    rw c.in-Cell.is (c.in_ok-push.ensures.ok
    ∙ ap (λ (b : Bool). if b then cells else cells ++ cell ∷ []) (sym new))

pub returns-clause-places : goal.returns-clause-places
returns-clause-places c =
    let cells = c.args.cells.now in
    let cell = c.in-Cell.cell in
    let none : place_in cells cell ≡ None = none_if (place_in cells cell)
    (ap (λ (o : Option ℕ). is_some o) (sym (c.requires cell)) ∙ sym c.contains_key.ensures
    ∙ c.if-contains_key.false) in
    subst (λ (ds : List ℕ). AreTold c.insert.new.self ds) (sym c.in_ok-push.ensures.ok)
    (told_more c.args.places.now c.insert.new.self cells cell c.in_ok-narrow.field-0 c.requires
    c.in_ok-insert.ensures.updates none (c.in_ok-narrow.ensures.ok ∙ c.len.ensures))
