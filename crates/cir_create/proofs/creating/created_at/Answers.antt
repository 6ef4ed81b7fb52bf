use Rattle.std.proofs.Common.{◌≡◌, ◌∙◌, Some, ap, sym, subst, refl}
use Rattle.std.specs.Prelude.{map}
use Rattle.cir_meaning.specs.Places.{all_known}
use Rattle.cir_meaning.specs.Frame.{entry_at}
use Rattle.cir_arrays.specs.Reached.{items_of}
use Rattle.cir_arrays.specs.Stopped.{IsRefusal}
use Rattle.cir_arrays.specs.Shown.{datum_of}
use Rattle.cir_frame.specs.Shown.{component_of}
use Rattle.cir_evaluate.specs.Within.{where_at}
use Rattle.cir_create.specs.Declares.{IsPlaceIn}
use Rattle.cir_create.proofs.Creations.{created_ok, not_reached, not_there, unknown_index}
use Rattle.cir_create.proofs.Opened.{creates_exit, is_place}
use Rattle.cir_create.proofs.creating.created_at.Goals as goal

pub returns-in_default : goal.returns-in_default
returns-in_default g c = λ s h.
    subst (λ m. IsRefusal c.refused.result m)
    (sym (not_there (where_at c.args.here.now) c.args.n c.args.indices.now c.args.template
    (map datum_of c.args.arguments.items) s (ap (λ f. entry_at f.components c.args.n) h
    ∙ sym (c.in_default.ensures s.frame.added)))) c.refused.ensures

pub returns-in_default-2 : goal.returns-in_default-2
returns-in_default-2 g c = λ s h.
    subst (λ m. IsRefusal c.refused-in_default-2.result m)
    (sym (unknown_index (where_at c.args.here.now) c.args.n c.args.indices.now c.args.template
    (map datum_of c.args.arguments.items) s (component_of c.in-Some.entry.now)
    (ap (λ f. entry_at f.components c.args.n) h ∙ sym (c.in-Some.ensures s.frame.added))
    (sym c.in_ok-numbers.ensures ∙ ap items_of c.in_default-2.is))) c.refused-in_default-2.ensures

pub returns-in_err-reach : goal.returns-in_err-reach
returns-in_err-reach g c = λ s h.
    let refuses = rw (c.reading-r.ensures, c.site-site.ensures, c.as_slice-dims.ensures.value)
    at c.in_err-reach.ensures.reach in
    creates_exit s c.from_residual-in_err-reach.result _ _ _
    (not_reached (where_at c.args.here.now) c.args.n c.args.indices.now c.args.template
    (map datum_of c.args.arguments.items) s (component_of c.in-Some.entry.now)
    c.in-Some-2.numbers.items
    (ap (λ f. entry_at f.components c.args.n) h ∙ sym (c.in-Some.ensures s.frame.added))
    (sym c.in_ok-numbers.ensures ∙ ap items_of c.in-Some-2.is))
    c.from_residual-in_err-reach.ensures.1 refuses

pub returns : goal.returns
returns g c = λ s h.
    let w = where_at c.args.here.now in
    let entry = component_of c.in-Some.entry.now in
    let known : all_known c.args.indices.now ≡ Some c.in-Some-2.numbers.items =
    sym c.in_ok-numbers.ensures ∙ ap items_of c.in-Some-2.is in
    let there : entry_at s.frame.components c.args.n ≡ Some entry =
    ap (λ f. entry_at f.components c.args.n) h ∙ sym (c.in-Some.ensures s.frame.added) in
    let reached = rw (c.reading-r.ensures, c.site-site.ensures, c.as_slice-dims.ensures.value)
    at c.in_ok-reach.ensures.reach in (
      record {
        component = c.args.n;
        entry = entry;
        indices = c.in-Some-2.numbers.items;
        places = reached.0.places;
        template = c.args.template;
        arguments = map datum_of c.args.arguments.items;
        state = s;
      },
      created_ok w c.args.n c.args.indices.now c.args.template (map datum_of c.args.arguments.items)
          s entry c.in-Some-2.numbers.items reached.0 there known reached.1,
      record {
        state = refl;
        component = refl;
        entry = there;
        indices = refl;
        place = subst (λ o. IsPlaceIn entry.dims o reached.0.places) (sym c.place_of.ensures)
            (is_place w entry.dims c.args.indices.now c.in-Some-2.numbers.items
            c.in_ok-reach.reach reached.0 reached.1 known c.in_ok-reach.ensures.fits reached.2);
        template = refl;
        arguments = refl;
      },
    )
