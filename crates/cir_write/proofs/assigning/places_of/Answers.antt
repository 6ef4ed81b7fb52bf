use Rattle.std.proofs.Common.{◌≡◌, ◌∙◌, ℕ, List, Option, Some, false, ap, filter, slice_get, subst}
use Rattle.std.proofs.Common.{sym}
use Rattle.std.specs.Prelude.{IfOk, unwrap_or}
use Rattle.cir_arrays.specs.Reached.{IsReach}
use Rattle.cir_arrays.specs.Shown.{datum_of}
use Rattle.cir_meaning.specs.Arrays.{Datum, put_items, single}
use Rattle.cir_meaning.specs.Frame.{Frame, State, variable_at}
use Rattle.cir_meaning.specs.Places.{numbers_from}
use Rattle.cir_meaning.specs.Values.{Known}
use Rattle.cir_write.specs.Assigned.{is_new_in}
use Rattle.cir_assign.specs.Grows.{IsNew}
use Rattle.cir_assign.proofs.Added.{whole_is}
use Rattle.cir_write.proofs.NewPlaces.{new_all, new_in_run, new_none, new_sum, unsure}
use Rattle.cir_write.proofs.assigning.places_of.Goals as goal

pub returns-in_default : goal.returns-in_default
returns-in_default c = λ s x frame is.
    let n = c.args.n in
    c.new.ensures.items
    ∙ sym (new_none n x (ap (λ (z : State). slice_get z.frame.variables n) is.state
    ∙ ap (λ (f : Frame). slice_get f.variables n) frame ∙ sym (c.in_default.ensures s.frame.added)))

pub returns-in-Whole : goal.returns-in-Whole
returns-in-Whole c = λ s x frame is.
    let n = c.args.n in
    let first = c.in-Known.first in
    let count = c.in-Known.count in
    let old = c.in-Some.old.now in
    let there : slice_get s.frame.variables n ≡ Some (datum_of old) =
    ap (λ (f : Frame). slice_get f.variables n) frame ∙ sym (c.in-Some.ensures s.frame.added) in
    let at : variable_at s.frame n ≡ datum_of old =
    ap (λ (o : Option Datum). unwrap_or o (single (Known 0))) there in
    subst (λ (l : List ℕ). IfOk c.unknown_places.result (λ places. places.items ≡ l))
    (ap (λ (v : Datum). filter (is_new_in (put_items (numbers_from first count) v.items
    (datum_of old).items)) (numbers_from first count))
    (sym (whole_is c.args.a.now.value c.in-Whole.value (variable_at s.frame n) x.value
    c.in-Whole.is is.value))
    ∙ new_in_run n x old c.args.a.now.reach is.indices first count
    (ap (λ (z : State). slice_get z.frame.variables n) is.state ∙ there) c.in-Known.is
    (subst (λ (d : Datum). IsReach d.dims is.indices c.args.a.now.reach x.reach) at is.reach))
    c.unknown_places.ensures

pub returns-in-Added : goal.returns-in-Added
returns-in-Added c = λ s x frame is.
    let n = c.args.n in
    let old = c.in-Some.old.now in
    let there : slice_get s.frame.variables n ≡ Some (datum_of old) =
    ap (λ (f : Frame). slice_get f.variables n) frame ∙ sym (c.in-Some.ensures s.frame.added) in
    let at : variable_at s.frame n ≡ datum_of old =
    ap (λ (o : Option Datum). unwrap_or o (single (Known 0))) there in
    subst (λ (l : List ℕ). IfOk c.all_places.result (λ places. places.items ≡ l))
    (new_sum n x (datum_of old)
    (ap (λ (z : State). slice_get z.frame.variables n) is.state ∙ there) c.args.a.now.value
    c.in-Added.field-0 c.in-Added.is
    (subst (λ (d : Datum). IsNew d c.args.a.now.value x.value) at is.value) is.written)
    c.all_places.ensures

pub returns-in-Unknown : goal.returns-in-Unknown
returns-in-Unknown c = λ s x frame is.
    let n = c.args.n in
    let old = c.in-Some.old.now in
    let there : slice_get x.state.frame.variables n ≡ Some (datum_of old) =
    ap (λ (z : State). slice_get z.frame.variables n) is.state
    ∙ ap (λ (f : Frame). slice_get f.variables n) frame
    ∙ sym (c.in-Some.ensures s.frame.added) in
    let no : x.reach.is_sure ≡ false =
    sym is.reach.sure ∙ unsure c.args.a.now.reach.part c.in-Unknown.is in
    subst (λ (l : List ℕ). IfOk c.all_places-in-Unknown.result (λ places. places.items ≡ l))
    (new_all n x (datum_of old) there no) c.all_places-in-Unknown.ensures
