use Rattle.std.proofs.Common.{◌≡◌, ◌∙◌, ◌+◌, ℕ, List, Some, true, ap, length, sym}
use Rattle.std.specs.Prelude.{◌==◌, ◌&&◌, is_some, nat_le, nat_lt, option_map, slice_get}
use Rattle.std.specs.Option.{option_copied}
use Rattle.std.specs.List.{list_any}
use Rattle.cir_arrays.specs.Reached.{places_within}
use Rattle.cir_meaning.specs.Places.{all_known}
use Rattle.wit_lower.specs.Homes as L
use Rattle.cir_emit.specs.Reads as E
use Rattle.wit_sourced.specs.Shown.{home_of}
use Rattle.wit_sources.specs.Collected.{ground_with, homes_in, seen, shapes_in}
use Rattle.wit_sources.proofs.Runs.{run_places, sure, unsure, written_at}
use Rattle.wit_sources.proofs.kept.place_run.Goals as goal

pub returns-then-not-is_all_known : goal.returns-then-not-is_all_known
returns-then-not-is_all_known c = λ name e t.
    let found = c.args.found.now in
    let g = ground_with c.args.setting.now (shapes_in found) (seen found).list in
    let homes = homes_in found in
    let v = c.in-Variable.variable in
    let ks = c.in_ok-indices.indices.items in
    sym (written_at g homes c.args.place.now v ks c.in-Variable.is
    (rw c.as_slice.ensures at c.in_ok-indices.ensures) name e t
    ∙ unsure v (L.find (L.Variable v) homes) ks t
    (sym (c.is_all_known.ensures ∙ ap (λ l. is_some (all_known l)) c.as_slice-2.ensures.value)
    ∙ c.if-not-is_all_known.true))

pub returns-in-Some-first : goal.returns-in-Some-first
returns-in-Some-first c = λ name e t.
    let found = c.args.found.now in
    let g = ground_with c.args.setting.now (shapes_in found) (seen found).list in
    let homes = homes_in found in
    let v = c.in-Variable.variable in
    let ks = c.in_ok-indices.indices.items in
    let h = home_of c.in-Some.home.now in
    let places = c.in_ok-places.places.items in
    let first = c.in-Some-first.first.now in
    let at_home : L.find (L.Variable v) homes ≡ Some h =
    ap (L.find (L.Variable v)) (sym (ap (λ s. s.homes) found.sources.named.now.shown))
    ∙ sym c.find.ensures ∙ ap (λ o. option_map home_of (option_copied o)) c.in-Some.is in
    let known : is_some (all_known ks) ≡ true =
    sym (c.is_all_known.ensures ∙ ap (λ l. is_some (all_known l)) c.as_slice-2.ensures.value)
    ∙ c.if-not-is_all_known.false in
    let long : c.len.result ≡ length places =
    c.len.ensures ∙ sym c.as_slice-5.ensures.len
    ∙ ap (λ (l : List ℕ). length l) c.as_slice-5.ensures.value in
    let is : places ≡ places_within h.dims ks =
    rw (c.as_slice-3.ensures, c.as_slice-4.ensures.value) at c.in_ok-places.ensures in
    let begins : slice_get places 0 ≡ Some first =
    ap (λ (l : List ℕ). slice_get l 0) (sym c.as_slice-5.ensures.value)
    ∙ sym c.first.ensures.value ∙ ap option_copied c.in-Some-first.is in
    ap (λ b. (v == t.variable) && b)
    ((λ i. nat_le first t.element && nat_lt t.element (first + long i))
    ∙ run_places h.dims ks places first t.element known is begins)
    ∙ sym (written_at g homes c.args.place.now v ks c.in-Variable.is
    (rw c.as_slice.ensures at c.in_ok-indices.ensures) name e t
    ∙ ap (λ o. (v == t.variable) && list_any (λ k. k == t.element) (E.sure_places o ks)) at_home
    ∙ sure v h ks t known)
