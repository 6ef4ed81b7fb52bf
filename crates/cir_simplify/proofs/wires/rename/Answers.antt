use Rattle.std.proofs.Common.{◌<◌, ◌≤◌, ℕ, List, length, get_or, set, slice_index, refl, ap}
use Rattle.std.proofs.Common.{sym, subst, ◌∙◌, arith}
use Rattle.gold_field.specs.declared.form.Term.{Term}
use Rattle.gold_field.specs.Rises.{RisesFrom}
use Rattle.cir_simplify.proofs.Renaming.{mixed_more, mixed_all, named_at}
use Rattle.cir_simplify.proofs.wires.rename.Goals as goal

pub bounds-places-signal : goal.bounds-places-signal
bounds-places-signal c =
    let name : ℕ → ℕ = slice_index c.args.places.now in
    let t : Term = c.index.result.now in
    let l : c.loop-k.k < length c.args.f = omega (arith, ap length c.into_vec-terms.ensures.terms)
    in
    named_at name (length c.args.places.now) c.loop-k.k c.args.f t l
    (c.index.ensures ∙ ap (λ (xs : List Term). get_or xs c.loop-k.k t) c.loop-k.invariant)
    c.requires.below

pub loop-k-preserved : goal.loop-k-preserved
loop-k-preserved c =
    let name : ℕ → ℕ = slice_index c.args.places.now in
    let t : Term = c.index.result.now in
    let l : c.loop-k.k < length c.args.f = omega (arith, ap length c.into_vec-terms.ensures.terms)
    in
    ap (λ (xs : List Term). set xs c.loop-k.k (record { signal = name t.signal; coef = t.coef }))
    c.loop-k.invariant
    ∙ mixed_more name c.loop-k.k c.args.f t (name t.signal) l
    (c.index.ensures ∙ ap (λ (xs : List Term). get_or xs c.loop-k.k t) c.loop-k.invariant) refl

pub of-requires : goal.of-requires
of-requires c =
    let name : ℕ → ℕ = slice_index c.args.places.now in
    let l : length c.args.f ≤ c.loop-k.k = omega (arith, ap length c.into_vec-terms.ensures.terms)
    in
    subst (λ (xs : List Term). RisesFrom 0 xs)
    (sym (c.loop-k.invariant ∙ mixed_all name c.loop-k.k c.args.f l)) c.requires.rises

pub returns : goal.returns
returns c =
    let name : ℕ → ℕ = slice_index c.args.places.now in
    let l : length c.args.f ≤ c.loop-k.k = omega (arith, ap length c.into_vec-terms.ensures.terms)
    in
    c.of.ensures ∙ c.loop-k.invariant ∙ mixed_all name c.loop-k.k c.args.f l
