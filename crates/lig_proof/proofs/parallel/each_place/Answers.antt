use Rattle.std.proofs.Common.{◌≡◌, ℕ, ◌-◌, List, ap, subst, ◌∙◌, arith, Result, Err, Vec, Global}
use Rattle.std.specs.List.{AllZip, Contains, range_with_len}
use Rattle.std.specs.declared.alloc.AllocError.{AllocError}
use Rattle.rayon.proofs.ToStd.{nat_range-All}
use denote.Param.Always.{Asked}
use denote.Param.Members.{lent}
use Rattle.lig_proof.proofs.Collected.{collected}
use Rattle.lig_proof.proofs.parallel.each_place.Goals as goal

pub collect-requires-clause-ready : goal.collect-requires-clause-ready
collect-requires-clause-ready g c = λ κs ls.
    let ends = c.into_par_iter.ensures in
    let inside = nat_range-All (λ i. Asked g.F.Fn (lent c.args.f, (i, tt))) 0 c.args.count
    (λ i low high. c.requires i high) in
    rw (c.with_min_len.ensures.base, c.map.ensures.base, c.map.ensures.f, ends.0, ends.1)
    (λ k d lt. (inside k d lt, λ y p. tt))

pub returns : goal.returns
returns g c =
    let ends = c.into_par_iter.ensures in
    let done = c.in_ok-collect.ensures in
    let chain = rw (
      c.with_min_len.ensures.base,
      c.map.ensures.base,
      c.map.ensures.f,
      ends.0,
      ends.1,
    ) at done.1 in
    let whole : c.args.count - 0 ≡ c.args.count = omega arith in
    let places = chain.1 ∙ ap (range_with_len 0) whole in
    let Post = λ (i : ℕ) (r : Result g.row.T.Denot AllocError). g.F.Fn.post c.args.f (i, tt) r in
    let Zip : List ℕ → Type 0 = λ is. AllZip Post is done.0 in
    collected (λ (v : Vec g.row.T.Denot Global). v.items) Post
    (range_with_len 0 c.args.count) done.0 c.in_ok-collect.field-0
    (λ e. Contains done.0 (Err e)) (subst Zip places chain.2) done.2
