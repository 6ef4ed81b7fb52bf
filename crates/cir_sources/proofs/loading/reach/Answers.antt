use Rattle.std.proofs.Common.{◌∙◌, arith, ap, reverse, sym}
use Rattle.std.proofs.lemmas.Result.{err_from_is_err_and}
use Rattle.std.proofs.lemmas.List.{nil_from_length}
use Rattle.out_io.proofs.Asking.{read_on, read_once}
use Rattle.cir_sources.proofs.Steps.{are_sources, ends, ends_on, first_bad, first_loads, on_top}
use Rattle.cir_sources.proofs.loading.reach.Goals as goal

pub returns-in_err-source-clause-reaches : goal.returns-in_err-source-clause-reaches
returns-in_err-source-clause-reaches g c =
    let p = err_from_is_err_and c.from_residual-in_err-source.result
    c.from_residual-in_err-source.ensures.1 in
    rw (p.1, p.2)
    (first_bad _ _ c.in-Some.bytes c.in_err-source.field-0.0
    record {
      still = c.read.ensures.still;
      found = rw c.in-Some.is at c.in_ok-bytes.ensures.there;
    }
    (rw c.as_bytes.ensures.value at c.in_err-source.ensures))

pub returns-in_default-clause-reaches : goal.returns-in_default-clause-reaches
returns-in_default-clause-reaches g c = λ files held.
    sym (rw c.in_default.is at (c.in_ok-bytes.ensures.there) files held)

pub returns-in_err-bytes-clause-asked : goal.returns-in_err-bytes-clause-asked
returns-in_err-bytes-clause-asked g c =
    read_once _ c.read.result c.read.ensures.asked c.read.ensures.there c.read.ensures.still
    c.read.ensures.again

pub returns-in_default-clause-asked : goal.returns-in_default-clause-asked
returns-in_default-clause-asked g c =
    read_once _ c.read.result c.read.ensures.asked c.read.ensures.there c.read.ensures.still
    c.read.ensures.again

pub returns-in_err-source-clause-asked : goal.returns-in_err-source-clause-asked
returns-in_err-source-clause-asked g c =
    read_once _ c.read.result c.read.ensures.asked c.read.ensures.there c.read.ensures.still
    c.read.ensures.again

pub returns-in_err-name-clause-asked : goal.returns-in_err-name-clause-asked
returns-in_err-name-clause-asked g c =
    read_once _ c.read.result c.read.ensures.asked c.read.ensures.there c.read.ensures.still
    c.read.ensures.again

pub returns-in_err-add-clause-asked : goal.returns-in_err-add-clause-asked
returns-in_err-add-clause-asked g c =
    read_once _ c.read.result c.read.ensures.asked c.read.ensures.there c.read.ensures.still
    c.read.ensures.again

pub loop-site-init : goal.loop-site-init
loop-site-init g c = record {
  loading =
      first_loads c.in_ok-name.name c.in-Some.bytes c.in_ok-source.source _
      c.add.new.self c.utf8.name c.in_ok-name.ensures.ok c.as_bytes.ensures.value
      record {
        still = c.read.ensures.still;
        found = rw c.in-Some.is at c.in_ok-bytes.ensures.there;
      }
      c.in_ok-source.ensures c.in_ok-add.ensures c.new.ensures.items c.new-4.ensures.items
      (λ q. rw c.new-2.ensures.empty) (λ q. rw c.new-3.ensures.empty);
  store = assumption c.read.ensures;
  asked =
      read_once _ c.read.result c.read.ensures.asked c.read.ensures.there c.read.ensures.still
      c.read.ensures.again;
  counted = c.in_ok-bytes.ensures.counted;
}

pub returns-in_err-follow-clause-reaches : goal.returns-in_err-follow-clause-reaches
returns-in_err-follow-clause-reaches g c =
    let p = err_from_is_err_and c.from_residual-in_err-follow.result
    c.from_residual-in_err-follow.ensures.1 in
    let now = on_top c.pop.new.self.items c.in-Some-pop.site
    c.in-Some-pop.ensures.items c.loop-site.invariant.loading in
    rw (p.1, p.2)
    (ends_on _ _ _ (g.S.Store.faults c.args.store.now) (g.S.Store.faults c.loop-site.store)
    (g.S.Store.faults c.follow.new.store) c.in_err-follow.field-0.0
    c.loop-site.invariant.store.later (c.in_err-follow.ensures.follows c.args.name.now now))

pub returns-in_err-follow-clause-asked : goal.returns-in_err-follow-clause-asked
returns-in_err-follow-clause-asked g c =
    read_on c.loop-site.invariant.asked c.follow.ensures.asked

pub loop-site-smaller : goal.loop-site-smaller
loop-site-smaller g c = omega (arith, c.in_ok-follow.ensures.less, c.in-Some-pop.ensures.len)

pub loop-site-preserved : goal.loop-site-preserved
loop-site-preserved g c =
    let now = on_top c.pop.new.self.items c.in-Some-pop.site
    c.in-Some-pop.ensures.items c.loop-site.invariant.loading in
    record {
      loading = c.in_ok-follow.ensures.follows c.args.name.now now;
      store = record {
        still = λ files may.
            c.loop-site.invariant.store.still files (c.follow.ensures.store.still files may);
        later = omega (arith, c.loop-site.invariant.store.later, c.follow.ensures.store.later);
        steady = λ quiet.
            let before = c.loop-site.invariant.store.steady quiet in
            let after = c.follow.ensures.store.steady before.0 in (after.0, after.1 ∙ before.1);
      };
      asked = read_on c.loop-site.invariant.asked c.follow.ensures.asked;
      counted = c.in_ok-follow.ensures.counted ∙ c.loop-site.invariant.counted;
    }

pub returns : goal.returns
returns g c =
    let l = c.loop-site.loading in
    let none = nil_from_length l.pending.items
    (omega (arith, l.pending.ok, c.in_default-pop.ensures.cases.0)) in
    let loading = rw (ap reverse none) at c.loop-site.invariant.loading in
    record {
      reaches = ends loading;
      counted = c.loop-site.invariant.counted;
      read = are_sources loading;
      store = c.loop-site.invariant.store;
      asked = c.loop-site.invariant.asked;
    }
