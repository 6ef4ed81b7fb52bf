use Rattle.std.specs.Prelude.{◌≡◌}
use Rattle.std.specs.Option.{option_copied}
use Rattle.out_io.specs.Asked.{OnlyAsks}
use Rattle.out_io.specs.Held.{OnlyReads}
use Rattle.cir_sources.specs.Steps.{IsLoading, all_of, left_of, to_go}
use Rattle.cir_sources.proofs.loading.reach.Given as goal

abbrev pub invariant-loop-site : goal.invariant-loop-site
invariant-loop-site g l = record {
  loading : IsLoading (g.S.Store.may_hold l.store) l.fn.name (option_copied l.library)
      l.loading.names l.loading.missing (all_of l.loading) (left_of l.loading);
  store : OnlyReads (g.S.Store.may_hold l.fn.store) (g.S.Store.may_hold l.store)
      (g.S.Store.faults l.fn.store) (g.S.Store.faults l.store) (g.S.Store.never_fails l.fn.store)
      (g.S.Store.never_fails l.store);
  asked : OnlyAsks (g.S.Store.calls l.fn.store) (g.S.Store.calls l.store)
      (g.S.Store.may_hold l.fn.store) (g.S.Store.may_hold l.store);
  counted : g.S.Store.faults l.store ≡ g.S.Store.faults l.fn.store;
}

abbrev pub decreases-loop-site : goal.decreases-loop-site
decreases-loop-site g l = to_go l.loading
