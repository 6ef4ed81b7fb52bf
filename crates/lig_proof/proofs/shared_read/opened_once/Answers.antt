use Rattle.std.proofs.Common.{◌*◌, sym}
use Rattle.std.proofs.lemmas.List.Filters.{dedup_is}
use Rattle.lig_proof.proofs.Once.{once_of, once_is, once_opened}
use Rattle.lig_proof.proofs.shared_read.opened_once.Goals as goal

pub returns-clause-once : goal.returns-clause-once
returns-clause-once c =
    let drawn = c.args.drawn.now in
    let o = once_of drawn c.in_ok-once.once.items _ c.dedup.new.self.items
    c.in_ok-once.ensures.items c.sort_unstable.ensures.permutation
    c.sort_unstable.ensures.sorted (dedup_is _ _ _ c.dedup.ensures.filtered) in
    once_is drawn c.dedup.new.self.items o.keeps o.adds (8 * c.args.params.now.l) o.rising
    c.requires.below

pub returns-clause-opened : goal.returns-clause-opened
returns-clause-opened c =
    let drawn = c.args.drawn.now in
    let o = once_of drawn c.in_ok-once.once.items _ c.dedup.new.self.items
    c.in_ok-once.ensures.items c.sort_unstable.ensures.permutation
    c.sort_unstable.ensures.sorted (dedup_is _ _ _ c.dedup.ensures.filtered) in
    once_opened drawn c.dedup.new.self.items o.keeps o.adds c.args.params.now.depth
    (8 * c.args.params.now.l) (sym c.requires.params.depth) c.requires.some o.rising
    c.requires.below
