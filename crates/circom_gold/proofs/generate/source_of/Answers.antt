use Rattle.std.proofs.Common.{refl}
use Rattle.circom_gold.specs.Witness.{one_file}
use Rattle.circom_gold.proofs.Generating.{sources_made}
use Rattle.circom_gold.proofs.generate.source_of.Goals as goal

pub returns-clause-sources : goal.returns-clause-sources
returns-clause-sources c =
    let now = one_file c.source_in.new.store.text.items in
    sources_made c.args.size c.in_ok-text.text.items now c.source_in.result
    (c.source_in.ensures.store.still now refl) c.in_ok-text.ensures c.source_in.ensures.step
