use Rattle.std.proofs.Common.{arith}
use Rattle.flow_core.specs.Events.{opening_of}
use Rattle.flow_core.proofs.Lists.{get_or-map_length}
use Rattle.flow_core.proofs.Keeps.{opens_sound}
use Rattle.flow_core.proofs.Tellings.{told_all, ready_once, ready_never}
use Rattle.flow_core.proofs.laws.one_release_finds_a_strand_ready.Goals as goal

pub returns-clause-told : goal.returns-clause-told
returns-clause-told c = λ n start es k ok can. let t =
    told_all n ok (opening_of n start) (opens_sound n start ok can) es k in
    let m = get_or-map_length n.preds k in omega arith

pub returns-clause-ready : goal.returns-clause-ready
returns-clause-ready c = λ n start es k ok can some none. let m = get_or-map_length n.preds k in
    ready_once n ok (opening_of n start) (opens_sound n start ok can) es k (omega arith) none

pub returns-clause-not_yet : goal.returns-clause-not_yet
returns-clause-not_yet c = λ n start es k ok can some. let m = get_or-map_length n.preds k in
    let t = told_all n ok (opening_of n start) (opens_sound n start ok can) es k in
    ready_never n ok (opening_of n start) (opens_sound n start ok can) es k (omega arith) some
