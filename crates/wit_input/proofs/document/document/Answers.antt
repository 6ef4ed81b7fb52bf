use Rattle.std.proofs.Common.{◌∙◌, sym, refl}
use Rattle.std.proofs.lemmas.Bool.{false≢true}
use Rattle.serde_json.specs.Errors.{IsMemory}
use Rattle.wit_input.proofs.Documents.{spelled, unspelled}
use Rattle.wit_input.proofs.document.document.Goals as goal

pub returns-in-Ok-clause-ok : goal.returns-in-Ok-clause-ok
returns-in-Ok-clause-ok c = spelled c.args.bytes.now _ c.in-Ok.ensures.ok

pub returns-else-is_memory-clause-err : goal.returns-else-is_memory-clause-err
returns-else-is_memory-clause-err c = λ other.
    let sound : ¬ IsMemory c.in-Err.error =
    λ m. false≢true (sym c.if-is_memory.false ∙ c.is_memory.ensures.1 m) in
    (refl, unspelled c.args.bytes.now (c.in-Err.ensures.err sound))
