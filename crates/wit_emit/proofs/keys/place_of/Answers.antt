use Rattle.std.proofs.Common.{◌∙◌, length, map, ap, sym}
use Rattle.std.proofs.lemmas.List.{length-map}
use Rattle.cir_rules.specs.Shown.{made_of}
use Rattle.wit_emit.proofs.Numbered.{numbered, or_end}
use Rattle.wit_emit.proofs.keys.place_of.Goals as goal

pub returns-in-None : goal.returns-in-None
returns-in-None c =
    let calls = c.args.keys.now.calls in
    let keys = map made_of calls.items in
    c.len.ensures ∙ calls.ok.0
    ∙ sym (numbered keys (made_of c.args.key.now)
    ∙ ap (λ o. or_end o (length keys)) (sym c.place.ensures ∙ c.in-None.is)
    ∙ length-map calls.items made_of)
