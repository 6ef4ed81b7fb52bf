use Rattle.std.proofs.Common.{◌≡◌, ◌<◌, ◌++◌, [], take, drop, subst, sym, ap, ◌∙◌, Some}
use Rattle.std.proofs.lemmas.List.{take_rest}
use Rattle.cir_values.specs.Names.{brackets}
use Rattle.cir_values.specs.Places.{elements, place_of}
use Rattle.cir_values.specs.Reading.{bracket_at, read_from}
use Rattle.cir_values.proofs.Once.{once}
use Rattle.cir_values.proofs.ReadBack.{parts_of}
use Rattle.cir_values.proofs.names.name_of.Goals as goal

pub indices-requires : goal.indices-requires
indices-requires c =
    let p = parts_of c.requires.declared c.requires.dims c.args.name.now.base c.requires.base in
    let dims : c.as_slice.result.now ≡ c.requires.dims =
    c.as_slice.ensures.value ∙ c.in_ok-dims.ensures
    ∙ ap (λ bs. read_from bs 0 []) (take_rest c.as_slice-base.result.now c.declared_end-end.result)
    ∙ ap (λ n. read_from (drop n c.as_slice-base.result.now) 0 []) c.declared_end-end.ensures.place
    ∙ ap (λ bs. read_from (drop (bracket_at bs) bs) 0 []) c.as_slice-base.ensures ∙ p.numbers in
    subst (λ ds. c.args.name.now.place < elements ds) (sym dims) c.requires.inside

pub returns : goal.returns
returns c = λ declared dims index base at.
    let p = parts_of declared dims c.args.name.now.base base in
    let same : c.as_slice.result.now ≡ dims =
    c.as_slice.ensures.value ∙ c.in_ok-dims.ensures
    ∙ ap (λ bs. read_from bs 0 []) (take_rest c.as_slice-base.result.now c.declared_end-end.result)
    ∙ ap (λ n. read_from (drop n c.as_slice-base.result.now) 0 []) c.declared_end-end.ensures.place
    ∙ ap (λ bs. read_from (drop (bracket_at bs) bs) 0 []) c.as_slice-base.ensures ∙ p.numbers in
    let found : place_of dims c.in_ok-index.index.items ≡ Some c.args.name.now.place =
    subst (λ ds. place_of ds c.in_ok-index.index.items ≡ Some c.args.name.now.place) same
    c.in_ok-index.ensures in
    let name : take c.declared_end-end.result c.as_slice-base.result.now ≡ declared =
    ap (λ n. take n c.as_slice-base.result.now) c.declared_end-end.ensures.place
    ∙ ap (λ bs. take (bracket_at bs) bs) c.as_slice-base.ensures ∙ p.name in
    c.in_ok-text.ensures
    ∙ ap (λ bs. bs ++ brackets c.as_slice-2.result.now) name
    ∙ ap (λ ns. declared ++ brackets ns) (c.as_slice-2.ensures.value
    ∙ once dims c.in_ok-index.index.items index c.args.name.now.place found at)
