use Rattle.std.proofs.Common.{◌∙◌, [], ◌∷◌, ap, arith, length, map, refl}
use Rattle.std.proofs.lemmas.List.{append_assoc, length-append}
use Rattle.cir_resolve.specs.Definitions.{bare_definition}
use Rattle.cir_names.proofs.gathering.gather.Goals as goal

pub loop-source-init : goal.loop-source-init
loop-source-init c =
    let none = ap (map bare_definition) c.new-2.ensures.items in
    let all = c.into_iter-source-iterator.ensures.into_iter_gives.0 in
    record {
      names_are = rw (c.new.ensures, all) refl;
      definitions_are = rw (none, c.new.ensures, all) refl;
      few = rw (c.new.ensures, all) (omega (arith, c.requires));
    }

pub add-requires : goal.add-requires
add-requires c = omega (
  arith,
  rw c.in-Some.ensures.steps.0 at c.loop-source.invariant.few,
)

pub loop-source-preserved : goal.loop-source-preserved
loop-source-preserved c =
    let so_far = c.loop-source.invariant in
    let next = c.in-Some.ensures.steps.0 in
    let added = c.in_ok-add.ensures in
    let longer = ap length added.files ∙ length-append _ (c.in-Some.source.name ∷ []) in
    record {
      names_are = rw (added.files, append_assoc) (rw next at so_far.names_are);
      definitions_are = rw (added.definitions, longer, append_assoc)
          (rw next at so_far.definitions_are);
      few = omega (arith, longer, rw next at so_far.few);
    }
