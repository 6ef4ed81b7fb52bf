use Rattle.std.proofs.Common.{ℕ, List, [], ◌∷◌, ◌++◌, ◌∙◌, append_assoc}
use Rattle.cir_meaning.specs.Places.{brackets}
use Rattle.cir_create.proofs.creating.path_of.Goals as goal

pub returns : goal.returns
returns c =
    let tail : List ℕ = brackets c.args.indices.now in
    rw (
      c.in_ok-text.ensures,
      c.as_slice.ensures.value,
      c.in_ok-extend_from_slice.ensures.items,
      c.in_ok-push.ensures.items,
      c.in_ok-base.ensures.items,
    )
    (append_assoc (c.args.path.now ++ 46 ∷ []) c.args.name.now tail
    ∙ append_assoc c.args.path.now (46 ∷ []) (c.args.name.now ++ tail))
