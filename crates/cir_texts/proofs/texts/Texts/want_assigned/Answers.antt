use Rattle.std.proofs.Common.{◌∙◌, ◌++◌, [], ◌∷◌, ap, append_assoc}
use Rattle.std.specs.Prelude.{map}
use Rattle.std.proofs.lemmas.Result.{IfOk-equal}
use Rattle.cir_ast.specs.Tree.{as_accessors}
use Rattle.cir_meaning.specs.Texts.{numbers_wanted, indices_of}
use Rattle.cir_texts.specs.Shown.{wanted_of}
use Rattle.cir_texts.proofs.Lists.{assigned_wanted}
use Rattle.cir_texts.proofs.texts.Texts.want_assigned.Goals as goal

pub returns-clause-wanted : goal.returns-clause-wanted
returns-clause-wanted c =
    let a = c.args.assigned in
    let old = map wanted_of c.args.self.now.wanted.items in
    IfOk-equal _ _ _ _ c.want_indices.ensures.wanted
    (ap (λ list. map wanted_of c.want.new.self.wanted.items
    ++ numbers_wanted (indices_of (as_accessors list))) c.as_slice.ensures
    ∙ ap (λ found. found ++ numbers_wanted (indices_of (as_accessors a.place.now.accessors)))
    c.in_ok-want.ensures.wanted
    ∙ append_assoc old (wanted_of a.value ∷ [])
    (numbers_wanted (indices_of (as_accessors a.place.now.accessors)))
    ∙ ap (λ rest. old ++ rest) (assigned_wanted (wanted_of a.value) a.place.now c.requires))
