use Rattle.std.proofs.Common.{◌≡◌, ◌∙◌, List, ℕ, [], ◌∷◌, ◌++◌, ap}
use Rattle.std.specs.Prelude.{map}
use Rattle.std.proofs.lemmas.List.{map-append}
use Rattle.cir_ast.specs.Tree.{bare_simple}
use Rattle.cir_meaning.specs.Anonymous.{own_name}
use Rattle.cir_lift.proofs.Trees.{creation_made}
use Rattle.cir_lift.proofs.made.create.Goals as goal

pub returns : goal.returns
returns c =
    let own : List ℕ = own_name c.args.own.index in
    let named : c.in_ok-name.name ≡ c.args.a.now.name ++ own =
    c.in_ok-name.ensures ∙ ap (λ l. l ++ own) c.as_slice.ensures in
    ap (map bare_simple) c.in_ok-push.ensures.items
    ∙ map-append bare_simple c.args.before.now.items _
    ∙ ap (λ x. map bare_simple c.args.before.now.items ++ x ∷ [])
    (creation_made c.args.a.now own c.args.own.number _ _ _ _ named c.in_ok-template.ensures
    c.in_ok-arguments.ensures c.as_slice-2.ensures)
