use Rattle.std.proofs.Common.{◌≡◌, ◌∙◌, ℕ, [], ap, subst, sym}
use Rattle.std.specs.Prelude.{IfOk, Option}
use Rattle.cir_ast.specs.Tree.{as_accessors, bare}
use Rattle.wit_lower.specs.Known as K
use Rattle.wit_sourced.specs.Loaded.{changed_in, loaded_sources}
use Rattle.wit_sourced.proofs.SameTrees.{place_tree}
use Rattle.wit_sourced.proofs.loaded.Loaded.+knowing.Goals as goal

pub known-returns-in-Place : goal.known-returns-in-Place
known-returns-in-Place t c =
    let s = loaded_sources c.args.self.now in
    let changed = changed_in c.args.self.now in
    let place = c.in-Place.place in
    subst (λ (k : Option ℕ). IfOk c.place_known.result (λ n. n ≡ k))
    (ap (λ xs. K.place_known s changed place.meant [] (as_accessors xs)) c.as_slice.ensures
    ∙ sym (ap (λ e. K.number_known s changed (bare e)) c.in-Place.is
    ∙ ap (K.number_known s changed) (place_tree place)))
    c.place_known.ensures
