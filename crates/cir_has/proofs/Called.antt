-- The key of a call.
use Rattle.std.proofs.Common.{◌≡◌, ℕ, ◌<◌, List, length, subst, sym}
use Rattle.cir_ast.specs.declared.program.Meant.{Meant}
use Rattle.cir_ast.specs.declared.program.Meant.TheVariants as meant
use Rattle.cir_emit.specs.Sourced.{KeyHas}
use Rattle.cir_meaning.specs.Costs.{Made}
use Rattle.wit_lower.specs.Values.{number_of}
use Rattle.wit_procs.proofs.KeyLists.{numbered_key}

pub key_has : (keys : List Made) (m : Meant) (f : ℕ) (shapes : List (List ℕ))
    → m ≡ meant.Function f → number_of keys record { function = f; shapes = shapes } < length keys
    → KeyHas keys m shapes
key_has keys m f shapes is lt =
    subst (λ x. KeyHas keys x shapes) (sym is)
    (numbered_key keys record { function = f; shapes = shapes } lt)
