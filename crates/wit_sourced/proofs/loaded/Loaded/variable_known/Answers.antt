use Rattle.std.proofs.Common.{◌≡◌, ◌∙◌, ℕ, ◌==◌, Bool, false, ap, subst, sym}
use Rattle.std.specs.Prelude.{if◌then◌else◌, IfOk, Option, Some, None}
use Rattle.std.specs.List.{list_any}
use Rattle.cir_ast.specs.declared.program.Meant.{Meant}
use Rattle.wit_lower.specs.Homes as L
use Rattle.wit_lower.specs.Known as K
use Rattle.wit_lower.specs.Sources as R
use Rattle.wit_sourced.specs.Loaded.{changed_in, loaded_sources}
use Rattle.wit_sourced.proofs.loaded.Loaded.variable_known.Goals as goal

pub returns : goal.returns
returns c =
    let self = c.args.self.now in
    let s = loaded_sources self in
    let n = c.in-Variable.n in
    let is = c.args.indices.now in
    let kept : list_any (λ m. m == n) (changed_in self) ≡ false =
    sym c.changes.ensures ∙ c.if-changes.false in
    let home = L.find (L.Variable n) in
    subst (λ (k : Option ℕ). IfOk c.element_known.result (λ known. known ≡ k))
    (ap (λ h. K.element_known s n h is) c.find-home.ensures
    ∙ ap (λ (x : L.Scope). K.element_known s n (home x.homes) is) self.sources.now.named.now.shown
    ∙ sym (ap (λ (b : Bool). if b then None
    else K.element_known s n (home (R.scope_of s).homes) is) kept)
    ∙ ap (λ (m : Meant). K.variable_known s (changed_in self) m (Some is))
    (sym c.in-Variable.is))
    c.element_known.ensures
