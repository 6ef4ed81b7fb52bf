-- Signals of components that known indices mean.
use Rattle.std.proofs.Common.{◌≡◌, ◌∙◌, ℕ, List, ap, subst, sym}
use Rattle.std.specs.Prelude.{true, false, map, Option, Some, None}
use Rattle.cir_ast.specs.declared.program.Meant.TheVariants as meant
use Rattle.cir_meaning.specs.Places.{all_known, is_inside}
use Rattle.cir_emit.specs.Sourced.{HasHome, PortHas}
use Rattle.cir_emit.proofs.Reached.{known_again}
use Rattle.wit_lower.specs.Homes as L

known_is : (is js : List ℕ) → Some is ≡ Some js → is ≡ js
known_is is js e = cc

module _ (There : L.Name → Type 0) (g : L.Ground) (homes : L.Homes) (f : L.Front)
    (known : List (Option ℕ)) (name : List ℕ) (n : ℕ) (is : f ≡ L.Named (meant.Component n)) where
  pub port_unknown : all_known known ≡ None → PortHas There g homes f known name
  port_unknown none =
      subst (λ x. PortHas There g homes x known name) (sym is)
      (λ indices e inside. absurd (none_some (sym none ∙ ap all_known e ∙ known_again indices)))
    where
      none_some : {indices : List ℕ} → None ≡ Some indices → ⊥
      none_some e = cc

  pub port_known : (indices : List ℕ) → all_known known ≡ Some indices
      → HasHome There homes (L.Port n (L.offset (g.components n) indices) name)
      → PortHas There g homes f known name
  port_known indices told h =
      subst (λ x. PortHas There g homes x known name) (sym is)
      (λ others e inside.
      subst (λ l. HasHome There homes (L.Port n (L.offset (g.components n) l) name))
      (known_is indices others (sym told ∙ ap all_known e ∙ known_again others)) h)

  pub port_outside : (indices : List ℕ) → all_known known ≡ Some indices
      → is_inside (g.components n) (map Some indices) ≡ false
      → PortHas There g homes f known name
  port_outside indices told outside =
      subst (λ x. PortHas There g homes x known name) (sym is)
      (λ others e inside.
      let same : indices ≡ others =
      known_is indices others (sym told ∙ ap all_known e ∙ known_again others) in
      let never : true ≡ false =
      sym inside
      ∙ ap (is_inside (g.components n)) (e ∙ ap (λ (l : List ℕ). map Some l) (sym same))
      ∙ outside in
      cc)
