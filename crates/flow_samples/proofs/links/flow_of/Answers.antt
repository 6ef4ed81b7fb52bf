use Rattle.std.proofs.Common.{◌≡◌, ◌∙◌, ℕ, ◌+◌, ◌<◌, List, [], ◌∷◌, ◌++◌, length}
use Rattle.std.proofs.Common.{subst, sym, ap, arith}
use Rattle.wit_code.specs.declared.code.Proc.{Proc}
use Rattle.wit_flow.specs.Cut.{CanCut}
use Rattle.flow_samples.proofs.Cuts.{can_cut}
use Rattle.flow_samples.proofs.links.flow_of.Goals as goal

pub cut-requires : goal.cut-requires
cut-requires c =
    let steps = c.args.steps.items in
    let few : length steps < 4294967296 = omega (arith, c.requires.few) in
    let P : List Proc → List ℕ → ℕ → Type 0 =
    λ procs starts m. CanCut steps procs (m + 1) starts in
    let many : length steps ≡ c.len.result = omega (arith, c.len.ensures) in
    let cells = subst (P [] (0 ∷ [])) many (can_cut steps c.requires.links few) in
    let procs = subst (λ ps. P ps (0 ∷ []) c.len.result) (sym c.new.ensures.items) cells in
    let none = c.new-starts.ensures.items in
    let one = c.in_ok-push.ensures.items ∙ ap (λ (xs : List ℕ). xs ++ 0 ∷ []) none in
    subst (λ ss. P c.new.result.items ss c.len.result) (sym one) procs
