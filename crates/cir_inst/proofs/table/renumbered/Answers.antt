use Rattle.std.proofs.Common.{◌≡◌, List, [], ◌∷◌, ◌++◌, map, sym, ap, subst, ◌∙◌, append_assoc}
use Rattle.std.proofs.Common.{arith}
use Rattle.std.specs.Prelude.{All}
use Rattle.std.proofs.lemmas.List.{nil_from_length}
use Rattle.std.proofs.lemmas.List.Elements.{All-head, All-tail}
use Rattle.gold_field.specs.declared.form.Constraint.{Constraint}
use Rattle.cir_meaning.specs.Frame.{Sizes}
use Rattle.cir_frame.specs.Shown.{sizes_of}
use Rattle.cir_inst.specs.Renumbered.{IsNumbered, renumbered_constraint}
use Rattle.cir_inst.proofs.Tables.{append_none}
use Rattle.cir_inst.proofs.table.renumbered.Goals as goal

pub loop-constraint-init : goal.loop-constraint-init
loop-constraint-init c =
    let s : Sizes = sizes_of c.args.sizes.now in
    let rest : List Constraint = c.into_iter-constraint-iterator.result.rest.items in
    let all : rest ≡ c.args.constraints.items =
    c.into_iter-constraint-iterator.ensures.into_iter_gives.0 in
    record {
      done = ap (λ (ks : List Constraint). map (renumbered_constraint s) ks) (sym all)
          ∙ ap (λ (ks : List Constraint). ks ++ map (renumbered_constraint s) rest)
          (sym c.in_ok-list.ensures.items);
      numbered = subst (λ (ks : List Constraint). All (IsNumbered s) ks) (sym all)
          c.requires.numbered;
    }

pub with_final_numbers-requires-clause-numbered : goal.with_final_numbers-requires-clause-numbered
with_final_numbers-requires-clause-numbered c =
    let s : Sizes = sizes_of c.args.sizes.now in
    All-head (IsNumbered s) c.in-Some.constraint c.next.new.self.rest.items
    (subst (λ (ks : List Constraint). All (IsNumbered s) ks) c.in-Some.ensures.steps.0
    c.loop-constraint.invariant.numbered)

pub loop-constraint-preserved : goal.loop-constraint-preserved
loop-constraint-preserved c =
    let s : Sizes = sizes_of c.args.sizes.now in
    let k : Constraint = c.in-Some.constraint in
    let rest : List Constraint = c.next.new.self.rest.items in
    let done : List Constraint = c.loop-constraint.list.items in
    record {
      done = c.loop-constraint.invariant.done
          ∙ ap (λ (ks : List Constraint). done ++ map (renumbered_constraint s) ks)
          c.in-Some.ensures.steps.0
          ∙ sym (append_assoc done (renumbered_constraint s k ∷ [])
          (map (renumbered_constraint s) rest))
          ∙ ap (λ (x : Constraint). (done ++ x ∷ []) ++ map (renumbered_constraint s) rest)
          (sym c.with_final_numbers.ensures)
          ∙ ap (λ (ks : List Constraint). ks ++ map (renumbered_constraint s) rest)
          (sym c.in_ok-push.ensures.items);
      numbered = All-tail (IsNumbered s) k rest
          (subst (λ (ks : List Constraint). All (IsNumbered s) ks) c.in-Some.ensures.steps.0
          c.loop-constraint.invariant.numbered);
    }

pub returns : goal.returns
returns c =
    let s : Sizes = sizes_of c.args.sizes.now in
    let done : List Constraint = c.loop-constraint.list.items in
    let rest : List Constraint = c.loop-constraint.constraint-iterator.rest.items in
    let none : rest ≡ [] =
    nil_from_length rest
    (omega (arith, c.in-None.ensures.steps.0, c.loop-constraint.constraint-iterator.rest.ok)) in
    c.of.ensures ∙ sym (append_none done)
    ∙ ap (λ (ks : List Constraint). done ++ map (renumbered_constraint s) ks) (sym none)
    ∙ sym c.loop-constraint.invariant.done
