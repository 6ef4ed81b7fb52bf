use Rattle.std.proofs.Common.{ℕ, ◌<◌, ◌≤◌, ◌∙◌, length, refl, arith}
use Rattle.std.specs.Prelude.{map, flat_map}
use Rattle.std.proofs.lemmas.List.{length-set}
use Rattle.cir_values.specs.Meant.{meant}
use Rattle.cir_arrays.specs.Shown.{datum_of}
use Rattle.cir_evaluate.proofs.Literals.{moved, all_moved}
use Rattle.cir_evaluate.proofs.literal.items_in.Goals as goal

pub loop-at-preserved : goal.loop-at-preserved
loop-at-preserved c =
    let at : ℕ = c.loop-at.at in
    let h : at < length c.loop-at.all.items =
    omega (arith, c.len-at-end.ensures, c.loop-at.invariant.many) in
    record {
      whole = moved (λ ds. flat_map (λ d. d.items) (map datum_of ds)) (λ d. (datum_of d).items)
          c.loop-at.all.items _ at c.replace-d.result c.replace-d.new.dest
          (map meant c.loop-at.items.items) _ _ (λ rest. refl) h
          (rw c.replace-d.ensures.value c.index_mut.ensures.value) refl c.in_ok-add_items.ensures
          c.loop-at.invariant.whole;
      many = length-set c.loop-at.all.items at c.replace-d.new.dest ∙ c.loop-at.invariant.many;
    }

pub returns : goal.returns
returns c =
    let end : length c.loop-at.all.items ≤ c.loop-at.at =
    omega (arith, c.len-at-end.ensures, c.loop-at.invariant.many) in
    all_moved (λ ds. flat_map (λ d. d.items) (map datum_of ds)) c.loop-at.all.items c.loop-at.at
    (map meant c.loop-at.items.items) _ refl end c.loop-at.invariant.whole
