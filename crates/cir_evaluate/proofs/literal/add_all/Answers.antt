use Rattle.std.proofs.Common.{ℕ, ◌<◌, ◌≤◌, ◌∙◌, [], ◌∷◌, length, ap, refl, arith}
use Rattle.std.specs.Prelude.{map}
use Rattle.std.proofs.lemmas.List.{length-set, map-append}
use Rattle.cir_values.specs.Meant.{meant}
use Rattle.cir_evaluate.proofs.Literals.{moved, all_moved}
use Rattle.cir_evaluate.proofs.literal.add_all.Goals as goal

pub loop-at-preserved : goal.loop-at-preserved
loop-at-preserved c =
    let at : ℕ = c.loop-at.at in
    let h : at < length c.loop-at.more.items =
    omega (arith, c.len-at-end.ensures, c.loop-at.invariant.many) in
    record {
      whole = moved (map meant) (λ v. meant v ∷ []) c.loop-at.more.items _ at c.replace-v.result
          c.replace-v.new.dest (map meant c.loop-at.items.items) _ _ (λ rest. refl) h
          (rw c.replace-v.ensures.value c.index_mut.ensures.value) refl
          (ap (map meant) c.in_ok-push.ensures.items
          ∙ map-append meant c.loop-at.items.items (c.replace-v.result ∷ []))
          c.loop-at.invariant.whole;
      many = length-set c.loop-at.more.items at c.replace-v.new.dest ∙ c.loop-at.invariant.many;
    }

pub returns : goal.returns
returns c =
    let end : length c.loop-at.more.items ≤ c.loop-at.at =
    omega (arith, c.len-at-end.ensures, c.loop-at.invariant.many) in
    all_moved (map meant) c.loop-at.more.items c.loop-at.at (map meant c.loop-at.items.items) _ refl
    end c.loop-at.invariant.whole
