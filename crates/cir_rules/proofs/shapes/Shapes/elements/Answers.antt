use Rattle.std.proofs.Common.{◌≡◌, ◌∙◌, ◌+◌, ◌∷◌, ℕ, drop, ap, sym, arith}
use Rattle.std.specs.Prelude.{map, sum_by, unwrap_or}
use Rattle.std.proofs.lemmas.List.{drop_more}
use Rattle.std.proofs.lemmas.List.Sums.{sum_by-cons}
use Rattle.cir_ast.specs.Tree.{bare, bare_variable}
use Rattle.cir_meaning.specs.Limits.{standing, size_of}
use Rattle.cir_meaning.specs.Texts.{literal_number}
use Rattle.cir_rules.specs.Shaped.{written_size}
use Rattle.cir_texts.proofs.Lists.{listed}
use Rattle.cir_rules.proofs.Shaping.{map_bare}
use Rattle.cir_rules.proofs.shapes.Shapes.elements.Goals as goal

-- a sum that stands still, with one more
counted_more : (count s size rest n left total : ℕ) → s ≡ standing size → n ≡ standing (count + s)
    → left ≡ size + rest → standing (count + left) ≡ standing total
    → standing (n + rest) ≡ standing total
counted_more count s size rest n left total size_is sum left_is before = omega arith

pub loop-dims-preserved : goal.loop-dims-preserved
loop-dims-preserved c =
    let items = c.args.self.now.arguments.now in
    let i = c.loop-dims.dims-index in
    let x = c.dims-item.result in
    let rest = sum_by size_of (map (λ d. d.items) (drop (i + 1) items)) in
    record {
      fits = omega (arith, c.saturating_add-count.ensures);
      counted = counted_more c.loop-dims.count c.size_of.result (size_of x.items) rest _ _ _
          (c.size_of.ensures ∙ ap (λ ds. standing (size_of ds)) c.as_slice.ensures.value)
          (omega (arith, c.saturating_add-count.ensures))
          (ap (λ l. sum_by size_of (map (λ d. d.items) l))
          (drop_more items i x c.loop-dims-test.true
          ∙ ap (λ y. y ∷ drop (i + 1) items) (sym c.dims-item.is))
          ∙ sum_by-cons size_of x.items (map (λ d. d.items) (drop (i + 1) items)))
          c.loop-dims.invariant.counted;
    }

pub loop-variable-preserved : goal.loop-variable-preserved
loop-variable-preserved c =
    let items = c.as_slice-variable-items.result.now in
    let i = c.loop-variable.variable-index in
    let x = c.variable-item.result in
    let v = bare_variable x.now in
    let rest = sum_by written_size (map (λ v. bare_variable v.now) (drop (i + 1) items)) in
    let written = map_bare (λ e. unwrap_or (literal_number e) 0) x.now.dimensions in
    record {
      fits = omega (arith, c.saturating_add-count-in-loop-variable.ensures);
      counted = counted_more c.loop-variable.count c.size_of-in-loop-variable.result
          (written_size v) rest _ _ _
          (c.size_of-in-loop-variable.ensures
          ∙ ap (λ ds. standing (size_of ds)) (c.as_slice-in-loop-variable-2.ensures.value
          ∙ c.in_ok-dims.ensures
          ∙ ap (map (λ e. unwrap_or (literal_number (bare e)) 0))
          c.as_slice-in-loop-variable.ensures
          ∙ sym written
          ∙ ap (map (λ e. unwrap_or (literal_number e) 0)) (sym (listed x.now.dimensions))))
          (omega (arith, c.saturating_add-count-in-loop-variable.ensures))
          (ap (λ l. sum_by written_size (map (λ v. bare_variable v.now) l))
          (drop_more items i x c.loop-variable-test.true
          ∙ ap (λ y. y ∷ drop (i + 1) items) (sym c.variable-item.is))
          ∙ sum_by-cons written_size v (map (λ v. bare_variable v.now) (drop (i + 1) items)))
          c.loop-variable.invariant.counted;
    }
