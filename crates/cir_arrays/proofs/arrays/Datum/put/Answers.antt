use Rattle.std.proofs.Common.{◌≡◌, ℕ, ◌<◌, ◌≤◌, ◌⊎◌, inl, inr, length, set, ap, ◌∙◌, refl, arith}
use Rattle.std.proofs.lemmas.List.{length-set}
use Rattle.cir_values.specs.Meant.{meant}
use Rattle.cir_meaning.specs.Places.{numbers_from}
use Rattle.cir_meaning.specs.Arrays.{Datum, put_items}
use Rattle.cir_arrays.specs.Shown.{datum_of}
use Rattle.cir_arrays.proofs.PartsRead.{few_items}
use Rattle.cir_arrays.proofs.Writes.{put_one, put_step, put_end, min_either}
use Rattle.cir_arrays.proofs.arrays.Datum.put.Goals as goal

pub returns-then-count-gt0 : goal.returns-then-count-gt0
returns-then-count-gt0 c =
    let old = datum_of c.args.self.now in
    let e : put_items (numbers_from c.args.first c.args.count) (datum_of c.args.new).items old.items
    ≡ set old.items c.args.first (meant c.in-Number.v) =
    rw c.in-Number.is (put_one c.args.first c.args.count (meant c.in-Number.v) old.items
    c.if-count-gt0.true) in
    c.set.ensures ∙ rw e refl

pub loop-at-preserved : goal.loop-at-preserved
loop-at-preserved c =
    let at : ℕ = c.loop-at.at in
    let h : at < c.args.count = omega (arith, c.min-at-end.ensures) in
    let k : at < length c.loop-at.items.items =
    omega (arith, c.min-at-end.ensures, c.len.ensures, c.loop-at.invariant.many) in
    record {
      whole = put_step c.args.first at c.args.count c.saturating_add.result c.loop-at.items.items _
          (datum_of c.loop-at.self).items (datum_of c.set-in-loop-at.new.self).items _
          c.replace-v.result c.replace-v.new.dest h k (few_items c.loop-at.self) refl
          (ap (λ (d : Datum). d.items) c.set-in-loop-at.ensures) c.saturating_add.ensures
          (rw c.replace-v.ensures.value c.index_mut.ensures.value) c.loop-at.invariant.whole;
      dims = ap (λ (d : Datum). d.dims) c.set-in-loop-at.ensures ∙ c.loop-at.invariant.dims;
      many = length-set c.loop-at.items.items at c.replace-v.new.dest ∙ c.loop-at.invariant.many;
    }

pub returns-after-loop-at : goal.returns-after-loop-at
returns-after-loop-at c =
    let over : (length c.loop-at.items.items ≤ c.loop-at.at) ⊎ (c.args.count ≤ c.loop-at.at) =
    min_either _ _ _
    (omega (arith, c.min-at-end.ensures, c.len.ensures, c.loop-at.invariant.many)) in
    let e = put_end c.args.first c.loop-at.at c.args.count c.loop-at.items.items
    (datum_of c.loop-at.self).items _ (elim over [ inl h ↦ inr h | inr h ↦ inl h ])
    c.loop-at.invariant.whole in
    rw c.in-Array.is (λ i. record { dims = c.loop-at.invariant.dims i; items = e i })
