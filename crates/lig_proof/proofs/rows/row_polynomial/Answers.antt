use Rattle.std.proofs.Common.{◌≡◌, ◌^◌, List, ℕ, length, get_or, ◌∙◌, sym, ap, subst, arith}
use Rattle.std.proofs.lemmas.List.{with_items_is}
use Rattle.std.proofs.lemmas.Nat.{mod_below}
use Rattle.gold_field.specs.declared.gold.TheConstants.{P}
use Rattle.gold_ntt.specs.Transform.{IsTransform}
use Rattle.lig_proof.specs.Encoding.{Interpolates}
use Rattle.lig_proof.specs.Points.{width_log}
use Rattle.lig_proof.proofs.Interpolants.{width_is, all_below}
use Rattle.lig_proof.proofs.rows.row_polynomial.Goals as goal

pub intt-requires : goal.intt-requires
intt-requires c =
    let width = width_is c.args.params.now c.requires.params in
    let depth = width.depth in
    let columns = width.columns in
    record {
      log = width_log c.args.params.now;
      small = omega arith;
      power = ap length (c.deref_mut.ensures.value ∙ c.in_ok-coefs.ensures.items)
          ∙ c.requires.row ∙ width.power;
    }

pub returns : goal.returns
returns c =
    let p = c.args.params.now in
    let e = width_log p in
    let old = c.deref_mut.result.now in
    let new = c.intt.new.a in
    let width = width_is p c.requires.params in
    let is : old ≡ c.args.row.now = c.deref_mut.ensures.value ∙ c.in_ok-coefs.ensures.items in
    let size : length old ≡ 2 ^ e = ap length is ∙ c.requires.row ∙ width.power in
    let back : IsTransform e new old = c.intt.ensures.undone e size in
    let count : length new ≡ p.l = sym back.same_length ∙ ap length is ∙ c.requires.row in
    let same =
    with_items_is c.in_ok-coefs.coefs new
    (omega (arith, c.in_ok-coefs.ensures.len, c.requires.row)) in
    let Is : List ℕ → Type 0 = λ xs. Interpolates p c.args.row.now xs in
    let Row : List ℕ → Type 0 = λ row. Interpolates p row new in
    subst Is (sym same) (subst Row is (record {
      degree = record {
        count = count;
        each = all_below new (λ k low. let own = c.intt.ensures.undoes e size new back k low
            in omega (arith, mod_below (get_or new k 0) P (omega arith)));
      };
      values = back;
    }))
