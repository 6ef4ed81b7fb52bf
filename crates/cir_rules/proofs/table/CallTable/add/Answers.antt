use Rattle.std.proofs.Common.{◌≡◌, ◌∙◌, Bool, true, false, [], ◌∷◌, ◌++◌, ℕ, ap, sym, subst}
use Rattle.std.specs.Prelude.{map, is_some, Option}
use Rattle.std.proofs.lemmas.List.{map-append}
use Rattle.cir_meaning.specs.Functions.{same_made}
use Rattle.cir_rules.specs.Shown.{made_of}
use Rattle.cir_rules.specs.Table.{place_in, AreTold}
use Rattle.cir_rules.proofs.Placing.{added, none_if, ok_of, told_more}
use Rattle.cir_rules.proofs.table.CallTable.add.Goals as goal

pub returns-then-contains_key : goal.returns-then-contains_key
returns-then-contains_key c =
    let call = made_of c.args.call in
    sym (added (map made_of c.args.self.now.calls.items) call true
    (ap (λ (o : Option ℕ). is_some o) (sym (c.args.self.now.told c.args.call))
    ∙ sym c.contains_key.ensures ∙ c.if-contains_key.true))

pub invariant_of-self-else-is_err : goal.invariant_of-self-else-is_err
invariant_of-self-else-is_err c =
    let old = c.args.self.now in
    let call = made_of c.args.call in
    let none = none_if (place_in (λ m. same_made m call) (map made_of old.calls.items))
    (ap (λ (o : Option ℕ). is_some o) (sym (old.told c.args.call))
    ∙ sym c.contains_key.ensures ∙ c.if-contains_key.false) in
    record {
      told = subst (AreTold c.insert.new.self) (sym c.in_ok-push.ensures.items)
          (told_more old.places c.insert.new.self old.calls.items c.args.call c.in_ok-copy.copy
          c.len-place.result old.told
          (ok_of c.insert.result _ (sym c.is_err.ensures.value ∙ c.if-is_err.false)
          c.insert.ensures.updates) c.in_ok-copy.ensures none
          (c.len-place.ensures ∙ old.calls.ok.0));
    }

pub returns : goal.returns
returns c =
    let known = map made_of c.args.self.now.calls.items in
    let call = made_of c.args.call in
    ap (map made_of) c.in_ok-push.ensures.items
    ∙ map-append made_of c.args.self.now.calls.items _
    ∙ sym (added known call false
    (ap (λ (o : Option ℕ). is_some o) (sym (c.args.self.now.told c.args.call))
    ∙ sym c.contains_key.ensures ∙ c.if-contains_key.false))
