use Rattle.std.proofs.Common.{◌≡◌, ℕ, ◌+◌, Bool, take, drop, length, eqb, ltb, cond, Some, None}
use Rattle.std.proofs.Common.{sym, ◌∙◌, subst, rules, tests}
use Rattle.std.specs.List.{position_or_len, before_first, after_first}
use Rattle.std.proofs.lemmas.List.{take_rest}
use Rattle.std.proofs.lemmas.Iterator.{YieldsList-from_slice}
use Rattle.std.proofs.lemmas.Iterator.Search.{position_from_yields_List}
use Rattle.text_lines.specs.Lines.{split_once}
use Rattle.text_lines.proofs.Pieces.{when_none, when_some}
use Rattle.text_lines.proofs.lines.split_once.Goals as goal

pub returns-in_default-clause-split : goal.returns-in_default-clause-split
returns-in_default-clause-split c =
    let p : ℕ → Bool = λ b. eqb b c.args.byte in
    let found : c.position.result ≡ cond (ltb (position_or_len p c.args.bytes.now)
    (length c.args.bytes.now)) (Some (position_or_len p c.args.bytes.now)) None =
    position_from_yields_List p _ _ c.position.result c.position.ensures.ran
    (YieldsList-from_slice _ c.iter.ensures.rest) (λ x b q k. search (rules, tests)) in
    when_none (ltb (position_or_len p c.args.bytes.now) (length c.args.bytes.now))
    (position_or_len p c.args.bytes.now)
    (before_first p c.args.bytes.now, after_first p c.args.bytes.now)
    (sym found ∙ c.in_default.is)

pub returns-clause-split : goal.returns-clause-split
returns-clause-split c =
    let p : ℕ → Bool = λ b. eqb b c.args.byte in
    let found : c.position.result ≡ cond (ltb (position_or_len p c.args.bytes.now)
    (length c.args.bytes.now)) (Some (position_or_len p c.args.bytes.now)) None =
    position_from_yields_List p _ _ c.position.result c.position.ensures.ran
    (YieldsList-from_slice _ c.iter.ensures.rest) (λ x b q k. search (rules, tests)) in
    let w = when_some (ltb (position_or_len p c.args.bytes.now) (length c.args.bytes.now))
    (position_or_len p c.args.bytes.now) c.in-Some.place
    (before_first p c.args.bytes.now, after_first p c.args.bytes.now)
    (sym found ∙ c.in-Some.is) in
    let P : ℕ → Type 0 = λ n. split_once c.args.byte c.args.bytes.now
    ≡ Some (take n c.args.bytes.now, drop (n + 1) c.args.bytes.now) in
    rw take_rest (subst P w.1 w.0)
