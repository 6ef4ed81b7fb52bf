use Rattle.std.proofs.Common.{◌≡◌, ℕ, length, sym, subst, arith}
use Rattle.wit_flow.specs.declared.drafting.Draft.{Draft}
use Rattle.wit_flow.specs.Draft.{CanClose, HasCome, next_of}
use Rattle.wit_flow.proofs.Strands.{closes}
use Rattle.wit_flow.proofs.drafting.draft_of.Goals as goal
use Rattle.wit_flow.proofs.drafting.draft_of.Goals.{then-draft-gt0+in_ok-close, else-draft-gt0}

pub returns : goal.returns
returns c =
    let steps = c.args.steps.now in let a = c.loop-at.draft in let inv = c.loop-at.invariant in
    let at : next_of a ≡ length steps = let n = inv.next in let t = c.loop-at-test.false in
    let e = c.loop-at.auto.at-end in omega arith in
    let P : Draft → Type 0 = λ d. HasCome steps c.args.cells (length steps) d × (d.count ≡ 0) in
    elim c.if-draft-gt0.branch [
      | then-draft-gt0+in_ok-close w ↦ (
          let can : CanClose steps a =
          record { some = w.if-draft-gt0.true; ended = λ lt j. absurd (omega arith) } in
          let h = closes steps a w.close.new.self inv.draft can w.in_ok-close.ensures in
          let W : ℕ → Type 0 = λ n. HasCome steps n (next_of a) w.close.new.self in
          let N : ℕ → Type 0 = λ n. HasCome steps c.args.cells n w.close.new.self in
          subst P (sym w.draft-is) (subst N at (subst W inv.wide h), w.in_ok-close.ensures.count))
      | else-draft-gt0 w ↦ (
          let N : ℕ → Type 0 = λ n. HasCome steps c.args.cells n a in
          let e : c.loop-at.at ≡ length steps = let n = inv.next in omega arith in
          let z : a.count ≡ 0 = let f = w.if-draft-gt0.false in omega arith in
          subst P (sym w.draft-is) (subst N e inv, z))
    ]
