use Rattle.std.proofs.Common.{◌≡◌, arith, refl, sym, subst, ◌∙◌}
use Rattle.cir_lexer.specs.Steps.{Takes}
use Rattle.cir_lexer.proofs.Taking.{faults, stray_mark, takes_none, takes_more, takes_mark}
use Rattle.cir_lexer.proofs.front.underscores.Goals as goal

pub returns-then-count-eq0 : goal.returns-then-count-eq0
returns-then-count-eq0 c =
    faults c.args.text.now c.args.offset _ _ c.fault_at.ensures
    (stray_mark c.args.text.now c.requires.here.some c.requires.here.class c.requires.no_name
    (sym c.underscores_len-count.ensures ∙ c.if-count-eq0.true))

pub loop-i-init : goal.loop-i-init
loop-i-init c = takes_none c.args.text.now c.args.offset _ _ refl

pub loop-i-preserved : goal.loop-i-preserved
loop-i-preserved c =
    takes_more c.args.text.now c.args.offset c.loop-i.i _ _ _ _ 1 refl c.loop-i.invariant
    (takes_mark c.args.text.now c.loop-i.i _ _ _ (omega (arith, c.underscores_len-count.ensures))
    c.requires.no_name c.in_ok-push.ensures.ok)

pub returns : goal.returns
returns c = let e : c.loop-i.i ≡ c.underscores_len-count.result = omega arith in (
  omega arith,
  subst (Takes c.args.text.now c.args.offset c.args.tokens.now.items c.loop-i.tokens.items) e
      c.loop-i.invariant,
)
