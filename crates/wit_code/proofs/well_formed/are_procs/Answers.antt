use Rattle.std.proofs.Common.{◌≡◌, subst, ◌∙◌, arith, rules}
use Rattle.std.proofs.lemmas.Option.{slice_get_within, get_or_from_slice_get}
use borrow.Author.Count.{below_more}
use Rattle.wit_code.specs.declared.code.Stands.TheVariants.{InProc}
use Rattle.wit_code.specs.Code.{IsCode}
use Rattle.wit_code.proofs.well_formed.are_procs.Goals as goal

pub loop-proc-preserved : goal.loop-proc-preserved
loop-proc-preserved c =
    let proc = c.proc-item.result in
    let fits : IsCode c.args.procs.now InProc proc = c.is_code.ensures.0 (search rules) in
    below_more _ c.loop-proc.proc-index c.loop-proc.invariant (λ found h.
    let same : proc ≡ found = c.proc-item.is
    ∙ get_or_from_slice_get c.args.procs.now c.loop-proc.proc-index found proc h in
    subst (IsCode c.args.procs.now InProc) same fits)

pub returns : goal.returns
returns c = (
  λ _ f callee h. c.loop-proc.invariant f
      (omega (arith, slice_get_within c.args.procs.now f callee h)) callee h,
  λ _. search rules,
)
