use Rattle.std.proofs.Common.{sym, refl, ◌∙◌}
use Rattle.std.proofs.lemmas.Bool.{not-true}
use Rattle.cir_lc.specs.Normal.{constant_of}
use Rattle.cir_determined.proofs.Kept.{kept_linear, kept_product, none_of}
use Rattle.cir_determined.proofs.normal.is_normal.Goals as goal

pub returns-then-is_empty : goal.returns-then-is_empty
returns-then-is_empty c = λ t n h.
    kept_linear n c.args.k.now (c.if-is_empty.ensures.0 refl) (c.is_empty-then-is_empty.ensures.0 t)
    h.c (c.is_formed.ensures.within n h.c) c.is_formed.ensures.rises

pub returns : goal.returns
returns c = λ t n h.
    kept_product n c.args.k.now
    (none_of (constant_of c.args.k.now.a) (sym c.if-is_constant.ensures))
    (none_of (constant_of c.args.k.now.b) (sym c.is_constant-2.ensures ∙ not-true _ t)) h.c
    (c.is_formed.ensures.within n h.c) c.is_formed.ensures.rises
