use Rattle.std.proofs.Common.{◌*◌, ◌^◌, ◌<◌, ◌∙◌, sym, arith}
use Rattle.cir_lc.specs.Normal.{IsQuadWithin}
use Rattle.cir_meaning.specs.Compile.{group_size}
use Rattle.cir_meaning.proofs.TermCount.{terms_normal}
use Rattle.cir_assign.proofs.Counting.{numbered_terms}
use Rattle.cir_assign.proofs.terms.term_count.Goals as goal

some : 0 < 4 * group_size
unfolding group_size
some = omega arith

pub returns-then-is_past : goal.returns-then-is_past
returns-then-is_past c =
    c.size_of.ensures ∙ sym (numbered_terms (4 * group_size) (2 ^ 32) c.args.q.now
    record {
      a = c.in_ok-numbered_part.field-0;
      b = c.in_ok-numbered_part-2.field-0;
      c = c.in_ok-numbered_part-3.field-0;
    }
    c.in_ok-part.part some c.requires.left c.requires.right c.requires.within
    c.in_ok-numbered_part.ensures c.in_ok-numbered_part-2.ensures c.in_ok-numbered_part-3.ensures
    c.in_ok-part.ensures.shape c.in_order.ensures.0 c.in_order.ensures.1 c.in_order.ensures.2
    (λ w. c.in_ok-part.ensures.within _ w))

pub returns : goal.returns
returns c =
    let w : IsQuadWithin (4 * group_size) c.args.q.now = (
      c.is_past.ensures c.if-is_past.false c.requires.within.0,
      c.is_past-else-is_past.ensures c.if-is_past-2.false c.requires.within.1,
      c.is_past-else-is_past-2.ensures c.if-is_past-3.false c.requires.within.2,
    ) in
    c.size_of-2.ensures ∙ sym (terms_normal (4 * group_size) c.args.q.now c.args.k.now some
    c.requires.left c.requires.right w c.requires.normal c.in_order-2.ensures.0
    c.in_order-2.ensures.1 c.in_order-2.ensures.2 (c.requires.kept _ w))
