use Rattle.std.proofs.Common.{◌<◌, ℕ, List, All, length, sym, ap, ◌∙◌, subst}
use Rattle.gold_field.specs.declared.gold.TheConstants.{P}
use Rattle.cir_determined.specs.Marks.{marks_of}
use Rattle.cir_determined.specs.Rules.{unknown_coefs}
use Rattle.cir_determined.proofs.Kept.{coefs_small}
use Rattle.cir_determined.proofs.step.shows_bits.Goals as goal

pub are_bits-requires : goal.are_bits-requires
are_bits-requires c =
    subst (λ (xs : List ℕ). All (λ x. (0 < x) × (x < P)) xs)
    (sym (c.deref.ensures.value ∙ c.in_ok-coefs.ensures
    ∙ ap (unknown_coefs (marks_of c.args.marks.now)) c.as_slice-c.ensures.terms))
    (coefs_small (marks_of c.args.marks.now) (length c.args.marks.now) c.args.k.now.c
    c.is_formed.ensures.rises (c.is_formed.ensures.within (length c.args.marks.now) c.requires.c))
