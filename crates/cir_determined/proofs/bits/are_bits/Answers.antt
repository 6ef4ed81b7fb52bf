use Rattle.std.proofs.Common.{◌≢◌, ℕ, ◌*◌, ◌^◌, ◌%◌, ◌==◌, List, [], length, arith, refl, ap}
use Rattle.std.proofs.Common.{sym, ◌∙◌, subst}
use Rattle.std.proofs.lemmas.Bool.{false≢true}
use Rattle.gold_field.specs.declared.gold.TheConstants.{P}
use borrow.Author.Count.{below_more}
use Rattle.cir_determined.specs.Bits.{ArePowersBy}
use Rattle.cir_determined.proofs.Factors.{bits_found, bits_none, doubled}
use Rattle.cir_determined.proofs.bits.are_bits.Goals as goal

pub returns-then-are_powers : goal.returns-then-are_powers
returns-then-are_powers c =
    let some : c.args.coefs.now ≢ [] =
    λ e. false≢true (c.if-is_empty.ensures ∙ ap (λ (xs : List ℕ). length xs == 0) e) in (
      λ t. (
        some,
        bits_found c.args.coefs.now c.loop-exponent.factor some c.requires
            (c.if-are_powers.ensures.0 refl),
      ),
      λ h. refl,
    )

pub loop-exponent-preserved : goal.loop-exponent-preserved
loop-exponent-preserved c = (
  doubled c.in-Some.inverse c.loop-exponent.exponent c.loop-exponent.factor c.add-factor.result
      c.loop-exponent.invariant.0 c.add-factor.ensures,
  below_more (λ (j : ℕ). ArePowersBy ((c.in-Some.inverse * 2 ^ j) % P) c.args.coefs.now → ⊥)
      c.loop-exponent.exponent c.loop-exponent.invariant.1
      (λ p. false≢true (c.if-are_powers.ensures.1
      (subst (λ (g : ℕ). ArePowersBy g c.args.coefs.now) (sym c.loop-exponent.invariant.0) p))),
)

pub returns : goal.returns
returns c = (
  λ f. absurd (false≢true f),
  λ h. absurd (bits_none c.args.coefs.now c.in-Some.inverse c.index-coefs-0.result h.0
      (ap (λ (x : ℕ). (x * c.in-Some.inverse) % P) (sym c.index-coefs-0.is)
      ∙ c.in-Some.ensures.inverse)
      (λ j l. c.loop-exponent.invariant.1 j (omega arith)) h.1),
)
