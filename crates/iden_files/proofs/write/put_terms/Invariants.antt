use Rattle.std.proofs.Common.{◌≡◌, ◌<◌, ◌++◌, ℕ, List, All, take}
use Rattle.std.specs.List.{flat_map}
use Rattle.gold_field.specs.declared.form.Term.{Term}
use Rattle.gold_field.specs.declared.gold.TheConstants.{P}
use Rattle.iden_files.specs.Spelling.{term_bytes}
use Rattle.iden_files.proofs.write.put_terms.Given as goal

pub record Inv (out before : List ℕ) (done : List Term) : Type 0 where
  pub bytes : out ≡ before ++ flat_map term_bytes done
  pub below : All (λ t. t.coef < P) done

abbrev pub invariant-loop-t : goal.invariant-loop-t
invariant-loop-t l = Inv l.out.items l.fn.out.items (take l.t-index l.terms)
