use Rattle.std.proofs.Common.{◌≡◌, ◌-◌, ℕ, List, All, length, vec_len, Vec, Global}
use Rattle.gold_field.specs.declared.form.Term.{Term}
use Rattle.binary_format.specs.Reading.{repeated}
use Rattle.binary_format.proofs.Loop.{with_front}
use Rattle.iden_files.specs.Meaning.{IsTermOver}
use Rattle.iden_files.specs.ReadR1cs.{term_at}
use Rattle.iden_files.proofs.constraints.repeated_terms.Given as goal

pub record Inv (wires count end end0 counter : ℕ) (terms : Vec Term Global)
    (rest rest0 : List ℕ) : Type 0 where
  pub ends : end ≡ end0
  pub so_far : with_front terms.items (repeated (term_at wires end0) (count - counter) rest)
      ≡ repeated (term_at wires end0) count rest0
  pub over : All (IsTermOver wires) terms.items
  pub counted : vec_len terms ≡ counter
  pub len : vec_len terms ≡ length terms.items

abbrev pub invariant-loop : goal.invariant-loop
invariant-loop l =
    Inv l.wires l.count l.fields.end l.fn.fields.end l.counter l.terms l.fields.rest.now
    l.fn.fields.rest.now
