-- Over the same files a source compiles to one file, or has one refusal.
use Rattle.std.proofs.Common.{◌≡◌, ℕ, inl, inr, List, None, Result, Ok, Err, ap, sym, subst, ◌∙◌}
use Rattle.out_io.specs.Contents.{Contents}
use Rattle.gold_field.specs.declared.form.Constraint.{Constraint}
use Rattle.iden_files.specs.File.{File}
use Rattle.cir_ast.specs.Program.{Program}
use Rattle.cir_ast.specs.declared.refusal.Refusal.{Refusal}
use Rattle.cir_names.proofs.OneLoading.{one_program, one_load_fault, loaded_or_refused}
use Rattle.cir_names.proofs.OneLoading.{there_or_loaded, there_or_fault}
use Rattle.cir_inst.specs.declared.circuit.Circuit.{Circuit}
use Rattle.cir_inst.proofs.OneCircuit.{one_instance, one_instance_refusal, instance_or_refusal}
use Rattle.cir_simplify.specs.declared.types.Level.{Level}
use Rattle.cir_simplify.specs.declared.types.Rules.{Rules}
use Rattle.cir_simplify.specs.declared.types.Simple.{Simple}
use Rattle.cir_simplify.specs.Answer.{IsOverWires, Simplifies}
use Rattle.cir_simplify.specs.Turn.{Simplified, simplified}
use Rattle.cir_compile.specs.Compiled.{IsCompiled, IsMeaningless, IsRefused, IsTooLarge}
use Rattle.cir_compile.specs.Compiled.{IsUnwritten, IsWritten, Task, terms_refusal}
use Rattle.cir_compile.specs.Written.{file_of, rules_of}

one_over : (r : Rules) (end : Simplified) (s t : Simple) → IsOverWires r end s
    → IsOverWires r end t → s ≡ t
one_over r end s t x y =
    let wires = x.wires ∙ sym y.wires in
    let constraints = x.constraints ∙ sym y.constraints in
    let solved = x.solved ∙ sym y.solved in
    λ i. record { constraints = constraints i; wires = wires i; solved = solved i }

one_simple : (r : Rules) (list : List Constraint) (s t : Simple) → Simplifies r list (Ok s)
    → Simplifies r list (Ok t) → s ≡ t
one_simple r list s t (end, e, x) (other, f, y) =
    let same : end ≡ other = cc in
    one_over r other s t (subst (λ (v : Simplified). IsOverWires r v s) same x) y

module _ (program : Program) (level : Level) where
  one_written : (f g : File) → IsWritten program level f → IsWritten program level g → f ≡ g
  one_written f g x y =
      let circuit : x.circuit ≡ y.circuit =
      one_instance program x.circuit y.circuit x.instantiated y.instantiated in
      let simple : x.simple ≡ y.simple =
      one_simple (rules_of level y.circuit) y.circuit.constraints x.simple y.simple
      (subst
      (λ (c : Circuit). Simplifies (rules_of level c) c.constraints (Ok x.simple)) circuit
      x.simplified) y.simplified in
      x.file ∙ ap (λ (c : Circuit). file_of c x.simple) circuit
      ∙ ap (file_of y.circuit) simple ∙ sym y.file

  -- of two circuits of the program, simplification gives one answer
  one_answer : (c d : Circuit) (a b : Result Simplified ℕ) → c ≡ d
      → simplified (rules_of level c) c.constraints ≡ a
      → simplified (rules_of level d) d.constraints ≡ b → a ≡ b
  one_answer c d a b same e f =
      sym e ∙ ap (λ (k : Circuit). simplified (rules_of level k) k.constraints) same ∙ f

  one_too_large : (r s : Refusal) → IsTooLarge program level r → IsTooLarge program level s → r ≡ s
  one_too_large r s x y =
      let circuit = one_instance program x.circuit y.circuit x.instantiated y.instantiated in
      let answer : Err x.count ≡ Err y.count =
      one_answer x.circuit y.circuit (Err x.count) (Err y.count) circuit x.terms y.terms in
      let count : x.count ≡ y.count = cc in
      x.refusal ∙ ap (terms_refusal program) count ∙ sym y.refusal

  meaningless_or_large : (r s : Refusal) → IsMeaningless program r → IsTooLarge program level s → ⊥
  meaningless_or_large r s x y =
      instance_or_refusal program y.circuit r y.instantiated x.instantiated

  one_unwritten : (r s : Refusal) → IsUnwritten program level r → IsUnwritten program level s
      → r ≡ s
  one_unwritten r s (inl x) (inl y) =
      one_instance_refusal program r s x.instantiated y.instantiated
  one_unwritten r s (inl x) (inr y) = absurd (meaningless_or_large r s x y)
  one_unwritten r s (inr x) (inl y) = absurd (meaningless_or_large s r y x)
  one_unwritten r s (inr x) (inr y) = one_too_large r s x y

  written_or_not : (f : File) (r : Refusal) → IsWritten program level f
      → IsUnwritten program level r → ⊥
  written_or_not f r x (inl y) =
      instance_or_refusal program x.circuit r x.instantiated y.instantiated
  written_or_not f r x (inr y) =
      let circuit = one_instance program x.circuit y.circuit x.instantiated y.instantiated in
      let answer : Ok x.simplified.0 ≡ Err y.count =
      one_answer x.circuit y.circuit (Ok x.simplified.0) (Err y.count) circuit x.simplified.1
      y.terms in
      cc

module _ (files : Contents) (task : Task) where
  pub one_file : (f g : File) → IsCompiled files task f → IsCompiled files task g → f ≡ g
  one_file f g x y =
      let same : x.program ≡ y.program =
      one_program files task.name task.library x.program y.program x.loaded y.loaded in
      one_written y.program task.level f g
      (subst (λ (p : Program). IsWritten p task.level f) same x.written) y.written

  pub one_refusal : (r s : Refusal) → IsRefused files task r → IsRefused files task s → r ≡ s
  one_refusal r s (inl x) (inl y) = one_load_fault files task.name task.library r s x y
  one_refusal r s (inl x) (inr (p, y, z)) =
      absurd (loaded_or_refused files task.name task.library p r y x)
  one_refusal r s (inr (p, x, z)) (inl y) =
      absurd (loaded_or_refused files task.name task.library p s x y)
  one_refusal r s (inr (p, x, z)) (inr (q, y, w)) =
      let same : p ≡ q = one_program files task.name task.library p q x y in
      one_unwritten q task.level r s
      (subst (λ (k : Program). IsUnwritten k task.level r) same z) w

  pub compiled_or_refused : (f : File) (r : Refusal) → IsCompiled files task f
      → IsRefused files task r → ⊥
  compiled_or_refused f r x (inl y) =
      loaded_or_refused files task.name task.library x.program r x.loaded y
  compiled_or_refused f r x (inr (p, y, z)) =
      let same : x.program ≡ p =
      one_program files task.name task.library x.program p x.loaded y in
      written_or_not p task.level f r
      (subst (λ (k : Program). IsWritten k task.level f) same x.written) z

  pub there_or_compiled : (f : File) → files task.name ≡ None → IsCompiled files task f → ⊥
  there_or_compiled f none x =
      there_or_loaded files task.name task.library x.program none x.loaded

  pub there_or_refused : (r : Refusal) → files task.name ≡ None → IsRefused files task r → ⊥
  there_or_refused r none (inl x) = there_or_fault files task.name task.library r none x
  there_or_refused r none (inr (p, x, z)) =
      there_or_loaded files task.name task.library p none x
