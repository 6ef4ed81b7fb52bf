-- What the values of a written file mean.
use Rattle.std.proofs.Common.{◌≡◌, ℕ, suc, ◌+◌, ◌*◌, ◌%◌, ◌<◌, ◌≤◌, nat_le, Bool, true, false, cond}
use Rattle.std.proofs.Common.{List, [], ◌∷◌, Ok, Err, refl, ap, sym, ◌∙◌, subst, arith, inl}
use Rattle.std.proofs.Common.{inr}
use Rattle.std.specs.Prelude.{All, sum_by, length, slice_index, slice_index_or}
use Rattle.std.specs.Prelude.{◌↔◌}
use Rattle.std.proofs.lemmas.Bool.{cases_lt}
use Rattle.std.proofs.lemmas.List.Sums.{sum_by-cons}
use Rattle.gold_field.specs.Form.{Holds, value_at, SignalsBelow, ConstraintBelow}
use Rattle.gold_field.specs.declared.form.Term.{Term}
use Rattle.gold_field.specs.declared.form.Constraint.{Constraint}
use Rattle.gold_field.specs.declared.gold.TheConstants.{P}
use Rattle.iden_files.specs.File.{File}
use Rattle.out_io.specs.Contents.{Contents}
use Rattle.out_io.specs.Held.{OfAll}
use Rattle.cir_ast.specs.Program.{Program}
use Rattle.cir_lc.specs.Number.{Assignment}
use Rattle.cir_sources.specs.declared.fault.LoadFault.{LoadFault}
use Rattle.cir_sources.specs.declared.fault.LoadFault.TheVariants as load
use Rattle.cir_names.specs.Loading.{IsLoaded, NotLoaded}
use Rattle.cir_inst.specs.declared.circuit.Circuit.{Circuit}
use Rattle.cir_meaning.specs.Compile.{Satisfies}
use Rattle.cir_simplify.specs.declared.types.Level.{Level}
use Rattle.cir_simplify.specs.declared.types.Simple.{Simple}
use Rattle.cir_simplify.specs.Answer.{IsOverWires}
use Rattle.cir_simplify.specs.Index.{IsGood}
use Rattle.cir_simplify.specs.Keeps.{HoldAll, WiresKeepSolutions}
use Rattle.cir_simplify.specs.Turn.{Simplified, simplified}
use Rattle.cir_simplify.specs.Wires.{is_kept, kept_below, wire_of}
use Rattle.cir_simplify.proofs.Over.{over}
use Rattle.cir_simplify.proofs.Holes.{few, many}
use Rattle.cir_compile.specs.declared.fault.CompileFault.{CompileFault}
use Rattle.cir_compile.specs.declared.fault.CompileFault.TheVariants as fault
use Rattle.cir_compile.specs.Compiled.{Task, NotCompiled, Writes}
use Rattle.cir_compile.specs.Faults.{of_load}
use Rattle.cir_compile.specs.Written.{own_count, AreValues, Extends, rules_of, file_of, Means}
use Rattle.cir_compile.proofs.Wires.{Labels, labelled, label_of, place_below}

-- the two give the same number to each signal below n
abbrev Same : ℕ → (ℕ → ℕ) → (ℕ → ℕ) → Type 0
Same n s t = (k : ℕ) → k < n → s k ≡ t k

abbrev times : (ℕ → ℕ) → Term → ℕ
times s x = x.coef * s x.signal

-- a value depends on the numbers of its own signals alone
sum_agrees : (n : ℕ) (s t : ℕ → ℕ) → Same n s t → (terms : List Term) → SignalsBelow n terms
    → sum_by (times s) terms ≡ sum_by (times t) terms
sum_agrees n s t same [] below = refl
sum_agrees n s t same (x ∷ terms) below =
    sum_by-cons (times s) x terms
    ∙ ap (λ (v : ℕ). x.coef * v + sum_by (times s) terms) (same x.signal (below 0 x (omega arith)))
    ∙ ap (λ (v : ℕ). x.coef * t x.signal + v)
    (sum_agrees n s t same terms (λ k d h. below (suc k) d (omega arith)))
    ∙ sym (sum_by-cons (times t) x terms)

value_agrees : (n : ℕ) (s t : ℕ → ℕ) → Same n s t → (terms : List Term) → SignalsBelow n terms
    → value_at s terms ≡ value_at t terms
value_agrees n s t same terms below =
    ap (λ (v : ℕ). v % P) (sum_agrees n s t same terms below)

holds_agrees : (n : ℕ) (s t : ℕ → ℕ) → Same n s t → (k : Constraint) → ConstraintBelow n k
    → Holds s k → Holds t k
holds_agrees n s t same k below h =
    let a = value_agrees n s t same k.a below.a in
    let b = value_agrees n s t same k.b below.b in
    let c = value_agrees n s t same k.c below.c in
    ap (λ (v : ℕ). (v * value_at t k.b) % P) (sym a)
    ∙ ap (λ (v : ℕ). (value_at s k.a * v) % P) (sym b) ∙ h ∙ c

-- the numbers of one assignment below n, and others from there
two_parts : (n : ℕ) (s : Assignment) (other : ℕ → ℕ) → ((k : ℕ) → other k < P) → 0 < n → Assignment
two_parts n s other small some = record {
  at = λ k. cond (nat_le n k) (other k) (s.at k);
  one = ap (λ (b : Bool). cond b (other 0) (s.at 0)) (many n 0 some) ∙ s.one;
  below = λ k. either (nat_le n k) (other k) (s.at k) (small k) (s.below k);
}
  where
    either : (b : Bool) (u v : ℕ) → u < P → v < P → cond b u v < P
    either true u v g h = g
    either false u v g h = h

low_part : (n : ℕ) (s : Assignment) (other : ℕ → ℕ) (small : (k : ℕ) → other k < P) (some : 0 < n)
    (k : ℕ) → k < n → (two_parts n s other small some).at k ≡ s.at k
unfolding two_parts
low_part n s other small some k l = ap (λ (b : Bool). cond b (other k) (s.at k)) (many n k l)

high_part : (n : ℕ) (s : Assignment) (other : ℕ → ℕ) (small : (k : ℕ) → other k < P) (some : 0 < n)
    (k : ℕ) → n ≤ k → (two_parts n s other small some).at k ≡ other k
unfolding two_parts
high_part n s other small some k l = ap (λ (b : Bool). cond b (other k) (s.at k)) (few n k l)

-- values of the wires satisfy the constraints over wires exactly when they extend, by the labels
-- of the wires
pub by_labels : (keeps : ℕ → Bool) (n : ℕ) (f : File) (list : List Constraint) → 0 < n
    → All (ConstraintBelow n) list → f.labels ≡ kept_below keeps n → f.wires ≡ length f.labels
    → WiresKeepSolutions keeps list f.constraints
    → (w : List ℕ) → AreValues f w
    → All (Holds (slice_index w)) f.constraints ↔
    ((s : Assignment) × Extends f w s × HoldAll s list)
by_labels keeps n f list some below labels wires known w values = (forth, back)
  where
    wire_values : ℕ → ℕ
    wire_values = slice_index w

    laws : All (λ k. Holds wire_values k) f.constraints ↔
        ((t : Assignment) × ((x : ℕ) → keeps x ≡ true → t.at x ≡ wire_values (wire_of keeps x))
        × HoldAll t list)
    laws = known wire_values values.one values.below

    label : (x : ℕ) → x < n → keeps x ≡ true → slice_index f.labels (wire_of keeps x) ≡ x
    label x l e = ap (λ (v : List ℕ). slice_index v (wire_of keeps x)) labels
        ∙ label_of keeps n x l e

    forth : All (Holds wire_values) f.constraints
        → (s : Assignment) × Extends f w s × HoldAll s list
    forth holds =
        let found = laws.0 holds in (
          found.0,
          record {
            agrees = λ wire l.
                let at : Labels keeps n wire = labelled keeps n wire
                (omega (arith, l, wires, ap (λ (v : List ℕ). length v) labels)) in
                ap (λ (i : ℕ). found.0.at (slice_index f.labels i)) (sym at.place)
                ∙ ap found.0.at (label at.signal at.below at.kept)
                ∙ found.1 at.signal at.kept ∙ ap wire_values at.place;
          },
          found.2,
        )

    back : (s : Assignment) × Extends f w s × HoldAll s list → All (Holds wire_values) f.constraints
    back found = laws.1 (
      whole,
      λ x e. elim (cases_lt x n) [
        | inl l ↦
            low_part n found.0 (λ k. wire_values (wire_of keeps k)) small some x l
            ∙ sym (ap found.0.at (label x l e))
            ∙ found.1.agrees (wire_of keeps x)
            (omega (
              arith,
              place_below keeps n x l e,
              wires,
              ap (λ (v : List ℕ). length v) labels,
            ))
        | inr l ↦ high_part n found.0 (λ k. wire_values (wire_of keeps k)) small some x l
      ],
      λ k d h. holds_agrees n found.0.at whole.at
          (λ x l. sym (low_part n found.0 (λ k. wire_values (wire_of keeps k)) small some x l))
          (slice_index_or list k d) (below k d h) (found.2 k d h),
    )
      where
        small : (k : ℕ) → wire_values (wire_of keeps k) < P
        small k = values.below (wire_of keeps k)

        whole : Assignment
        whole = two_parts n found.0 (λ k. wire_values (wire_of keeps k)) small some

pub means : (p : Program) (level : Level) (c : Circuit) (simple : Simple) (end : Simplified)
    → All (IsGood (length c.signals.names + 1)) c.constraints
    → All (ConstraintBelow (1 + length c.signals.names)) c.constraints
    → simplified (rules_of level c) c.constraints ≡ Ok end
    → IsOverWires (rules_of level c) end simple
    → ((s : Assignment) → Satisfies p s ↔ All (Holds s.at) c.constraints)
    → Means p (file_of c simple)
means p level c simple end good below ends wires satisfied w values = (
  λ holds. let found = known.0 holds in (found.0, found.1, (satisfied found.0).1 found.2),
  λ found. known.1 (found.0, found.1, (satisfied found.0).0 found.2),
)
  where
    keeps : ℕ → Bool
    keeps = is_kept level (own_count c) end.list

    law : WiresKeepSolutions keeps c.constraints simple.constraints
    law = subst (WiresKeepSolutions keeps c.constraints) (sym wires.constraints)
        (over (rules_of level c) c.constraints end good ends)

    known : All (Holds (slice_index w)) simple.constraints ↔
        ((s : Assignment) × Extends (file_of c simple) w s × HoldAll s c.constraints)
    known =
        let same : length c.signals.names + 1 ≡ 1 + length c.signals.names = omega arith in
        by_labels keeps (1 + length c.signals.names) (file_of c simple) c.constraints
        (omega arith) below
        (wires.wires ∙ ap (kept_below keeps) same) refl law w values

module _ (held : Contents → Type 0) (task : Task) (failed : Type 0) where
  -- a source that isn't loaded isn't compiled
  pub unloaded : (f : LoadFault) → NotLoaded held task.name task.library failed f
      → NotCompiled held task failed (of_load f)
  unloaded load.Missing none = none
  unloaded (load.Refused r) refused = λ files may. inl (refused files may)
  unloaded load.Fault failed = failed
  unloaded load.OutOfMemory u = tt

  -- nor is one whose program isn't written
  pub unwritten : (program : Program) (f : CompileFault)
      → OfAll held (λ files. IsLoaded files task.name task.library program)
      → Writes program task.level (Err f) → NotCompiled held task failed f
  unwritten program fault.Missing loaded w = absurd w
  unwritten program (fault.Refused r) loaded w = λ files may. inr (program, loaded files may, w)
  unwritten program fault.Fault loaded w = absurd w
  unwritten program fault.OutOfMemory loaded w = tt
