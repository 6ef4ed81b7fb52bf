-- A circuit's list can be simplified, and what comes of it is a file.
use Rattle.std.proofs.Common.{◌≡◌, ℕ, ◌+◌, ◌<◌, ◌||◌, nat_le, Bool, true, List, [], ◌∷◌, length}
use Rattle.std.proofs.Common.{sum_by, All, Option, Some, None, Ok, inl, inr, refl, ap, sym, subst}
use Rattle.std.proofs.Common.{◌∙◌, arith}
use Rattle.std.proofs.lemmas.List.{length-map}
use Rattle.std.proofs.lemmas.List.Elements.{All-nil, All-cons}
use Rattle.gold_field.specs.declared.form.Term.{Term}
use Rattle.gold_field.specs.declared.form.Constraint.{Constraint}
use Rattle.gold_field.specs.Form.{ConstraintBelow}
use Rattle.iden_files.specs.File.{IsFile, InLimits, term_count}
use Rattle.cir_ast.specs.Program.{Program}
use Rattle.cir_lc.specs.Normal.{constant_of, kept_of}
use Rattle.cir_lc.specs.Sparse.{IsNormalForm}
use Rattle.cir_meaning.specs.Source.{Equation, IsConstraintOf, IsSource}
use Rattle.cir_inst.specs.declared.circuit.Circuit.{Circuit}
use Rattle.cir_inst.specs.Compiled.{Instantiates, IsWithinLimits, name_of}
use Rattle.cir_simplify.specs.declared.types.Level.{Level}
use Rattle.cir_simplify.specs.declared.types.Simple.{Simple}
use Rattle.cir_simplify.specs.Answer.{IsOverWires}
use Rattle.cir_simplify.specs.Index.{IsGood}
use Rattle.cir_simplify.specs.Turn.{Simplified, simplified}
use Rattle.cir_simplify.specs.Wires.{is_kept, is_left, keeps_all, kept_below, wire_of, renamed_in}
use Rattle.cir_simplify.proofs.Holes.{few}
use Rattle.cir_simplify.proofs.Wiring.{wire_less}
use Rattle.cir_compile.specs.Written.{own_count, rules_of, file_of}
use Rattle.cir_compile.proofs.Simplified.{Fine, stays_fine, same_terms, list_below, left_is_kept}
use Rattle.cir_compile.proofs.Simplified.{or_left, or_right}
use Rattle.cir_compile.proofs.Wires.{few_kept, all_kept, place_below}

normal_form : (o p : Option ℕ) (a b : List Term) (k : Constraint) → constant_of a ≡ o
    → constant_of b ≡ p → k.a ≡ kept_of o p a → k.b ≡ kept_of o p b → IsNormalForm k
normal_form (Some x) p a b k e f g h = inl (g, h)
normal_form None (Some y) a b k e f g h = inl (g, h)
normal_form None None a b k e f g h = inr (ap constant_of g ∙ e, ap constant_of h ∙ f)

good_of : (n : ℕ) (e : Equation) (k : Constraint) → IsConstraintOf n e k → IsGood n k
good_of n e k c = record {
  normal = normal_form (constant_of c.quad.a)
      (constant_of c.quad.b) c.quad.a c.quad.b k refl refl c.normal.left c.normal.right;
  rises = (c.rises_left, c.rises_right, c.rises_product);
  within = c.within_constraint;
}

source_good : (n : ℕ) (es : List Equation) (ks : List Constraint) → IsSource n es ks
    → All (IsGood n) ks
source_good n [] [] s = All-nil (IsGood n)
source_good n [] (k ∷ ks) s = absurd s
source_good n (e ∷ es) [] s = absurd s
source_good n (e ∷ es) (k ∷ ks) s = All-cons (IsGood n) k ks (good_of n e k s.0)
    (source_good n es ks s.1)

pub circuit_good : (p : Program) (c : Circuit) → Instantiates p (Ok c)
    → All (IsGood (length c.signals.names + 1)) c.constraints
circuit_good p c (m, h, is) =
    let same : 1 + length m.names ≡ length c.signals.names + 1 =
    omega (arith, ap length is.names, length-map c.signals.names name_of) in
    subst (λ (n : ℕ). All (IsGood n) c.constraints) same
    (source_good (1 + length m.names) m.equations c.constraints is.source)

pub is_file : (level : Level) (c : Circuit) (simple : Simple) (end : Simplified)
    → All (IsGood (length c.signals.names + 1)) c.constraints
    → IsWithinLimits c → simplified (rules_of level c) c.constraints ≡ Ok end
    → IsOverWires (rules_of level c) end simple
    → IsFile (file_of c simple)
is_file level c simple end good limits ends over = record {
  labelled = refl;
  wired = subst (All (ConstraintBelow (length simple.wires))) (sym over.constraints)
      (list_below keeps (length simple.wires) (length c.signals.names + 1) end.list fine.good
      (λ x l e. omega (arith, place_below keeps (length c.signals.names + 1) x l e, count))
      (λ x e. left_is_kept level (own_count c) x end.list e));
  numbered =
      omega (
        arith,
        all_kept keeps (own_count c + 1) own,
        wire_less keeps (own_count c + 1) (length c.signals.names + 1)
            (omega (arith, limits.own)),
        count,
      );
}
  where
    keeps : ℕ → Bool
    keeps = is_kept level (own_count c) end.list

    fine : Fine (rules_of level c) (length c.constraints) end.list
    fine = stays_fine (rules_of level c) c.constraints end good ends

    count : length simple.wires ≡ length (kept_below keeps (length c.signals.names + 1))
    count = ap (λ (v : List ℕ). length v) over.wires

    own : (x : ℕ) → x < own_count c + 1 → keeps x ≡ true
    own x l = or_left (keeps_all level || nat_le x (own_count c)) (is_left end.list x)
        (or_right (keeps_all level) (nat_le x (own_count c))
        (few x (own_count c) (omega (arith, l))))

pub in_limits : (level : Level) (c : Circuit) (simple : Simple) (end : Simplified)
    → All (IsGood (length c.signals.names + 1)) c.constraints
    → IsWithinLimits c → simplified (rules_of level c) c.constraints ≡ Ok end
    → IsOverWires (rules_of level c) end simple
    → InLimits (file_of c simple)
in_limits level c simple end good limits ends over = record {
  wires = omega (
    arith,
    few_kept keeps (length c.signals.names + 1),
    ap (λ (v : List ℕ). length v) over.wires,
    limits.few_signals,
  );
  constraints =
      omega (
        arith,
        ap (λ (v : List Constraint). length v) over.constraints,
        length-map end.list (renamed_in (wire_of keeps)),
        fine.few,
        limits.few_constraints,
      );
  terms = omega (
    arith,
    ap (λ (v : List Constraint). sum_by term_count v) over.constraints,
    same_terms (wire_of keeps) end.list,
    fine.terms,
  );
}
  where
    keeps : ℕ → Bool
    keeps = is_kept level (own_count c) end.list

    fine : Fine (rules_of level c) (length c.constraints) end.list
    fine = stays_fine (rules_of level c) c.constraints end good ends
