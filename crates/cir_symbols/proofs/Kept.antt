-- The signals that simplification keeps: signal 0 and others of the table, rising.
use Rattle.std.proofs.Common.{◌≡◌, ℕ, zero, suc, ◌+◌, ◌<◌, ◌≤◌, Bool, true}
use Rattle.std.proofs.Common.{false, cond, List, [], ◌∷◌, ◌++◌, length, get_or, Some, Ok}
use Rattle.std.proofs.Common.{refl, sym, ap, subst, arith, slice_get, ◌⊎◌, inl, inr}
use Rattle.std.proofs.Common.{◌||◌, add-one}
use Rattle.std.specs.List.{AllByRecursion}
use Rattle.std.specs.Prelude.{All}
use Rattle.std.specs.List.Sorted.{IsStrictlyIncreasing}
use Rattle.std.proofs.lemmas.Bool.{cases_lt, le-leb}
use Rattle.std.proofs.lemmas.List.{get_or_append_left, get_or_at, append-nil, length-append}
use Rattle.std.proofs.lemmas.List.Elements.{All-from_recursion, All-get_or}
use Rattle.cir_meaning.proofs.Rows.{all_append}
use Rattle.gold_field.specs.declared.form.Constraint.{Constraint}
use Rattle.cir_simplify.specs.declared.types.Level.{Level}
use Rattle.cir_simplify.specs.declared.types.Level.TheVariants.{O0, O1, O2}
use Rattle.cir_simplify.specs.Wires.{is_left, is_kept, kept_below}
use Rattle.cir_simplify.specs.Answer.{Simplifies}
use Rattle.cir_inst.specs.Compiled.{Instantiates}
use Rattle.cir_inst.specs.declared.circuit.Circuit.{Circuit}
use Rattle.cir_inst.proofs.OneCircuit.{one_instance}
use Rattle.cir_simplify.specs.declared.types.Simple.{Simple}
use Rattle.cir_compile.specs.Compiled.{IsWritten}
use Rattle.cir_compile.specs.Written.{own_count, rules_of}
use Rattle.cir_ast.specs.Program.{Program}
use Rattle.iden_files.specs.File.{File}
use Rattle.sym_file.specs.Table.{AreKept}

still_there : (xs ys : List ℕ) (k x : ℕ) → slice_get xs k ≡ Some x
    → slice_get (xs ++ ys) k ≡ Some x
still_there [] ys k x e = cc
still_there (y ∷ xs) ys zero x e = e
still_there (y ∷ xs) ys (suc k) x e = still_there xs ys k x e

module _ (keeps : ℕ → Bool) where
  first_kept : keeps 0 ≡ true → (n : ℕ) → slice_get (kept_below keeps (suc n)) 0 ≡ Some 0
  first_kept h zero =
      ap (λ (b : Bool). slice_get ([] ++ cond b (0 ∷ []) []) 0) h
  first_kept h (suc n) =
      still_there (kept_below keeps (suc n)) (cond (keeps (suc n)) (suc n ∷ []) []) 0 0
      (first_kept h n)

  -- each is below the bound
  last_below : (b : Bool) (n m : ℕ) → n < m
      → AllByRecursion (λ (s : ℕ). s < m) (cond b (n ∷ []) [])
  last_below true n m l = (l, tt)
  last_below false n m l = tt

  below : (n m : ℕ) → n ≤ m → AllByRecursion (λ (s : ℕ). s < m) (kept_below keeps n)
  below zero m l = tt
  below (suc n) m l =
      all_append (λ (s : ℕ). s < m) (kept_below keeps n) (cond (keeps n) (n ∷ []) [])
      (below n m (omega arith)) (last_below (keeps n) n m (omega arith))

  -- and below the next
  pushed : (xs : List ℕ) (n : ℕ) → IsStrictlyIncreasing xs → All (λ (s : ℕ). s < n) xs
      → IsStrictlyIncreasing (xs ++ n ∷ [])
  pushed xs n rise low k l = cases (cases_lt (k + 1) (length xs))
    where
      long : length (xs ++ n ∷ []) ≡ length xs + 1
      long = length-append xs (n ∷ [])

      cases : (k + 1 < length xs) ⊎ (length xs ≤ k + 1)
          → get_or (xs ++ n ∷ []) k 0 < get_or (xs ++ n ∷ []) (k + 1) 0
      cases (inl inner) =
          let a : get_or (xs ++ n ∷ []) k 0 ≡ get_or xs k 0 =
          get_or_append_left xs (n ∷ []) 0 k (omega arith) in
          let b : get_or (xs ++ n ∷ []) (k + 1) 0 ≡ get_or xs (k + 1) 0 =
          get_or_append_left xs (n ∷ []) 0 (k + 1) inner in
          omega (arith, a, b, rise k inner)
      cases (inr last) =
          let place : k + 1 ≡ length xs = omega (arith, l, long, last) in
          let a : get_or (xs ++ n ∷ []) k 0 ≡ get_or xs k 0 =
          get_or_append_left xs (n ∷ []) 0 k (omega (arith, place)) in
          let b : get_or (xs ++ n ∷ []) (k + 1) 0 ≡ n =
          get_or_at xs n [] 0 (k + 1) (sym place) in
          omega (arith, a, b, All-get_or (λ (s : ℕ). s < n) xs k 0 (omega (arith, place)) low)

  one_more : (b : Bool) (xs : List ℕ) (n : ℕ) → IsStrictlyIncreasing xs
      → All (λ (s : ℕ). s < n) xs → IsStrictlyIncreasing (xs ++ cond b (n ∷ []) [])
  one_more true xs n rise low = pushed xs n rise low
  one_more false xs n rise low = subst IsStrictlyIncreasing (sym (append-nil xs)) rise

  rises : (n : ℕ) → IsStrictlyIncreasing (kept_below keeps n)
  rises zero = λ k l. absurd (omega arith)
  rises (suc n) =
      one_more (keeps n) (kept_below keeps n) n (rises n)
      (All-from_recursion (λ (s : ℕ). s < n) (kept_below keeps n) (below n n (omega arith)))

  within : (n : ℕ) → All (λ (s : ℕ). s ≤ n) (kept_below keeps (n + 1))
  within n =
      All-from_recursion (λ (s : ℕ). s ≤ n) (kept_below keeps (n + 1))
      (weaker (kept_below keeps (n + 1)) (below (n + 1) (n + 1) (omega arith)))
    where
      weaker : (xs : List ℕ) → AllByRecursion (λ (s : ℕ). s < n + 1) xs
          → AllByRecursion (λ (s : ℕ). s ≤ n) xs
      weaker [] h = tt
      weaker (x ∷ xs) h = (omega (arith, h.0), weaker xs h.1)

-- signal 0 is kept at each level
zero_is_kept : (level : Level) (kept : ℕ) (list : List Constraint)
    → is_kept level kept list 0 ≡ true
zero_is_kept O0 kept list = refl
zero_is_kept O1 kept list =
    ap (λ (b : Bool). false || b || is_left list 0) (le-leb 0 kept (omega arith))
zero_is_kept O2 kept list =
    ap (λ (b : Bool). false || b || is_left list 0) (le-leb 0 kept (omega arith))

pub kept_signals : (level : Level) (c : Circuit) (simple : Simple)
    → Simplifies (rules_of level c) c.constraints (Ok simple) → AreKept c.signals simple.wires
kept_signals level c simple h =
    let end = h.0 in
    let keeps : ℕ → Bool = is_kept level (own_count c) end.list in
    let n : ℕ = length c.signals.names in
    let is : simple.wires ≡ kept_below keeps (n + 1) = h.2.wires in
    let one : slice_get (kept_below keeps (n + 1)) 0 ≡ Some 0 =
    rw add-one (first_kept keeps (zero_is_kept level _ end.list) n) in record {
      one = subst (λ (xs : List ℕ). slice_get xs 0 ≡ Some 0) (sym is) one;
      rise = subst IsStrictlyIncreasing (sym is) (rises keeps (n + 1));
      within = subst (All (λ (s : ℕ). s ≤ n)) (sym is) (within keeps n);
    }

-- so are the signals that label the wires of a program's file
pub kept_labels : (p : Program) (level : Level) (f : File) (c : Circuit) → IsWritten p level f
    → Instantiates p (Ok c) → AreKept c.signals f.labels
kept_labels p level f c w i =
    let same : w.circuit ≡ c = one_instance p w.circuit c w.instantiated i in
    let labels : f.labels ≡ w.simple.wires = ap (λ (g : File). g.labels) w.file in
    subst (λ (k : Circuit). AreKept k.signals f.labels) same
    (subst (AreKept w.circuit.signals) (sym labels)
    (kept_signals level w.circuit w.simple w.simplified))
