-- A step's code writes as many numbers as its task gives.
use Rattle.std.proofs.Common.{◌≡◌, ℕ, zero, suc, ◌+◌, ◌<◌, ◌≤◌, List, [], ◌∷◌, ◌++◌, length, Option}
use Rattle.std.proofs.Common.{Some, None, refl, sym, ap, subst, ◌∙◌, arith, length-append, inl, inr}
use Rattle.std.specs.Prelude.{slice_get}
use Rattle.std.proofs.lemmas.Bool.{cases_lt}
use Rattle.wit_code.specs.declared.code.Op.{Op}
use Rattle.wit_code.specs.declared.code.Op.TheVariants as op
use Rattle.wit_code.specs.declared.code.Proc.{Proc}
use Rattle.wit_code.specs.Table.{Wrote, RunsTo}
use Rattle.cir_ast.specs.declared.program.Meant.{Meant}
use Rattle.cir_ast.specs.Program.{Program}
use Rattle.cir_ast.specs.Tree.{Expr}
use Rattle.cir_meaning.specs.Costs.{Made}
use Rattle.wit_lower.specs.Homes.{Home, Homes, Scope, Ground, find}
use Rattle.wit_lower.specs.Pieces.{Code}
use Rattle.wit_lower.specs.Values.{expr_code, size_of}
use Rattle.wit_lower.specs.Statements.{statement_code}
use Rattle.wit_lower.specs.Procedures.{IsTable}
use Rattle.wit_lower.specs.Sources.{Input, Constant, Cell, Source, Sources, scope_of, cells_read}
use Rattle.wit_lower.specs.Sources.{load_code, source_code, sources_code}
use Rattle.wit_lower.specs.Tasks.{Element, Task, Gives, Equal, Logs, Executes, writes, logs_code}
use Rattle.wit_lower.specs.Tasks.{target_code, targets_code, task_code, step_ground, step_code}
use Rattle.wit_lower.specs.Steps.{TargetsFit, TaskFits, StepFits, count_of}
use Rattle.wit_lower.proofs.Does.{HasAt, has_front, has_back, has_itself}
use Rattle.wit_lower.proofs.Counting.{writes_in, before, all_writes, before_none, before_next}
use Rattle.wit_lower.proofs.Counting.{Level, IsLevel, writes_all}
use Rattle.wit_lower.proofs.Inner.{IsInner, Inner, IsWhole, whole_append, expr_whole}
use Rattle.wit_lower.proofs.Inner.{statement_whole}
use Rattle.wit_lower.proofs.FormedTable.{step_is}

inner_quiet : (low high : ℕ) (o : Op) → IsInner low high o → writes_in o ≡ 0
inner_quiet low high (op.Const s v) h = refl
inner_quiet low high (op.Move s t) h = refl
inner_quiet low high (op.Read s i) h = refl
inner_quiet low high (op.Un o s t) h = refl
inner_quiet low high (op.Bin o s t u) h = refl
inner_quiet low high (op.Bound s n) h = refl
inner_quiet low high (op.Load s base t) h = refl
inner_quiet low high (op.Store base s t) h = refl
inner_quiet low high (op.Jump to) h = refl
inner_quiet low high (op.JumpZero s to) h = refl
inner_quiet low high op.Turn h = refl
inner_quiet low high (op.Call f first s) h = refl
inner_quiet low high (op.Return s) h = refl
inner_quiet low high (op.Check s t) h = refl
inner_quiet low high (op.Assert s) h = refl
inner_quiet low high (op.Write s) h = absurd h

module _ (body : List Op) where
  abbrev Levels : (place : ℕ) → Code → Type 0
  Levels p [] = Unit {0}
  Levels p (o ∷ os) = Level body p o × Levels (p + 1) os

  levels_append : (p : ℕ) (xs ys : Code) → Levels p xs → Levels (p + length xs) ys
      → Levels p (xs ++ ys)
  levels_append p [] ys a b = subst (λ q. Levels q ys) (omega arith) b
  levels_append p (x ∷ xs) ys (o, a) b =
      let on : p + length (x ∷ xs) ≡ p + 1 + length xs = omega arith in
      (o, levels_append (p + 1) xs ys a (subst (λ q. Levels q ys) on b))

  -- within code that writes nothing as many Writes stand before each place
  flat : (low high : ℕ) (code : Code) (p t : ℕ) → HasAt body p code → Inner low high code
      → p ≤ t → t ≤ p + length code → before body t ≡ before body p
  flat low high [] p t at inner a b =
      let same : t ≡ p = omega (arith, a, b) in ap (before body) same
  flat low high (o ∷ os) p t (e, at) (i, inner) a b =
      elim (cases_lt p t) [
        | inl l ↦
            let first : before body (p + 1) ≡ before body p = omega (
              arith,
              before_next body p o e,
              inner_quiet low high o i,
            ) in
            flat low high os (p + 1) t at inner (omega (arith, l)) (omega (arith, b)) ∙ first
        | inr l ↦ let same : t ≡ p = omega (arith, a, l) in ap (before body) same
      ]

  level_op : (low high n p : ℕ) (o : Op)
      → ((t : ℕ) → low ≤ t → t ≤ high → before body t ≡ n) → before body p ≡ n
      → IsInner low high o → Level body p o
  level_op low high n p (op.Const s v) all here h = tt
  level_op low high n p (op.Move s t) all here h = tt
  level_op low high n p (op.Read s i) all here h = tt
  level_op low high n p (op.Un o s t) all here h = tt
  level_op low high n p (op.Bin o s t u) all here h = tt
  level_op low high n p (op.Bound s m) all here h = tt
  level_op low high n p (op.Load s base t) all here h = tt
  level_op low high n p (op.Store base s t) all here h = tt
  level_op low high n p (op.Jump to) all here (a, b) = all to a b ∙ sym here
  level_op low high n p (op.JumpZero s to) all here (a, b) = all to a b ∙ sym here
  level_op low high n p op.Turn all here h = tt
  level_op low high n p (op.Call f first s) all here h = tt
  level_op low high n p (op.Return s) all here h = tt
  level_op low high n p (op.Check s t) all here h = tt
  level_op low high n p (op.Assert s) all here h = tt
  level_op low high n p (op.Write s) all here h = absurd h

  level_within : (low high n : ℕ) (code : Code) (p : ℕ)
      → ((t : ℕ) → low ≤ t → t ≤ high → before body t ≡ n) → low ≤ p → p + length code ≤ high
      → Inner low high code → Levels p code
  level_within low high n [] p all a b inner = tt
  level_within low high n (o ∷ os) p all a b (i, inner) = (
    level_op low high n p o all (all p a (omega (arith, b))) i,
    level_within low high n os (p + 1) all (omega (arith, a)) (omega (arith, b)) inner,
  )

  -- a piece of code with so many Writes
  record Part (p : ℕ) (code : Code) (n : ℕ) : Type 0 where
    pub levels : Levels p code
    pub adds : before body (p + length code) ≡ before body p + n

  part_append : (p : ℕ) (xs ys : Code) (m n sum : ℕ) → m + n ≡ sum → Part p xs m
      → Part (p + length xs) ys n → Part p (xs ++ ys) sum
  part_append p xs ys m n sum e a b =
      let size : p + length (xs ++ ys) ≡ p + length xs + length ys =
      omega (arith, length-append xs ys) in
      record {
        levels = levels_append p xs ys a.levels b.levels;
        adds = ap (before body) size ∙ omega (arith, a.adds, b.adds, e);
      }

  quiet : (p : ℕ) (code : Code) → HasAt body p code → IsWhole p code → Part p code 0
  quiet p code at whole =
      let end : before body (p + length code) ≡ before body p =
      flat p (p + length code) code p (p + length code) at whole (omega arith) (omega arith) in
      record {
        levels = level_within p (p + length code) (before body p) code p
            (λ t a b. flat p (p + length code) code p t at whole a b) (omega arith)
            (omega arith) whole;
        adds = omega (arith, end);
      }

  write_part : (p s : ℕ) (os : Code) (n : ℕ) → slice_get body p ≡ Some (op.Write s)
      → Part (p + 1) os n → Part p (op.Write s ∷ os) (suc n)
  write_part p s os n e rest =
      let size : p + suc (length os) ≡ p + 1 + length os = omega arith in
      record {
        levels = (tt, rest.levels);
        adds = ap (before body) size ∙ omega (
          arith,
          rest.adds,
          before_next body p (op.Write s) e,
        );
      }

  nothing : (p : ℕ) → Part p [] 0
  nothing p = let z : p + 0 ≡ p = omega arith in
      record { levels = tt; adds = ap (before body) z ∙ omega arith }

  writes_part : (from n p : ℕ) → HasAt body p (writes from n) → Part p (writes from n) n
  writes_part from zero p at = nothing p
  writes_part from (suc n) p (e, at) =
      write_part p from (writes (from + 1) n) n e (writes_part (from + 1) n (p + 1) at)

  targets_part : (homes : Homes) (ts : List Element) (p : ℕ) → TargetsFit homes ts
      → HasAt body p (targets_code homes ts) → Part p (targets_code homes ts) (length ts)
  targets_part homes [] p fits at = nothing p
  targets_part homes (t ∷ ts) p (ft, fits) at =
      let rest : Code = targets_code homes ts in
      let is : targets_code homes (t ∷ ts) ≡ op.Write (ft.home.base + t.element) ∷ rest =
      ap (λ o. target_code o t ++ rest) ft.found in
      let at1 : HasAt body p (op.Write (ft.home.base + t.element) ∷ rest) =
      subst (HasAt body p) is at in
      subst (λ c. Part p c (suc (length ts))) (sym is)
      (write_part p (ft.home.base + t.element) rest (length ts) at1.0
      (targets_part homes ts (p + 1) fits at1.1))

  module _ (g : Ground) where
    logs_part : (s : Scope) (es : List (Expr Meant)) (p : ℕ) → HasAt body p (logs_code g s p es)
        → Part p (logs_code g s p es) (length es)
    logs_part s [] p at = nothing p
    logs_part s (e ∷ es) p at =
        let value : Code = expr_code g s.homes s.top p e in
        let last : Code = op.Write s.top ∷ [] in
        let one : Code = value ++ last in
        let q : ℕ = p + length one in
        let two : Code = logs_code g s q es in
        let at1 : HasAt body p one = has_front body p one two at in
        part_append p one two 1 (length es) (suc (length es)) (omega arith)
        (part_append p value last 0 1 1 (omega arith)
        (quiet p value (has_front body p value last at1) (expr_whole g s.homes e s.top p))
        (write_part (p + length value) s.top [] 0 (has_back body p value last at1).0
        (nothing (p + length value + 1))))
        (logs_part s es q (has_back body p one two at))

    task_part : (free : ℕ → Type 0) (s : Scope) (task : Task) (p : ℕ) → TaskFits free g s task
        → HasAt body p (task_code g s p task)
        → Part p (task_code g s p task) (count_of g s.homes task)
    task_part free s (Gives e) p fits at =
        let one : Code = expr_code g s.homes s.top p e in
        let size : ℕ = size_of g s.homes e in
        part_append p one (writes s.top size) 0 size size (omega arith)
        (quiet p one (has_front body p one (writes s.top size) at) (expr_whole g s.homes e s.top p))
        (writes_part s.top size (p + length one) (has_back body p one (writes s.top size) at))
    task_part free s (Equal a b) p fits at =
        let one : Code = expr_code g s.homes s.top p a in
        let q : ℕ = p + length one in
        let two : Code = expr_code g s.homes (s.top + 1) q b in
        let last : Code = op.Check s.top (s.top + 1) ∷ [] in
        quiet p (one ++ (two ++ last)) at
        (whole_append p one (two ++ last) (expr_whole g s.homes a s.top p)
        (whole_append q two last (expr_whole g s.homes b (s.top + 1) q) (tt, tt)))
    task_part free s (Logs es) p fits at = logs_part s es p at
    task_part free s (Executes a targets) p (fits, targets_fit) at =
        let one : Code = statement_code g s p a in
        let two : Code = targets_code s.homes targets in
        part_append p one two 0 (length targets) (length targets) (omega arith)
        (quiet p one (has_front body p one two at) (statement_whole g a s p))
        (targets_part s.homes targets (p + length one) targets_fit (has_back body p one two at))

sources_whole : (reads : List ℕ) (homes : Homes) (xs : List Source) (p : ℕ)
    → IsWhole p (sources_code reads homes xs)
sources_whole reads homes [] p = tt
sources_whole reads homes (x ∷ xs) p =
    let one : Code = source_code reads (find x.name homes) x in
    whole_append p one (sources_code reads homes xs) (source (find x.name homes))
    (sources_whole reads homes xs (p + length one))
  where
    load : (i : Input) (s : ℕ) → IsWhole p (load_code reads i s ∷ [])
    load (Constant v) s = (tt, tt)
    load (Cell c) s = (tt, tt)

    source : (home : Option Home) → IsWhole p (source_code reads home x)
    source None = tt
    source (Some h) = load x.input (h.base + x.element)

levels_at : (body : List Op) (p : ℕ) (code : Code) (i : ℕ) (o : Op) → Levels body p code
    → slice_get code i ≡ Some o → Level body (p + i) o
levels_at body p [] i o l e = cc
levels_at body p (x ∷ xs) zero o (a, l) e =
    let same : x ≡ o = cc in
    let z : p ≡ p + 0 = omega arith in
    subst (λ q. Level body q o) z (subst (Level body p) same a)
levels_at body p (x ∷ xs) (suc i) o (a, l) e =
    let on : p + 1 + i ≡ p + suc i = omega arith in
    subst (λ q. Level body q o) on (levels_at body (p + 1) xs i o l e)

pub step_counts : (program : Program) (keys : List Made) (sources : Sources) (variables : ℕ)
    (task : Task) → StepFits keys sources variables task → (later : List Made) (procs : List Proc)
    → IsTable program (keys ++ later) procs → (reads : List ℕ) (fuel : ℕ) (values : List ℕ)
    → RunsTo procs (step_code (step_ground keys sources task) sources task) reads fuel
    (Wrote values)
    → length values ≡ count_of (step_ground keys sources task) (scope_of sources).homes task
step_counts program keys sources variables task fits later procs table reads fuel values runs =
    writes_all procs (length (cells_read sources.list)) (step_code g sources task)
    (step_is program keys sources variables task fits later procs table) level reads fuel values
    runs ∙ total
  where
    g : Ground
    g = step_ground keys sources task

    s : Scope
    s = scope_of sources

    one : Code
    one = sources_code (cells_read sources.list) s.homes sources.list

    two : Code
    two = task_code g s (0 + length one) task

    body : Code
    body = one ++ two

    at : HasAt body 0 body
    at = has_itself [] body

    whole : Part body 0 body (count_of g s.homes task)
    whole = part_append body 0 one two 0 (count_of g s.homes task) (count_of g s.homes task)
        (omega arith)
        (quiet body 0 one (has_front body 0 one two at)
        (sources_whole (cells_read sources.list) s.homes sources.list 0))
        (task_part body g (λ n. n < variables) s task (0 + length one) fits.fits
        (has_back body 0 one two at))

    level : IsLevel body
    level place o e =
        let z : 0 + place ≡ place = omega arith in
        subst (λ q. Level body q o) z (levels_at body 0 body place o whole.levels e)

    total : all_writes body ≡ count_of g s.homes task
    total =
        let z : length body ≡ 0 + length body = omega arith in
        ap (before body) z ∙ omega (arith, whole.adds, before_none body)
