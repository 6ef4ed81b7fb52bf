-- A table that has grown is a table: what was made before stays right, and what is new fits.
use Rattle.std.proofs.Common.{◌≡◌, ◌∙◌, ℕ, zero, suc, ◌+◌, ◌-◌, ◌≤◌, List, [], ◌∷◌, ◌++◌, map}
use Rattle.std.proofs.Common.{length, drop, refl, ap, sym, subst, arith, inl, inr, Some, append-nil}
use Rattle.std.proofs.Common.{append_assoc}
use Rattle.std.specs.Prelude.{slice_get, unwrap_or, Result, Ok, Err, IfErr, IsErrAnd}
use Rattle.std.specs.List.{AllByRecursion}
use Rattle.std.proofs.lemmas.Bool.{cases_lt}
use Rattle.wit_code.specs.declared.code.Proc.{Proc}
use Rattle.cir_ast.specs.Program.{Program, Function}
use Rattle.cir_meaning.specs.Arrays.{Whole}
use Rattle.cir_meaning.specs.Costs.{Made}
use Rattle.cir_meaning.specs.Functions as F
use Rattle.cir_meaning.specs.Reached.{body_of}
use Rattle.cir_meaning.specs.SignalFree.{AreFreeStatements}
use Rattle.cir_meaning.specs.Texts.{calls_in, all_variables}
use Rattle.wit_lower.specs.Fits.{HasKey}
use Rattle.wit_lower.specs.Procedures.{IsLowered, HasProcedure, IsTable}
use Rattle.wit_lower.proofs.Depth.{body_is}
use Rattle.wit_procs.specs.Rules.{MayBeMade, MayBeMadeAll}
use Rattle.cir_scope.specs.Runnable.{IsRunnable, AreRunnable}
use Rattle.wit_procs.specs.Table.{Grows, HaveKeys, AreClosed, IsMade, IsMadeAt, AreAdded}
use Rattle.wit_procs.proofs.FittingExprs.{HaveCalls}
use Rattle.wit_procs.proofs.FittingBodies.{body_fits, arguments_small}
use Rattle.wit_procs.proofs.JudgedKeys.{each_at}
use Rattle.wit_procs.proofs.KeyLists.{front_get}

-- ---- a new procedure
mapped : {A B : Type 0} (of : A → B) (P : B → Type 0) (xs : List A)
    → AllByRecursion P (map of xs) → AllByRecursion (λ x. P (of x)) xs
mapped of P [] h = tt
mapped of P (x ∷ xs) h = (h.0, mapped of P xs h.1)

new_lowered : (p : Program) (keys : List Made) (key : Made) (code : Proc) → AreRunnable p
    → MayBeMade p key → HaveKeys keys (F.shaped_calls p key) → IsMade p keys key code
    → IsLowered p keys key code
new_lowered p keys key code runs may calls made =
    let f : Function = may.function in
    let body : body_of p key.function ≡ f.body = body_is p key.function f may.there in
    record {
      then_keys = keys;
      later = [];
      front = sym (append-nil keys);
      function = f;
      there = may.there;
      small = arguments_small f key.shapes may.plain;
      fits = body_fits (length p.functions) keys f key.shapes may.rules may.plain
          (each_at (IsRunnable (length p.functions)) p.functions key.function f runs.runnable
          may.there)
          (each_at (λ g. AreFreeStatements (length p.functions) g.body) p.functions key.function f
          runs.free may.there)
          (subst (λ b. HaveCalls (length p.functions) keys
          (F.variable_dims key.shapes (all_variables b)) (calls_in b)) body
          (mapped (λ c. record {
            function = c.function;
            shapes = map (λ e. unwrap_or (F.shape_in (F.call_dims p key) Whole e) []) c.arguments;
          }) (HasKey keys) (calls_in (body_of p key.function)) calls));
      params = made.params;
      body = made.body;
      slots = made.slots;
    }

-- ---- an old one
old_lowered : (p : Program) (keys later : List Made) (key : Made) (code : Proc)
    → IsLowered p keys key code → IsLowered p (keys ++ later) key code
old_lowered p keys later key code l = record {
  then_keys = l.then_keys;
  later = l.later ++ later;
  front = ap (λ ks. ks ++ later) l.front ∙ append_assoc l.then_keys l.later later;
  function = l.function;
  there = l.there;
  small = l.small;
  fits = l.fits;
  params = l.params;
  body = l.body;
  slots = l.slots;
}

pub table_grown : (p : Program) (keys later : List Made) (procs after : List Proc)
    → AreRunnable p → length procs ≡ length keys → IsTable p keys procs
    → AreClosed p (length keys) (keys ++ later)
    → ((n : ℕ) (key : Made) → length keys ≤ n → slice_get (keys ++ later) n ≡ Some key
    → MayBeMade p key)
    → AreAdded p (keys ++ later) procs after → IsTable p (keys ++ later) after
table_grown p keys later procs after runs count table closed may added = record {
  count = omega (arith, added.count);
  each = λ n key there. elim (cases_lt n (length keys)) [
    | inl before ↦
        let has : HasProcedure p keys procs n key =
        table.each n key (sym (front_get keys later n before) ∙ there) in
        record {
          code = has.code;
          there = added.old n has.code has.there;
          lowered = old_lowered p keys later key has.code has.lowered;
        }
    | inr behind ↦
        let is : IsMadeAt p (keys ++ later) after n key =
        added.made n key (omega (arith, behind, count)) there in
        record {
          code = is.code;
          there = is.there;
          lowered = new_lowered p (keys ++ later) key is.code runs (may n key behind there)
              (closed n key behind there) is.made;
        }
  ];
}

-- ---- what stands from a place on
dropped_get : {A B : Type 0} (of : A → B) (xs : List A) (from i : ℕ)
    → slice_get (map of (drop from xs)) i ≡ slice_get (map of xs) (from + i)
dropped_get of xs zero i =
    let same : i ≡ 0 + i = omega arith in ap (slice_get (map of xs)) same
dropped_get of [] (suc from) i = refl
dropped_get of (x ∷ xs) (suc from) i =
    let same : suc (from + i) ≡ suc from + i = omega arith in
    dropped_get of xs from i ∙ ap (slice_get (map of (x ∷ xs))) same

pub err_is : {A E : Type 0} (r : Result A E) (e : E) (P : E → Type 0) → IsErrAnd r (λ x. x ≡ e)
    → P e → IfErr r P
err_is (Ok a) e P is h = absurd is
err_is (Err x) e P is h = rw is h

pub mapped_drop : {A B : Type 0} (f : A → B) (n : ℕ) (xs : List A)
    → map f (drop n xs) ≡ drop n (map f xs)
mapped_drop f zero xs = refl
mapped_drop f (suc n) [] = refl
mapped_drop f (suc n) (x ∷ xs) = mapped_drop f n xs

pub made_from : {A : Type 0} (of : A → Made) (p : Program) (xs : List A) (from : ℕ)
    → MayBeMadeAll p (map of (drop from xs)) → (n : ℕ) (key : Made) → from ≤ n
    → slice_get (map of xs) n ≡ Some key → MayBeMade p key
made_from of p xs from may n key le there =
    let same : from + (n - from) ≡ n = omega (arith, le) in
    may (n - from) key
    (dropped_get of xs from (n - from) ∙ ap (slice_get (map of xs)) same ∙ there)

-- a table with more keys, and with all that these call
pub table_filled : (p : Program) (keys more all : List Made) (procs after : List Proc)
    (from : ℕ) → AreRunnable p → length procs ≡ length keys → IsTable p keys procs
    → Grows (keys ++ more) all → from ≡ length keys → AreClosed p from all
    → ((n : ℕ) (k : Made) → from ≤ n → slice_get all n ≡ Some k → MayBeMade p k)
    → AreAdded p all procs after → IsTable p all after
table_filled p keys more all procs after from runs count table grows begins closed may added =
    let later : List Made = more ++ grows.later in
    let is : all ≡ keys ++ later =
    grows.is ∙ append_assoc keys more grows.later in
    subst (λ ks. IsTable p ks after) (sym is)
    (table_grown p keys later procs after runs count table
    (subst (AreClosed p (length keys)) is (subst (λ n. AreClosed p n all) begins closed))
    (λ n k le there. may n k (omega (arith, le, begins))
    (ap (λ ks. slice_get ks n) is ∙ there))
    (subst (λ ks. AreAdded p ks procs after) is added))

-- the table of no keys
pub no_table : (p : Program) (procs : List Proc) → procs ≡ [] → IsTable p [] procs
no_table p procs none = record {
  count = omega (arith, ap length none);
  each = λ n key there. cc;
}
