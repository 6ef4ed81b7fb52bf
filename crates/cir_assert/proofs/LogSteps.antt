-- The cells of a log line, and its step.
use Rattle.std.proofs.Common.{◌≡◌, ◌∙◌, ℕ, ◌+◌, ◌<◌, ◌≤◌, suc, List, [], ◌∷◌, ◌++◌, length, get_or}
use Rattle.std.proofs.Common.{arith, cond, drop, map, ap, refl, sym, Result, Ok, Err}
use Rattle.std.specs.Prelude.{IsErrAnd, OnOk}
use Rattle.std.proofs.lemmas.List.{drop_all, drop_more}
use Rattle.std.proofs.lemmas.List.Sums.{sum_by-cons}
use Rattle.cir_ast.specs.declared.program.Meant.{Meant}
use Rattle.cir_ast.specs.declared.marked.LogArgument.{LogArgument as CodeArgument}
use Rattle.cir_ast.specs.Tree.{Expr, LogArgument, LogValue, Words, bare_argument}
use Rattle.cir_meaning.specs.Costs.{Made as Key}
use Rattle.cir_meaning.specs.Steps.{is_value, logged_cells}
use Rattle.cir_meaning.specs.Tried.{Tried}
use Rattle.cir_arrays.specs.declared.stop.Fault.{Fault}
use Rattle.cir_arrays.specs.declared.stop.Fault.TheVariants.{OutOfMemory}
use Rattle.cir_frame.specs.declared.frame.Frame.{Frame}
use Rattle.cir_execute.proofs.Leaving.{memory_refuses}
use Rattle.cir_steps.specs.Emission.{Emission, Emitted}
use Rattle.cir_steps.specs.Step.{Step}
use Rattle.cir_make.specs.declared.cells.Cells.{Cells}
use Rattle.cir_make.specs.declared.whole.Inside.{Inside}
use Rattle.cir_make.specs.declared.whole.Made.{Made}
use Rattle.cir_make.specs.declared.whole.Whole.{Whole}
use Rattle.cir_make.specs.Emits.{Emits}
use Rattle.cir_make.specs.Shows.{IsKept}
use Rattle.cir_make.proofs.Going.{emits_refused}

-- ---- the parts of a line
pub more_listed : {A : Type 0} (xs : List A) (x : A) (ys : List A)
    → xs ++ (x ∷ ys) ≡ (xs ++ x ∷ []) ++ ys
more_listed [] x ys = refl
more_listed (z ∷ zs) x ys = ap (λ l. z ∷ l) (more_listed zs x ys)

pub value_cells : (e : Expr Meant) (rest : List (LogArgument Meant))
    → logged_cells (LogValue e ∷ rest) ≡ suc (logged_cells rest)
value_cells e rest =
    let one : logged_cells (LogValue e ∷ rest) ≡ 1 + logged_cells rest =
    sum_by-cons (λ a. cond (is_value a) 1 0) (LogValue e) rest in omega (arith, one)

pub words_cells : (text : List ℕ) (rest : List (LogArgument Meant))
    → logged_cells (Words text ∷ rest) ≡ logged_cells rest
words_cells text rest =
    let none : logged_cells (Words text ∷ rest) ≡ 0 + logged_cells rest =
    sum_by-cons (λ a. cond (is_value a) 1 0) (Words text) rest in omega (arith, none)

module _ (xs : List (CodeArgument Meant)) where
  abbrev pub arguments_from : ℕ → List (LogArgument Meant)
  arguments_from i = map bare_argument (drop i xs)

  pub arguments_at : (i : ℕ) (x : CodeArgument Meant) → i < length xs → x ≡ get_or xs i x
      → arguments_from i ≡ bare_argument x ∷ arguments_from (i + 1)
  arguments_at i x h is =
      ap (map bare_argument) (drop_more xs i x h)
      ∙ ap (λ y. bare_argument y ∷ arguments_from (i + 1)) (sym is)

  pub arguments_end : (i : ℕ) → length xs ≤ i → arguments_from i ≡ []
  arguments_end i h = ap (map bare_argument) (drop_all i xs h)

-- ---- want of memory, and what holds already
pub memory_emits : {A : Type 0} (p : List Key) (i : Inside) (w : Whole) (r : Result A Fault)
    (e : Fault) (m : Tried Emitted) → IsErrAnd r (λ x. x ≡ e) → e ≡ OutOfMemory → Emits p i w r m
memory_emits p i w r e m is memory = emits_refused p i w r e m is (memory_refuses e m memory)

pub on_done : {A E : Type 0} (r : Result A E) (P : Type 0) → P → OnOk r P
on_done (Ok a) P h = h
on_done (Err e) P h = tt

-- ---- a further cell
pub kept_next : (first : List Key) (f : Frame) (c : Cells) (made : Made) (x : Emission)
    (steps : List Step) (n m : ℕ) → n ≡ m → IsKept first f c made x steps
    → IsKept first f c (record made { next = m }) (record x { next = n }) steps
kept_next first f c made x steps n m is h = record {
  next = is;
  own = h.own;
  parts = h.parts;
  sources = h.sources;
  waiting = h.waiting;
  steps_made = h.steps_made;
  later = h.later;
  keys = h.keys;
}
