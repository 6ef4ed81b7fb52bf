-- What log lines say doesn't change once their step has run.
use Rattle.std.proofs.Common.{arith, ◌≡◌, ◌≤◌, ℕ, ◌+◌, List, [], ◌∷◌, ◌++◌, map, Option, Some, None}
use Rattle.std.proofs.Common.{refl, sym, ◌∙◌, ap, cond, Bool, inl, inr}
use Rattle.std.specs.Prelude.{nat_eq, unwrap_or}
use Rattle.std.specs.Fmt.{decimal}
use Rattle.flow_core.specs.Counts.{same, times, IsIn}
use Rattle.wit_flow.specs.Cells.{with_value, with_values, number_at, numbers_at}
use Rattle.wit_flow.specs.Run.{End, Ran, StopsAt}
use Rattle.wit_flow.specs.OneThread.{Ending, Ended, Halted, ending}
use Rattle.wit_flow.proofs.Values.{HasOne, with_values_else, here_first, here_later}
use Rattle.std.proofs.lemmas.Bool.{cases_eq, eq-eqb, ne_eqb}
use Rattle.cir_meaning.specs.RunBodies.{log_line}
use Rattle.cir_steps.specs.Step.{LogPart, Text, Logged}
use Rattle.cir_steps.specs.RunSteps.{Cells, put_cell, put_cells, part_text, with_line}
use Rattle.cir_steps.specs.Written.{times as times_in}
use Rattle.cir_steps.specs.Lines.{NumbersOf, LineOf}

-- both forms of counting and of putting
eq_turns : (n m : ℕ) → nat_eq n m ≡ nat_eq m n
eq_turns n m = elim (cases_eq n m) [
  | inl e ↦ eq-eqb n m e ∙ sym (eq-eqb m n (sym e))
  | inr ne ↦ ne_eqb n m ne ∙ sym (ne_eqb m n (λ e. ne (sym e)))
]

pub times_same : (c : ℕ) (xs : List ℕ) → times_in c xs ≡ times c xs
times_same c [] = refl
times_same c (x ∷ xs) =
    let one : cond (nat_eq x c) 1 0 ≡ same c x =
    ap (λ (b : Bool). cond b 1 0) (eq_turns x c) in
    let rest = times_same c xs in
    λ i. one i + rest i

-- what stands in a list, in both forms
pub counts : (c : ℕ) (xs : List ℕ) → IsIn c xs → 1 ≤ times_in c xs
counts c xs h = let e = times_same c xs in omega arith

pub stands : (c : ℕ) (xs : List ℕ) → 1 ≤ times_in c xs → IsIn c xs
stands c xs h = let e = times_same c xs in omega arith

put_same_cell : (cells : Cells) (c x d : ℕ) → with_value cells c x d ≡ put_cell c x cells d
put_same_cell cells c x d =
    ap (λ (b : Bool). cond b (Some x) (cells d)) (eq_turns d c)

put_same_one : (cells : Cells) (c x : ℕ) → with_value cells c x ≡ put_cell c x cells
put_same_one cells c x = λ i d. put_same_cell cells c x d i

pub put_same : (cells : Cells) (cs xs : List ℕ) → with_values cells cs xs ≡ put_cells cs xs cells
put_same cells [] xs = refl
put_same cells (c ∷ cs) [] = refl
put_same cells (c ∷ cs) (x ∷ xs) =
    ap (λ a. with_values a cs xs) (put_same_one cells c x)
    ∙ put_same (put_cell c x cells) cs xs

-- cells that have numbers hold them
there : (o : Option ℕ) (x : ℕ) → o ≡ Some x → o ≡ Some (unwrap_or o 0)
there o x e = e ∙ ap (λ (q : Option ℕ). Some (unwrap_or q 0)) (sym e)

pub numbers_there : (cells : Cells) (cs : List ℕ) → ((c : ℕ) → IsIn c cs → HasOne cells c)
    → map cells cs ≡ map Some (numbers_at cells cs)
numbers_there cells [] h = refl
numbers_there cells (c ∷ cs) h =
    let one = h c (here_first c cs) in
    let p : cells c ≡ Some (number_at cells c) = there (cells c) one.0 one.1 in
    let q = numbers_there cells cs (λ d here. h d (here_later d c cs here)) in
    λ i. p i ∷ q i

-- cells that aren't written stay
abbrev pub cells_at : Ending → Cells
cells_at (Ended cells) = cells
cells_at (Halted n stop cells) = cells

pub ending_keeps : (a : Cells) (cs : List ℕ) (e : End) (c : ℕ) → (IsIn c cs → ⊥)
    → cells_at (ending a cs e) c ≡ a c
ending_keeps a cs (Ran xs) c out = with_values_else a cs xs c out
ending_keeps a cs (StopsAt n stop xs) c out = with_values_else a cs xs c out

-- a line's numbers are those of its step's targets
parts_same : (a b : Cells) (targets : List ℕ) (parts : List LogPart) → NumbersOf targets parts
    → ((c : ℕ) → IsIn c targets → a c ≡ b c) → map (part_text a) parts ≡ map (part_text b) parts
parts_same a b targets [] h same = refl
parts_same a b targets (Text text ∷ rest) h same =
    ap (λ ts. text ∷ ts) (parts_same a b targets rest h same)
parts_same a b targets (Logged c ∷ rest) h same =
    let p : part_text a (Logged c) ≡ part_text b (Logged c) =
    ap (λ (o : Option ℕ). decimal (unwrap_or o 0)) (same c (stands c targets h.0)) in
    let q = parts_same a b targets rest h.1 same in
    λ i. p i ∷ q i

pub line_same : (a b : Cells) (targets : List ℕ) (line : Option (List LogPart))
    (log : List (List ℕ)) → LineOf targets line → ((c : ℕ) → IsIn c targets → a c ≡ b c)
    → with_line a line log ≡ with_line b line log
line_same a b targets None log h same = refl
line_same a b targets (Some parts) log h same =
    ap (λ ts. log ++ log_line ts ∷ []) (parts_same a b targets parts h same)
