-- Where a circuit starts, the cells of main's signals have the numbers that main is given.
use Rattle.std.proofs.Common.{◌≡◌, ℕ, zero, suc, ◌+◌, ◌-◌, ◌≤◌, ◌<◌, Bool, true, false, cond, List}
use Rattle.std.proofs.Common.{[], ◌∷◌, ◌++◌, length, Option, Some, None, is_some, refl, sym, ap}
use Rattle.std.proofs.Common.{◌∙◌, slice_get, unwrap_or, arith}
use Rattle.std.specs.Prelude.{nat_lt}
use Rattle.std.proofs.lemmas.Bool.{ltb-true}
use Rattle.cir_ast.specs.Program.{Program, Main}
use Rattle.cir_meaning.specs.Frame.{SignalEntry, Signals, World, entry_at, is_input}
use Rattle.cir_meaning.specs.Compile.{final_number}
use Rattle.cir_meaning.specs.Run.{Wires}
use Rattle.cir_meaning.specs.RunBodies.{or_else, input_wires}
use Rattle.cir_meaning.specs.Scoped.{IsResolved}
use Rattle.cir_meaning.proofs.Holds.{get_less}
use Rattle.cir_meaning.proofs.MainRuns.{Executed}
use Rattle.cir_steps.specs.Written.{times, targets_of, EachCellOnce}
use Rattle.cir_steps.specs.RunSteps.{Cells, in_cell}
use Rattle.cir_steps.specs.Running.{Wired}
use Rattle.cir_steps.specs.Circuit.{Circuit, at_start}
use Rattle.cir_steps.proofs.Counting.{times_more}
use Rattle.cir_steps.proofs.FreshSteps.{once_apart}
use Rattle.cir_steps.proofs.MainStarts.{at_most}
use Rattle.cir_steps.proofs.Related.{OwnGrows}
use Rattle.cir_steps.proofs.SimSteps.{Placed, placed}
use Rattle.cir_steps.proofs.OwnCells.{HaveCells, is_element}
use Rattle.cir_steps.proofs.MainInputs.{all_inputs, index, all_count, input_at}

placed_at : (ts values : List ℕ) (cells : Cells) (i c v : ℕ) → Placed ts values cells
    → slice_get ts i ≡ Some c → slice_get values i ≡ Some v → cells c ≡ Some v
placed_at [] values cells i c v h there at = cc
placed_at (t ∷ ts) [] cells i c v h there at = cc
placed_at (t ∷ ts) (x ∷ values) cells zero c v h there at =
    let cell : t ≡ c = cc in
    let value : x ≡ v = cc in
    ap cells (sym cell) ∙ h.0 ∙ ap (λ (a : ℕ). Some a) value
placed_at (t ∷ ts) (x ∷ values) cells (suc i) c v h there at =
    placed_at ts values cells i c v h.1 there at

pub get_there : {A : Type 0} (xs : List A) (i : ℕ) → i < length xs
    → (x : A) × (slice_get xs i ≡ Some x)
get_there [] i h = absurd (omega arith)
get_there (x ∷ xs) zero h = (x, refl)
get_there (x ∷ xs) (suc i) h = get_there xs i (omega arith)

-- the number of an input
abbrev of_entry : ℕ → World → List ℕ → (k : ℕ) → Option SignalEntry → Option ℕ
of_entry size after inputs k None = None
of_entry size after inputs k (Some e) =
    cond (is_input e.direction) (slice_get inputs (final_number size after.sizes (e.first + k) -
    (1 + after.sizes.outputs))) None

module _ (p : Program) (resolved : IsResolved p) (size : ℕ) (m : Main) (t : ℕ)
    (signals : Signals) (after : World) (its : Executed p size m t signals after)
    (top : size ≤ 1048576)
    (few : after.sizes.public_inputs + after.sizes.private_inputs < size)
    (own : Wires) (have : HaveCells signals own) (inputs : List ℕ)
    (count : length inputs ≡ after.sizes.public_inputs + after.sizes.private_inputs)
    (b : Circuit) (once : EachCellOnce b) where
  abbrev cells_of_inputs : List ℕ
  cells_of_inputs = all_inputs p resolved size m t signals after its own

  abbrev index_of : SignalEntry → ℕ → ℕ
  index_of e k = index p resolved size m t signals after its e k

  -- besides the cells of its elements a signal has those of the inputs that lie behind its end:
  -- nothing is read there
  abbrev behind_end : ℕ → Option SignalEntry → Option ℕ
  behind_end k None = None
  behind_end k (Some e) = slice_get cells_of_inputs (index_of e k)

  abbrev pub final : Wires
  final n k = or_else (own n k) (behind_end k (entry_at signals n))

  pub final_grows : OwnGrows own final
  final_grows n k c there = ap (λ o. or_else o (behind_end k (entry_at signals n))) there

  module _ (starts : b.starts ≡ 0 ∷ cells_of_inputs) where
    abbrev cells : Cells
    cells = (at_start b inputs).cells

    in_start : (i c v : ℕ) → slice_get cells_of_inputs i ≡ Some c → slice_get inputs i ≡ Some v
        → cells c ≡ Some v
    in_start i c v there at =
        placed_at b.starts (1 ∷ inputs) cells (suc i) c v
        (placed b.starts (1 ∷ inputs) (λ cell. None)
        (once_apart b.starts (λ c.
        let all : times c (b.starts ++ targets_of b.steps)
        ≡ times c b.starts + times c (targets_of b.steps) =
        times_more c b.starts (targets_of b.steps) in
        let most : times c (b.starts ++ targets_of b.steps) ≤ 1 = at_most b once inputs c in
        omega arith)))
        (ap (λ xs. slice_get xs (suc i)) starts ∙ there) at

    -- an element of an input
    input_wired : (n k v : ℕ) (e : SignalEntry) → entry_at signals n ≡ Some e
        → is_input e.direction ≡ true → slice_get inputs (index_of e k) ≡ Some v
        → in_cell cells (final n k) ≡ Some v
    input_wired n k v e there input at = by_own (own n k) refl
      where
        less : index_of e k < length cells_of_inputs
        less =
            let below : index_of e k < length inputs = get_less inputs (index_of e k) v at in
            let all : length cells_of_inputs
            ≡ after.sizes.public_inputs + after.sizes.private_inputs =
            all_count p resolved size m t signals after its own top few in
            omega arith

        by_own : (o : Option ℕ) → own n k ≡ o
            → in_cell cells (or_else o (behind_end k (entry_at signals n))) ≡ Some v
        by_own None is =
            let other : (c : ℕ) × (slice_get cells_of_inputs (index_of e k) ≡ Some c) =
            get_there cells_of_inputs (index_of e k) less in
            ap (λ o. in_cell cells (behind_end k o)) there
            ∙ ap (in_cell cells) other.1
            ∙ in_start (index_of e k) other.0 v other.1 at
        by_own (Some c) is =
            let inside : nat_lt k (length e.written) ≡ true =
            sym (ap (λ o. is_element o k) there) ∙ sym (have n k) ∙ ap is_some is in
            in_start (index_of e k) c v
            (input_at p resolved size m t signals after its own top few n e k there input
            (ltb-true k (length e.written) inside)
            ∙ ap (λ o. Some (unwrap_or o 0)) is) at

    pub wired : Wired cells (input_wires size after.sizes inputs signals) final
    wired n k v given = by_entry (entry_at signals n) refl given
      where
        by_entry : (o : Option SignalEntry) → entry_at signals n ≡ o
            → of_entry size after inputs k o ≡ Some v → in_cell cells (final n k) ≡ Some v
        by_entry None there at = cc
        by_entry (Some e) there at = by_input (is_input e.direction) refl at
          where
            by_input : (i : Bool) → is_input e.direction ≡ i
                → cond i (slice_get inputs (index_of e k)) None ≡ Some v
                → in_cell cells (final n k) ≡ Some v
            by_input true i g = input_wired n k v e there i g
            by_input false i g = cc
