-- Where each signal of a run has a number, and its cell has it, the cells are its homes.
use Rattle.std.proofs.Common.{◌≡◌, ℕ, suc, ◌+◌, ◌<◌, true, List, [], ◌∷◌, length, Option, Some}
use Rattle.std.proofs.Common.{None, is_some, refl, sym, ap, subst, ◌∙◌, slice_get, arith}
use Rattle.std.specs.List.{AllByRecursion}
use Rattle.std.proofs.lemmas.Bool.{lt-ltb}
use Rattle.cir_meaning.specs.Frame.{SignalEntry, Signals, entry_at}
use Rattle.cir_meaning.specs.Run.{Wires, Table}
use Rattle.cir_meaning.proofs.Holds.{Full}
use Rattle.cir_meaning.proofs.TemplateRuns.{some_of}
use Rattle.cir_steps.specs.RunSteps.{Cells, in_cell}
use Rattle.cir_steps.specs.Running.{Wired, TablesWired}
use Rattle.cir_steps.proofs.Related.{OwnGrows}
use Rattle.cir_steps.proofs.Homes.{Home, AtHome, AreAtHome}
use Rattle.cir_steps.proofs.OwnCells.{HaveCells, is_element}
use Rattle.cir_steps.proofs.MainCells.{get_there}

module _ (cells : Cells) where
  home_of : (number cell : Option ℕ) (v : ℕ) → number ≡ Some v → in_cell cells cell ≡ Some v
      → Home cells number cell
  home_of number None v e h = cc
  home_of number (Some c) v e h = (c, v, refl, e, h)

  at_home : (n : ℕ) (xs : Signals) (wires own : Wires)
      → ((i : ℕ) (e : SignalEntry) (k : ℕ) → entry_at xs i ≡ Some e → k < length e.written
      → Home cells (wires (n + i) k) (own (n + i) k)) → AtHome cells n xs wires own
  at_home n [] wires own h = tt
  at_home n (None ∷ xs) wires own h =
      at_home (suc n) xs wires own (λ i e k there less.
      let number : n + suc i ≡ suc n + i = omega arith in
      subst (λ (j : ℕ). Home cells (wires j k) (own j k)) number (h (suc i) e k there less))
  at_home n (Some e ∷ xs) wires own h = (
    (λ k less.
        let number : n + 0 ≡ n = omega arith in
        subst (λ (j : ℕ). Home cells (wires j k) (own j k)) number (h 0 e k refl less)),
    at_home (suc n) xs wires own (λ i d k there less.
        let number : n + suc i ≡ suc n + i = omega arith in
        subst (λ (j : ℕ). Home cells (wires j k) (own j k)) number (h (suc i) d k there less)),
  )

  number_of : (t : Table) → Full t → (n : ℕ) (e : SignalEntry) (k : ℕ)
      → entry_at t.signals n ≡ Some e → k < length e.written
      → (v : ℕ) × (t.wires n k ≡ Some v)
  number_of t full n e k there less =
      let mark : (b : _) × (slice_get e.written k ≡ Some b) = get_there e.written k less in
      some_of (t.wires n k) (full n e there k mark.0 mark.1)

  table_home : (t : Table) (own : Wires) → Full t
      → ((n : ℕ) (e : SignalEntry) (k v : ℕ) → entry_at t.signals n ≡ Some e
      → k < length e.written → t.wires n k ≡ Some v → in_cell cells (own n k) ≡ Some v)
      → AtHome cells 0 t.signals t.wires own
  table_home t own full h =
      at_home 0 t.signals t.wires own (λ i e k there less.
      let its : (v : ℕ) × (t.wires i k ≡ Some v) = number_of t full i e k there less in
      let number : i ≡ 0 + i = omega arith in
      subst (λ (j : ℕ). Home cells (t.wires j k) (own j k)) number
      (home_of (t.wires i k) (own i k) its.0 its.1 (h i e k its.0 there less its.1)))

  tables_home : (ts us : List Table) → TablesWired cells ts us → AllByRecursion Full ts
      → AreAtHome cells ts us
  tables_home [] [] h full = tt
  tables_home [] (u ∷ us) h full = absurd h
  tables_home (t ∷ ts) [] h full = absurd h
  tables_home (t ∷ ts) (u ∷ us) h full = (
    h.0,
    table_home t u.wires full.0 (λ n e k v there less at. h.1 n k v at),
    tables_home ts us h.2 full.1,
  )

  -- with main's signals, which have more cells than their elements
  pub all_home : (signals : Signals) (wires own final : Wires) (ts us : List Table)
      → HaveCells signals own → OwnGrows own final → Wired cells wires final
      → Full record { signals = signals; wires = wires } → TablesWired cells ts us
      → AllByRecursion Full ts
      → AreAtHome cells (record { signals = signals; wires = wires } ∷ ts)
      (record { signals = signals; wires = own } ∷ us)
  all_home signals wires own final ts us have grows wired full inside all = (
    refl,
    table_home record { signals = signals; wires = wires } own full (λ n e k v there less at.
        let is : is_some (own n k) ≡ true =
        have n k ∙ ap (λ o. is_element o k) there ∙ lt-ltb k (length e.written) less in
        let its : (c : ℕ) × (own n k ≡ Some c) = some_of (own n k) is in
        ap (in_cell cells) (its.1 ∙ sym (grows n k its.0 its.1)) ∙ wired n k v at),
    tables_home ts us inside all,
  )
