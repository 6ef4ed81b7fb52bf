-- The values of a run stand in the cells of its signals, by their final numbers.
use Rattle.std.proofs.Common.{◌≡◌, ◌⊎◌, inl, inr, ℕ, suc, ◌+◌, ◌-◌, ◌≤◌, ◌<◌, Bool, true, false}
use Rattle.std.proofs.Common.{cond, List, [], ◌∷◌, ◌++◌, map, length, Option, Some, None, refl, sym}
use Rattle.std.proofs.Common.{ap, subst, ◌∙◌, arith}
use Rattle.std.specs.Prelude.{⊤, nat_le, nat_lt, ◌&&◌}
use Rattle.std.proofs.lemmas.Bool.{leb-true, ltb-true}
use Rattle.cir_meaning.specs.Frame.{Signals, Group, Outputs, PublicInputs, PrivateInputs, Others}
use Rattle.cir_meaning.specs.Frame.{Sizes}
use Rattle.cir_meaning.specs.Run.{Wires, Table}
use Rattle.cir_meaning.specs.RunBodies.{or_else, signal_wire, table_wire, group_wires, all_wires}
use Rattle.cir_steps.specs.RunSteps.{Cells, in_cell}
use Rattle.cir_steps.specs.Circuit.{all_homes}

module _ (cells : Cells) where
  -- a number and its cell
  abbrev pub Home : Option ℕ → Option ℕ → Type 0
  Home number cell =
      (c : ℕ) × (v : ℕ) × (cell ≡ Some c) × (number ≡ Some v) × (cells c ≡ Some v)

  abbrev Both : Option ℕ → Option ℕ → Type 0
  Both number cell = ((number ≡ None) × (cell ≡ None)) ⊎ Home number cell

  -- each element of each signal has its number in its cell
  abbrev pub AtHome : (n : ℕ) → Signals → Wires → Wires → Type 0
  AtHome n [] wires own = ⊤
  AtHome n (None ∷ rest) wires own = AtHome (suc n) rest wires own
  AtHome n (Some e ∷ rest) wires own =
      ((k : ℕ) → k < length e.written → Home (wires n k) (own n k))
      × AtHome (suc n) rest wires own

  abbrev pub AreAtHome : List Table → List Table → Type 0
  AreAtHome [] [] = ⊤
  AreAtHome [] (u ∷ us) = ⊥
  AreAtHome (t ∷ ts) [] = ⊥
  AreAtHome (t ∷ ts) (u ∷ us) =
      (t.signals ≡ u.signals) × AtHome 0 t.signals t.wires u.wires × AreAtHome ts us

  signal_both : (wanted n : ℕ) (xs : Signals) (wires own : Wires) → AtHome n xs wires own
      → Both (signal_wire wanted n xs wires) (signal_wire wanted n xs own)
  signal_both wanted n [] wires own h = inl (refl, refl)
  signal_both wanted n (None ∷ rest) wires own h = signal_both wanted (suc n) rest wires own h
  signal_both wanted n (Some e ∷ rest) wires own h =
      at (nat_le e.first wanted) (nat_lt wanted (e.first + length e.written)) refl refl
      (signal_both wanted (suc n) rest wires own h.1)
    where
      at : (a b : Bool) → nat_le e.first wanted ≡ a
          → nat_lt wanted (e.first + length e.written) ≡ b
          → Both (signal_wire wanted (suc n) rest wires) (signal_wire wanted (suc n) rest own)
          → Both (cond (a && b) (wires n (wanted - e.first))
          (signal_wire wanted (suc n) rest wires))
          (cond (a && b) (own n (wanted - e.first)) (signal_wire wanted (suc n) rest own))
      at true true f g later =
          let low : e.first ≤ wanted = leb-true e.first wanted f in
          let high : wanted < e.first + length e.written =
          ltb-true wanted (e.first + length e.written) g in
          inr (h.0 (wanted - e.first) (omega arith))
      at true false f g later = later
      at false b f g later = later

  table_both : (wanted : ℕ) (ts us : List Table) → AreAtHome ts us
      → Both (table_wire ts wanted) (table_wire us wanted)
  table_both wanted [] [] h = inl (refl, refl)
  table_both wanted [] (u ∷ us) h = absurd h
  table_both wanted (t ∷ ts) [] h = absurd h
  table_both wanted (t ∷ ts) (u ∷ us) h =
      subst (λ xs. Both (or_else (signal_wire wanted 0 t.signals t.wires) (table_wire ts wanted))
      (or_else (signal_wire wanted 0 xs u.wires) (table_wire us wanted))) h.0
      (at (signal_wire wanted 0 t.signals t.wires) (signal_wire wanted 0 t.signals u.wires)
      (signal_both wanted 0 t.signals t.wires u.wires h.1) (table_both wanted ts us h.2))
    where
      at : (a b : Option ℕ) → Both a b → Both (table_wire ts wanted) (table_wire us wanted)
          → Both (or_else a (table_wire ts wanted)) (or_else b (table_wire us wanted))
      at a b (inl none) later =
          subst (λ x. Both (or_else x (table_wire ts wanted)) (or_else b (table_wire us wanted)))
          (sym none.0)
          (subst (λ y. Both (table_wire ts wanted) (or_else y (table_wire us wanted)))
          (sym none.1) later)
      at a b (inr home) later =
          inr (
            home.0,
            home.1,
            ap (λ y. or_else y (table_wire us wanted)) home.2,
            ap (λ x. or_else x (table_wire ts wanted)) home.3,
            home.4,
          )

  both_same : (number cell : Option ℕ) → Both number cell → in_cell cells cell ≡ number
  both_same number cell (inl none) = ap (in_cell cells) none.1 ∙ sym none.0
  both_same number cell (inr home) = ap (in_cell cells) home.2 ∙ home.4 ∙ sym home.3

  map_more : (xs ys : List (Option ℕ)) → map (in_cell cells) (xs ++ ys)
      ≡ map (in_cell cells) xs ++ map (in_cell cells) ys
  map_more [] ys = refl
  map_more (x ∷ xs) ys = ap (λ zs. in_cell cells x ∷ zs) (map_more xs ys)

  module _ (ts us : List Table) (home : AreAtHome ts us) where
    numbers_same : (ms : List ℕ)
        → map (in_cell cells) (map (table_wire us) ms) ≡ map (table_wire ts) ms
    numbers_same [] = refl
    numbers_same (m ∷ ms) =
        ap (λ x. x ∷ map (in_cell cells) (map (table_wire us) ms))
        (both_same (table_wire ts m) (table_wire us m) (table_both m ts us home))
        ∙ ap (λ xs. table_wire ts m ∷ xs) (numbers_same ms)

    group_same : (size : ℕ) (sizes : Sizes) (g : Group)
        → map (in_cell cells) (group_wires size sizes us g) ≡ group_wires size sizes ts g
    group_same size sizes g = numbers_same _

    pub homes_same : (size : ℕ) (sizes : Sizes) → cells 0 ≡ Some 1
        → map (in_cell cells) (all_homes size sizes us) ≡ all_wires size sizes ts
    homes_same size sizes one =
        ap (λ x. x ∷ map (in_cell cells) (group_wires size sizes us Outputs
        ++ (group_wires size sizes us PublicInputs
        ++ (group_wires size sizes us PrivateInputs ++ group_wires size sizes us Others)))) one
        ∙ ap (λ xs. Some 1 ∷ xs)
        (joined (group_wires size sizes us Outputs) _ (group_wires size sizes ts Outputs) _
        (group_same size sizes Outputs)
        (joined (group_wires size sizes us PublicInputs) _
        (group_wires size sizes ts PublicInputs) _ (group_same size sizes PublicInputs)
        (joined (group_wires size sizes us PrivateInputs) _
        (group_wires size sizes ts PrivateInputs) _ (group_same size sizes PrivateInputs)
        (group_same size sizes Others))))
      where
        joined : (xs ys zs ws : List (Option ℕ)) → map (in_cell cells) xs ≡ zs
            → map (in_cell cells) ys ≡ ws → map (in_cell cells) (xs ++ ys) ≡ zs ++ ws
        joined xs ys zs ws e f =
            map_more xs ys ∙ ap (λ a. a ++ map (in_cell cells) ys) e ∙ ap (λ b. zs ++ b) f
