-- A circuit has no more cells and steps than the limits.
use Rattle.std.proofs.Common.{◌≡◌, ℕ, ◌+◌, ◌≤◌, List, [], ◌∷◌, length, Ok, arith}
use Rattle.std.specs.Prelude.{nat_le}
use Rattle.std.specs.List.{AllByRecursion}
use Rattle.std.proofs.lemmas.Bool.{leb-true}
use Rattle.cir_ast.specs.Program.{Program, Main}
use Rattle.cir_meaning.specs.Tried.{Where}
use Rattle.cir_meaning.specs.Limits.{Counts, Limited, limits, plus, standing, tested}
use Rattle.cir_meaning.specs.Frame.{Signals, World, State, settle}
use Rattle.cir_meaning.proofs.Good.{OnGood, good_ok, good_bad, good_next, good_weaker, good_is}
use Rattle.cir_meaning.proofs.DependingValues.{either_as}
use Rattle.cir_steps.specs.Making.{Cast}
use Rattle.cir_steps.specs.Circuit.{Circuit, circuit_with}
use Rattle.cir_steps.proofs.Templates.{AreTemplates}
use Rattle.cir_steps.proofs.Casting.{MainGives}
use Rattle.cir_steps.proofs.Mains.{the_circuit}
use Rattle.cir_steps.proofs.CircuitGives.{circuit_has}
use Rattle.cir_steps.proofs.Tallied.{Tallies, GivesTally, tallies}

-- what passes is within the limits
abbrev Passes : List Limited → Counts → Type 0
Passes ls c = AllByRecursion (λ l. l.count c ≤ l.most) ls

passes : (ls : List Limited) (w : Where) (c : Counts) → OnGood (λ d. Passes ls c) (tested ls w c)
passes [] w c = good_ok (λ d. Passes [] c) c tt
passes (l ∷ ls) w c =
    either_as (OnGood (λ d. Passes (l ∷ ls) c)) (nat_le (l.count c) l.most) (tested ls w c) _
    (λ t. good_weaker (λ d. Passes ls c) (λ d. Passes (l ∷ ls) c) (tested ls w c) (passes ls w c)
    (λ d h. (leb-true (l.count c) l.most t, h)))
    (good_bad (λ d. Passes (l ∷ ls) c) _)

settled : (w : Where) (s t : State) → settle w s ≡ Ok t
    → Passes limits (plus s.world.counts s.frame.added)
settled w s t is =
    good_is (λ t. Passes limits (plus s.world.counts s.frame.added)) (settle w s) t is
    (good_next (λ d. Passes limits (plus s.world.counts s.frame.added))
    (λ t. Passes limits (plus s.world.counts s.frame.added))
    (tested limits w (plus s.world.counts s.frame.added)) _
    (passes limits w (plus s.world.counts s.frame.added))
    (λ d h. good_ok (λ t. Passes limits (plus s.world.counts s.frame.added)) _ h))

within : (n added counted : ℕ) → standing n ≤ standing (added + counted)
    → standing (counted + added) ≤ 2097152 → n ≤ 2097152
within n added counted h l = omega arith

abbrev pub IsSmall : Circuit → Type 0
IsSmall b = (b.cells ≤ 2097152) × (length b.steps ≤ 2097152)

module _ (size : ℕ) (p : Program) (plain : AreTemplates p) where
  abbrev Gives : Signals × World → Cast → Type 0
  Gives = MainGives size Tallies GivesTally (tallies size) p plain

  main_small : (m : Main) (z : Signals × World) (o : Cast) → Gives z o
      → IsSmall (the_circuit size m z o)
  main_small m z o h = (
    within o.next h.frame.added.cells h.last.counts.cells made.0 few.1.1.1.1.0,
    from_none (length o.steps) (within (0 + length o.steps) h.frame.added.steps
        h.last.counts.steps made.1 few.1.1.1.1.1.0),
  )
    where
      few : Passes limits (plus h.last.counts h.frame.added)
      few = settled h.place record { frame = h.frame; world = h.last } h.after h.settles

      starts : (world added : ℕ) → standing (1 + 0 + 0) ≤ standing (world + added)
          → standing 1 ≤ standing (added + world)
      starts world added g = omega arith

      from_none : (n : ℕ) → 0 + n ≤ 2097152 → n ≤ 2097152
      from_none n l = omega arith

      none : (all : ℕ) → standing 0 ≤ standing all
      none all = omega arith

      made : (standing o.next ≤ standing (h.frame.added.cells + h.last.counts.cells))
          × (standing (0 + length o.steps)
          ≤ standing (h.frame.added.steps + h.last.counts.steps))
      made =
          h.gives h.frame.added.cells h.frame.added.steps 0
          (starts h.first.counts.cells h.frame.added.cells h.rises.0)
          (none (h.frame.added.steps + h.first.counts.steps))

  pub circuit_small : (b : Circuit) → circuit_with size p ≡ Ok b → IsSmall b
  circuit_small = circuit_has size Tallies GivesTally (tallies size) p plain IsSmall main_small
