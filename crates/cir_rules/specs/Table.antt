-- Where a call stands among others, as a map tells.
use Rattle.std.specs.Prelude.{◌≡◌, ℕ, suc, Bool, if◌then◌else◌, List, [], ◌∷◌, map, Option, Some}
use Rattle.std.specs.Prelude.{None, option_map}
use Rattle.std.specs.BTreeMap.{BTreeMap, get}
use Rattle.std.specs.Cmp.Lexicographic.{slice_cmp}
use Rattle.std.specs.Ordering.{nat_cmp, ordering_then}
use Rattle.std.specs.declared.cmp.Ordering.{Ordering}
use Rattle.cir_meaning.specs.Functions.{same_made}
use Rattle.cir_rules.specs.declared.made.Made.{Made}
use Rattle.cir_rules.specs.Shown.{made_of}

-- the place of the first that is told
abbrev pub place_in : {A : Type 0} → (A → Bool) → List A → Option ℕ
place_in told [] = None
place_in told (a ∷ as') = if told a then Some 0 else option_map (λ n. suc n) (place_in told as')

-- calls in the order of their functions, then of their shapes
abbrev pub made_cmp : Made → Made → Ordering
made_cmp a b =
    ordering_then (nat_cmp a.function b.function)
    (slice_cmp (λ d e. slice_cmp nat_cmp d.items e.items) a.shapes.items b.shapes.items)

abbrev pub AreTold : BTreeMap Made ℕ → List Made → Type 0
AreTold places calls =
    (q : Made) → get made_cmp places q
    ≡ place_in (λ m. same_made m (made_of q)) (map made_of calls)
