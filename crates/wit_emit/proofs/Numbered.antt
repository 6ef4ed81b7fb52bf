-- The number of a procedure is where its key stands.
use Rattle.std.proofs.Common.{◌≡◌, ◌∙◌, ℕ, suc, Bool, true, false, List, [], ◌∷◌, length, ap, refl}
use Rattle.std.specs.Prelude.{if◌then◌else◌, Option, Some, None, option_map}
use Rattle.cir_meaning.specs.Costs.{Made}
use Rattle.cir_meaning.specs.Functions.{same_made}
use Rattle.cir_rules.specs.Table.{place_in}
use Rattle.wit_lower.specs.Values.{number_of}

-- the place, or the end
abbrev pub or_end : Option ℕ → (count : ℕ) → ℕ
or_end None count = count
or_end (Some n) count = n

step : (b : Bool) (o : Option ℕ) (n count : ℕ) → n ≡ or_end o count
    → (if b then 0 else suc n)
    ≡ or_end (if b then Some 0 else option_map (λ n. suc n) o) (suc count)
step true o n count e = refl
step false None n count e = ap suc e
step false (Some m) n count e = ap suc e

pub numbered : (keys : List Made) (key : Made)
    → number_of keys key ≡ or_end (place_in (λ m. same_made m key) keys) (length keys)
numbered [] key = refl
numbered (k ∷ ks) key =
    step (same_made k key) (place_in (λ m. same_made m key) ks) (number_of ks key) (length ks)
    (numbered ks key)
