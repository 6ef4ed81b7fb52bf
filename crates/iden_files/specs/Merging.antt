-- Terms that never fall, with equal neighbours added up.
use Rattle.std.specs.Prelude.{◌==◌, ◌+◌, ◌%◌, List, [], ◌∷◌, ◌++◌, if◌then◌else◌}
use Rattle.gold_field.specs.declared.form.Term.{Term}
use Rattle.gold_field.specs.declared.gold.TheConstants.{P}

-- a term that is kept unless its coefficient is 0
abbrev pub closed : Term → List Term
closed t = if t.coef == 0 then [] else t ∷ []

-- the last term, to which the next ones with its signal are added, and those after it
abbrev pub merged : Term → List Term → List Term
merged last [] = closed last
merged last (t ∷ ts) =
    if t.signal == last.signal
    then merged (record { signal = last.signal; coef = (last.coef + t.coef) % P }) ts
    else closed last ++ merged t ts
