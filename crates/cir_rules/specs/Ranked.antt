-- What the code's ranks stand for.
use Rattle.std.specs.Prelude.{ℕ, List, map, filter, length, Option, Some, None}
use Rattle.std.specs.declared.vec.Vec.{Vec}
use Rattle.std.specs.declared.alloc.Global.{Global}
use Rattle.cir_ast.specs.Tree.{bare_variable}
use Rattle.cir_meaning.specs.Costs as C
use Rattle.cir_meaning.specs.Reached as R
use Rattle.cir_meaning.specs.Texts as T
use Rattle.cir_rules.specs.declared.ranks.RankedCall.{RankedCall}
use Rattle.cir_texts.specs.declared.texts.Texts.{Texts}

abbrev pub ranked_of : RankedCall → R.RankedCall
ranked_of c = record { function = c.function; ranks = c.ranks.items }

abbrev pub ranked_made : C.Made → R.RankedCall
ranked_made m = record { function = m.function; ranks = map length m.shapes }

abbrev pub ranks_in : List ℕ → Texts → ℕ → ℕ
ranks_in ranks t = R.variable_rank ranks (map (λ v. bare_variable v.now) t.variables.items)

-- the calls that are followed, with the ranks of their arguments
abbrev pub followed : (ℕ → ℕ) → List T.Called → List R.RankedCall
followed ranks calls =
    map (λ d. record { function = d.function; ranks = map (R.rank_of ranks) d.arguments })
    (filter (λ d. R.is_followed (R.rank_of ranks) d.arguments) calls)

abbrev pub list_in : Option (Vec ℕ Global) → Option (List ℕ)
list_in None = None
list_in (Some v) = Some v.items
