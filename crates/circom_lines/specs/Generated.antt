-- The circuit that `generate` makes, and its input.
use Rattle.std.specs.Prelude.{ℕ, ◌+◌, List, [], ◌∷◌, ◌++◌, map, codes, decimal}
use Rattle.circom_lines.specs.Lines.{line}

abbrev pub joined : List (List ℕ) → List ℕ
joined [] = []
joined (part ∷ parts) = part ++ joined parts

-- what stands before the number of links
abbrev pub links_text : List ℕ
links_text =
    joined
    (codes "template Link() { signal input x; signal input k; signal output y; "
    ∷ codes "y <== x * x + k; }" ∷ line []
    ∷ codes "template Links(n) { signal input s; signal input k[8]; signal output out; "
    ∷ codes "component l[n];" ∷ line []
    ∷ codes "for (var i = 0; i < n; i++) { l[i] = Link(); l[i].k <== k[i % 8]; l[i].x <== s; }"
    ∷ line [] ∷ codes "out <== l[n - 1].y; }" ∷ line [] ∷ codes "component main = Links(" ∷ [])

-- the source of a circuit of so many links
abbrev pub generated_text : ℕ → List ℕ
generated_text size = line (links_text ∷ decimal size ∷ codes ");" ∷ [])

-- `s` is the seed, and each `k[j]` is the seed plus j + 1
abbrev pub generated_input : ℕ → List ℕ
generated_input seed =
    map (λ j. seed + j) (0 ∷ 1 ∷ 2 ∷ 3 ∷ 4 ∷ 5 ∷ 6 ∷ 7 ∷ 8 ∷ [])
