-- A list is copied item by item: the copies, and behind them what is left, stand for the whole.
use Rattle.std.proofs.Common.{◌≡◌, ◌∙◌, ℕ, ◌+◌, ◌<◌, ◌≤◌, List, [], ◌∷◌, ◌++◌, length, drop, get_or}
use Rattle.std.proofs.Common.{ap, sym, append_assoc}
use Rattle.std.specs.Prelude.{map}
use Rattle.std.proofs.lemmas.List.{drop_more, append-nil, at_drop_all, map-append}
use Rattle.cir_ast.specs.declared.marked.Accessor.{Accessor as CodeAccessor}
use Rattle.cir_ast.specs.declared.marked.Accessor.TheVariants as accessor
use Rattle.cir_ast.specs.declared.marked.NamedInput.{NamedInput as CodeInput}
use Rattle.cir_ast.specs.declared.program.Meant.{Meant}
use Rattle.cir_ast.specs.declared.marked.Inputs.{Inputs as CodeInputs}
use Rattle.cir_ast.specs.declared.marked.Inputs.TheVariants as inputs
use Rattle.cir_ast.specs.Tree.{bare, as_accessors, as_named, index, member, named, Inputs, Named}
use Rattle.cir_ast.specs.Tree.{bare_inputs, Accessors}
use Rattle.cir_ast.proofs.Rows.{named_are}

-- the item of this turn stands in front of what is left
pub item_first : {A : Type 0} (all : List A) (i : ℕ) (a : A) → i < length all → a ≡ get_or all i a
    → drop i all ≡ a ∷ drop (i + 1) all
item_first all i a h is = drop_more all i a h ∙ ap (λ z. z ∷ drop (i + 1) all) (sym is)

-- where the meaning of a list is the list of its items' meanings
pub mapped_more : {A B C : Type 0} (f : A → C) (g : B → C) (copies pushed : List A) (all : List B)
    (i : ℕ) (x : A) (a : B) (whole : List C) → i < length all → a ≡ get_or all i a → f x ≡ g a
    → pushed ≡ copies ++ x ∷ [] → map f copies ++ map g (drop i all) ≡ whole
    → map f pushed ++ map g (drop (i + 1) all) ≡ whole
mapped_more f g copies pushed all i x a whole h is same push before =
    let rest : List _ = map g (drop (i + 1) all) in
    ap (λ l. map f l ++ rest) push
    ∙ ap (λ l. l ++ rest) (map-append f copies (x ∷ []))
    ∙ append_assoc (map f copies) (f x ∷ []) rest
    ∙ ap (λ y. map f copies ++ (y ∷ rest)) same
    ∙ sym (ap (λ l. map f copies ++ map g l) (item_first all i a h is))
    ∙ before

accessors_swap : (copies rest : List (CodeAccessor Meant)) (x a : CodeAccessor Meant)
    → as_accessors (x ∷ rest) ≡ as_accessors (a ∷ rest)
    → as_accessors ((copies ++ x ∷ []) ++ rest) ≡ as_accessors (copies ++ (a ∷ rest))
accessors_swap [] rest x a same = same
accessors_swap (accessor.Index e ∷ copies) rest x a same =
    ap (index (bare e)) (accessors_swap copies rest x a same)
accessors_swap (accessor.Member name ∷ copies) rest x a same =
    ap (member name) (accessors_swap copies rest x a same)

pub accessors_more : (copies pushed all : List (CodeAccessor Meant)) (i : ℕ)
    (x a : CodeAccessor Meant) (whole : Accessors Meant) → i < length all → a ≡ get_or all i a
    → ((rest : List (CodeAccessor Meant)) → as_accessors (x ∷ rest) ≡ as_accessors (a ∷ rest))
    → pushed ≡ copies ++ x ∷ [] → as_accessors (copies ++ drop i all) ≡ whole
    → as_accessors (pushed ++ drop (i + 1) all) ≡ whole
accessors_more copies pushed all i x a whole h is same push before =
    ap (λ l. as_accessors (l ++ drop (i + 1) all)) push
    ∙ accessors_swap copies (drop (i + 1) all) x a (same (drop (i + 1) all))
    ∙ sym (ap (λ l. as_accessors (copies ++ l)) (item_first all i a h is))
    ∙ before

named_swap : (copies rest : List (CodeInput Meant)) (x a : CodeInput Meant)
    → as_named (x ∷ rest) ≡ as_named (a ∷ rest)
    → as_named ((copies ++ x ∷ []) ++ rest) ≡ as_named (copies ++ (a ∷ rest))
named_swap [] rest x a same = same
named_swap (c ∷ copies) rest x a same =
    ap (named c.name c.arrow (bare c.value)) (named_swap copies rest x a same)

-- x is a copy of a, behind its name
input_copied : (x a : CodeInput Meant) (rest : List (CodeInput Meant)) → x.name ≡ a.name
    → x.arrow ≡ a.arrow → bare x.value ≡ bare a.value → as_named (x ∷ rest) ≡ as_named (a ∷ rest)
input_copied x a rest name arrow value =
    ap (λ n. named n x.arrow (bare x.value) (as_named rest)) name
    ∙ ap (λ w. named a.name w (bare x.value) (as_named rest)) arrow
    ∙ ap (λ v. named a.name a.arrow v (as_named rest)) value

pub named_more : (copies pushed all : List (CodeInput Meant)) (i : ℕ) (x a : CodeInput Meant)
    (whole : Inputs Meant) → i < length all → a ≡ get_or all i a → x.name ≡ a.name
    → x.arrow ≡ a.arrow → bare x.value ≡ bare a.value → pushed ≡ copies ++ x ∷ []
    → Named (as_named (copies ++ drop i all)) ≡ whole
    → Named (as_named (pushed ++ drop (i + 1) all)) ≡ whole
named_more copies pushed all i x a whole h is name arrow value push before =
    ap (λ l. Named (as_named (l ++ drop (i + 1) all))) push
    ∙ ap Named (named_swap copies (drop (i + 1) all) x a
    (input_copied x a (drop (i + 1) all) name arrow value))
    ∙ sym (ap (λ l. Named (as_named (copies ++ l))) (item_first all i a h is))
    ∙ before

-- nothing is left at the end
pub accessors_all : (copies all list : List (CodeAccessor Meant)) (i : ℕ) (whole : Accessors Meant)
    → length all ≤ i → list ≡ copies → as_accessors (copies ++ drop i all) ≡ whole
    → as_accessors list ≡ whole
accessors_all copies all list i whole h is before =
    ap as_accessors is
    ∙ sym (ap as_accessors (append-nil copies))
    ∙ sym (at_drop_all (λ l. as_accessors (copies ++ l)) all i h)
    ∙ before

pub named_all : (copies all list : List (CodeInput Meant)) (i : ℕ) (whole : Inputs Meant)
    → length all ≤ i → list ≡ copies → Named (as_named (copies ++ drop i all)) ≡ whole
    → bare_inputs (inputs.Named list) ≡ whole
named_all copies all list i whole h is before =
    ap Named (named_are Meant list)
    ∙ ap (λ l. Named (as_named l)) is
    ∙ sym (ap (λ l. Named (as_named l)) (append-nil copies))
    ∙ sym (at_drop_all (λ l. Named (as_named (copies ++ l))) all i h)
    ∙ before

-- at the start all is left
pub named_start : (list slice copies : List (CodeInput Meant)) (i : CodeInputs Meant)
    → i ≡ inputs.Named list → slice ≡ list → copies ≡ []
    → Named (as_named (copies ++ slice)) ≡ bare_inputs i
named_start list slice copies i is same none =
    ap (λ l. Named (as_named (l ++ slice))) none
    ∙ ap (λ l. Named (as_named l)) same
    ∙ sym (ap Named (named_are Meant list))
    ∙ sym (ap (λ i'. bare_inputs i') is)
