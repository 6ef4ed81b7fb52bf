-- Writing the start values into the words
use Rattle.std.proofs.Common.{◌≡◌, ◌≢◌, ℕ, ◌+◌, ◌<◌, ◌≤◌, ◌⊎◌, List, length, get_or, set, refl, sym}
use Rattle.std.proofs.Common.{◌∙◌, ap, subst, inl, inr, arith, Option, Some, None, unwrap_or}
use Rattle.std.proofs.Common.{get_or-set_other, get_or-set_same}
use Rattle.std.specs.Prelude.{slice_get}
use Rattle.std.proofs.lemmas.Bool.{cases_eq, cases_lt}
use Rattle.std.proofs.lemmas.List.{get_or_past}
use Rattle.std.proofs.lemmas.Option.{slice_get_within, slice_get_read}
use Rattle.flow_core.specs.Flow.{Flow, IsFlow, start_of}
use Rattle.gold_field.specs.declared.gold.TheConstants.{P}
use Rattle.flow_board.specs.Shows.{cell_word}
use Rattle.flow_board.specs.Rule.{HasNumbers}
use Rattle.flow_board.specs.Seats.{ListsStarts}

some_same : (x y : ℕ) → Some x ≡ Some y → x ≡ y
some_same x y e = ap (λ (o : Option ℕ). unwrap_or o x) e

pair_same : (x y : ℕ × ℕ) → Some x ≡ Some y → x ≡ y
pair_same x y e = ap (λ (o : Option (ℕ × ℕ)). unwrap_or o x) e

pub start_near : (f : Flow) → IsFlow f → (c x : ℕ) → start_of f c ≡ Some x → c < f.net.cells
start_near f flow c x e = elim (cases_lt c f.net.cells) [
  | inl near ↦ near
  | inr far ↦ let each = flow.start_each in
      let past : start_of f c ≡ None = get_or_past f.start c None (omega arith) in cc
]

-- the pair at a place of the list is a start cell with its value
pub listed : (f : Flow) (starts : List (ℕ × ℕ)) → ListsStarts f starts → (i : ℕ) (x : ℕ × ℕ)
    → i < length starts → x ≡ get_or starts i x → start_of f x.0 ≡ Some x.1
listed f starts h i x near is =
    h.true_each i x.0 x.1 (slice_get_read starts (length starts) i x refl near is)

pub each_next : (f : Flow) (ws : List ℕ) (d v c : ℕ) → start_of f d ≡ Some v → 1 + d < length ws
    → (get_or ws (1 + c) 0 ≡ 0) ⊎ (get_or ws (1 + c) 0 ≡ cell_word (start_of f c))
    → (get_or (set ws (1 + d) (v + 1)) (1 + c) 0 ≡ 0)
    ⊎ (get_or (set ws (1 + d) (v + 1)) (1 + c) 0 ≡ cell_word (start_of f c))
each_next f ws d v c starts near h = elim (cases_eq c d) [
  | inl e ↦ (let P : ℕ → Type 0 = λ c. get_or (set ws (1 + d) (v + 1)) (1 + c) 0
      ≡ cell_word (start_of f c) in
      inr (subst P (sym e) (get_or-set_same ws (1 + d) (v + 1) 0 near ∙ ap cell_word (sym starts))))
  | inr ne ↦ (let same = get_or-set_other ws (1 + d) (1 + c) (v + 1) 0 (λ e. ne (omega arith)) in
      elim h [ inl z ↦ inl (same ∙ z) | inr z ↦ inr (same ∙ z) ])
]

pub written_next : (f : Flow) (starts : List (ℕ × ℕ)) → ListsStarts f starts
    → (ws : List ℕ) (n : ℕ) (p : ℕ × ℕ) → n < length starts → p ≡ get_or starts n p
    → 1 + p.0 < length ws
    → ((i c x : ℕ) → i < n → slice_get starts i ≡ Some (c, x) → get_or ws (1 + c) 0 ≡ x + 1)
    → (i c x : ℕ) → i < n + 1 → slice_get starts i ≡ Some (c, x)
    → get_or (set ws (1 + p.0) (p.1 + 1)) (1 + c) 0 ≡ x + 1
written_next f starts h ws n p in-list is near before i c x less at = let here =
    listed f starts h n p in-list is in elim (cases_eq c p.0) [
      | inl e ↦ (let P : ℕ → Type 0 = λ c. start_of f c ≡ Some x in
          let there = subst P e (h.true_each i c x at) in
          let same-x : p.1 ≡ x = some_same p.1 x (sym here ∙ there) in
          ap (λ (c : ℕ). get_or (set ws (1 + p.0) (p.1 + 1)) (1 + c) 0) e
          ∙ get_or-set_same ws (1 + p.0) (p.1 + 1) 0 near ∙ ap (λ (y : ℕ). y + 1) same-x)
      | inr ne ↦ (
          let apart : i ≢ n = λ e. let Q : ℕ → Type 0 = λ i. slice_get starts i ≡ Some (c, x) in
          let same-pair = pair_same p (c, x)
          (sym (slice_get_read starts (length starts) n p refl in-list is) ∙ subst Q e at) in
          ne (ap (λ (y : ℕ × ℕ). y.0) (sym same-pair)) in
          get_or-set_other ws (1 + p.0) (1 + c) (p.1 + 1) 0 (λ e. ne (omega arith))
          ∙ before i c x (omega arith) at)
    ]

cases_start : (o : Option ℕ) → (o ≡ None) ⊎ ((x : ℕ) × (o ≡ Some x))
cases_start None = inl refl
cases_start (Some x) = inr (x, refl)

-- once all are written, each cell's word is that of its start value
pub all_written : (f : Flow) (starts : List (ℕ × ℕ)) → ListsStarts f starts
    → (ws : List ℕ) (n c : ℕ) → length starts ≤ n → (get_or ws (1 + c) 0 ≡ 0)
    ⊎ (get_or ws (1 + c) 0 ≡ cell_word (start_of f c))
    → ((i c x : ℕ) → i < n → slice_get starts i ≡ Some (c, x) → get_or ws (1 + c) 0 ≡ x + 1)
    → get_or ws (1 + c) 0 ≡ cell_word (start_of f c)
all_written f starts h ws n c all each written = elim (cases_start (start_of f c)) [
  | inl no-start ↦ elim each [ inl z ↦ z ∙ ap cell_word (sym no-start) | inr z ↦ z ]
  | inr s ↦ (let at = h.all c s.0 s.1 in let near = slice_get_within starts at.0 (c, s.0) at.1 in
      written at.0 c s.0 (omega arith) at.1 ∙ ap cell_word (sym s.1))
]

-- the start values that are written so far are numbers of the field
pub numbers_next : (starts : List (ℕ × ℕ)) (n : ℕ) (p : ℕ × ℕ) → n < length starts
    → p ≡ get_or starts n p → p.1 < P
    → ((i c x : ℕ) → i < n → slice_get starts i ≡ Some (c, x) → x < P)
    → (i c x : ℕ) → i < n + 1 → slice_get starts i ≡ Some (c, x) → x < P
numbers_next starts n p in-list is below before i c x less at = elim (cases_eq i n) [
  | inl e ↦ (
      let Q : ℕ → Type 0 = λ i. slice_get starts i ≡ Some (c, x) in
      let same-pair = pair_same p (c, x)
      (sym (slice_get_read starts (length starts) n p refl in-list is) ∙ subst Q e at) in
      let same-x : p.1 ≡ x = ap (λ (y : ℕ × ℕ). y.1) same-pair in omega arith)
  | inr ne ↦ before i c x (omega arith) at
]

pub all_numbers : (f : Flow) (starts : List (ℕ × ℕ)) → ListsStarts f starts → (n : ℕ)
    → length starts ≤ n
    → ((i c x : ℕ) → i < n → slice_get starts i ≡ Some (c, x) → x < P) → HasNumbers f.start
all_numbers f starts h n all below c x e =
    let at = h.all c x e in
    let near = slice_get_within starts at.0 (c, x) at.1 in below at.0 c x (omega arith) at.1
