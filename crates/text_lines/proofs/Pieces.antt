-- The lines of a text, by the first of them.
use Rattle.std.proofs.Common.{◌≡◌, ◌≢◌, ℕ, suc, ◌<◌, ◌+◌, Bool, true, false}
use Rattle.std.proofs.Common.{ltb, eqb, List, [], ◌∷◌}
use Rattle.std.proofs.Common.{◌++◌, length, take, drop, get_or, cond, Option, Some, None, refl}
use Rattle.std.proofs.Common.{ap}
use Rattle.std.proofs.Common.{◌∙◌, arith, All, append_assoc}
use Rattle.std.specs.Option.{MatchOption, is_some}
use Rattle.std.specs.List.{slice_split, position_or_len, before_first, after_first}
use Rattle.std.proofs.lemmas.Bool.{ltb-true, ltb-false, lt-ltb, ne_eqb, eq-eqb, eqb-true, cond-true}
use Rattle.std.proofs.lemmas.Bool.{cond-false}
use Rattle.std.proofs.lemmas.List.{length-append, take_at, get_or_at, get_or_append_left}
use Rattle.std.proofs.Math.Seq.{drop-append-add}
use Rattle.std.proofs.lemmas.List.Elements.{All-from_get_or, All-head, All-tail, All-weaker}
use Rattle.std.proofs.lemmas.List.Elements.{All-get_or}
use Rattle.std.proofs.lemmas.List.Sums.{fails_before_first, passes_at_first, split_at_first}
use Rattle.std.proofs.lemmas.List.Sums.{position_or_len_is}
use Rattle.std.proofs.lemmas.List.Splits.{slice_split_none, slice_split_at, slice_split_first}
use Rattle.std.proofs.lemmas.List.Splits.{length-slice_split}
use Rattle.text_lines.specs.Lines.{split_once, without_empty_last, lines_of, text_of, HasNo}

-- a place that is found, or isn't, with what is made of it
pub when_none : {A B : Type 0} (t : Bool) (x : A) (y : B) → cond t (Some x) None ≡ None
    → cond t (Some y) None ≡ None
when_none true x y h = cc
when_none false x y h = refl

pub when_some : {A B : Type 0} (t : Bool) (x z : A) (y : B) → cond t (Some x) None ≡ Some z
    → (cond t (Some y) None ≡ Some y) × (x ≡ z)
when_some true x z y h = (refl, cc)
when_some false x z y h = cc

when_made : {A : Type 0} (t : Bool) (x y : A) → cond t (Some x) None ≡ Some y
    → (t ≡ true) × (x ≡ y)
when_made true x y h = (refl, cc)
when_made false x y h = cc

not_made : {A : Type 0} (t : Bool) (x : A) → cond t (Some x) None ≡ None → t ≡ false
not_made true x h = cc
not_made false x h = refl

keeps_first : (line : List ℕ) (pieces : List (List ℕ)) → 0 < length pieces
    → without_empty_last (line ∷ pieces) ≡ line ∷ without_empty_last pieces
keeps_first line [] some = absurd (omega arith)
keeps_first line (x ∷ xs) some = refl

behind_first : (text line rest : List ℕ)
    → slice_split (λ b. eqb b 10) text ≡ line ∷ slice_split (λ b. eqb b 10) rest
    → lines_of text ≡ line ∷ lines_of rest
behind_first text line rest h =
    ap without_empty_last h
    ∙ keeps_first line (slice_split (λ b. eqb b 10) rest)
    (omega (arith, length-slice_split (λ b. eqb b 10) rest))

pub first_of_lines : (text line rest : List ℕ) → split_once 10 text ≡ Some (line, rest)
    → lines_of text ≡ line ∷ lines_of rest
first_of_lines text line rest h =
    let p : ℕ → Bool = λ b. eqb b 10 in
    let w = when_made (ltb (position_or_len p text) (length text))
    (before_first p text, after_first p text) (line, rest) h in
    let split = slice_split_first p text 0 (ltb-true _ _ w.0) in
    let first : before_first p text ≡ line = ap (λ (r : List ℕ × List ℕ). r.0) w.1 in
    let behind : after_first p text ≡ rest = ap (λ (r : List ℕ × List ℕ). r.1) w.1 in
    behind_first text line rest
    (split ∙ (ap (λ (l : List ℕ). l ∷ slice_split p (after_first p text)) first
    ∙ ap (λ (r : List ℕ). line ∷ slice_split p r) behind))

last_line : (line : List ℕ) → 0 < length line → without_empty_last (line ∷ []) ≡ line ∷ []
last_line [] some = absurd (omega arith)
last_line (x ∷ xs) some =
    cond-false _ _ _ (ne_eqb (length (x ∷ xs)) 0 (λ e. omega (arith, e, some)))

pub only_line : (text : List ℕ) → 0 < length text → split_once 10 text ≡ None
    → lines_of text ≡ text ∷ []
only_line text some h =
    let p : ℕ → Bool = λ b. eqb b 10 in
    let late = ltb-false _ _ (not_made (ltb (position_or_len p text) (length text))
    (before_first p text, after_first p text) h) in
    let none : All (λ b. p b ≡ false) text = All-from_get_or (λ b. p b ≡ false) text 0
    (λ i low. fails_before_first p text i 0 (omega (arith, late, low))) in
    ap without_empty_last (slice_split_none p text none) ∙ last_line text some

pub written_again : (lines : List (List ℕ)) → All (HasNo 10) lines
    → lines_of (text_of lines) ≡ lines
written_again [] h = refl
written_again (line ∷ lines) h =
    let p : ℕ → Bool = λ b. eqb b 10 in
    let none : All (λ b. p b ≡ false) line = All-weaker (λ b. b ≢ 10) (λ b. p b ≡ false)
    (λ b differs. ne_eqb b 10 differs) line (All-head (HasNo 10) line lines h) in
    let split = slice_split_at p line 10 (text_of lines) none refl in
    let text : text_of (line ∷ lines) ≡ line ++ 10 ∷ text_of lines =
    append_assoc line (10 ∷ []) (text_of lines) in
    ap lines_of text
    ∙ (behind_first (line ++ 10 ∷ text_of lines) line (text_of lines) split
    ∙ ap (λ (ls : List (List ℕ)). line ∷ ls)
    (written_again lines (All-tail (HasNo 10) line lines h)))

-- a line feed was found
pub first_found : {B : Type 0} (line rest : B → List ℕ) (text : List ℕ) (o : Option B)
    → MatchOption o (split_once 10 text ≡ None) (λ r. split_once 10 text ≡ Some (line r, rest r))
    → is_some o ≡ true
    → MatchOption o (lines_of text ≡ []) (λ r. lines_of text ≡ line r ∷ lines_of (rest r))
first_found line rest text None h found = cc
first_found line rest text (Some r) h found = first_of_lines text (line r) (rest r) h

-- none was found
pub only_found : {B : Type 0} (line rest : B → List ℕ) (text first behind : List ℕ) (o : Option B)
    → MatchOption o (split_once 10 text ≡ None) (λ r. split_once 10 text ≡ Some (line r, rest r))
    → is_some o ≡ false → 0 < length text → first ≡ text → behind ≡ []
    → lines_of text ≡ first ∷ lines_of behind
only_found line rest text first behind None h found some same nothing =
    rw (same, nothing) (only_line text some h)
only_found line rest text first behind (Some r) h found some same nothing = cc

-- a list is split at the first byte that isn't in its front
pub split_again : (byte : ℕ) (front rest : List ℕ) → HasNo byte front
    → split_once byte (front ++ byte ∷ rest) ≡ Some (front, rest)
split_again byte front rest none =
    let p : ℕ → Bool = λ b. eqb b byte in
    let all : List ℕ = front ++ byte ∷ rest in
    let long : length all ≡ length front + suc (length rest) =
    length-append front (byte ∷ rest) in
    let place : position_or_len p all ≡ length front =
    position_or_len_is p all (length front) 0 (omega (arith, long))
    (λ k low. before k low) (λ _. here) in
    let P : ℕ → Option (List ℕ × List ℕ) = λ n. cond (ltb n (length all))
    (Some (take n all, drop (n + 1) all)) None in
    let found : P (length front) ≡ Some (take (length front) all, drop (length front + 1) all) =
    cond-true _ _ _ (lt-ltb (length front) (length all) (omega (arith, long))) in
    let first : take (length front) all ≡ front = take_at front (byte ∷ rest) (length front) refl in
    let behind : drop (length front + 1) all ≡ rest = drop-append-add front (byte ∷ rest) 1 in
    ap P place ∙ (found ∙ (ap (λ (l : List ℕ). Some (l, drop (length front + 1) all)) first
    ∙ ap (λ (l : List ℕ). Some (front, l)) behind))
  where
    before : (k : ℕ) → k < length front
        → eqb (get_or (front ++ byte ∷ rest) k 0) byte ≡ false
    before k low =
        rw (get_or_append_left front (byte ∷ rest) 0 k low)
        (ne_eqb (get_or front k 0) byte (All-get_or (λ b. b ≢ byte) front k 0 low none))

    here : eqb (get_or (front ++ byte ∷ rest) (length front) 0) byte ≡ true
    here = eq-eqb _ _ (get_or_at front byte rest 0 (length front) refl)

-- the parts are those of the list
pub split_parts : (byte : ℕ) (bytes front rest : List ℕ)
    → split_once byte bytes ≡ Some (front, rest)
    → bytes ≡ front ++ byte ∷ rest
split_parts byte bytes front rest h =
    let p : ℕ → Bool = λ b. eqb b byte in
    let w = when_made (ltb (position_or_len p bytes) (length bytes))
    (before_first p bytes, after_first p bytes) (front, rest) h in
    let low : position_or_len p bytes < length bytes = ltb-true _ _ w.0 in
    let first : before_first p bytes ≡ front = ap (λ (r : List ℕ × List ℕ). r.0) w.1 in
    let behind : after_first p bytes ≡ rest = ap (λ (r : List ℕ × List ℕ). r.1) w.1 in
    let here : get_or bytes (position_or_len p bytes) 0 ≡ byte =
    eqb-true _ _ (passes_at_first p bytes 0 low) in
    split_at_first p bytes 0 low
    ∙ (ap (λ (l : List ℕ). l ++ (get_or bytes (position_or_len p bytes) 0 ∷ after_first p bytes))
    first
    ∙ (ap (λ (b : ℕ). front ++ (b ∷ after_first p bytes)) here
    ∙ ap (λ (l : List ℕ). front ++ (byte ∷ l)) behind))
