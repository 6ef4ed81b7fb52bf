-- Pieces of code. A piece stands at a place of the whole code, since its jumps name places there.
use Rattle.std.specs.Prelude.{ℕ, zero, suc, ◌+◌, ◌%◌, ◌==◌, if◌then◌else◌, max, List, [], ◌∷◌, ◌++◌}
use Rattle.std.specs.Prelude.{length, drop, Option, Some, None}
use Rattle.gold_field.specs.declared.gold.TheConstants.{P}
use Rattle.gold_field.specs.declared.operators.Op1.TheVariants as op1
use Rattle.gold_field.specs.declared.operators.Op2.TheVariants as op2
use Rattle.wit_code.specs.declared.code.Op.{Op}
use Rattle.wit_code.specs.declared.code.Op.TheVariants as op
use Rattle.cir_meaning.specs.Places.{elements}
use Rattle.cir_meaning.specs.Operators.{Operator, Strict, And, Or}
use Rattle.wit_lower.specs.Homes.{Home, slots_of}

abbrev pub Code : Type 0
Code = List Op

-- a piece, and behind it another one
abbrev pub followed : (place : ℕ) → Code → (ℕ → Code) → Code
followed place first second = first ++ second (place + length first)

-- the piece is left out where slot `s` is 0
abbrev pub unless_zero : (s place : ℕ) → (ℕ → Code) → Code
unless_zero s place piece =
    op.JumpZero s (place + 1 + length (piece (place + 1))) ∷ piece (place + 1)

-- one of two pieces, the second where slot `s` is 0
abbrev pub joined : (s place : ℕ) → Code → (ℕ → Code) → Code
joined s place first second =
    op.JumpZero s (place + 2 + length first) ∷
    (first ++ op.Jump (place + 2 + length first + length (second (place + 2 + length first))) ∷
    second (place + 2 + length first))

abbrev pub either : (s place : ℕ) → (first second : ℕ → Code) → Code
either s place first second = joined s place (first (place + 1)) second

-- turns of the body as long as slot `s` isn't 0 behind the test; each turn costs a unit
abbrev pub turned : (s place : ℕ) → (body test : Code) → Code
turned s place body test =
    op.Jump (place + 2 + length body) ∷ op.Turn ∷
    (body ++ (test ++ op.JumpZero s (place + 4 + length body + length test) ∷
    op.Jump (place + 1) ∷ []))

abbrev pub turns : (s place : ℕ) → (body test : ℕ → Code) → Code
turns s place body test =
    turned s place (body (place + 2)) (test (place + 2 + length (body (place + 2))))

-- 1 in the place of every number but 0
abbrev pub truth_code : ℕ → Code
truth_code s = op.Un op1.Not s s ∷ op.Un op1.Not s s ∷ []

-- an operator's left operand comes to the slot `top`, its right one to that or the next slot
abbrev pub binary_code : Operator → (top place : ℕ) → Code → (right : ℕ → ℕ → Code) → Code
binary_code (Strict o) top place left right =
    followed place left (λ p. right (top + 1) p ++ op.Bin o top top (top + 1) ∷ [])
binary_code And top place left right =
    followed place left (λ p. unless_zero top p (λ q. right top q ++ truth_code top))
binary_code Or top place left right =
    followed place left (λ p. either top p (λ q. op.Const top 1 ∷ [])
    (λ q. right top q ++ truth_code top))

-- the right operand has no code where the left one is known to decide
abbrev pub decided : Operator → (left : Option ℕ) → Option ℕ
decided (Strict o) left = None
decided And None = None
decided And (Some m) = if m == 0 then Some 0 else None
decided Or None = None
decided Or (Some m) = if m == 0 then None else Some 1

abbrev pub lazy_code : Option ℕ → (top : ℕ) → (left both : Code) → Code
lazy_code None top left both = both
lazy_code (Some n) top left both = left ++ op.Const top n ∷ []

-- and of `?:` only the chosen side has code where the condition in slot `s` is known
abbrev pub choice_code : (condition : Option ℕ) → (s place : ℕ) → (first second : ℕ → Code) → Code
choice_code None s place first second = either s place first second
choice_code (Some zero) s place first second = second place
choice_code (Some (suc m)) s place first second = first place

-- numbers in a row to other slots
abbrev pub moves : (to from count : ℕ) → Code
moves to from zero = []
moves to from (suc n) = op.Move (to + n) (from + n) ∷ moves to from n

-- elements in a row from the place that slot `to` holds on. The last comes first, since `to` gets
-- the first.
abbrev pub loads : (to base count : ℕ) → Code
loads to base zero = []
loads to base (suc n) = op.Load (to + n) (base + n) to ∷ loads to base n

-- and numbers in a row into such elements
abbrev pub stores : (base s from count : ℕ) → Code
stores base s from zero = []
stores base s from (suc n) = op.Store base s from ∷ stores (base + 1) s (from + 1) n

abbrev pub zeros : (to count : ℕ) → Code
zeros to zero = []
zeros to (suc n) = op.Const to 0 ∷ zeros (to + 1) n

abbrev pub constants : (to : ℕ) → List ℕ → Code
constants to [] = []
constants to (n ∷ ns) = op.Const to (n % P) ∷ constants (to + 1) ns

-- indices stand in a row from slot `s` on; each is tested against its dimension
abbrev pub bounds : (s : ℕ) → (dims : List ℕ) → (count : ℕ) → Code
bounds s [] count = []
bounds s (d ∷ ds) zero = []
bounds s (d ∷ ds) (suc n) = op.Bound s d ∷ bounds (s + 1) ds n

-- the place that n + 1 indices mean comes to slot `s`
abbrev pub offset_code : (s : ℕ) → (dims : List ℕ) → (n : ℕ) → Code
offset_code s [] n = []
offset_code s (d ∷ ds) zero =
    op.Bound s d ∷ (if elements ds == 1 then [] else op.Const (s + 1) (elements ds % P) ∷
    op.Bin op2.Mul s s (s + 1) ∷ [])
offset_code s (d ∷ ds) (suc n) =
    op.Bound s d ∷ (offset_code (s + 1) ds n ++ op.Const (s + 2) (elements ds % P) ∷
    op.Bin op2.Mul s s (s + 2) ∷ op.Bin op2.Add s s (s + 1) ∷ [])

-- the part of an array that so many indices mean, which stand from slot `top` on, comes there
abbrev pub read_code : Option Home → (top count : ℕ) → Code
read_code None top count = []
read_code (Some h) top zero = moves top h.base (slots_of h.dims)
read_code (Some h) top (suc n) =
    offset_code top h.dims n ++ loads top h.base (slots_of (drop (suc n) h.dims))

-- as many numbers from slot `from` on into the part that indices from slot `s` on mean
abbrev pub write_code : Option Home → (s count from size : ℕ) → Code
write_code None s count from size = []
write_code (Some h) s zero from size = moves h.base from size
write_code (Some h) s (suc n) from size = offset_code s h.dims n ++ stores h.base s from size

-- how many slots an instruction names; `params` are the parameters of the procedures
abbrev pub named : (params : ℕ → ℕ) → Op → ℕ
named params (op.Const d v) = d + 1
named params (op.Move d s) = max d s + 1
named params (op.Read d i) = d + 1
named params (op.Un o d a) = max d a + 1
named params (op.Bin o d a b) = max d (max a b) + 1
named params (op.Bound s n) = s + 1
named params (op.Load d base s) = max d s + 1
named params (op.Store base s a) = max s a + 1
named params (op.Jump to) = 0
named params (op.JumpZero s to) = s + 1
named params op.Turn = 0
named params (op.Call f first d) = max (d + 1) (first + params f)
named params (op.Return s) = s + 1
named params (op.Check a b) = max a b + 1
named params (op.Assert s) = s + 1
named params (op.Write s) = s + 1

-- a frame has the slots that its code names
abbrev pub most_named : (params : ℕ → ℕ) → Code → ℕ
most_named params [] = 0
most_named params (o ∷ os) = max (named params o) (most_named params os)
