-- Text of one line.
use Rattle.std.proofs.Common.{◌≡◌, ◌≢◌, ℕ, zero, suc, ◌+◌, ◌%◌, ◌<◌, Bool}
use Rattle.std.proofs.Common.{true, false, cond, List}
use Rattle.std.proofs.Common.{[], ◌∷◌, ◌++◌, arith, sym, subst}
use Rattle.std.specs.Prelude.{nat_lt, ◌==◌, ◌/◌, codes}
use Rattle.std.specs.Fmt.{digit_glyph, digits_onto, digits, decimal}
use Rattle.std.proofs.lemmas.Bool.{lt-ltb, cond-true}
use Rattle.cir_meaning.specs.Places.{brackets}
use Rattle.cir_meaning.specs.Anonymous.{own_name}
use Rattle.cir_meaning.proofs.Rows.{all_append}
use Rattle.cir_row_names.specs.Rows.{IsLineByte, IsLineText}

pub line_append : (xs ys : List ℕ) → IsLineText xs → IsLineText ys → IsLineText (xs ++ ys)
line_append = all_append IsLineByte

glyph : (n : ℕ) → IsLineByte (digit_glyph false (n % 10))
glyph n =
    let low : n % 10 < 10 = omega arith in
    let is : digit_glyph false (n % 10) ≡ 48 + n % 10 =
    cond-true (nat_lt (n % 10) 10) _ _ (lt-ltb (n % 10) 10 low) in
    subst IsLineByte (sym is) (omega arith, λ e. omega (arith, e))

onto : (k n : ℕ) (acc : List ℕ) → IsLineText acc → IsLineText (digits_onto k 10 false n acc)
onto zero n acc h = h
onto (suc k) n acc h =
    last (n / 10 == 0) (onto k (n / 10) (digit_glyph false (n % 10) ∷ acc) (glyph n, h))
  where
    last : (t : Bool)
        → IsLineText (digits_onto k 10 false (n / 10) (digit_glyph false (n % 10) ∷ acc))
        → IsLineText (cond t (digit_glyph false (n % 10) ∷ acc)
        (digits_onto k 10 false (n / 10) (digit_glyph false (n % 10) ∷ acc)))
    last true more = (glyph n, h)
    last false more = more

pub decimal_line : (n : ℕ) → IsLineText (decimal n)
unfolding digits
decimal_line n = onto 64 n [] tt

one_byte : (b : ℕ) → b < 128 → b ≢ 10 → IsLineText (b ∷ [])
one_byte b small apart = ((small, apart), tt)

pub brackets_line : (ns : List ℕ) → IsLineText (brackets ns)
brackets_line [] = tt
brackets_line (n ∷ ns) = (
  (omega arith, λ e. omega (arith, e)),
  line_append (decimal n) (93 ∷ brackets ns) (decimal_line n)
      ((omega arith, λ e. omega (arith, e)), brackets_line ns),
)

pub own_line : (k : ℕ) → IsLineText (own_name k)
own_line k =
    line_append (codes "@") (decimal k) ((omega arith, λ e. omega (arith, e)), tt) (decimal_line k)

pub dot_line : IsLineText (codes ".")
dot_line = ((omega arith, λ e. omega (arith, e)), tt)

pub main_line : IsLineText (codes "main")
main_line = (
  (omega arith, λ e. omega (arith, e)),
  (
    (omega arith, λ e. omega (arith, e)),
    ((omega arith, λ e. omega (arith, e)), ((omega arith, λ e. omega (arith, e)), tt)),
  ),
)
