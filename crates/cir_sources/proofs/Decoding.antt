-- From bytes to a source.
use Rattle.std.proofs.Common.{◌≡◌, ℕ, ◌+◌, ◌≤◌, List, [], ◌∷◌, length, ap, subst, sym, arith, Ok}
use Rattle.std.proofs.lemmas.List.{length-append}
use Rattle.cir_lexer.specs.Reading.{IsReading, IsCut, Piece, Gap, Spelled, tokens_of}
use Rattle.cir_lexer.proofs.Spelled.{spelled_first}
use Rattle.cir_sources.specs.declared.fault.LoadFault.TheVariants as fault
use Rattle.cir_sources.specs.Places.{Token}
use Rattle.cir_sources.specs.Faults.{Refusal}
use Rattle.cir_sources.specs.Loading.{LoadFault}
use Rattle.cir_sources.specs.Steps.{Refuses}

cut_count : (at : ℕ) (text : List ℕ) (pieces : List Piece) (rest : List ℕ) → IsCut text pieces rest
    → length (tokens_of at pieces) + length rest ≤ length text
cut_count at text [] rest c = omega (arith, ap length c)
cut_count at text (Gap n ∷ pieces) rest c =
    omega (arith, c.1.1, cut_count (at + n) c.0 pieces rest c.2)
cut_count at text (Spelled n kind ∷ pieces) rest c =
    omega (
      arith,
      (spelled_first c.1.0 kind c.1.1.spelled).1,
      ap length c.1.1.begins,
      length-append c.1.0 c.0,
      cut_count (at + n) c.0 pieces rest c.2,
    )

-- a source has no more tokens than bytes
pub token_count : (bytes : List ℕ) (tokens : List Token) → IsReading bytes (Ok tokens)
    → length tokens ≤ length bytes
token_count bytes tokens r = omega (arith, ap length r.2, cut_count 0 bytes r.0 [] r.1)

-- a refusal that is one of another kind too
pub refuses_on : (P Q : Refusal → Type 0) (e : LoadFault) → ((r : Refusal) → P r → Q r)
    → Refuses P e → Refuses Q e
refuses_on P Q (fault.Refused r) on h = on r h
refuses_on P Q fault.OutOfMemory on h = h
refuses_on P Q _ on h = h

-- the refusal of this cause
pub refuses_by : (P : Refusal → Type 0) (r : Refusal) (e : LoadFault) → P r
    → Refuses (λ q. q ≡ r) e → Refuses P e
refuses_by P r e p = refuses_on (λ q. q ≡ r) P e (λ q same. subst P (sym same) p)
