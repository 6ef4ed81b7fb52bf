use Rattle.std.proofs.Common.{◌≡◌, ℕ, ◌<◌, List, [], ◌∷◌, length, false, sym, ◌∙◌, arith}
use Rattle.std.specs.Prelude.{◌==◌}
use Rattle.std.proofs.lemmas.List.{take_all}
use Rattle.std.proofs.Math.Seq.{drop-length}
use Rattle.text_lines.proofs.Pieces.{first_found, only_found}
use Rattle.text_lines.proofs.lines.first_line.Goals as goal

pub returns-then-is_some-clause-lines : goal.returns-then-is_some-clause-lines
returns-then-is_some-clause-lines c =
    first_found (λ r. r.0.now) (λ r. r.1.now) c.args.text.now c.split_once-found.result
    c.split_once-found.ensures.split (sym c.is_some.ensures ∙ c.if-is_some.true)

pub returns-clause-lines : goal.returns-clause-lines
returns-clause-lines c =
    only_found (λ r. r.0.now) (λ r. r.1.now) c.args.text.now c.split_at.result.0.now
    c.split_at.result.1.now c.split_once-found.result c.split_once-found.ensures.split
    (sym c.is_some.ensures ∙ c.if-is_some.false)
    (some c.args.text.now (sym c.if-is_empty.ensures))
    (c.split_at.ensures.front ∙ take_all (length c.args.text.now) c.args.text.now (omega arith))
    (c.split_at.ensures.back ∙ drop-length c.args.text.now)
  where
    some : (text : List ℕ) → (length text == 0) ≡ false → 0 < length text
    some [] h = cc
    some (x ∷ xs) h = omega arith
