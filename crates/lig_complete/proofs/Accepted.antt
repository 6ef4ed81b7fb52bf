-- What is made of values that satisfy the file is accepted: its vectors solve the system and are
-- products.
use Rattle.std.proofs.Common.{ℕ, ◌<◌, List, length, map, slice_index, refl, lit<}
use Rattle.std.proofs.lemmas.Nat.{mod_below}
use Rattle.std.proofs.lemmas.List.{length-map}
use Rattle.std.proofs.lemmas.List.Elements.{All-map}
use Rattle.gold_field.specs.declared.gold.TheConstants.{P}
use Rattle.gold_field.specs.declared.form.Constraint.{Constraint}
use Rattle.gold_field.specs.Form.{value_at}
use Rattle.iden_files.specs.File.{File}
use Rattle.lig_layout.specs.declared.side.Side.{Side}
use Rattle.lig_layout.specs.declared.side.Side.TheVariants.{A, B, C}
use Rattle.lig_layout.specs.Sides.{form_of}
use Rattle.lig_layout.specs.Layout.{vectors_of}
use Rattle.lig_layout.specs.Laws.{publics_of}
use Rattle.lig_layout.specs.Solutions.{IsWitness, AreNumbers, AreVectors}
use Rattle.lig_layout.proofs.Exact.{system_is_file}
use Rattle.lig_proof.specs.declared.verdict.Verdict.TheVariants.{Accepted}
use Rattle.lig_proof.proofs.VerdictOnce.{verdicts_are_one}
use Rattle.lig_complete.specs.Completeness.{MadeProofsAreAccepted, NoneIsRefused}
use Rattle.lig_complete.proofs.Sizes.{sizes_fit}
use Rattle.lig_complete.proofs.Made.{any_vectors_have_verdicts, products_pass, system_passes}

side_numbers : (w : List ℕ) (side : Side) (ks : List Constraint)
    → AreNumbers (length ks) (map (λ k. value_at (slice_index w) (form_of side k)) ks)
side_numbers w side ks =
    let value = λ (k : Constraint). value_at (slice_index w) (form_of side k) in
    record {
      count = length-map ks value;
      each = All-map (λ n. n < P) value ks (λ k d inside. mod_below _ P (lit< tt));
    }

are_vectors : (f : File) (w : List ℕ) → IsWitness f w → AreVectors f (vectors_of f w)
are_vectors f w witness = record {
  w = record { count = witness.count; each = witness.numbers };
  x = side_numbers w A f.constraints;
  y = side_numbers w B f.constraints;
  z = side_numbers w C f.constraints;
}

pub accepted : MadeProofsAreAccepted
accepted version r1cs_bytes f w seed bytes file limits witness made =
    let v = vectors_of f w in
    let are = are_vectors f w witness in
    let solution = (system_is_file f (publics_of f w) v file limits are).1 (witness, refl, refl) in
    (any_vectors_have_verdicts version r1cs_bytes f v seed bytes Accepted file limits are made).1
    (system_passes f v made.challenges solution.0, products_pass f v made.challenges solution.1)

pub none_is_refused : NoneIsRefused
none_is_refused version r1cs_bytes f w seed bytes verdict file limits witness made is =
    verdicts_are_one r1cs_bytes f (publics_of f w) bytes verdict Accepted (sizes_fit f limits) is
    (accepted version r1cs_bytes f w seed bytes file limits witness made)
