-- The one spelling of a file that is written.
use Rattle.std.specs.Prelude.{ℕ, List, ◌++◌, length, codes}
use Rattle.std.specs.List.{flat_map}
use Rattle.std.specs.Int.{w32, w64, to_le_bytes}
use Rattle.gold_field.specs.declared.form.Term.{Term}
use Rattle.gold_field.specs.declared.form.Constraint.{Constraint}
use Rattle.gold_field.specs.declared.gold.TheConstants.{P}
use Rattle.iden_files.specs.File.{File}

-- the four bytes of the format, its version, how many sections
abbrev pub header_bytes : List ℕ → ℕ → ℕ → List ℕ
header_bytes magic version sections = magic ++ (to_le_bytes w32 version ++ to_le_bytes w32 sections)

-- the type of a section, and the size of its body
abbrev pub section_head : ℕ → ℕ → List ℕ
section_head kind size = to_le_bytes w32 kind ++ to_le_bytes w64 size

abbrev pub section_bytes : ℕ → List ℕ → List ℕ
section_bytes kind body = section_head kind (length body) ++ body

abbrev pub term_bytes : Term → List ℕ
term_bytes t = to_le_bytes w32 t.signal ++ to_le_bytes w64 t.coef

-- how many terms, and the terms
abbrev pub form_bytes : List Term → List ℕ
form_bytes terms = to_le_bytes w32 (length terms) ++ flat_map term_bytes terms

abbrev pub constraint_bytes : Constraint → List ℕ
constraint_bytes k = form_bytes k.a ++ (form_bytes k.b ++ form_bytes k.c)

-- the width of the field's numbers in bytes, and its order
abbrev pub field_bytes : List ℕ
field_bytes = to_le_bytes w32 8 ++ to_le_bytes w64 P

abbrev pub sizes_bytes : File → List ℕ
sizes_bytes f =
    field_bytes
    ++ (to_le_bytes w32 f.wires
    ++ (to_le_bytes w32 f.outputs
    ++ (to_le_bytes w32 f.public_inputs
    ++ (to_le_bytes w32 f.private_inputs
    ++ (to_le_bytes w64 f.label_count ++ to_le_bytes w32 (length f.constraints))))))

-- sections 1, 2 and 3
unfoldable pub r1cs_bytes : File → List ℕ
r1cs_bytes f =
    header_bytes (codes "r1cs") 1 3
    ++ (section_bytes 1 (sizes_bytes f)
    ++ (section_bytes 2 (flat_map constraint_bytes f.constraints)
    ++ section_bytes 3 (flat_map (to_le_bytes w64) f.labels)))

-- sections 1 and 2
unfoldable pub wtns_bytes : List ℕ → List ℕ
wtns_bytes values =
    header_bytes (codes "wtns") 2 2
    ++ (section_bytes 1 (field_bytes ++ to_le_bytes w32 (length values))
    ++ section_bytes 2 (flat_map (to_le_bytes w64) values))
