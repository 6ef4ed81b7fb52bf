use Rattle.std.proofs.Common.{◌≡◌, ℕ, ◌<◌, ◌^◌, List, ◌++◌, All, ap, ◌∙◌, subst}
use Rattle.std.specs.List.{flat_map}
use Rattle.std.specs.Int.{w64, to_le_bytes}
use Rattle.gold_field.specs.declared.form.Constraint.{Constraint}
use Rattle.iden_files.specs.File.{File, IsFile, IsWhole, HasForms}
use Rattle.iden_files.specs.ReadR1cs.{r1cs_of}
use Rattle.iden_files.proofs.ReadAgain.{file_again}
use Rattle.iden_files.specs.Spelling.{section_bytes, constraint_bytes}
use Rattle.iden_files.proofs.Append.{file_put}
use Rattle.iden_files.proofs.write.write_r1cs.Goals as goal

pub returns-clause-bytes : goal.returns-clause-bytes
returns-clause-bytes c =
    let ks : c.as_slice.result.now ≡ c.args.file.now.constraints =
    c.as_slice.ensures ∙ ap (λ (f : File). f.constraints) c.file.view_is in
    let ls : c.as_slice-2.result.now ≡ c.args.file.now.labels =
    c.as_slice-2.ensures ∙ ap (λ (f : File). f.labels) c.file.view_is in
    let Second : List Constraint → Type 0 = λ xs. c.put_constraint_section.new.out.items
    ≡ c.put_sizes.new.out.items ++ section_bytes 2 (flat_map constraint_bytes xs) in
    let Third : List ℕ → Type 0 = λ xs. c.put_label_section.new.out.items
    ≡ c.put_constraint_section.new.out.items ++ section_bytes 3 (flat_map (to_le_bytes w64) xs) in
    file_put c.args.file.now c.new-out.result.items c.put_header.new.out.items
    c.put_sizes.new.out.items c.put_constraint_section.new.out.items
    c.put_label_section.new.out.items c.new-out.ensures.items c.in_ok-put_header.ensures
    c.in_ok-put_sizes.ensures.bytes
    (subst Second ks c.in_ok-put_constraint_section.ensures.bytes)
    (subst Third ls c.in_ok-put_label_section.ensures.bytes)

pub returns-clause-read_back : goal.returns-clause-read_back
returns-clause-read_back c =
    let ks : c.as_slice.result.now ≡ c.args.file.now.constraints =
    c.as_slice.ensures ∙ ap (λ (f : File). f.constraints) c.file.view_is in
    let ls : c.as_slice-2.result.now ≡ c.args.file.now.labels =
    c.as_slice-2.ensures ∙ ap (λ (f : File). f.labels) c.file.view_is in
    let Labels : List ℕ → Type 0 = λ xs. All (λ n. n < 2 ^ 64) xs in
    let Forms : List Constraint → Type 0 = λ xs. All HasForms xs in
    let whole : IsWhole c.args.file.now = record {
      file = subst IsFile c.file.view_is c.file.invariant;
      label_count = c.in_ok-put_sizes.ensures.fits;
      labels = subst Labels ls c.in_ok-put_label_section.ensures.fits;
      forms = subst Forms ks c.in_ok-put_constraint_section.ensures.forms;
    } in
    ap r1cs_of (returns-clause-bytes c)
    ∙ file_again c.args.file.now whole
    (record {
      wires = c.requires.wires;
      constraints = c.requires.constraints;
      terms = c.requires.terms;
    })
