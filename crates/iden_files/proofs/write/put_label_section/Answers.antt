use Rattle.std.proofs.Common.{◌≡◌, ℕ, ◌++◌, length, sym, subst}
use Rattle.std.specs.List.{flat_map}
use Rattle.std.specs.Int.{w64, to_le_bytes}
use Rattle.std.proofs.lemmas.Result.{on_ok_weaker}
use Rattle.iden_files.specs.Spelling.{section_head}
use Rattle.iden_files.proofs.Append.{appended, words_len}
use Rattle.iden_files.proofs.write.put_label_section.Goals as goal

pub returns-clause-bytes : goal.returns-clause-bytes
returns-clause-bytes c =
    let body = flat_map (to_le_bytes w64) c.args.labels.now in
    let Head : ℕ → Type 0 =
    λ n. c.put_section_head.new.out.items ≡ c.args.out.now.items ++ section_head 3 n in
    let head = subst Head (sym (words_len c.args.labels.now)) c.in_ok-put_section_head.ensures in
    on_ok_weaker c.put_labels.result
    (λ e. appended c.args.out.now.items (section_head 3 (length body)) body
    c.put_section_head.new.out.items c.put_labels.new.out.items head e) c.put_labels.ensures
