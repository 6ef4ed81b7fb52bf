use Rattle.std.proofs.Common.{◌≡◌, ℕ, ◌+◌, ◌*◌, ◌++◌, length, subst, arith}
use Rattle.std.specs.List.{flat_map}
use Rattle.std.proofs.lemmas.Result.{on_ok_weaker}
use Rattle.iden_files.specs.Spelling.{section_head, constraint_bytes}
use Rattle.iden_files.proofs.Append.{appended, constraints_len}
use Rattle.iden_files.proofs.write.put_constraint_section.Goals as goal

pub returns-clause-bytes : goal.returns-clause-bytes
returns-clause-bytes c =
    let ks = c.args.constraints.now in
    let body = flat_map constraint_bytes ks in
    let size : 4 * (3 * length ks) + 12 * c.term_total.result ≡ length body =
    omega (arith, constraints_len ks, c.term_total.ensures) in
    let Head : ℕ → Type 0 =
    λ n. c.put_section_head.new.out.items ≡ c.args.out.now.items ++ section_head 2 n in
    let head = subst Head size c.in_ok-put_section_head.ensures in
    on_ok_weaker c.put_constraints.result
    (λ e. appended c.args.out.now.items (section_head 2 (length body)) body
    c.put_section_head.new.out.items c.put_constraints.new.out.items head e)
    c.put_constraints.ensures.bytes
