use Rattle.std.proofs.Common.{◌≡◌, ◌++◌, subst}
use Rattle.std.specs.Prelude.{OnOk}
use Rattle.std.proofs.lemmas.Result.{on_ok_weaker}
use Rattle.iden_files.specs.File.{File}
use Rattle.iden_files.specs.Spelling.{section_bytes, sizes_bytes}
use Rattle.iden_files.proofs.Append.{sizes_put}
use Rattle.iden_files.proofs.write.put_sizes.Goals as goal

pub returns-clause-bytes : goal.returns-clause-bytes
returns-clause-bytes c =
    let i = c.file.inside in
    let f : File =
    record {
      wires = i.wires;
      outputs = i.outputs;
      public_inputs = i.public_inputs;
      private_inputs = i.private_inputs;
      label_count = i.label_count;
      labels = i.labels;
      constraints = i.constraints;
    } in
    let last = rw c.len.ensures at c.put_u32-5.ensures in
    let put =
    on_ok_weaker c.put_u32-5.result
    (λ e. sizes_put f c.args.out.now.items c.put_section_head.new.out.items
    c.put_field.new.out.items c.put_u32.new.out.items c.put_u32-2.new.out.items
    c.put_u32-3.new.out.items c.put_u32-4.new.out.items c.put_u64.new.out.items
    c.put_u32-5.new.out.items c.in_ok-put_section_head.ensures c.in_ok-put_field.ensures
    c.in_ok-put_u32.ensures c.in_ok-put_u32-2.ensures c.in_ok-put_u32-3.ensures
    c.in_ok-put_u32-4.ensures c.in_ok-put_u64.ensures e) last in
    let Q : File
    → Type 0 =
    λ g. OnOk c.put_u32-5.result (c.put_u32-5.new.out.items ≡ c.args.out.now.items
    ++ section_bytes 1 (sizes_bytes g)) in
    subst Q c.file.view_is put
