use Rattle.std.proofs.Common.{◌≡◌, ◌∙◌, ◌++◌, [], ◌∷◌, subst, map, length, drop, ap, sym, arith}
use Rattle.std.proofs.Math.Seq.{drop-append_seam}
use Rattle.std.proofs.lemmas.List.{length-append, length-map}
use Rattle.cir_ast.specs.Program.{bare_program}
use Rattle.cir_rules.specs.Shown.{made_of}
use Rattle.wit_procs.specs.Promised.{Refuses}
use Rattle.wit_procs.specs.Table.{Grows}
use Rattle.wit_procs.proofs.KeyLists.{one_new}
use Rattle.wit_procs.proofs.Tables.{err_is}
use Rattle.wit_procs.proofs.procs.Procs.add.Goals as goal

pub fill-requires : goal.fill-requires
fill-requires c =
    let old = c.args.self.now.keys.calls.items in
    let more =
    c.in_ok-add.ensures ∙ one_new (map made_of old) (made_of c.args.key) c.requires.new in
    omega (
      arith,
      ap length more,
      length-append (map made_of old) (made_of c.args.key ∷ []),
      length-map old made_of,
      length-map c.add.new.self.calls.items made_of,
      c.requires.whole.count,
    )

pub returns-clause-whole : goal.returns-clause-whole
returns-clause-whole c =
    let old = c.args.self.now.keys.calls.items in
    c.in_ok-fill.ensures.whole record {
      runnable = c.requires.runnable;
      before = map made_of old;
      later = made_of c.args.key ∷ [];
      is = c.in_ok-add.ensures ∙ one_new (map made_of old) (made_of c.args.key) c.requires.new;
      count = c.requires.whole.count ∙ sym (length-map old made_of);
      table = c.requires.whole.table;
    }

pub returns-clause-grows : goal.returns-clause-grows
returns-clause-grows c =
    let old = c.args.self.now.keys.calls.items in
    subst (λ ks. Grows ks (map made_of c.fill.new.self.keys.calls.items))
    (c.in_ok-add.ensures ∙ one_new (map made_of old) (made_of c.args.key) c.requires.new)
    c.in_ok-fill.ensures.grows

pub returns-in_err-fill-clause-refused : goal.returns-in_err-fill-clause-refused
returns-in_err-fill-clause-refused c =
    let old = c.args.self.now.keys.calls.items in
    let count = c.requires.whole.count ∙ sym (length-map old made_of) in
    err_is c.from_residual-in_err-fill.result c.in_err-fill.field-0.0
    (Refuses (bare_program c.args.self.now.program.now) (made_of c.args.key ∷ []))
    c.from_residual-in_err-fill.ensures.1
    (subst (λ ks. Refuses (bare_program c.args.self.now.program.now) ks c.in_err-fill.field-0.0)
    (ap (drop (length c.args.self.now.procs.items))
    (c.in_ok-add.ensures ∙ one_new (map made_of old) (made_of c.args.key) c.requires.new)
    ∙ ap (λ n. drop n (map made_of old ++ made_of c.args.key ∷ [])) count
    ∙ drop-append_seam (map made_of old) (made_of c.args.key ∷ []))
    c.in_err-fill.ensures.refused)
