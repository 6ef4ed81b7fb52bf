use Rattle.std.proofs.Common.{◌∙◌, sym, ap, map}
use Rattle.cir_resolve.specs.Definitions.{bare_definition}
use Rattle.cir_checks.specs.Checks.{first_fault}
use Rattle.cir_names.specs.Programs.{name_fault}
use Rattle.cir_names.proofs.Answering.{loads, refused}
use Rattle.cir_names.proofs.loading.program.Goals as goal

pub returns-in-Ok-checks : goal.returns-in-Ok-checks
returns-in-Ok-checks c =
    let both = loads c.args.sources.items c.in_ok-gathered.gathered.files
    (map bare_definition c.in_ok-gathered.gathered.definitions.items)
    (map bare_definition c.in-Ok.definitions.items) _
    record { names = c.in_ok-gathered.ensures.files; all = c.in_ok-gathered.ensures.definitions }
    c.in-Ok.ensures
    (ap (λ ds. first_fault (map bare_definition ds)) (sym c.as_slice.ensures.value)
    ∙ c.in-Ok-checks.ensures) c.in_ok-program-in-Ok-checks.ensures c.requires in
    record { program = both.0; checked = both.1 }

pub returns-in-Err-At-clause-program : goal.returns-in-Err-At-clause-program
returns-in-Err-At-clause-program c =
    refused c.args.sources.items c.in_ok-gathered.gathered.files
    (map bare_definition c.in_ok-gathered.gathered.definitions.items) c.in-Err-At.found _
    record { names = c.in_ok-gathered.ensures.files; all = c.in_ok-gathered.ensures.definitions }
    (ap name_fault c.in-Ok.ensures
    ∙ ap (λ ds. first_fault (map bare_definition ds)) (sym c.as_slice.ensures.value)
    ∙ rw c.in-Err-At.field-0-is at c.in-Err-At.ensures)
    (rw (c.in-Err-At.found-is, c.as_slice-in-Err-At.ensures) at c.refused.ensures)

pub returns-in-Err-Twice-clause-program : goal.returns-in-Err-Twice-clause-program
returns-in-Err-Twice-clause-program c =
    refused c.args.sources.items c.in_ok-gathered.gathered.files
    (map bare_definition c.in_ok-gathered.gathered.definitions.items) _ _
    record { names = c.in_ok-gathered.ensures.files; all = c.in_ok-gathered.ensures.definitions }
    (ap name_fault (rw c.in-Err-Twice.field-0-is at c.in-Err-Twice.ensures))
    (rw (c.in-Err-Twice.place-is, c.as_slice-in-Err-Twice.ensures)
    at c.refused-in-Err-Twice.ensures)
