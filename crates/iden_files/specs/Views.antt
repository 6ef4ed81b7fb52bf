-- What the code's types stand for.
use Rattle.std.specs.Prelude.{List, map}
use Rattle.iden_files.specs.declared.sections.FoundSection.{FoundSection}
use Rattle.gold_field.specs.declared.form.Constraint.{Constraint}
use Rattle.iden_files.specs.declared.constraints.Written.{Written}
use Rattle.iden_files.specs.Sections.{Section}

abbrev pub section : FoundSection → Section
section s = record { kind = s.kind; end = s.body.end; body = s.body.rest.now }

abbrev pub sections : List FoundSection → List Section
sections ss = map section ss

abbrev pub written : Written → Constraint
written w = record { a = w.a.items; b = w.b.items; c = w.c.items }
