-- Elements of a variable that stand in a row.
use Rattle.std.specs.Prelude.{◌==◌, ◌&&◌, ◌+◌, Bool, false, nat_le, nat_lt, Option, Some, None}
use Rattle.wit_lower.specs.Tasks.{Element}
use Rattle.wit_sources.specs.declared.kept.Run.{Run}

abbrev pub in_run : Option Run → Element → Bool
in_run None t = false
in_run (Some r) t =
    (r.variable == t.variable)
    && (nat_le r.first t.element && nat_lt t.element (r.first + r.count))
