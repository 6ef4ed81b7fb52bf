-- What an insertion does to the contents that the map stands for.
use Rattle.std.proofs.Common.{ℕ, List, Some, Vec, String, string_bytes, refl, ap, cond, sym, ◌∙◌}
use Rattle.std.specs.declared.alloc.Global.{Global}
use Rattle.std.specs.BTreeMap.{BTreeMap, UpdatesBy, get_by_text}
use Rattle.std.specs.Cmp.Lexicographic.{slice_cmp}
use Rattle.std.specs.Ordering.{nat_cmp}
use Rattle.std.specs.String.{string_cmp}
use Rattle.std.specs.Str.{bytes_eq}
use Rattle.std.proofs.lemmas.Map.Text.{btree_map_updates_text}
use Rattle.std.proofs.lemmas.Slice.Eq.{bytes_eq-Decides}
use Rattle.std.proofs.lemmas.Bool.{false_from_ne_true}
use Rattle.out_io.specs.Contents.{Replaces, bytes_of}
use Rattle.out_io.specs.Memory.{files_of}

pub replaces : (name : List ℕ) (old new : BTreeMap (String Global) (Vec ℕ Global))
    (bytes : Vec ℕ Global)
    → UpdatesBy string_cmp (λ k. slice_cmp nat_cmp name (string_bytes k)) old new (Some bytes)
    → Replaces name bytes.items (files_of old) (files_of new)
replaces name old new bytes updates =
    let after = btree_map_updates_text name old new (Some bytes) updates in
    record {
      here = ap bytes_of (after name)
          ∙ ap (λ b. bytes_of (cond b (Some bytes) (get_by_text old name)))
          ((bytes_eq-Decides name name).1 refl);
      others = λ other differs.
          ap bytes_of (after other)
          ∙ ap (λ b. bytes_of (cond b (Some bytes) (get_by_text old other)))
          (false_from_ne_true (bytes_eq name other)
          (λ same. differs (sym ((bytes_eq-Decides name other).0 same))));
    }
