use Rattle.std.proofs.Common.{ap, ◌∙◌, ◌∷◌, [], map, refl, string_bytes}
use Rattle.std.proofs.lemmas.List.{map-append, reverse-append, reverse-reverse}
use Rattle.std.proofs.lemmas.Map.Text.{btree_set_updates_text}
use Rattle.cir_sources.specs.Includes.{seen}
use Rattle.cir_sources.proofs.loading.Loading.add.Goals as goal

pub returns : goal.returns
returns c = record {
  sources = ap (map seen) c.in_ok-push.ensures.items
      ∙ map-append seen c.args.self.now.sources.items (c.args.source ∷ []);
  left = rw (c.in_ok-append.ensures.items, c.reverse.ensures.items)
      (rw (reverse-append, reverse-reverse, c.in_ok-sites.ensures));
  names = rw c.requires at (btree_set_updates_text (string_bytes c.args.name)
      c.args.self.now.names c.insert.new.self _ c.in_ok-insert.ensures.updates);
  missing = refl;
}
